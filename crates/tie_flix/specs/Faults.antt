-- Why a bundle has no spelling. The faults stand in an order: each says that those before it don't hold, and names its first slot.
use Rattle.std.specs.Prelude.{◌≡◌, ℕ, ◌+◌, ◌<◌, ◌≢◌, Bool, false, List, [], ◌∷◌, length, take, Option, Some, None, Result, Ok, Err, slice_get, IsTrue}
use Rattle.arrayvec.specs.ArrayVec.{ArrayVec}
use Rattle.xt_isa.specs.Table.{Fits}
use Rattle.tie_desc.specs.Description.{Description}
use Rattle.tie_desc.specs.Spelling.{spell, part_fits, is_listed, writes_differ, wide_bytes, HasSpelling, HasWide, IsOp}
use Rattle.tie_desc.specs.declared.formats.SlotDecl.{SlotDecl}
use Rattle.tie_desc.specs.declared.formats.FormatDecl.{FormatDecl}
use Rattle.tie_desc.specs.declared.bundle.Part.{Part}
use Rattle.tie_desc.specs.declared.bundle.Bundle.{Bundle}
use Rattle.tie_desc.specs.declared.bundle.Bundle.TheVariants as bundle
use Rattle.tie_flix.specs.declared.fault.BundleFault.{BundleFault}
use Rattle.tie_flix.specs.declared.fault.BundleFault.TheVariants as fault

-- a test of a slot and the part in it
abbrev pub Test : Type 0
Test = SlotDecl → Part → Bool

-- the slots before number n pass
abbrev pub PassBefore : Test → List SlotDecl → List Part → ℕ → Type 0
PassBefore test ss ps n = (k : ℕ) (s : SlotDecl) (p : Part) → k < n → slice_get ss k ≡ Some s → slice_get ps k ≡ Some p → IsTrue (test s p)

abbrev pub AllPass : Test → List SlotDecl → List Part → Type 0
AllPass test ss ps = PassBefore test ss ps (length ss)

-- the first slot whose part doesn't pass
pub record FirstFails (test : Test) (ss : List SlotDecl) (ps : List Part) (i : ℕ) : Type 0 where
  pub slot : SlotDecl
  pub part : Part
  pub slot_is : slice_get ss i ≡ Some slot
  pub part_is : slice_get ps i ≡ Some part
  pub fails : test slot part ≡ false
  pub before : PassBefore test ss ps i

-- the first slot that writes a register again
pub record FirstRepeats (d : Description) (ps : List Part) (i : ℕ) : Type 0 where
  pub within : i < length ps
  pub fails : writes_differ d (take (i + 1) ps) ≡ false
  pub before : (k : ℕ) → k < i → IsTrue (writes_differ d (take (k + 1) ps))

-- the fields of the part fit its code
abbrev pub fits_in : Description → Test
fits_in d s p = part_fits d p

abbrev pub IsWideFault : Description → Option FormatDecl → List Part → BundleFault → Type 0
IsWideFault d None ps e = ⊥
IsWideFault d (Some f) ps fault.SlotCount = length ps ≢ length f.slots
IsWideFault d (Some f) ps (fault.NotListed i) = (length ps ≡ length f.slots) × FirstFails is_listed f.slots ps i
IsWideFault d (Some f) ps (fault.Field i) = (length ps ≡ length f.slots) × AllPass is_listed f.slots ps × FirstFails (fits_in d) f.slots ps i
IsWideFault d (Some f) ps (fault.SameDest i) =
    (length ps ≡ length f.slots) × AllPass is_listed f.slots ps × AllPass (fits_in d) f.slots ps × FirstRepeats d ps i

-- outside formats the slot is 0
abbrev pub IsFault : Description → Bundle → BundleFault → Type 0
IsFault d (bundle.Core i) (fault.Field s) = (s ≡ 0) × ¬ Fits i
IsFault d (bundle.Core i) _ = ⊥
IsFault d (bundle.One p) (fault.Field s) = (s ≡ 0) × (part_fits d p ≡ false)
IsFault d (bundle.One p) (fault.SameDest s) = (s ≡ 0) × IsTrue (part_fits d p) × (writes_differ d (p ∷ []) ≡ false)
IsFault d (bundle.One p) _ = ⊥
IsFault d (bundle.Wide f ps) e = IsWideFault d (slice_get d.formats f) ps.items e

-- the bytes of the bundle, or its first fault
abbrev pub Encodes : Description → Bundle → Result (List ℕ) BundleFault → Type 0
Encodes d b (Ok bytes) = HasSpelling d b × (bytes ≡ spell d b)
Encodes d b (Err e) = IsFault d b e

abbrev pub EncodesWide : Description → FormatDecl → List Part → Result (List ℕ) BundleFault → Type 0
EncodesWide d f ps (Ok bytes) = HasWide d (Some f) ps × (bytes ≡ wide_bytes d (Some f) ps)
EncodesWide d f ps (Err e) = IsWideFault d (Some f) ps e

abbrev pub items_of : Result (ArrayVec ℕ) BundleFault → Result (List ℕ) BundleFault
items_of (Ok v) = Ok v.items
items_of (Err e) = Err e

-- the description has the bundle's numbers, and what stands alone is an operation
abbrev pub IsKnown : Description → Bundle → Type 0
IsKnown d (bundle.Core i) = Unit {0}
IsKnown d (bundle.One p) = IsOp d p.code
IsKnown d (bundle.Wide f ps) = f < length d.formats
