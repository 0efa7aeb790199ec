-- A bundle that has a spelling has no fault.
use Rattle.std.proofs.Common.{◌≡◌, ℕ, zero, suc, ◌+◌, Bool, true, false, not, List, [], ◌∷◌, ◌++◌, length, take, drop, refl, sym, ap, Option, Some, None, ◌∙◌}
use Rattle.std.specs.Prelude.{◌&&◌, ◌||◌, slice_get}
use Rattle.std.specs.List.{list_any, flat_map}
use Rattle.std.proofs.lemmas.Grind.{flat_map-append}
use Rattle.std.proofs.lemmas.List.{take-append-drop}
use Rattle.tie_desc.specs.Names.{all_differ}
use Rattle.tie_desc.specs.Description.{Description}
use Rattle.tie_desc.specs.Spots.{same_spot, written_registers}
use Rattle.tie_desc.specs.Spelling.{HasSpelling, HasWide, is_listed, part_fits, slots_fit, writes_differ}
use Rattle.tie_desc.specs.declared.formats.SlotDecl.{SlotDecl}
use Rattle.tie_desc.specs.declared.formats.FormatDecl.{FormatDecl}
use Rattle.tie_desc.specs.declared.bundle.Part.{Part}
use Rattle.tie_desc.specs.declared.bundle.Spot.{Spot}
use Rattle.tie_desc.specs.declared.bundle.Bundle.{Bundle}
use Rattle.tie_desc.specs.declared.bundle.Bundle.TheVariants as bundle
use Rattle.tie_flix.specs.declared.fault.BundleFault.{BundleFault}
use Rattle.tie_flix.specs.declared.fault.BundleFault.TheVariants as fault
use Rattle.tie_flix.specs.Faults.{IsFault, IsWideFault}
use Rattle.xt_asm.proofs.Fine.{both, join}

not_both : (b : Bool) → b ≡ true → b ≡ false → ⊥
not_both true h k = no k
  where
    no : true ≡ false → ⊥
    no h = cc
not_both false h k = no h
  where
    no : false ≡ true → ⊥
    no h = cc

-- ---- slots

pub same_count : (d : Description) (ss : List SlotDecl) (ps : List Part) → slots_fit d ss ps ≡ true → length ps ≡ length ss
same_count d [] [] h = refl
same_count d [] (p ∷ ps) h = absurd cc
same_count d (s ∷ ss) [] h = absurd cc
same_count d (s ∷ ss) (p ∷ ps) h = ap suc (same_count d ss ps (both (is_listed s p && part_fits d p) (slots_fit d ss ps) h).1)

slot_passes : (d : Description) (ss : List SlotDecl) (ps : List Part) (i : ℕ) (s : SlotDecl) (p : Part) → slots_fit d ss ps ≡ true → slice_get ss i ≡ Some s → slice_get ps i ≡ Some p
    → (is_listed s p ≡ true) × (part_fits d p ≡ true)
slot_passes d [] ps i s p h e f = absurd cc
slot_passes d (t ∷ ss) [] i s p h e f = absurd cc
slot_passes d (t ∷ ss) (q ∷ ps) zero s p h e f =
    let k = both (is_listed t q) (part_fits d q) (both (is_listed t q && part_fits d q) (slots_fit d ss ps) h).0 in
    let a : t ≡ s = cc in
    let b : q ≡ p = cc in
    (ap (λ z. is_listed z p) (sym a) ∙ ap (is_listed t) (sym b) ∙ k.0, ap (part_fits d) (sym b) ∙ k.1)
slot_passes d (t ∷ ss) (q ∷ ps) (suc i) s p h e f = slot_passes d ss ps i s p (both (is_listed t q && part_fits d q) (slots_fit d ss ps) h).1 e f

-- ---- registers

none_left : (a b : Bool) → (a || b) ≡ false → a ≡ false
none_left true b h = h
none_left false b h = refl

any_front : (p : Spot → Bool) (xs ys : List Spot) → list_any p (xs ++ ys) ≡ false → list_any p xs ≡ false
any_front p [] ys h = refl
any_front p (x ∷ xs) ys h = by (p x) h (λ k. any_front p xs ys k)
  where
    by : (b : Bool) → (b || list_any p (xs ++ ys)) ≡ false → (list_any p (xs ++ ys) ≡ false → list_any p xs ≡ false) → (b || list_any p xs) ≡ false
    by true k again = k
    by false k again = again k

none_of : (b : Bool) → not b ≡ true → b ≡ false
none_of true h = absurd cc
none_of false h = refl

differ_front : (xs ys : List Spot) → all_differ same_spot (xs ++ ys) ≡ true → all_differ same_spot xs ≡ true
differ_front [] ys h = refl
differ_front (x ∷ xs) ys h =
    let k = both (not (list_any (same_spot x) (xs ++ ys))) (all_differ same_spot (xs ++ ys)) h in
    join (not (list_any (same_spot x) xs)) (all_differ same_spot xs) (ap not (any_front (same_spot x) xs ys (none_of (list_any (same_spot x) (xs ++ ys)) k.0))) (differ_front xs ys k.1)

front_differs : (d : Description) (ps : List Part) (n : ℕ) → writes_differ d ps ≡ true → writes_differ d (take n ps) ≡ true
front_differs d ps n h =
    let cut : take n ps ++ drop n ps ≡ ps = take-append-drop n ps in
    let e : flat_map (written_registers d) (take n ps) ++ flat_map (written_registers d) (drop n ps) ≡ flat_map (written_registers d) ps =
    sym (flat_map-append (written_registers d) (take n ps) (drop n ps)) ∙ ap (flat_map (written_registers d)) cut in
    differ_front (flat_map (written_registers d) (take n ps)) (flat_map (written_registers d) (drop n ps)) (ap (all_differ same_spot) e ∙ h)

-- ---- bundles

wide_faultless : (d : Description) (f : Option FormatDecl) (ps : List Part) (e : BundleFault) → HasWide d f ps → IsWideFault d f ps e → ⊥
wide_faultless d None ps e h k = h
wide_faultless d (Some f) ps fault.SlotCount h k = k (same_count d f.slots ps h.0)
wide_faultless d (Some f) ps (fault.NotListed i) h k = let p = slot_passes d f.slots ps i k.1.slot k.1.part h.0 k.1.slot_is k.1.part_is in not_both _ p.0 k.1.fails
wide_faultless d (Some f) ps (fault.Field i) h k = let p = slot_passes d f.slots ps i k.2.slot k.2.part h.0 k.2.slot_is k.2.part_is in not_both _ p.1 k.2.fails
wide_faultless d (Some f) ps (fault.SameDest i) h k = not_both (writes_differ d (take (i + 1) ps)) (front_differs d ps (i + 1) h.1) k.3.fails

pub faultless : (d : Description) (b : Bundle) (e : BundleFault) → HasSpelling d b → IsFault d b e → ⊥
faultless d (bundle.Core i) fault.SlotCount h k = k
faultless d (bundle.Core i) (fault.NotListed s) h k = k
faultless d (bundle.Core i) (fault.Field s) h k = k.1 h
faultless d (bundle.Core i) (fault.SameDest s) h k = k
faultless d (bundle.One p) fault.SlotCount h k = k
faultless d (bundle.One p) (fault.NotListed s) h k = k
faultless d (bundle.One p) (fault.Field s) h k = not_both (part_fits d p) h.1 k.1
faultless d (bundle.One p) (fault.SameDest s) h k = not_both (writes_differ d (p ∷ [])) h.2 k.2
faultless d (bundle.Wide f ps) e h k = wide_faultless d (slice_get d.formats f) ps.items e h.1 k
