-- The operands of a part with the numbers in their fields, and what they hold.
use Rattle.std.specs.Prelude.{ℕ, ◌<◌, ◌≤◌, ◌^◌, List, [], ◌∷◌, ◌++◌, map, filter, length, slice_get, IsTrue}
use Rattle.std.specs.List.{flat_map}
use Rattle.tie_expr.specs.Word.{Word}
use Rattle.xt_core.specs.Words.{word32}
use Rattle.tie_desc.specs.Description.{Description}
use Rattle.tie_desc.specs.Invariant.{is_direction}
use Rattle.tie_desc.specs.Operands.{file_depth, file_width, kind_width, queue_width, range_count, range_value, state_width}
use Rattle.tie_desc.specs.Slots.{access, args_of, links_of}
use Rattle.tie_desc.specs.Spots.{spot_of}
use Rattle.tie_desc.specs.declared.declarations.Kind.{Kind}
use Rattle.tie_desc.specs.declared.declarations.Kind.TheVariants as kind
use Rattle.tie_desc.specs.declared.declarations.Access.{Access}
use Rattle.tie_desc.specs.declared.declarations.Operand.{Operand}
use Rattle.tie_desc.specs.declared.bundle.Part.{Part}
use Rattle.tie_desc.specs.declared.bundle.Spot.{Spot}
use Rattle.tie_desc.specs.declared.bundle.Spot.TheVariants as spot
use Rattle.xt_operate.specs.declared.bounds.Bound.{Bound}

-- each argument with the number in its field
abbrev pub arg_bounds : List Access → List ℕ → List Bound
arg_bounds (a ∷ as') (n ∷ ns) = record { access = a; number = n } ∷ arg_bounds as' ns
arg_bounds _ _ = []

-- a link has no field
abbrev pub link_bound : Operand → Bound
link_bound l = record { access = access l; number = 0 }

-- the operands of a part: its arguments, then its links
abbrev pub bounds : Description → Part → List Bound
bounds d p = arg_bounds (args_of d p.code) p.fields ++ map link_bound (links_of d p.code)

abbrev pub read_bounds : List Bound → List Bound
read_bounds bs = filter (λ b. b.access.reads) bs

abbrev pub written_bounds : List Bound → List Bound
written_bounds bs = filter (λ b. b.access.writes) bs

-- the places that are written, in the order of the operands
abbrev pub written_places : List Bound → List Spot
written_places bs = flat_map (λ b. spot_of b.access.kind b.number) (written_bounds bs)

-- what an operand holds: an immediate its value, all else what its place holds
abbrev pub held : Description → (Spot → ℕ) → Kind → ℕ → ℕ
held d reads kind.Ar n = reads (spot.Ar n)
held d reads (kind.File f) n = reads (spot.File f n)
held d reads (kind.Range r) n = word32 (range_value (slice_get d.ranges r) n)
held d reads (kind.State s) n = reads (spot.State s)
held d reads (kind.InQueue q) n = reads (spot.In q)
held d reads (kind.OutQueue q) n = reads (spot.Out q)

-- the word of an operand
abbrev pub word_of : Description → (Spot → ℕ) → Bound → Word
word_of d reads b = record { width = kind_width d b.access.kind; value = held d reads b.access.kind b.number }

-- the words of the read operands, which expressions number in this order
abbrev pub read_words : Description → (Spot → ℕ) → List Bound → List Word
read_words d reads bs = map (word_of d reads) (read_bounds bs)

-- ---- operands that a description has

-- the number of an operand is that of a register, or of a value, that is there
abbrev pub HasNumber : Description → Kind → ℕ → Type 0
HasNumber d kind.Ar n = n < 16
HasNumber d (kind.File f) n = (f < length d.files) × (n < file_depth (slice_get d.files f))
HasNumber d (kind.Range r) n = (r < length d.ranges) × (n < range_count (slice_get d.ranges r))
HasNumber d (kind.State s) n = s < length d.states
HasNumber d (kind.InQueue q) n = q < length d.ins
HasNumber d (kind.OutQueue q) n = q < length d.outs

pub record IsBound (d : Description) (b : Bound) : Type 0 where
  pub number : HasNumber d b.access.kind b.number
  pub direction : IsTrue (is_direction b.access.kind b.access.reads b.access.writes)

-- the place is there, and the value fits it
abbrev pub Fits : Description → Spot → ℕ → Type 0
Fits d (spot.Ar n) v = (n < 16) × (v < 2 ^ 32)
Fits d spot.Sar v = v ≤ 32
Fits d (spot.State s) v = (s < length d.states) × (v < 2 ^ state_width (slice_get d.states s))
Fits d (spot.File f n) v = (f < length d.files) × (n < file_depth (slice_get d.files f)) × (v < 2 ^ file_width (slice_get d.files f))
Fits d (spot.In q) v = (q < length d.ins) × (v < 2 ^ queue_width (slice_get d.ins q))
Fits d (spot.Out q) v = (q < length d.outs) × (v < 2 ^ queue_width (slice_get d.outs q))
