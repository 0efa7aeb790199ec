-- The instruction of a part with a core operation fits the core table.
use Rattle.std.proofs.Common.{◌≡◌, ℕ, ◌<◌, Bool, true, false, List, [], ◌∷◌, length, slice_index, Option, Some, None, All, subst}
use Rattle.std.specs.Prelude.{IsTrue, nat_lt, ◌&&◌, ◌==◌}
use Rattle.std.proofs.lemmas.Bool.{ltb-true}
use Rattle.std.proofs.lemmas.List.Elements.{All-cons, All-nil}
use Rattle.xt_isa.specs.Table.{Fits}
use Rattle.tie_desc.proofs.Lists.{both_left, both_right}
use Rattle.tie_desc.specs.Description.{Description}
use Rattle.tie_desc.specs.Slots.{args_of, core_args, core_read, core_written}
use Rattle.tie_desc.specs.Spelling.{HasWide, fields_fit, is_listed, part_fits, slots_fit}
use Rattle.tie_desc.specs.declared.formats.SlotCore.{SlotCore}
use Rattle.tie_desc.specs.declared.formats.SlotCore.TheVariants as core
use Rattle.tie_desc.specs.declared.formats.Code.{Code}
use Rattle.tie_desc.specs.declared.formats.Code.TheVariants as code
use Rattle.tie_desc.specs.declared.formats.SlotDecl.{SlotDecl}
use Rattle.tie_desc.specs.declared.formats.FormatDecl.{FormatDecl}
use Rattle.tie_desc.specs.declared.bundle.Part.{Part}
use Rattle.xt_operate.specs.Operate.{slot_instruction}

-- three registers of the core
abbrev AreRegisters : List ℕ → Type 0
AreRegisters f = (slice_index f 0 < 16) × (slice_index f 1 < 16) × (slice_index f 2 < 16)

three : (d : Description) (late : Bool) (f : List ℕ) → fields_fit d (core_written late ∷ core_read ∷ core_read ∷ []) f ≡ true → AreRegisters f
three d late [] h = cc
three d late (a ∷ []) h = absurd (false_true (both_right (nat_lt a 16) false h))
  where
    false_true : false ≡ true → ⊥
    false_true e = cc
three d late (a ∷ b ∷ []) h = absurd (false_true (both_right (nat_lt b 16) false (both_right (nat_lt a 16) _ h)))
  where
    false_true : false ≡ true → ⊥
    false_true e = cc
three d late (a ∷ b ∷ c ∷ f) h =
    let more = both_right (nat_lt a 16) _ h in
    (ltb-true a 16 (both_left _ _ h), ltb-true b 16 (both_left _ _ more), ltb-true c 16 (both_left _ _ (both_right (nat_lt b 16) _ more)))

core_fits : (d : Description) (c : SlotCore) (f : List ℕ) → fields_fit d (core_args c) f ≡ true → Fits (slot_instruction c f)
core_fits d core.Nop f h = tt
core_fits d core.Mull f h = three d true f h
core_fits d core.Add f h = three d false f h
core_fits d core.Addx2 f h = three d false f h
core_fits d core.Addx4 f h = three d false f h
core_fits d core.Addx8 f h = three d false f h
core_fits d core.Sub f h = three d false f h
core_fits d core.Subx2 f h = three d false f h
core_fits d core.Subx4 f h = three d false f h
core_fits d core.Subx8 f h = three d false f h
core_fits d core.And f h = three d false f h
core_fits d core.Or f h = three d false f h
core_fits d core.Xor f h = three d false f h
core_fits d core.Min f h = three d false f h
core_fits d core.Max f h = three d false f h
core_fits d core.Minu f h = three d false f h
core_fits d core.Maxu f h = three d false f h

pub slot_fits : (d : Description) (p : Part) (c : SlotCore) → p.code ≡ code.Core c → part_fits d p ≡ true → Fits (slot_instruction c p.fields)
slot_fits d p c e h =
    let P : Code → Type 0 = λ x. fields_fit d (args_of d x) p.fields ≡ true in
    core_fits d c p.fields (subst P e (both_right (length p.fields == 3) _ h))

-- each part of slots that fit them
pub parts_fit : (d : Description) (ss : List SlotDecl) (ps : List Part) → slots_fit d ss ps ≡ true → All (λ p. IsTrue (part_fits d p)) ps
parts_fit d [] [] h = All-nil (λ p. IsTrue (part_fits d p))
parts_fit d [] (p ∷ ps) h = cc
parts_fit d (s ∷ ss) [] h = cc
parts_fit d (s ∷ ss) (p ∷ ps) h =
    All-cons (λ x. IsTrue (part_fits d x)) p ps (both_right (is_listed s p) _ (both_left _ _ h))
    (parts_fit d ss ps (both_right (is_listed s p && part_fits d p) _ h))

pub wide_fit : (d : Description) (f : Option FormatDecl) (ps : List Part) → HasWide d f ps → All (λ p. IsTrue (part_fits d p)) ps
wide_fit d None ps h = absurd h
wide_fit d (Some f) ps h = parts_fit d f.slots ps h.0
