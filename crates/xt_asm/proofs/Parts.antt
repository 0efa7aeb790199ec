-- Operations that no rule refuses, as parts: their fields fit, and they write the registers that the rules judged.
use Rattle.std.proofs.Common.{◌≡◌, ℕ, ◌≤◌, ◌<◌, Bool, true, false, cond, List, [], ◌∷◌, ◌++◌, length, map, refl, arith, sym, ap, subst, All, Option, Some, None, ◌∙◌, IsTrue}
use Rattle.std.specs.Prelude.{slice_get, nat_lt}
use Rattle.std.proofs.lemmas.Bool.Decides.{nat_tests}
use Rattle.std.proofs.lemmas.List.{map-append, length-map}
use Rattle.xt_mnemonics.specs.declared.mnemonic.Mnemonic.{Mnemonic}
use Rattle.xt_mnemonics.specs.declared.mnemonic.Mnemonic.TheVariants as mnemonic
use Rattle.xt_mnemonics.specs.Shapes.{shapes}
use Rattle.tie_desc.specs.Description.{Description}
use Rattle.tie_desc.specs.Operands.{limit}
use Rattle.tie_desc.specs.Slots.{access, args_of, core_args, op_args}
use Rattle.tie_desc.specs.Spelling.{fields_fit, part_fits}
use Rattle.tie_desc.specs.Spots.{spot_of, arg_spots, written_registers}
use Rattle.tie_desc.specs.Invariant.{IsDescription, IsArgument, IsOperation, is_argument}
use Rattle.tie_desc.specs.declared.declarations.Access.{Access}
use Rattle.tie_desc.specs.declared.declarations.OpDecl.{OpDecl}
use Rattle.tie_desc.specs.declared.declarations.Operand as declared
use Rattle.tie_desc.specs.declared.formats.SlotCore.{SlotCore}
use Rattle.tie_desc.specs.declared.formats.SlotCore.TheVariants as core
use Rattle.tie_desc.specs.declared.formats.Code.{Code}
use Rattle.tie_desc.specs.declared.formats.Code.TheVariants as code
use Rattle.tie_desc.specs.declared.bundle.Spot.{Spot}
use Rattle.tie_desc.proofs.Lists.{All-slice_get, All-tail}
use Rattle.asm_lines.specs.declared.line.Operand.{Operand}
use Rattle.asm_lines.specs.declared.line.Operation.{Operation}
use Rattle.asm_lines.specs.declared.line.Operator.{Operator}
use Rattle.asm_lines.specs.declared.line.Operator.TheVariants as operator
use Rattle.asm_rules.specs.declared.expected.Expected.TheVariants as expect
use Rattle.asm_rules.specs.declared.written.Written.{Written}
use Rattle.asm_rules.specs.Expected.{expected, of_access}
use Rattle.asm_rules.specs.Operands.{Find, column_of}
use Rattle.asm_rules.specs.Slots.{slot_core, core_code, code_of, code_in, field_of, field_at, fields, written, written_of, written_in, written_by}
use Rattle.xt_asm.specs.Bytes.{code_or_nop, part_of}
use Rattle.xt_asm.specs.Known.{Each}
use Rattle.xt_asm.proofs.Fine.{IsFine, AreFine, join}
use Rattle.xt_asm.proofs.Fitted.{field_below}

-- ---- the operands of a code are those of its operator

SameArgs : Mnemonic → Option SlotCore → Type 0
SameArgs m None = Unit {0}
SameArgs m (Some c) = map expect.Core (shapes m) ≡ map of_access (core_args c)

same_args : (m : Mnemonic) → SameArgs m (slot_core m)
unfolding SameArgs
same_args mnemonic.Add = refl
same_args mnemonic.Addx2 = refl
same_args mnemonic.Addx4 = refl
same_args mnemonic.Addx8 = refl
same_args mnemonic.Sub = refl
same_args mnemonic.Subx2 = refl
same_args mnemonic.Subx4 = refl
same_args mnemonic.Subx8 = refl
same_args mnemonic.And = refl
same_args mnemonic.Or = refl
same_args mnemonic.Xor = refl
same_args mnemonic.Min = refl
same_args mnemonic.Max = refl
same_args mnemonic.Minu = refl
same_args mnemonic.Maxu = refl
same_args mnemonic.Mull = refl
same_args mnemonic.Nop = refl
same_args _ = tt

core_expected : (d : Description) (m : Mnemonic) (s : Option SlotCore) (c : Code) → SameArgs m s → core_code s ≡ Some c → map expect.Core (shapes m) ≡ map of_access (args_of d c)
unfolding SameArgs
core_expected d m None c h e = absurd cc
core_expected d m (Some k) c h e = let same : code.Core k ≡ c = cc in h ∙ ap (λ z. map of_access (args_of d z)) same

pub expected_of : (d : Description) (op : Operator) (c : Code) → code_of op ≡ Some c → expected d op ≡ map of_access (args_of d c)
expected_of d (operator.Core m) c e = core_expected d m (slot_core m) c (same_args m) e
expected_of d (operator.Op i) c e = let same : code.Op i ≡ c = cc in ap (λ z. map of_access (args_of d z)) same

-- ---- arguments: at most three, each a register or a value

abbrev pub IsArg : Access → Type 0
IsArg a = IsTrue (is_argument a.kind)

core_arguments : (c : SlotCore) → Each IsArg (core_args c)
core_arguments core.Nop = tt
core_arguments core.Mull = (refl, (refl, (refl, tt)))
core_arguments _ = (refl, (refl, (refl, tt)))

op_arguments : (d : Description) (ps : List declared.Operand) → All (IsArgument d) ps → Each IsArg (map access ps)
op_arguments d [] h = tt
op_arguments d (p ∷ ps) h = ((h 0 p (omega arith)).kind, op_arguments d ps (All-tail (IsArgument d) p ps h))

op_arguments_at : (d : Description) (i : ℕ) (o : Option OpDecl) → IsDescription d → slice_get d.ops i ≡ o → Each IsArg (op_args o) × (length (op_args o) ≤ 3)
op_arguments_at d i None h e = (tt, omega arith)
op_arguments_at d i (Some o) h e =
    let k = All-slice_get (IsOperation d) d.ops i o h.ops e in
    (op_arguments d o.args k.args, omega (arith, k.few_args, length-map o.args access))

core_few : (c : SlotCore) → length (core_args c) ≤ 3
core_few core.Nop = omega arith
core_few core.Mull = omega arith
core_few _ = omega arith

pub arguments : (d : Description) (c : Code) → IsDescription d → Each IsArg (args_of d c) × (length (args_of d c) ≤ 3)
arguments d (code.Core c) h = (core_arguments c, core_few c)
arguments d (code.Op i) h = op_arguments_at d i (slice_get d.ops i) h refl

-- ---- fields

abbrev pub three_fields : Description → List Access → List Operand → List ℕ
three_fields d as' os = field_at d (slice_get as' 0) (slice_get os 0) ∷ field_at d (slice_get as' 1) (slice_get os 1) ∷ field_at d (slice_get as' 2) (slice_get os 2) ∷ []

below_is : (a b : ℕ) → a < b → nat_lt a b ≡ true
below_is a b h = grind (arith, nat_tests)

one_fits : (d : Description) (find : Find) (at : ℕ) (a : Access) (o : Operand) → IsArg a → IsFine d find at (of_access a) o → nat_lt (field_of d (of_access a) o) (limit d a.kind) ≡ true
one_fits d find at a o h f = below_is (field_of d (of_access a) o) (limit d a.kind) (field_below d find at a.kind o h f)

fields_fit_of : (d : Description) (find : Find) (at : ℕ) (as' : List Access) (os : List Operand) → length as' ≡ length os → length as' ≤ 3 → Each IsArg as' → AreFine d find at (map of_access as') os
    → fields_fit d as' (three_fields d as' os) ≡ true
fields_fit_of d find at [] [] n few h f = refl
fields_fit_of d find at [] (o ∷ os) n few h f = absurd (omega arith)
fields_fit_of d find at (a ∷ as') [] n few h f = absurd (omega arith)
fields_fit_of d find at (a ∷ []) (o ∷ []) n few h f = join _ _ (one_fits d find at a o h.0 f.0) refl
fields_fit_of d find at (a ∷ []) (o ∷ p ∷ os) n few h f = absurd (omega arith)
fields_fit_of d find at (a ∷ b ∷ as') (o ∷ []) n few h f = absurd (omega arith)
fields_fit_of d find at (a ∷ b ∷ []) (o ∷ p ∷ []) n few h f = join _ _ (one_fits d find at a o h.0 f.0) (join _ _ (one_fits d find at b p h.1.0 f.1.0) refl)
fields_fit_of d find at (a ∷ b ∷ []) (o ∷ p ∷ q ∷ os) n few h f = absurd (omega arith)
fields_fit_of d find at (a ∷ b ∷ c ∷ as') (o ∷ p ∷ []) n few h f = absurd (omega arith)
fields_fit_of d find at (a ∷ b ∷ c ∷ []) (o ∷ p ∷ q ∷ []) n few h f =
    join _ _ (one_fits d find at a o h.0 f.0) (join _ _ (one_fits d find at b p h.1.0 f.1.0) (join _ _ (one_fits d find at c q h.1.1.0 f.1.1.0) refl))
fields_fit_of d find at (a ∷ b ∷ c ∷ []) (o ∷ p ∷ q ∷ r ∷ os) n few h f = absurd (omega arith)
fields_fit_of d find at (a ∷ b ∷ c ∷ e ∷ as') (o ∷ p ∷ q ∷ os) n few h f = absurd (omega arith)

-- ---- written registers

spots : List Written → List Spot
spots ws = map (λ w. w.spot) ws

spots_map : (column : ℕ) (ss : List Spot) → map (λ w. w.spot) (map (λ s. let w : Written = record { spot = s; column = column } in w) ss) ≡ ss
spots_map column [] = refl
spots_map column (s ∷ ss) = ap (λ z. s ∷ z) (spots_map column ss)

spots_if : (b : Bool) (column : ℕ) (ss : List Spot)
    → map (λ w. w.spot) (cond b (map (λ s. let w : Written = record { spot = s; column = column } in w) ss) []) ≡ cond b ss []
spots_if true column ss = spots_map column ss
spots_if false column ss = refl

spots_by : (d : Description) (a : Access) (o : Operand) → map (λ w. w.spot) (written_by d a o) ≡ cond a.writes (spot_of a.kind (field_of d (of_access a) o)) []
spots_by d a o = spots_if a.writes (column_of o) (spot_of a.kind (field_of d (of_access a) o))

spots_step : (d : Description) (a : Access) (o : Operand) (ws : List Written) (ss : List Spot) → map (λ w. w.spot) ws ≡ ss
    → map (λ w. w.spot) (written_by d a o ++ ws) ≡ cond a.writes (spot_of a.kind (field_of d (of_access a) o)) [] ++ ss
spots_step d a o ws ss h =
    map-append (λ (w : Written). w.spot) (written_by d a o) ws ∙ ap (λ z. z ++ map (λ w. w.spot) ws) (spots_by d a o)
    ∙ ap (λ z. cond a.writes (spot_of a.kind (field_of d (of_access a) o)) [] ++ z) h

spots_of : (d : Description) (as' : List Access) (os : List Operand) → length as' ≡ length os → length as' ≤ 3
    → map (λ w. w.spot) (written_in d as' os) ≡ arg_spots (λ a. a.writes) as' (three_fields d as' os)
spots_of d [] [] n few = refl
spots_of d [] (o ∷ os) n few = absurd (omega arith)
spots_of d (a ∷ as') [] n few = absurd (omega arith)
spots_of d (a ∷ []) (o ∷ []) n few = spots_step d a o [] [] refl
spots_of d (a ∷ []) (o ∷ p ∷ os) n few = absurd (omega arith)
spots_of d (a ∷ b ∷ as') (o ∷ []) n few = absurd (omega arith)
spots_of d (a ∷ b ∷ []) (o ∷ p ∷ []) n few = spots_step d a o _ _ (spots_step d b p [] [] refl)
spots_of d (a ∷ b ∷ []) (o ∷ p ∷ q ∷ os) n few = absurd (omega arith)
spots_of d (a ∷ b ∷ c ∷ as') (o ∷ p ∷ []) n few = absurd (omega arith)
spots_of d (a ∷ b ∷ c ∷ []) (o ∷ p ∷ q ∷ []) n few = spots_step d a o _ _ (spots_step d b p _ _ (spots_step d c q [] [] refl))
spots_of d (a ∷ b ∷ c ∷ []) (o ∷ p ∷ q ∷ r ∷ os) n few = absurd (omega arith)
spots_of d (a ∷ b ∷ c ∷ e ∷ as') (o ∷ p ∷ q ∷ os) n few = absurd (omega arith)

-- ---- operations

-- an operation that the rules let pass
pub record FineOperation (d : Description) (find : Find) (at : ℕ) (op : Operator) (o : Operation) : Type 0 where
  pub operator : o.operator ≡ Some op
  pub count : length (expected d op) ≡ length o.operands
  pub fine : AreFine d find at (expected d op) o.operands

-- an operation as a part
pub record FitsSlot (d : Description) (o : Operation) : Type 0 where
  pub part : part_fits d (part_of d o) ≡ true
  pub registers : map (λ w. w.spot) (written d o) ≡ written_registers d (part_of d o)

pub code_of_operator : (o : Operation) (op : Operator) → o.operator ≡ Some op → code_in o ≡ code_of op
code_of_operator o op e = ap (λ m. code_in (record o { operator = m })) e

-- the same of an operation whose code is known
record FitsCode (d : Description) (m : Option Code) (os : List Operand) : Type 0 where
  part : fields_fit d (args_of d (code_or_nop m)) (fields d (code_or_nop m) os) ≡ true
  registers : map (λ w. w.spot) (written_of d m os) ≡ arg_spots (λ a. a.writes) (args_of d (code_or_nop m)) (fields d (code_or_nop m) os)

fits_code : (d : Description) (find : Find) (at : ℕ) (op : Operator) (m : Option Code) (os : List Operand) → IsDescription d → code_of op ≡ m
    → length (expected d op) ≡ length os → AreFine d find at (expected d op) os → FitsCode d m os
fits_code d find at op None os h e n f = record { part = refl; registers = refl }
fits_code d find at op (Some c) os h e n f =
    let x = expected_of d op c e in
    let k = arguments d c h in
    let len : length (args_of d c) ≡ length os = sym (length-map (args_of d c) of_access) ∙ sym (ap length x) ∙ n in
    let fine : AreFine d find at (map of_access (args_of d c)) os = subst (λ es. AreFine d find at es os) x f in
    record { part = fields_fit_of d find at (args_of d c) os len k.1 k.0 fine; registers = spots_of d (args_of d c) os len k.1 }

pub fits_slot : (d : Description) (find : Find) (at : ℕ) (op : Operator) (o : Operation) → IsDescription d → FineOperation d find at op o → FitsSlot d o
fits_slot d find at op o h f =
    let k = subst (λ m. FitsCode d m o.operands) (sym (code_of_operator o op f.operator)) (fits_code d find at op (code_of op) o.operands h refl f.count f.fine) in
    record { part = k.part; registers = k.registers }
