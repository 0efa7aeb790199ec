-- The bytes of the statements of a listing are those of its bundles.
use Rattle.std.proofs.Common.{◌≡◌, ℕ, suc, ◌+◌, ◌/◌, ◌<◌, Bool, true, false, cond, pos, List, [], ◌∷◌, length, Option, Some, refl, ap, sym, subst, ◌∙◌, arith, map, All}
use Rattle.std.specs.Prelude.{◌&&◌, ◌||◌, ◌==◌, not, nat_lt, slice_get}
use Rattle.std.specs.Int.{to_le_bytes, w32, w64}
use Rattle.std.proofs.lemmas.Bool.Decides.{nat_tests}
use Rattle.xt_isa.specs.Table.{Fits, word}
use Rattle.xt_isa.specs.declared.instruction.Inst.{Inst}
use Rattle.xt_mnemonics.specs.declared.mnemonic.Mnemonic.{Mnemonic}
use Rattle.xt_mnemonics.specs.Names.{name_of, mnemonic_named}
use Rattle.xt_mnemonics.specs.Shapes.{shapes, AllFit}
use Rattle.xt_mnemonics.specs.Build.{build, mnemonic_of, values_of}
use Rattle.tie_desc.specs.Description.{Description}
use Rattle.tie_desc.specs.Slots.{args_of, place_of, same_code}
use Rattle.tie_desc.specs.Spelling.{spell, three_bytes, wide_bytes, format_word, fields_fit, part_fits, is_listed, slots_fit, IsOp, HasSpelling}
use Rattle.tie_desc.specs.Invariant.{IsDescription, IsCode, IsSlot, IsFormat}
use Rattle.tie_desc.specs.declared.formats.SlotCore.{SlotCore}
use Rattle.tie_desc.specs.declared.formats.SlotCore.TheVariants as core
use Rattle.tie_desc.specs.declared.formats.Code.{Code}
use Rattle.tie_desc.specs.declared.formats.Code.TheVariants as code
use Rattle.tie_desc.specs.declared.formats.SlotDecl.{SlotDecl}
use Rattle.tie_desc.specs.declared.formats.FormatDecl.{FormatDecl}
use Rattle.tie_desc.specs.declared.bundle.Part.{Part}
use Rattle.tie_desc.specs.declared.bundle.Bundle.TheVariants as bundle
use Rattle.tie_desc.proofs.Lists.{both_left, both_right, All-tail}
use Rattle.tie_flix.proofs.Decided.{get_some}
use Rattle.asm_lines.specs.declared.token.Spot.{Spot}
use Rattle.asm_lines.specs.declared.line.Operand.{Operand}
use Rattle.asm_lines.specs.declared.line.Operand.TheVariants as written
use Rattle.asm_lines.specs.declared.line.Operator.{Operator}
use Rattle.asm_lines.specs.declared.line.Operator.TheVariants as operator
use Rattle.asm_lines.specs.declared.line.Operation.{Operation}
use Rattle.asm_lines.specs.declared.line.Statement.{Statement}
use Rattle.asm_lines.specs.declared.line.Statement.TheVariants as stated
use Rattle.asm_lines.specs.Tokens.{past}
use Rattle.asm_lines.specs.Naming.{named, format_named}
use Rattle.xt_asm.specs.asm_rules.Operands.{Find}
use Rattle.xt_asm.specs.asm_rules.Labels.{size, format_at, format_size}
use Rattle.xt_asm.specs.asm_rules.Slots.{slot_core, core_code, code_of, code_in, fields}
use Rattle.xt_asm.specs.Bytes.{bytes, alone_bytes, part_of, code_or_nop}
use Rattle.listing_words_law.specs.xt_dis.Listing.{slot_mnemonic, code_name, op_name}
use Rattle.listing_words_law.specs.Chunks.{spot_after}
use Rattle.listing_words_law.specs.Items.{said_chunks, operation_at, operands_at, said_spot, more_operations_at, operations_at}
use Rattle.listing_words_law.specs.Printed.{core_said, part_said}
use Rattle.listing_words_law.proofs.Named.{core_named, op_named, format_is_named}
use Rattle.listing_law.proofs.Meant.{all_values, all_fields}

-- wherever labels stand, the statement's bytes are these, and it is as long
pub record StandsFor (d : Description) (at : ℕ) (st : Statement) (front : List ℕ) : Type 0 where
  pub bytes_are : (find : Find) → bytes d find at st ≡ front
  pub size_is : size d at st ≡ length front

-- ---- a byte

pub byte_stands : (d : Description) (at column place b : ℕ) → StandsFor d at (stated.Values column 1 (written.Number place (pos b) ∷ [])) (b ∷ [])
byte_stands d at column place b = record { bytes_are = λ find. refl; size_is = refl }

-- ---- core instructions

abbrev operation_with : Spot → Option Operator → List Operand → Operation
operation_with s op os = record { column = s.column; operator = op; operands = os }

-- the mnemonic of a word, and the operands of an instruction
pub record Table : Type 0 where
  pub again : (m : Mnemonic) → mnemonic_named (name_of m) ≡ Some m
  pub same : (i : Inst) → Fits i → build (mnemonic_of i) (values_of i) ≡ i
  pub fit : (i : Inst) → Fits i → AllFit (shapes (mnemonic_of i)) (values_of i)

pub core_stands : Table → (d : Description) (at : ℕ) (s : Spot) (i : Inst) → Fits i → StandsFor d at (stated.Alone (operation_at d s (core_said at i))) (three_bytes (word i))
core_stands t d at s i fits = record { bytes_are = are; size_is = refl }
  where
    are : (find : Find) → bytes d find at (stated.Alone (operation_at d s (core_said at i))) ≡ three_bytes (word i)
    are find =
        let p = core_said at i in
        let os = operands_at (past (length p.name) s) p.items in
        ap (λ op. alone_bytes d find at op (operation_with s op os)) (core_named t.again d (mnemonic_of i))
        ∙ ap (λ zs. three_bytes (word (build (mnemonic_of i) zs))) (all_values d find at (past (length p.name) s) (shapes (mnemonic_of i)) (values_of i) (t.fit i fits))
        ∙ ap (λ x. three_bytes (word x)) (t.same i fits)

-- ---- codes

core_again : (c : SlotCore) → core_code (slot_core (slot_mnemonic c)) ≡ Some (code.Core c)
core_again core.Add = refl
core_again core.Addx2 = refl
core_again core.Addx4 = refl
core_again core.Addx8 = refl
core_again core.Sub = refl
core_again core.Subx2 = refl
core_again core.Subx4 = refl
core_again core.Subx8 = refl
core_again core.And = refl
core_again core.Or = refl
core_again core.Xor = refl
core_again core.Min = refl
core_again core.Max = refl
core_again core.Minu = refl
core_again core.Maxu = refl
core_again core.Mull = refl
core_again core.Nop = refl

-- what the name of a code names
record Names (d : Description) (c : Code) : Type 0 where
  op : Operator
  named_is : named d (code_name d c) ≡ Some op
  code_is : code_of op ≡ Some c

code_names : Table → (d : Description) (c : Code) → IsDescription d → IsCode d c → Names d c
code_names t d (code.Core c) is h = record { op = operator.Core (slot_mnemonic c); named_is = core_named t.again d (slot_mnemonic c); code_is = core_again c }
code_names t d (code.Op i) is h =
    let g = get_some d.ops i h in
    record { op = operator.Op i; named_is = ap (λ o. named d (op_name o)) g.1 ∙ op_named d i g.0 is g.1; code_is = refl }

-- ---- parts

abbrev part_with : Description → Option Code → List Operand → Part
part_with d c os = record { code = code_or_nop c; fields = fields d (code_or_nop c) os }

abbrev part_fields : Code → List ℕ → Part
part_fields c fs = record { code = c; fields = fs }

part_again : Table → (d : Description) (s : Spot) (p : Part) → IsDescription d → IsCode d p.code → part_fits d p ≡ true → part_of d (operation_at d s (part_said d p)) ≡ p
part_again t d s p is h f =
    let n = code_names t d p.code is h in
    let q = part_said d p in
    let os = operands_at (past (length q.name) s) q.items in
    let in_op : code_in (operation_at d s q) ≡ Some p.code = ap (λ op. code_in (operation_with s op os)) n.named_is ∙ n.code_is in
    ap (λ c. part_with d c os) in_op
    ∙ ap (λ fs. part_fields p.code fs) (all_fields d is (past (length q.name) s) (args_of d p.code) p.fields (three_of (length p.fields) (both_left (length p.fields == 3) (fields_fit d (args_of d p.code) p.fields) f)) (both_right (length p.fields == 3) (fields_fit d (args_of d p.code) p.fields) f))
  where
    three_of : (k : ℕ) → (k == 3) ≡ true → k ≡ 3
    three_of k e = grind (arith, nat_tests)

pub one_stands : Table → (d : Description) (at : ℕ) (s : Spot) (p : Part) → IsDescription d → HasSpelling d (bundle.One p)
    → StandsFor d at (stated.Alone (operation_at d s (part_said d p))) (spell d (bundle.One p))
one_stands t d at s p is h = record { bytes_are = λ find. are find p.code refl h.0; size_is = refl }
  where
    are : (find : Find) (c : Code) → p.code ≡ c → IsOp d c → bytes d find at (stated.Alone (operation_at d s (part_said d p))) ≡ spell d (bundle.One p)
    are find (code.Core c) e k = absurd k
    are find (code.Op i) e k =
        let q = part_said d p in
        let os = operands_at (past (length q.name) s) q.items in
        let g = get_some d.ops i k in
        let name_is : named d (code_name d p.code) ≡ Some (operator.Op i) = ap (λ c. named d (code_name d c)) e ∙ ap (λ o. named d (op_name o)) g.1 ∙ op_named d i g.0 is g.1 in
        let known : IsCode d p.code = subst (λ c. IsCode d c) (sym e) k in
        ap (λ op. alone_bytes d find at op (operation_at d s q)) name_is
        ∙ ap (λ x. spell d (bundle.One x)) (part_again t d s p is known h.1)

-- ---- formats

-- a code that a slot lists is known
listed_code : (d : Description) (c : Code) (cs : List Code) → All (IsCode d) cs → place_of c cs < length cs → IsCode d c
listed_code d c [] all h = absurd (omega (arith, h))
listed_code d c (x ∷ cs) all h = by (same_code x c) refl h (λ lt. listed_code d c cs (All-tail (IsCode d) x cs all) lt)
  where
    same_number : (a b : ℕ) → (a == b) ≡ true → a ≡ b
    same_number a b e = grind (arith, nat_tests)

    same_known : (x c : Code) → same_code x c ≡ true → IsCode d x → IsCode d c
    same_known (code.Core a) (code.Core b) e k = tt
    same_known (code.Core a) (code.Op j) e k = absurd cc
    same_known (code.Op i) (code.Core b) e k = absurd cc
    same_known (code.Op i) (code.Op j) e k = let s = same_number i j e in omega (arith, k, s)

    by : (b : Bool) → same_code x c ≡ b → cond (not b) (1 + place_of c cs) 0 < suc (length cs) → (place_of c cs < length cs → IsCode d c) → IsCode d c
    by true e k again = same_known x c e (all 0 x (omega arith))
    by false e k again = again (omega (arith, k))

below : (a b : ℕ) → nat_lt a b ≡ true → a < b
below a b h = grind (arith, nat_tests)

-- each part of a format is known and fits
pub data AreParts (d : Description) : List Part → Type 0 where
  none : AreParts d []
  more : (p : Part) (ps : List Part) → IsCode d p.code → part_fits d p ≡ true → AreParts d ps → AreParts d (p ∷ ps)

pub parts_known : (d : Description) (ss : List SlotDecl) (ps : List Part) → All (IsSlot d) ss → slots_fit d ss ps ≡ true → AreParts d ps
parts_known d [] [] all h = none
parts_known d [] (p ∷ ps) all h = absurd cc
parts_known d (s ∷ ss) [] all h = absurd cc
parts_known d (s ∷ ss) (p ∷ ps) all h =
    let front = both_left (is_listed s p && part_fits d p) (slots_fit d ss ps) h in
    let slot : IsSlot d s = all 0 s (omega arith) in
    more p ps (listed_code d p.code s.codes slot.codes (below (place_of p.code s.codes) (length s.codes) (both_left (is_listed s p) (part_fits d p) front)))
    (both_right (is_listed s p) (part_fits d p) front) (parts_known d ss ps (All-tail (IsSlot d) s ss all) (both_right (is_listed s p && part_fits d p) (slots_fit d ss ps) h))

more_again : Table → (d : Description) (s : Spot) (ps : List Part) → IsDescription d → AreParts d ps → map (part_of d) (more_operations_at d s (map (part_said d) ps)) ≡ ps
more_again t d s [] is r = refl
more_again t d s (p ∷ ps) is (more _ _ c f rest) =
    let u = said_spot s in
    let v = spot_after u (said_chunks (part_said d p)) in
    ap (λ x. x ∷ map (part_of d) (more_operations_at d v (map (part_said d) ps))) (part_again t d u p is c f)
    ∙ ap (λ xs. p ∷ xs) (more_again t d v ps is rest)

all_again : Table → (d : Description) (s : Spot) (p : Part) (ps : List Part) → IsDescription d → AreParts d (p ∷ ps)
    → map (part_of d) (operations_at d s (part_said d p) (map (part_said d) ps)) ≡ p ∷ ps
all_again t d s p ps is r = more_again t d s (p ∷ ps) is r

-- a format has 4 or 8 bytes
wide_size : (d : Description) (f : FormatDecl) (ps : List Part) → IsFormat d f → f.width / 8 ≡ length (wide_bytes d (Some f) ps)
wide_size d f ps is = by (f.width == 64) refl (of_width f.width is.width)
  where
    of_width : (w : ℕ) → (w == 32 || w == 64) ≡ true → cond (w == 64) (w / 8 ≡ 8) (w / 8 ≡ 4)
    of_width w h = elim (w == 64) as (λ b. (w == 64) ≡ b → cond b (w / 8 ≡ 8) (w / 8 ≡ 4)) [ true ↦ λ e. grind (arith, nat_tests) | false ↦ λ e. grind (arith, nat_tests) ] refl

    by : (b : Bool) → (f.width == 64) ≡ b → cond b (f.width / 8 ≡ 8) (f.width / 8 ≡ 4)
        → f.width / 8 ≡ length (cond b (to_le_bytes w64 (format_word d f ps)) (to_le_bytes w32 (format_word d f ps)))
    by true e k = k
    by false e k = k

pub wide_stands : Table → (d : Description) (at : ℕ) (s u : Spot) (f : ℕ) (x : FormatDecl) (p : Part) (ps : List Part) → IsDescription d → slice_get d.formats f ≡ Some x → IsFormat d x → AreParts d (p ∷ ps)
    → StandsFor d at (stated.Wide s.column (format_named d x.name) (operations_at d u (part_said d p) (map (part_said d) ps))) (wide_bytes d (Some x) (p ∷ ps))
wide_stands t d at s u f x p ps is here has r = record { bytes_are = are; size_is = ap format_size found ∙ wide_size d x (p ∷ ps) has }
  where
    found : format_at d (format_named d x.name) ≡ Some x
    found = ap (format_at d) (format_is_named d f x is here) ∙ here

    are : (find : Find) → bytes d find at (stated.Wide s.column (format_named d x.name) (operations_at d u (part_said d p) (map (part_said d) ps))) ≡ wide_bytes d (Some x) (p ∷ ps)
    are find =
        ap (λ o. wide_bytes d o (map (part_of d) (operations_at d u (part_said d p) (map (part_said d) ps)))) found
        ∙ ap (λ ys. wide_bytes d (Some x) ys) (all_again t d u p ps is r)
