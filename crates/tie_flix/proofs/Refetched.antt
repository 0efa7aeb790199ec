-- A spelling is fetched, whatever follows it.
use Rattle.std.proofs.Common.{◌≡◌, ℕ, ◌+◌, ◌-◌, ◌*◌, ◌/◌, ◌%◌, ◌^◌, ◌<◌, ◌≤◌, Bool, true, false, List, [], ◌∷◌, ◌++◌, length, refl, sym, ap, subst, ◌∙◌, arith, nat_le, Some, None, ◌⊎◌, inl, inr, if◌then◌else◌, ◌||◌}
use Rattle.std.specs.Prelude.{◌==◌, nat_lt, ◌&&◌, slice_get, option_and_then}
use Rattle.std.specs.Int.{to_le_bytes, w32, w64}
use Rattle.std.proofs.lemmas.Nat.{from_le_bytes-to_le_bytes_4, from_le_bytes-to_le_bytes_8}
use Rattle.std.proofs.lemmas.Bool.Decides.{nat_tests}
use Rattle.xt_isa.specs.declared.instruction.Inst.{Inst}
use Rattle.xt_isa.specs.Formats.{rrr}
use Rattle.xt_isa.specs.Reading as core
use Rattle.xt_isa.specs.Table.{Fits, word}
use Rattle.xt_isa.proofs.Fields.{AreSmall, Fields, fields, word_of}
use Rattle.xt_isa.proofs.TableLemmas.{complete, read_fits}
use Rattle.tie_desc.proofs.Lists.{All-slice_get}
use Rattle.tie_desc.proofs.SlotLemmas.{limit-le, slots_space-le}
use Rattle.tie_desc.proofs.FormatLemmas.{format_is_first, number_fits}
use Rattle.tie_desc.specs.Description.{Description}
use Rattle.tie_desc.specs.Invariant.{IsDescription, IsFormat}
use Rattle.tie_desc.specs.Slots.{args_of, format_place, slots_space}
use Rattle.tie_desc.specs.Spelling.{three_bytes, op_word, slots_word, format_word, wide_bytes, spell, fields_fit, slots_fit, writes_differ, IsOp, HasWide, HasSpelling}
use Rattle.tie_desc.specs.Fetching.{fetched_of}
use Rattle.tie_desc.specs.declared.formats.Code.{Code}
use Rattle.tie_desc.specs.declared.formats.Code.TheVariants as code
use Rattle.tie_desc.specs.declared.formats.FormatDecl.{FormatDecl}
use Rattle.tie_desc.specs.declared.bundle.Part.{Part}
use Rattle.tie_desc.specs.declared.bundle.Bundle.{Bundle}
use Rattle.tie_desc.specs.declared.bundle.Bundle.TheVariants as bundle
use Rattle.tie_desc.specs.declared.bundle.Fetched.{Fetched}
use Rattle.tie_flix.specs.Reading.{part, fits, read_slots, wide_of, read_format, read_wide, one_of, op_number, is_op, read_op, read_core, core_or, read_three, read_long, read_short, read_brief, fetch}
use Rattle.tie_flix.proofs.Decided.{both, eq_of, eq_to, eq_not, get_some}
use Rattle.tie_flix.proofs.FieldLemmas.{AreFields, fits-fields, few_args}
use Rattle.tie_flix.proofs.SlotLemmas.{slots_written, slots_bound}
use Rattle.tie_flix.proofs.Fetched.{opcode}

-- ---- formats

abbrev pub wide_at : ℕ → ℕ → List Part → Fetched
wide_at i size ps = record { bundle = bundle.Wide i (record { items = ps }); length = size }

form_of : (d : Description) (i : ℕ) (f : FormatDecl) → IsDescription d → slice_get d.formats i ≡ Some f → IsFormat d f
form_of d i f is got = All-slice_get (IsFormat d) d.formats i f is.formats got

number_of : (d : Description) (i : ℕ) (f : FormatDecl) → IsDescription d → slice_get d.formats i ≡ Some f → f.number < 16
number_of d i f is got = All-slice_get (λ f. f.number < 16) d.formats i f (number_fits d is) got

pub space_of : (d : Description) (i : ℕ) (f : FormatDecl) → IsDescription d → slice_get d.formats i ≡ Some f → slots_space d f.slots ≤ 2 ^ (f.width - 8)
space_of d i f is got = All-slice_get (λ f. slots_space d f.slots ≤ 2 ^ (f.width - 8)) d.formats i f (slots_space-le d is) got

opcode_small : (width : ℕ) → opcode width < 16
opcode_small width = at (width == 64)
  where
    at : (b : Bool) → (if b then 15 else 14) < 16
    at true = omega arith
    at false = omega arith

wide_written : (d : Description) (i size : ℕ) (f : FormatDecl) (ps : List Part) → IsDescription d → slice_get d.formats i ≡ Some f → HasWide d (Some f) ps
    → read_wide d f.width size (format_word d f ps) ≡ Some (wide_at i size ps)
unfolding read_wide
wide_written d i size f ps is got has =
    let bits = slots_word d f.slots ps in
    let n = format_word d f ps in
    let number : n / 16 % 16 ≡ f.number = numbers bits f.number (opcode f.width) (number_of d i f is got) (opcode_small f.width) in
    let high : n / 256 ≡ bits = rest_of bits f.number (opcode f.width) (number_of d i f is got) (opcode_small f.width) in
    ap (λ z. let i = format_place f.width z d.formats in option_and_then (read_format d i size (n / 256)) (slice_get d.formats i)) number
    ∙ ap (λ z. option_and_then (read_format d z size (n / 256)) (slice_get d.formats z)) (format_is_first d i f is got)
    ∙ ap (λ o. option_and_then (read_format d i size (n / 256)) o) got
    ∙ ap (λ z. option_and_then (wide_of d i size) (read_slots d f.slots [] z)) high
    ∙ ap (λ o. option_and_then (wide_of d i size) o) (slots_written d f.slots [] ps (λ k. limit-le d k is) (form_of d i f is got).slots has.0)
    ∙ ap (λ b. if b then Some (wide_at i size ps) else None) has.1
  where
    numbers : (bits k op : ℕ) → k < 16 → op < 16 → ((bits * 16 + k) * 16 + op) / 16 % 16 ≡ k
    numbers bits k op a b = omega (arith, a, b)

    rest_of : (bits k op : ℕ) → k < 16 → op < 16 → ((bits * 16 + k) * 16 + op) / 256 ≡ bits
    rest_of bits k op a b = omega (arith, a, b)

-- a word is smaller than its width says
pub word_bound : (d : Description) (f : FormatDecl) (ps : List Part) (width top : ℕ) → IsDescription d → slots_fit d f.slots ps ≡ true → IsFormat d f → f.number < 16
    → slots_space d f.slots ≤ 2 ^ (f.width - 8) → f.width ≡ width → 2 ^ (width - 8) ≡ top → format_word d f ps < 256 * top
word_bound d f ps width top is fit form number room w e =
    let space : slots_space d f.slots ≤ top = subst (λ z. slots_space d f.slots ≤ z) (ap (λ z. 2 ^ (z - 8)) w ∙ e) room in
    below (slots_word d f.slots ps) (slots_space d f.slots) f.number (opcode f.width) top (slots_bound d f.slots ps is form.slots fit) space number (opcode_small f.width)
  where
    below : (bits space k op top : ℕ) → bits < space → space ≤ top → k < 16 → op < 16 → (bits * 16 + k) * 16 + op < 256 * top
    below bits space k op top a b c e = omega (arith, a, b, c, e)

-- the lowest four bits of a word's bytes
lowest : (bits k op : ℕ) → op < 16 → ((bits * 16 + k) * 16 + op) % 256 % 16 ≡ op
lowest bits k op h = omega (arith, h)

format_written : (d : Description) (i : ℕ) (f : FormatDecl) (ps : List Part) (rest : List ℕ) → IsDescription d → slice_get d.formats i ≡ Some f → HasWide d (Some f) ps
    → (f.width ≡ 64) ⊎ (f.width ≡ 32) → fetch d (wide_bytes d (Some f) ps ++ rest) ≡ Some (wide_at i (length (wide_bytes d (Some f) ps)) ps)
unfolding fetch
format_written d i f ps rest is got has (inl w) =
    let n = format_word d f ps in
    let small : n < 2 ^ 64 = word_bound d f ps 64 72057594037927936 is has.0 (form_of d i f is got) (number_of d i f is got) (space_of d i f is got) w refl in
    let wide : (f.width == 64) ≡ true = eq_to f.width 64 w in
    let low : n % 256 % 16 ≡ 15 = lowest (slots_word d f.slots ps) f.number (opcode f.width) (opcode_small f.width) ∙ ap opcode w in
    let op : (n % 256 % 16 == 15) ≡ true = eq_to _ 15 low in
    let bytes : wide_bytes d (Some f) ps ≡ to_le_bytes w64 n = ap (λ b. if b then to_le_bytes w64 n else to_le_bytes w32 n) wide in
    rw bytes (ap (λ b. if b then read_long d (to_le_bytes w64 n ++ rest) else (if n % 256 % 16 == 14 then read_short d (to_le_bytes w64 n ++ rest) else read_brief d (to_le_bytes w64 n ++ rest))) op
    ∙ ap (read_wide d 64 8) (from_le_bytes-to_le_bytes_8 n small)
    ∙ ap (λ z. read_wide d z 8 n) (sym w) ∙ wide_written d i 8 f ps is got has)
format_written d i f ps rest is got has (inr w) =
    let n = format_word d f ps in
    let small : n < 2 ^ 32 = word_bound d f ps 32 16777216 is has.0 (form_of d i f is got) (number_of d i f is got) (space_of d i f is got) w refl in
    let wide : (f.width == 64) ≡ false = ap (λ z. z == 64) w in
    let low : n % 256 % 16 ≡ 14 = lowest (slots_word d f.slots ps) f.number (opcode f.width) (opcode_small f.width) ∙ ap opcode w in
    let op : (n % 256 % 16 == 15) ≡ false = ap (λ z. z == 15) low in
    let op2 : (n % 256 % 16 == 14) ≡ true = eq_to _ 14 low in
    let bytes : wide_bytes d (Some f) ps ≡ to_le_bytes w32 n = ap (λ b. if b then to_le_bytes w64 n else to_le_bytes w32 n) wide in
    rw bytes (ap (λ b. if b then read_long d (to_le_bytes w32 n ++ rest) else (if n % 256 % 16 == 14 then read_short d (to_le_bytes w32 n ++ rest) else read_brief d (to_le_bytes w32 n ++ rest))) op
    ∙ ap (λ b. if b then read_short d (to_le_bytes w32 n ++ rest) else read_brief d (to_le_bytes w32 n ++ rest)) op2
    ∙ ap (read_wide d 32 4) (from_le_bytes-to_le_bytes_4 n small)
    ∙ ap (λ z. read_wide d z 4 n) (sym w) ∙ wide_written d i 4 f ps is got has)

pub two_widths : (w : ℕ) → (w == 32 || w == 64) ≡ true → (w ≡ 64) ⊎ (w ≡ 32)
two_widths w h = grind (arith, nat_tests)

-- ---- three bytes

word_small : (i : Inst) → Fits i → word i < 16777216
word_small i h = let m = read_fits i h in omega (arith, m.1.op0, m.1.t, m.1.s, m.1.r, m.1.op1, m.1.op2, m.2)

core_written : (i : Inst) → Fits i → read_core (word i % 256) (word i / 256 % 256) (word i / 65536 % 256) ≡ Some i
core_written i h = at (word i) (word_small i h) refl
  where
    split : ℕ → Fields
    split n = fields (n % 256 % 16) (n % 256 / 16) (n / 256 % 256 % 16) (n / 256 % 256 / 16) (n / 65536 % 256 % 16) (n / 65536 % 256 / 16)

    small : (n : ℕ) → AreSmall (split n)
    small n = record { op0 = omega arith; t = omega arith; s = omega arith; r = omega arith; op1 = omega arith; op2 = omega arith }

    whole : (n : ℕ) → n < 16777216 → word_of (split n) ≡ n
    whole n b = omega (arith, b)

    at : (n : ℕ) → n < 16777216 → n ≡ word i → read_core (n % 256) (n / 256 % 256) (n / 65536 % 256) ≡ Some i
    at n b e = complete (split n) (small n) i h (whole n b ∙ e)

-- no core instruction has the opcodes of formats
not_wide : (i : Inst) (k : ℕ) → ((t s r op1 op2 : ℕ) → core.read_fields k t s r op1 op2 ≡ None) → Fits i → word i % 256 % 16 ≡ k → ⊥
not_wide i k none h e =
    let n = word i in
    clash (sym (core_written i h) ∙ ap (λ z. core.read_fields z (n % 256 / 16) (n / 256 % 256 % 16) (n / 256 % 256 / 16) (n / 65536 % 256 % 16) (n / 65536 % 256 / 16)) e
    ∙ none (n % 256 / 16) (n / 256 % 256 % 16) (n / 256 % 256 / 16) (n / 65536 % 256 % 16) (n / 65536 % 256 / 16))
  where
    clash : Some i ≡ None → ⊥
    clash h = cc

brief : (d : Description) (n : ℕ) (rest : List ℕ) → (n % 256 % 16 ≡ 15 → ⊥) → (n % 256 % 16 ≡ 14 → ⊥)
    → fetch d (three_bytes n ++ rest) ≡ read_three d (n % 256) (n / 256 % 256) (n / 65536 % 256)
unfolding fetch
brief d n rest x y =
    let a : (n % 256 % 16 == 15) ≡ false = eq_not (n % 256 % 16) 15 x in
    let b : (n % 256 % 16 == 14) ≡ false = eq_not (n % 256 % 16) 14 y in
    ap (λ b. if b then read_long d (three_bytes n ++ rest) else (if n % 256 % 16 == 14 then read_short d (three_bytes n ++ rest) else read_brief d (three_bytes n ++ rest))) a
    ∙ ap (λ b. if b then read_short d (three_bytes n ++ rest) else read_brief d (three_bytes n ++ rest)) b

core_again : (d : Description) (i : Inst) (rest : List ℕ) → Fits i → fetch d (three_bytes (word i) ++ rest) ≡ Some (record { bundle = bundle.Core i; length = 3 })
unfolding read_three
core_again d i rest h =
    brief d (word i) rest (not_wide i 15 (λ t s r op1 op2. refl) h) (not_wide i 14 (λ t s r op1 op2. refl) h)
    ∙ ap (λ o. core_or o (read_op d (word i % 256) (word i / 256 % 256) (word i / 65536 % 256))) (core_written i h)

-- the bytes of an operation are those of no core instruction
no_core : (a b c : ℕ) → a % 16 ≡ 0 → (c % 16 ≡ 6) ⊎ (c % 16 ≡ 7) → read_core a b c ≡ None
no_core a b c e (inl f) = ap (λ z. core.read_fields z (a / 16) (b % 16) (b / 16) (c % 16) (c / 16)) e ∙ ap (λ z. core.read_fields 0 (a / 16) (b % 16) (b / 16) z (c / 16)) f
no_core a b c e (inr f) = ap (λ z. core.read_fields z (a / 16) (b % 16) (b / 16) (c % 16) (c / 16)) e ∙ ap (λ z. core.read_fields 0 (a / 16) (b % 16) (b / 16) z (c / 16)) f

op_fields : (d : Description) (i x y z : ℕ) (rest : List ℕ) → IsDescription d → i < length d.ops → AreFields 3 x y z → fits d (part (code.Op i) x y z) ≡ true → writes_differ d (part (code.Op i) x y z ∷ []) ≡ true
    → fetch d (three_bytes (op_word (code.Op i) (x ∷ y ∷ z ∷ [])) ++ rest) ≡ Some (record { bundle = bundle.One (part (code.Op i) x y z); length = 3 })
unfolding read_three read_op
op_fields d i x y z rest is lt small ok differ =
    let n = op_word (code.Op i) (x ∷ y ∷ z ∷ []) in
    let few = is.counts.ops in
    let hi : i < 32 = omega (arith, lt, few) in
    let hx = small.first.0 in let hy = small.second.0 in let hz = small.third.0 in
    let a = n % 256 in let b = n / 256 % 256 in let c = n / 65536 % 256 in
    let ea : a ≡ 16 * z = byte_a i x y z hi hx hy hz in
    let eb : b ≡ y + 16 * x = byte_b i x y z hi hx hy hz in
    let ec : c ≡ 6 + i / 16 + 16 * (i % 16) = byte_c i x y z hi hx hy hz in
    let low : a % 16 ≡ 0 = omega (arith, ea) in
    let six : 6 ≤ c % 16 = omega (arith, ec, hi) in
    let eight : c % 16 < 8 = omega (arith, ec, hi) in
    let op1 : (c % 16 ≡ 6) ⊎ (c % 16 ≡ 7) = which (c % 16) six eight in
    let ei : op_number c ≡ i = omega (arith, ec, hi) in
    let ex : b / 16 ≡ x = omega (arith, eb, hy) in let ey : b % 16 ≡ y = omega (arith, eb, hy) in let ez : a / 16 ≡ z = omega (arith, ea) in
    let test : is_op d a c ≡ true = all_of (a % 16) (c % 16) (op_number c) (length d.ops) low six eight (omega (arith, ei, lt)) in
    brief d n rest (λ e. absurd (omega (arith, e, low))) (λ e. absurd (omega (arith, e, low)))
    ∙ ap (λ o. core_or o (read_op d a b c)) (no_core a b c low op1)
    ∙ ap (λ t. if t then one_of d (part (code.Op (op_number c)) (b / 16) (b % 16) (a / 16)) else None) test
    ∙ ap (λ k. one_of d (part (code.Op k) (b / 16) (b % 16) (a / 16))) ei
    ∙ ap (λ k. one_of d (part (code.Op i) k (b % 16) (a / 16))) ex
    ∙ ap (λ k. one_of d (part (code.Op i) x k (a / 16))) ey
    ∙ ap (λ k. one_of d (part (code.Op i) x y k)) ez
    ∙ ap (λ t. if t && writes_differ d (part (code.Op i) x y z ∷ []) then Some (record { bundle = bundle.One (part (code.Op i) x y z); length = 3 }) else None) ok
    ∙ ap (λ t. if t then Some (record { bundle = bundle.One (part (code.Op i) x y z); length = 3 }) else None) differ
  where
    byte_a : (i x y z : ℕ) → i < 32 → x < 16 → y < 16 → z < 16 → rrr 0 z y x (6 + i / 16) (i % 16) % 256 ≡ 16 * z
    byte_a i x y z hi hx hy hz = omega (arith, hi, hx, hy, hz)

    byte_b : (i x y z : ℕ) → i < 32 → x < 16 → y < 16 → z < 16 → rrr 0 z y x (6 + i / 16) (i % 16) / 256 % 256 ≡ y + 16 * x
    byte_b i x y z hi hx hy hz = omega (arith, hi, hx, hy, hz)

    byte_c : (i x y z : ℕ) → i < 32 → x < 16 → y < 16 → z < 16 → rrr 0 z y x (6 + i / 16) (i % 16) / 65536 % 256 ≡ 6 + i / 16 + 16 * (i % 16)
    byte_c i x y z hi hx hy hz = omega (arith, hi, hx, hy, hz)

    which : (k : ℕ) → 6 ≤ k → k < 8 → (k ≡ 6) ⊎ (k ≡ 7)
    which k p q = grind arith

    all_of : (p q r s : ℕ) → p ≡ 0 → 6 ≤ q → q < 8 → r < s → (p == 0 && nat_le 6 q && nat_lt q 8 && nat_lt r s) ≡ true
    all_of p q r s e f g h = grind (arith, nat_tests)

op_again : (d : Description) (i : ℕ) (fs rest : List ℕ) → IsDescription d → HasSpelling d (bundle.One (record { code = code.Op i; fields = fs }))
    → fetch d (three_bytes (op_word (code.Op i) fs) ++ rest) ≡ Some (record { bundle = bundle.One (record { code = code.Op i; fields = fs }); length = 3 })
op_again d i fs rest is has =
    let two = both (length fs == 3) (fields_fit d (args_of d (code.Op i)) fs) has.1 in
    by_three fs (eq_of _ _ two.0) two.1 has.2
  where
    by_three : (fs : List ℕ) → length fs ≡ 3 → fields_fit d (args_of d (code.Op i)) fs ≡ true → writes_differ d (record { code = code.Op i; fields = fs } ∷ []) ≡ true
        → fetch d (three_bytes (op_word (code.Op i) fs) ++ rest) ≡ Some (record { bundle = bundle.One (record { code = code.Op i; fields = fs }); length = 3 })
    by_three [] e ok diff = absurd (omega (arith, e))
    by_three (x ∷ []) e ok diff = absurd (omega (arith, e))
    by_three (x ∷ y ∷ []) e ok diff = absurd (omega (arith, e))
    by_three (x ∷ y ∷ z ∷ []) e ok diff =
        op_fields d i x y z rest is has.0 (fits-fields d (args_of d (code.Op i)) 3 x y z (λ k. limit-le d k is) (few_args d (args_of d (code.Op i)) x y z ok) ok) ok diff
    by_three (x ∷ y ∷ z ∷ w ∷ fs) e ok diff = absurd (omega (arith, e))

-- what is written is fetched, whatever follows
pub again : (d : Description) (b : Bundle) (rest : List ℕ) → IsDescription d → HasSpelling d b → fetch d (spell d b ++ rest) ≡ Some (fetched_of d b)
again d (bundle.Core i) rest is has = core_again d i rest has
again d (bundle.One p) rest is has = by_code p.code refl has
  where
    by_code : (c : Code) → p.code ≡ c → HasSpelling d (bundle.One p) → fetch d (three_bytes (op_word p.code p.fields) ++ rest) ≡ Some (record { bundle = bundle.One p; length = 3 })
    by_code (code.Core c) e h = absurd (subst (IsOp d) e h.0)
    by_code (code.Op i) e h =
        let P : Part → Type 0 = λ q. HasSpelling d (bundle.One q) → fetch d (three_bytes (op_word q.code q.fields) ++ rest) ≡ Some (record { bundle = bundle.One q; length = 3 }) in
        let same : (let x : Part = record { code = code.Op i; fields = p.fields } in x) ≡ p = ap (λ c. (let x : Part = record { code = c; fields = p.fields } in x)) (sym e) in
        subst P same (op_again d i p.fields rest is) h
again d (bundle.Wide i ps) rest is has =
    let g = get_some d.formats i has.0 in
    let h : HasWide d (Some g.0) ps.items = subst (λ o. HasWide d o ps.items) g.1 has.1 in
    let e : wide_bytes d (slice_get d.formats i) ps.items ≡ wide_bytes d (Some g.0) ps.items = ap (λ o. wide_bytes d o ps.items) g.1 in
    rw e (format_written d i g.0 ps.items rest is g.1 h (two_widths g.0.width (form_of d i g.0 is g.1).width))

same_bundle : (f g : Fetched) → Some f ≡ Some g → f.bundle ≡ g.bundle
same_bundle f g h = let e : f ≡ g = cc in ap (λ z. z.bundle) e

-- two bundles whose bytes begin some bytes are one
pub one_bundle : (d : Description) (a b : Bundle) (x y : List ℕ) → IsDescription d → HasSpelling d a → HasSpelling d b → spell d a ++ x ≡ spell d b ++ y → a ≡ b
one_bundle d a b x y is p q e = same_bundle (fetched_of d a) (fetched_of d b) (sym (again d a x is p) ∙ ap (fetch d) e ∙ again d b y is q)
