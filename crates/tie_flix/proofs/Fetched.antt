-- What is fetched is spelled.
use Rattle.std.proofs.Common.{◌≡◌, ℕ, suc, zero, ◌+◌, ◌*◌, ◌/◌, ◌%◌, ◌<◌, ◌≤◌, Bool, true, false, List, [], ◌∷◌, ◌++◌, length, refl, sym, ap, subst, ◌∙◌, arith, nat_le, Option, Some, None, get_or, if◌then◌else◌}
use Rattle.std.specs.Prelude.{◌==◌, nat_lt, ◌&&◌, slice_get}
use Rattle.std.specs.Int.{to_le_bytes, from_le_bytes, w32, w64}
use Rattle.std.proofs.lemmas.Option.{option_and_then_some, cond_some}
use Rattle.std.proofs.lemmas.Nat.{le_bytes_4, le_bytes_8}
use Rattle.xt_isa.specs.declared.instruction.Inst.{Inst}
use Rattle.xt_isa.specs.Formats.{rrr}
use Rattle.xt_isa.specs.Table.{word}
use Rattle.xt_isa.proofs.Fields.{AreSmall, Fields, IsSoundAt, fields, word_of}
use Rattle.xt_isa.proofs.SoundLemmas.{sound}
use Rattle.tie_desc.proofs.Lists.{All-slice_get}
use Rattle.tie_desc.specs.Description.{Description}
use Rattle.tie_desc.specs.Invariant.{IsDescription, IsFormat}
use Rattle.tie_desc.specs.Slots.{is_format, format_place}
use Rattle.tie_desc.specs.Spelling.{three_bytes, op_word, slots_word, format_word, wide_bytes, spell, slots_fit, writes_differ, HasWide, HasSpelling}
use Rattle.tie_desc.specs.Fetching.{IsFetched}
use Rattle.tie_desc.specs.declared.formats.Code.TheVariants as code
use Rattle.tie_desc.specs.declared.formats.FormatDecl.{FormatDecl}
use Rattle.tie_desc.specs.declared.bundle.Part.{Part}
use Rattle.tie_desc.specs.declared.bundle.Bundle.TheVariants as bundle
use Rattle.tie_desc.specs.declared.bundle.Fetched.{Fetched}
use Rattle.tie_flix.specs.Reading.{part, fits, read_slots, wide_of, read_format, read_wide, one_of, op_number, is_op, read_op, read_core, core_or, read_three, read_long, read_short, read_brief, fetch}
use Rattle.tie_flix.proofs.Decided.{both, lt_of, le_of, eq_of, get_within, found_passes}
use Rattle.tie_flix.proofs.SlotLemmas.{slots_read}

abbrev pub AreBytes : List ℕ → Type 0
AreBytes bytes = (i : ℕ) → get_or bytes i 0 < 256

-- ---- formats

-- the lowest four bits tell the width
abbrev pub opcode : ℕ → ℕ
opcode width = if width == 64 then 15 else 14

record IsWideRead (d : Description) (width size n : ℕ) (f : Fetched) : Type 0 where
  format : FormatDecl
  place : ℕ
  parts : List Part
  got : slice_get d.formats place ≡ Some format
  is : (let x : Fetched = record { bundle = bundle.Wide place (record { items = parts }); length = size } in x) ≡ f
  has : HasWide d (Some format) parts
  word_is : format_word d format parts ≡ n
  width_is : format.width ≡ width

wide_read : (d : Description) (width size n : ℕ) (f : Fetched) → IsDescription d → n % 16 ≡ opcode width → read_wide d width size n ≡ Some f → IsWideRead d width size n f
unfolding read_wide
wide_read d width size n f is low h =
    let i = format_place width (n / 16 % 16) d.formats in
    option_and_then_some (read_format d i size (n / 256)) (slice_get d.formats i) f h
    (λ fmt got more.
    option_and_then_some (wide_of d i size) (read_slots d fmt.slots [] (n / 256)) f more
    (λ ps slots last.
    let g = cond_some (writes_differ d ps) (record { bundle = bundle.Wide i (record { items = ps }); length = size }) f last in
    let test = both (fmt.width == width) (fmt.number == n / 16 % 16) (found_passes (is_format width (n / 16 % 16)) d.formats fmt got) in
    let number = eq_of fmt.number (n / 16 % 16) test.1 in
    let same = eq_of fmt.width width test.0 in
    let r = slots_read d fmt.slots [] (n / 256) ps (All-slice_get (IsFormat d) d.formats i fmt is.formats got).slots slots in
    let op : opcode fmt.width ≡ n % 16 = ap opcode same ∙ sym low in
    record {
      format = fmt;
      place = i;
      parts = ps;
      got = got;
      is = g.1;
      has = (ap (slots_fit d fmt.slots) r.whole ∙ r.fit, g.0);
      word_is = all fmt ps n number op (ap (slots_word d fmt.slots) r.whole ∙ r.word);
      width_is = same;
    }))
  where
    sum_of : (bits number op n : ℕ) → number ≡ n / 16 % 16 → op ≡ n % 16 → bits ≡ n / 256 → (bits * 16 + number) * 16 + op ≡ n
    sum_of bits number op n a b c = omega (arith, a, b, c)

    all : (fmt : FormatDecl) (ps : List Part) (n : ℕ) → fmt.number ≡ n / 16 % 16 → opcode fmt.width ≡ n % 16 → slots_word d fmt.slots ps ≡ n / 256 → format_word d fmt ps ≡ n
    all fmt ps n number op bits = sum_of (slots_word d fmt.slots ps) fmt.number (opcode fmt.width) n number op bits

-- a word of that width at the front of some bytes
of_wide : (d : Description) (width size n : ℕ) (f : Fetched) (bytes front rest : List ℕ) → bytes ≡ front ++ rest → length front ≡ size
    → (if width == 64 then to_le_bytes w64 n else to_le_bytes w32 n) ≡ front → IsWideRead d width size n f → IsFetched d bytes f
of_wide d width size n f bytes front rest cut len spelled r =
    let spell_is : spell d (bundle.Wide r.place (record { items = r.parts })) ≡ front =
    ap (λ o. wide_bytes d o r.parts) r.got
    ∙ ap (λ w. if w == 64 then to_le_bytes w64 (format_word d r.format r.parts) else to_le_bytes w32 (format_word d r.format r.parts)) r.width_is
    ∙ ap (λ w. if width == 64 then to_le_bytes w64 w else to_le_bytes w32 w) r.word_is ∙ spelled in
    let has : HasSpelling d (bundle.Wide r.place (record { items = r.parts })) =
    (get_within d.formats r.place r.format r.got, subst (λ o. HasWide d o r.parts) (sym r.got) r.has) in
    subst (IsFetched d bytes) r.is (record { has = has; length_is = sym (ap length spell_is ∙ len); begins = (rest, cut ∙ ap (λ z. z ++ rest) (sym spell_is)) })

front_bytes : (xs ys : List ℕ) → AreBytes (xs ++ ys) → AreBytes xs
front_bytes [] ys s i = omega arith
front_bytes (x ∷ xs) ys s zero = s 0
front_bytes (x ∷ xs) ys s (suc i) = front_bytes xs ys (λ j. s (suc j)) i

long_read : (d : Description) (bytes : List ℕ) (f : Fetched) → IsDescription d → AreBytes bytes → get_or bytes 0 0 % 16 ≡ 15 → read_long d bytes ≡ Some f → IsFetched d bytes f
long_read d [] f is small low h = absurd cc
long_read d (a ∷ []) f is small low h = absurd cc
long_read d (a ∷ b ∷ []) f is small low h = absurd cc
long_read d (a ∷ b ∷ c ∷ []) f is small low h = absurd cc
long_read d (a ∷ b ∷ c ∷ e ∷ []) f is small low h = absurd cc
long_read d (a ∷ b ∷ c ∷ e ∷ g ∷ []) f is small low h = absurd cc
long_read d (a ∷ b ∷ c ∷ e ∷ g ∷ i ∷ []) f is small low h = absurd cc
long_read d (a ∷ b ∷ c ∷ e ∷ g ∷ i ∷ j ∷ []) f is small low h = absurd cc
long_read d (a ∷ b ∷ c ∷ e ∷ g ∷ i ∷ j ∷ k ∷ rest) f is small low h =
    let front = a ∷ b ∷ c ∷ e ∷ g ∷ i ∷ j ∷ k ∷ [] in
    let n = from_le_bytes w64 front in
    let op : n % 16 ≡ 15 = omega (arith, low) in
    of_wide d 64 8 n f (a ∷ b ∷ c ∷ e ∷ g ∷ i ∷ j ∷ k ∷ rest) front rest refl refl (le_bytes_8 front n refl (front_bytes front rest small) refl) (wide_read d 64 8 n f is op h)

short_read : (d : Description) (bytes : List ℕ) (f : Fetched) → IsDescription d → AreBytes bytes → get_or bytes 0 0 % 16 ≡ 14 → read_short d bytes ≡ Some f → IsFetched d bytes f
short_read d [] f is small low h = absurd cc
short_read d (a ∷ []) f is small low h = absurd cc
short_read d (a ∷ b ∷ []) f is small low h = absurd cc
short_read d (a ∷ b ∷ c ∷ []) f is small low h = absurd cc
short_read d (a ∷ b ∷ c ∷ e ∷ rest) f is small low h =
    let front = a ∷ b ∷ c ∷ e ∷ [] in
    let n = from_le_bytes w32 front in
    let op : n % 16 ≡ 14 = omega (arith, low) in
    of_wide d 32 4 n f (a ∷ b ∷ c ∷ e ∷ rest) front rest refl refl (le_bytes_4 front n refl (front_bytes front rest small) refl) (wide_read d 32 4 n f is op h)

-- ---- three bytes

three_is : (a b c n : ℕ) → a < 256 → b < 256 → c < 256 → n ≡ a + 256 * b + 65536 * c → three_bytes n ≡ a ∷ b ∷ c ∷ []
three_is a b c n ha hb hc e =
    let x : n % 256 ≡ a = omega (arith, ha, hb, hc, e) in
    let y : n / 256 % 256 ≡ b = omega (arith, ha, hb, hc, e) in
    let z : n / 65536 % 256 ≡ c = omega (arith, ha, hb, hc, e) in
    rw (x, y, z) refl

of_three : (d : Description) (a b c : ℕ) (rest : List ℕ) (f : Fetched) → a < 256 → b < 256 → c < 256 → HasSpelling d f.bundle → f.length ≡ 3
    → (n : ℕ) → spell d f.bundle ≡ three_bytes n → n ≡ a + 256 * b + 65536 * c → IsFetched d (a ∷ b ∷ c ∷ rest) f
of_three d a b c rest f ha hb hc has len n s e =
    record { has = has; length_is = len ∙ sym (ap length s); begins = (rest, ap (λ z. z ++ rest) (sym (s ∙ three_is a b c n ha hb hc e))) }

core_read : (a b c : ℕ) → a < 256 → b < 256 → c < 256 → IsSoundAt (a + 256 * b + 65536 * c) (read_core a b c)
core_read a b c ha hb hc =
    let f : Fields = fields (a % 16) (a / 16) (b % 16) (b / 16) (c % 16) (c / 16) in
    let small : AreSmall f = record { op0 = omega (arith, ha); t = omega (arith, ha); s = omega (arith, hb); r = omega (arith, hb); op1 = omega (arith, hc); op2 = omega (arith, hc) } in
    let whole : word_of f ≡ a + 256 * b + 65536 * c = omega arith in
    subst (λ w. IsSoundAt w (read_core a b c)) whole (sound f small)

op_read : (d : Description) (a b c : ℕ) (rest : List ℕ) (f : Fetched) → a < 256 → b < 256 → c < 256 → read_op d a b c ≡ Some f → IsFetched d (a ∷ b ∷ c ∷ rest) f
unfolding read_op
op_read d a b c rest f ha hb hc h =
    let i = op_number c in
    let p = part (code.Op i) (b / 16) (b % 16) (a / 16) in
    let g = cond_some' (is_op d a c) (one_of d p) f h in
    let one = both (a % 16 == 0 && nat_le 6 (c % 16) && nat_lt (c % 16) 8) (nat_lt i (length d.ops)) g.0 in
    let two = both (a % 16 == 0 && nat_le 6 (c % 16)) (nat_lt (c % 16) 8) one.0 in
    let three' = both (a % 16 == 0) (nat_le 6 (c % 16)) two.0 in
    let none = eq_of (a % 16) 0 three'.0 in
    let low : 6 ≤ c % 16 = le_of 6 (c % 16) three'.1 in
    let high = lt_of (c % 16) 8 two.1 in
    let last = cond_some (fits d p && writes_differ d (p ∷ [])) (record { bundle = bundle.One p; length = 3 }) f g.1 in
    let parts = both (fits d p) (writes_differ d (p ∷ [])) last.0 in
    subst (IsFetched d (a ∷ b ∷ c ∷ rest)) last.1
    (of_three d a b c rest (record { bundle = bundle.One p; length = 3 }) ha hb hc (lt_of i (length d.ops) one.1, parts.0, parts.1) refl (op_word p.code p.fields) refl (word_is a b c none low high hb hc))
  where
    cond_some' : (b : Bool) (o : Option Fetched) (f : Fetched) → (if b then o else None) ≡ Some f → (b ≡ true) × (o ≡ Some f)
    cond_some' true o f h = (refl, h)
    cond_some' false o f h = absurd cc

    word_is : (a b c : ℕ) → a % 16 ≡ 0 → 6 ≤ c % 16 → c % 16 < 8 → b < 256 → c < 256
        → rrr 0 (a / 16) (b % 16) (b / 16) (6 + op_number c / 16) (op_number c % 16) ≡ a + 256 * b + 65536 * c
    word_is a b c none low high hb hc = omega (arith, none, low, high, hb, hc)

three_read : (d : Description) (a b c : ℕ) (rest : List ℕ) (f : Fetched) → a < 256 → b < 256 → c < 256 → read_three d a b c ≡ Some f → IsFetched d (a ∷ b ∷ c ∷ rest) f
unfolding read_three
three_read d a b c rest f ha hb hc h = by_core (read_core a b c) (core_read a b c ha hb hc) h
  where
    by_core : (o : Option Inst) → IsSoundAt (a + 256 * b + 65536 * c) o → core_or o (read_op d a b c) ≡ Some f → IsFetched d (a ∷ b ∷ c ∷ rest) f
    by_core None good k = op_read d a b c rest f ha hb hc k
    by_core (Some i) good k =
        let same : (let x : Fetched = record { bundle = bundle.Core i; length = 3 } in x) ≡ f = cc in
        subst (IsFetched d (a ∷ b ∷ c ∷ rest)) same
        (of_three d a b c rest (record { bundle = bundle.Core i; length = 3 }) ha hb hc good.0 refl (word i) refl (sym good.1))

brief_read : (d : Description) (bytes : List ℕ) (f : Fetched) → AreBytes bytes → read_brief d bytes ≡ Some f → IsFetched d bytes f
brief_read d [] f small h = absurd cc
brief_read d (a ∷ []) f small h = absurd cc
brief_read d (a ∷ b ∷ []) f small h = absurd cc
brief_read d (a ∷ b ∷ c ∷ rest) f small h = three_read d a b c rest f (small 0) (small 1) (small 2) h

-- what is fetched stands at the front
pub fetched : (d : Description) (bytes : List ℕ) (f : Fetched) → IsDescription d → AreBytes bytes → fetch d bytes ≡ Some f → IsFetched d bytes f
unfolding fetch
fetched d bytes f is small h = by_op (get_or bytes 0 0 % 16 == 15) (get_or bytes 0 0 % 16 == 14) refl refl h
  where
    by_op : (x y : Bool) → (get_or bytes 0 0 % 16 == 15) ≡ x → (get_or bytes 0 0 % 16 == 14) ≡ y
        → (if x then read_long d bytes else (if y then read_short d bytes else read_brief d bytes)) ≡ Some f → IsFetched d bytes f
    by_op true y e g k = long_read d bytes f is small (eq_of _ 15 e) k
    by_op false true e g k = short_read d bytes f is small (eq_of _ 14 g) k
    by_op false false e g k = brief_read d bytes f small k
