-- Slots, written and read.
use Rattle.std.proofs.Common.{◌≡◌, ℕ, suc, zero, ◌+◌, ◌*◌, ◌/◌, ◌%◌, ◌^◌, ◌<◌, ◌≤◌, Bool, true, false, cond, List, [], ◌∷◌, ◌++◌, length, refl, sym, ap, subst, ◌∙◌, arith, Some, None, All, get_or, append_assoc, append-nil}
use Rattle.std.specs.Prelude.{◌==◌, nat_lt, ◌&&◌, not, slice_get, option_and_then}
use Rattle.std.proofs.lemmas.Option.{option_and_then_some, cond_some}
use Rattle.std.proofs.lemmas.Nat.{mod-mul-add, div-mul-add, div-add-mod'}
use Rattle.std.proofs.Math.Nat.{mul-le-mul_left}
use Rattle.tie_desc.proofs.Lists.{All-tail}
use Rattle.tie_desc.proofs.SlotLemmas.{place_of-own, longest-le, limit-le}
use Rattle.tie_desc.specs.Description.{Description}
use Rattle.tie_desc.specs.Invariant.{IsSlot, IsDescription}
use Rattle.tie_desc.specs.Slots.{args_of, longest, code_space, place_of, same_code, core_number, slots_space}
use Rattle.tie_desc.specs.Spelling.{put, fields_below, slot_below, slots_word, fields_fit, part_fits, is_listed, slots_fit}
use Rattle.tie_desc.specs.declared.formats.SlotCore.{SlotCore}
use Rattle.tie_desc.specs.declared.formats.SlotCore.TheVariants as core
use Rattle.tie_desc.specs.declared.formats.Code.{Code}
use Rattle.tie_desc.specs.declared.formats.Code.TheVariants as code
use Rattle.tie_desc.specs.declared.formats.SlotDecl.{SlotDecl}
use Rattle.tie_desc.specs.declared.bundle.Part.{Part}
use Rattle.tie_flix.specs.Reading.{field, above, part, fits, fitting, read_fields, read_slot, read_slots}
use Rattle.tie_flix.proofs.Decided.{both, lt_of, lt_to, eq_of, get_within}
use Rattle.tie_flix.proofs.FieldLemmas.{code_space-room, field-put, above-put, put-field, AreFields, Limited, fits-fields, longest-most}

-- ---- what is read is written so

pub fields_read : (d : Description) (n bits : ℕ) (c : Code) (x : Part × ℕ) → read_fields d n bits c ≡ Some x
    → (x.0.code ≡ c) × (part_fits d x.0 ≡ true) × (fields_below n 0 x.0.fields x.1 ≡ bits)
fields_read d n bits c x h =
    let second = above (nat_lt 0 n) bits in
    let third = above (nat_lt 1 n) second in
    let p = part c (field (nat_lt 0 n) bits) (field (nat_lt 1 n) second) (field (nat_lt 2 n) third) in
    let g = cond_some (fits d p) (p, above (nat_lt 2 n) third) x h in
    let whole : fields_below n 0 p.fields (above (nat_lt 2 n) third) ≡ bits =
    ap (λ z. put (nat_lt 0 n) (field (nat_lt 0 n) bits) (put (nat_lt 1 n) (field (nat_lt 1 n) second) z)) (put-field (nat_lt 2 n) third)
    ∙ ap (λ z. put (nat_lt 0 n) (field (nat_lt 0 n) bits) z) (put-field (nat_lt 1 n) second) ∙ put-field (nat_lt 0 n) bits in
    let P : Part × ℕ → Type 0 = λ y. (y.0.code ≡ c) × (part_fits d y.0 ≡ true) × (fields_below n 0 y.0.fields y.1 ≡ bits) in
    subst P g.1 (refl, g.0, whole)

pub slot_read : (d : Description) (s : SlotDecl) (bits : ℕ) (x : Part × ℕ) → IsSlot d s → read_slot d s bits ≡ Some x
    → ((is_listed s x.0 && part_fits d x.0) ≡ true) × (slot_below d s x.0 x.1 ≡ bits)
unfolding read_slot
slot_read d s bits x is h =
    let space = code_space (length s.codes) in
    option_and_then_some (read_fields d (longest d s.codes) (bits / space)) (slice_get s.codes (bits % space)) x h
    (λ c got more.
    let f = fields_read d (longest d s.codes) (bits / space) c x more in
    let place : place_of x.0.code s.codes ≡ bits % space = ap (λ z. place_of z s.codes) f.0 ∙ place_of-own d s (bits % space) c is got in
    let within = get_within s.codes (bits % space) c got in
    let listed : is_listed s x.0 ≡ true = lt_to _ _ (omega (arith, place, within)) in (
      ap (λ b. b && part_fits d x.0) listed ∙ f.1,
      ap (λ z. z * space + place_of x.0.code s.codes) f.2 ∙ ap (λ z. bits / space * space + z) place ∙ div-add-mod' bits space,
    ))

pub record AreRead (d : Description) (ss : List SlotDecl) (bits : ℕ) (before ps : List Part) : Type 0 where
  pub more : List Part
  pub whole : ps ≡ before ++ more
  pub fit : slots_fit d ss more ≡ true
  pub word : slots_word d ss more ≡ bits

pub slots_read : (d : Description) (ss : List SlotDecl) (before : List Part) (bits : ℕ) (ps : List Part) → All (IsSlot d) ss → read_slots d ss before bits ≡ Some ps → AreRead d ss bits before ps
slots_read d [] before bits ps is h =
    let g = cond_some (bits == 0) before ps h in
    record { more = []; whole = sym g.1 ∙ sym (append-nil before); fit = refl; word = sym (eq_of bits 0 g.0) }
slots_read d (s ∷ ss) before bits ps is h =
    option_and_then_some (λ x. read_slots d ss (before ++ x.0 ∷ []) x.1) (read_slot d s bits) ps h
    (λ x got more.
    let one = slot_read d s bits x (is 0 s (omega arith)) got in
    let rest = slots_read d ss (before ++ x.0 ∷ []) x.1 ps (All-tail (IsSlot d) s ss is) more in
    record {
      more = x.0 ∷ rest.more;
      whole = rest.whole ∙ append_assoc before (x.0 ∷ []) rest.more;
      fit = ap (λ b. b && slots_fit d ss rest.more) one.0 ∙ rest.fit;
      word = ap (λ z. slot_below d s x.0 z) rest.word ∙ one.1;
    })

-- ---- what is written is read so

cores : List SlotCore
cores =
    core.Add ∷ core.Addx2 ∷ core.Addx4 ∷ core.Addx8 ∷ core.Sub ∷ core.Subx2 ∷ core.Subx4 ∷ core.Subx8 ∷ core.And
    ∷ core.Or ∷ core.Xor ∷ core.Min ∷ core.Max ∷ core.Minu ∷ core.Maxu ∷ core.Mull ∷ core.Nop ∷ []

core_at : ℕ → SlotCore
core_at n = get_or cores n core.Nop

core_at-number : (c : SlotCore) → core_at (core_number c) ≡ c
unfolding core_at cores
core_at-number core.Add = refl
core_at-number core.Addx2 = refl
core_at-number core.Addx4 = refl
core_at-number core.Addx8 = refl
core_at-number core.Sub = refl
core_at-number core.Subx2 = refl
core_at-number core.Subx4 = refl
core_at-number core.Subx8 = refl
core_at-number core.And = refl
core_at-number core.Or = refl
core_at-number core.Xor = refl
core_at-number core.Min = refl
core_at-number core.Max = refl
core_at-number core.Minu = refl
core_at-number core.Maxu = refl
core_at-number core.Mull = refl
core_at-number core.Nop = refl

code_same : (a b : Code) → same_code a b ≡ true → a ≡ b
code_same (code.Core a) (code.Core b) h =
    ap code.Core (sym (core_at-number a) ∙ ap core_at (eq_of (core_number a) (core_number b) h) ∙ core_at-number b)
code_same (code.Op a) (code.Op b) h = ap code.Op (eq_of a b h)
code_same (code.Core a) (code.Op b) h = absurd cc
code_same (code.Op a) (code.Core b) h = absurd cc

-- what has a place stands there
pub get-place : (c : Code) (cs : List Code) → place_of c cs < length cs → slice_get cs (place_of c cs) ≡ Some c
get-place c [] h = absurd (omega arith)
get-place c (x ∷ cs) h = at (same_code x c) refl h (λ k. get-place c cs k)
  where
    at : (b : Bool) → same_code x c ≡ b → cond (not b) (1 + place_of c cs) 0 < length (x ∷ cs) → (place_of c cs < length cs → slice_get cs (place_of c cs) ≡ Some c)
        → slice_get (x ∷ cs) (cond (not b) (1 + place_of c cs) 0) ≡ Some c
    at true e k rest = ap Some (code_same x c e)
    at false e k rest = let i : 1 + place_of c cs ≡ suc (place_of c cs) = omega arith in rw i (rest (omega arith))

three_written : (d : Description) (n : ℕ) (c : Code) (a b e up : ℕ) → AreFields n a b e → fits d (part c a b e) ≡ true
    → read_fields d n (fields_below n 0 (a ∷ b ∷ e ∷ []) up) c ≡ Some (part c a b e, up)
three_written d n c a b e up small ok =
    let u = nat_lt 0 n in let v = nat_lt 1 n in let w = nat_lt 2 n in
    let top = put w e up in let mid = put v b top in let all = put u a mid in
    let one : above u all ≡ mid = above-put u a mid small.first in
    let two : above v (above u all) ≡ top = ap (above v) one ∙ above-put v b top small.second in
    let rest : above w (above v (above u all)) ≡ up = ap (above w) two ∙ above-put w e up small.third in
    let fa : field u all ≡ a = field-put u a mid small.first in
    let fb : field v (above u all) ≡ b = ap (field v) one ∙ field-put v b top small.second in
    let fe : field w (above v (above u all)) ≡ e = ap (field w) two ∙ field-put w e up small.third in
    ap (λ z. fitting d (part c z (field v (above u all)) (field w (above v (above u all)))) (above w (above v (above u all)))) fa
    ∙ ap (λ z. fitting d (part c a z (field w (above v (above u all)))) (above w (above v (above u all)))) fb
    ∙ ap (λ z. fitting d (part c a b z) (above w (above v (above u all)))) fe
    ∙ ap (λ z. fitting d (part c a b e) z) rest
    ∙ ap (λ z. cond z (Some (part c a b e, up)) None) ok

pub fields_written : (d : Description) (n : ℕ) (c : Code) (fs : List ℕ) (up : ℕ) → Limited d → length (args_of d c) ≤ n → length fs ≡ 3 → fields_fit d (args_of d c) fs ≡ true
    → read_fields d n (fields_below n 0 fs up) c ≡ Some (record { code = c; fields = fs }, up)
fields_written d n c [] up lim len three ok = absurd (omega (arith, three))
fields_written d n c (a ∷ []) up lim len three ok = absurd (omega (arith, three))
fields_written d n c (a ∷ b ∷ []) up lim len three ok = absurd (omega (arith, three))
fields_written d n c (a ∷ b ∷ e ∷ []) up lim len three ok = three_written d n c a b e up (fits-fields d (args_of d c) n a b e lim len ok) ok
fields_written d n c (a ∷ b ∷ e ∷ f ∷ fs) up lim len three ok = absurd (omega (arith, three))

pub slot_written : (d : Description) (s : SlotDecl) (p : Part) (up : ℕ) → Limited d → IsSlot d s → (is_listed s p && part_fits d p) ≡ true → read_slot d s (slot_below d s p up) ≡ Some (p, up)
unfolding read_slot
slot_written d s p up lim is ok =
    let space = code_space (length s.codes) in
    let n = longest d s.codes in
    let place = place_of p.code s.codes in
    let bits = fields_below n 0 p.fields up in
    let one = both (is_listed s p) (part_fits d p) ok in
    let two = both (length p.fields == 3) (fields_fit d (args_of d p.code) p.fields) one.1 in
    let within = lt_of place (length s.codes) one.0 in
    let room = code_space-room (length s.codes) is.few in
    let below : place < space = omega (arith, within, room) in
    let low : (bits * space + place) % space ≡ place = mod-mul-add bits space place below in
    let high : (bits * space + place) / space ≡ bits = div-mul-add bits space place below in
    let got = get-place p.code s.codes within in
    ap (λ z. option_and_then (read_fields d n z) (slice_get s.codes ((bits * space + place) % space))) high
    ∙ ap (λ z. option_and_then (read_fields d n bits) (slice_get s.codes z)) low
    ∙ ap (λ z. option_and_then (read_fields d n bits) z) got
    ∙ fields_written d n p.code p.fields up lim (longest-most d s.codes place p.code got) (eq_of _ _ two.0) two.1

pub slots_written : (d : Description) (ss : List SlotDecl) (before ps : List Part) → Limited d → All (IsSlot d) ss → slots_fit d ss ps ≡ true → read_slots d ss before (slots_word d ss ps) ≡ Some (before ++ ps)
slots_written d [] before [] lim is ok = ap Some (sym (append-nil before))
slots_written d [] before (p ∷ ps) lim is ok = absurd cc
slots_written d (s ∷ ss) before [] lim is ok = absurd cc
slots_written d (s ∷ ss) before (p ∷ ps) lim is ok =
    let two = both (is_listed s p && part_fits d p) (slots_fit d ss ps) ok in
    ap (λ o. option_and_then (λ x. read_slots d ss (before ++ x.0 ∷ []) x.1) o) (slot_written d s p (slots_word d ss ps) lim (is 0 s (omega arith)) two.0)
    ∙ slots_written d ss (before ++ p ∷ []) ps lim (All-tail (IsSlot d) s ss is) two.1
    ∙ ap Some (append_assoc before (p ∷ []) ps)

-- ---- how large it is

times_below : (x y space place : ℕ) → x < y → place < space → x * space + place < y * space
times_below x y space place h k =
    let e : x + 1 ≤ y = omega (arith, h) in omega (arith, k, mul-le-mul_left space e)

three_bound : (n a b e up room : ℕ) → n ≤ 3 → AreFields n a b e → up < room → fields_below n 0 (a ∷ b ∷ e ∷ []) up < 16 ^ n * room
three_bound zero a b e up room h s k = omega (arith, k)
three_bound (suc zero) a b e up room h s k = omega (arith, k, s.first.0)
three_bound (suc (suc zero)) a b e up room h s k = omega (arith, k, s.first.0, s.second.0)
three_bound (suc (suc (suc zero))) a b e up room h s k = omega (arith, k, s.first.0, s.second.0, s.third.0)
three_bound (suc (suc (suc (suc n)))) a b e up room h s k = absurd (omega (arith, h))

fields_bound : (d : Description) (n : ℕ) (c : Code) (fs : List ℕ) (up room : ℕ) → Limited d → n ≤ 3 → length (args_of d c) ≤ n → length fs ≡ 3 → fields_fit d (args_of d c) fs ≡ true → up < room
    → fields_below n 0 fs up < 16 ^ n * room
fields_bound d n c [] up room lim few len three ok k = absurd (omega (arith, three))
fields_bound d n c (a ∷ []) up room lim few len three ok k = absurd (omega (arith, three))
fields_bound d n c (a ∷ b ∷ []) up room lim few len three ok k = absurd (omega (arith, three))
fields_bound d n c (a ∷ b ∷ e ∷ []) up room lim few len three ok k = three_bound n a b e up room few (fits-fields d (args_of d c) n a b e lim len ok) k
fields_bound d n c (a ∷ b ∷ e ∷ f ∷ fs) up room lim few len three ok k = absurd (omega (arith, three))

slot_bound : (d : Description) (s : SlotDecl) (p : Part) (up room : ℕ) → IsDescription d → IsSlot d s → (is_listed s p && part_fits d p) ≡ true → up < room
    → slot_below d s p up < code_space (length s.codes) * 16 ^ longest d s.codes * room
slot_bound d s p up room ok is fit k =
    let space = code_space (length s.codes) in
    let n = longest d s.codes in
    let place = place_of p.code s.codes in
    let one = both (is_listed s p) (part_fits d p) fit in
    let two = both (length p.fields == 3) (fields_fit d (args_of d p.code) p.fields) one.1 in
    let within = lt_of place (length s.codes) one.0 in
    let below : place < space = omega (arith, within, code_space-room (length s.codes) is.few) in
    let bits = fields_bound d n p.code p.fields up room (λ kind. limit-le d kind ok) (longest-le d s.codes ok) (longest-most d s.codes place p.code (get-place p.code s.codes within)) (eq_of _ _ two.0) two.1 k in
    let all = times_below (fields_below n 0 p.fields up) (16 ^ n * room) space place bits below in
    omega (arith, all)

pub slots_bound : (d : Description) (ss : List SlotDecl) (ps : List Part) → IsDescription d → All (IsSlot d) ss → slots_fit d ss ps ≡ true → slots_word d ss ps < slots_space d ss
slots_bound d [] [] ok is fit = omega arith
slots_bound d [] (p ∷ ps) ok is fit = absurd cc
slots_bound d (s ∷ ss) [] ok is fit = absurd cc
slots_bound d (s ∷ ss) (p ∷ ps) ok is fit =
    let two = both (is_listed s p && part_fits d p) (slots_fit d ss ps) fit in
    slot_bound d s p (slots_word d ss ps) (slots_space d ss) ok (is 0 s (omega arith)) two.0 (slots_bound d ss ps ok (All-tail (IsSlot d) s ss is) two.1)
