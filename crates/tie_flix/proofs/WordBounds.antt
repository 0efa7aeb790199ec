-- Words as they are written: no step passes 64 bits.
use Rattle.std.proofs.Common.{◌≡◌, ℕ, suc, zero, ◌+◌, ◌-◌, ◌^◌, ◌<◌, ◌≤◌, true, Bool, false, List, [], ◌∷◌, length, take, drop, refl, sym, ap, subst, ◌∙◌, arith, ⊎_elim}
use Rattle.std.specs.Prelude.{nat_lt}
use Rattle.std.proofs.Math.Nat.{mul-le-mul_left}
use Rattle.tie_desc.specs.Description.{Description}
use Rattle.tie_desc.specs.Invariant.{IsDescription, IsFormat}
use Rattle.tie_desc.specs.Slots.{longest, code_space, slots_space}
use Rattle.tie_desc.specs.Spelling.{put, fields_below, slot_below, slots_word, slots_fit}
use Rattle.tie_desc.specs.declared.formats.SlotDecl.{SlotDecl}
use Rattle.tie_desc.specs.declared.formats.FormatDecl.{FormatDecl}
use Rattle.tie_desc.specs.declared.bundle.Part.{Part}
use Rattle.tie_flix.proofs.FieldLemmas.{code_space-some}
use Rattle.tie_flix.proofs.SlotLemmas.{slots_bound}
use Rattle.tie_flix.proofs.Refetched.{two_widths}

put-above : (u : Bool) (f up : ℕ) → up ≤ put u f up
put-above true f up = omega arith
put-above false f up = omega arith

fields-above : (n i : ℕ) (fs : List ℕ) (up : ℕ) → up ≤ fields_below n i fs up
fields-above n i [] up = omega arith
fields-above n i (f ∷ fs) up =
    let rest = fields-above n (i + 1) fs up in
    omega (arith, rest, put-above (nat_lt i n) f (fields_below n (i + 1) fs up))

slot-above : (d : Description) (s : SlotDecl) (p : Part) (up : ℕ) → up ≤ slot_below d s p up
slot-above d s p up =
    let space = code_space (length s.codes) in
    let x = fields_below (longest d s.codes) 0 p.fields up in
    let k : 1 ≤ space = omega (arith, code_space-some (length s.codes)) in
    omega (arith, fields-above (longest d s.codes) 0 p.fields up, mul-le-mul_left x k)

take-all : {A : Type 0} (xs : List A) (n : ℕ) → length xs ≤ n → take n xs ≡ xs
take-all [] zero h = refl
take-all [] (suc n) h = refl
take-all (x ∷ xs) zero h = absurd (omega (arith, h))
take-all (x ∷ xs) (suc n) h = ap (λ z. x ∷ z) (take-all xs n (omega (arith, h)))

abbrev pub rest_of : {A : Type 0} → List A → List A
rest_of xs = take (length xs - 1) (drop 1 xs)

pub slots_tail : (d : Description) (ss : List SlotDecl) (ps : List Part) → 1 ≤ length ss → 1 ≤ length ps → slots_word d ss ps < 2 ^ 64
    → slots_word d (rest_of ss) (rest_of ps) < 2 ^ 64
slots_tail d [] ps some more h = absurd (omega (arith, some))
slots_tail d (s ∷ ss) [] some more h = absurd (omega (arith, more))
slots_tail d (s ∷ ss) (p ∷ ps) some more h =
    let below : slots_word d ss ps < 2 ^ 64 = omega (arith, h, slot-above d s p (slots_word d ss ps)) in
    let one : rest_of (s ∷ ss) ≡ ss = take-all ss (length (s ∷ ss) - 1) (omega arith) in
    let two : rest_of (p ∷ ps) ≡ ps = take-all ps (length (p ∷ ps) - 1) (omega arith) in
    subst (λ n. n < 2 ^ 64) (sym (ap (λ xs. slots_word d xs (rest_of (p ∷ ps))) one ∙ ap (λ ys. slots_word d ss ys) two)) below

space_below : (d : Description) (f : FormatDecl) (ps : List Part) (width top : ℕ) → IsDescription d → IsFormat d f → slots_fit d f.slots ps ≡ true
    → slots_space d f.slots ≤ 2 ^ (f.width - 8) → f.width ≡ width → 2 ^ (width - 8) ≡ top → slots_word d f.slots ps < top
space_below d f ps width top is form fit room w e =
    let space : slots_space d f.slots ≤ top = subst (λ z. slots_space d f.slots ≤ z) (ap (λ z. 2 ^ (z - 8)) w ∙ e) room in
    omega (arith, space, slots_bound d f.slots ps is form.slots fit)

pub short_bits : (d : Description) (f : FormatDecl) (ps : List Part) → IsDescription d → IsFormat d f → slots_fit d f.slots ps ≡ true
    → slots_space d f.slots ≤ 2 ^ (f.width - 8) → f.width ≡ 32 → slots_word d f.slots ps < 16777216
short_bits d f ps is form fit room w = space_below d f ps 32 16777216 is form fit room w refl

pub bits_below : (d : Description) (f : FormatDecl) (ps : List Part) → IsDescription d → IsFormat d f → slots_fit d f.slots ps ≡ true
    → slots_space d f.slots ≤ 2 ^ (f.width - 8) → slots_word d f.slots ps < 72057594037927936
bits_below d f ps is form fit room =
    ⊎_elim (λ w. space_below d f ps 64 72057594037927936 is form fit room w refl)
    (λ w. omega (arith, short_bits d f ps is form fit room w)) (two_widths f.width form.width)
