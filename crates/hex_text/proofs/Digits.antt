-- Digits of a text, and their pairs.
use Rattle.std.proofs.Common.{◌≡◌, ℕ, ◌+◌, ◌*◌, ◌/◌, ◌≤◌, ◌<◌, Bool, true, false, cond, List, [], ◌∷◌, length, get_or, drop, Option, Some, None, refl, arith, IfSome, zero, suc, lit<, ◌∙◌, length-drop}
use Rattle.std.proofs.lemmas.Grind.{common_steps}
use Rattle.std.specs.Prelude.{nat_le, ◌&&◌}
use Rattle.std.specs.List.{cons_option}
use Rattle.hex_text.specs.Hexadecimal.{digit_value, digits, paired}

either : {A : Type 0} (P : A → Type 0) (b : Bool) (x y : A) → (b ≡ true → P x) → (b ≡ false → P y) → P (cond b x y)
either P true x y f g = f refl
either P false x y f g = g refl

digit_value_small : (b : ℕ) → IfSome (digit_value b) (λ d. d < 16)
digit_value_small b =
    either (λ o. IfSome o (λ d. d < 16)) (nat_le 48 b && nat_le b 57) _ _ (λ h. grind arith) (λ _.
    either (λ o. IfSome o (λ d. d < 16)) (nat_le 65 b && nat_le b 70) _ _ (λ h. grind arith) (λ _.
    either (λ o. IfSome o (λ d. d < 16)) (nat_le 97 b && nat_le b 102) _ _ (λ h. grind arith) (λ _. tt)))

-- each element is below 16
abbrev AllSmall : List ℕ → Type 0
AllSmall [] = Unit {0}
AllSmall (d ∷ ds) = (d < 16) × AllSmall ds

cons_small : (o : Option ℕ) (ds : List ℕ) → IfSome o (λ d. d < 16) → AllSmall ds → AllSmall (cons_option o ds)
cons_small None ds p q = q
cons_small (Some d) ds p q = (p, q)

all_small : (text : List ℕ) → AllSmall (digits text)
all_small [] = tt
all_small (b ∷ bs) = cons_small (digit_value b) (digits bs) (digit_value_small b) (all_small bs)

small_at : (ds : List ℕ) (k : ℕ) → AllSmall ds → get_or ds k 0 < 16
small_at [] k h = lit< tt
small_at (d ∷ ds) zero h = h.0
small_at (d ∷ ds) (suc k) h = small_at ds k h.1

pub digits_small : (text : List ℕ) (k : ℕ) → get_or (digits text) k 0 < 16
digits_small text k = small_at (digits text) k (all_small text)

paired-two : (ds : List ℕ) → 2 ≤ length ds → paired ds ≡ (16 * get_or ds 0 0 + get_or ds 1 0) ∷ paired (drop 2 ds)
paired-two [] h = absurd (omega arith)
paired-two (d ∷ []) h = absurd (omega arith)
paired-two (high ∷ low ∷ ds) h = refl

paired-short : (ds : List ℕ) → length ds < 2 → paired ds ≡ []
paired-short [] h = refl
paired-short (d ∷ []) h = refl
paired-short (high ∷ low ∷ ds) h = absurd (grind arith)

-- the two digits at a place
pub paired-at : (ds : List ℕ) (i : ℕ) → 2 * i + 1 < length ds → paired (drop (2 * i) ds) ≡ (16 * get_or ds (2 * i) 0 + get_or ds (2 * i + 1) 0) ∷ paired (drop (2 * (i + 1)) ds)
paired-at ds i h =
    let long : 2 ≤ length (drop (2 * i) ds) = omega (arith, length-drop (2 * i) ds) in
    paired-two (drop (2 * i) ds) long ∙ grind (arith, common_steps)

-- no pair stands behind the last one
pub paired-end : (ds : List ℕ) → paired (drop (2 * (length ds / 2)) ds) ≡ []
paired-end ds = paired-short _ (omega (arith, length-drop (2 * (length ds / 2)) ds))
