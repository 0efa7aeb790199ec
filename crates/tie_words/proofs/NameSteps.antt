-- One name after another.
use Rattle.std.proofs.Common.{◌≡◌, ℕ, ◌+◌, ◌<◌, Bool, true, false, cond, ◌||◌, List, [], ◌∷◌, length, map, drop, get_or, Some, refl, sym, ap, ◌∙◌, arith, String, string_bytes, add-one, suc}
use Rattle.std.specs.Prelude.{◌==◌}
use Rattle.std.proofs.lemmas.List.{drop-map}
use Rattle.std.proofs.Math.Seq.{drop-cons}
use Rattle.tie_words.specs.Reading.{wrong_from}

front_name : {Y : Type 0} (names : List (String Y)) (i : ℕ) (x : String Y) → i < length names → x ≡ get_or names i x
    → drop i (map string_bytes names) ≡ string_bytes x ∷ drop (i + 1) (map string_bytes names)
front_name names i x h e =
    drop-map string_bytes i names ∙ ap (map string_bytes) (drop-cons names i x h) ∙ ap (λ z. string_bytes z ∷ map string_bytes (drop (suc i) names)) (sym e)
    ∙ ap (λ n. string_bytes x ∷ map string_bytes (drop n names)) (sym (add-one i)) ∙ ap (λ z. string_bytes x ∷ z) (sym (drop-map string_bytes (i + 1) names))

-- what is read from a name on
pub at_name : {Y : Type 0} (names : List (String Y)) (i least most n : ℕ) (x : String Y) → i < length names → x ≡ get_or names i x
    → wrong_from least most n (drop i (map string_bytes names))
    ≡ cond (n == most || length (string_bytes x) == 0) (Some n) (wrong_from least most (n + 1) (drop (i + 1) (map string_bytes names)))
at_name names i least most n x h e = ap (wrong_from least most n) (front_name names i x h e)

pub choose_true : {A : Type 0} (a b : Bool) (x y : A) → a ≡ true → cond (a || b) x y ≡ x
choose_true true b x y e = refl
choose_true false b x y e = absurd cc

pub choose_second : {A : Type 0} (a b : Bool) (x y : A) → b ≡ true → cond (a || b) x y ≡ x
choose_second true b x y e = refl
choose_second false true x y e = refl
choose_second false false x y e = absurd cc

pub choose_neither : {A : Type 0} (a b : Bool) (x y : A) → a ≡ false → b ≡ false → cond (a || b) x y ≡ y
choose_neither true b x y e h = absurd cc
choose_neither false true x y e h = absurd cc
choose_neither false false x y e h = refl

-- the only name, and two names
pub one_bytes : {Y : Type 0} (names : List (String Y)) (x : String Y) → length (map string_bytes names) ≡ 1 → x ≡ get_or names 0 x → map string_bytes names ≡ string_bytes x ∷ []
one_bytes [] x h e = absurd cc
one_bytes (a ∷ []) x h e = ap (λ z. string_bytes z ∷ []) (sym e)
one_bytes (a ∷ b ∷ rest) x h e = absurd (grind arith)

pub two_bytes : {Y : Type 0} (names : List (String Y)) (x y : String Y) → length (map string_bytes names) ≡ 2 → x ≡ get_or names 0 x → y ≡ get_or names 1 y
    → map string_bytes names ≡ string_bytes x ∷ string_bytes y ∷ []
two_bytes [] x y h e k = absurd cc
two_bytes (a ∷ []) x y h e k = absurd (grind arith)
two_bytes (a ∷ b ∷ []) x y h e k = ap (λ z. string_bytes z ∷ string_bytes b ∷ []) (sym e) ∙ ap (λ z. string_bytes x ∷ string_bytes z ∷ []) (sym k)
two_bytes (a ∷ b ∷ d ∷ rest) x y h e k = absurd (grind arith)

pub same_count : {Y : Type 0} (names : List (String Y)) → length (map string_bytes names) ≡ length names
same_count [] = refl
same_count (x ∷ xs) = grind (arith, same_count xs)
