-- A mark is never taken for a name.
use Rattle.std.proofs.Common.{◌≡◌, ℕ, Bool, true, false, List, [], ◌∷◌, refl, subst, is_some, codes, ◌||◌, ◌==◌, eqb-true}
use Rattle.std.specs.List.{list_any, AllByRecursion}
use Rattle.std.specs.Str.{bytes_eq}
use Rattle.std.proofs.lemmas.Slice.Eq.{bytes_eq-Decides}
use Rattle.tie_lexer.specs.Pieces.{is_mark}
use Rattle.tie_ast.specs.Symbols.{reserved}

-- these bytes are a word or a mark of the grammar
abbrev pub IsKept : ℕ → List ℕ → Type 0
IsKept place bytes = is_some (reserved bytes place) ≡ true

one_by : (place b x : ℕ) (s rest : Bool) → (x == b) ≡ s → IsKept place (x ∷ []) → (rest ≡ true → IsKept place (b ∷ [])) → (s || rest) ≡ true → IsKept place (b ∷ [])
one_by place b x true rest here kept go h = subst (λ (y : ℕ). IsKept place (y ∷ [])) (eqb-true x b here) kept
one_by place b x false rest here kept go h = go h

one : (place b : ℕ) (xs : List ℕ) → AllByRecursion (λ x. IsKept place (x ∷ [])) xs → list_any (λ x. x == b) xs ≡ true → IsKept place (b ∷ [])
one place b [] all h = cc
one place b (x ∷ xs) all h = one_by place b x (x == b) (list_any (λ x. x == b) xs) refl all.0 (one place b xs all.1) h

same : (xs ys : List ℕ) → bytes_eq xs ys ≡ true → xs ≡ ys
same xs ys h = (bytes_eq-Decides xs ys).0 h

two_by : (place : ℕ) (bytes x : List ℕ) (s rest : Bool) → bytes_eq x bytes ≡ s → IsKept place x → (rest ≡ true → IsKept place bytes) → (s || rest) ≡ true → IsKept place bytes
two_by place bytes x true rest here kept go h = subst (IsKept place) (same x bytes here) kept
two_by place bytes x false rest here kept go h = go h

two : (place : ℕ) (bytes : List ℕ) (xs : List (List ℕ)) → AllByRecursion (IsKept place) xs → list_any (λ mark. bytes_eq mark bytes) xs ≡ true → IsKept place bytes
two place bytes [] all h = cc
two place bytes (x ∷ xs) all h = two_by place bytes x (bytes_eq x bytes) (list_any (λ mark. bytes_eq mark bytes) xs) refl all.0 (two place bytes xs all.1) h

-- every mark is one of the grammar's
pub mark_is_kept : (place : ℕ) (bytes : List ℕ) → is_mark bytes ≡ true → IsKept place bytes
mark_is_kept place [] h = cc
mark_is_kept place (a ∷ []) h =
    one place a (codes "{}()[],;:?=<>+-*&|^~!") (refl, (refl, (refl, (refl, (refl, (refl, (refl, (refl, (refl, (refl, (refl, (refl, (refl, (refl, (refl, (refl, (refl, (refl, (refl, (refl, (refl, tt))))))))))))))))))))) h
mark_is_kept place (a ∷ b ∷ []) h =
    two place (a ∷ b ∷ []) (codes "==" ∷ codes "!=" ∷ codes "<=" ∷ codes ">=" ∷ codes "<<" ∷ codes ">>" ∷ codes "&&" ∷ codes "||" ∷ []) (refl, (refl, (refl, (refl, (refl, (refl, (refl, (refl, tt)))))))) h
mark_is_kept place (a ∷ b ∷ c ∷ more) h = cc
