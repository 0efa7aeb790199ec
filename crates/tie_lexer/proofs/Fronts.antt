-- The first byte tells a blank, a comment, a word, a number and a mark apart.
use Rattle.std.proofs.Common.{◌≡◌, ℕ, zero, suc, ◌⊎◌, inl, inr, Bool, true, false, cond, List, [], ◌∷◌, take, refl, sym, ◌∙◌, ap, subst, arith, ◌||◌, ◌==◌, eqb-true, codes}
use Rattle.std.specs.List.{list_any, list_all}
use Rattle.std.specs.Str.{bytes_eq}
use Rattle.std.proofs.lemmas.Bool.Decides.{nat_tests}
use Rattle.tie_lexer.specs.Bytes.{first, is_letter, is_digit, is_blank}
use Rattle.tie_lexer.specs.declared.TokenKind.{TokenKind}
use Rattle.tie_lexer.specs.declared.TokenKind.TheVariants as kind
use Rattle.tie_lexer.specs.Pieces.{opens_hexadecimal, has_quote, is_mark, IsMark, IsComment, Spells}
use Rattle.tie_lexer.proofs.Told.{both, stands}

-- what the byte begins: 2 for a word, 3 for a number, 1 for a comment, 0 for a blank, 4 for a mark or nothing
abbrev pub front_of : ℕ → ℕ
front_of b = cond (is_letter b) 2 (cond (is_digit b) 3 (cond (b == 47) 1 (cond (is_blank b) 0 4)))

either : (s t : Bool) → (s || t) ≡ true → (s ≡ true) ⊎ (t ≡ true)
either true t h = inl refl
either false t h = inr h

blank_by : (b : ℕ) → (((b ≡ 32) ⊎ (b ≡ 9)) ⊎ (b ≡ 10)) ⊎ (b ≡ 13) → front_of b ≡ 0
blank_by b (inl (inl (inl h))) = ap front_of h
blank_by b (inl (inl (inr h))) = ap front_of h
blank_by b (inl (inr h)) = ap front_of h
blank_by b (inr h) = ap front_of h

pub blank_front : (b : ℕ) → is_blank b ≡ true → front_of b ≡ 0
blank_front b h = blank_by b (grind (arith, nat_tests))

pub letter_front : (b : ℕ) → is_letter b ≡ true → front_of b ≡ 2
letter_front b h = rw h refl

digit_no_letter : (b : ℕ) → is_digit b ≡ true → is_letter b ≡ false
digit_no_letter b h = grind (arith, nat_tests)

pub digit_front : (b : ℕ) → is_digit b ≡ true → front_of b ≡ 3
digit_front b h = let e = digit_no_letter b h in rw (e, h) refl

-- what all bytes have that a byte is sought among
among : (p : ℕ → Bool) (bytes : List ℕ) (a : ℕ) → list_any (λ b. b == a) bytes ≡ true → list_all p bytes ≡ true → p a ≡ true
among p [] a h all = cc
among p (b ∷ bytes) a h all =
    let parts = both (p b) (list_all p bytes) all in
    elim (either (b == a) (list_any (λ c. c == a) bytes) h) [
      | inl here ↦ subst (λ (x : ℕ). p x ≡ true) (eqb-true b a here) parts.0
      | inr there ↦ among p bytes a there parts.1
    ]

-- the same, of the first bytes of marks of two
first_among : (p : ℕ → Bool) (marks : List (List ℕ)) (a b : ℕ) → list_any (λ mark. bytes_eq mark (a ∷ b ∷ [])) marks ≡ true
    → list_all (λ mark. p (first mark)) marks ≡ true → p a ≡ true
first_among p [] a b h all = cc
first_among p ([] ∷ marks) a b h all = first_among p marks a b h (both (p 0) (list_all (λ mark. p (first mark)) marks) all).1
first_among p ((x ∷ more) ∷ marks) a b h all =
    let parts = both (p x) (list_all (λ mark. p (first mark)) marks) all in
    elim (either (bytes_eq (x ∷ more) (a ∷ b ∷ [])) (list_any (λ mark. bytes_eq mark (a ∷ b ∷ [])) marks) h) [
      | inl here ↦ subst (λ (y : ℕ). p y ≡ true) (eqb-true x a (both (x == a) (bytes_eq more (b ∷ [])) here).0) parts.0
      | inr there ↦ first_among p marks a b there parts.1
    ]

mark_front_by : (bytes : List ℕ) → is_mark bytes ≡ true → front_of (first bytes) ≡ 4
mark_front_by [] h = cc
mark_front_by (a ∷ []) h = eqb-true (front_of a) 4 (among (λ b. front_of b == 4) (codes "{}()[],;:?=<>+-*&|^~!") a h refl)
mark_front_by (a ∷ b ∷ []) h =
    eqb-true (front_of a) 4 (
    first_among (λ c. front_of c == 4)
    (codes "==" ∷ codes "!=" ∷ codes "<=" ∷ codes ">=" ∷ codes "<<" ∷ codes ">>" ∷ codes "&&" ∷ codes "||" ∷ []) a b h refl
    )
mark_front_by (a ∷ b ∷ c ∷ more) h = cc

first-take : (rest : List ℕ) (n : ℕ) → is_mark (take n rest) ≡ true → first (take n rest) ≡ first rest
first-take rest zero h = cc
first-take [] (suc n) h = refl
first-take (a ∷ rest) (suc n) h = refl

pub mark_front : (rest : List ℕ) (n : ℕ) → IsMark rest n → front_of (first rest) ≡ 4
mark_front rest n h = ap front_of (sym (first-take rest n h.mark)) ∙ mark_front_by (take n rest) h.mark

pub comment_front : (rest : List ℕ) (n : ℕ) → IsComment rest n → front_of (first rest) ≡ 1
comment_front rest n (inl h) = ap front_of (stands rest 0 47 47 h.0).0
comment_front rest n (inr h) = ap front_of (stands rest 0 47 42 h.0).0

pub hexadecimal_front : (rest : List ℕ) → opens_hexadecimal rest ≡ true → front_of (first rest) ≡ 3
hexadecimal_front rest h = ap front_of (stands rest 0 48 120 h).0

-- the fronts of the kinds
abbrev pub kind_front : TokenKind → ℕ
kind_front kind.Word = 2
kind_front kind.Number = 3
kind_front kind.Sized = 3
kind_front kind.Mark = 4

pub spelled_front : (rest : List ℕ) (k : TokenKind) (n : ℕ) → Spells rest k n → front_of (first rest) ≡ kind_front k
spelled_front rest kind.Word n h = letter_front (first rest) h.0
spelled_front rest kind.Number n (inl h) = hexadecimal_front rest h.0
spelled_front rest kind.Number n (inr h) = digit_front (first rest) h.0
spelled_front rest kind.Sized n h = digit_front (first rest) h.0
spelled_front rest kind.Mark n h = mark_front rest n h

-- behind `0x` stands no `'`
no_quote_by : (a b : ℕ) (rest : List ℕ) → a ≡ 48 → b ≡ 120 → has_quote (a ∷ b ∷ rest) ≡ false
no_quote_by a b rest one two = rw (one, two) refl

pub no_quote : (rest : List ℕ) → opens_hexadecimal rest ≡ true → has_quote rest ≡ false
no_quote [] h = cc
no_quote (a ∷ []) h = let two = (stands (a ∷ []) 0 48 120 h).1 in absurd (omega (arith, two))
no_quote (a ∷ b ∷ rest) h = let s = stands (a ∷ b ∷ rest) 0 48 120 h in no_quote_by a b rest s.0 s.1
