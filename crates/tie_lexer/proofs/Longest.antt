-- A token's bytes are that token alone, and no longer front of the text is a token.
use Rattle.std.proofs.Common.{◌≡◌, ℕ, zero, suc, ◌+◌, ◌-◌, ◌≤◌, ◌<◌, inl, inr, Bool, true, false, cond, List, [], ◌∷◌, length, take, drop, refl, sym, ◌∙◌, ap, arith, ◌==◌, eqb-true, length-take}
use Rattle.std.specs.List.{prefix_len}
use Rattle.std.proofs.lemmas.List.{get_or-take, drop-take, take_all}
use Rattle.tie_lexer.specs.Bytes.{byte_at, first, is_digit, is_hexadecimal_digit, is_word_byte, is_value_byte}
use Rattle.tie_lexer.specs.declared.TokenKind.{TokenKind}
use Rattle.tie_lexer.specs.declared.TokenKind.TheVariants as kind
use Rattle.tie_lexer.specs.Pieces.{opens_hexadecimal, has_quote, digits_len, base, value, is_mark, IsMark, Spells}
use Rattle.tie_lexer.proofs.Told.{stands, at_some}
use Rattle.tie_lexer.proofs.Fronts.{front_of, kind_front, spelled_front, no_quote}

-- Fronts of a text

cond_le : (b : Bool) (m n : ℕ) → m ≤ n → cond b (1 + m) 0 ≤ cond b (1 + n) 0
cond_le true m n h = omega arith
cond_le false m n h = omega arith

-- a front has no longer run
pub prefix_len-take : (p : ℕ → Bool) (xs : List ℕ) (m : ℕ) → prefix_len p (take m xs) ≤ prefix_len p xs
prefix_len-take p xs zero = omega arith
prefix_len-take p [] (suc m) = omega arith
prefix_len-take p (x ∷ xs) (suc m) = cond_le (p x) (prefix_len p (take m xs)) (prefix_len p xs) (prefix_len-take p xs m)

below_by : (b : Bool) (r s m : ℕ) → cond b (1 + r) 0 < suc m → (r < m → r ≡ s) → cond b (1 + r) 0 ≡ cond b (1 + s) 0
below_by true r s m low same = ap (λ n. 1 + n) (same (omega arith))
below_by false r s m low same = refl

-- a run that ends before the front does is as long in the front
pub prefix_len-take-below : (p : ℕ → Bool) (xs : List ℕ) (m : ℕ) → prefix_len p (take m xs) < m → m ≤ length xs → prefix_len p (take m xs) ≡ prefix_len p xs
prefix_len-take-below p xs zero low high = absurd (omega arith)
prefix_len-take-below p [] (suc m) low high = absurd (omega arith)
prefix_len-take-below p (x ∷ xs) (suc m) low high =
    below_by (p x) (prefix_len p (take m xs)) (prefix_len p xs) m low (λ less. prefix_len-take-below p xs m less (omega arith))

pub same_first : (rest : List ℕ) (m : ℕ) → 0 < m → first (take m rest) ≡ first rest
same_first rest m some = get_or-take m rest 0 0 some

-- `0x` stands in a front only where it stands in the text, and the other way round
pub opens_same : (rest : List ℕ) (m : ℕ) → opens_hexadecimal (take m rest) ≡ true → opens_hexadecimal rest ≡ true
opens_same rest m h =
    let s = stands (take m rest) 0 48 120 h in
    let two = at_some (take m rest) 1 119 s.1 in
    let size = length-take m rest in
    let zero_at : byte_at rest 0 ≡ 48 = sym (get_or-take m rest 0 0 (omega arith)) ∙ s.0 in
    let one_at : byte_at rest 1 ≡ 120 = sym (get_or-take m rest 1 0 (omega arith)) ∙ s.1 in
    rw (zero_at, one_at) refl

pub opens_back : (rest : List ℕ) (m : ℕ) → 1 < m → opens_hexadecimal rest ≡ true → opens_hexadecimal (take m rest) ≡ true
opens_back rest m two h =
    let s = stands rest 0 48 120 h in
    let zero_at : byte_at (take m rest) 0 ≡ 48 = get_or-take m rest 0 0 (omega arith) ∙ s.0 in
    let one_at : byte_at (take m rest) 1 ≡ 120 = get_or-take m rest 1 0 two ∙ s.1 in
    rw (zero_at, one_at) refl

-- where a front is digits and `'`, the text has as many digits
same_digits : (rest : List ℕ) (m : ℕ) → m ≤ length rest → has_quote (take m rest) ≡ true → (digits_len (take m rest) ≡ digits_len rest) × (digits_len rest < m)
same_digits rest m high h =
    let quote = at_some (take m rest) (digits_len (take m rest)) 38 (eqb-true (byte_at (take m rest) (digits_len (take m rest))) 39 h) in
    let size = length-take m rest in
    let same = prefix_len-take-below is_digit rest m (omega arith) high in
    (same, omega arith)

quote_same : (rest : List ℕ) (m : ℕ) → m ≤ length rest → has_quote (take m rest) ≡ true → has_quote rest ≡ true
quote_same rest m high h =
    let same = same_digits rest m high h in
    let here : byte_at rest (digits_len rest) ≡ byte_at (take m rest) (digits_len (take m rest)) =
    sym (get_or-take m rest (digits_len rest) 0 same.1) ∙ ap (byte_at (take m rest)) (sym same.0) in
    ap (λ b. b == 39) here ∙ h

-- No longer token

fronts : (rest : List ℕ) (k l : TokenKind) (n m : ℕ) → 0 < m → Spells rest k n → Spells (take m rest) l m → kind_front k ≡ kind_front l
fronts rest k l n m some s t = sym (spelled_front rest k n s) ∙ ap front_of (sym (same_first rest m some)) ∙ spelled_front (take m rest) l m t

longer_number : (rest : List ℕ) (n m : ℕ) → Spells rest kind.Number n → n < m → m ≤ length rest → Spells (take m rest) kind.Number m → ⊥
longer_number rest n m (inl s) more high (inl t) =
    let rest_of : m ≡ 2 + (m - 2) = omega (arith, t.2) in
    let back : drop 2 (take m rest) ≡ take (m - 2) (drop 2 rest) = ap (λ j. drop 2 (take j rest)) rest_of ∙ drop-take 2 (m - 2) rest in
    let size = ap (prefix_len is_hexadecimal_digit) back in
    let less = prefix_len-take is_hexadecimal_digit (drop 2 rest) (m - 2) in
    omega (arith, s.2, t.2)
longer_number rest n m (inl s) more high (inr t) = let f = t.1 in let e = opens_back rest m (omega (arith, s.2)) s.0 in cc
longer_number rest n m (inr s) more high (inl t) = let f = s.1 in let e = opens_same rest m t.0 in cc
longer_number rest n m (inr s) more high (inr t) = omega (arith, s.3, t.3, prefix_len-take is_digit rest m)

sized_longer_number : (rest : List ℕ) (n m : ℕ) → Spells rest kind.Sized n → n < m → m ≤ length rest → Spells (take m rest) kind.Number m → ⊥
sized_longer_number rest n m s more high (inl t) = let e = no_quote rest (opens_same rest m t.0) in let q = s.1 in cc
sized_longer_number rest n m s more high (inr t) = omega (arith, s.3, t.3, prefix_len-take is_digit rest m)

number_longer_sized : (rest : List ℕ) (n m : ℕ) → Spells rest kind.Number n → n < m → m ≤ length rest → Spells (take m rest) kind.Sized m → ⊥
number_longer_sized rest n m (inl s) more high t = let e = no_quote rest s.0 in let q = quote_same rest m high t.1 in cc
number_longer_sized rest n m (inr s) more high t = let e = s.2 in let q = quote_same rest m high t.1 in cc

longer_sized : (rest : List ℕ) (n m : ℕ) → Spells rest kind.Sized n → n < m → m ≤ length rest → Spells (take m rest) kind.Sized m → ⊥
longer_sized rest n m s more high t =
    let digits = (same_digits rest m high t.1).0 in
    let n_is = s.3 in
    let here = digits_len rest + 2 in
    let rest_of : m ≡ digits_len rest + 2 + (m - (digits_len rest + 2)) = omega arith in
    let base_is : base (take m rest) ≡ base rest =
    ap (λ d. byte_at (take m rest) (d + 1)) digits ∙ get_or-take m rest (digits_len rest + 1) 0 (omega arith) in
    let value_is : value (take m rest) ≡ take (m - (digits_len rest + 2)) (value rest) =
    ap (λ d. drop (d + 2) (take m rest)) digits
    ∙ (ap (λ j. drop (digits_len rest + 2) (take j rest)) rest_of ∙ drop-take (digits_len rest + 2) (m - (digits_len rest + 2)) rest) in
    let run : prefix_len (is_value_byte (base (take m rest))) (value (take m rest)) ≡ prefix_len (is_value_byte (base rest)) (take (m - (digits_len rest + 2)) (value rest)) =
    ap (λ b. prefix_len (is_value_byte b) (value (take m rest))) base_is ∙ ap (prefix_len (is_value_byte (base rest))) value_is in
    omega (arith, t.3, prefix_len-take (is_value_byte (base rest)) (value rest) (m - (digits_len rest + 2)))

longer_mark : (rest : List ℕ) (n m : ℕ) → IsMark rest n → n < m → m ≤ length rest → IsMark (take m rest) m → ⊥
longer_mark rest n m s more high t =
    let size = length-take m rest in
    let whole = ap is_mark (take_all m (take m rest) (omega arith)) in
    let no_longer = s.longest m more high in
    let mark = t.mark in
    cc

pub longest : (rest : List ℕ) (k l : TokenKind) (n m : ℕ) → Spells rest k n → n < m → m ≤ length rest → Spells (take m rest) l m → ⊥
longest rest kind.Word kind.Word n m s more high t = omega (arith, s.1, t.1, prefix_len-take is_word_byte rest m)
longest rest kind.Word kind.Number n m s more high t = omega (arith, fronts rest kind.Word kind.Number n m (omega arith) s t)
longest rest kind.Word kind.Sized n m s more high t = omega (arith, fronts rest kind.Word kind.Sized n m (omega arith) s t)
longest rest kind.Word kind.Mark n m s more high t = omega (arith, fronts rest kind.Word kind.Mark n m (omega arith) s t)
longest rest kind.Number kind.Word n m s more high t = omega (arith, fronts rest kind.Number kind.Word n m (omega arith) s t)
longest rest kind.Number kind.Number n m s more high t = longer_number rest n m s more high t
longest rest kind.Number kind.Sized n m s more high t = number_longer_sized rest n m s more high t
longest rest kind.Number kind.Mark n m s more high t = omega (arith, fronts rest kind.Number kind.Mark n m (omega arith) s t)
longest rest kind.Sized kind.Word n m s more high t = omega (arith, fronts rest kind.Sized kind.Word n m (omega arith) s t)
longest rest kind.Sized kind.Number n m s more high t = sized_longer_number rest n m s more high t
longest rest kind.Sized kind.Sized n m s more high t = longer_sized rest n m s more high t
longest rest kind.Sized kind.Mark n m s more high t = omega (arith, fronts rest kind.Sized kind.Mark n m (omega arith) s t)
longest rest kind.Mark kind.Word n m s more high t = omega (arith, fronts rest kind.Mark kind.Word n m (omega arith) s t)
longest rest kind.Mark kind.Number n m s more high t = omega (arith, fronts rest kind.Mark kind.Number n m (omega arith) s t)
longest rest kind.Mark kind.Sized n m s more high t = omega (arith, fronts rest kind.Mark kind.Sized n m (omega arith) s t)
longest rest kind.Mark kind.Mark n m s more high t = longer_mark rest n m s more high t
