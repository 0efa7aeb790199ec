-- A token's bytes alone are that token.
use Rattle.std.proofs.Common.{◌≡◌, ℕ, zero, suc, ◌+◌, ◌≤◌, ◌<◌, ◌⊎◌, inl, inr, Bool, true, false, cond, List, [], ◌∷◌, length, take, drop, refl, sym, ◌∙◌, ap, arith, ◌&&◌, ◌||◌, ◌==◌, if◌then◌else◌, length-take}
use Rattle.std.specs.List.{prefix_len}
use Rattle.std.proofs.lemmas.List.{get_or-take, get_or_past, drop-take, take_all}
use Rattle.tie_lexer.specs.Bytes.{byte_at, first, is_letter, is_digit, is_hexadecimal_digit, is_word_byte, is_base, is_digit_of, is_value_byte}
use Rattle.tie_lexer.specs.declared.TokenKind.{TokenKind}
use Rattle.tie_lexer.specs.declared.TokenKind.TheVariants as kind
use Rattle.tie_lexer.specs.Pieces.{opens_hexadecimal, hexadecimal_len, has_quote, has_value, digits_len, base, value, sized_len, limit, is_mark, IsMark, Spells, IsToken}
use Rattle.tie_lexer.proofs.Told.{prefix_some, both, told}
use Rattle.tie_lexer.proofs.Within.{spelled_within, value_some}
use Rattle.tie_lexer.proofs.Longest.{prefix_len-take, prefix_len-take-below, same_first, opens_same, opens_back}

run_by : (b : Bool) (x : ℕ) (r : ℕ) (p : ℕ → Bool) (xs : List ℕ) → p x ≡ b → prefix_len p (take r xs) ≡ r → prefix_len p (take (cond b (1 + r) 0) (x ∷ xs)) ≡ cond b (1 + r) 0
run_by true x r p xs h same =
    let one : 1 + r ≡ suc r = omega arith in
    rw (one, h) (ap (λ n. 1 + n) same ∙ one)
run_by false x r p xs h same = refl

-- a run alone is a run
run_alone : (p : ℕ → Bool) (xs : List ℕ) → prefix_len p (take (prefix_len p xs) xs) ≡ prefix_len p xs
run_alone p [] = refl
run_alone p (x ∷ xs) = run_by (p x) x (prefix_len p xs) p xs refl (run_alone p xs)

alone_hexadecimal : (rest : List ℕ) (n : ℕ) → n ≡ 2 + hexadecimal_len rest → hexadecimal_len (take n rest) ≡ hexadecimal_len rest
alone_hexadecimal rest n size =
    let back : drop 2 (take n rest) ≡ take (hexadecimal_len rest) (drop 2 rest) = ap (λ j. drop 2 (take j rest)) size ∙ drop-take 2 (hexadecimal_len rest) rest in
    ap (prefix_len is_hexadecimal_digit) back ∙ run_alone is_hexadecimal_digit (drop 2 rest)

same_opens : (rest : List ℕ) (n : ℕ) → opens_hexadecimal rest ≡ false → (opens_hexadecimal (take n rest) ≡ true) ⊎ (opens_hexadecimal (take n rest) ≡ false) → opens_hexadecimal (take n rest) ≡ false
same_opens rest n h (inl t) = let e = opens_same rest n t in cc
same_opens rest n h (inr f) = f

-- `'` doesn't stand behind the end
alone_no_quote : (rest : List ℕ) (n : ℕ) → n ≤ length rest → digits_len (take n rest) ≡ n → has_quote (take n rest) ≡ false
alone_no_quote rest n within all =
    let size = length-take n rest in
    let past = get_or_past (take n rest) n 0 (omega arith) in
    ap (λ d. byte_at (take n rest) d == 39) all ∙ ap (λ b. b == 39) past

pub record SizedAlone (rest : List ℕ) (n : ℕ) : Type 0 where
  pub digits : digits_len (take n rest) ≡ digits_len rest
  pub quote : has_quote (take n rest) ≡ has_quote rest
  pub base_is : base (take n rest) ≡ base rest
  pub value_is : value (take n rest) ≡ take (prefix_len (is_value_byte (base rest)) (value rest)) (value rest)

sized_alone : (rest : List ℕ) (n : ℕ) → n ≤ length rest → n ≡ sized_len rest → SizedAlone rest n
sized_alone rest n within size =
    let less = prefix_len-take is_digit rest n in
    let digits = prefix_len-take-below is_digit rest n (omega arith) within in
    record {
      digits = digits;
      quote = ap (λ d. byte_at (take n rest) d == 39) digits ∙ ap (λ b. b == 39) (get_or-take n rest (digits_len rest) 0 (omega arith));
      base_is = ap (λ d. byte_at (take n rest) (d + 1)) digits ∙ get_or-take n rest (digits_len rest + 1) 0 (omega arith);
      value_is =
          ap (λ d. drop (d + 2) (take n rest)) digits
          ∙ ap (λ j. drop (digits_len rest + 2) (take j rest)) size
          ∙ drop-take (digits_len rest + 2) (prefix_len (is_value_byte (base rest)) (value rest)) rest;
    }

has_value_alone : (rest : List ℕ) (n : ℕ) → SizedAlone rest n → has_value rest ≡ true → has_value (take n rest) ≡ true
has_value_alone rest n alone h =
    let parts = both (is_base (base rest)) (is_digit_of (base rest) (first (value rest))) h in
    let run = prefix_len (is_value_byte (base rest)) (value rest) in
    let byte : is_value_byte (base rest) (first (value rest)) ≡ true = ap (λ x. x || first (value rest) == 95) parts.1 in
    let some = prefix_some (is_value_byte (base rest)) (value rest) (value_some (base rest) (value rest) parts.1) byte in
    let first_is : first (value (take n rest)) ≡ first (value rest) = ap first alone.value_is ∙ same_first (value rest) run some in
    ap (λ b. is_base b && is_digit_of b (first (value (take n rest)))) alone.base_is
    ∙ ap (λ b. is_base (base rest) && is_digit_of (base rest) b) first_is
    ∙ h

sized_len_alone : (rest : List ℕ) (n : ℕ) → SizedAlone rest n → sized_len (take n rest) ≡ sized_len rest
sized_len_alone rest n alone =
    let run : prefix_len (is_value_byte (base (take n rest))) (value (take n rest)) ≡ prefix_len (is_value_byte (base rest)) (value rest) =
    ap (λ b. prefix_len (is_value_byte b) (value (take n rest))) alone.base_is
    ∙ ap (prefix_len (is_value_byte (base rest))) alone.value_is
    ∙ run_alone (is_value_byte (base rest)) (value rest) in
    let digits = alone.digits in
    omega arith

mark_alone : (rest : List ℕ) (n : ℕ) → IsMark rest n → IsMark (take n rest) n
mark_alone rest n h =
    let size = length-take n rest in
    let within = h.within in
    record {
      within = omega arith;
      mark = ap is_mark (take_all n (take n rest) (omega arith)) ∙ h.mark;
      longest = λ m low high. absurd (omega arith);
    }

run_is : (p : ℕ → Bool) (rest : List ℕ) (n : ℕ) → n ≡ prefix_len p rest → prefix_len p (take n rest) ≡ n
run_is p rest n size = ap (λ j. prefix_len p (take j rest)) size ∙ run_alone p rest ∙ sym size

spelled_alone : (rest : List ℕ) (k : TokenKind) (n : ℕ) → 0 < n → n ≤ length rest → Spells rest k n → Spells (take n rest) k n × (limit (take n rest) k ≡ limit rest k)
spelled_alone rest kind.Word n some within h = ((ap is_letter (same_first rest n some) ∙ h.0, sym (run_is is_word_byte rest n h.1)), refl)
spelled_alone rest kind.Number n some within (inl h) =
    let opens = opens_back rest n (omega (arith, h.2)) h.0 in
    let digits = alone_hexadecimal rest n h.2 in
    let low = h.1 in
    (inl (opens, omega arith, omega (arith, h.2)), ap (λ b. if b then 34 else 39) (opens ∙ sym h.0))
spelled_alone rest kind.Number n some within (inr h) =
    let opens = same_opens rest n h.1 (told (opens_hexadecimal (take n rest))) in
    let digits = run_is is_digit rest n h.3 in (
      inr (ap is_digit (same_first rest n some) ∙ h.0, opens, alone_no_quote rest n within digits, sym digits),
      ap (λ b. if b then 34 else 39) (opens ∙ sym h.1),
    )
spelled_alone rest kind.Sized n some within h =
    let alone = sized_alone rest n within h.3 in (
      (ap is_digit (same_first rest n some) ∙ h.0, alone.quote ∙ h.1, has_value_alone rest n alone h.2, h.3 ∙ sym (sized_len_alone rest n alone)),
      ap (λ b. if b == 98 then 200 else 64) alone.base_is,
    )
spelled_alone rest kind.Mark n some within h = (mark_alone rest n h, refl)

none_empty : (k : TokenKind) (n : ℕ) → Spells [] k n → ⊥
none_empty kind.Word n h = let t = h.0 in cc
none_empty kind.Number n (inl h) = let t = h.0 in cc
none_empty kind.Number n (inr h) = let t = h.0 in cc
none_empty kind.Sized n h = let t = h.0 in cc
none_empty kind.Mark zero h = let t = h.mark in cc
none_empty kind.Mark (suc n) h = let t = h.mark in cc

pub token_alone : (rest : List ℕ) (k : TokenKind) (n : ℕ) → IsToken rest k n → IsToken (take n rest) k n
token_alone [] k n h = absurd (none_empty k n h.0)
token_alone (b ∷ rest) k n h =
    let w = spelled_within (b ∷ rest) k n (omega arith) h.0 in
    let alone = spelled_alone (b ∷ rest) k n w.0 w.1 h.0 in
    let limits = alone.1 in
    let fits = h.1 in
    (alone.0, omega arith)
