-- The tokens of a listing, each with what stands behind it.
use Rattle.std.proofs.Common.{◌≡◌, ℕ, zero, suc, ◌+◌, ◌*◌, ◌/◌, ◌%◌, ◌^◌, ◌<◌, ◌≤◌, min, neg_ℤ, Bool, true, false, cond, ℤ, pos, negsuc, List, [], ◌∷◌, ◌++◌, length, take, drop, refl, ap, ◌∙◌, inl, inr, arith}
use Rattle.std.specs.Prelude.{◌&&◌, ◌||◌, ◌==◌, nat_le, slice_index, map, if◌then◌else◌}
use Rattle.std.specs.List.{list_all, prefix_len}
use Rattle.std.specs.Char.{is_ascii_alphabetic, is_ascii_digit, is_ascii_hexdigit, digit_value}
use Rattle.std.specs.Fmt.{decimal, digit_glyph}
use Rattle.std.specs.Str.Parse.{digits_value}
use Rattle.std.proofs.Math.Seq.{take-append_seam}
use Rattle.std.proofs.lemmas.Fmt.{decimal_is_IsNumeral, decimal_by_steps, decimal_nonempty}
use Rattle.std.proofs.lemmas.Bool.Decides.{nat_tests}
use Rattle.tie_desc.specs.Names.{is_word, is_word_byte}
use Rattle.asm_lines.specs.declared.token.TokenKind.TheVariants as kind
use Rattle.asm_lines.specs.declared.piece.Piece.TheVariants as piece
use Rattle.asm_lines.specs.Tokens.{first, is_blank, line_len, word_len, word_piece, most, value, digits_len, hexadecimal_len, hexadecimal_piece, negative_piece, decimal_piece, number_piece, directive_piece, mark_piece, is_word_start, token_piece, front}
use Rattle.xt_dis.specs.Words.{address}
use Rattle.listing_words_law.specs.Ends.{Ends}
use Rattle.listing_words_law.specs.Chunks.{Reads}

both : (a b : Bool) → (a && b) ≡ true → (a ≡ true) × (b ≡ true)
both true b h = (refl, h)
both false b h = absurd cc

-- no byte of the kind stands at the front
abbrev Stops : (ℕ → Bool) → List ℕ → Type 0
Stops p [] = Unit {0}
Stops p (b ∷ bs) = p b ≡ false

stops : (p : ℕ → Bool) → p 32 ≡ false → p 44 ≡ false → p 10 ≡ false → (rest : List ℕ) → Ends rest → Stops p rest
stops p e f g [] h = tt
stops p e f g (b ∷ bs) (inl h) = ap p h ∙ e
stops p e f g (b ∷ bs) (inr (inl h)) = ap p h ∙ f
stops p e f g (b ∷ bs) (inr (inr h)) = ap p h ∙ g

prefix_seam : (p : ℕ → Bool) (w rest : List ℕ) → list_all p w ≡ true → Stops p rest → prefix_len p (w ++ rest) ≡ length w
prefix_seam p [] [] h s = refl
prefix_seam p [] (b ∷ bs) h s = ap (λ c. cond c (1 + prefix_len p bs) 0) s
prefix_seam p (x ∷ w) rest h s =
    let g = both (p x) (list_all p w) h in
    ap (λ c. cond c (1 + prefix_len p (w ++ rest)) 0) g.0 ∙ omega (arith, prefix_seam p w rest g.1 s)

-- ---- which kind of piece stands at the front

not_blank : (a b c d : Bool) → a ≡ false → b ≡ false → c ≡ false → (a || b || (c && d)) ≡ false
not_blank false false false d e f g = refl
not_blank true b c d e f g = absurd cc
not_blank false true c d e f g = absurd cc
not_blank false false true d e f g = absurd cc

-- neither LF, white space nor a comment
record IsPlain (b : ℕ) : Type 0 where
  feed : (b == 10) ≡ false
  space : (b == 32) ≡ false
  tab : (b == 9) ≡ false
  carriage : (b == 13) ≡ false
  comment : (b == 35) ≡ false

front_token : (l : List ℕ) → IsPlain (first l) → front l ≡ token_piece l
front_token l is =
    let blank : is_blank l ≡ false = not_blank (first l == 32) (first l == 9) (first l == 13) (slice_index l 1 == 10) is.space is.tab is.carriage in
    ap (λ c. if c then piece.LineFeed else (if is_blank l then piece.Gap 1 else (if first l == 35 then piece.Gap (line_len l) else token_piece l))) is.feed
    ∙ ap (λ c. if c then piece.Gap 1 else (if first l == 35 then piece.Gap (line_len l) else token_piece l)) blank
    ∙ ap (λ c. if c then piece.Gap (line_len l) else token_piece l) is.comment

-- ---- words

record StartsWord (b : ℕ) : Type 0 where
  plain : IsPlain b
  starts : is_word_start b ≡ true

letter_starts : (b : ℕ) → is_ascii_alphabetic b ≡ true → StartsWord b
letter_starts b h = record {
  plain = record { feed = grind (arith, nat_tests); space = grind (arith, nat_tests); tab = grind (arith, nat_tests); carriage = grind (arith, nat_tests); comment = grind (arith, nat_tests) };
  starts = ap (λ c. c || b == 95) h;
}

-- a letter, then word bytes
pub record IsLettered (w : List ℕ) : Type 0 where
  pub letter : is_ascii_alphabetic (slice_index w 0) ≡ true
  pub all : list_all is_word_byte w ≡ true

pub word_lettered : (w : List ℕ) → is_word w ≡ true → IsLettered w
word_lettered w h =
    let g = both (is_ascii_alphabetic (slice_index w 0) && list_all is_word_byte w) (nat_le (length w) 32) h in
    let f = both (is_ascii_alphabetic (slice_index w 0)) (list_all is_word_byte w) g.0 in
    record { letter = f.0; all = f.1 }

pub lettered_some : (w : List ℕ) → IsLettered w → 0 < length w
lettered_some [] is = absurd (no_letter is.letter)
  where
    no_letter : is_ascii_alphabetic 0 ≡ true → ⊥
    no_letter h = cc
lettered_some (b ∷ w) is = omega arith

pub word_reads : (w rest : List ℕ) → IsLettered w → Ends rest → Reads (kind.Name w) w rest
word_reads [] rest is e = absurd (no_letter is.letter)
  where
    no_letter : is_ascii_alphabetic 0 ≡ true → ⊥
    no_letter h = cc
word_reads (b ∷ w) rest is e =
    let s = letter_starts b is.letter in
    let l = b ∷ w ++ rest in
    let n : word_len l ≡ length (b ∷ w) = prefix_seam is_word_byte (b ∷ w) rest is.all (stops is_word_byte refl refl refl rest e) in
    by (nat_le (length (b ∷ w)) 32)
    (front_token l s.plain
    ∙ ap (λ c. if c then word_piece l else (if is_ascii_digit b then number_piece l else (if b == 45 then negative_piece (drop 1 l) else (if b == 46 then directive_piece (drop 1 l) else mark_piece b)))) s.starts
    ∙ ap (λ k. if nat_le k 32 then piece.Token (kind.Name (take k l)) k else piece.Bad) n
    ∙ ap (λ z. if nat_le (length (b ∷ w)) 32 then piece.Token (kind.Name z) (length (b ∷ w)) else piece.Bad) (take-append_seam (b ∷ w) rest))
  where
    by : (c : Bool) → front (b ∷ w ++ rest) ≡ (if c then piece.Token (kind.Name (b ∷ w)) (length (b ∷ w)) else piece.Bad) → Reads (kind.Name (b ∷ w)) (b ∷ w) rest
    by true h = inl h
    by false h = inr h

-- ---- numbers

record StartsNumber (b : ℕ) : Type 0 where
  plain : IsPlain b
  word : is_word_start b ≡ false

digit_starts : (b : ℕ) → is_ascii_digit b ≡ true → StartsNumber b
digit_starts b h = record {
  plain = record { feed = grind (arith, nat_tests); space = grind (arith, nat_tests); tab = grind (arith, nat_tests); carriage = grind (arith, nat_tests); comment = grind (arith, nat_tests) };
  word = grind (arith, nat_tests);
}

pub all_digits : (n : ℕ) → n < 2 ^ 64 → list_all is_ascii_digit (decimal n) ≡ true
all_digits = decimal_by_steps (λ _ ds. list_all is_ascii_digit ds ≡ true) one more
  where
    is_digit : (k : ℕ) → k < 10 → is_ascii_digit (48 + k) ≡ true
    is_digit k h = grind (arith, nat_tests)

    one : (n : ℕ) → n < 10 → list_all is_ascii_digit ((48 + n) ∷ []) ≡ true
    one n h = ap (λ b. b && true) (is_digit n h)

    all_push : (ds : List ℕ) (b : ℕ) → list_all is_ascii_digit ds ≡ true → is_ascii_digit b ≡ true → list_all is_ascii_digit (ds ++ b ∷ []) ≡ true
    all_push [] b h d = ap (λ b. b && true) d
    all_push (x ∷ ds) b h d = let g = both (is_ascii_digit x) (list_all is_ascii_digit ds) h in ap (λ c. c && list_all is_ascii_digit (ds ++ b ∷ [])) g.0 ∙ all_push ds b g.1 d

    more : (n : ℕ) (ds : List ℕ) → 10 ≤ n → list_all is_ascii_digit ds ≡ true → list_all is_ascii_digit (ds ++ ((48 + n % 10) ∷ [])) ≡ true
    more n ds le h = all_push ds (48 + n % 10) h (is_digit (n % 10) (omega arith))

kept_value : (n : ℕ) → n < 2 ^ 32 → min n most ≡ n
kept_value n h = omega arith

-- a second byte is no `x`
no_x : (ds rest : List ℕ) → list_all is_ascii_digit ds ≡ true → Ends rest → (slice_index (ds ++ rest) 0 == 120) ≡ false
no_x [] [] h e = refl
no_x [] (b ∷ bs) h (inl e) = ap (λ x. x == 120) e
no_x [] (b ∷ bs) h (inr (inl e)) = ap (λ x. x == 120) e
no_x [] (b ∷ bs) h (inr (inr e)) = ap (λ x. x == 120) e
no_x (d ∷ ds) rest h e = digit d (both (is_ascii_digit d) (list_all is_ascii_digit ds) h).0
  where
    digit : (b : ℕ) → is_ascii_digit b ≡ true → (b == 120) ≡ false
    digit b k = grind (arith, nat_tests)

neither : (a b : Bool) → b ≡ false → (a && b) ≡ false
neither true b h = h
neither false b h = refl

digits_front : (ds rest : List ℕ) (n : ℕ) → list_all is_ascii_digit ds ≡ true → 0 < length ds → digits_value 10 ds ≡ n → n < 2 ^ 32 → Ends rest
    → front (ds ++ rest) ≡ piece.Token (kind.Number (pos n)) (length ds)
digits_front [] rest n all some v h e = absurd (omega arith)
digits_front (d ∷ ds) rest n all some v h e =
    let g = both (is_ascii_digit d) (list_all is_ascii_digit ds) all in
    let s = digit_starts d g.0 in
    let l = d ∷ ds ++ rest in
    let x : (d == 48 && slice_index l 1 == 120) ≡ false = neither (d == 48) (slice_index l 1 == 120) (no_x ds rest g.1 e) in
    let k : digits_len l ≡ length (d ∷ ds) = prefix_seam is_ascii_digit (d ∷ ds) rest all (stops is_ascii_digit refl refl refl rest e) in
    front_token l s.plain
    ∙ ap (λ c. if c then word_piece l else (if is_ascii_digit d then number_piece l else (if d == 45 then negative_piece (drop 1 l) else (if d == 46 then directive_piece (drop 1 l) else mark_piece d)))) s.word
    ∙ ap (λ c. if c then number_piece l else (if d == 45 then negative_piece (drop 1 l) else (if d == 46 then directive_piece (drop 1 l) else mark_piece d))) g.0
    ∙ ap (λ c. if c then hexadecimal_piece (drop 2 l) else decimal_piece l) x
    ∙ ap (λ j. piece.Token (kind.Number (pos (value 10 (take j l)))) j) k
    ∙ ap (λ z. piece.Token (kind.Number (pos (value 10 z))) (length (d ∷ ds))) (take-append_seam (d ∷ ds) rest)
    ∙ ap (λ m. piece.Token (kind.Number (pos (min m most))) (length (d ∷ ds))) v
    ∙ ap (λ m. piece.Token (kind.Number (pos m)) (length (d ∷ ds))) (kept_value n h)

pub decimal_front : (n : ℕ) (rest : List ℕ) → n < 2 ^ 32 → Ends rest → front (decimal n ++ rest) ≡ piece.Token (kind.Number (pos n)) (length (decimal n))
decimal_front n rest h e = digits_front (decimal n) rest n (all_digits n (omega arith)) (decimal_nonempty n (omega arith)) (decimal_is_IsNumeral n (omega arith)).1 h e

abbrev neg : ℕ → ℤ
neg m = neg_ℤ (pos m)

negative_digits : (ds rest : List ℕ) (n : ℕ) → list_all is_ascii_digit ds ≡ true → 0 < length ds → digits_value 10 ds ≡ suc n → n < 2 ^ 31 → Ends rest
    → front (45 ∷ ds ++ rest) ≡ piece.Token (kind.Number (negsuc n)) (suc (length ds))
negative_digits ds rest n all some v h e =
    let l = ds ++ rest in
    let k : digits_len l ≡ length ds = prefix_seam is_ascii_digit ds rest all (stops is_ascii_digit refl refl refl rest e) in
    let z : (length ds == 0) ≡ false = not_zero (length ds) some in
    let one : length ds + 1 ≡ suc (length ds) = omega arith in
    ap (λ j. if j == 0 then piece.Bad else piece.Token (kind.Number (neg (value 10 (take j l)))) (j + 1)) k
    ∙ ap (λ c. if c then piece.Bad else piece.Token (kind.Number (neg (value 10 (take (length ds) l)))) (length ds + 1)) z
    ∙ ap (λ z. piece.Token (kind.Number (neg (value 10 z))) (length ds + 1)) (take-append_seam ds rest)
    ∙ ap (λ m. piece.Token (kind.Number (neg (min m most))) (length ds + 1)) v
    ∙ ap (λ m. piece.Token (kind.Number (neg m)) (length ds + 1)) (kept_value (suc n) (omega arith))
    ∙ ap (λ m. piece.Token (kind.Number (negsuc n)) m) one
  where
    not_zero : (k : ℕ) → 0 < k → (k == 0) ≡ false
    not_zero k h = grind (arith, nat_tests)

pub negative_front : (n : ℕ) (rest : List ℕ) → n < 2 ^ 31 → Ends rest → front (45 ∷ decimal (suc n) ++ rest) ≡ piece.Token (kind.Number (negsuc n)) (length (45 ∷ decimal (suc n)))
negative_front n rest h e =
    negative_digits (decimal (suc n)) rest n (all_digits (suc n) (omega arith)) (decimal_nonempty (suc n) (omega arith)) (decimal_is_IsNumeral (suc n) (omega arith)).1 h e

-- ---- addresses

record IsHexadecimal (k : ℕ) : Type 0 where
  digit : is_ascii_hexdigit (digit_glyph false k) ≡ true
  value_is : digit_value (digit_glyph false k) ≡ k

glyph_is : (k : ℕ) → k < 16 → IsHexadecimal k
glyph_is zero h = record { digit = refl; value_is = refl }
glyph_is (suc zero) h = record { digit = refl; value_is = refl }
glyph_is (suc (suc zero)) h = record { digit = refl; value_is = refl }
glyph_is (suc (suc (suc zero))) h = record { digit = refl; value_is = refl }
glyph_is (suc (suc (suc (suc zero)))) h = record { digit = refl; value_is = refl }
glyph_is (suc (suc (suc (suc (suc zero))))) h = record { digit = refl; value_is = refl }
glyph_is (suc (suc (suc (suc (suc (suc zero)))))) h = record { digit = refl; value_is = refl }
glyph_is (suc (suc (suc (suc (suc (suc (suc zero))))))) h = record { digit = refl; value_is = refl }
glyph_is (suc (suc (suc (suc (suc (suc (suc (suc zero)))))))) h = record { digit = refl; value_is = refl }
glyph_is (suc (suc (suc (suc (suc (suc (suc (suc (suc zero))))))))) h = record { digit = refl; value_is = refl }
glyph_is (suc (suc (suc (suc (suc (suc (suc (suc (suc (suc zero)))))))))) h = record { digit = refl; value_is = refl }
glyph_is (suc (suc (suc (suc (suc (suc (suc (suc (suc (suc (suc zero))))))))))) h = record { digit = refl; value_is = refl }
glyph_is (suc (suc (suc (suc (suc (suc (suc (suc (suc (suc (suc (suc zero)))))))))))) h = record { digit = refl; value_is = refl }
glyph_is (suc (suc (suc (suc (suc (suc (suc (suc (suc (suc (suc (suc (suc zero))))))))))))) h = record { digit = refl; value_is = refl }
glyph_is (suc (suc (suc (suc (suc (suc (suc (suc (suc (suc (suc (suc (suc (suc zero)))))))))))))) h = record { digit = refl; value_is = refl }
glyph_is (suc (suc (suc (suc (suc (suc (suc (suc (suc (suc (suc (suc (suc (suc (suc zero))))))))))))))) h = record { digit = refl; value_is = refl }
glyph_is (suc (suc (suc (suc (suc (suc (suc (suc (suc (suc (suc (suc (suc (suc (suc (suc k)))))))))))))))) h = absurd (omega arith)

-- the digits at these places, the first one highest
abbrev glyphs : ℕ → List ℕ
glyphs n = map (λ place. digit_glyph false (n / 16 ^ place % 16)) (7 ∷ 6 ∷ 5 ∷ 4 ∷ 3 ∷ 2 ∷ 1 ∷ 0 ∷ [])

glyph_digit : (n : ℕ) → is_ascii_hexdigit (digit_glyph false (n % 16)) ≡ true
glyph_digit n = (glyph_is (n % 16) (omega arith)).digit

glyphs_all : (n : ℕ) → list_all is_ascii_hexdigit (glyphs n) ≡ true
glyphs_all n =
    andt _ _ (glyph_digit (n / 16 ^ 7)) (andt _ _ (glyph_digit (n / 16 ^ 6)) (andt _ _ (glyph_digit (n / 16 ^ 5)) (andt _ _ (glyph_digit (n / 16 ^ 4))
    (andt _ _ (glyph_digit (n / 16 ^ 3)) (andt _ _ (glyph_digit (n / 16 ^ 2)) (andt _ _ (glyph_digit (n / 16 ^ 1)) (andt _ _ (glyph_digit (n / 16 ^ 0)) refl)))))))
  where
    andt : (a b : Bool) → a ≡ true → b ≡ true → (a && b) ≡ true
    andt true b g h = h
    andt false b g h = absurd cc

-- one more digit
read_more : (x y : ℕ) → x ≡ y / 16 → (x * 16 + digit_value (digit_glyph false (y % 16))) ≡ y
read_more x y e = let v = (glyph_is (y % 16) (omega arith)).value_is in omega (arith, v, e)

glyphs_value : (n : ℕ) → n < 2 ^ 32 → digits_value 16 (glyphs n) ≡ n
glyphs_value n h =
    let a7 = read_more 0 (n / 16 ^ 7) (omega arith) in
    let a6 = read_more _ (n / 16 ^ 6) (a7 ∙ omega arith) in
    let a5 = read_more _ (n / 16 ^ 5) (a6 ∙ omega arith) in
    let a4 = read_more _ (n / 16 ^ 4) (a5 ∙ omega arith) in
    let a3 = read_more _ (n / 16 ^ 3) (a4 ∙ omega arith) in
    let a2 = read_more _ (n / 16 ^ 2) (a3 ∙ omega arith) in
    let a1 = read_more _ (n / 16 ^ 1) (a2 ∙ omega arith) in
    let a0 = read_more _ (n / 16 ^ 0) (a1 ∙ omega arith) in
    a0 ∙ omega arith

pub address_front : (n : ℕ) (rest : List ℕ) → n < 2 ^ 32 → Ends rest → front (address n ++ rest) ≡ piece.Token (kind.Number (pos n)) (length (address n))
unfolding address
address_front n rest h e =
    let l = glyphs n ++ rest in
    let k : hexadecimal_len l ≡ length (glyphs n) = prefix_seam is_ascii_hexdigit (glyphs n) rest (glyphs_all n) (stops is_ascii_hexdigit refl refl refl rest e) in
    ap (λ j. if j == 0 then piece.Bad else piece.Token (kind.Number (pos (value 16 (take j l)))) (j + 2)) k
    ∙ ap (λ m. piece.Token (kind.Number (pos (min m most))) 10) (glyphs_value n h)
    ∙ ap (λ m. piece.Token (kind.Number (pos m)) 10) (kept_value n h)
