-- At each place stands a piece, so each text has tokens or a fault.
use Rattle.std.proofs.Common.{◌≡◌, ℕ, zero, suc, ◌+◌, ◌-◌, ◌≤◌, ◌<◌, ◌⊎◌, inl, inr, true, false, List, [], ◌∷◌, length, take, drop, refl, subst, arith, length-drop, length-take}
use Rattle.std.proofs.lemmas.List.{get_or_past}
use Rattle.std.proofs.lemmas.List.Sums.{prefix_len-le-length}
use Rattle.tie_lexer.specs.Bytes.{byte_at, first, is_letter, is_digit, is_blank, is_text_byte}
use Rattle.tie_lexer.specs.declared.TokenKind.{TokenKind}
use Rattle.tie_lexer.specs.declared.TokenKind.TheVariants as kind
use Rattle.tie_lexer.specs.declared.Token.{Token}
use Rattle.tie_lexer.specs.declared.LexRule.{LexRule}
use Rattle.tie_lexer.specs.declared.LexRule.TheVariants as rule
use Rattle.tie_lexer.specs.declared.front.Piece.{Piece}
use Rattle.tie_lexer.specs.declared.front.Piece.TheVariants as piece
use Rattle.tie_lexer.specs.Pieces.{closes_at, opens_line, opens_block, opens_hexadecimal, hexadecimal_len, has_quote, has_value, digits_len, word_len, line_len, sized_len, clean_len, is_mark, IsClosed, IsComment, Spells, limit, IsBroken}
use Rattle.tie_lexer.specs.Front.{IsPiece}
use Rattle.tie_lexer.specs.Tokens.{Lexed, done, gap, token, AreTokens, IsFault}
use Rattle.tie_lexer.proofs.Told.{below_or_not, told}
use Rattle.tie_lexer.proofs.Marks.{mark_of_two, mark_of_one, no_mark}
use Rattle.tie_lexer.proofs.Within.{gap_within, spelled_within}

-- some piece stands at the front
abbrev pub HasPiece : List ℕ → Type 0
HasPiece rest = (p : Piece) × IsPiece rest p

-- Comments

no_close_past : (rest : List ℕ) (at : ℕ) → length rest ≤ at → closes_at rest at ≡ false
no_close_past rest at past = let z = get_or_past rest at 0 past in rw z refl

closed_at : (rest : List ℕ) (k : ℕ) → 2 ≤ k → closes_at rest k ≡ true → ((at : ℕ) → 2 ≤ at → at < k → closes_at rest at ≡ false) → IsClosed rest (k + 2)
closed_at rest k low here none =
    let back : k + 2 - 2 ≡ k = omega arith in
    record {
      room = omega arith;
      ends = rw back here;
      none_before = λ at from high. none at from (omega arith);
    }

none_more : (rest : List ℕ) (k : ℕ) → ((at : ℕ) → 2 ≤ at → at < k → closes_at rest at ≡ false) → closes_at rest k ≡ false
    → (at : ℕ) → 2 ≤ at → at < suc k → (at < k) ⊎ (k ≤ at) → closes_at rest at ≡ false
none_more rest k none here at from below (inl less) = none at from less
none_more rest k none here at from below (inr more) = let same : at ≡ k = omega arith in rw same here

closed_step : (rest : List ℕ) (k : ℕ) → ((n : ℕ) × IsClosed rest n) ⊎ ((at : ℕ) → 2 ≤ at → at < k → closes_at rest at ≡ false) → (k < 2) ⊎ (2 ≤ k) → (closes_at rest k ≡ true) ⊎ (closes_at rest k ≡ false)
    → ((n : ℕ) × IsClosed rest n) ⊎ ((at : ℕ) → 2 ≤ at → at < suc k → closes_at rest at ≡ false)
closed_step rest k (inl closed) low here = inl closed
closed_step rest k (inr none) (inl low) here = inr (λ at from high. none at from (omega arith))
closed_step rest k (inr none) (inr high) (inl here) = inl (k + 2, closed_at rest k high here none)
closed_step rest k (inr none) (inr high) (inr here) = inr (λ at from below. none_more rest k none here at from below (below_or_not at k))

-- up to a place a comment is closed, or nothing closes it
closed_below : (rest : List ℕ) (k : ℕ) → ((n : ℕ) × IsClosed rest n) ⊎ ((at : ℕ) → 2 ≤ at → at < k → closes_at rest at ≡ false)
closed_below rest zero = inr (λ at low high. absurd (omega arith))
closed_below rest (suc k) = closed_step rest k (closed_below rest k) (below_or_not k 2) (told (closes_at rest k))

none_at : (rest : List ℕ) → ((at : ℕ) → 2 ≤ at → at < length rest → closes_at rest at ≡ false) → (at : ℕ) → 2 ≤ at → (at < length rest) ⊎ (length rest ≤ at) → closes_at rest at ≡ false
none_at rest none at from (inl less) = none at from less
none_at rest none at from (inr past) = no_close_past rest at past

comment_by : (rest : List ℕ) (n : ℕ) → IsComment rest n → (clean_len rest n < n) ⊎ (n ≤ clean_len rest n) → HasPiece rest
comment_by rest n h (inl less) = (piece.Bad rule.BadByte (clean_len rest n), inr (n, h, less, refl))
comment_by rest n h (inr all) =
    let most = prefix_len-le-length is_text_byte (take n rest) in
    let size = length-take n rest in
    (piece.Gap n, inr (h, omega arith))

comment_piece : (rest : List ℕ) (n : ℕ) → IsComment rest n → HasPiece rest
comment_piece rest n h = comment_by rest n h (below_or_not (clean_len rest n) n)

block_piece : (rest : List ℕ) → opens_block rest ≡ true → ((n : ℕ) × IsClosed rest n) ⊎ ((at : ℕ) → 2 ≤ at → at < length rest → closes_at rest at ≡ false) → HasPiece rest
block_piece rest opens (inl closed) = comment_piece rest closed.0 (inr (opens, closed.1))
block_piece rest opens (inr none) = (piece.Bad rule.OpenComment 0, (refl, opens, λ at from. none_at rest none at from (below_or_not at (length rest))))

-- Tokens

spelled_by : (rest : List ℕ) (k : TokenKind) (n : ℕ) → Spells rest k n → (limit rest k < n) ⊎ (n ≤ limit rest k) → HasPiece rest
spelled_by rest k n h (inl long) = (piece.Bad rule.BadLiteral 0, (refl, inl (k, n, h, long)))
spelled_by rest k n h (inr fits) = (piece.Token k n, (h, fits))

spelled_piece : (rest : List ℕ) (k : TokenKind) (n : ℕ) → Spells rest k n → HasPiece rest
spelled_piece rest k n h = spelled_by rest k n h (below_or_not (limit rest k) n)

broken_piece : (rest : List ℕ) → IsBroken rest → HasPiece rest
broken_piece rest h = (piece.Bad rule.BadLiteral 0, (refl, inr h))

hexadecimal_piece : (rest : List ℕ) → opens_hexadecimal rest ≡ true → (0 < hexadecimal_len rest) ⊎ (hexadecimal_len rest ≤ 0) → HasPiece rest
hexadecimal_piece rest opens (inl some) = spelled_piece rest kind.Number (2 + hexadecimal_len rest) (inl (opens, some, refl))
hexadecimal_piece rest opens (inr none) = broken_piece rest (inl (opens, omega arith))

sized_piece : (rest : List ℕ) → is_digit (first rest) ≡ true → has_quote rest ≡ true → (has_value rest ≡ true) ⊎ (has_value rest ≡ false) → HasPiece rest
sized_piece rest digit quote (inl value) = spelled_piece rest kind.Sized (sized_len rest) (digit, quote, value, refl)
sized_piece rest digit quote (inr none) = broken_piece rest (inr (digit, quote, none))

decimal_piece : (rest : List ℕ) → is_digit (first rest) ≡ true → opens_hexadecimal rest ≡ false → (has_quote rest ≡ true) ⊎ (has_quote rest ≡ false) → HasPiece rest
decimal_piece rest digit opens (inl quote) = sized_piece rest digit quote (told (has_value rest))
decimal_piece rest digit opens (inr none) = spelled_piece rest kind.Number (digits_len rest) (inr (digit, opens, none, refl))

literal_piece : (rest : List ℕ) → is_digit (first rest) ≡ true → (opens_hexadecimal rest ≡ true) ⊎ (opens_hexadecimal rest ≡ false) → HasPiece rest
literal_piece rest digit (inl opens) = hexadecimal_piece rest opens (below_or_not 0 (hexadecimal_len rest))
literal_piece rest digit (inr none) = decimal_piece rest digit none (told (has_quote rest))

-- All

-- the tests that no piece but a mark passes
record OpensNone (rest : List ℕ) : Type 0 where
  blank : is_blank (first rest) ≡ false
  letter : is_letter (first rest) ≡ false
  digit : is_digit (first rest) ≡ false
  line : opens_line rest ≡ false
  block : opens_block rest ≡ false

one_piece : (rest : List ℕ) → OpensNone rest → is_mark (byte_at rest 0 ∷ byte_at rest 1 ∷ []) ≡ false
    → (is_mark (byte_at rest 0 ∷ []) ≡ true) ⊎ (is_mark (byte_at rest 0 ∷ []) ≡ false) → HasPiece rest
one_piece rest none two (inl one) = spelled_piece rest kind.Mark 1 (mark_of_one rest two one)
one_piece rest none two (inr one) =
    (piece.Bad rule.BadByte 0, inl (refl, (none.blank, none.letter, none.digit, none.line, none.block, no_mark rest two one)))

mark_piece : (rest : List ℕ) → OpensNone rest → (is_mark (byte_at rest 0 ∷ byte_at rest 1 ∷ []) ≡ true) ⊎ (is_mark (byte_at rest 0 ∷ byte_at rest 1 ∷ []) ≡ false) → HasPiece rest
mark_piece rest none (inl two) = spelled_piece rest kind.Mark 2 (mark_of_two rest two)
mark_piece rest none (inr two) = one_piece rest none two (told (is_mark (byte_at rest 0 ∷ [])))

piece_by : (rest : List ℕ) → (is_blank (first rest) ≡ true) ⊎ (is_blank (first rest) ≡ false) → (is_letter (first rest) ≡ true) ⊎ (is_letter (first rest) ≡ false)
    → (is_digit (first rest) ≡ true) ⊎ (is_digit (first rest) ≡ false) → (opens_line rest ≡ true) ⊎ (opens_line rest ≡ false) → (opens_block rest ≡ true) ⊎ (opens_block rest ≡ false) → HasPiece rest
piece_by rest (inl h) letter digit line block = (piece.Gap 1, inl (h, refl))
piece_by rest (inr a) (inl h) digit line block = spelled_piece rest kind.Word (word_len rest) (h, refl)
piece_by rest (inr a) (inr b) (inl h) line block = literal_piece rest h (told (opens_hexadecimal rest))
piece_by rest (inr a) (inr b) (inr c) (inl h) block = comment_piece rest (line_len rest) (inl (h, refl))
piece_by rest (inr a) (inr b) (inr c) (inr d) (inl h) = block_piece rest h (closed_below rest (length rest))
piece_by rest (inr a) (inr b) (inr c) (inr d) (inr e) =
    mark_piece rest (record { blank = a; letter = b; digit = c; line = d; block = e }) (told (is_mark (byte_at rest 0 ∷ byte_at rest 1 ∷ [])))

pub piece_of : (rest : List ℕ) → HasPiece rest
piece_of rest =
    piece_by rest (told (is_blank (first rest))) (told (is_letter (first rest))) (told (is_digit (first rest))) (told (opens_line rest)) (told (opens_block rest))

-- Texts

-- from a place on the text has tokens to its end, or up to a fault
abbrev pub Goes : List ℕ → ℕ → Type 0
Goes text at =
    ((ts : List Token) × Lexed text at ts (length text))
    ⊎ ((ts : List Token) × (to : ℕ) × (r : LexRule) × (n : ℕ) × Lexed text at ts to × (to < length text) × IsPiece (drop to text) (piece.Bad r n))

goes_gap : (text : List ℕ) (at n : ℕ) → at < length text → IsPiece (drop at text) (piece.Gap n) → Goes text (at + n) → Goes text at
goes_gap text at n more g (inl h) = inl (h.0, gap n more g h.1)
goes_gap text at n more g (inr h) = inr (h.0, h.1, h.2, h.3, gap n more g h.4, h.5, h.6)

goes_token : (text : List ℕ) (at n : ℕ) (k : TokenKind) → at < length text → IsPiece (drop at text) (piece.Token k n) → Goes text (at + n) → Goes text at
goes_token text at n k more t (inl h) = inl (_, token k n more t h.1)
goes_token text at n k more t (inr h) = inr (_, h.1, h.2, h.3, token k n more t h.4, h.5, h.6)

goes_by : (left : ℕ) (text : List ℕ) (at : ℕ) → at ≤ length text → length text ≤ at + suc left → ((next : ℕ) → next ≤ length text → length text ≤ next + left → Goes text next) → (at < length text) ⊎ (length text ≤ at) → HasPiece (drop at text) → Goes text at
goes_by left text at within all go_on (inr past) p =
    let e : at ≡ length text = omega arith in
    inl ([], subst (λ (n : ℕ). Lexed text at [] n) e done)
goes_by left text at within all go_on (inl more) (piece.Gap n, g) =
    let size = length-drop at text in
    let w = gap_within (drop at text) n (omega arith) g in
    goes_gap text at n more g (go_on (at + n) (omega (arith, w.1)) (omega (arith, w.0)))
goes_by left text at within all go_on (inl more) (piece.Token k n, t) =
    let size = length-drop at text in
    let w = spelled_within (drop at text) k n (omega arith) t.0 in
    goes_token text at n k more t (go_on (at + n) (omega (arith, w.1)) (omega (arith, w.0)))
goes_by left text at within all go_on (inl more) (piece.Bad r n, b) = inr ([], at, r, n, done, more, b)

goes : (left : ℕ) (text : List ℕ) (at : ℕ) → at ≤ length text → length text ≤ at + left → Goes text at
goes zero text at within all =
    let e : at ≡ length text = omega arith in
    inl ([], subst (λ (n : ℕ). Lexed text at [] n) e done)
goes (suc left) text at within all = goes_by left text at within all (goes left text) (below_or_not at (length text)) (piece_of (drop at text))

pub tokens_or_fault : (text : List ℕ) → ((ts : List Token) × AreTokens text ts) ⊎ ((r : LexRule) × (p : ℕ) × IsFault text r p)
tokens_or_fault text =
    elim (goes (length text) text 0 (omega arith) (omega arith)) [
      | inl h ↦ inl h
      | inr h ↦ inr (h.2, h.1 + h.3, record { tokens = h.0; at = h.1; before = h.4; more = h.5; offset = h.3; bad = h.6; place_is = refl })
    ]
