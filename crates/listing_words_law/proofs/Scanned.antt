-- Lines are read piece by piece.
use Rattle.std.proofs.Common.{◌≡◌, ℕ, ◌-◌, ◌<◌, false, List, [], ◌∷◌, ◌++◌, length, Result, Ok, Err, refl, ap, sym, ◌∙◌, arith, subst, append_assoc, inl, inr}
use Rattle.std.specs.Prelude.{◌==◌, if◌then◌else◌}
use Rattle.std.proofs.lemmas.Bool.Decides.{nat_tests}
use Rattle.asm_lines.specs.declared.token.Token.{Token}
use Rattle.asm_lines.specs.declared.token.TokenKind.{TokenKind}
use Rattle.asm_lines.specs.declared.token.TokenKind.TheVariants as kind
use Rattle.asm_lines.specs.declared.token.Spot.{Spot}
use Rattle.asm_lines.specs.declared.piece.Piece.TheVariants as piece
use Rattle.asm_lines.specs.Tokens.{Fault, front, moved, past, next_line, token_at, line_end, with_front, scan_piece, scan}
use Rattle.listing_words_law.specs.Chunks.{Chunk, space, shown, text_of, tokens_at, spot_after, Reads, AllRead}

-- ---- pieces one behind the other

pub text_of-append : (a b : List Chunk) → text_of (a ++ b) ≡ text_of a ++ text_of b
text_of-append [] b = refl
text_of-append (space ∷ a) b = ap (λ z. 32 ∷ z) (text_of-append a b)
text_of-append (shown k w ∷ a) b = ap (λ z. w ++ z) (text_of-append a b) ∙ sym (append_assoc w (text_of a) (text_of b))

pub tokens_at-append : (s : Spot) (a b : List Chunk) → tokens_at s (a ++ b) ≡ tokens_at s a ++ tokens_at (spot_after s a) b
tokens_at-append s [] b = refl
tokens_at-append s (space ∷ a) b = tokens_at-append (moved 1 s) a b
tokens_at-append s (shown k w ∷ a) b = ap (λ z. token_at k s ∷ z) (tokens_at-append (past (length w) s) a b)

pub AllRead-append : (a b : List Chunk) (rest : List ℕ) → AllRead a (text_of b ++ rest) → AllRead b rest → AllRead (a ++ b) rest
AllRead-append [] b rest f g = g
AllRead-append (space ∷ a) b rest f g = AllRead-append a b rest f g
AllRead-append (shown k w ∷ a) b rest f g =
    let e : text_of a ++ (text_of b ++ rest) ≡ text_of (a ++ b) ++ rest = sym (append_assoc (text_of a) (text_of b) rest) ∙ ap (λ z. z ++ rest) (sym (text_of-append a b)) in
    (f.0, subst (λ z. Reads k w z) e f.1, AllRead-append a b rest f.2 g)

-- ---- tokens

scan_skip : (w rest : List ℕ) (s : Spot) → scan (w ++ rest) (length w) s ≡ scan rest 0 s
scan_skip [] rest s = refl
scan_skip (b ∷ w) rest s = scan_skip w rest s

scan_token : (b : ℕ) (w rest : List ℕ) (k : TokenKind) (s : Spot) → front (b ∷ w ++ rest) ≡ piece.Token k (length (b ∷ w))
    → scan (b ∷ w ++ rest) 0 s ≡ with_front (token_at k s ∷ []) (scan rest 0 (past (length (b ∷ w)) s))
scan_token b w rest k s is =
    let e : length (b ∷ w) - 1 ≡ length w = omega arith in
    ap (λ p. scan_piece p s (λ j z. scan (w ++ rest) j z)) is
    ∙ ap (λ n. with_front (token_at k s ∷ []) (scan (w ++ rest) n (past (length (b ∷ w)) s))) e
    ∙ ap (with_front (token_at k s ∷ [])) (scan_skip w rest (past (length (b ∷ w)) s))

scan_bad : (b : ℕ) (w rest : List ℕ) (s : Spot) (ts : List Token) → front (b ∷ w ++ rest) ≡ piece.Bad → scan (b ∷ w ++ rest) 0 s ≡ Ok ts → ⊥
scan_bad b w rest s ts is h = let e = ap (λ p. scan_piece p s (λ j z. scan (w ++ rest) j z)) is in cc

record Split (us : List Token) (r : Result (List Token) Fault) (ts : List Token) : Type 0 where
  more : List Token
  is : ts ≡ us ++ more
  was : r ≡ Ok more

split : (us : List Token) (r : Result (List Token) Fault) (ts : List Token) → with_front us r ≡ Ok ts → Split us r ts
split us (Ok more) ts e = record { more = more; is = cc; was = refl }
split us (Err f) ts e = absurd cc

-- ---- pieces

-- the tokens of the pieces, and what is read behind them
pub record Passed (s : Spot) (cs : List Chunk) (rest : List ℕ) (ts : List Token) : Type 0 where
  pub more : List Token
  pub is : ts ≡ tokens_at s cs ++ more
  pub scanned : scan rest 0 (spot_after s cs) ≡ Ok more

pub pass : (cs : List Chunk) (s : Spot) (rest : List ℕ) (ts : List Token) → AllRead cs rest → scan (text_of cs ++ rest) 0 s ≡ Ok ts → Passed s cs rest ts
pass [] s rest ts f e = record { more = ts; is = refl; scanned = e }
pass (space ∷ cs) s rest ts f e = let p = pass cs (moved 1 s) rest ts f e in record { more = p.more; is = p.is; scanned = p.scanned }
pass (shown k [] ∷ cs) s rest ts f e = absurd (omega (arith, f.0))
pass (shown k (b ∷ w) ∷ cs) s rest ts f e =
    let e' : scan (b ∷ w ++ (text_of cs ++ rest)) 0 s ≡ Ok ts = ap (λ z. scan z 0 s) (sym (append_assoc (b ∷ w) (text_of cs) rest)) ∙ e in
    by f.1 e' (λ more h. pass cs (past (length (b ∷ w)) s) rest more f.2 h)
  where
    by : Reads k (b ∷ w) (text_of cs ++ rest) → scan (b ∷ w ++ (text_of cs ++ rest)) 0 s ≡ Ok ts
        → ((more : List Token) → scan (text_of cs ++ rest) 0 (past (length (b ∷ w)) s) ≡ Ok more → Passed (past (length (b ∷ w)) s) cs rest more)
        → Passed s (shown k (b ∷ w) ∷ cs) rest ts
    by (inr bad) h again = absurd (scan_bad b w (text_of cs ++ rest) s ts bad h)
    by (inl is) h again =
        let q = split (token_at k s ∷ []) (scan (text_of cs ++ rest) 0 (past (length (b ∷ w)) s)) ts (sym (scan_token b w (text_of cs ++ rest) k s is) ∙ h) in
        let p = again q.more q.was in
        record { more = p.more; is = q.is ∙ ap (λ z. token_at k s ∷ z) p.is; scanned = p.scanned }

-- ---- lines

some_behind : (cs : List Chunk) (s : Spot) (rest : List ℕ) → AllRead cs rest → 0 < s.behind → 0 < (spot_after s cs).behind
some_behind [] s rest f h = h
some_behind (space ∷ cs) s rest f h = some_behind cs (moved 1 s) rest f h
some_behind (shown k w ∷ cs) s rest f h = some_behind cs (past (length w) s) rest f.2 (omega (arith, f.0))

-- the end of a line behind a spot
abbrev pub end_at : Spot → Token
end_at s = record { kind = kind.LineEnd; line = s.line; column = s.behind }

ends_line : (s : Spot) → 0 < s.behind → line_end s ≡ end_at s ∷ []
ends_line s h = ap (λ b. if b then [] else end_at s ∷ []) (no_zero s.behind h)
  where
    no_zero : (n : ℕ) → 0 < n → (n == 0) ≡ false
    no_zero n h = grind (arith, nat_tests)

-- a line's tokens and its end, and what is read behind it
pub record PassedLine (s : Spot) (cs : List Chunk) (others : List ℕ) (ts : List Token) : Type 0 where
  pub more : List Token
  pub is : ts ≡ tokens_at s cs ++ end_at (spot_after s cs) ∷ more
  pub scanned : scan others 0 (next_line (spot_after s cs)) ≡ Ok more

-- a line that begins with a token
pub pass_line : (k : TokenKind) (w : List ℕ) (cs : List Chunk) (s : Spot) (others : List ℕ) (ts : List Token)
    → AllRead (shown k w ∷ cs) (10 ∷ others) → scan ((text_of (shown k w ∷ cs) ++ 10 ∷ []) ++ others) 0 s ≡ Ok ts → PassedLine s (shown k w ∷ cs) others ts
pass_line k w cs s others ts f e =
    let all = shown k w ∷ cs in
    let e' : scan (text_of all ++ 10 ∷ others) 0 s ≡ Ok ts = ap (λ z. scan z 0 s) (sym (append_assoc (text_of all) (10 ∷ []) others)) ∙ e in
    let p = pass all s (10 ∷ others) ts f e' in
    let end = spot_after s all in
    let b : 0 < end.behind = some_behind cs (past (length w) s) (10 ∷ others) f.2 (omega (arith, f.0)) in
    let q = split (line_end end) (scan others 0 (next_line end)) p.more p.scanned in
    record { more = q.more; is = p.is ∙ ap (λ z. tokens_at s all ++ z) (q.is ∙ ap (λ z. z ++ q.more) (ends_line end b)); scanned = q.was }
