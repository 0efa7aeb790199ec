-- Tokens piece by piece.
use Rattle.std.proofs.Common.{◌≡◌, ℕ, zero, suc, ◌+◌, ◌-◌, ◌<◌, ◌≤◌, List, [], ◌∷◌, ◌++◌, length, drop, get_or, Result, Ok, Err, refl, ap, sym, ◌∙◌, arith, subst, append_assoc, length-drop}
use Rattle.std.proofs.lemmas.List.{drop-drop}
use Rattle.std.proofs.Math.Seq.{drop-cons}
use Rattle.asm_lines.specs.declared.token.Token.{Token}
use Rattle.asm_lines.specs.declared.token.TokenKind.{TokenKind}
use Rattle.asm_lines.specs.declared.token.Spot.{Spot}
use Rattle.asm_lines.specs.declared.piece.Piece.{Piece}
use Rattle.asm_lines.specs.declared.piece.Piece.TheVariants as piece
use Rattle.asm_lines.specs.declared.refusal.AsmRule.TheVariants as rule
use Rattle.asm_lines.specs.Tokens.{Fault, front, moved, past, next_line, token_at, line_end, with_front, scan_piece, scan}
use Rattle.asm_lines.specs.Within.{IsWithin}

-- skipped bytes may be left out
scan_skip : (bs : List ℕ) (n : ℕ) (at : Spot) → scan bs n at ≡ scan (drop n bs) 0 at
scan_skip [] zero at = refl
scan_skip [] (suc n) at = refl
scan_skip (b ∷ bs) zero at = refl
scan_skip (b ∷ bs) (suc n) at = scan_skip bs n at

pub with_front-append : (ts us : List Token) (r : Result (List Token) Fault) → with_front ts (with_front us r) ≡ with_front (ts ++ us) r
with_front-append ts us (Ok more) = ap Ok (sym (append_assoc ts us more))
with_front-append ts us (Err e) = refl

module _ (text : List ℕ) (at : ℕ) (spot : Spot) (more : at < length text) where
  -- the piece at a place, and what follows it
  here : scan (drop at text) 0 spot ≡ scan_piece (front (drop at text)) spot (λ k s. scan (drop (at + 1) text) k s)
  here = by (drop at text) (drop-cons text at 0 more ∙ ap (λ n. get_or text at 0 ∷ drop n text) one)
    where
      one : suc at ≡ at + 1
      one = omega arith

      by : (xs : List ℕ) → xs ≡ get_or text at 0 ∷ drop (at + 1) text → scan xs 0 spot ≡ scan_piece (front xs) spot (λ k s. scan (drop (at + 1) text) k s)
      by xs e = let P : List ℕ → Type 0 = λ z. scan z 0 spot ≡ scan_piece (front z) spot (λ k s. scan (drop (at + 1) text) k s) in subst P (sym e) refl

  -- behind a piece of n bytes
  behind : (n : ℕ) (s : Spot) → 0 < n → scan (drop (at + 1) text) (n - 1) s ≡ scan (drop (at + n) text) 0 s
  behind n s h =
      let e : at + 1 + (n - 1) ≡ at + n = omega arith in
      scan_skip (drop (at + 1) text) (n - 1) s ∙ ap (λ z. scan z 0 s) (drop-drop (n - 1) (at + 1) text) ∙ ap (λ k. scan (drop k text) 0 s) e

  pub gap_step : (n : ℕ) → front (drop at text) ≡ piece.Gap n → 0 < n → scan (drop at text) 0 spot ≡ scan (drop (at + n) text) 0 (moved n spot)
  gap_step n is h = here ∙ ap (λ p. scan_piece p spot (λ k s. scan (drop (at + 1) text) k s)) is ∙ behind n (moved n spot) h

  pub token_step : (k : TokenKind) (n : ℕ) → front (drop at text) ≡ piece.Token k n → 0 < n
      → scan (drop at text) 0 spot ≡ with_front (token_at k spot ∷ []) (scan (drop (at + n) text) 0 (past n spot))
  token_step k n is h =
      here ∙ ap (λ p. scan_piece p spot (λ k s. scan (drop (at + 1) text) k s)) is
      ∙ ap (with_front (token_at k spot ∷ [])) (behind n (past n spot) h)

  pub line_step : front (drop at text) ≡ piece.LineFeed → scan (drop at text) 0 spot ≡ with_front (line_end spot) (scan (drop (at + 1) text) 0 (next_line spot))
  line_step is = here ∙ ap (λ p. scan_piece p spot (λ k s. scan (drop (at + 1) text) k s)) is

  pub bad_step : front (drop at text) ≡ piece.Bad → scan (drop at text) 0 spot ≡ Err (rule.BadToken, spot.line, spot.column)
  bad_step is = here ∙ ap (λ p. scan_piece p spot (λ k s. scan (drop (at + 1) text) k s)) is

-- nothing is left
pub scan_end : (text : List ℕ) (at : ℕ) (spot : Spot) → length text ≤ at → scan (drop at text) 0 spot ≡ Ok (line_end spot)
scan_end [] zero spot h = refl
scan_end [] (suc at) spot h = refl
scan_end (b ∷ bs) zero spot h = absurd (omega arith)
scan_end (b ∷ bs) (suc at) spot h = scan_end bs at spot (omega arith)
