-- One step along lists of values and of lines.
use Rattle.std.proofs.Common.{◌≡◌, ℕ, ◌+◌, ◌≤◌, ◌<◌, List, [], ◌∷◌, ◌++◌, length, drop, get_or, refl, arith, sym, ap, subst, ◌∙◌}
use Rattle.std.proofs.lemmas.Grind.{common_steps}
use Rattle.std.specs.List.{flat_map}
use Rattle.tie_desc.specs.Description.{Description}
use Rattle.asm_lines.specs.declared.line.Operand.{Operand}
use Rattle.asm_lines.specs.declared.line.Line.{Line}
use Rattle.asm_rules.specs.Operands.{Find}
use Rattle.asm_rules.proofs.Steps.{next}
use Rattle.xt_asm.specs.Bytes.{value_bytes, bytes, image_in}
use Rattle.xt_asm.specs.Spelled.{AcceptsValue, AreValues, HasBytes, HaveBytes}

-- ---- values

pub value_step : (size : ℕ) (vs : List Operand) (i : ℕ) (v : Operand) → i < length vs → v ≡ get_or vs i v
    → flat_map (value_bytes size) (drop i vs) ≡ value_bytes size v ++ flat_map (value_bytes size) (drop (i + 1) vs)
value_step size vs i v lt is =
    ap (flat_map (value_bytes size)) (next vs i v lt) ∙ ap (λ z. value_bytes size z ++ flat_map (value_bytes size) (drop (i + 1) vs)) (sym is)

pub accepts_step : (d : Description) (size : ℕ) (vs : List Operand) (i : ℕ) (v : Operand) → i < length vs → v ≡ get_or vs i v → AreValues d size (drop i vs)
    → AcceptsValue d size v × AreValues d size (drop (i + 1) vs)
accepts_step d size vs i v lt is h = subst (AreValues d size) (next vs i v lt ∙ ap (λ z. z ∷ drop (i + 1) vs) (sym is)) h

-- ---- lines

pub line_rest : (at : List ℕ) (ls : List Line) (i : ℕ) (l : Line) → i < length ls → l ≡ get_or ls i l → drop i ls ≡ l ∷ drop (i + 1) ls
line_rest at ls i l lt is = next ls i l lt ∙ ap (λ z. z ∷ drop (i + 1) ls) (sym is)

pub line_step : (d : Description) (find : Find) (at : List ℕ) (ls : List Line) (i : ℕ) (l : Line) → i < length at → i < length ls → l ≡ get_or ls i l
    → image_in d find (drop i at) (drop i ls) ≡ bytes d find (get_or at i 0) l.statement ++ image_in d find (drop (i + 1) at) (drop (i + 1) ls)
line_step d find at ls i l h lt is =
    ap (λ z. image_in d find z (drop i ls)) (next at i 0 h) ∙ ap (image_in d find (get_or at i 0 ∷ drop (i + 1) at)) (line_rest at ls i l lt is)

pub spelled_step : (d : Description) (find : Find) (at : List ℕ) (ls : List Line) (i : ℕ) (l : Line) → i < length at → i < length ls → l ≡ get_or ls i l
    → HaveBytes d find (drop i at) (drop i ls) → HasBytes d find (get_or at i 0) l.statement × HaveBytes d find (drop (i + 1) at) (drop (i + 1) ls)
spelled_step d find at ls i l h lt is k =
    let a = subst (λ z. HaveBytes d find z (drop i ls)) (next at i 0 h) k in
    subst (HaveBytes d find (get_or at i 0 ∷ drop (i + 1) at)) (line_rest at ls i l lt is) a

-- ---- the end

done : {A : Type 0} (xs : List A) (i : ℕ) → length xs ≤ i → drop i xs ≡ []
done xs i h = grind (arith, common_steps)

pub image_short : (d : Description) (find : Find) (at : List ℕ) (ls : List Line) (i : ℕ) → length at ≤ i → image_in d find (drop i at) (drop i ls) ≡ []
image_short d find at ls i h = ap (λ z. image_in d find z (drop i ls)) (done at i h)

pub image_done : (d : Description) (find : Find) (at : List ℕ) (ls : List Line) (i : ℕ) → length ls ≤ i → image_in d find (drop i at) (drop i ls) ≡ []
image_done d find at ls i h = ap (image_in d find (drop i at)) (done ls i h) ∙ empty (drop i at)
  where
    empty : (at : List ℕ) → image_in d find at [] ≡ []
    empty [] = refl
    empty (a ∷ at) = refl
