-- One line after another.
use Rattle.std.proofs.Common.{◌≡◌, ℕ, ◌+◌, ◌<◌, ◌≤◌, List, [], ◌∷◌, ◌++◌, length, map, drop, get_or, refl, sym, ap, ◌∙◌, arith, zero, suc}
use Rattle.tie_expr.specs.Word.{Word}
use Rattle.tie_desc.specs.declared.declarations.StateDecl.{StateDecl}
use Rattle.tie_desc.specs.declared.declarations.FileDecl.{FileDecl}
use Rattle.tie_desc.specs.Description.{Description}
use Rattle.xt_state.specs.State.{State, File, file_at}
use Rattle.core_text.specs.Shape.{HasShape}

-- lists that are equal under two views are of one length
pub same_length : {A B C : Type 0} (f : A → C) (g : B → C) (xs : List A) (ys : List B) → map f xs ≡ map g ys → length xs ≡ length ys
same_length f g [] [] e = refl
same_length f g [] (y ∷ ys) e = absurd cc
same_length f g (x ∷ xs) [] e = absurd cc
same_length f g (x ∷ xs) (y ∷ ys) e = let rest : map f xs ≡ map g ys = cc in grind (arith, same_length f g xs ys rest)

-- and equal at each place
pub same_at : {A B C : Type 0} (f : A → C) (g : B → C) (xs : List A) (ys : List B) (i : ℕ) (x : A) (y : B) → map f xs ≡ map g ys → i < length xs → f (get_or xs i x) ≡ g (get_or ys i y)
same_at f g [] ys i x y e h = absurd (omega arith)
same_at f g (a ∷ xs) [] i x y e h = absurd cc
same_at f g (a ∷ xs) (b ∷ ys) zero x y e h = cc
same_at f g (a ∷ xs) (b ∷ ys) (suc i) x y e h = let rest : map f xs ≡ map g ys = cc in same_at f g xs ys i x y rest (grind arith)

pub states_count : (d : Description) (s : State) → HasShape d s → length s.states ≡ length d.states
states_count d s h = same_length _ _ s.states d.states h.states

pub files_count : (d : Description) (s : State) → HasShape d s → length s.files ≡ length d.files
files_count d s h = same_length _ _ s.files d.files h.files

-- the depth of a file is that of its declaration
pub file_depth : (d : Description) (s : State) (i : ℕ) (x : FileDecl) → HasShape d s → i < length d.files → x ≡ get_or d.files i x → x.depth ≡ length (file_at s i).values
file_depth d s i x shape h is =
    let none : File = record { width = 0; values = [] } in
    let same : ((get_or s.files i none).width, length (get_or s.files i none).values) ≡ ((get_or d.files i x).width, (get_or d.files i x).depth) =
    same_at {C = ℕ × ℕ} (λ f. (f.width, length f.values)) (λ f. (f.width, f.depth)) s.files d.files i none x shape.files (omega (arith, files_count d s shape)) in
    ap (λ z. z.depth) is ∙ sym (ap (λ (z : ℕ × ℕ). z.1) same)
