-- The first state is made for its description.
use Rattle.std.proofs.Common.{◌≡◌, ℕ, ◌+◌, ◌<◌, ◌≤◌, List, [], ◌∷◌, ◌++◌, length, map, take, replicate, ◌-◌, All, refl, sym, ap, subst, ◌∙◌}
use Rattle.std.specs.Prelude.{IfOk, Result, Ok, Err}
use Rattle.std.proofs.Math.Seq.{take-append_seam}
use Rattle.std.proofs.lemmas.List.{length-replicate}
use Rattle.std.proofs.lemmas.List.Elements.{All-map, All-weaker}
use Rattle.tie_desc.specs.Description.{Description}
use Rattle.tie_desc.specs.Fetching.{IsImage}
use Rattle.tie_desc.specs.Invariant.{IsFile}
use Rattle.tie_desc.specs.declared.declarations.StateDecl.{StateDecl}
use Rattle.tie_desc.specs.declared.declarations.FileDecl.{FileDecl}
use Rattle.tie_desc.specs.declared.bundle.Kit.{Kit}
use Rattle.xt_state.specs.State.{State, loaded, zero_file}
use Rattle.xt_exec.specs.First.{file_shape, first_state, reset_word}
use Rattle.xt_exec.specs.Made.{HasShape, IsFor, bank_shape, text_of}

-- widths of files are 1 to 128 bits
abbrev pub IsShape : ℕ × ℕ → Type 0
IsShape x = (0 < x.0) × (x.0 ≤ 128)

file_fine : (f : FileDecl) → IsFile f → IsShape (file_shape f)
file_fine f is = (is.width.some, is.width.most)

pub files_fine : (files : List FileDecl) → All IsFile files → All IsShape (map file_shape files)
files_fine files all = All-map IsShape file_shape files (All-weaker IsFile (λ f. IsShape (file_shape f)) file_fine files all)

same_widths : (states : List StateDecl) → map (λ x. x.width) (map reset_word states) ≡ map (λ x. x.width) states
same_widths [] = refl
same_widths (x ∷ xs) = ap (λ l. x.width ∷ l) (same_widths xs)

same_shapes : (shapes : List (ℕ × ℕ)) → map bank_shape (map zero_file shapes) ≡ shapes
same_shapes [] = refl
same_shapes (x ∷ xs) = ap (λ n. (x.0, n) ∷ map bank_shape (map zero_file xs)) (length-replicate x.1 0) ∙ ap (λ l. x ∷ l) (same_shapes xs)

text_first : (d : Description) (memory : ℕ) (text : List ℕ) → text_of (first_state d memory text) ≡ text
unfolding loaded
text_first d memory text = take-append_seam text (replicate (memory - length text) 0)

pub made_first : (d : Description) (memory : ℕ) (text : List ℕ) (kit : Kit) → kit.desc ≡ d → IsImage d text kit.image.at → IsFor kit (first_state d memory text)
made_first d memory text kit e image =
    let shape : HasShape d (first_state d memory text) = record { states = same_widths d.states; files = same_shapes (map file_shape d.files) } in
    record {
      shape = subst (λ x. HasShape x (first_state d memory text)) (sym e) shape;
      image =
          subst (λ x. IsImage x (text_of (first_state d memory text)) kit.image.at) (sym e)
          (subst (λ x. IsImage d x kit.image.at) (sym (text_first d memory text)) image);
    }

-- so whatever kit has the image of the text
abbrev pub IsMade : Description → List ℕ → State → Type 0
IsMade d text arch = (kit : Kit) → kit.desc ≡ d → IsImage d text kit.image.at → IsFor kit arch

pub made_state : (d : Description) (memory : ℕ) (text : List ℕ) (arch : State) → arch ≡ first_state d memory text → IsMade d text arch
made_state d memory text arch e = subst (IsMade d text) (sym e) (made_first d memory text)

-- of an answer that is there
pub if_ok : {A E : Type 0} (r : Result A E) (P Q : A → Type 0) → ((x : A) → P x → Q x) → IfOk r P → IfOk r Q
if_ok (Ok x) P Q f h = f x h
if_ok (Err e) P Q f h = h
