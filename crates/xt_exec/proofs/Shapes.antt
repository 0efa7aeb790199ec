-- States and files as the description says.
use Rattle.std.proofs.Common.{◌≡◌, ℕ, zero, suc, ◌%◌, ◌<◌, ◌^◌, List, [], ◌∷◌, length, map, slice_get, slice_set, get_or, refl, sym, ap, subst, ◌∙◌, arith}
use Rattle.std.proofs.Math.Nat.{mod-eq_of_lt}
use Rattle.std.proofs.Math.ListN.{length-set}
use Rattle.tie_expr.specs.Word.{Word}
use Rattle.tie_desc.specs.Description.{Description}
use Rattle.tie_desc.specs.Operands.{file_depth, file_width, state_width}
use Rattle.tie_desc.specs.declared.declarations.StateDecl.{StateDecl}
use Rattle.tie_desc.specs.declared.declarations.FileDecl.{FileDecl}
use Rattle.tie_desc.specs.declared.bundle.Spot.{Spot}
use Rattle.tie_desc.specs.declared.bundle.Spot.TheVariants as spot
use Rattle.xt_operate.specs.Bounds.{Fits}
use Rattle.xt_state.specs.State.{File, State, file_at, state_at}
use Rattle.xt_exec.specs.First.{file_shape}
use Rattle.xt_exec.specs.Made.{HasShape, bank_shape}
use Rattle.xt_exec.specs.Places.{put, put_all}

-- the state, and the file, of a number
width_in : (xs : List Word) (ys : List StateDecl) (i : ℕ) (d : Word) → map (λ x. x.width) xs ≡ map (λ y. y.width) ys → i < length ys
    → (get_or xs i d).width ≡ state_width (slice_get ys i)
width_in xs [] i d e lt = absurd (omega arith)
width_in [] (y ∷ ys) i d e lt = cc
width_in (x ∷ xs) (y ∷ ys) zero d e lt = cc
width_in (x ∷ xs) (y ∷ ys) (suc i) d e lt = width_in xs ys i d (rest e) (omega arith)
  where
    rest : {a b : ℕ} {as' bs : List ℕ} → a ∷ as' ≡ b ∷ bs → as' ≡ bs
    rest e = cc

shape_in : (xs : List File) (ys : List FileDecl) (f : ℕ) (d : File) → map bank_shape xs ≡ map file_shape ys → f < length ys
    → bank_shape (get_or xs f d) ≡ (file_width (slice_get ys f), file_depth (slice_get ys f))
shape_in xs [] f d e lt = absurd (omega arith)
shape_in [] (y ∷ ys) f d e lt = cc
shape_in (x ∷ xs) (y ∷ ys) zero d e lt = first e
  where
    first : {a b : ℕ × ℕ} {as' bs : List (ℕ × ℕ)} → a ∷ as' ≡ b ∷ bs → a ≡ b
    first e = cc
shape_in (x ∷ xs) (y ∷ ys) (suc f) d e lt = shape_in xs ys f d (rest e) (omega arith)
  where
    rest : {a b : ℕ × ℕ} {as' bs : List (ℕ × ℕ)} → a ∷ as' ≡ b ∷ bs → as' ≡ bs
    rest e = cc

pub state_width_is : (d : Description) (s : State) (i : ℕ) → HasShape d s → i < length d.states → (state_at s i).width ≡ state_width (slice_get d.states i)
state_width_is d s i shape lt = width_in s.states d.states i (record { width = 0; value = 0 }) shape.states lt

pub file_width_is : (d : Description) (s : State) (f : ℕ) → HasShape d s → f < length d.files → (file_at s f).width ≡ file_width (slice_get d.files f)
file_width_is d s f shape lt = ap (λ x. x.0) (shape_in s.files d.files f (record { width = 0; values = [] }) shape.files lt)

pub file_depth_is : (d : Description) (s : State) (f : ℕ) → HasShape d s → f < length d.files → length (file_at s f).values ≡ file_depth (slice_get d.files f)
file_depth_is d s f shape lt = ap (λ x. x.1) (shape_in s.files d.files f (record { width = 0; values = [] }) shape.files lt)

pub register_there : (d : Description) (s : State) (f n v : ℕ) → HasShape d s → Fits d (spot.File f n) v → n < length (file_at s f).values
register_there d s f n v shape fits = let e = file_depth_is d s f shape fits.0 in omega (arith, e, fits.1)

-- a value that fits keeps its bits
pub state_bits : (d : Description) (s : State) (i v : ℕ) → HasShape d s → Fits d (spot.State i) v → v % 2 ^ (state_at s i).width ≡ v
state_bits d s i v shape fits =
    let e = state_width_is d s i shape fits.0 in
    ap (λ w. v % 2 ^ w) e ∙ mod-eq_of_lt fits.1

pub register_bits : (d : Description) (s : State) (f n v : ℕ) → HasShape d s → Fits d (spot.File f n) v → v % 2 ^ (file_at s f).width ≡ v
register_bits d s f n v shape fits =
    let e = file_width_is d s f shape fits.0 in
    ap (λ w. v % 2 ^ w) e ∙ mod-eq_of_lt fits.2

-- ---- writes keep the shape

map-set_same : {A B : Type 0} (g : A → B) (xs : List A) (i : ℕ) (x d : A) → g x ≡ g (get_or xs i d) → map g (slice_set xs i x) ≡ map g xs
map-set_same g [] i x d e = refl
map-set_same g (y ∷ ys) zero x d e = ap (λ z. z ∷ map g ys) e
map-set_same g (y ∷ ys) (suc i) x d e = ap (λ l. g y ∷ l) (map-set_same g ys i x d e)

pub shape_put : (d : Description) (s : State) (place : Spot) (v : ℕ) → HasShape d s → HasShape d (put s place v)
shape_put d s (spot.Ar n) v shape = record { states = shape.states; files = shape.files }
shape_put d s spot.Sar v shape = record { states = shape.states; files = shape.files }
shape_put d s (spot.State i) v shape = record {
  states = map-set_same (λ (x : Word). x.width) s.states i (record { width = (state_at s i).width; value = v }) (record { width = 0; value = 0 }) refl ∙ shape.states;
  files = shape.files;
}
shape_put d s (spot.File f n) v shape = record {
  states = shape.states;
  files =
      map-set_same bank_shape s.files f (record { width = (file_at s f).width; values = slice_set (file_at s f).values n v }) (record { width = 0; values = [] })
      (ap (λ k. ((file_at s f).width, k)) (length-set (file_at s f).values n v)) ∙ shape.files;
}
shape_put d s (spot.In q) v shape = shape
shape_put d s (spot.Out q) v shape = shape

pub shape_put_all : (d : Description) (s : State) (xs : List (Spot × ℕ)) → HasShape d s → HasShape d (put_all s xs)
shape_put_all d s [] shape = shape
shape_put_all d s (x ∷ xs) shape = shape_put_all d (put s x.0 x.1) xs (shape_put d s x.0 x.1 shape)
