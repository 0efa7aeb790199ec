-- The values of places that fit a description.
use Rattle.std.proofs.Common.{◌≡◌, ◌⊎◌, ℕ, ◌<◌, ◌≤◌, ◌^◌, ◌%◌, Bool, true, false, cond, List, [], ◌∷◌, length, slice_index, All, inl, inr, refl, sym, ap, subst, ◌∙◌, arith, ⊎_elim}
use Rattle.std.specs.Prelude.{◌==◌}
use Rattle.std.proofs.lemmas.Bool.{eqb-true}
use Rattle.std.proofs.lemmas.Nat.{pow_pos}
use Rattle.std.proofs.lemmas.List.{get_or_past}
use Rattle.std.proofs.Math.Path.{fun_ext}
use Rattle.std.proofs.lemmas.List.Elements.{All-head, All-tail}
use Rattle.std.proofs.Math.Nat.{mod-eq_of_lt}
use Rattle.tie_desc.proofs.Lists.{both_left, both_right}
use Rattle.tie_desc.specs.Description.{Description}
use Rattle.tie_desc.specs.Operands.{kind_width}
use Rattle.tie_desc.specs.Spots.{same_spot}
use Rattle.tie_desc.specs.declared.declarations.Kind.TheVariants as kind
use Rattle.tie_desc.specs.declared.bundle.Spot.{Spot}
use Rattle.tie_desc.specs.declared.bundle.Spot.TheVariants as spot
use Rattle.xt_core.specs.View.{View}
use Rattle.xt_operate.specs.Bounds.{Fits}
use Rattle.xt_operate.specs.Operate.{view}
use Rattle.xt_operate.specs.Values.{IsHeld, value_in}

-- places that are the same are one
pub same_place : (a b : Spot) → same_spot a b ≡ true → a ≡ b
same_place (spot.Ar a) (spot.Ar b) h = ap (λ n. spot.Ar n) (eqb-true a b h)
same_place (spot.Ar a) spot.Sar h = cc
same_place (spot.Ar a) (spot.State b) h = cc
same_place (spot.Ar a) (spot.File f b) h = cc
same_place (spot.Ar a) (spot.In b) h = cc
same_place (spot.Ar a) (spot.Out b) h = cc
same_place spot.Sar (spot.Ar b) h = cc
same_place spot.Sar spot.Sar h = refl
same_place spot.Sar (spot.State b) h = cc
same_place spot.Sar (spot.File f b) h = cc
same_place spot.Sar (spot.In b) h = cc
same_place spot.Sar (spot.Out b) h = cc
same_place (spot.State a) (spot.Ar b) h = cc
same_place (spot.State a) spot.Sar h = cc
same_place (spot.State a) (spot.State b) h = ap (λ n. spot.State n) (eqb-true a b h)
same_place (spot.State a) (spot.File f b) h = cc
same_place (spot.State a) (spot.In b) h = cc
same_place (spot.State a) (spot.Out b) h = cc
same_place (spot.File f a) (spot.Ar b) h = cc
same_place (spot.File f a) spot.Sar h = cc
same_place (spot.File f a) (spot.State b) h = cc
same_place (spot.File f a) (spot.File g b) h =
    ap (λ n. spot.File n a) (eqb-true f g (both_left (f == g) (a == b) h)) ∙ ap (λ n. spot.File g n) (eqb-true a b (both_right (f == g) (a == b) h))
same_place (spot.File f a) (spot.In b) h = cc
same_place (spot.File f a) (spot.Out b) h = cc
same_place (spot.In a) (spot.Ar b) h = cc
same_place (spot.In a) spot.Sar h = cc
same_place (spot.In a) (spot.State b) h = cc
same_place (spot.In a) (spot.File f b) h = cc
same_place (spot.In a) (spot.In b) h = ap (λ n. spot.In n) (eqb-true a b h)
same_place (spot.In a) (spot.Out b) h = cc
same_place (spot.Out a) (spot.Ar b) h = cc
same_place (spot.Out a) spot.Sar h = cc
same_place (spot.Out a) (spot.State b) h = cc
same_place (spot.Out a) (spot.File f b) h = cc
same_place (spot.Out a) (spot.In b) h = cc
same_place (spot.Out a) (spot.Out b) h = ap (λ n. spot.Out n) (eqb-true a b h)

-- no entry, or one that fits
MayFit : Description → Spot → ℕ → Type 0
MayFit d place v = (v ≡ 0) ⊎ Fits d place v

found : (d : Description) (b : Bool) (x : Spot × ℕ) (place : Spot) (rest : ℕ) → b ≡ same_spot x.0 place → IsHeld d x → MayFit d place rest → MayFit d place (cond b x.1 rest)
unfolding MayFit
found d true x place rest e here more = inr (subst (λ s. Fits d s x.1) (same_place x.0 place (sym e)) here)
found d false x place rest e here more = more

may_fit : (d : Description) (xs : List (Spot × ℕ)) (place : Spot) → All (IsHeld d) xs → MayFit d place (value_in xs place)
unfolding MayFit
may_fit d [] place all = inl refl
may_fit d (x ∷ xs) place all =
    found d (same_spot x.0 place) x place (value_in xs place) refl (All-head (IsHeld d) x xs all) (may_fit d xs place (All-tail (IsHeld d) x xs all))

-- a register's value, and no register past a15
pub register_fits : (d : Description) (xs : List (Spot × ℕ)) (n : ℕ) → All (IsHeld d) xs → value_in xs (spot.Ar n) < 2 ^ 32
unfolding MayFit
register_fits d xs n all = ⊎_elim (λ none. omega (arith, none)) (λ fits. fits.1) (may_fit d xs (spot.Ar n) all)

pub no_register : (d : Description) (xs : List (Spot × ℕ)) (n : ℕ) → All (IsHeld d) xs → 16 ≤ n → value_in xs (spot.Ar n) ≡ 0
unfolding MayFit
no_register d xs n all h = ⊎_elim (λ none. none) (λ fits. absurd (omega (arith, fits.0, h))) (may_fit d xs (spot.Ar n) all)

pub sar_fits : (d : Description) (xs : List (Spot × ℕ)) → All (IsHeld d) xs → value_in xs spot.Sar ≤ 32
unfolding MayFit
sar_fits d xs all = ⊎_elim (λ none. omega (arith, none)) (λ fits. fits) (may_fit d xs spot.Sar all)

-- values as words keep all their bits
below : (v w : ℕ) → (v ≡ 0) ⊎ (v < 2 ^ w) → v < 2 ^ w
below v w (inl none) = let some = pow_pos w in omega arith
below v w (inr fits) = fits

pub register_kept : (d : Description) (xs : List (Spot × ℕ)) (n : ℕ) → All (IsHeld d) xs → value_in xs (spot.Ar n) % 2 ^ 32 ≡ value_in xs (spot.Ar n)
register_kept d xs n all = mod-eq_of_lt (register_fits d xs n all)

pub state_kept : (d : Description) (xs : List (Spot × ℕ)) (s : ℕ) → All (IsHeld d) xs → value_in xs (spot.State s) % 2 ^ kind_width d (kind.State s) ≡ value_in xs (spot.State s)
unfolding MayFit
state_kept d xs s all =
    mod-eq_of_lt (below _ _ (⊎_elim (λ none. inl none) (λ fits. inr fits.1) (may_fit d xs (spot.State s) all)))

pub file_kept : (d : Description) (xs : List (Spot × ℕ)) (f n : ℕ) → All (IsHeld d) xs → value_in xs (spot.File f n) % 2 ^ kind_width d (kind.File f) ≡ value_in xs (spot.File f n)
unfolding MayFit
file_kept d xs f n all =
    mod-eq_of_lt (below _ _ (⊎_elim (λ none. inl none) (λ fits. inr fits.2) (may_fit d xs (spot.File f n) all)))

pub item_kept : (d : Description) (xs : List (Spot × ℕ)) (q : ℕ) → All (IsHeld d) xs → value_in xs (spot.In q) % 2 ^ kind_width d (kind.InQueue q) ≡ value_in xs (spot.In q)
unfolding MayFit
item_kept d xs q all =
    mod-eq_of_lt (below _ _ (⊎_elim (λ none. inl none) (λ fits. inr fits.1) (may_fit d xs (spot.In q) all)))

pub output_kept : (d : Description) (xs : List (Spot × ℕ)) (q : ℕ) → All (IsHeld d) xs → value_in xs (spot.Out q) % 2 ^ kind_width d (kind.OutQueue q) ≡ value_in xs (spot.Out q)
unfolding MayFit
output_kept d xs q all =
    mod-eq_of_lt (below _ _ (⊎_elim (λ none. inl none) (λ fits. inr fits.1) (may_fit d xs (spot.Out q) all)))

-- sixteen such registers are all that a core instruction sees
pub same_registers : (d : Description) (xs : List (Spot × ℕ)) (ar : List ℕ) → All (IsHeld d) xs → length ar ≡ 16
    → ((n : ℕ) → n < 16 → slice_index ar n ≡ value_in xs (spot.Ar n)) → (n : ℕ) → slice_index ar n ≡ value_in xs (spot.Ar n)
same_registers d xs ar all long same n = ⊎_elim (λ h. same n h) (λ h. beyond h) (side n)
  where
    side : (n : ℕ) → (n < 16) ⊎ (16 ≤ n)
    side n = grind arith

    beyond : 16 ≤ n → slice_index ar n ≡ value_in xs (spot.Ar n)
    beyond h = get_or_past ar n 0 (omega arith) ∙ sym (no_register d xs n all h)

abbrev pub seen : ℕ → (ℕ → ℕ) → ℕ → View
seen pc ar sar = record { pc = pc; ar = ar; sar = sar }

pub same_view : (pc sar : ℕ) (ar : List ℕ) (reads : Spot → ℕ) → ((n : ℕ) → slice_index ar n ≡ reads (spot.Ar n)) → sar ≡ reads spot.Sar
    → seen pc (λ n. slice_index ar n) sar ≡ view pc reads
same_view pc sar ar reads same e =
    ap (λ f. seen pc f sar) (fun_ext same) ∙ ap (λ s. seen pc (λ n. reads (spot.Ar n)) s) e
