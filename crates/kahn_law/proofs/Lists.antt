-- Lists that grow, and lists that agree where both reach.
use Rattle.std.proofs.Common.{◌≡◌, ℕ, zero, suc, ◌+◌, ◌-◌, ◌<◌, ◌≤◌, List, [], ◌∷◌, ◌++◌, length, map, take, Some, refl, sym, ap, ◌∙◌, subst, inl, inr, ⊎_elim, arith}
use Rattle.std.specs.Prelude.{slice_get, ◌⊎◌}
use Rattle.std.specs.Option.{option_map}
use Rattle.std.proofs.lemmas.Option.{none-some, same_Some, slice_get-map, slice_get_within}
use Rattle.kahn_law.specs.Causal.{IsPrefixOf}
use Rattle.kahn_law.specs.Laws.{Agree}

-- each item of xs stands in ys at its place
abbrev pub IsWithin : {X : Type 0} → List X → List X → Type 0
IsWithin {X} xs ys = (i : ℕ) (x : X) → slice_get xs i ≡ Some x → slice_get ys i ≡ Some x

pub within_append : {X : Type 0} (xs more : List X) → IsWithin xs (xs ++ more)
within_append [] more i x e = absurd (none-some x e)
within_append (z ∷ zs) more zero x e = e
within_append (z ∷ zs) more (suc i) x e = within_append zs more i x e

pub within_of_prefix : {X : Type 0} (xs ys : List X) → IsPrefixOf xs ys → IsWithin xs ys
within_of_prefix xs ys p = subst (IsWithin xs) p.1 (within_append xs p.0)

pub prefix_of_within : {X : Type 0} (xs ys : List X) → IsWithin xs ys → IsPrefixOf xs ys
prefix_of_within [] ys h = (ys, refl)
prefix_of_within (x ∷ xs) [] h = absurd (none-some x (h 0 x refl))
prefix_of_within (x ∷ xs) (y ∷ ys) h =
    let e : x ≡ y = sym (same_Some y x (h 0 x refl)) in
    let more = prefix_of_within xs ys (λ i z k. h (suc i) z k) in
    let tail : xs ++ more.0 ≡ ys = more.1 in (more.0, cc)

-- the item at a place that the list reaches
pub item_at : {X : Type 0} (xs : List X) (i : ℕ) → i < length xs → (x : X) × (slice_get xs i ≡ Some x)
item_at [] i h = absurd (omega arith)
item_at (x ∷ xs) zero h = (x, refl)
item_at (x ∷ xs) (suc i) h = item_at xs i (omega arith)

-- an item of a mapped list comes from one of the list
pub mapped_item : {X Y : Type 0} (f : X → Y) (xs : List X) (i : ℕ) (y : Y) → slice_get (map f xs) i ≡ Some y → (x : X) × (slice_get xs i ≡ Some x) × (f x ≡ y)
mapped_item f [] i y e = absurd (none-some y e)
mapped_item f (x ∷ xs) zero y e = (x, refl, same_Some (f x) y e)
mapped_item f (x ∷ xs) (suc i) y e = mapped_item f xs i y e

pub within_map : {X Y : Type 0} (f : X → Y) (xs ys : List X) → IsWithin xs ys → IsWithin (map f xs) (map f ys)
within_map f xs ys h i y e =
    let m = mapped_item f xs i y e in
    slice_get-map f ys i ∙ ap (option_map f) (h i m.0 m.1) ∙ ap Some m.2

-- an item of a joined list stands in its front, or in its back at the place counted from there
pub joined_item : {X : Type 0} (xs ys : List X) (i : ℕ) (y : X) → slice_get (xs ++ ys) i ≡ Some y → (slice_get xs i ≡ Some y) ⊎ ((length xs ≤ i) × (slice_get ys (i - length xs) ≡ Some y))
joined_item [] ys i y e =
    let n : i ≡ i - 0 = omega arith in inr (omega arith, subst (λ (j : ℕ). slice_get ys j ≡ Some y) n e)
joined_item (x ∷ xs) ys zero y e = inl e
joined_item (x ∷ xs) ys (suc i) y e =
    ⊎_elim (λ a. inl a)
    (λ b. let le : length xs ≤ i = b.0 in
    let n : i - length xs ≡ suc i - length (x ∷ xs) = omega arith in
    inr (omega arith, subst (λ (j : ℕ). slice_get ys j ≡ Some y) n b.1))
    (joined_item xs ys i y e)

pub item_of_back : {X : Type 0} (xs ys : List X) (i : ℕ) (y : X) → length xs ≤ i → slice_get (xs ++ ys) i ≡ Some y → slice_get ys (i - length xs) ≡ Some y
item_of_back xs ys i y le e =
    ⊎_elim
    (λ a. let lt = slice_get_within xs i y a in absurd (omega arith))
    (λ b. b.1)
    (joined_item xs ys i y e)

pub back_item : {X : Type 0} (xs ys : List X) (i : ℕ) (y : X) → slice_get ys i ≡ Some y → slice_get (xs ++ ys) (length xs + i) ≡ Some y
back_item [] ys i y e = let n : i ≡ 0 + i = omega arith in subst (λ (j : ℕ). slice_get ys j ≡ Some y) n e
back_item (x ∷ xs) ys i y e =
    let n : suc (length xs + i) ≡ length (x ∷ xs) + i = omega arith in
    subst (λ (j : ℕ). slice_get (x ∷ (xs ++ ys)) j ≡ Some y) n (back_item xs ys i y e)

-- behind the same front
pub within_behind : {X : Type 0} (front xs ys : List X) → IsWithin xs ys → IsWithin (front ++ xs) (front ++ ys)
within_behind [] xs ys h i x e = h i x e
within_behind (z ∷ zs) xs ys h zero x e = e
within_behind (z ∷ zs) xs ys h (suc i) x e = within_behind zs xs ys h i x e

pub agree_behind : {X : Type 0} (front xs ys : List X) → Agree xs ys → Agree (front ++ xs) (front ++ ys)
agree_behind [] xs ys h i x y ex ey = h i x y ex ey
agree_behind (z ∷ zs) xs ys h zero x y ex ey = same_Some x y (sym ex ∙ ey)
agree_behind (z ∷ zs) xs ys h (suc i) x y ex ey = agree_behind zs xs ys h i x y ex ey

-- a list that agrees with a longer one is within it
pub within_of_agree : {X : Type 0} (xs ys : List X) → Agree xs ys → length xs ≤ length ys → IsWithin xs ys
within_of_agree xs ys h le i x e =
    let lt = slice_get_within xs i x e in
    let g = item_at ys i (omega arith) in
    g.1 ∙ ap Some (sym (h i x g.0 e g.1))

-- the first items of a list
pub take_within : {X : Type 0} (n : ℕ) (xs : List X) → IsWithin (take n xs) xs
take_within zero xs i x e = absurd (none-some x e)
take_within (suc n) [] i x e = absurd (none-some x e)
take_within (suc n) (z ∷ zs) zero x e = e
take_within (suc n) (z ∷ zs) (suc i) x e = take_within n zs i x e

pub item_of_take : {X : Type 0} (n : ℕ) (xs : List X) (i : ℕ) (x : X) → i < n → slice_get xs i ≡ Some x → slice_get (take n xs) i ≡ Some x
item_of_take zero xs i x lt e = absurd (omega arith)
item_of_take (suc n) [] i x lt e = absurd (none-some x e)
item_of_take (suc n) (z ∷ zs) zero x lt e = e
item_of_take (suc n) (z ∷ zs) (suc i) x lt e = item_of_take n zs i x (omega arith) e

pub take_prefix : {X : Type 0} (n : ℕ) (xs : List X) → IsPrefixOf (take n xs) xs
take_prefix n xs = prefix_of_within (take n xs) xs (take_within n xs)

-- two lists of one length, one within the other, are the same
pub same_of_within : {X : Type 0} (xs ys : List X) → length xs ≡ length ys → IsWithin xs ys → xs ≡ ys
same_of_within [] [] n h = refl
same_of_within [] (y ∷ ys) n h = absurd (omega arith)
same_of_within (x ∷ xs) [] n h = absurd (omega arith)
same_of_within (x ∷ xs) (y ∷ ys) n h =
    let e : x ≡ y = sym (same_Some y x (h 0 x refl)) in
    let m : length xs ≡ length ys = omega arith in
    let t : xs ≡ ys = same_of_within xs ys m (λ i z k. h (suc i) z k) in cc
