-- Elements of lists.
use Rattle.std.proofs.Common.{◌≡◌, ◌≢◌, ◌⊎◌, inl, inr, ⊎_elim, ℕ, zero, suc, ◌+◌, ◌<◌, ◌≤◌, List, [], ◌∷◌, ◌++◌, Bool, true, false, cond, not, ◌||◌, ◌&&◌, Option, Some, None, option_map, refl, ap, sym, subst, ◌∙◌, arith, map, length, get_or, append_assoc}
use Rattle.std.specs.List.{All, AllByRecursion, flat_map, list_any, list_all, find}
use Rattle.tie_describe.specs.tie_rules.Least.{when, behind_from, Among, NoPlace}

abbrev pub In : {A : Type 0} → A → List A → Type 0
In x [] = ⊥
In x (y ∷ ys) = (x ≡ y) ⊎ In x ys

pub in_at : {A : Type 0} (xs : List A) (k : ℕ) (d : A) → k < length xs → In (get_or xs k d) xs
in_at [] k d h = absurd (omega (arith, h))
in_at (x ∷ xs) zero d h = inl refl
in_at (x ∷ xs) (suc k) d h = inr (in_at xs k d (omega (arith, h)))

pub all_from : {A : Type 0} (P : A → Type 0) (xs : List A) → ((x : A) → In x xs → P x) → All P xs
all_from P xs h = λ k d l. h (get_or xs k d) (in_at xs k d l)

-- ---- joined lists

pub in_append : {A : Type 0} (x : A) (as' bs : List A) → In x (as' ++ bs) → In x as' ⊎ In x bs
in_append x [] bs h = inr h
in_append x (a ∷ as') bs (inl e) = inl (inl e)
in_append x (a ∷ as') bs (inr h) = ⊎_elim (λ l. inl (inr l)) (λ r. inr r) (in_append x as' bs h)

pub in_left : {A : Type 0} (x : A) (as' bs : List A) → In x as' → In x (as' ++ bs)
in_left x [] bs h = absurd h
in_left x (a ∷ as') bs (inl e) = inl e
in_left x (a ∷ as') bs (inr h) = inr (in_left x as' bs h)

pub in_right : {A : Type 0} (x : A) (as' bs : List A) → In x bs → In x (as' ++ bs)
in_right x [] bs h = h
in_right x (a ∷ as') bs h = inr (in_right x as' bs h)

pub from_flat_map : {A B : Type 0} (f : A → List B) (xs : List A) (y : B) → In y (flat_map f xs) → (x : A) × In x xs × In y (f x)
from_flat_map f [] y h = absurd h
from_flat_map f (x ∷ xs) y h =
    ⊎_elim (λ l. (x, inl refl, l)) (λ r. let rest = from_flat_map f xs y r in (rest.0, inr rest.1, rest.2)) (in_append y (f x) (flat_map f xs) h)

pub to_flat_map : {A B : Type 0} (f : A → List B) (xs : List A) (x : A) (y : B) → In x xs → In y (f x) → In y (flat_map f xs)
to_flat_map f [] x y h i = absurd h
to_flat_map f (z ∷ xs) x y (inl e) i = in_left y (f z) (flat_map f xs) (subst (λ v. In y (f v)) e i)
to_flat_map f (z ∷ xs) x y (inr h) i = in_right y (f z) (flat_map f xs) (to_flat_map f xs x y h i)

pub from_map : {A B : Type 0} (f : A → B) (xs : List A) (y : B) → In y (map f xs) → (x : A) × In x xs × (y ≡ f x)
from_map f [] y h = absurd h
from_map f (x ∷ xs) y (inl e) = (x, inl refl, e)
from_map f (x ∷ xs) y (inr h) = let rest = from_map f xs y h in (rest.0, inr rest.1, rest.2)

pub to_map : {A B : Type 0} (f : A → B) (xs : List A) (x : A) → In x xs → In (f x) (map f xs)
to_map f [] x h = absurd h
to_map f (z ∷ xs) x (inl e) = inl (ap f e)
to_map f (z ∷ xs) x (inr h) = inr (to_map f xs x h)

-- ---- tests

pub any_in : {A : Type 0} (p : A → Bool) (xs : List A) → list_any p xs ≡ true → (x : A) × In x xs × (p x ≡ true)
any_in p [] e = absurd cc
any_in p (x ∷ xs) e = by_test (p x) refl (λ r. any_in p xs r)
  where
    by_test : (b : Bool) → p x ≡ b → (list_any p xs ≡ true → (y : _) × In y xs × (p y ≡ true)) → (y : _) × In y (x ∷ xs) × (p y ≡ true)
    by_test true is again = (x, inl refl, is)
    by_test false is again = let rest = again (ap (λ b. b || list_any p xs) (sym is) ∙ e) in (rest.0, inr rest.1, rest.2)

or_left : (a b : Bool) → a ≡ true → (a || b) ≡ true
or_left true b e = refl
or_left false b e = absurd cc

or_right : (a b : Bool) → b ≡ true → (a || b) ≡ true
or_right true b e = refl
or_right false b e = e

pub or_none : (a b : Bool) → (a || b) ≡ false → (a ≡ false) × (b ≡ false)
or_none true b e = absurd cc
or_none false b e = (refl, e)

pub and_both : (a b : Bool) → (a && b) ≡ true → (a ≡ true) × (b ≡ true)
and_both true b e = (refl, e)
and_both false b e = absurd cc

pub not_true : (a : Bool) → not a ≡ true → a ≡ false
not_true true e = absurd cc
not_true false e = refl

pub not_false : (a : Bool) → not a ≡ false → a ≡ true
not_false true e = refl
not_false false e = absurd cc

pub to_any : {A : Type 0} (p : A → Bool) (xs : List A) (x : A) → In x xs → p x ≡ true → list_any p xs ≡ true
to_any p [] x h e = absurd h
to_any p (y ∷ xs) x (inl i) e = or_left (p y) (list_any p xs) (ap p (sym i) ∙ e)
to_any p (y ∷ xs) x (inr h) e = or_right (p y) (list_any p xs) (to_any p xs x h e)

pub none_in : {A : Type 0} (p : A → Bool) (xs : List A) (x : A) → list_any p xs ≡ false → In x xs → p x ≡ false
none_in p [] x e h = absurd h
none_in p (y ∷ xs) x e (inl i) = ap p i ∙ (or_none (p y) (list_any p xs) e).0
none_in p (y ∷ xs) x e (inr h) = none_in p xs x (or_none (p y) (list_any p xs) e).1 h

pub any_none : {A : Type 0} (p : A → Bool) (xs : List A) → ((x : A) → In x xs → p x ≡ true → ⊥) → list_any p xs ≡ false
any_none p xs h = by_test (list_any p xs) refl
  where
    by_test : (b : Bool) → list_any p xs ≡ b → b ≡ false
    by_test true e = let it = any_in p xs e in absurd (h it.0 it.1 it.2)
    by_test false e = refl

pub all_true : {A : Type 0} (p : A → Bool) (xs : List A) → ((x : A) → In x xs → p x ≡ true) → list_all p xs ≡ true
all_true p [] h = refl
all_true p (x ∷ xs) h = ap (λ b. b && list_all p xs) (h x (inl refl)) ∙ all_true p xs (λ y i. h y (inr i))

pub found : {A : Type 0} (p : A → Bool) (xs : List A) (x : A) → find p xs ≡ Some x → In x xs × (p x ≡ true)
found p [] x e = absurd cc
found p (y ∷ xs) x e = by_test (p y) refl (λ r. found p xs x r)
  where
    by_test : (b : Bool) → p y ≡ b → (find p xs ≡ Some x → In x xs × (p x ≡ true)) → In x (y ∷ xs) × (p x ≡ true)
    by_test true is again =
        let same : Some y ≡ Some x = ap (λ b. cond b (Some y) (find p xs)) (sym is) ∙ e in
        let xy : x ≡ y = cc in (inl xy, ap p xy ∙ is)
    by_test false is again =
        let rest = again (ap (λ b. cond b (Some y) (find p xs)) (sym is) ∙ e) in (inr rest.0, rest.1)

pub find_any : {A : Type 0} (p : A → Bool) (xs : List A) → list_any p xs ≡ true → (x : A) × (find p xs ≡ Some x)
find_any p [] e = absurd cc
find_any p (y ∷ xs) e = by_test (p y) refl (λ r. find_any p xs r)
  where
    by_test : (b : Bool) → p y ≡ b → (list_any p xs ≡ true → (x : _) × (find p xs ≡ Some x)) → (x : _) × (find p (y ∷ xs) ≡ Some x)
    by_test true is again = (y, ap (λ b. cond b (Some y) (find p xs)) is)
    by_test false is again =
        let rest = again (ap (λ b. b || list_any p xs) (sym is) ∙ e) in (rest.0, ap (λ b. cond b (Some y) (find p xs)) is ∙ rest.1)

-- ---- broken nowhere

pub no_places : (ps : List ℕ) → NoPlace ps → ps ≡ []
no_places [] h = refl
no_places (p ∷ ps) h = absurd (h p (inl refl))

pub none_both : {A : Type 0} (as' bs : List A) → as' ++ bs ≡ [] → (as' ≡ []) × (bs ≡ [])
none_both [] bs e = (refl, e)
none_both (a ∷ as') bs e = absurd cc

pub when_none : (b : Bool) (p : ℕ) → when b p ≡ [] → b ≡ false
when_none true p e = absurd cc
when_none false p e = refl

pub none_at : {A B : Type 0} (f : A → List B) (xs : List A) → flat_map f xs ≡ [] → (x : A) → In x xs → f x ≡ []
none_at f [] e x h = absurd h
none_at f (y ∷ xs) e x (inl i) = ap f i ∙ (none_both (f y) (flat_map f xs) e).0
none_at f (y ∷ xs) e x (inr h) = none_at f xs (none_both (f y) (flat_map f xs) e).1 x h

-- each thing keeps a rule that looks at those before it
abbrev pub Behind : {A : Type 0} → (List A → A → Type 0) → List A → List A → Type 0
Behind P before [] = Unit {0}
Behind P before (x ∷ xs) = P before x × Behind P (before ++ x ∷ []) xs

pub behind_none : {A : Type 0} (f : List A → A → List ℕ) (before xs : List A) → behind_from f before xs ≡ [] → Behind (λ b x. f b x ≡ []) before xs
behind_none f before [] e = tt
behind_none f before (x ∷ xs) e =
    let both = none_both (f before x) (behind_from f (before ++ x ∷ []) xs) e in (both.0, behind_none f (before ++ x ∷ []) xs both.1)

-- at each there are some before it
pub behind_at : {A : Type 0} (P : List A → A → Type 0) (before xs : List A) (x : A) → Behind P before xs → In x xs → (front : List A) × P front x
behind_at P before [] x h i = absurd i
behind_at P before (y ∷ xs) x h (inl e) = (before, subst (P before) (sym e) h.0)
behind_at P before (y ∷ xs) x h (inr i) = behind_at P (before ++ y ∷ []) xs x h.1 i

pub map_length : {A B : Type 0} (f : A → B) (xs : List A) → length (map f xs) ≡ length xs
map_length f [] = refl
map_length f (x ∷ xs) = let e = map_length f xs in omega (arith, e)

pub all_in : {A : Type 0} (p : A → Bool) (xs : List A) → list_all p xs ≡ true → (x : A) → In x xs → p x ≡ true
all_in p [] e x i = absurd i
all_in p (y ∷ xs) e x (inl s) = ap p s ∙ (and_both (p y) (list_all p xs) e).0
all_in p (y ∷ xs) e x (inr i) = all_in p xs (and_both (p y) (list_all p xs) e).1 x i

pub find_none : {A : Type 0} (p : A → Bool) (xs : List A) → list_any p xs ≡ false → find p xs ≡ None
find_none p [] e = refl
find_none p (y ∷ xs) e =
    let both = or_none (p y) (list_any p xs) e in ap (λ b. cond b (Some y) (find p xs)) both.0 ∙ find_none p xs both.1

pub in_rec : {A : Type 0} (P : A → Type 0) (xs : List A) (x : A) → AllByRecursion P xs → In x xs → P x
in_rec P [] x h i = absurd i
in_rec P (y ∷ xs) x h (inl e) = subst P (sym e) h.0
in_rec P (y ∷ xs) x h (inr i) = in_rec P xs x h.1 i

-- at each thing there are some before it, which have all that stand further before
pub behind_after : {A : Type 0} (P : List A → A → Type 0) (before xs : List A) (x z : A) → Behind P before xs → In x xs → In z before → (front : List A) × P front x × In z front
behind_after P before [] x z h i j = absurd i
behind_after P before (y ∷ xs) x z h (inl e) j = (before, subst (P before) (sym e) h.0, j)
behind_after P before (y ∷ xs) x z h (inr i) j = behind_after P (before ++ y ∷ []) xs x z h.1 i (in_left z before (y ∷ []) j)
