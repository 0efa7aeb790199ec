-- The least place of several lists.
use Rattle.std.proofs.Common.{◌≡◌, ℕ, min, Bool, true, false, ◌||◌, List, [], ◌∷◌, ◌++◌, Option, Some, None, refl, ap, sym, ◌∙◌, arith, ◌+◌, ◌<◌, drop, take, length, get_or}
use Rattle.std.specs.List.{flat_map}
use Rattle.std.proofs.lemmas.Grind.{common_steps}
use Rattle.tie_rules.specs.Least.{earlier, least, when, behind, behind_from}

pub earlier_none : (a : Option ℕ) → earlier a None ≡ a
earlier_none None = refl
earlier_none (Some a) = refl

pub earlier_assoc : (a b c : Option ℕ) → earlier (earlier a b) c ≡ earlier a (earlier b c)
earlier_assoc None b c = refl
earlier_assoc (Some a) None c = refl
earlier_assoc (Some a) (Some b) None = refl
earlier_assoc (Some a) (Some b) (Some c) = let e : min (min a b) c ≡ min a (min b c) = omega arith in ap Some e

pub least_append : (a b : List ℕ) → least (a ++ b) ≡ earlier (least a) (least b)
least_append [] b = refl
least_append (p ∷ a) b = ap (earlier (Some p)) (least_append a b) ∙ sym (earlier_assoc (Some p) (least a) (least b))

pub ruleset places = (least_append, earlier_none, earlier_assoc)

pub next_of : {A : Type 0} (xs : List A) (i : ℕ) (x : A) → i < length xs → x ≡ get_or xs i x → drop i xs ≡ x ∷ drop (i + 1) xs
next_of xs i x h e = grind (arith, common_steps)

pub taken_of : {A : Type 0} (xs : List A) (i : ℕ) (x : A) → i < length xs → x ≡ get_or xs i x → take i xs ++ x ∷ [] ≡ take (i + 1) xs
taken_of xs i x h e = grind (arith, common_steps)

-- what has been found, and what is still to come
pub found_next : (found : Option ℕ) (a rest all : List ℕ) (total : Option ℕ) → all ≡ a ++ rest → earlier found (least all) ≡ total
    → earlier (earlier found (least a)) (least rest) ≡ total
found_next found a rest all total e inv =
    earlier_assoc found (least a) (least rest) ∙ ap (earlier found) (sym (least_append a rest) ∙ ap least (sym e)) ∙ inv

-- one more of several things, in a loop that keeps the least place so far
pub each_next : {A : Type 0} (f : A → List ℕ) (found : Option ℕ) (xs : List A) (i : ℕ) (x : A) (total : Option ℕ) → i < length xs → x ≡ get_or xs i x
    → earlier found (least (flat_map f (drop i xs))) ≡ total
    → earlier (earlier found (least (f x))) (least (flat_map f (drop (i + 1) xs))) ≡ total
each_next f found xs i x total h e inv =
    found_next found (f x) (flat_map f (drop (i + 1) xs)) (flat_map f (drop i xs)) total (ap (flat_map f) (next_of xs i x h e)) inv

pub behind_next : {A : Type 0} (f : List A → A → List ℕ) (found : Option ℕ) (xs : List A) (i : ℕ) (x : A) (total : Option ℕ) → i < length xs → x ≡ get_or xs i x
    → earlier found (least (behind_from f (take i xs) (drop i xs))) ≡ total
    → earlier (earlier found (least (f (take i xs) x))) (least (behind_from f (take (i + 1) xs) (drop (i + 1) xs))) ≡ total
behind_next f found xs i x total h e inv =
    found_next found (f (take i xs) x) (behind_from f (take (i + 1) xs) (drop (i + 1) xs)) (behind_from f (take i xs) (drop i xs)) total
    (ap (behind_from f (take i xs)) (next_of xs i x h e)
    ∙ ap (λ ys. f (take i xs) x ++ behind_from f ys (drop (i + 1) xs)) (taken_of xs i x h e))
    inv

-- places that are joined in another way
pub least_joined : (a b c : List ℕ) → earlier (least (a ++ b)) (least c) ≡ least (a ++ (b ++ c))
least_joined a b c = ap (λ o. earlier o (least c)) (least_append a b) ∙ earlier_assoc (least a) (least b) (least c) ∙ ap (earlier (least a)) (sym (least_append b c)) ∙ sym (least_append a (b ++ c))

earlier_comm : (a b : Option ℕ) → earlier a b ≡ earlier b a
earlier_comm None b = sym (earlier_none b)
earlier_comm (Some a) None = refl
earlier_comm (Some a) (Some b) = let e : min a b ≡ min b a = omega arith in ap Some e

-- two pairs, exchanged in the middle
pub earlier_four : (a b c d : Option ℕ) → earlier (earlier a b) (earlier c d) ≡ earlier (earlier a c) (earlier b d)
earlier_four a b c d =
    earlier_assoc a b (earlier c d) ∙ ap (earlier a) (sym (earlier_assoc b c d) ∙ ap (λ o. earlier o d) (earlier_comm b c) ∙ earlier_assoc c b d) ∙ sym (earlier_assoc a c (earlier b d))

-- a rule that is two rules at each of some things
split_from : {A : Type 0} (f g h : List A → A → List ℕ) → ((before : List A) (x : A) → least (f before x) ≡ earlier (least (g before x)) (least (h before x)))
    → (before xs : List A) → least (behind_from f before xs) ≡ earlier (least (behind_from g before xs)) (least (behind_from h before xs))
split_from f g h two before [] = refl
split_from f g h two before (x ∷ xs) =
    let more = before ++ x ∷ [] in
    least_append (f before x) (behind_from f more xs)
    ∙ ap (λ o. earlier o (least (behind_from f more xs))) (two before x)
    ∙ ap (earlier (earlier (least (g before x)) (least (h before x)))) (split_from f g h two more xs)
    ∙ earlier_four (least (g before x)) (least (h before x)) (least (behind_from g more xs)) (least (behind_from h more xs))
    ∙ ap (λ o. earlier o (earlier (least (h before x)) (least (behind_from h more xs)))) (sym (least_append (g before x) (behind_from g more xs)))
    ∙ ap (earlier (least (behind_from g before (x ∷ xs)))) (sym (least_append (h before x) (behind_from h more xs)))

pub behind_split : {A : Type 0} (f g h : List A → A → List ℕ) → ((before : List A) (x : A) → least (f before x) ≡ earlier (least (g before x)) (least (h before x)))
    → (xs : List A) → least (behind f xs) ≡ earlier (least (behind g xs)) (least (behind h xs))
behind_split f g h two xs = split_from f g h two [] xs

flat_from : {A : Type 0} (f : A → List ℕ) (before xs : List A) → behind_from (λ before x. f x) before xs ≡ flat_map f xs
flat_from f before [] = refl
flat_from f before (x ∷ xs) = ap (λ ps. f x ++ ps) (flat_from f (before ++ x ∷ []) xs)

-- a rule that doesn't look at those before
pub behind_flat : {A : Type 0} (f : A → List ℕ) (xs : List A) → behind (λ before x. f x) xs ≡ flat_map f xs
behind_flat f xs = flat_from f [] xs

-- two tests of one place
pub when_or : (a b : Bool) (p : ℕ) → least (when (a || b) p) ≡ earlier (least (when a p)) (least (when b p))
when_or true true p = let e : p ≡ min p p = omega arith in ap Some e
when_or true false p = refl
when_or false b p = refl
