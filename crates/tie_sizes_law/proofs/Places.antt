-- Where no place is named, no test has failed.
use Rattle.std.proofs.Common.{◌≡◌, inl, inr, ℕ, List, [], ◌∷◌, ◌++◌, Bool, true, false, not, refl}
use Rattle.std.specs.List.{flat_map, AllByRecursion}
use Rattle.tie_rules.specs.Least.{when, NoPlace}

pub left : (a b : List ℕ) → NoPlace (a ++ b) → NoPlace a
left [] b h p m = m
left (q ∷ a) b h p (inl e) = h p (inl e)
left (q ∷ a) b h p (inr m) = left a b (λ r n. h r (inr n)) p m

pub right : (a b : List ℕ) → NoPlace (a ++ b) → NoPlace b
right [] b h p m = h p m
right (q ∷ a) b h p m = right a b (λ r n. h r (inr n)) p m

pub each : {A : Type 0} (f : A → List ℕ) (xs : List A) → NoPlace (flat_map f xs) → AllByRecursion (λ x. NoPlace (f x)) xs
each f [] h = tt
each f (x ∷ xs) h = (left (f x) (flat_map f xs) h, each f xs (right (f x) (flat_map f xs) h))

-- a test that would name a place has failed
pub passed : (b : Bool) (p : ℕ) → NoPlace (when b p) → b ≡ false
passed true p h = absurd (h p (inl refl))
passed false p h = refl

pub holds : (b : Bool) (p : ℕ) → NoPlace (when (not b) p) → b ≡ true
holds true p h = refl
holds false p h = absurd (h p (inl refl))
