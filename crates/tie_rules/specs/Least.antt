-- The first rule that a text breaks, at its least place. A rule is the list of the places at which it is broken.
use Rattle.std.specs.Prelude.{◌≡◌, ◌⊎◌, ℕ, ◌+◌, ◌≤◌, min, List, [], ◌∷◌, ◌++◌, Option, Some, None, Bool, if◌then◌else◌}

-- the place, where a test says so
abbrev pub when : Bool → ℕ → List ℕ
when broken place = if broken then place ∷ [] else []

-- the places that are named at each of some things, where those before it are known
abbrev pub behind_from : {A : Type 0} → (List A → A → List ℕ) → List A → List A → List ℕ
behind_from places before [] = []
behind_from places before (x ∷ xs) = places before x ++ behind_from places (before ++ x ∷ []) xs

abbrev pub behind : {A : Type 0} → (List A → A → List ℕ) → List A → List ℕ
behind places xs = behind_from places [] xs

-- ---- what an answer says

abbrev pub Among : ℕ → List ℕ → Type 0
Among p [] = ⊥
Among p (q ∷ qs) = (p ≡ q) ⊎ Among p qs

abbrev pub NoPlace : List ℕ → Type 0
NoPlace ps = (p : ℕ) → Among p ps → ⊥

-- no rule is broken anywhere
abbrev pub NoneBroken : List (List ℕ) → Type 0
NoneBroken [] = Unit {0}
NoneBroken (ps ∷ rules) = NoPlace ps × NoneBroken rules

-- of rules numbered from n on, rule k is broken at p and at no lesser place, and no lesser rule is broken anywhere
abbrev pub IsFirst : ℕ → List (List ℕ) → ℕ → ℕ → Type 0
IsFirst n [] k p = ⊥
IsFirst n (ps ∷ rules) k p = ((k ≡ n) × Among p ps × ((q : ℕ) → Among q ps → p ≤ q)) ⊎ (NoPlace ps × IsFirst (n + 1) rules k p)

-- ---- how it is found

abbrev pub earlier : Option ℕ → Option ℕ → Option ℕ
earlier None b = b
earlier (Some a) None = Some a
earlier (Some a) (Some b) = Some (min a b)

abbrev pub least : List ℕ → Option ℕ
least [] = None
least (p ∷ ps) = earlier (Some p) (least ps)

abbrev pub or_later : ℕ → Option ℕ → Option (ℕ × ℕ) → Option (ℕ × ℕ)
or_later n None later = later
or_later n (Some p) later = Some (n, p)

-- the first broken rule and its least place
abbrev pub first_broken : ℕ → List (List ℕ) → Option (ℕ × ℕ)
first_broken n [] = None
first_broken n (ps ∷ rules) = or_later n (least ps) (first_broken (n + 1) rules)
