-- Steps of a walk, and walks over lists.
use Rattle.std.proofs.Common.{◌≡◌, ℕ, ◌+◌, ◌<◌, List, [], ◌∷◌, ◌++◌, length, map, drop, get_or, Result, Ok, Err, refl}
use Rattle.std.proofs.lemmas.List.{drop_more}
use Rattle.net_toml.specs.declared.refusal.NetRule.{NetRule}
use Rattle.net_toml.specs.declared.refusal.NetRefusal.{NetRefusal}
use Rattle.net_toml.specs.declared.refusal.NetRefusal.TheVariants.{Fault, NoMemory}
use Rattle.net_toml.specs.Broken.{Broken, Names}
use Rattle.net_toml.specs.Walk.{each}

-- a refusal names a rule of the whole where each rule that a step breaks is that of the whole
pub Names-through : {A B : Type 0} (e : NetRefusal) (r : Result A Broken) (whole : Result B Broken) → Names e r → ((rule : NetRule) (key : List ℕ) → r ≡ Err (rule, key) → whole ≡ Err (rule, key)) → Names e whole
Names-through (Fault rule key) r whole h broken = broken rule key h
Names-through NoMemory r whole h broken = tt

-- a walk over the rest of a list, one further
pub each-next : {A X B : Type 0} (one : List A → B → Result A Broken) (f : X → B) (before : List A) (xs : List X) (i : ℕ) (x : X) (y : A) → i < length xs → x ≡ get_or xs i x → one before (f x) ≡ Ok y → each one before (map f (drop i xs)) ≡ each one (before ++ y ∷ []) (map f (drop (i + 1) xs))
each-next one f before xs i x y within at this = rw (drop_more xs i x within, ← at, this) refl
