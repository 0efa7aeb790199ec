-- Keys of tables, and pairs in arrays.
use Rattle.std.proofs.Common.{◌≡◌, Bool, List, [], ◌∷◌, length, map, None, refl, ap, String, Global, string_bytes}
use Rattle.std.specs.List.{list_any}
use Rattle.std.specs.Map.{keys_of}
use Rattle.toml.specs.View.{members_view, items_view}
use Rattle.toml.specs.declared.value.Value.{Value}
use Rattle.net_toml.specs.Names.{keys_in}
use Rattle.net_toml.specs.Values.{two_of}

pub list_any-map : {A B : Type 0} (f : A → B) (p : B → Bool) (xs : List A) → list_any p (map f xs) ≡ list_any (λ x. p (f x)) xs
list_any-map f p [] = refl
list_any-map f p (x ∷ xs) = rw (list_any-map f p xs)

-- the keys of a table are those of its map
pub keys_in-members : (es : List (String Global × Value)) → keys_in (members_view es) ≡ map string_bytes (keys_of es)
keys_in-members [] = refl
keys_in-members (e ∷ es) = ap (λ ks. string_bytes e.0 ∷ ks) (keys_in-members es)

-- an array of another length holds no pair
pub two_of-other : (vs : List Value) → (length vs ≡ 2 → ⊥) → two_of (items_view vs) ≡ None
two_of-other [] h = refl
two_of-other (a ∷ []) h = refl
two_of-other (a ∷ b ∷ []) h = absurd (h refl)
two_of-other (a ∷ b ∷ c ∷ vs) h = refl
