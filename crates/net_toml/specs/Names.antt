-- Names: of tables in arrays, of what a file describes, of keys.
use Rattle.std.specs.Prelude.{ℕ, not, ◌&&◌, if◌then◌else◌, List, [], ◌∷◌, ◌++◌, codes, Option, Result, Ok, Err}
use Rattle.std.specs.List.{list_any}
use Rattle.std.specs.Str.{bytes_eq}
use Rattle.std.specs.Fmt.{decimal}
use Rattle.tie_desc.specs.Names.{is_word}
use Rattle.toml.specs.Data.{Data, Members, no_members, member}
use Rattle.net_toml.specs.declared.refusal.NetRule.TheVariants.{Key, Name}
use Rattle.net_toml.specs.Broken.{Broken, ◌>>=◌, check}
use Rattle.net_toml.specs.Values.{text_at}

-- the place of a table in an array, as core[0]
abbrev pub place_of : List ℕ → ℕ → List ℕ
place_of array i = array ++ codes "[" ++ decimal i ++ codes "]"

-- a word that none of the earlier names is
abbrev pub name_at : List (List ℕ) → List ℕ → Option Data → Result (List ℕ) Broken
name_at earlier key found = do
  word ← text_at key found
  new ← check Name key (is_word word && not (list_any (bytes_eq word) earlier))
  Ok word

-- the keys of a table, in the order of their bytes
abbrev pub keys_in : Members → List (List ℕ)
keys_in no_members = []
keys_in (member key value rest) = key ∷ keys_in rest

-- no key but the known ones; the first other one is named behind the place
abbrev pub no_other : List (List ℕ) → List ℕ → List (List ℕ) → Result (Unit {0}) Broken
no_other known place [] = Ok tt
no_other known place (key ∷ keys) = if list_any (bytes_eq key) known then no_other known place keys else Err (Key, place ++ key)
