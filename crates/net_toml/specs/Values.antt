-- What is wanted of the value at a key: it is there, it has its type, and then the rule of its own.
use Rattle.std.specs.Prelude.{ℕ, ℤ, pos, negsuc, nat_le, ◌+◌, ◌&&◌, Bool, if◌then◌else◌, List, [], ◌∷◌, Option, Some, None, Result, Ok, Err}
use Rattle.std.specs.Option.{option_map, option_and_then, ok_or}
use Rattle.toml.specs.Data.{Data, as_str, as_integer, as_array, Items, no_items, item, Members, table}
use Rattle.net_toml.specs.declared.refusal.NetRule.{NetRule}
use Rattle.net_toml.specs.declared.refusal.NetRule.TheVariants.{Key, Range}
use Rattle.net_toml.specs.Broken.{Broken, ◌>>=◌}

-- a text
abbrev pub text_at : List ℕ → Option Data → Result (List ℕ) Broken
text_at key found = ok_or (option_and_then as_str found) (Key, key)

-- a text, if something stands there
abbrev pub optional_text_at : List ℕ → Option Data → Result (Option (List ℕ)) Broken
optional_text_at key None = Ok None
optional_text_at key (Some value) = ok_or (option_map Some (as_str value)) (Key, key)

-- an integer
abbrev pub integer_at : List ℕ → Option Data → Result ℤ Broken
integer_at key found = ok_or (option_and_then as_integer found) (Key, key)

-- an integer, this one where nothing stands there
abbrev pub integer_or : ℕ → List ℕ → Option Data → Result ℤ Broken
integer_or absent key None = Ok (pos absent)
integer_or absent key (Some value) = ok_or (as_integer value) (Key, key)

-- a natural number that passes a test, or the rule is broken
abbrev pub passing : NetRule → (ℕ → Bool) → List ℕ → ℤ → Result ℕ Broken
passing rule test key (negsuc n) = Err (rule, key)
passing rule test key (pos n) = if test n then Ok n else Err (rule, key)

-- a natural number that passes a test; this one where nothing stands there
abbrev pub natural_at : (ℕ → Bool) → List ℕ → Option Data → Result ℕ Broken
natural_at test key found = do
  value ← integer_at key found
  passing Range test key value

abbrev pub natural_or : ℕ → (ℕ → Bool) → List ℕ → Option Data → Result ℕ Broken
natural_or absent test key found = do
  value ← integer_or absent key found
  passing Range test key value

-- an array of two integers
abbrev pub two_of : Items → Option (ℤ × ℤ)
two_of (item a (item b no_items)) = option_and_then (λ x. option_map (λ y. (x, y)) (as_integer b)) (as_integer a)
two_of _ = None

abbrev pub pair_at : List ℕ → Data → Result (ℤ × ℤ) Broken
pair_at key value = ok_or (option_and_then two_of (as_array value)) (Key, key)

-- a start, and a length of 1 to 4,096, within a memory
abbrev pub part_of : ℕ → ℤ → ℤ → Option (ℕ × ℕ)
part_of memory (pos start) (pos len) = if nat_le 1 len && nat_le len 4096 && nat_le (start + len) memory then Some (start, len) else None
part_of memory _ _ = None

-- a part of a memory, if something stands there
abbrev pub dump_at : ℕ → List ℕ → Option Data → Result (Option (ℕ × ℕ)) Broken
dump_at memory key None = Ok None
dump_at memory key (Some value) = do
  two ← pair_at key value
  ok_or (option_map Some (part_of memory two.0 two.1)) (Range, key)

-- the tables, if each of these is one
abbrev pub tables_of : Items → Option (List Members)
tables_of no_items = Some []
tables_of (item (table t) rest) = option_map (λ ts. t ∷ ts) (tables_of rest)
tables_of (item _ rest) = None

-- an array of tables; where nothing stands there, none
abbrev pub tables_at : List ℕ → Option Data → Result (List Members) Broken
tables_at key None = Ok []
tables_at key (Some value) = ok_or (option_and_then tables_of (as_array value)) (Key, key)
