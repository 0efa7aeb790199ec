-- The tables of a network file: their keys in the order in which they are judged, the unknown ones last.
-- Each is judged by the names that stand before it and by its number in its array.
use Rattle.std.specs.Prelude.{ℕ, List, [], ◌∷◌, ◌++◌, codes, Result, Ok}
use Rattle.toml.specs.Data.{Members, get_member}
use Rattle.net_toml.specs.declared.plan.PlanCore.{PlanCore}
use Rattle.net_toml.specs.declared.plan.PlanSource.{PlanSource}
use Rattle.net_parts.specs.declared.parts.NetCollector.{NetCollector}
use Rattle.net_toml.specs.declared.plan.PlanQueue.{PlanQueue}
use Rattle.net_toml.specs.Broken.{Broken, ◌>>=◌}
use Rattle.net_toml.specs.Values.{text_at, optional_text_at, natural_at, natural_or, dump_at}
use Rattle.net_toml.specs.Limits.{is_memory, is_budget, is_limit, is_capacity}
use Rattle.net_toml.specs.Names.{place_of, name_at, keys_in, no_other}

unfoldable pub core_at : List (List ℕ) → ℕ → Members → Result PlanCore Broken
core_at earlier i t = do
  let place = place_of (codes "core") i ++ codes "."
  name ← name_at earlier (place ++ codes "name") (get_member (codes "name") t)
  image ← text_at (place ++ codes "image") (get_member (codes "image") t)
  tie ← optional_text_at (place ++ codes "tie") (get_member (codes "tie") t)
  memory ← natural_or 65536 is_memory (place ++ codes "memory") (get_member (codes "memory") t)
  budget ← natural_or 1000000 is_budget (place ++ codes "budget") (get_member (codes "budget") t)
  dump ← dump_at memory (place ++ codes "dump") (get_member (codes "dump") t)
  rest ← no_other (codes "name" ∷ codes "image" ∷ codes "tie" ∷ codes "memory" ∷ codes "budget" ∷ codes "dump" ∷ []) place (keys_in t)
  Ok (record { name = name; image = image; tie = tie; memory = memory; budget = budget; dump = dump })

unfoldable pub source_at : List (List ℕ) → ℕ → Members → Result PlanSource Broken
source_at earlier i t = do
  let place = place_of (codes "source") i ++ codes "."
  name ← name_at earlier (place ++ codes "name") (get_member (codes "name") t)
  items ← text_at (place ++ codes "items") (get_member (codes "items") t)
  rest ← no_other (codes "name" ∷ codes "items" ∷ []) place (keys_in t)
  Ok (record { name = name; items = items })

unfoldable pub collector_at : List (List ℕ) → ℕ → Members → Result NetCollector Broken
collector_at earlier i t = do
  let place = place_of (codes "collector") i ++ codes "."
  name ← name_at earlier (place ++ codes "name") (get_member (codes "name") t)
  limit ← natural_or 65536 is_limit (place ++ codes "limit") (get_member (codes "limit") t)
  rest ← no_other (codes "name" ∷ codes "limit" ∷ []) place (keys_in t)
  Ok (record { name = name; limit = limit })

unfoldable pub queue_at : List (List ℕ) → ℕ → Members → Result PlanQueue Broken
queue_at earlier i t = do
  let place = place_of (codes "queue") i ++ codes "."
  name ← name_at earlier (place ++ codes "name") (get_member (codes "name") t)
  capacity ← natural_at is_capacity (place ++ codes "capacity") (get_member (codes "capacity") t)
  from ← text_at (place ++ codes "from") (get_member (codes "from") t)
  to ← text_at (place ++ codes "to") (get_member (codes "to") t)
  rest ← no_other (codes "name" ∷ codes "capacity" ∷ codes "from" ∷ codes "to" ∷ []) place (keys_in t)
  Ok (record { name = name; capacity = capacity; from = from; to = to })
