-- The items of a source, as bytes.
use Rattle.std.specs.Prelude.{◌≡◌, ℕ, zero, suc, ◌+◌, ◌*◌, ◌/◌, ◌%◌, ◌^◌, ◌==◌, nat_lt, nat_le, ◌&&◌, Bool, if◌then◌else◌, List, [], ◌∷◌, ◌++◌, length, map, take, drop, fold, find, codes, slice_get, Option, Some, None, Result}
use Rattle.std.specs.Option.{ok_or}
use Rattle.std.specs.List.{list_all}
use Rattle.net_toml.specs.net_parts.declared.parts.Net.{Net}
use Rattle.net_toml.specs.net_parts.declared.parts.NetQueue.{NetQueue}
use Rattle.net_toml.specs.net_parts.declared.parts.ToEnd.{ToEnd}
use Rattle.net_toml.specs.net_parts.declared.parts.ToEnd.TheVariants as to
use Rattle.net_toml.specs.net_parts.Ends.{is_source, input_bits}
use Rattle.net_toml.specs.net_parts.Network.{items_of}
use Rattle.net_toml.specs.declared.refusal.NetRule.TheVariants.{Item}
use Rattle.net_toml.specs.Broken.{Broken}
use Rattle.net_toml.specs.Names.{place_of}

-- ---- items of a width

-- how many bytes a width begins
abbrev pub bytes_of_width : ℕ → ℕ
bytes_of_width bits = (bits + 7) / 8

-- so many pieces of a size
abbrev pub pieces : ℕ → ℕ → List ℕ → List (List ℕ)
pieces zero size bytes = []
pieces (suc n) size bytes = take size bytes ∷ pieces n size (drop size bytes)

-- bytes as a number, the highest first
abbrev pub number_in : List ℕ → ℕ
number_in bytes = fold (λ n b. 256 * n + b) 0 bytes

-- the numbers that bytes stand for, each of so many bytes
abbrev pub numbers_in : ℕ → List ℕ → List ℕ
numbers_in size bytes = map number_in (pieces (length bytes / size) size bytes)

abbrev pub fits_bits : ℕ → ℕ → Bool
fits_bits bits v = nat_lt v (2 ^ bits)

-- 1 to 128 bits
abbrev pub is_width : ℕ → Bool
is_width bits = nat_lt 0 bits && nat_le bits 128

-- the items of a width that bytes stand for: whole ones, which fit
abbrev pub items_in : ℕ → List ℕ → Option (List ℕ)
items_in bits bytes =
    if is_width bits && (length bytes % bytes_of_width bits == 0 && list_all (fits_bits bits) (numbers_in (bytes_of_width bits) bytes))
    then Some (numbers_in (bytes_of_width bits) bytes) else None

-- ---- items of a source

-- the queue that a source writes, and the width of a processor's queue
abbrev pub source_queue : Net → ℕ → Option NetQueue
source_queue net s = find (λ (q : NetQueue). is_source s q.from) net.queues.items

abbrev pub to_bits : Net → ToEnd → ℕ
to_bits net (to.Core core input) = input_bits (slice_get net.cores.items core) input
to_bits net (to.Collector collector) = 0

abbrev pub queue_bits : Net → Option NetQueue → ℕ
queue_bits net None = 0
queue_bits net (Some q) = to_bits net q.to

abbrev pub item_bits : Net → ℕ → ℕ
item_bits net s = queue_bits net (source_queue net s)

-- what bytes give a source
abbrev pub items_at : Net → ℕ → List ℕ → Result (List ℕ) Broken
items_at net s bytes = ok_or (items_in (item_bits net s) bytes) (Item, place_of (codes "source") s ++ codes ".items")

-- the items that a source has
abbrev pub source_items : Net → ℕ → List ℕ
source_items net s = items_of (slice_get net.sources.items s)

-- nothing but this source changes, and of it the items alone
pub record SameBut (s : ℕ) (old new : Net) : Type 0 where
  pub kill : new.kill ≡ old.kill
  pub cores : new.cores ≡ old.cores
  pub collectors : new.collectors ≡ old.collectors
  pub queues : new.queues ≡ old.queues
  pub names : map (λ x. x.name) new.sources.items ≡ map (λ x. x.name) old.sources.items
  pub others : (k : ℕ) → (k ≡ s → ⊥) → source_items new k ≡ source_items old k
