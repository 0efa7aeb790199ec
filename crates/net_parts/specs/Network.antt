-- What every network keeps.
use Rattle.std.specs.Prelude.{◌≡◌, ◌⊎◌, ℕ, ◌+◌, ◌%◌, ◌^◌, ◌<◌, ◌≤◌, List, [], length, All, Option, Some, None, count_by, slice_get}
use Rattle.tie_desc.specs.Fetching.{IsImage}
use Rattle.net_parts.specs.declared.parts.NetCore.{NetCore}
use Rattle.net_parts.specs.declared.parts.NetCollector.{NetCollector}
use Rattle.net_parts.specs.declared.parts.NetSource.{NetSource}
use Rattle.net_parts.specs.declared.parts.NetQueue.{NetQueue}
use Rattle.net_parts.specs.declared.parts.Net.{Net}
use Rattle.net_parts.specs.declared.parts.FromEnd.{FromEnd}
use Rattle.net_parts.specs.declared.parts.FromEnd.TheVariants as from
use Rattle.net_parts.specs.declared.parts.ToEnd.{ToEnd}
use Rattle.net_parts.specs.declared.parts.ToEnd.TheVariants as to
use Rattle.net_parts.specs.Ends.{is_output, is_source, is_input, is_collector, input_count, output_count, input_bits, output_bits, HasFrom, HasTo}

-- from 1 to 4,096 bytes within memory
abbrev pub IsDump : ℕ → Option (ℕ × ℕ) → Type 0
IsDump memory None = Unit {0}
IsDump memory (Some d) = (1 ≤ d.1) × (d.1 ≤ 4096) × (d.0 + d.1 ≤ memory)

-- a processor's memory, budget and program; the image is that of the program's text
pub record IsCore (core : NetCore) : Type 0 where
  pub least_memory : 64 ≤ core.memory
  pub most_memory : core.memory ≤ 1048576
  pub whole_words : core.memory % 4 ≡ 0
  pub some_budget : 1 ≤ core.budget
  pub most_budget : core.budget ≤ 2 ^ 30
  pub dump : IsDump core.memory core.dump
  pub short_text : length core.text.items ≤ 65536
  pub text_fits : length core.text.items ≤ core.memory
  pub image : IsImage core.kit.desc core.text.items core.kit.image.at

pub record IsCollector (collector : NetCollector) : Type 0 where
  pub some : 1 ≤ collector.limit
  pub most : collector.limit ≤ 262144

pub record IsQueue (queue : NetQueue) : Type 0 where
  pub some : 1 ≤ queue.capacity
  pub most : queue.capacity ≤ 4096

pub record HasCounts (net : Net) : Type 0 where
  pub some_core : 1 ≤ length net.cores.items
  pub cores : length net.cores.items ≤ 16
  pub workers : length net.cores.items + length net.sources.items + length net.collectors.items ≤ 32
  pub queues : length net.queues.items ≤ 64

-- each worker's port is the end of exactly one queue
pub record IsWiredOnce (net : Net) : Type 0 where
  pub outputs : (c o : ℕ) → o < output_count net c → count_by (λ q. is_output c o q.from) net.queues.items ≡ 1
  pub inputs : (c i : ℕ) → i < input_count net c → count_by (λ q. is_input c i q.to) net.queues.items ≡ 1
  pub sources : (s : ℕ) → s < length net.sources.items → count_by (λ q. is_source s q.from) net.queues.items ≡ 1
  pub collectors : (k : ℕ) → k < length net.collectors.items → count_by (λ q. is_collector k q.to) net.queues.items ≡ 1

-- one end of a queue is a processor's; two processors are different ones, and the queue has one width at both
abbrev pub IsBetween : Net → FromEnd → ToEnd → Type 0
IsBetween net (from.Core core out) (to.Core other input) =
    (core ≡ other → ⊥) × (output_bits (slice_get net.cores.items core) out ≡ input_bits (slice_get net.cores.items other) input)
IsBetween net (from.Core core out) (to.Collector collector) = Unit {0}
IsBetween net (from.Source source) (to.Core core input) = Unit {0}
IsBetween net (from.Source source) (to.Collector collector) = ⊥

-- the items of a source fit the processor's queue that it writes
abbrev pub items_of : Option NetSource → List ℕ
items_of None = []
items_of (Some source) = source.items.items

abbrev pub ItemsFit : Net → FromEnd → ToEnd → Type 0
ItemsFit net (from.Source source) (to.Core core input) =
    All (λ v. v < 2 ^ input_bits (slice_get net.cores.items core) input) (items_of (slice_get net.sources.items source))
ItemsFit net _ _ = Unit {0}

pub record IsNet (net : Net) : Type 0 where
  pub kill : (net.kill ≡ 0) ⊎ ((16 ≤ net.kill) × (net.kill ≤ 65536))
  pub counts : HasCounts net
  pub cores : All IsCore net.cores.items
  pub collectors : All IsCollector net.collectors.items
  pub queues : All IsQueue net.queues.items
  pub few_items : All (λ s. length s.items.items ≤ 1048576) net.sources.items
  pub froms : All (λ q. HasFrom net q.from) net.queues.items
  pub tos : All (λ q. HasTo net q.to) net.queues.items
  pub between : All (λ q. IsBetween net q.from q.to) net.queues.items
  pub wired : IsWiredOnce net
  pub items_fit : All (λ q. ItemsFit net q.from q.to) net.queues.items
