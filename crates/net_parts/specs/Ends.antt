-- The ends of queues: which workers and ports there are.
use Rattle.std.specs.Prelude.{ℕ, Bool, false, ◌==◌, ◌&&◌, ◌<◌, List, length, Option, Some, None, slice_get}
use Rattle.tie_desc.specs.Description.{Description}
use Rattle.tie_desc.specs.Operands.{queue_width}
use Rattle.net_parts.specs.declared.parts.NetCore.{NetCore}
use Rattle.net_parts.specs.declared.parts.Net.{Net}
use Rattle.net_parts.specs.declared.parts.FromEnd.{FromEnd}
use Rattle.net_parts.specs.declared.parts.FromEnd.TheVariants as from
use Rattle.net_parts.specs.declared.parts.ToEnd.{ToEnd}
use Rattle.net_parts.specs.declared.parts.ToEnd.TheVariants as to

-- it is this output queue of this processor; this source
abbrev pub is_output : ℕ → ℕ → FromEnd → Bool
is_output c o (from.Core core out) = core == c && out == o
is_output c o (from.Source source) = false

abbrev pub is_source : ℕ → FromEnd → Bool
is_source s (from.Core core out) = false
is_source s (from.Source source) = source == s

-- it is this input queue of this processor; this collector
abbrev pub is_input : ℕ → ℕ → ToEnd → Bool
is_input c i (to.Core core input) = core == c && input == i
is_input c i (to.Collector collector) = false

abbrev pub is_collector : ℕ → ToEnd → Bool
is_collector k (to.Core core input) = false
is_collector k (to.Collector collector) = collector == k

-- how many input queues and output queues a processor declares
abbrev pub ins_of : Option NetCore → ℕ
ins_of None = 0
ins_of (Some core) = length core.kit.desc.ins

abbrev pub outs_of : Option NetCore → ℕ
outs_of None = 0
outs_of (Some core) = length core.kit.desc.outs

abbrev pub input_count : Net → ℕ → ℕ
input_count net c = ins_of (slice_get net.cores.items c)

abbrev pub output_count : Net → ℕ → ℕ
output_count net c = outs_of (slice_get net.cores.items c)

-- how many bits a processor's input queue has, and an output queue
abbrev pub input_bits : Option NetCore → ℕ → ℕ
input_bits None i = 0
input_bits (Some core) i = queue_width (slice_get core.kit.desc.ins i)

abbrev pub output_bits : Option NetCore → ℕ → ℕ
output_bits None o = 0
output_bits (Some core) o = queue_width (slice_get core.kit.desc.outs o)

-- the worker and its port are there
abbrev pub HasFrom : Net → FromEnd → Type 0
HasFrom net (from.Core core out) = out < output_count net core
HasFrom net (from.Source source) = source < length net.sources.items

abbrev pub HasTo : Net → ToEnd → Type 0
HasTo net (to.Core core input) = input < input_count net core
HasTo net (to.Collector collector) = collector < length net.collectors.items
