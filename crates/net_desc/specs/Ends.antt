-- Which end of a queue a text names, and which two ends a queue may have.
use Rattle.std.specs.Prelude.{ℕ, ◌==◌, nat_lt, not, ◌&&◌, Bool, true, false, if◌then◌else◌, List, length, position, Option, Some, None, slice_get}
use Rattle.std.specs.Option.{option_map, option_and_then}
use Rattle.std.specs.List.{position_or_len, before_first, after_first}
use Rattle.std.specs.Str.{bytes_eq}
use Rattle.net_toml.specs.net_parts.declared.parts.NetCore.{NetCore}
use Rattle.net_toml.specs.net_parts.declared.parts.NetCollector.{NetCollector}
use Rattle.net_toml.specs.net_parts.declared.parts.FromEnd.{FromEnd}
use Rattle.net_toml.specs.net_parts.declared.parts.FromEnd.TheVariants as from
use Rattle.net_toml.specs.net_parts.declared.parts.ToEnd.{ToEnd}
use Rattle.net_toml.specs.net_parts.declared.parts.ToEnd.TheVariants as to
use Rattle.net_toml.specs.net_parts.Ends.{input_bits, output_bits}
use Rattle.net_toml.specs.declared.plan.NetPlan.{NetPlan}
use Rattle.net_toml.specs.declared.plan.PlanSource.{PlanSource}

-- ---- names

abbrev pub is_dot : ℕ → Bool
is_dot b = b == 46

-- what stands before the first dot and behind it, if there is one
abbrev pub cut : List ℕ → Option (List ℕ × List ℕ)
cut text = if nat_lt (position_or_len is_dot text) (length text) then Some (before_first is_dot text, after_first is_dot text) else None

-- the number of the processor, of the source, of the collector of a name
abbrev pub core_number : List NetCore → List ℕ → Option ℕ
core_number cores name = position (λ (c : NetCore). bytes_eq c.name name) cores

abbrev pub source_number : List PlanSource → List ℕ → Option ℕ
source_number sources name = position (λ (s : PlanSource). bytes_eq s.name name) sources

abbrev pub collector_number : List NetCollector → List ℕ → Option ℕ
collector_number collectors name = position (λ (c : NetCollector). bytes_eq c.name name) collectors

-- the number of the output queue, of the input queue of a name that a processor declares
abbrev pub output_number : Option NetCore → List ℕ → Option ℕ
output_number None name = None
output_number (Some core) name = position (λ q. bytes_eq q.name name) core.kit.desc.outs

abbrev pub input_number : Option NetCore → List ℕ → Option ℕ
input_number None name = None
input_number (Some core) name = position (λ q. bytes_eq q.name name) core.kit.desc.ins

-- ---- ends: CORE.QUEUE, or the name of a source or collector

abbrev pub core_output : List NetCore → List ℕ → List ℕ → Option FromEnd
core_output cores name queue =
    option_and_then (λ c. option_map (λ out. from.Core c out) (output_number (slice_get cores c) queue)) (core_number cores name)

abbrev pub core_input : List NetCore → List ℕ → List ℕ → Option ToEnd
core_input cores name queue =
    option_and_then (λ c. option_map (λ input. to.Core c input) (input_number (slice_get cores c) queue)) (core_number cores name)

abbrev pub from_parts : List NetCore → NetPlan → List ℕ → Option (List ℕ × List ℕ) → Option FromEnd
from_parts cores plan text (Some parts) = core_output cores parts.0 parts.1
from_parts cores plan text None = option_map (λ s. from.Source s) (source_number plan.sources text)

abbrev pub to_parts : List NetCore → NetPlan → List ℕ → Option (List ℕ × List ℕ) → Option ToEnd
to_parts cores plan text (Some parts) = core_input cores parts.0 parts.1
to_parts cores plan text None = option_map (λ c. to.Collector c) (collector_number plan.collectors text)

-- the end from which a queue may come, and to which it may go, that a text names
abbrev pub from_end : List NetCore → NetPlan → List ℕ → Option FromEnd
from_end cores plan text = from_parts cores plan text (cut text)

abbrev pub to_end : List NetCore → NetPlan → List ℕ → Option ToEnd
to_end cores plan text = to_parts cores plan text (cut text)

-- ---- two ends

abbrev pub same_from : FromEnd → FromEnd → Bool
same_from (from.Core c o) (from.Core d p) = c == d && o == p
same_from (from.Source s) (from.Source t) = s == t
same_from _ _ = false

abbrev pub same_to : ToEnd → ToEnd → Bool
same_to (to.Core c i) (to.Core d j) = c == d && i == j
same_to (to.Collector k) (to.Collector l) = k == l
same_to _ _ = false

-- one end is a processor's, and not both are of one
abbrev pub joins : FromEnd → ToEnd → Bool
joins (from.Core c o) (to.Core d i) = not (c == d)
joins (from.Source s) (to.Collector k) = false
joins _ _ = true

-- two processors' queues have one width
abbrev pub same_width : List NetCore → FromEnd → ToEnd → Bool
same_width cores (from.Core c o) (to.Core d i) = output_bits (slice_get cores c) o == input_bits (slice_get cores d) i
same_width cores _ _ = true
