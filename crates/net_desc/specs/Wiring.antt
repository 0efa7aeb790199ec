-- The wiring of a network, or the first rule that is broken.
use Rattle.std.specs.Prelude.{ℕ, ◌+◌, not, List, [], ◌∷◌, ◌++◌, length, codes, Result, Ok}
use Rattle.std.specs.Option.{ok_or}
use Rattle.std.specs.List.{list_any}
use Rattle.tie_desc.specs.declared.declarations.QueueDecl.{QueueDecl}
use Rattle.net_toml.specs.net_parts.declared.parts.NetCore.{NetCore}
use Rattle.net_toml.specs.net_parts.declared.parts.NetCollector.{NetCollector}
use Rattle.net_toml.specs.net_parts.declared.parts.NetQueue.{NetQueue}
use Rattle.net_toml.specs.net_parts.Ends.{is_input, is_output, is_source, is_collector}
use Rattle.net_toml.specs.declared.refusal.NetRule.TheVariants.{End, Twice, Width, Unwired}
use Rattle.net_toml.specs.declared.plan.NetPlan.{NetPlan}
use Rattle.net_toml.specs.declared.plan.PlanSource.{PlanSource}
use Rattle.net_toml.specs.declared.plan.PlanQueue.{PlanQueue}
use Rattle.net_toml.specs.Broken.{Broken, ◌>>=◌, check}
use Rattle.net_toml.specs.Names.{place_of}
use Rattle.net_toml.specs.Walk.{each}
use Rattle.net_desc.specs.Ends.{from_end, to_end, same_from, same_to, joins, same_width}

-- ---- the queues in order

-- a queue behind others: all of its first end, all of its second, then the widths
unfoldable pub queue_of : List NetCore → NetPlan → List NetQueue → PlanQueue → Result NetQueue Broken
queue_of cores plan before q = do
  let place = place_of (codes "queue") (length before)
  from ← ok_or (from_end cores plan q.from) (End, place ++ codes ".from")
  new ← check Twice (place ++ codes ".from") (not (list_any (λ (b : NetQueue). same_from from b.from) before))
  to ← ok_or (to_end cores plan q.to) (End, place ++ codes ".to")
  joined ← check End (place ++ codes ".to") (joins from to)
  new ← check Twice (place ++ codes ".to") (not (list_any (λ (b : NetQueue). same_to to b.to) before))
  wide ← check Width place (same_width cores from to)
  Ok (record { name = q.name; capacity = q.capacity; from = from; to = to })

-- ---- each end of a worker has a queue

-- each in order with its number
abbrev pub each_number : {A : Type 0} → (ℕ → A → Result (Unit {0}) Broken) → ℕ → List A → Result (Unit {0}) Broken
each_number one i [] = Ok tt
each_number one i (x ∷ xs) = do
  this ← one i x
  each_number one (i + 1) xs

-- the name of a queue of a processor, behind the processor's place
abbrev pub port_key : ℕ → QueueDecl → List ℕ
port_key c q = place_of (codes "core") c ++ codes "." ++ q.name

abbrev pub input_wired : List NetQueue → ℕ → ℕ → QueueDecl → Result (Unit {0}) Broken
input_wired queues c i q = check Unwired (port_key c q) (list_any (λ (b : NetQueue). is_input c i b.to) queues)

abbrev pub output_wired : List NetQueue → ℕ → ℕ → QueueDecl → Result (Unit {0}) Broken
output_wired queues c o q = check Unwired (port_key c q) (list_any (λ (b : NetQueue). is_output c o b.from) queues)

abbrev pub core_wired : List NetQueue → ℕ → NetCore → Result (Unit {0}) Broken
core_wired queues c core = do
  ins ← each_number (input_wired queues c) 0 core.kit.desc.ins
  each_number (output_wired queues c) 0 core.kit.desc.outs

abbrev pub source_wired : List NetQueue → ℕ → PlanSource → Result (Unit {0}) Broken
source_wired queues s source = check Unwired (place_of (codes "source") s) (list_any (λ (b : NetQueue). is_source s b.from) queues)

abbrev pub collector_wired : List NetQueue → ℕ → NetCollector → Result (Unit {0}) Broken
collector_wired queues k collector = check Unwired (place_of (codes "collector") k) (list_any (λ (b : NetQueue). is_collector k b.to) queues)

-- processors first, then sources, then collectors
unfoldable pub all_wired : List NetCore → NetPlan → List NetQueue → Result (Unit {0}) Broken
all_wired cores plan queues = do
  ports ← each_number (core_wired queues) 0 cores
  sources ← each_number (source_wired queues) 0 plan.sources
  each_number (collector_wired queues) 0 plan.collectors

-- ---- the whole

-- the queues of a plan over its processors
unfoldable pub wiring : List NetCore → NetPlan → Result (List NetQueue) Broken
wiring cores plan = do
  queues ← each (queue_of cores plan) [] plan.queues
  wired ← all_wired cores plan queues
  Ok queues
