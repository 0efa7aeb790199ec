-- The workers of a network as an instance of the law of networks: processors, then sources, then collectors.
use Rattle.std.specs.Prelude.{ℕ, ◌+◌, ◌-◌, suc, true, false, ◌==◌, nat_lt, if◌then◌else◌, List, [], ◌∷◌, ◌++◌, length, map, Option, Some, None, slice_get, slice_index_or}
use Rattle.std.specs.List.{flat_map, position_or_len}
use Rattle.std.specs.Option.{is_some, option_to_list}
use Rattle.kahn_law.specs.Worker.{Rule}
use Rattle.kahn_law.specs.Network as law
use Rattle.net_parts.specs.declared.parts.Net.{Net}
use Rattle.net_parts.specs.declared.parts.NetCore.{NetCore}
use Rattle.net_parts.specs.declared.parts.NetSource.{NetSource}
use Rattle.net_parts.specs.declared.parts.NetCollector.{NetCollector}
use Rattle.net_parts.specs.declared.parts.NetQueue.{NetQueue}
use Rattle.net_parts.specs.declared.parts.FromEnd.{FromEnd}
use Rattle.net_parts.specs.declared.parts.FromEnd.TheVariants as from
use Rattle.net_parts.specs.declared.parts.ToEnd.{ToEnd}
use Rattle.net_parts.specs.declared.parts.ToEnd.TheVariants as to
use Rattle.net_parts.specs.Ends.{is_output, is_source, is_input, is_collector}
use Rattle.xt_exec.specs.First.{first_state}
use Rattle.xt_exec.specs.Queues.{all_sent}
use Rattle.net_ref.specs.Place.{Place, CoreAt, SourceAt, CollectorAt, of_core, of_source, of_collector}
use Rattle.net_ref.specs.Processor.{is_running, next_trap, next_pops, next_pushes, state_after, writes_after}

-- ---- queues; each port of a worker has the number of its queue in the network

-- the queue that a processor's input or output queue is, that a source writes, that a collector reads; their number where there is none
abbrev pub input_queue : Net → ℕ → ℕ → ℕ
input_queue net c i = position_or_len (λ q. is_input c i q.to) net.queues.items

abbrev pub output_queue : Net → ℕ → ℕ → ℕ
output_queue net c o = position_or_len (λ q. is_output c o q.from) net.queues.items

abbrev pub source_queue : Net → ℕ → ℕ
source_queue net s = position_or_len (λ q. is_source s q.from) net.queues.items

abbrev pub collector_queue : Net → ℕ → ℕ
collector_queue net k = position_or_len (λ q. is_collector k q.to) net.queues.items

-- the numbers of workers
abbrev pub core_count : Net → ℕ
core_count net = length net.cores.items

abbrev pub source_count : Net → ℕ
source_count net = length net.sources.items

abbrev pub collector_count : Net → ℕ
collector_count net = length net.collectors.items

abbrev pub source_worker : Net → ℕ → ℕ
source_worker net s = core_count net + s

abbrev pub collector_worker : Net → ℕ → ℕ
collector_worker net k = core_count net + source_count net + k

abbrev pub from_worker : Net → FromEnd → ℕ
from_worker net (from.Core core out) = core
from_worker net (from.Source source) = source_worker net source

abbrev pub to_worker : Net → ToEnd → ℕ
to_worker net (to.Core core input) = core
to_worker net (to.Collector collector) = collector_worker net collector

abbrev pub writer_of : Net → Option NetQueue → ℕ
writer_of net None = 0
writer_of net (Some queue) = from_worker net queue.from

abbrev pub reader_of : Net → Option NetQueue → ℕ
reader_of net None = 0
reader_of net (Some queue) = to_worker net queue.to

abbrev pub capacity_of : Option NetQueue → ℕ
capacity_of None = 0
capacity_of (Some queue) = queue.capacity

-- the workers that write and read a queue
abbrev pub writer : Net → ℕ → ℕ
writer net q = writer_of net (slice_get net.queues.items q)

abbrev pub reader : Net → ℕ → ℕ
reader net q = reader_of net (slice_get net.queues.items q)

-- ---- rules

-- a worker that does nothing
abbrev pub still_rule : Rule Place ℕ
still_rule =
    record {
      budget = 0;
      is_running = λ p. false;
      traps = λ p. false;
      pops = λ p. [];
      outs = λ p. [];
      act = λ p vs. p;
      puts = λ p vs out. [];
    }

-- of the values for a processor's output queues those that go to the network's queue q, where it pushes these outputs
abbrev pub values_to : (ℕ → ℕ) → List (Option ℕ) → List ℕ → ℕ → List ℕ
values_to queue values outs q = flat_map (λ o. if queue o == q then option_to_list (slice_index_or values o None) else []) outs

-- a processor takes a bundle in each move
abbrev pub core_rule : Net → ℕ → NetCore → Rule Place ℕ
core_rule net c here =
    record {
      budget = here.budget;
      is_running = of_core false (λ s. is_running s.ending);
      traps = of_core false (λ s. is_some (next_trap here.kit s));
      pops = of_core [] (λ s. map (input_queue net c) (next_pops here.kit s));
      outs = of_core [] (λ s. map (output_queue net c) (next_pushes here.kit s));
      act = λ p vs. of_core p (λ s. CoreAt (state_after here.kit s vs)) p;
      puts = λ p vs. of_core (λ q. []) (λ s. values_to (output_queue net c) (all_sent (writes_after here.kit s vs)) (next_pushes here.kit s)) p;
    }

-- a source pushes its next item
abbrev pub source_rule : Net → ℕ → NetSource → Rule Place ℕ
source_rule net s here =
    record {
      budget = length here.items.items;
      is_running = λ p. true;
      traps = λ p. false;
      pops = λ p. [];
      outs = λ p. source_queue net s ∷ [];
      act = λ p vs. of_source p (λ n. SourceAt (suc n)) p;
      puts = λ p vs q. if source_queue net s == q then of_source [] (λ n. option_to_list (slice_get here.items.items n)) p else [];
    }

-- a collector consumes an item
abbrev pub collector_rule : Net → ℕ → NetCollector → Rule Place ℕ
collector_rule net k here =
    record {
      budget = here.limit;
      is_running = λ p. true;
      traps = λ p. false;
      pops = λ p. collector_queue net k ∷ [];
      outs = λ p. [];
      act = λ p vs. of_collector p (λ had. CollectorAt (had ++ vs)) p;
      puts = λ p vs q. [];
    }

abbrev pub rule_or_still : {X : Type 0} → (X → Rule Place ℕ) → Option X → Rule Place ℕ
rule_or_still rule None = still_rule
rule_or_still rule (Some x) = rule x

-- the rule of worker w
abbrev pub rule_at : Net → ℕ → Rule Place ℕ
rule_at net w =
    if nat_lt w (core_count net) then rule_or_still (core_rule net w) (slice_get net.cores.items w) else (
    if nat_lt w (core_count net + source_count net)
    then rule_or_still (source_rule net (w - core_count net)) (slice_get net.sources.items (w - core_count net))
    else rule_or_still (collector_rule net (w - (core_count net + source_count net)))
    (slice_get net.collectors.items (w - (core_count net + source_count net))))

-- ---- the network

abbrev pub first_core : Option NetCore → Place
first_core None = SourceAt 0
first_core (Some here) = CoreAt (first_state here.kit.desc here.memory here.text.items)

-- what worker w begins with: a processor its first state, a source and a collector nothing
abbrev pub first_at : Net → ℕ → Place
first_at net w =
    if nat_lt w (core_count net) then first_core (slice_get net.cores.items w) else (
    if nat_lt w (core_count net + source_count net) then SourceAt 0 else CollectorAt [])

-- queues begin empty
abbrev pub network : Net → law.Net Place ℕ
network net =
    record {
      workers = core_count net + source_count net + collector_count net;
      rule = rule_at net;
      first = first_at net;
      feeder = λ w q. record { worker = writer net q; port = q };
      reader = λ w q. record { worker = reader net q; port = q };
      capacity = λ w q. capacity_of (slice_get net.queues.items q);
      starting = λ w q. [];
    }

-- a network's workers during a run
abbrev pub Nodes : Type 0
Nodes = ℕ → law.Node Place ℕ
