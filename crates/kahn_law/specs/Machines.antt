-- What the machines of the plain program are, as a network of the law.
use Rattle.std.specs.Prelude.{◌≡◌, ℕ, ◌+◌, ◌%◌, ◌^◌, ◌<◌, ◌==◌, nat_lt, Bool, true, false, ◌&&◌, if◌then◌else◌, List, [], ◌∷◌, ◌++◌, length, Option, Some, None, slice_get, slice_index_or}
use Rattle.std.specs.Option.{option_to_list}
use Rattle.kahn_law.specs.Worker.{Rule, times, start}
use Rattle.kahn_law.specs.Network.{Net, Node, Gate, turn, turns, open_gate, room_gate}
use Rattle.kahn_law.specs.Causal.{Item, total}
use Rattle.kahn_law.specs.Clock.{clocked_net, node_without_clock, blind, clocked_rounds}
use Rattle.kahn_law.specs.declared.plain.Step.{Step}
use Rattle.kahn_law.specs.declared.plain.Machine.{Machine}
use Rattle.kahn_law.specs.declared.plain.Queue.{Queue}
use Rattle.kahn_law.specs.declared.plain.Machines.{Machines}
use Rattle.kahn_law.specs.declared.plain.Stamped.{Stamped}
use Rattle.kahn_law.specs.declared.plain.Sent.{Sent}
use Rattle.kahn_law.specs.declared.plain.Place.{Place}
use Rattle.kahn_law.specs.declared.plain.Move.{Move}

-- a machine's state: the number of its next step, and its sum
abbrev pub State : Type 0
State = ℕ × ℕ

-- the step with this number, or one that does nothing
abbrev pub step_at : List Step → ℕ → Step
step_at steps at = slice_index_or steps at (record { from = None; add = 0; to = None; traps = false })

-- the number of the next step: behind the last one a machine that repeats begins again
abbrev pub step_after : List Step → Bool → ℕ → ℕ
step_after steps repeats at = if repeats && (at + 1 == length steps) then 0 else at + 1

-- the sum after a step, in 32 bits: the popped value, or else the old sum, and what the step adds
abbrev pub sum_after : Step → ℕ → List ℕ → ℕ
sum_after step sum [] = (sum + step.add) % 2 ^ 32
sum_after step sum (v ∷ vs) = (v + step.add) % 2 ^ 32

-- what a step pushes to a queue
abbrev pub put_to : Option ℕ → ℕ → ℕ → List ℕ
put_to None sum out = []
put_to (Some q) sum out = if q == out then sum ∷ [] else []

abbrev pub machine_rule : Machine → Rule State ℕ
machine_rule machine =
    record {
      budget = machine.budget;
      is_running = λ s. nat_lt s.0 (length machine.steps.items);
      traps = λ s. (step_at machine.steps.items s.0).traps;
      pops = λ s. option_to_list (step_at machine.steps.items s.0).from;
      outs = λ s. option_to_list (step_at machine.steps.items s.0).to;
      act = λ s vs. (step_after machine.steps.items machine.repeats s.0, sum_after (step_at machine.steps.items s.0) s.1 vs);
      puts = λ s vs out. put_to (step_at machine.steps.items s.0).to (sum_after (step_at machine.steps.items s.0) s.1 vs) out;
    }

-- where there is no machine, nothing moves
abbrev pub rule_of : Option Machine → Rule State ℕ
rule_of None =
    record {
      budget = 0;
      is_running = λ s. false;
      traps = λ s. false;
      pops = λ s. [];
      outs = λ s. [];
      act = λ s vs. s;
      puts = λ s vs out. [];
    }
rule_of (Some machine) = machine_rule machine

abbrev pub writer_of : Option Queue → ℕ
writer_of None = 0
writer_of (Some queue) = queue.writer

abbrev pub reader_of : Option Queue → ℕ
reader_of None = 0
reader_of (Some queue) = queue.reader

abbrev pub capacity_of : Option Queue → ℕ
capacity_of None = 0
capacity_of (Some queue) = queue.capacity

abbrev pub starting_of : Option Queue → List ℕ
starting_of None = []
starting_of (Some queue) = queue.starting.items

-- the network of these machines; each port has the number of its queue
abbrev pub net_of : Machines → Net State ℕ
net_of net =
    record {
      workers = length net.machines.items;
      rule = λ w. rule_of (slice_get net.machines.items w);
      first = λ w. (0, 0);
      feeder = λ w port. record { worker = writer_of (slice_get net.queues.items port); port = port };
      reader = λ w out. record { worker = reader_of (slice_get net.queues.items out); port = out };
      capacity = λ w out. capacity_of (slice_get net.queues.items out);
      starting = λ w out. starting_of (slice_get net.queues.items out);
    }

abbrev pub item_of : Stamped → Item ℕ
item_of item = record { value = item.value; stamp = item.stamp }

-- of the items that a machine sent, those to this queue
abbrev pub sent_to : ℕ → List Sent → List (Item ℕ)
sent_to out [] = []
sent_to out (s ∷ ss) = if s.queue == out then item_of s.item ∷ sent_to out ss else sent_to out ss

-- a node whose worker keeps a clock
abbrev pub ClockNode : Type 0
ClockNode = Node (State × ℕ) (Item ℕ)

-- a machine's part of a run, or that of no machine
abbrev pub node_of : Option Place → ClockNode
node_of None = record { count = 0; now = start ((0, 0), 0) }
node_of (Some place) =
    record {
      count = place.count;
      now = record {
        state = ((place.at, place.sum), place.clock);
        consumed = λ port. times port place.popped.items;
        pushed = λ out. sent_to out place.sent.items;
      };
    }

abbrev pub nodes_of : List Place → ℕ → ClockNode
nodes_of places w = node_of (slice_get places w)

-- the same without clocks and stamps
abbrev pub plain_nodes_of : List Place → ℕ → Node State ℕ
plain_nodes_of places w = node_without_clock (node_of (slice_get places w))

-- the item that a step pushes, if any
abbrev pub sent_of : Option ℕ → ℕ → ℕ → Option Sent
sent_of None sum clock = None
sent_of (Some q) sum clock = Some (record { queue = q; item = record { value = sum; stamp = clock } })

-- the move of a step: from this value, popped or the sum, and from this clock, the greatest of the machine's and the item's
abbrev pub move_of : Machine → Place → Step → ℕ → ℕ → Move
move_of machine place step value clock =
    record {
      count = place.count + 1;
      at = step_after machine.steps.items machine.repeats place.at;
      sum = (value + step.add) % 2 ^ 32;
      clock = clock + 1;
      popped = step.from;
      sent = sent_of step.to ((value + step.add) % 2 ^ 32) (clock + 1);
    }

-- a node after a move
abbrev pub node_after : Move → ClockNode → ClockNode
node_after m node =
    record {
      count = m.count;
      now = record {
        state = ((m.at, m.sum), m.clock);
        consumed = λ port. node.now.consumed port + times port (option_to_list m.popped);
        pushed = λ out. node.now.pushed out ++ sent_to out (option_to_list m.sent);
      };
    }

-- a place after a move
pub record IsMade (old : Place) (m : Move) (new : Place) : Type 0 where
  pub count : new.count ≡ m.count
  pub at : new.at ≡ m.at
  pub sum : new.sum ≡ m.sum
  pub clock : new.clock ≡ m.clock
  pub popped : new.popped.items ≡ old.popped.items ++ option_to_list m.popped
  pub sent : new.sent.items ≡ old.sent.items ++ option_to_list m.sent

-- queues with capacities, or without a bound
abbrev pub gate_of : Bool → Net State ℕ → Gate State ℕ
gate_of true net = room_gate net
gate_of false net = open_gate

-- the turn of worker w in the network of these machines, whose workers keep clocks
abbrev pub turn_of : Machines → Bool → (ℕ → ClockNode) → ℕ → ClockNode
turn_of net bounded nodes w = turn (clocked_net (net_of net)) (blind (gate_of bounded (net_of net))) nodes w

-- the turns of workers 0 to m - 1
abbrev pub turns_of : Machines → Bool → (ℕ → ClockNode) → ℕ → ℕ → ClockNode
turns_of net bounded nodes m = turns (clocked_net (net_of net)) (blind (gate_of bounded (net_of net))) nodes m

-- the machines after so many rounds, with their clocks
abbrev pub rounds_of : Machines → Bool → ℕ → ℕ → ClockNode
rounds_of net bounded n w = clocked_rounds (net_of net) (gate_of bounded (net_of net)) n w

-- the most moves that machines 0 to n - 1 may make together
abbrev pub budgets_to : Machines → ℕ → ℕ
budgets_to net n = total n (λ w. (rule_of (slice_get net.machines.items w)).budget)

-- the most moves that all machines may make together
abbrev pub all_budgets : Machines → ℕ
all_budgets net = budgets_to net (length net.machines.items)

-- the clock and all stamps of a node are below half of what a machine word holds
pub record HasSmallStamps (node : ClockNode) : Type 0 where
  pub clock : node.now.state.1 < 2 ^ 63
  pub stamps : (out i : ℕ) (x : Item ℕ) → slice_get (node.now.pushed out) i ≡ Some x → x.stamp < 2 ^ 63
