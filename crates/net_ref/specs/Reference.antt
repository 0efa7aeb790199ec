-- What is reported of a network, and where its two references stop.
use Rattle.std.specs.Prelude.{◌≡◌, ℕ, Bool, true, false, Vec, length, replicate, Some, slice_get}
use Rattle.std.specs.Global.{Global}
use Rattle.kahn_law.specs.Network as law
use Rattle.net_parts.specs.declared.parts.Net.{Net}
use Rattle.net_parts.specs.declared.parts.NetCore.{NetCore}
use Rattle.net_parts.specs.declared.ends.CoreEnd.{CoreEnd}
use Rattle.net_parts.specs.declared.ends.QueueEnd.{QueueEnd}
use Rattle.net_parts.specs.declared.ends.RunEnd.{RunEnd}
use Rattle.xt_state.specs.State.{State}
use Rattle.xt_exec.specs.Made.{IsFor}
use Rattle.net_ref.specs.Place.{Place, CoreAt, CollectorAt}
use Rattle.net_ref.specs.Processor.{met}
use Rattle.net_ref.specs.Workers.{Nodes, network, writer, reader, collector_worker}

-- of a processor: its retirements, and its state, with the trap that it has met, if any; no clock runs, and its ports hold nothing
pub record IsCoreEnd (here : NetCore) (node : law.Node Place ℕ) (end : CoreEnd) : Type 0 where
  pub last : State
  pub at : node.now.state ≡ CoreAt last
  pub retired : end.retired ≡ node.count
  pub arch : end.arch ≡ met here.kit here.budget node.count last
  pub clock : end.clock ≡ 0
  pub held : end.held.items ≡ replicate (length here.kit.desc.ins) 0

-- of a queue: how many items were pushed to it and consumed of it
abbrev pub queue_end : Net → Nodes → ℕ → QueueEnd
queue_end net nodes q =
    record {
      pushed = length (law.history (network net) nodes (writer net q) q);
      consumed = (nodes (reader net q)).now.consumed q;
      held = 0;
    }

-- of the whole network: its processors, its queues, and what its collectors collected, each in order
pub record IsEnd (net : Net) (nodes : Nodes) (end : RunEnd) : Type 0 where
  pub core_count : length end.cores.items ≡ length net.cores.items
  pub cores : (c : ℕ) (here : NetCore) (e : CoreEnd)
      → slice_get net.cores.items c ≡ Some here → slice_get end.cores.items c ≡ Some e → IsCoreEnd here (nodes c) e
  pub queue_count : length end.queues.items ≡ length net.queues.items
  pub queues : (q : ℕ) (e : QueueEnd) → slice_get end.queues.items q ≡ Some e → e ≡ queue_end net nodes q
  pub collector_count : length end.collected.items ≡ length net.collectors.items
  pub collected : (k : ℕ) (vs : Vec ℕ Global) → slice_get end.collected.items k ≡ Some vs → (nodes (collector_worker net k)).now.state ≡ CollectorAt vs.items

-- one part for each part of the network, and each processor's state is made for its kit
pub record IsWhole (net : Net) (end : RunEnd) : Type 0 where
  pub core_count : length end.cores.items ≡ length net.cores.items
  pub queue_count : length end.queues.items ≡ length net.queues.items
  pub collector_count : length end.collected.items ≡ length net.collectors.items
  pub made : (c : ℕ) (here : NetCore) (e : CoreEnd) → slice_get net.cores.items c ≡ Some here → slice_get end.cores.items c ≡ Some e → IsFor here.kit e.arch

-- queues with capacities, or without a bound
abbrev pub gate_of : Bool → Net → law.Gate Place ℕ
gate_of true net = law.room_gate (network net)
gate_of false net = law.open_gate

-- the network after so many rounds
abbrev pub rounds_of : Bool → Net → ℕ → Nodes
rounds_of bounded net n = law.rounds (network net) (gate_of bounded net) n

-- what is reported where a reference stops: after the rounds that moved somebody
pub record IsStop (bounded : Bool) (net : Net) (end : RunEnd) : Type 0 where
  pub rounds : ℕ
  pub stops : law.StopsAt (network net) (gate_of bounded net) rounds
  pub ends : IsEnd net (rounds_of bounded net rounds) end

-- of the reference, whose queues have no bound, and of the strict one, whose queues have capacities
abbrev pub IsReference : Net → RunEnd → Type 0
IsReference net end = IsStop false net end

abbrev pub IsStrict : Net → RunEnd → Type 0
IsStrict net end = IsStop true net end
