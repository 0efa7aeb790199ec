-- What the running program shows of the law's nodes.
use Rattle.std.specs.Prelude.{◌≡◌, ◌⊎◌, ℕ, suc, ◌+◌, ◌<◌, ◌==◌, nat_lt, Bool, true, false, if◌then◌else◌, List, [], ◌∷◌, ◌++◌, Vec, length, map, min, replicate, Option, Some, None, slice_get}
use Rattle.std.specs.Global.{Global}
use Rattle.std.specs.Option.{option_and_then}
use Rattle.kahn_law.specs.Worker.{times}
use Rattle.kahn_law.specs.Network as law
use Rattle.net_parts.specs.declared.parts.Net.{Net}
use Rattle.net_parts.specs.declared.parts.NetCore.{NetCore}
use Rattle.net_parts.specs.declared.parts.NetQueue.{NetQueue}
use Rattle.net_parts.specs.declared.ends.QueueEnd.{QueueEnd}
use Rattle.net_parts.specs.Network.{IsNet}
use Rattle.xt_state.specs.State.{State}
use Rattle.xt_exec.specs.Made.{IsFor}
use Rattle.net_ref.specs.declared.channel.Channel.{Channel}
use Rattle.net_ref.specs.declared.ports.CorePorts.{CorePorts}
use Rattle.net_parts.specs.declared.ends.CoreEnd.{CoreEnd}
use Rattle.net_ref.specs.declared.running.Run.{Run}
use Rattle.net_ref.specs.Place.{Place, CoreAt, SourceAt, CollectorAt}
use Rattle.net_ref.specs.Processor.{met, chosen}
use Rattle.net_ref.specs.Workers.{Nodes, network, writer, reader, capacity_of, source_worker, collector_worker}
use Rattle.net_ref.specs.Ports.{AreCorePorts}
use Rattle.net_ref.specs.Reference.{gate_of, rounds_of}

-- ---- queues

-- a list of queue numbers is that of f
abbrev pub IsTable : (ℕ → ℕ) → List ℕ → Type 0
IsTable f xs = (i q : ℕ) → slice_get xs i ≡ Some q → q ≡ f i

-- the queues of the ports that pass
abbrev pub queues_of : (ℕ → ℕ) → (ℕ → Bool) → ℕ → List ℕ
queues_of f test n = map f (chosen test n)

-- the first item that isn't consumed
abbrev pub head_of : Channel → Option ℕ
head_of x = slice_get x.history.items x.consumed

abbrev pub head_in : List Channel → ℕ → Option ℕ
head_in channels q = option_and_then head_of (slice_get channels q)

-- of the ports that pass
abbrev pub shown_head : List Channel → List ℕ → (ℕ → Bool) → ℕ → Option ℕ
shown_head channels ins test i = if test i then option_and_then (head_in channels) (slice_get ins i) else None

abbrev pub shown_heads : List Channel → List ℕ → (ℕ → Bool) → List (Option ℕ)
shown_heads channels ins test =
    shown_head channels ins test 0 ∷ shown_head channels ins test 1 ∷ shown_head channels ins test 2 ∷ shown_head channels ins test 3
    ∷ shown_head channels ins test 4 ∷ shown_head channels ins test 5 ∷ shown_head channels ins test 6 ∷ shown_head channels ins test 7 ∷ []

-- fewer items wait than the queue has room for
abbrev pub has_room_for : Option Channel → ℕ → Bool
has_room_for None capacity = false
has_room_for (Some x) capacity = nat_lt (length x.history.items) (x.consumed + capacity)

abbrev pub room_at : List Channel → List NetQueue → ℕ → Bool
room_at channels queues q = has_room_for (slice_get channels q) (capacity_of (slice_get queues q))

-- whether queues have no bound, or this
abbrev pub or_unbounded : Bool → Bool → Bool
or_unbounded true room = room
or_unbounded false room = true

-- an item was consumed of each of these queues that had one
abbrev pub AreConsumed : List ℕ → List Channel → List Channel → Type 0
AreConsumed ps old new =
    (q : ℕ) (x : Channel) → slice_get new q ≡ Some x
    → (y : Channel) × (slice_get old q ≡ Some y) × (x.history.items ≡ y.history.items)
    × (x.consumed ≡ min (y.consumed + times q ps) (length y.history.items))

-- these were pushed to the queues
abbrev pub AreExtended : (ℕ → List ℕ) → List Channel → List Channel → Type 0
AreExtended added old new =
    (q : ℕ) (x : Channel) → slice_get new q ≡ Some x
    → (y : Channel) × (slice_get old q ≡ Some y) × (x.history.items ≡ y.history.items ++ added q) × (x.consumed ≡ y.consumed)

pub record ShowsChannels (net : Net) (nodes : Nodes) (channels : List Channel) : Type 0 where
  pub count : length channels ≡ length net.queues.items
  pub histories : (q : ℕ) (x : Channel) → slice_get channels q ≡ Some x → x.history.items ≡ (nodes (writer net q)).now.pushed q
  pub consumed : (q : ℕ) (x : Channel) → slice_get channels q ≡ Some x → x.consumed ≡ (nodes (reader net q)).now.consumed q

-- ---- workers

-- a processor is in the state of its node, with or without the trap that it meets
pub record ShowsCore (here : NetCore) (node : law.Node Place ℕ) (x : CoreEnd) : Type 0 where
  pub last : State
  pub at : node.now.state ≡ CoreAt last
  pub retired : x.retired ≡ node.count
  pub arch : (x.arch ≡ last) ⊎ (x.arch ≡ met here.kit here.budget node.count last)

-- it has met its trap, if it has one
pub record IsMet (here : NetCore) (node : law.Node Place ℕ) (x : CoreEnd) : Type 0 where
  pub last : State
  pub at : node.now.state ≡ CoreAt last
  pub arch : x.arch ≡ met here.kit here.budget node.count last

pub record ShowsSource (node : law.Node Place ℕ) (pushed : ℕ) : Type 0 where
  pub at : node.now.state ≡ SourceAt pushed
  pub count : node.count ≡ pushed

pub record ShowsCollector (node : law.Node Place ℕ) (collected : List ℕ) : Type 0 where
  pub at : node.now.state ≡ CollectorAt collected
  pub count : node.count ≡ length collected

pub record Shows (net : Net) (nodes : Nodes) (run : Run) : Type 0 where
  pub cores : (c : ℕ) (here : NetCore) (x : CoreEnd) → slice_get net.cores.items c ≡ Some here → slice_get run.cores.items c ≡ Some x
      → ShowsCore here (nodes c) x
  pub sources : (s n : ℕ) → slice_get run.sources.items s ≡ Some n → ShowsSource (nodes (source_worker net s)) n
  pub collectors : (k : ℕ) (vs : Vec ℕ Global) → slice_get run.collectors.items k ≡ Some vs → ShowsCollector (nodes (collector_worker net k)) vs.items
  pub channels : ShowsChannels net nodes run.channels.items

-- a processor is made for its kit; no clock runs, and its ports hold nothing
pub record IsMade (here : NetCore) (x : CoreEnd) : Type 0 where
  pub made : IsFor here.kit x.arch
  pub clock : x.clock ≡ 0
  pub held : x.held.items ≡ replicate (length here.kit.desc.ins) 0

-- a run has all parts of the network
pub record IsRun (net : Net) (run : Run) : Type 0 where
  pub cores : length run.cores.items ≡ length net.cores.items
  pub sources : length run.sources.items ≡ length net.sources.items
  pub collectors : length run.collectors.items ≡ length net.collectors.items
  pub channels : length run.channels.items ≡ length net.queues.items
  pub made : (c : ℕ) (here : NetCore) (x : CoreEnd) → slice_get net.cores.items c ≡ Some here → slice_get run.cores.items c ≡ Some x
      → IsMade here x

-- all processors have met their traps
abbrev pub AreMet : Net → Nodes → Run → Type 0
AreMet net nodes run =
    (c : ℕ) (here : NetCore) (x : CoreEnd) → slice_get net.cores.items c ≡ Some here → slice_get run.cores.items c ≡ Some x → IsMet here (nodes c) x

-- what is reported of a queue
abbrev pub end_of : Channel → QueueEnd
end_of x = record { pushed = length x.history.items; consumed = x.consumed; held = 0 }

-- ---- turns and rounds

abbrev pub turn_of : Bool → Net → Nodes → ℕ → law.Node Place ℕ
turn_of bounded net nodes w = law.turn (network net) (gate_of bounded net) nodes w

abbrev pub turns_of : Bool → Net → Nodes → ℕ → Nodes
turns_of bounded net nodes m = law.turns (network net) (gate_of bounded net) nodes m

-- the nodes after the turn of worker w
abbrev pub turned : Bool → Net → Nodes → ℕ → Nodes
turned bounded net nodes w v = if v == w then turn_of bounded net nodes w else nodes v

-- what stands before the turn of processor c
pub record IsAtTurn (net : Net) (c : ℕ) (nodes : Nodes) (here : NetCore) (ports : CorePorts) (x : CoreEnd) (channels : List Channel) : Type 0 where
  pub sound : IsNet net
  pub there : slice_get net.cores.items c ≡ Some here
  pub table : AreCorePorts net c here ports
  pub core : ShowsCore here (nodes c) x
  pub queues : ShowsChannels net nodes channels

-- the turn of a processor, as far as it and the queues go
pub record IsCoreTurn (bounded : Bool) (net : Net) (nodes : Nodes) (c : ℕ) (here : NetCore) (moved : Bool) (x : CoreEnd) (channels : List Channel) : Type 0 where
  pub core : ShowsCore here (turn_of bounded net nodes c) x
  pub queues : ShowsChannels net (turned bounded net nodes c) channels
  pub goes : moved ≡ true → (turn_of bounded net nodes c).count ≡ suc (nodes c).count
  pub still : moved ≡ false → turn_of bounded net nodes c ≡ nodes c
  pub met : moved ≡ false → IsMet here (nodes c) x

-- a turn of worker w, in which it moved or not
pub record IsTurn (bounded : Bool) (net : Net) (nodes : Nodes) (w : ℕ) (old : Run) (moved : Bool) (new : Run) : Type 0 where
  pub shows : Shows net (turned bounded net nodes w) new
  pub goes : moved ≡ true → (turn_of bounded net nodes w).count ≡ suc (nodes w).count
  pub still : moved ≡ false → turn_of bounded net nodes w ≡ nodes w
  pub met : moved ≡ false → (here : NetCore) (x : CoreEnd) → slice_get net.cores.items w ≡ Some here → slice_get new.cores.items w ≡ Some x → IsMet here (nodes w) x
  pub kept : (c : ℕ) → (c ≡ w → ⊥) → slice_get new.cores.items c ≡ slice_get old.cores.items c

-- the turns of workers 0 to m - 1, in which somebody moved or nobody
pub record ArePart (bounded : Bool) (net : Net) (nodes : Nodes) (m : ℕ) (moved : Bool) (run : Run) : Type 0 where
  pub shows : Shows net (turns_of bounded net nodes m) run
  pub goes : moved ≡ true → (v : ℕ) × (v < m) × ((nodes v).count < (turns_of bounded net nodes m v).count)
  pub still : moved ≡ false → (v : ℕ) → turns_of bounded net nodes m v ≡ nodes v
  pub met : moved ≡ false → (c : ℕ) (here : NetCore) (x : CoreEnd) → c < m → slice_get net.cores.items c ≡ Some here → slice_get run.cores.items c ≡ Some x → IsMet here (nodes c) x

-- a run at the stop
pub record IsAtStop (bounded : Bool) (net : Net) (run : Run) : Type 0 where
  pub rounds : ℕ
  pub stops : law.StopsAt (network net) (gate_of bounded net) rounds
  pub shows : Shows net (rounds_of bounded net rounds) run
  pub met : AreMet net (rounds_of bounded net rounds) run
