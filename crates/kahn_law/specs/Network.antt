-- A network of workers over queues with one writer and one reader each, and its two references, which go in rounds.
use Rattle.std.specs.Prelude.{◌≡◌, ℕ, zero, suc, ◌+◌, ◌<◌, ◌≤◌, ◌==◌, nat_lt, Bool, true, ◌&&◌, if◌then◌else◌, List, [], ◌∷◌, ◌++◌, length, Option, Some, None}
use Rattle.kahn_law.specs.Worker.{Rule, Local, start, move, IsRegular}

-- a port of a worker, both by number
pub record End : Type 0 where
  pub worker : ℕ
  pub port : ℕ

-- workers by number from 0; a queue is named by the output port that writes it
pub record Net (A V : Type 0) : Type 0 where
  pub workers : ℕ
  pub rule : ℕ → Rule A V
  pub first : ℕ → A
  -- the output port that writes the queue of a worker's input port
  pub feeder : ℕ → ℕ → End
  -- the input port that reads the queue of a worker's output port
  pub reader : ℕ → ℕ → End
  -- of the queue of a worker's output port: how many items it has room for, and those that stand in it before its writer pushes
  pub capacity : ℕ → ℕ → ℕ
  pub starting : ℕ → ℕ → List V

-- both ends of each queue are workers of the network, and the rules are regular
pub record IsWired {A V : Type 0} (net : Net A V) : Type 0 where
  pub feeders : (w port : ℕ) → w < net.workers → (net.feeder w port).worker < net.workers
  pub readers : (w out : ℕ) → w < net.workers → (net.reader w out).worker < net.workers
  pub regular : (w : ℕ) → IsRegular (net.rule w)

-- each queue has room for its starting items
abbrev pub StartsInCapacity : {A V : Type 0} → Net A V → Type 0
StartsInCapacity net = (w out : ℕ) → length (net.starting w out) ≤ net.capacity w out

-- a worker in a reference: how many moves it made, and its own part of the run
pub record Node (A V : Type 0) : Type 0 where
  pub count : ℕ
  pub now : Local A V

-- the history of a queue: its starting items, and then what its writer pushed
abbrev pub history : {A V : Type 0} → Net A V → (ℕ → Node A V) → ℕ → ℕ → List V
history net nodes w out = net.starting w out ++ (nodes w).now.pushed out

-- what a worker reads: the histories of the queues that feed its input ports
abbrev pub inputs : {A V : Type 0} → Net A V → (ℕ → Node A V) → ℕ → ℕ → List V
inputs net nodes w port = history net nodes (net.feeder w port).worker (net.feeder w port).port

-- a test that a worker passes before it moves
abbrev pub Gate : Type 0 → Type 0 → Type 0
Gate A V = (ℕ → Node A V) → ℕ → Bool

-- the node after a move, if that could be made
abbrev pub after_turn : {A V : Type 0} → Node A V → Option (Local A V) → Node A V
after_turn node None = node
after_turn node (Some l) = record { count = suc node.count; now = l }

-- a worker's turn: one move, where it has moves left, passes the gate and has its items
abbrev pub turn : {A V : Type 0} → Net A V → Gate A V → (ℕ → Node A V) → ℕ → Node A V
turn net gate nodes w =
    if nat_lt (nodes w).count (net.rule w).budget && gate nodes w
    then after_turn (nodes w) (move (net.rule w) (inputs net nodes w) (nodes w).now)
    else nodes w

-- the turns of workers 0 to m - 1 in this order, each seeing what the earlier ones did
abbrev pub turns : {A V : Type 0} → Net A V → Gate A V → (ℕ → Node A V) → ℕ → ℕ → Node A V
turns net gate nodes zero w = nodes w
turns net gate nodes (suc m) w = if w == m then turn net gate (turns net gate nodes m) m else turns net gate nodes m w

-- the network after n rounds; in a round each worker has one turn
abbrev pub rounds : {A V : Type 0} → Net A V → Gate A V → ℕ → ℕ → Node A V
rounds net gate zero w = record { count = 0; now = start (net.first w) }
rounds net gate (suc n) w = turns net gate (rounds net gate n) net.workers w

-- the gate of queues without a bound
abbrev pub open_gate : {A V : Type 0} → Gate A V
open_gate nodes w = true

-- the queue of each of these output ports has room: its history is shorter than its reader's consumed items and its capacity
abbrev pub has_room : {A V : Type 0} → Net A V → (ℕ → Node A V) → ℕ → List ℕ → Bool
has_room net nodes w [] = true
has_room net nodes w (o ∷ os) =
    nat_lt (length (history net nodes w o)) ((nodes (net.reader w o).worker).now.consumed (net.reader w o).port + net.capacity w o) && has_room net nodes w os

-- the gate of queues with capacities: a worker moves only where each queue that this move pushes has room
abbrev pub room_gate : {A V : Type 0} → Net A V → Gate A V
room_gate net nodes w = has_room net nodes w ((net.rule w).outs (nodes w).now.state)

-- the reference
abbrev pub ref : {A V : Type 0} → Net A V → ℕ → ℕ → Node A V
ref net = rounds net open_gate

-- the strict reference
abbrev pub strict : {A V : Type 0} → Net A V → ℕ → ℕ → Node A V
strict net = rounds net (room_gate net)

-- round n + 1 moves nobody
abbrev pub StopsAt : {A V : Type 0} → Net A V → Gate A V → ℕ → Type 0
StopsAt net gate n = (w : ℕ) → w < net.workers → (rounds net gate (suc n) w).count ≡ (rounds net gate n w).count
