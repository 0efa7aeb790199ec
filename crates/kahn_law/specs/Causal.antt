-- Causal sets of local runs: what a run of the network, in whatever order, keeps of its workers; and what is fixed of it.
use Rattle.std.specs.Prelude.{◌≡◌, ℕ, zero, suc, ◌+◌, ◌<◌, ◌≤◌, List, ◌++◌, length, map, Some, slice_get}
use Rattle.kahn_law.specs.Worker.{Rule, Local, loc}
use Rattle.kahn_law.specs.Network.{Net, history, inputs, ref}

-- an item of a queue with its stamp, a number that rises from a worker's consumed items to those that it pushes (Lamport 1978)
pub record Item (V : Type 0) : Type 0 where
  pub value : V
  pub stamp : ℕ

-- items without their stamps
abbrev pub values : {V : Type 0} → List (Item V) → List V
values {V} = map (λ (x : Item V). x.value)

-- these values with one stamp
abbrev pub stamp_all : {V : Type 0} → ℕ → List V → List (Item V)
stamp_all stamp = map (λ v. record { value = v; stamp = stamp })

-- what is kept of one worker after a run
pub record Kept (A V : Type 0) : Type 0 where
  -- how many moves it made
  pub count : ℕ
  pub state : A
  -- of each input port: the items that its moves consumed, and those that it took from the queue after them and hasn't consumed
  pub consumed : ℕ → List (Item V)
  pub held : ℕ → List (Item V)
  -- of each output port: the items that its moves pushed
  pub sent : ℕ → List (Item V)

-- ys is xs and some more
abbrev pub IsPrefixOf : {X : Type 0} → List X → List X → Type 0
IsPrefixOf {X} xs ys = (rest : List X) × (xs ++ rest ≡ ys)

-- the worker after k moves on the items that it consumed
abbrev pub run_of : {A V : Type 0} → Rule A V → A → Kept A V → ℕ → Local A V → Type 0
run_of r first kept k l = loc r first k (λ port. values (kept.consumed port)) ≡ Some l

-- what a worker pushed in its move m + 1, or later, has a stamp above those of all items that it consumed up to and with this move
abbrev pub IsStamped : {A V : Type 0} → Rule A V → A → Kept A V → Type 0
IsStamped {A} {V} r first kept =
    (m : ℕ) (before after : Local A V) → m < kept.count
    → run_of r first kept m before
    → run_of r first kept (suc m) after
    → (out j : ℕ) (y : Item V) → length (before.pushed out) ≤ j → slice_get (kept.sent out) j ≡ Some y
    → (port i : ℕ) (x : Item V) → i < after.consumed port → slice_get (kept.consumed port) i ≡ Some x
    → x.stamp < y.stamp

-- what is kept of a worker is a local run on the items that it consumed, with rising stamps
pub record IsLocalRun {A V : Type 0} (r : Rule A V) (first : A) (kept : Kept A V) : Type 0 where
  pub now : Local A V
  pub run : run_of r first kept kept.count now
  pub state : now.state ≡ kept.state
  pub consumed : (port : ℕ) → now.consumed port ≡ length (kept.consumed port)
  pub pushed : (out : ℕ) → now.pushed out ≡ values (kept.sent out)
  pub stamped : IsStamped r first kept

-- the history of a queue with its stamps; starting items have the stamp 0
abbrev pub kept_history : {A V : Type 0} → Net A V → (ℕ → Kept A V) → ℕ → ℕ → List (Item V)
kept_history net kept w out = stamp_all 0 (net.starting w out) ++ (kept w).sent out

-- the same of the queue that feeds an input port
abbrev pub kept_inputs : {A V : Type 0} → Net A V → (ℕ → Kept A V) → ℕ → ℕ → List (Item V)
kept_inputs net kept w port = kept_history net kept (net.feeder w port).worker (net.feeder w port).port

-- a causal set of local runs: each worker's part is a local run within its budget, and what it consumed and then what it holds is the beginning of its queue's history
pub record IsCausal {A V : Type 0} (net : Net A V) (kept : ℕ → Kept A V) : Type 0 where
  pub local_run : (w : ℕ) → w < net.workers → IsLocalRun (net.rule w) (net.first w) (kept w)
  pub in_budget : (w : ℕ) → w < net.workers → (kept w).count ≤ (net.rule w).budget
  pub taken : (w port : ℕ) → w < net.workers → IsPrefixOf ((kept w).consumed port ++ (kept w).held port) (kept_inputs net kept w port)

-- the number of items that a worker took from a queue: those consumed and those held
abbrev pub taken_count : {A V : Type 0} → Kept A V → ℕ → ℕ
taken_count kept port = length (kept.consumed port) + length (kept.held port)

-- the items that wait in the queue of a worker's output port are as many as it has room for, or fewer
abbrev pub IsInCapacity : {A V : Type 0} → Net A V → (ℕ → Kept A V) → Type 0
IsInCapacity net kept =
    (w out : ℕ) → w < net.workers
    → length (kept_history net kept w out) ≤ taken_count (kept (net.reader w out).worker) (net.reader w out).port + net.capacity w out

-- f 0 + f 1 + .. + f (n - 1)
abbrev pub total : ℕ → (ℕ → ℕ) → ℕ
total zero f = 0
total (suc n) f = total n f + f n

-- the number of all moves of a run
abbrev pub all_moves : {A V : Type 0} → Net A V → (ℕ → Kept A V) → ℕ
all_moves net kept = total net.workers (λ w. (kept w).count)

-- a worker is where the reference is after m rounds: as many moves, the same state, counts and pushed values
pub record IsAtRound {A V : Type 0} (net : Net A V) (m w : ℕ) (kept : Kept A V) : Type 0 where
  pub count : (ref net m w).count ≡ kept.count
  pub state : (ref net m w).now.state ≡ kept.state
  pub consumed : (port : ℕ) → (ref net m w).now.consumed port ≡ length (kept.consumed port)
  pub pushed : (out : ℕ) → (ref net m w).now.pushed out ≡ values (kept.sent out)

-- what is fixed of a run, by the reference after as many rounds as the run has moves
pub record PrefixFacts {A V : Type 0} (net : Net A V) (kept : ℕ → Kept A V) : Type 0 where
  -- each queue's history is a prefix of the reference's
  pub histories : (w out : ℕ) → w < net.workers → IsPrefixOf (values (kept_history net kept w out)) (history net (ref net (all_moves net kept)) w out)
  -- and so are the items that a worker consumed and then those that it holds
  pub taken : (w port : ℕ) → w < net.workers
      → IsPrefixOf (values ((kept w).consumed port ++ (kept w).held port)) (inputs net (ref net (all_moves net kept)) w port)
  -- each worker is where the reference was at one of these rounds
  pub states : (w : ℕ) → w < net.workers → (m : ℕ) × (m ≤ all_moves net kept) × IsAtRound net m w (kept w)
