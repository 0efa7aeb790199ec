-- The laws that take more than a line, each a record of its parts.
use Rattle.std.specs.Prelude.{◌≡◌, ℕ, suc, ◌<◌, ◌≤◌, true, false, ◌⊎◌, List, length, Some, None, slice_get, take}
use Rattle.kahn_law.specs.Worker.{Rule, Local, may_move, is_trapped, move, loc}
use Rattle.kahn_law.specs.Network.{Net, Node, StartsInCapacity, Gate, inputs, turns, rounds, open_gate, room_gate, StopsAt}
use Rattle.kahn_law.specs.Causal.{Item, values, Kept, IsPrefixOf, kept_history, IsCausal, IsInCapacity, total, all_moves, PrefixFacts}
use Rattle.kahn_law.specs.Finish.{IsFinished}
use Rattle.kahn_law.specs.Clock.{clocked_rounds, kept_of, IsClockedSet, IsAtClockedRound}

-- where both lists reach, they have the same items
abbrev pub Agree : {X : Type 0} → List X → List X → Type 0
Agree {X} xs ys = (i : ℕ) (x y : X) → slice_get xs i ≡ Some x → slice_get ys i ≡ Some y → x ≡ y

-- from an earlier point of a run to a later one consumed counts don't fall and pushed lists only get longer
pub record OnlyGrows {A V : Type 0} (before after : Local A V) : Type 0 where
  pub consumed : (port : ℕ) → before.consumed port ≤ after.consumed port
  pub pushed : (out : ℕ) → IsPrefixOf (before.pushed out) (after.pushed out)

-- a local run is determined by its inputs
pub record LocalRuns {A V : Type 0} (r : Rule A V) (first : A) : Type 0 where
  -- on inputs that agree where both reach, the run is the same
  pub determined : (k : ℕ) (ins more : ℕ → List V) (l l' : Local A V) → ((port : ℕ) → Agree (ins port) (more port))
      → loc r first k ins ≡ Some l → loc r first k more ≡ Some l' → l ≡ l'
  -- longer inputs change nothing
  pub longer : (k : ℕ) (ins more : ℕ → List V) (l : Local A V) → ((port : ℕ) → IsPrefixOf (ins port) (more port))
      → loc r first k ins ≡ Some l → loc r first k more ≡ Some l
  -- nor do shorter ones that hold what the run consumed
  pub consumed_alone : (k : ℕ) (ins : ℕ → List V) (l : Local A V) → loc r first k ins ≡ Some l → loc r first k (λ port. take (l.consumed port) (ins port)) ≡ Some l
  -- a run went through each earlier count of moves
  pub earlier : (j k : ℕ) (ins : ℕ → List V) (l : Local A V) → j ≤ k → loc r first k ins ≡ Some l
      → (l₀ : Local A V) × (loc r first j ins ≡ Some l₀) × OnlyGrows l₀ l
  -- a worker that has ended makes no move
  pub ended : (k : ℕ) (ins : ℕ → List V) (l : Local A V) → may_move r l.state ≡ false → loc r first k ins ≡ Some l → loc r first (suc k) ins ≡ None
  -- a trap is met without a move, and its mark is that of the state before it: it stands where a worker that hasn't halted makes no move of its own
  pub trapped : (k : ℕ) (ins : ℕ → List V) (l : Local A V) → is_trapped r l.state ≡ true → loc r first k ins ≡ Some l → loc r first (suc k) ins ≡ None
  pub marked : (s : A) → r.is_running s ≡ true → may_move r s ≡ false → is_trapped r s ≡ true

-- a node stays as it is, or makes one move on these inputs
abbrev pub StaysOrMoves : {A V : Type 0} → Rule A V → (ℕ → List V) → Node A V → Node A V → Type 0
StaysOrMoves {A} {V} r ins before after =
    (after ≡ before) ⊎ ((l : Local A V) × (move r ins before.now ≡ Some l) × (after ≡ record { count = suc before.count; now = l }))

-- a reference, with any gate, only grows
pub record RoundsGrow {A V : Type 0} (net : Net A V) (gate : Gate A V) : Type 0 where
  -- each turn leaves each node as it is, or makes one move of it on the histories as they stand then
  pub one_move : (n m w : ℕ) → StaysOrMoves (net.rule w) (inputs net (turns net gate (rounds net gate n) m) w)
      (turns net gate (rounds net gate n) m w) (turns net gate (rounds net gate n) (suc m) w)
  -- a round moves each worker at most once
  pub one_turn : (n w : ℕ) → (rounds net gate (suc n) w).count ≤ suc (rounds net gate n w).count
  pub counts : (m n w : ℕ) → m ≤ n → (rounds net gate m w).count ≤ (rounds net gate n w).count
  pub lists : (m n w : ℕ) → m ≤ n → OnlyGrows (rounds net gate m w).now (rounds net gate n w).now
  -- a worker is in one place for each count of moves
  pub one_place : (m n w : ℕ) → (rounds net gate m w).count ≡ (rounds net gate n w).count → (rounds net gate m w).now ≡ (rounds net gate n w).now
  -- each node is a local run on the histories
  pub local_run : (n w : ℕ) → loc (net.rule w) (net.first w) (rounds net gate n w).count (inputs net (rounds net gate n) w) ≡ Some (rounds net gate n w).now

-- where a reference stops
pub record HasOneStop {A V : Type 0} (net : Net A V) (gate : Gate A V) : Type 0 where
  -- after a round that moves nobody all later rounds are the same
  pub stays : (m n : ℕ) → m ≤ n → StopsAt net gate m → rounds net gate n ≡ rounds net gate m
  -- so two stops are the same
  pub one : (m n : ℕ) → StopsAt net gate m → StopsAt net gate n → rounds net gate m ≡ rounds net gate n
  -- and there is one, after as many rounds as all budgets allow moves, or fewer
  pub some : (n : ℕ) × (n ≤ total net.workers (λ w. (net.rule w).budget)) × StopsAt net gate n
  -- a worker that has ended, by a halt or by the mark of a trap, stays where it is
  pub ended : (m n w : ℕ) → m ≤ n → may_move (net.rule w) (rounds net gate m w).now.state ≡ false → rounds net gate n w ≡ rounds net gate m w

-- what two runs of a network have in common
pub record RunsAgree {A V : Type 0} (net : Net A V) (one other : ℕ → Kept A V) : Type 0 where
  pub histories : (w out : ℕ) → w < net.workers → Agree (values (kept_history net one w out)) (values (kept_history net other w out))
  -- where a worker made as many moves
  pub states : (w : ℕ) → w < net.workers → (one w).count ≡ (other w).count → (one w).state ≡ (other w).state
  pub consumed : (w port : ℕ) → w < net.workers → (one w).count ≡ (other w).count → values ((one w).consumed port) ≡ values ((other w).consumed port)
  pub sent : (w out : ℕ) → w < net.workers → (one w).count ≡ (other w).count → values ((one w).sent out) ≡ values ((other w).sent out)

-- what is kept of a worker is what a node has
pub record IsOfNode {A V : Type 0} (node : Node A V) (kept : Kept A V) : Type 0 where
  pub count : kept.count ≡ node.count
  pub state : kept.state ≡ node.now.state
  pub consumed : (port : ℕ) → length (kept.consumed port) ≡ node.now.consumed port
  pub pushed : (out : ℕ) → values (kept.sent out) ≡ node.now.pushed out

-- what a reference with any gate reaches, with the stamps that its workers' clocks make, is a causal set
pub record ReachesCausalSet {A V : Type 0} (net : Net A V) (gate : Gate A V) (n : ℕ) : Type 0 where
  pub nodes : (w : ℕ) → w < net.workers → IsOfNode (rounds net gate n w) (kept_of net gate n w)
  pub clocked : IsClockedSet net (kept_of net gate n) (λ w. (clocked_rounds net gate n w).now.state.1)
  pub causal : IsCausal net (kept_of net gate n)
  pub facts : PrefixFacts net (kept_of net gate n)

-- and what the strict reference reaches keeps the capacities, and has finished where it stops
pub record StrictKeepsRoom {A V : Type 0} (net : Net A V) (n : ℕ) : Type 0 where
  pub in_capacity : StartsInCapacity net → IsInCapacity net (kept_of net (room_gate net) n)
  pub finished : StopsAt net (room_gate net) n → IsFinished net (kept_of net (room_gate net) n)

-- in a set of runs with clocks the stamps are those of the order's definition, and small
pub record ClockFacts {A V : Type 0} (net : Net A V) (kept : ℕ → Kept A V) (clock : ℕ → ℕ) : Type 0 where
  -- the set is causal
  pub causal : IsCausal net kept
  -- no clock passes the number of all moves, and no stamp does
  pub clocks : (w : ℕ) → w < net.workers → clock w ≤ all_moves net kept
  pub stamps : (w out i : ℕ) (x : Item V) → w < net.workers → slice_get ((kept w).sent out) i ≡ Some x → x.stamp ≤ all_moves net kept
  -- each worker's clock and stamps are those of the reference with clocks at one of these rounds
  pub fixed : (w : ℕ) → w < net.workers → (m : ℕ) × (m ≤ all_moves net kept) × IsAtClockedRound net open_gate m w (kept w) (clock w)
