-- Workers with clocks: the stamps of a run as its workers themselves make them (Lamport 1978).
use Rattle.std.specs.Prelude.{◌≡◌, ℕ, suc, ◌+◌, ◌<◌, ◌≤◌, max, true, List, [], ◌∷◌, ◌++◌, length, Some, take}
use Rattle.kahn_law.specs.Worker.{Rule, Local, may_move, times, heads, loc}
use Rattle.kahn_law.specs.Network.{Net, Node, Gate, inputs, rounds}
use Rattle.kahn_law.specs.Causal.{Item, values, stamp_all, Kept, IsPrefixOf, kept_inputs}

-- the greatest of a clock and the stamps of these items
abbrev pub greatest : {V : Type 0} → ℕ → List (Item V) → ℕ
greatest clock [] = clock
greatest clock (x ∷ xs) = greatest (max clock x.stamp) xs

-- the clock after a move: one more than the greatest of the clock and the stamps of the items that the move consumes
abbrev pub next_clock : {V : Type 0} → ℕ → List (Item V) → ℕ
next_clock clock xs = greatest clock xs + 1

-- the rule of a worker that keeps its clock beside its state and stamps what it pushes with it
abbrev pub clocked : {A V : Type 0} → Rule A V → Rule (A × ℕ) (Item V)
clocked r =
    record {
      budget = r.budget;
      is_running = λ s. r.is_running s.0;
      traps = λ s. r.traps s.0;
      pops = λ s. r.pops s.0;
      outs = λ s. r.outs s.0;
      act = λ s xs. (r.act s.0 (values xs), next_clock s.1 xs);
      puts = λ s xs out. stamp_all (next_clock s.1 xs) (r.puts s.0 (values xs) out);
    }

-- the network whose workers keep clocks; clocks begin at 0, and so do the stamps of starting items
abbrev pub clocked_net : {A V : Type 0} → Net A V → Net (A × ℕ) (Item V)
clocked_net net =
    record {
      workers = net.workers;
      rule = λ w. clocked (net.rule w);
      first = λ w. (net.first w, 0);
      feeder = net.feeder;
      reader = net.reader;
      capacity = net.capacity;
      starting = λ w out. stamp_all 0 (net.starting w out);
    }

-- a node without its clock and stamps
abbrev pub without_clock : {A V : Type 0} → Local (A × ℕ) (Item V) → Local A V
without_clock l = record { state = l.state.0; consumed = l.consumed; pushed = λ out. values (l.pushed out) }

abbrev pub node_without_clock : {A V : Type 0} → Node (A × ℕ) (Item V) → Node A V
node_without_clock node = record { count = node.count; now = without_clock node.now }

-- a gate that doesn't look at clocks and stamps
abbrev pub blind : {A V : Type 0} → Gate A V → Gate (A × ℕ) (Item V)
blind gate nodes w = gate (λ v. node_without_clock (nodes v)) w

-- a reference whose workers keep clocks
abbrev pub clocked_rounds : {A V : Type 0} → Net A V → Gate A V → ℕ → ℕ → Node (A × ℕ) (Item V)
clocked_rounds net gate = rounds (clocked_net net) (blind gate)

-- what is kept of a worker in such a reference after n rounds, with nothing held
abbrev pub kept_of : {A V : Type 0} → Net A V → Gate A V → ℕ → ℕ → Kept A V
kept_of net gate n w =
    let node = clocked_rounds net gate n w in
    record {
      count = node.count;
      state = node.now.state.0;
      consumed = λ port. take (node.now.consumed port) (inputs (clocked_net net) (clocked_rounds net gate n) w port);
      held = λ port. [];
      sent = node.now.pushed;
    }

-- what is kept of a worker is a run with this clock on the items that it consumed
pub record IsClockedRun {A V : Type 0} (r : Rule A V) (first : A) (kept : Kept A V) (clock : ℕ) : Type 0 where
  pub now : Local (A × ℕ) (Item V)
  pub run : loc (clocked r) (first, 0) kept.count kept.consumed ≡ Some now
  pub state : now.state ≡ (kept.state, clock)
  pub consumed : (port : ℕ) → now.consumed port ≡ length (kept.consumed port)
  pub sent : (out : ℕ) → now.pushed out ≡ kept.sent out

-- what is kept of a worker that hasn't moved
pub record HasNotMoved {A V : Type 0} (first : A) (kept : Kept A V) : Type 0 where
  pub count : kept.count ≡ 0
  pub state : kept.state ≡ first
  pub consumed : (port : ℕ) → kept.consumed port ≡ []
  pub sent : (out : ℕ) → kept.sent out ≡ []

-- from what is kept of a worker to what is kept after one more move, which consumes these items and stamps what it pushes
pub record IsNextMove {A V : Type 0} (r : Rule A V) (before after : Kept A V) (clock : ℕ) (xs : List (Item V)) : Type 0 where
  pub may : may_move r before.state ≡ true
  pub items : heads after.consumed (λ port. length (before.consumed port)) (r.pops before.state) ≡ Some xs
  pub count : after.count ≡ suc before.count
  pub state : after.state ≡ r.act before.state (values xs)
  pub consumed : (port : ℕ) → IsPrefixOf (before.consumed port) (after.consumed port)
  pub consumed_count : (port : ℕ) → length (after.consumed port) ≡ length (before.consumed port) + times port (r.pops before.state)
  pub sent : (out : ℕ) → after.sent out ≡ before.sent out ++ stamp_all (next_clock clock xs) (r.puts before.state (values xs) out)

-- a set of runs with clocks, each of which consumed the beginning of its queues' histories
pub record IsClockedSet {A V : Type 0} (net : Net A V) (kept : ℕ → Kept A V) (clock : ℕ → ℕ) : Type 0 where
  pub clocked_run : (w : ℕ) → w < net.workers → IsClockedRun (net.rule w) (net.first w) (kept w) (clock w)
  pub in_budget : (w : ℕ) → w < net.workers → (kept w).count ≤ (net.rule w).budget
  pub taken : (w port : ℕ) → w < net.workers → IsPrefixOf ((kept w).consumed port ++ (kept w).held port) (kept_inputs net kept w port)

-- the clock and the stamps of a worker are those of the reference with clocks after m rounds
pub record IsAtClockedRound {A V : Type 0} (net : Net A V) (gate : Gate A V) (m w : ℕ) (kept : Kept A V) (clock : ℕ) : Type 0 where
  pub count : (clocked_rounds net gate m w).count ≡ kept.count
  pub state : (clocked_rounds net gate m w).now.state ≡ (kept.state, clock)
  pub sent : (out : ℕ) → (clocked_rounds net gate m w).now.pushed out ≡ kept.sent out
