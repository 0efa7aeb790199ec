-- One worker of a network: a machine that pops items from its input ports and pushes items to its output ports.
use Rattle.std.specs.Prelude.{◌≡◌, ℕ, zero, suc, ◌+◌, ◌≤◌, ◌==◌, Bool, ◌&&◌, not, if◌then◌else◌, List, [], ◌∷◌, ◌++◌, length, Option, Some, None, slice_get}
use Rattle.std.specs.Option.{option_map, option_and_then}

-- what a worker does, each part a function of its state; a move is one step: it pops, changes the state and pushes, or doesn't happen
pub record Rule (A V : Type 0) : Type 0 where
  -- the most moves that it makes: a processor's budget, a collector's limit, the number of a source's items
  pub budget : ℕ
  -- it hasn't halted
  pub is_running : A → Bool
  -- its next move would trap
  pub traps : A → Bool
  -- the input ports that its next move pops
  pub pops : A → List ℕ
  -- the output ports that its next move pushes to
  pub outs : A → List ℕ
  -- the state after a move that popped these values
  pub act : A → List V → A
  -- what this move pushes to a port
  pub puts : A → List V → ℕ → List V

-- a worker that has halted, or would trap, has ended
abbrev pub may_move : {A V : Type 0} → Rule A V → A → Bool
may_move r s = r.is_running s && not (r.traps s)

-- the mark of a trap, which stands beside the run: the worker stays in the state before the move that traps
abbrev pub is_trapped : {A V : Type 0} → Rule A V → A → Bool
is_trapped r s = r.is_running s && r.traps s

-- a worker's own part of a run: its state, how many items it consumed of each input port, and all values that it pushed to each output port
pub record Local (A V : Type 0) : Type 0 where
  pub state : A
  pub consumed : ℕ → ℕ
  pub pushed : ℕ → List V

-- a worker that hasn't moved yet
abbrev pub start : {A V : Type 0} → A → Local A V
start first = record { state = first; consumed = λ port. 0; pushed = λ port. [] }

-- how often a port stands in a list of ports
abbrev pub times : ℕ → List ℕ → ℕ
times port [] = 0
times port (p ∷ ps) = (if port == p then 1 else 0) + times port ps

-- the next item of each of these ports, where each of them has one
abbrev pub heads : {V : Type 0} → (ℕ → List V) → (ℕ → ℕ) → List ℕ → Option (List V)
heads ins at [] = Some []
heads ins at (p ∷ ps) = option_and_then (λ v. option_map (λ vs. v ∷ vs) (heads ins at ps)) (slice_get (ins p) (at p))

-- the worker after a move that popped these values
abbrev pub moved : {A V : Type 0} → Rule A V → Local A V → List V → Local A V
moved r l vs =
    record {
      state = r.act l.state vs;
      consumed = λ port. l.consumed port + times port (r.pops l.state);
      pushed = λ port. l.pushed port ++ r.puts l.state vs port;
    }

-- one move on these inputs, where the worker may move and each port that it pops has an item left
abbrev pub move : {A V : Type 0} → Rule A V → (ℕ → List V) → Local A V → Option (Local A V)
move r ins l = if may_move r l.state then option_map (moved r l) (heads ins l.consumed (r.pops l.state)) else None

-- the worker after k moves on these inputs: a function of the inputs, whoever else moves and when
abbrev pub loc : {A V : Type 0} → Rule A V → A → ℕ → (ℕ → List V) → Option (Local A V)
loc r first zero ins = Some (start first)
loc r first (suc k) ins = option_and_then (move r ins) (loc r first k ins)

-- no move pops a port twice, pushes to a port twice, or pushes to a port that it doesn't name
pub record IsRegular {A V : Type 0} (r : Rule A V) : Type 0 where
  pub pops_once : (s : A) (port : ℕ) → times port (r.pops s) ≤ 1
  pub outs_once : (s : A) (out : ℕ) → times out (r.outs s) ≤ 1
  pub puts_named : (s : A) (vs : List V) (out : ℕ) → length vs ≡ length (r.pops s) → length (r.puts s vs out) ≤ times out (r.outs s)
