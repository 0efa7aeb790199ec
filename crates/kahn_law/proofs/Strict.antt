-- A reference whose workers keep clocks is the reference, seen without them; what it reaches is a causal set.
use Rattle.std.proofs.Common.{◌≡◌, ℕ, zero, suc, Bool, true, false, List, length, take, Option, Some, None, refl, sym, ap, ◌∙◌, subst, append-nil}
use mathlib.Core.Path.{fun_ext}
use Rattle.std.specs.Prelude.{◌==◌, if◌then◌else◌, ◌&&◌, nat_lt}
use Rattle.std.specs.Option.{option_map}
use Rattle.std.proofs.lemmas.List.{length-take-le}
use Rattle.kahn_law.specs.Worker.{Local, move}
use Rattle.kahn_law.specs.Network.{Node, Net, IsWired, inputs, after_turn, Gate, turn, turns, rounds}
use Rattle.kahn_law.specs.Causal.{Item, values, Kept, IsPrefixOf, IsCausal}
use Rattle.kahn_law.specs.Clock.{clocked, clocked_net, without_clock, node_without_clock, blind, clocked_rounds, kept_of, IsClockedSet}
use Rattle.kahn_law.specs.Laws.{ReachesCausalSet}
use Rattle.kahn_law.proofs.Lists.{item_of_take, take_prefix}
use Rattle.kahn_law.proofs.Runs.{loc_of_consumed, consumed_there}
use Rattle.kahn_law.proofs.Rounds.{run_at, in_budget}
use Rattle.kahn_law.proofs.Reached.{values_behind, prefix_facts}
use Rattle.kahn_law.proofs.Clocks.{move_without, clocked_regular, clocked_run_local}

module _ {A V : Type 0} where
  -- nodes without their clocks and stamps
  abbrev pub plain : (ℕ → Node (A × ℕ) (Item V)) → ℕ → Node A V
  plain nodes w = node_without_clock (nodes w)

  after_without : (node : Node (A × ℕ) (Item V)) (o : Option (Local (A × ℕ) (Item V))) → node_without_clock (after_turn node o) ≡ after_turn (node_without_clock node) (option_map without_clock o)
  after_without node None = refl
  after_without node (Some l) = refl

  if_without : (b : Bool) (x y : Node (A × ℕ) (Item V)) → node_without_clock (if b then x else y) ≡ (if b then node_without_clock x else node_without_clock y)
  if_without false x y = refl
  if_without true x y = refl

module _ {A V : Type 0} (net : Net A V) where
  inputs_without : (nodes : ℕ → Node (A × ℕ) (Item V)) (w : ℕ) → (λ (p : ℕ). values (inputs (clocked_net net) nodes w p)) ≡ inputs net (plain nodes) w
  inputs_without nodes w = fun_ext (λ p. values_behind (net.starting (net.feeder w p).worker (net.feeder w p).port) ((nodes (net.feeder w p).worker).now.pushed (net.feeder w p).port))

  -- a set of runs with clocks is causal
  pub set_is_causal : IsWired net → (kept : ℕ → Kept A V) (clock : ℕ → ℕ) → IsClockedSet net kept clock → IsCausal net kept
  set_is_causal wired kept clock c = record {
    local_run = λ w lt. clocked_run_local (net.rule w) (net.first w) (wired.regular w) (kept w) (clock w) (c.clocked_run w lt);
    in_budget = c.in_budget;
    taken = c.taken;
  }

module _ {A V : Type 0} (net : Net A V) (gate : Gate A V) where
  turn_without : (nodes : ℕ → Node (A × ℕ) (Item V)) (w : ℕ) → node_without_clock (turn (clocked_net net) (blind gate) nodes w) ≡ turn net gate (plain nodes) w
  turn_without nodes w =
      let b = nat_lt (nodes w).count (net.rule w).budget && gate (plain nodes) w in
      let o = move (clocked (net.rule w)) (inputs (clocked_net net) nodes w) (nodes w).now in
      let F : Node A V → Node A V = λ x. if b then x else plain nodes w in
      let G : Option (Local A V) → Node A V = after_turn (plain nodes w) in
      let M : (ℕ → List V) → Option (Local A V) = λ ins. move (net.rule w) ins (without_clock (nodes w).now) in
      if_without b (after_turn (nodes w) o) (nodes w)
      ∙ ap F (after_without (nodes w) o ∙ ap G (move_without (net.rule w) (inputs (clocked_net net) nodes w) (nodes w).now ∙ ap M (inputs_without net nodes w)))

  turns_without : (nodes : ℕ → Node (A × ℕ) (Item V)) (m : ℕ) → plain (turns (clocked_net net) (blind gate) nodes m) ≡ turns net gate (plain nodes) m
  turns_without nodes zero = fun_ext (λ w. refl)
  turns_without nodes (suc m) =
      let T = turns (clocked_net net) (blind gate) nodes m in
      fun_ext (λ w.
      let F : (ℕ → Node A V) → Node A V = λ f. if w == m then turn net gate f m else f w in
      let H : Node A V → Node A V = λ x. if w == m then x else plain T w in
      if_without (w == m) (turn (clocked_net net) (blind gate) T m) (T w)
      ∙ (ap H (turn_without T m) ∙ ap F (turns_without nodes m)))

  -- the reference with clocks, seen without them
  pub rounds_without : (n : ℕ) → plain (clocked_rounds net gate n) ≡ rounds net gate n
  rounds_without zero = fun_ext (λ w. refl)
  rounds_without (suc n) = turns_without (clocked_rounds net gate n) net.workers ∙ ap (λ (nodes : ℕ → Node A V). turns net gate nodes net.workers) (rounds_without n)

  pub node_without : (n w : ℕ) → node_without_clock (clocked_rounds net gate n w) ≡ rounds net gate n w
  node_without n w = ap (λ (nodes : ℕ → Node A V). nodes w) (rounds_without n)

  module _ (wired : IsWired net) where
    pub consumed_length : (n w port : ℕ) → length ((kept_of net gate n w).consumed port) ≡ (clocked_rounds net gate n w).now.consumed port
    consumed_length n w port =
        let node = clocked_rounds net gate n w in
        let ins = inputs (clocked_net net) (clocked_rounds net gate n) w in
        length-take-le (node.now.consumed port) (ins port)
        (consumed_there (clocked (net.rule w)) (net.first w, 0) (clocked_regular (net.rule w) (wired.regular w)) node.count ins node.now (run_at (clocked_net net) (blind gate) n w) port)

    -- what a reference reaches is a set of runs with clocks
    pub reaches_clocked_set : (n : ℕ) → IsClockedSet net (kept_of net gate n) (λ w. (clocked_rounds net gate n w).now.state.1)
    reaches_clocked_set n = record {
      clocked_run = λ w lt.
          let node = clocked_rounds net gate n w in
          let ins = inputs (clocked_net net) (clocked_rounds net gate n) w in
          record {
            now = node.now;
            run = loc_of_consumed (clocked (net.rule w)) (net.first w, 0) node.count ins (λ port. take (node.now.consumed port) (ins port)) node.now (run_at (clocked_net net) (blind gate) n w)
                (λ port i x below e. item_of_take (node.now.consumed port) (ins port) i x below e);
            state = refl;
            consumed = λ port. sym (consumed_length n w port);
            sent = λ out. refl;
          };
      in_budget = λ w lt. in_budget (clocked_net net) (blind gate) n w;
      taken = λ w port lt.
          let node = clocked_rounds net gate n w in
          let ins = inputs (clocked_net net) (clocked_rounds net gate n) w in
          subst (λ (xs : List (Item V)). IsPrefixOf xs (ins port)) (sym (append-nil (take (node.now.consumed port) (ins port)))) (take_prefix (node.now.consumed port) (ins port));
    }

  pub reaches_causal_set : IsWired net → (n : ℕ) → ReachesCausalSet net gate n
  reaches_causal_set wired n =
      let causal = set_is_causal net wired (kept_of net gate n) (λ w. (clocked_rounds net gate n w).now.state.1) (reaches_clocked_set wired n) in
      record {
        nodes = λ w lt.
            let e = node_without n w in
            record {
              count = ap (λ (node : Node A V). node.count) e;
              state = ap (λ (node : Node A V). node.now.state) e;
              consumed = λ port. consumed_length wired n w port ∙ ap (λ (node : Node A V). node.now.consumed port) e;
              pushed = λ out. ap (λ (node : Node A V). node.now.pushed out) e;
            };
        clocked = reaches_clocked_set wired n;
        causal = causal;
        facts = prefix_facts net wired (kept_of net gate n) causal;
      }
