-- Clocks stay below the number of all moves, and are those of the reference with clocks.
use Rattle.std.proofs.Common.{◌≡◌, ℕ, zero, suc, ◌+◌, ◌-◌, ◌<◌, ◌≤◌, max, List, [], ◌∷◌, ◌++◌, length, map, Some, refl, sym, ap, ◌∙◌, subst, ⊎_elim, arith}
use mathlib.Core.Path.{fun_ext}
use Rattle.std.specs.Prelude.{slice_get}
use Rattle.std.specs.Option.{option_and_then}
use Rattle.std.proofs.lemmas.Bool.{cases_eq}
use Rattle.std.proofs.lemmas.List.{length-map, map-append}
use Rattle.std.proofs.lemmas.Option.{none-some, same_Some}
use Rattle.kahn_law.specs.Worker.{Rule, Local, heads, move, loc}
use Rattle.kahn_law.specs.Network.{Node, Net, IsWired, inputs, turns, Gate, rounds, open_gate, ref}
use Rattle.kahn_law.specs.Causal.{Item, values, stamp_all, Kept, IsPrefixOf, run_of, IsStamped, IsCausal, total, all_moves}
use Rattle.kahn_law.specs.Clock.{greatest, next_clock, clocked, clocked_net, IsClockedSet, IsAtClockedRound}
use Rattle.kahn_law.specs.Laws.{ClockFacts}
use Rattle.kahn_law.proofs.Lists.{mapped_item, joined_item}
use Rattle.kahn_law.proofs.Runs.{Inputs, both_heads, move_parts}
use Rattle.kahn_law.proofs.Rounds.{step_grows, turns_step, turns_other, turns_in_budget, in_budget}
use Rattle.kahn_law.proofs.Sums.{total_le, total_lt}
use Rattle.kahn_law.proofs.Reached.{caught_up, at_kept, follows_rounds, is_at_round}
use Rattle.kahn_law.proofs.Clocks.{stamp_of, stamps_rise, clocked_regular}
use Rattle.kahn_law.proofs.Strict.{set_is_causal}

module _ {V : Type 0} where
  -- all stamps of these lists are at most b
  abbrev pub Under : ℕ → (ℕ → List (Item V)) → Type 0
  Under b xss = (p i : ℕ) (x : Item V) → slice_get (xss p) i ≡ Some x → x.stamp ≤ b

  greatest_under : (ins : Inputs (Item V)) (at : ℕ → ℕ) (b c : ℕ) → c ≤ b → Under b ins → (ps : List ℕ) (xs : List (Item V)) → heads ins at ps ≡ Some xs → greatest c xs ≤ b
  greatest_under ins at b c le u [] xs e = subst (λ (ys : List (Item V)). greatest c ys ≤ b) (same_Some [] xs e) le
  greatest_under ins at b c le u (p ∷ ps) xs e =
      let m = both_heads (slice_get (ins p) (at p)) (heads ins at ps) xs e in
      let here = u p (at p) m.0 m.2 in
      subst (λ (ys : List (Item V)). greatest c ys ≤ b) m.4 (greatest_under ins at b (max c m.0.stamp) (omega arith) u ps m.1 m.3)

module _ {A V : Type 0} where
  -- a node's clock and the stamps of what it pushed are at most b
  pub record IsUnder (node : Node (A × ℕ) (Item V)) (b : ℕ) : Type 0 where
    pub clock : node.now.state.1 ≤ b
    pub stamps : Under b node.now.pushed

  under_more : (node : Node (A × ℕ) (Item V)) (a b : ℕ) → a ≤ b → IsUnder node a → IsUnder node b
  under_more node a b le u = record { clock = omega (arith, u.clock); stamps = λ p i x g. omega (arith, u.stamps p i x g) }

  move_under : (r : Rule A V) (ins : ℕ → List (Item V)) (k b : ℕ) (l l' : Local (A × ℕ) (Item V)) → IsUnder (record { count = k; now = l }) b → Under b ins → move (clocked r) ins l ≡ Some l' → IsUnder (record { count = suc k; now = l' }) (b + 1)
  move_under r ins k b l l' u v e =
      let m = move_parts (clocked r) ins l l' e in
      let top = greatest_under ins l.consumed b l.state.1 u.clock v (r.pops l.state.0) m.0 m.2 in
      let P : Local (A × ℕ) (Item V) → Type 0 = λ z. IsUnder (record { count = suc k; now = z }) (b + 1) in
      subst P m.3 (record {
        clock = omega arith;
        stamps = λ out j y g. ⊎_elim
            (λ old. omega (arith, u.stamps out j y old))
            (λ add. let s = stamp_of (next_clock l.state.1 m.0) (r.puts l.state.0 (values m.0) out) (j - length (l.pushed out)) y add.1 in omega arith)
            (joined_item (l.pushed out) (stamp_all (next_clock l.state.1 m.0) (r.puts l.state.0 (values m.0) out)) j y g);
      })

module _ {A V : Type 0} (net : Net A V) (gate : Gate (A × ℕ) (Item V)) where
  moves_of : (ℕ → Node (A × ℕ) (Item V)) → ℕ
  moves_of nodes = total net.workers (λ v. (nodes v).count)

  -- starting items have the stamp 0
  inputs_under : (nodes : ℕ → Node (A × ℕ) (Item V)) (b : ℕ) → ((w : ℕ) → IsUnder (nodes w) b) → (w : ℕ) → Under b (inputs (clocked_net net) nodes w)
  inputs_under nodes b u w p i x g =
      let f = net.feeder w p in
      ⊎_elim
      (λ old. let s = stamp_of 0 (net.starting f.worker f.port) i x old in omega arith)
      (λ add. (u f.worker).stamps f.port (i - length (stamp_all 0 (net.starting f.worker f.port))) x add.1)
      (joined_item (stamp_all 0 (net.starting f.worker f.port)) ((nodes f.worker).now.pushed f.port) i x g)

  under_turn : (nodes : ℕ → Node (A × ℕ) (Item V)) (m : ℕ) → m < net.workers → ((w : ℕ) → IsUnder (turns (clocked_net net) gate nodes m w) (moves_of (turns (clocked_net net) gate nodes m)))
      → (w : ℕ) → IsUnder (turns (clocked_net net) gate nodes (suc m) w) (moves_of (turns (clocked_net net) gate nodes (suc m)))
  unfolding moves_of
  under_turn nodes m lt u w =
      let c = clocked_net net in
      let a = turns c gate nodes m in
      let b = turns c gate nodes (suc m) in
      let grow : (v : ℕ) → v < net.workers → (a v).count ≤ (b v).count = λ v l. (step_grows (c.rule v) (inputs c a v) (a v) (b v) (turns_step c gate nodes m v)).count in
      let le : total net.workers (λ v. (a v).count) ≤ total net.workers (λ v. (b v).count) = total_le net.workers (λ v. (a v).count) (λ v. (b v).count) grow in
      let same : b w ≡ a w → IsUnder (b w) (total net.workers (λ v. (b v).count)) = λ e. subst (λ (n : Node (A × ℕ) (Item V)). IsUnder n (total net.workers (λ v. (b v).count))) (sym e) (under_more (a w) _ _ le (u w)) in
      ⊎_elim
      (λ is_m. ⊎_elim same
      (λ go.
      let w_in : w < net.workers = omega (arith, is_m) in
      let rose : (b w).count ≡ suc (a w).count = ap (λ (n : Node (A × ℕ) (Item V)). n.count) go.2 in
      let rise = total_lt net.workers (λ v. (a v).count) (λ v. (b v).count) grow w w_in (omega arith) in
      let made = move_under (net.rule w) (inputs c a w) (a w).count (total net.workers (λ v. (a v).count)) (a w).now go.0 (u w) (inputs_under a (total net.workers (λ v. (a v).count)) u w) go.1 in
      subst (λ (n : Node (A × ℕ) (Item V)). IsUnder n (total net.workers (λ v. (b v).count))) (sym go.2) (under_more _ _ _ (omega arith) made))
      (turns_step c gate nodes m w))
      (λ ne. same (turns_other c gate nodes m w ne))
      (cases_eq w m)

  under_turns : (nodes : ℕ → Node (A × ℕ) (Item V)) (m : ℕ) → m ≤ net.workers → ((w : ℕ) → IsUnder (nodes w) (moves_of nodes)) → (w : ℕ) → IsUnder (turns (clocked_net net) gate nodes m w) (moves_of (turns (clocked_net net) gate nodes m))
  under_turns nodes zero le u w = u w
  under_turns nodes (suc m) le u w = let le' : m ≤ net.workers = omega arith in under_turn nodes m (omega arith) (under_turns nodes m le' u) w

  pub under_in_round : (nodes : ℕ → Node (A × ℕ) (Item V)) (m : ℕ) → m ≤ net.workers → ((w : ℕ) → IsUnder (nodes w) (total net.workers (λ v. (nodes v).count)))
      → (w : ℕ) → IsUnder (turns (clocked_net net) gate nodes m w) (total net.workers (λ v. (turns (clocked_net net) gate nodes m v).count))
  unfolding moves_of
  under_in_round nodes m le u w = under_turns nodes m le u w

  pub under_rounds : (n w : ℕ) → IsUnder (rounds (clocked_net net) gate n w) (total net.workers (λ v. (rounds (clocked_net net) gate n v).count))
  unfolding moves_of
  under_rounds zero w = record { clock = omega arith; stamps = λ p i x g. absurd (none-some x g) }
  under_rounds (suc n) w = under_turns (rounds (clocked_net net) gate n) net.workers (omega arith) (under_rounds n) w

module _ {V : Type 0} where
  -- items, each with its own stamp once more
  abbrev pub marked : List (Item V) → List (Item (Item V))
  marked = map (λ (x : Item V). record { value = x; stamp = x.stamp })

  pub values_marked : (xs : List (Item V)) → values (marked xs) ≡ xs
  values_marked [] = refl
  values_marked (x ∷ xs) = ap (λ ys. x ∷ ys) (values_marked xs)

  marked_start : (vs : List V) → marked (stamp_all 0 vs) ≡ stamp_all 0 (stamp_all 0 vs)
  marked_start [] = refl
  marked_start (v ∷ vs) = ap (λ ys. record { value = record { value = v; stamp = 0 }; stamp = 0 } ∷ ys) (marked_start vs)

  length_marked : (xs : List (Item V)) → length (marked xs) ≡ length xs
  length_marked xs = length-map xs (λ (x : Item V). record { value = x; stamp = x.stamp })

  marked_item : (xs : List (Item V)) (i : ℕ) (y : Item (Item V)) → slice_get (marked xs) i ≡ Some y → (x : Item V) × (slice_get xs i ≡ Some x) × (x.stamp ≡ y.stamp)
  marked_item xs i y e =
      let m = mapped_item (λ (x : Item V). record { value = x; stamp = x.stamp }) xs i y e in
      (m.0, m.1, ap (λ (z : Item (Item V)). z.stamp) m.2)

  marked_joined : (xs ys : List (Item V)) → marked (xs ++ ys) ≡ marked xs ++ marked ys
  marked_joined xs ys = map-append _ xs ys

  prefix_marked : (xs ys : List (Item V)) → IsPrefixOf xs ys → IsPrefixOf (marked xs) (marked ys)
  prefix_marked xs ys p = (marked p.0, sym (marked_joined xs p.0) ∙ ap marked p.1)

module _ {A V : Type 0} where
  -- what is kept of a worker with its clock, as one of the network with clocks
  abbrev pub with_clock : Kept A V → ℕ → Kept (A × ℕ) (Item V)
  with_clock kept clock =
      record {
        count = kept.count;
        state = (kept.state, clock);
        consumed = λ port. marked (kept.consumed port);
        held = λ port. marked (kept.held port);
        sent = λ out. marked (kept.sent out);
      }

  -- a rule with another budget
  abbrev pub limited : Rule A V → ℕ → Rule A V
  limited r budget =
      record {
        budget = budget;
        is_running = r.is_running;
        traps = r.traps;
        pops = r.pops;
        outs = r.outs;
        act = r.act;
        puts = r.puts;
      }

  loc_limited : (r : Rule A V) (budget : ℕ) (s : A × ℕ) (k : ℕ) (ins : ℕ → List (Item V)) → loc (clocked (limited r budget)) s k ins ≡ loc (clocked r) s k ins
  loc_limited r budget s zero ins = refl
  loc_limited r budget s (suc k) ins = ap (option_and_then (move (clocked r) ins)) (loc_limited r budget s k ins)

module _ {A V : Type 0} (net : Net A V) (wired : IsWired net) (kept : ℕ → Kept A V) (clock : ℕ → ℕ) (set : IsClockedSet net kept clock) where
  clocked_wired : IsWired (clocked_net net)
  clocked_wired = record { feeders = wired.feeders; readers = wired.readers; regular = λ w. clocked_regular (net.rule w) (wired.regular w) }

  lifted : ℕ → Kept (A × ℕ) (Item V)
  lifted w = with_clock (kept w) (clock w)

  lifted_run : (w k : ℕ) (l : Local (A × ℕ) (Item V)) → run_of (clocked (net.rule w)) (net.first w, 0) (with_clock (kept w) (clock w)) k l → loc (clocked (net.rule w)) (net.first w, 0) k (kept w).consumed ≡ Some l
  lifted_run w k l e =
      let same : (λ (port : ℕ). values (marked ((kept w).consumed port))) ≡ (kept w).consumed = fun_ext (λ port. values_marked ((kept w).consumed port)) in
      subst (λ (ins : ℕ → List (Item V)). loc (clocked (net.rule w)) (net.first w, 0) k ins ≡ Some l) same e

  lifted_stamped : (w : ℕ) → w < net.workers → IsStamped (clocked (net.rule w)) (net.first w, 0) (with_clock (kept w) (clock w))
  lifted_stamped w lt m before after below e f out j y le gy port i x inside gx =
      let c = set.clocked_run w lt in
      let y' = marked_item ((kept w).sent out) j y gy in
      let x' = marked_item ((kept w).consumed port) i x gx in
      let sent : slice_get (c.now.pushed out) j ≡ Some y'.0 = ap (λ (xs : List (Item V)). slice_get xs j) (c.sent out) ∙ y'.1 in
      let low = stamps_rise (net.rule w) (net.first w) (kept w).consumed (wired.regular w) (kept w).count m before after c.now below (lifted_run w m before e) (lifted_run w (suc m) after f) c.run out j y'.0 le sent port i x'.0 inside x'.1 in
      omega (arith, x'.2, y'.2)

  lifted_causal : IsCausal (clocked_net net) lifted
  unfolding lifted
  lifted_causal = record {
    local_run = λ w lt.
        let c = set.clocked_run w lt in
        let same : (kept w).consumed ≡ (λ (port : ℕ). values (marked ((kept w).consumed port))) = fun_ext (λ port. sym (values_marked ((kept w).consumed port))) in
        record {
          now = c.now;
          run = subst (λ (ins : ℕ → List (Item V)). loc (clocked (net.rule w)) (net.first w, 0) (kept w).count ins ≡ Some c.now) same c.run;
          state = c.state;
          consumed = λ port. c.consumed port ∙ sym (length_marked ((kept w).consumed port));
          pushed = λ out. c.sent out ∙ sym (values_marked ((kept w).sent out));
          stamped = lifted_stamped w lt;
        };
    in_budget = set.in_budget;
    taken = λ w port lt.
        let f = net.feeder w port in
        let k = kept w in
        let front : marked (k.consumed port ++ k.held port) ≡ marked (k.consumed port) ++ marked (k.held port) = marked_joined (k.consumed port) (k.held port) in
        let whole : marked (stamp_all 0 (net.starting f.worker f.port) ++ (kept f.worker).sent f.port) ≡ stamp_all 0 (stamp_all 0 (net.starting f.worker f.port)) ++ marked ((kept f.worker).sent f.port) =
        marked_joined (stamp_all 0 (net.starting f.worker f.port)) ((kept f.worker).sent f.port) ∙ ap (λ ys. ys ++ marked ((kept f.worker).sent f.port)) (marked_start (net.starting f.worker f.port)) in
        let p = prefix_marked (k.consumed port ++ k.held port) (stamp_all 0 (net.starting f.worker f.port) ++ (kept f.worker).sent f.port) (set.taken w port lt) in
        (p.0, ap (λ ys. ys ++ p.0) (sym front) ∙ (p.1 ∙ whole));
  }

  -- each clock is that of the reference with clocks
  clocks_fixed : (w : ℕ) → w < net.workers → (m : ℕ) × (m ≤ all_moves net kept) × IsAtClockedRound net open_gate m w (kept w) (clock w)
  unfolding lifted
  clocks_fixed w lt =
      let at = is_at_round (clocked_net net) clocked_wired lifted lifted_causal w lt in (
        at.0,
        at.1,
        record {
          count = at.2.count;
          state = at.2.state;
          sent = λ out. at.2.pushed out ∙ values_marked ((kept w).sent out);
        },
      )

  -- where no worker has moves left, the reference with clocks ends at the kept runs
  clocks_small : ((w : ℕ) → (net.rule w).budget ≡ (kept w).count) → (w : ℕ) → w < net.workers → IsUnder (record { count = (kept w).count; now = record { state = ((kept w).state, clock w); consumed = λ port. 0; pushed = (kept w).sent } }) (all_moves net kept)
  unfolding lifted lifted_causal
  clocks_small spent w lt =
      let c = clocked_net net in
      let n = all_moves net kept in
      let up = caught_up c clocked_wired lifted lifted_causal w lt in
      let down = in_budget c open_gate n w in
      let b = spent w in
      let same_count : (ref c n w).count ≡ (kept w).count = omega arith in
      let same = at_kept c clocked_wired lifted lifted_causal (ref c n) (follows_rounds c clocked_wired lifted lifted_causal open_gate n) w lt same_count in
      let run = set.clocked_run w lt in
      let under = under_rounds net open_gate n w in
      let most : total net.workers (λ v. (ref c n v).count) ≤ n = total_le net.workers (λ v. (ref c n v).count) (λ v. (kept v).count) (λ v l. omega (arith, in_budget c open_gate n v, spent v)) in
      let now : (ref c n w).now ≡ run.now = same in
      let clock_is : (ref c n w).now.state.1 ≡ clock w = ap (λ (l : Local (A × ℕ) (Item V)). l.state.1) now ∙ ap (λ (s : A × ℕ). s.1) run.state in
      record {
        clock = omega (arith, under.clock);
        stamps = λ out i x g.
            let sent : (ref c n w).now.pushed out ≡ (kept w).sent out = ap (λ (l : Local (A × ℕ) (Item V)). l.pushed out) now ∙ run.sent out in
            omega (arith, under.stamps out i x (ap (λ (xs : List (Item V)). slice_get xs i) sent ∙ g));
      }

module _ {A V : Type 0} (net : Net A V) (wired : IsWired net) (kept : ℕ → Kept A V) (clock : ℕ → ℕ) (set : IsClockedSet net kept clock) where
  -- the network where each worker may make as many moves as it made
  spent_net : Net A V
  spent_net =
      record {
        workers = net.workers;
        rule = λ w. limited (net.rule w) (kept w).count;
        first = net.first;
        feeder = net.feeder;
        reader = net.reader;
        capacity = net.capacity;
        starting = net.starting;
      }

  spent_wired : IsWired spent_net
  unfolding spent_net
  spent_wired = record {
    feeders = wired.feeders;
    readers = wired.readers;
    regular = λ w. record { pops_once = (wired.regular w).pops_once; outs_once = (wired.regular w).outs_once; puts_named = (wired.regular w).puts_named };
  }

  spent_set : IsClockedSet spent_net kept clock
  unfolding spent_net
  spent_set = record {
    clocked_run = λ w lt.
        let c = set.clocked_run w lt in
        record {
          now = c.now;
          run = loc_limited (net.rule w) (kept w).count (net.first w, 0) (kept w).count (kept w).consumed ∙ c.run;
          state = c.state;
          consumed = c.consumed;
          sent = c.sent;
        };
    in_budget = λ w lt. omega arith;
    taken = set.taken;
  }

  small : (w : ℕ) → w < net.workers → IsUnder (record { count = (kept w).count; now = record { state = ((kept w).state, clock w); consumed = λ port. 0; pushed = (kept w).sent } }) (all_moves net kept)
  unfolding spent_net
  small w lt = clocks_small spent_net spent_wired kept clock spent_set (λ v. refl) w lt

  pub clock_facts : ClockFacts net kept clock
  clock_facts = record {
    causal = set_is_causal net wired kept clock set;
    clocks = λ w lt. (small w lt).clock;
    stamps = λ w out i x lt g. (small w lt).stamps out i x g;
    fixed = clocks_fixed net wired kept clock set;
  }

module _ {A V : Type 0} (net : Net A V) (gate : Gate (A × ℕ) (Item V)) where
  -- within a round too, clocks and stamps are at most what all budgets allow
  pub under_budgets : (n m w : ℕ) → m ≤ net.workers → IsUnder (turns (clocked_net net) gate (rounds (clocked_net net) gate n) m w) (total net.workers (λ v. (net.rule v).budget))
  under_budgets n m w le =
      let c = clocked_net net in
      let nodes = rounds c gate n in
      let most = total_le net.workers (λ v. (turns c gate nodes m v).count) (λ v. (net.rule v).budget) (λ v lt. turns_in_budget c gate nodes m (in_budget c gate n) v) in
      under_more (turns c gate nodes m w) _ _ most (under_in_round net gate nodes m le (under_rounds net gate n) w)
