-- The turns of a round: nodes only grow, each moves at most once, and one that can move does.
use Rattle.std.proofs.Common.{◌≡◌, ℕ, zero, suc, ◌+◌, ◌-◌, ◌<◌, ◌≤◌, Bool, true, false, List, Option, Some, None, refl, sym, ap, ◌∙◌, subst, inl, inr, ⊎_elim, arith}
use mathlib.Core.Path.{fun_ext}
use Rattle.std.specs.Prelude.{if◌then◌else◌, ◌⊎◌, ◌&&◌, nat_lt}
use Rattle.std.proofs.lemmas.Bool.{cases_lt, cases_eq, eq-eqb, ne_eqb, lt-ltb, ltb-true, false≢true}
use Rattle.std.proofs.lemmas.Option.{same_Some}
use Rattle.kahn_law.specs.Worker.{Rule, Local, may_move, move, loc}
use Rattle.kahn_law.specs.Network.{Node, Net, inputs, after_turn, Gate, turn, turns, rounds, StopsAt}
use Rattle.kahn_law.specs.Causal.{total}
use Rattle.kahn_law.specs.Laws.{StaysOrMoves, RoundsGrow, HasOneStop}
use Rattle.kahn_law.proofs.Lists.{within_behind}
use Rattle.kahn_law.proofs.Runs.{AllWithin, IsLater, later_same, later_later, only_grows, move_parts, move_later, move_longer, join_loc, loc_longer}
use Rattle.kahn_law.proofs.Sums.{total_le, total_lt, same_or_rises}

module _ {A V : Type 0} where
  pub record Grows (n n' : Node A V) : Type 0 where
    pub count : n.count ≤ n'.count
    pub later : IsLater n.now n'.now

  pub grows_same : (n : Node A V) → Grows n n
  grows_same n = record { count = omega arith; later = later_same n.now }

  pub grows_more : (a b c : Node A V) → Grows a b → Grows b c → Grows a c
  grows_more a b c x y = record { count = omega (arith, x.count, y.count); later = later_later a.now b.now c.now x.later y.later }

  stays_or_moves : (r : Rule A V) (ins : ℕ → List V) (b : Bool) (n : Node A V) (o : Option (Local A V)) → move r ins n.now ≡ o → StaysOrMoves r ins n (if b then after_turn n o else n)
  stays_or_moves r ins false n o e = inl refl
  stays_or_moves r ins true n None e = inl refl
  stays_or_moves r ins true n (Some l) e = inr (l, e, refl)

  pub step_grows : (r : Rule A V) (ins : ℕ → List V) (n n' : Node A V) → StaysOrMoves r ins n n' → Grows n n'
  step_grows r ins n n' g =
      ⊎_elim
      (λ e. subst (Grows n) (sym e) (grows_same n))
      (λ m. let made : Node A V = record { count = suc n.count; now = m.0 } in
      let g : Grows n made = record { count = omega arith; later = move_later r ins n.now m.0 m.1 } in
      subst (Grows n) (sym m.2) g)
      g

  pub step_once : (r : Rule A V) (ins : ℕ → List V) (n n' : Node A V) → StaysOrMoves r ins n n' → n'.count ≤ suc n.count
  step_once r ins n n' g =
      ⊎_elim
      (λ e. let c : n'.count ≡ n.count = ap (λ (x : Node A V). x.count) e in omega arith)
      (λ m. let c : n'.count ≡ suc n.count = ap (λ (x : Node A V). x.count) m.2 in omega arith)
      g

  -- a step that doesn't change the count is none
  pub step_none : (r : Rule A V) (ins : ℕ → List V) (n n' : Node A V) → StaysOrMoves r ins n n' → n'.count ≤ n.count → n' ≡ n
  step_none r ins n n' g le =
      ⊎_elim
      (λ e. e)
      (λ m. let c : n'.count ≡ suc n.count = ap (λ (x : Node A V). x.count) m.2 in absurd (omega arith))
      g

module _ {A V : Type 0} (net : Net A V) where
  pub inputs_grow : (a b : ℕ → Node A V) → ((w : ℕ) → Grows (a w) (b w)) → (w : ℕ) → AllWithin (inputs net a w) (inputs net b w)
  inputs_grow a b g w port =
      let f = net.feeder w port in
      within_behind (net.starting f.worker f.port) ((a f.worker).now.pushed f.port) ((b f.worker).now.pushed f.port) ((g f.worker).later.pushed f.port)

  -- every node is a local run on the histories
  unfoldable pub IsRun : (ℕ → Node A V) → Type 0
  IsRun nodes = (w : ℕ) → loc (net.rule w) (net.first w) (nodes w).count (inputs net nodes w) ≡ Some (nodes w).now

module _ {A V : Type 0} (net : Net A V) (gate : Gate A V) where
  pub turn_step : (nodes : ℕ → Node A V) (w : ℕ) → StaysOrMoves (net.rule w) (inputs net nodes w) (nodes w) (turn net gate nodes w)
  turn_step nodes w = stays_or_moves (net.rule w) (inputs net nodes w) (nat_lt (nodes w).count (net.rule w).budget && gate nodes w) (nodes w) (move (net.rule w) (inputs net nodes w) (nodes w).now) refl

  turn_made : (nodes : ℕ → Node A V) (w : ℕ) (l : Local A V) → (nodes w).count < (net.rule w).budget → gate nodes w ≡ true → move (net.rule w) (inputs net nodes w) (nodes w).now ≡ Some l → turn net gate nodes w ≡ record { count = suc (nodes w).count; now = l }
  turn_made nodes w l b g m = let t = lt-ltb (nodes w).count (net.rule w).budget b in rw (t, g, m)

  -- a turn that moved was allowed
  pub turn_allowed : (nodes : ℕ → Node A V) (w : ℕ) → (nodes w).count < (turn net gate nodes w).count → ((nodes w).count < (net.rule w).budget) × (gate nodes w ≡ true) × (l : Local A V) × (move (net.rule w) (inputs net nodes w) (nodes w).now ≡ Some l)
  turn_allowed nodes w h = allowed (nat_lt (nodes w).count (net.rule w).budget) (gate nodes w) (move (net.rule w) (inputs net nodes w) (nodes w).now) refl h
    where
      allowed : (a b : Bool) (o : Option (Local A V)) → nat_lt (nodes w).count (net.rule w).budget ≡ a → (nodes w).count < (if a && b then after_turn (nodes w) o else nodes w).count
          → ((nodes w).count < (net.rule w).budget) × (b ≡ true) × (l : Local A V) × (o ≡ Some l)
      allowed false b o e h = absurd (omega arith)
      allowed true false o e h = absurd (omega arith)
      allowed true true None e h = absurd (omega arith)
      allowed true true (Some l) e h = (ltb-true (nodes w).count (net.rule w).budget e, refl, l, refl)

  pub turns_here : (nodes : ℕ → Node A V) (m : ℕ) → turns net gate nodes (suc m) m ≡ turn net gate (turns net gate nodes m) m
  turns_here nodes m = let e = eq-eqb m m refl in rw e

  pub turns_other : (nodes : ℕ → Node A V) (m w : ℕ) → (w ≡ m → ⊥) → turns net gate nodes (suc m) w ≡ turns net gate nodes m w
  turns_other nodes m w ne = let e = ne_eqb w m ne in rw e

  -- the workers whose turn is still to come are as before the round
  pub turns_before : (nodes : ℕ → Node A V) (m w : ℕ) → m ≤ w → turns net gate nodes m w ≡ nodes w
  turns_before nodes zero w h = refl
  turns_before nodes (suc m) w h = turns_other nodes m w (λ e. omega arith) ∙ turns_before nodes m w (omega arith)

  pub turns_step : (nodes : ℕ → Node A V) (m w : ℕ) → StaysOrMoves (net.rule w) (inputs net (turns net gate nodes m) w) (turns net gate nodes m w) (turns net gate nodes (suc m) w)
  turns_step nodes m w =
      ⊎_elim
      (λ e. let P : ℕ → Type 0 = λ v. StaysOrMoves (net.rule v) (inputs net (turns net gate nodes m) v) (turns net gate nodes m v) (turns net gate nodes (suc m) v) in
      subst P (sym e) (subst (StaysOrMoves (net.rule m) (inputs net (turns net gate nodes m) m) (turns net gate nodes m m)) (sym (turns_here nodes m)) (turn_step (turns net gate nodes m) m)))
      (λ ne. inl (turns_other nodes m w ne))
      (cases_eq w m)

  turns_grow_by : (nodes : ℕ → Node A V) (d m w : ℕ) → Grows (turns net gate nodes m w) (turns net gate nodes (d + m) w)
  turns_grow_by nodes zero m w = let e : m ≡ 0 + m = omega arith in subst (λ (j : ℕ). Grows (turns net gate nodes m w) (turns net gate nodes j w)) e (grows_same (turns net gate nodes m w))
  turns_grow_by nodes (suc d) m w =
      let e : suc (d + m) ≡ suc d + m = omega arith in
      let one = step_grows (net.rule w) (inputs net (turns net gate nodes (d + m)) w) (turns net gate nodes (d + m) w) (turns net gate nodes (suc (d + m)) w) (turns_step nodes (d + m) w) in
      subst (λ (j : ℕ). Grows (turns net gate nodes m w) (turns net gate nodes j w)) e (grows_more (turns net gate nodes m w) (turns net gate nodes (d + m) w) (turns net gate nodes (suc (d + m)) w) (turns_grow_by nodes d m w) one)

  pub turns_grow : (nodes : ℕ → Node A V) (m n w : ℕ) → m ≤ n → Grows (turns net gate nodes m w) (turns net gate nodes n w)
  turns_grow nodes m n w h = let e : (n - m) + m ≡ n = omega arith in subst (λ (j : ℕ). Grows (turns net gate nodes m w) (turns net gate nodes j w)) e (turns_grow_by nodes (n - m) m w)

  -- a worker that can move at the round's start moves in it
  pub moves_in_round : (nodes : ℕ → Node A V) (w : ℕ) (l : Local A V) → w < net.workers → (nodes w).count < (net.rule w).budget → ((later : ℕ → Node A V) → gate later w ≡ true)
      → move (net.rule w) (inputs net nodes w) (nodes w).now ≡ Some l → (nodes w).count < (turns net gate nodes net.workers w).count
  moves_in_round nodes w l lt b is_open m =
      let here : turns net gate nodes w w ≡ nodes w = turns_before nodes w w (omega arith) in
      let more : move (net.rule w) (inputs net (turns net gate nodes w) w) (nodes w).now ≡ Some l = move_longer (net.rule w) (inputs net nodes w) (inputs net (turns net gate nodes w) w) (nodes w).now l (inputs_grow net nodes (turns net gate nodes w) (λ v. turns_grow nodes 0 w v (omega arith)) w) m in
      let P : Node A V → Type 0 = λ n. (n.count < (net.rule w).budget) → (gate (turns net gate nodes w) w ≡ true) → (move (net.rule w) (inputs net (turns net gate nodes w) w) n.now ≡ Some l) → turn net gate (turns net gate nodes w) w ≡ record { count = suc n.count; now = l } in
      let made = subst P here (turn_made (turns net gate nodes w) w l) b (is_open (turns net gate nodes w)) more in
      let c : (turns net gate nodes (suc w) w).count ≡ suc (nodes w).count = ap (λ (n : Node A V). n.count) (turns_here nodes w ∙ made) in
      let up : (turns net gate nodes (suc w) w).count ≤ (turns net gate nodes net.workers w).count = (turns_grow nodes (suc w) net.workers w (omega arith)).count in
      omega arith

  -- each worker moves at most once in a round
  once_in_round : (nodes : ℕ → Node A V) (m w : ℕ) → (turns net gate nodes m w).count ≤ suc (nodes w).count
  once_in_round nodes zero w = omega arith
  once_in_round nodes (suc m) w =
      ⊎_elim
      (λ e. let g = step_once (net.rule w) (inputs net (turns net gate nodes m) w) (turns net gate nodes m w) (turns net gate nodes (suc m) w) (turns_step nodes m w) in
      let c : (turns net gate nodes m w).count ≡ (nodes w).count = ap (λ (n : Node A V). n.count) (turns_before nodes m w (omega arith)) in omega arith)
      (λ ne. let c : (turns net gate nodes (suc m) w).count ≡ (turns net gate nodes m w).count = ap (λ (n : Node A V). n.count) (turns_other nodes m w ne) in
      let h = once_in_round nodes m w in omega arith)
      (cases_eq w m)

  pub round_grows : (n w : ℕ) → Grows (rounds net gate n w) (rounds net gate (suc n) w)
  round_grows n w = turns_grow (rounds net gate n) 0 net.workers w (omega arith)

  rounds_grow_by : (d n w : ℕ) → Grows (rounds net gate n w) (rounds net gate (d + n) w)
  rounds_grow_by zero n w = let e : n ≡ 0 + n = omega arith in subst (λ (j : ℕ). Grows (rounds net gate n w) (rounds net gate j w)) e (grows_same (rounds net gate n w))
  rounds_grow_by (suc d) n w =
      let e : suc (d + n) ≡ suc d + n = omega arith in
      subst (λ (j : ℕ). Grows (rounds net gate n w) (rounds net gate j w)) e (grows_more (rounds net gate n w) (rounds net gate (d + n) w) (rounds net gate (suc (d + n)) w) (rounds_grow_by d n w) (round_grows (d + n) w))

  pub rounds_grow : (m n w : ℕ) → m ≤ n → Grows (rounds net gate m w) (rounds net gate n w)
  rounds_grow m n w h = let e : (n - m) + m ≡ n = omega arith in subst (λ (j : ℕ). Grows (rounds net gate m w) (rounds net gate j w)) e (rounds_grow_by (n - m) m w)

  -- each count of moves up to a later one was met after some round
  pub count_met : (w k n : ℕ) → k ≤ (rounds net gate n w).count → (m : ℕ) × (m ≤ n) × ((rounds net gate m w).count ≡ k)
  count_met w k zero h = (0, omega arith, omega arith)
  count_met w k (suc n) h =
      ⊎_elim
      (λ lt. let o = once_in_round (rounds net gate n) net.workers w in (suc n, omega arith, omega arith))
      (λ le. let r = count_met w k n le in (r.0, omega (arith, r.1), r.2))
      (cases_lt (rounds net gate n w).count k)

  step_is_run : (a b : ℕ → Node A V) → IsRun net a → ((w : ℕ) → StaysOrMoves (net.rule w) (inputs net a w) (a w) (b w)) → IsRun net b
  unfolding IsRun
  step_is_run a b f steps w =
      let grow : AllWithin (inputs net a w) (inputs net b w) = inputs_grow net a b (λ v. step_grows (net.rule v) (inputs net a v) (a v) (b v) (steps v)) w in
      let P : Node A V → Type 0 = λ n. loc (net.rule w) (net.first w) n.count (inputs net b w) ≡ Some n.now in
      ⊎_elim
      (λ e. subst P (sym e) (loc_longer (net.rule w) (net.first w) (a w).count (inputs net a w) (inputs net b w) (a w).now grow (f w)))
      (λ m. subst P (sym m.2) (loc_longer (net.rule w) (net.first w) (suc (a w).count) (inputs net a w) (inputs net b w) m.0 grow (join_loc (net.rule w) (net.first w) (a w).count (inputs net a w) (a w).now m.0 (f w) m.1)))
      (steps w)

  pub turns_are_runs : (nodes : ℕ → Node A V) (m : ℕ) → IsRun net nodes → IsRun net (turns net gate nodes m)
  unfolding IsRun
  turns_are_runs nodes zero f = f
  turns_are_runs nodes (suc m) f = step_is_run (turns net gate nodes m) (turns net gate nodes (suc m)) (turns_are_runs nodes m f) (turns_step nodes m)

  pub rounds_are_runs : (n : ℕ) → IsRun net (rounds net gate n)
  unfolding IsRun
  rounds_are_runs zero w = refl
  rounds_are_runs (suc n) w = turns_are_runs (rounds net gate n) net.workers (rounds_are_runs n) w

  pub run_at : (n w : ℕ) → loc (net.rule w) (net.first w) (rounds net gate n w).count (inputs net (rounds net gate n) w) ≡ Some (rounds net gate n w).now
  unfolding IsRun
  run_at n w = rounds_are_runs n w

  one_place_up : (m n w : ℕ) → m ≤ n → (rounds net gate m w).count ≡ (rounds net gate n w).count → (rounds net gate m w).now ≡ (rounds net gate n w).now
  one_place_up m n w le e =
      let grow = inputs_grow net (rounds net gate m) (rounds net gate n) (λ v. rounds_grow m n v le) w in
      let there = loc_longer (net.rule w) (net.first w) (rounds net gate m w).count (inputs net (rounds net gate m) w) (inputs net (rounds net gate n) w) (rounds net gate m w).now grow (run_at m w) in
      let same = subst (λ (k : ℕ). loc (net.rule w) (net.first w) k (inputs net (rounds net gate n) w) ≡ Some (rounds net gate m w).now) e there in
      same_Some (rounds net gate m w).now (rounds net gate n w).now (sym same ∙ run_at n w)

  -- as many moves, the same place
  pub one_place : (m n w : ℕ) → (rounds net gate m w).count ≡ (rounds net gate n w).count → (rounds net gate m w).now ≡ (rounds net gate n w).now
  one_place m n w e = ⊎_elim (λ lt. let le : m ≤ n = omega arith in one_place_up m n w le e) (λ le. sym (one_place_up n m w le (sym e))) (cases_lt m n)

  pub a_reference_grows : RoundsGrow net gate
  a_reference_grows = record {
    one_move = λ n m w. turns_step (rounds net gate n) m w;
    one_turn = λ n w. once_in_round (rounds net gate n) net.workers w;
    counts = λ m n w le. (rounds_grow m n w le).count;
    lists = λ m n w le. only_grows (rounds net gate m w).now (rounds net gate n w).now (rounds_grow m n w le).later;
    one_place = one_place;
    local_run = λ n w. run_at n w;
  }

  -- a round in which no count rises changes nothing
  pub turns_unchanged : (nodes : ℕ → Node A V) → ((w : ℕ) → w < net.workers → (turns net gate nodes net.workers w).count ≡ (nodes w).count)
      → (m : ℕ) → m ≤ net.workers → (w : ℕ) → turns net gate nodes m w ≡ nodes w
  turns_unchanged nodes same zero le w = refl
  turns_unchanged nodes same (suc m) le w =
      let before : (v : ℕ) → turns net gate nodes m v ≡ nodes v = turns_unchanged nodes same m (omega arith) in
      ⊎_elim
      (λ e. let c : (turns net gate nodes m w).count ≡ (nodes w).count = ap (λ (n : Node A V). n.count) (before w) in
      let up : (turns net gate nodes (suc m) w).count ≤ (turns net gate nodes net.workers w).count = (turns_grow nodes (suc m) net.workers w le).count in
      let s : (turns net gate nodes net.workers w).count ≡ (nodes w).count = same w (omega arith) in
      step_none (net.rule w) (inputs net (turns net gate nodes m) w) (turns net gate nodes m w) (turns net gate nodes (suc m) w) (turns_step nodes m w) (omega arith) ∙ before w)
      (λ ne. turns_other nodes m w ne ∙ before w)
      (cases_eq w m)

  stop_holds : (n : ℕ) → StopsAt net gate n → rounds net gate (suc n) ≡ rounds net gate n
  stop_holds n stop = fun_ext (turns_unchanged (rounds net gate n) stop net.workers (omega arith))

  stop_stays_by : (d m : ℕ) → StopsAt net gate m → rounds net gate (d + m) ≡ rounds net gate m
  stop_stays_by zero m stop = let e : 0 + m ≡ m = omega arith in ap (rounds net gate) e
  stop_stays_by (suc d) m stop =
      let e : suc d + m ≡ suc (d + m) = omega arith in
      let again : rounds net gate (suc (d + m)) ≡ rounds net gate (suc m) = ap (λ (nodes : ℕ → Node A V). turns net gate nodes net.workers) (stop_stays_by d m stop) in
      ap (rounds net gate) e ∙ (again ∙ stop_holds m stop)

  pub stop_stays : (m n : ℕ) → m ≤ n → StopsAt net gate m → rounds net gate n ≡ rounds net gate m
  stop_stays m n h stop = let e : n ≡ (n - m) + m = omega arith in ap (rounds net gate) e ∙ stop_stays_by (n - m) m stop

  one_stop : (m n : ℕ) → StopsAt net gate m → StopsAt net gate n → rounds net gate m ≡ rounds net gate n
  one_stop m n sm sn = ⊎_elim (λ lt. let le : m ≤ n = omega arith in sym (stop_stays m n le sm)) (λ le. stop_stays n m le sn) (cases_lt m n)

  -- no worker passes its budget
  pub turns_in_budget : (nodes : ℕ → Node A V) (m : ℕ) → ((w : ℕ) → (nodes w).count ≤ (net.rule w).budget) → (w : ℕ) → (turns net gate nodes m w).count ≤ (net.rule w).budget
  turns_in_budget nodes zero h w = h w
  turns_in_budget nodes (suc m) h w =
      let before = turns_in_budget nodes m h w in
      let once = step_once (net.rule w) (inputs net (turns net gate nodes m) w) (turns net gate nodes m w) (turns net gate nodes (suc m) w) (turns_step nodes m w) in
      ⊎_elim
      (λ e. ⊎_elim
      (λ rose.
      let P : ℕ → Type 0 = λ v. (turns net gate nodes m v).count < (turns net gate nodes (suc m) v).count in
      let rose' : (turns net gate nodes m m).count < (turns net gate nodes (suc m) m).count = subst P e rose in
      let c : (turns net gate nodes (suc m) m).count ≡ (turn net gate (turns net gate nodes m) m).count = ap (λ (n : Node A V). n.count) (turns_here nodes m) in
      let a = turn_allowed (turns net gate nodes m) m (omega arith) in
      let below : (turns net gate nodes m w).count < (net.rule w).budget = subst (λ (v : ℕ). (turns net gate nodes m v).count < (net.rule v).budget) (sym e) a.0 in
      omega arith)
      (λ not. omega arith)
      (cases_lt (turns net gate nodes m w).count (turns net gate nodes (suc m) w).count))
      (λ ne. let c : (turns net gate nodes (suc m) w).count ≡ (turns net gate nodes m w).count = ap (λ (n : Node A V). n.count) (turns_other nodes m w ne) in omega arith)
      (cases_eq w m)

  pub in_budget : (n w : ℕ) → (rounds net gate n w).count ≤ (net.rule w).budget
  in_budget zero w = omega arith
  in_budget (suc n) w = turns_in_budget (rounds net gate n) net.workers (in_budget n) w

  counts_at : ℕ → ℕ → ℕ
  counts_at n w = (rounds net gate n w).count

  -- each round moves somebody, or there was a stop
  stop_or_moves : (n : ℕ) → (n ≤ total net.workers (counts_at n)) ⊎ ((m : ℕ) × (m < n) × StopsAt net gate m)
  unfolding counts_at
  stop_or_moves zero = inl (omega arith)
  stop_or_moves (suc n) =
      ⊎_elim
      (λ le. ⊎_elim
      (λ same. inr (n, omega arith, same))
      (λ v. let t = total_lt net.workers (counts_at n) (counts_at (suc n)) (λ w lt. (round_grows n w).count) v.0 v.1 v.2 in inl (omega arith))
      (same_or_rises net.workers (counts_at n) (counts_at (suc n)) (λ w lt. (round_grows n w).count)))
      (λ s. let lt : s.0 < n = s.1 in inr (s.0, omega arith, s.2))
      (stop_or_moves n)

  some_stop : (n : ℕ) × (n ≤ total net.workers (λ w. (net.rule w).budget)) × StopsAt net gate n
  unfolding counts_at
  some_stop =
      let b = total net.workers (λ w. (net.rule w).budget) in
      ⊎_elim
      (λ le. let t = total_le net.workers (counts_at (suc b)) (λ w. (net.rule w).budget) (λ w lt. in_budget (suc b) w) in absurd (omega arith))
      (λ s. let lt : s.0 < suc b = s.1 in (s.0, omega arith, s.2))
      (stop_or_moves (suc b))

  -- a worker that has ended makes no turn
  turns_ended : (nodes : ℕ → Node A V) (w : ℕ) → may_move (net.rule w) (nodes w).now.state ≡ false → (m : ℕ) → turns net gate nodes m w ≡ nodes w
  turns_ended nodes w over zero = refl
  turns_ended nodes w over (suc m) =
      let before = turns_ended nodes w over m in
      ⊎_elim
      (λ e. e ∙ before)
      (λ g. let p = move_parts (net.rule w) (inputs net (turns net gate nodes m) w) (turns net gate nodes m w).now g.0 g.1 in
      absurd (false≢true (sym over ∙ (ap (λ (n : Node A V). may_move (net.rule w) n.now.state) (sym before) ∙ p.1))))
      (turns_step nodes m w)

  ended_stays_by : (d m w : ℕ) → may_move (net.rule w) (rounds net gate m w).now.state ≡ false → rounds net gate (d + m) w ≡ rounds net gate m w
  ended_stays_by zero m w over = let e : 0 + m ≡ m = omega arith in ap (λ (j : ℕ). rounds net gate j w) e
  ended_stays_by (suc d) m w over =
      let e : suc d + m ≡ suc (d + m) = omega arith in
      let before = ended_stays_by d m w over in
      let still = ap (λ (n : Node A V). may_move (net.rule w) n.now.state) before ∙ over in
      ap (λ (j : ℕ). rounds net gate j w) e ∙ (turns_ended (rounds net gate (d + m)) w still net.workers ∙ before)

  pub has_one_stop : HasOneStop net gate
  has_one_stop = record {
    stays = stop_stays;
    one = one_stop;
    some = some_stop;
    ended = λ m n w le over. let e : n ≡ (n - m) + m = omega arith in ap (λ (j : ℕ). rounds net gate j w) e ∙ ended_stays_by (n - m) m w over;
  }
