-- No false block: a finished causal set stops nowhere before the strict reference ends.
use Rattle.std.proofs.Common.{◌≡◌, ℕ, zero, suc, ◌+◌, ◌<◌, ◌≤◌, true, List, [], ◌∷◌, length, take, Some, sym, ap, ◌∙◌, subst, ⊎_elim, arith}
use Rattle.std.specs.Prelude.{slice_get, nat_lt}
use Rattle.std.proofs.lemmas.Bool.{cases_lt, cases_eq, ne_eqb, and_parts, ltb-true, false≢true}
use Rattle.std.proofs.lemmas.List.{length-map, length-append, length-take}
use Rattle.std.proofs.lemmas.Option.{same_Some, slice_get_within}
use Rattle.kahn_law.specs.Worker.{Local, may_move, is_trapped, times}
use Rattle.kahn_law.specs.Network.{Node, Net, IsWired, history, inputs, turn, turns, has_room, room_gate, strict}
use Rattle.kahn_law.specs.Causal.{values, stamp_all, Kept, kept_history, IsCausal}
use Rattle.kahn_law.specs.Finish.{IsFinished, IsOver, EndsAsStrict}
use Rattle.kahn_law.specs.Laws.{Agree}
use Rattle.kahn_law.proofs.Lists.{item_at, within_behind, item_of_take, same_of_within}
use Rattle.kahn_law.proofs.Runs.{head_at, move_parts, loc_parts, loc_up_to, consumed_there}
use Rattle.kahn_law.proofs.Rounds.{step_once, turn_step, turn_allowed, turns_here, turns_other}
use Rattle.kahn_law.proofs.Reached.{length_values, values_behind, Follows, follows_turns, follows_rounds, run_there, within_kept, at_kept, inputs_agree, given}

module _ {A V : Type 0} (net : Net A V) where
  -- a gate of room that lets a worker pass says so of each of its output ports
  pub room_at : (nodes : ℕ → Node A V) (w : ℕ) (os : List ℕ) → has_room net nodes w os ≡ true → (o : ℕ) → 1 ≤ times o os
      → length (history net nodes w o) < (nodes (net.reader w o).worker).now.consumed (net.reader w o).port + net.capacity w o
  room_at nodes w [] e o h = absurd (omega arith)
  room_at nodes w (q ∷ os) e o h =
      let p = and_parts (nat_lt (length (history net nodes w q)) ((nodes (net.reader w q).worker).now.consumed (net.reader w q).port + net.capacity w q)) (has_room net nodes w os) e in
      ⊎_elim
      (λ same. subst (λ (x : ℕ). length (history net nodes w x) < (nodes (net.reader w x).worker).now.consumed (net.reader w x).port + net.capacity w x) (sym same) (ltb-true _ _ p.0))
      (λ ne. let b = ne_eqb o q ne in let h' = rw b at h in let more : 1 ≤ times o os = omega arith in room_at nodes w os p.1 o more)
      (cases_eq o q)

module _ {A V : Type 0} (net : Net A V) (wired : IsWired net) (kept : ℕ → Kept A V) (causal : IsCausal net kept) (finished : IsFinished net kept) where
  NotAhead : (ℕ → Node A V) → Type 0
  NotAhead nodes = (v : ℕ) → v < net.workers → (nodes v).count ≤ (kept v).count

  -- of a node that is not ahead the history is no longer than the kept one
  history_shorter : (nodes : ℕ → Node A V) → Follows net wired kept causal nodes → (w : ℕ) → w < net.workers → (nodes w).count ≤ (kept w).count → (out i : ℕ) (x : V) → slice_get (history net nodes w out) i ≡ Some x → i < length (kept_history net kept w out)
  history_shorter nodes f w lt le out i x e =
      let there = within_behind (net.starting w out) ((nodes w).now.pushed out) (values ((kept w).sent out)) ((within_kept net wired kept causal nodes f w lt le).0 out) i x e in
      let whole : slice_get (values (kept_history net kept w out)) i ≡ Some x = subst (λ (xs : List V). slice_get xs i ≡ Some x) (sym (values_behind (net.starting w out) ((kept w).sent out))) there in
      let below = slice_get_within (values (kept_history net kept w out)) i x whole in
      let n = length_values (kept_history net kept w out) in omega arith

  -- a worker that is stopped where it is kept doesn't pass that place
  stays : (nodes : ℕ → Node A V) → Follows net wired kept causal nodes → NotAhead nodes → (w : ℕ) (lt : w < net.workers) → (nodes w).count ≡ (kept w).count → (nodes w).count < (turn net (room_gate net) nodes w).count → ⊥
  unfolding NotAhead
  stays nodes f most w lt e h =
      let r = causal.local_run w lt in
      let a = turn_allowed net (room_gate net) nodes w h in
      let m = move_parts (net.rule w) (inputs net nodes w) (nodes w).now a.2 a.3 in
      let same = at_kept net wired kept causal nodes f w lt e in
      let state : (nodes w).now.state ≡ (kept w).state = ap (λ (l : Local A V). l.state) same ∙ r.state in
      ⊎_elim
      (λ no. false≢true (sym no ∙ (ap (may_move (net.rule w)) (sym state) ∙ m.1)))
      (⊎_elim
      (λ spent. let b = a.0 in omega arith)
      (⊎_elim
      (λ empty.
      let once : 1 ≤ times empty.0 ((net.rule w).pops (nodes w).now.state) = subst (λ (s : A). 1 ≤ times empty.0 ((net.rule w).pops s)) (sym state) empty.1 in
      let x = head_at (inputs net nodes w) (nodes w).now.consumed ((net.rule w).pops (nodes w).now.state) m.0 m.2 empty.0 once in
      let v = net.feeder w empty.0 in
      let v_in = wired.feeders w empty.0 lt in
      let below = history_shorter nodes f v.worker v_in (most v.worker v_in) v.port ((nodes w).now.consumed empty.0) x.0 x.1 in
      let at : (nodes w).now.consumed empty.0 ≡ length ((kept w).consumed empty.0) = ap (λ (l : Local A V). l.consumed empty.0) same ∙ r.consumed empty.0 in
      omega (arith, empty.2))
      (λ full.
      let once : 1 ≤ times full.0 ((net.rule w).outs (nodes w).now.state) = subst (λ (s : A). 1 ≤ times full.0 ((net.rule w).outs s)) (sym state) full.1 in
      let less = room_at net nodes w ((net.rule w).outs (nodes w).now.state) a.1 full.0 once in
      let v = net.reader w full.0 in
      let v_in = wired.readers w full.0 lt in
      let most_consumed = (within_kept net wired kept causal nodes f v.worker v_in (most v.worker v_in)).1 v.port in
      let n = length_values ((kept w).sent full.0) in
      let marked : length (stamp_all 0 (net.starting w full.0)) ≡ length (net.starting w full.0) = length-map (net.starting w full.0) (λ u. record { value = u; stamp = 0 }) in
      let whole : length (kept_history net kept w full.0) ≡ length (stamp_all 0 (net.starting w full.0)) + length ((kept w).sent full.0) = simp length-append in
      let whole' : length (history net nodes w full.0) ≡ length (net.starting w full.0) + length ((nodes w).now.pushed full.0) = simp length-append in
      let at : length ((nodes w).now.pushed full.0) ≡ length (values ((kept w).sent full.0)) = ap (λ (l : Local A V). length (l.pushed full.0)) same ∙ ap length (r.pushed full.0) in
      omega (arith, full.2))))
      (finished w lt)

  not_ahead_turn : (nodes : ℕ → Node A V) → Follows net wired kept causal nodes → NotAhead nodes → (w : ℕ) (lt : w < net.workers) → (turn net (room_gate net) nodes w).count ≤ (kept w).count
  unfolding NotAhead
  not_ahead_turn nodes f most w lt =
      let once = step_once (net.rule w) (inputs net nodes w) (nodes w) (turn net (room_gate net) nodes w) (turn_step net (room_gate net) nodes w) in
      let le = most w lt in
      ⊎_elim
      (λ less. omega arith)
      (λ ge. let e : (nodes w).count ≡ (kept w).count = omega arith in
      ⊎_elim (λ h. absurd (stays nodes f most w lt e h)) (λ h. omega arith) (cases_lt (nodes w).count (turn net (room_gate net) nodes w).count))
      (cases_lt (nodes w).count (kept w).count)

  not_ahead_turns : (nodes : ℕ → Node A V) (m : ℕ) → Follows net wired kept causal nodes → NotAhead nodes → m ≤ net.workers → NotAhead (turns net (room_gate net) nodes m)
  unfolding NotAhead
  not_ahead_turns nodes zero f most le v lt = most v lt
  not_ahead_turns nodes (suc m) f most le v lt =
      let le' : m ≤ net.workers = omega arith in
      let before = not_ahead_turns nodes m f most le' in
      let P : Node A V → Type 0 = λ n. n.count ≤ (kept v).count in
      ⊎_elim
      (λ e. let m_in : m < net.workers = omega arith in
      let here : (turns net (room_gate net) nodes (suc m) m).count ≤ (kept m).count = subst (λ (n : Node A V). n.count ≤ (kept m).count) (sym (turns_here net (room_gate net) nodes m)) (not_ahead_turn (turns net (room_gate net) nodes m) (follows_turns net wired kept causal (room_gate net) nodes m f) before m m_in) in
      subst (λ (x : ℕ). (turns net (room_gate net) nodes (suc m) x).count ≤ (kept x).count) (sym e) here)
      (λ ne. subst P (sym (turns_other net (room_gate net) nodes m v ne)) (before v lt))
      (cases_eq v m)

  not_ahead : (n : ℕ) → NotAhead (strict net n)
  unfolding NotAhead
  not_ahead zero v lt = omega arith
  not_ahead (suc n) v lt = not_ahead_turns (strict net n) net.workers (follows_rounds net wired kept causal (room_gate net) n) (not_ahead n) (omega arith) v lt

  never_ahead : (n w : ℕ) → w < net.workers → (strict net n w).count ≤ (kept w).count
  unfolding NotAhead
  never_ahead n w lt = not_ahead n w lt

  -- a worker that is over in the strict reference has moved as often
  same_count : (n w : ℕ) → w < net.workers → IsOver net n w → (strict net n w).count ≡ (kept w).count
  same_count n w lt over =
      let f = follows_rounds net wired kept causal (room_gate net) n in
      let r = causal.local_run w lt in
      let le = never_ahead n w lt in
      let budget = causal.in_budget w lt in
      ⊎_elim
      (λ less.
      let q = loc_up_to (net.rule w) (net.first w) (suc (strict net n w).count) (kept w).count (given net wired kept causal w) r.now less r.run in
      let p = loc_parts (net.rule w) (net.first w) (strict net n w).count (given net wired kept causal w) q.0 q.1 in
      let there = run_there net wired kept causal (strict net n) f w lt le in
      let same : p.0 ≡ (strict net n w).now = same_Some p.0 (strict net n w).now (sym p.1 ∙ there) in
      let m = move_parts (net.rule w) (given net wired kept causal w) p.0 q.0 p.2 in
      ⊎_elim
      (λ ended. absurd (false≢true (sym ended ∙ (ap (λ (l : Local A V). may_move (net.rule w) l.state) (sym same) ∙ m.1))))
      (λ spent. absurd (omega arith))
      over)
      (λ ge. omega arith)
      (cases_lt (strict net n w).count (kept w).count)

  -- two lists that agree, of which one is as long as a front of the other
  front_of_agree : (xs ys : List V) (n : ℕ) → Agree ys xs → length xs ≡ n → n ≤ length ys → xs ≡ take n ys
  front_of_agree xs ys n agree len le =
      let k : length (take n ys) ≡ n = length-take n ys ∙ (omega arith) in
      same_of_within xs (take n ys) (omega arith) (λ i x e.
      let below = slice_get_within xs i x e in
      let g = item_at ys i (omega arith) in
      let same : g.0 ≡ x = agree i g.0 x g.1 e in
      item_of_take n ys i x (omega arith) (g.1 ∙ ap Some same))

  pub ends_as_strict : EndsAsStrict net kept
  ends_as_strict = record {
    reached = never_ahead;
    over = λ n w lt over.
        let f = follows_rounds net wired kept causal (room_gate net) n in
        let r = causal.local_run w lt in
        let c = same_count n w lt over in
        let same = at_kept net wired kept causal (strict net n) f w lt c in
        record {
          count = sym c;
          state = sym (ap (λ (l : Local A V). l.state) same ∙ r.state);
          trapped = ap (is_trapped (net.rule w)) (sym (ap (λ (l : Local A V). l.state) same ∙ r.state));
          pushed = λ out. sym (ap (λ (l : Local A V). l.pushed out) same ∙ r.pushed out);
          consumed = λ port.
              let e : (strict net n w).now.consumed port ≡ length ((kept w).consumed port) = ap (λ (l : Local A V). l.consumed port) same ∙ r.consumed port in
              let k = length_values ((kept w).consumed port) in
              let there = consumed_there (net.rule w) (net.first w) (wired.regular w) (strict net n w).count (inputs net (strict net n) w) (strict net n w).now (f.run w) port in
              front_of_agree (values ((kept w).consumed port)) (inputs net (strict net n) w port) ((strict net n w).now.consumed port) (inputs_agree net wired kept causal (strict net n) f w lt port) (omega arith) there;
        };
  }
