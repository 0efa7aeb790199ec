-- The strict reference keeps the capacities of its queues, and has finished where it stops.
use Rattle.std.proofs.Common.{◌≡◌, ℕ, zero, suc, ◌+◌, ◌<◌, ◌≤◌, Bool, true, false, List, [], ◌∷◌, ◌++◌, length, Option, Some, None, refl, sym, ap, ◌∙◌, subst, inl, inr, ⊎_elim, arith}
use mathlib.Core.Path.{fun_ext}
use Rattle.std.specs.Prelude.{slice_get, ◌⊎◌, ◌==◌, if◌then◌else◌, ◌&&◌, nat_lt}
use Rattle.std.specs.Option.{option_map, option_and_then}
use Rattle.std.proofs.lemmas.Bool.{cases_lt, cases_eq, eq-eqb, ltb-false}
use Rattle.std.proofs.lemmas.List.{length-append, append-nil}
use Rattle.std.proofs.lemmas.Option.{none-some}
use Rattle.kahn_law.specs.Worker.{Local, may_move, times, heads, moved, move}
use Rattle.kahn_law.specs.Network.{Node, Net, IsWired, StartsInCapacity, history, inputs, after_turn, Gate, turn, turns, rounds, has_room, room_gate, strict, StopsAt}
use Rattle.kahn_law.specs.Causal.{kept_history, IsInCapacity}
use Rattle.kahn_law.specs.Finish.{IsStopped}
use Rattle.kahn_law.specs.Clock.{clocked_rounds, kept_of}
use Rattle.kahn_law.specs.Laws.{StrictKeepsRoom}
use Rattle.kahn_law.proofs.Lists.{item_at}
use Rattle.kahn_law.proofs.Runs.{Inputs, heads_length, move_parts}
use Rattle.kahn_law.proofs.Rounds.{turn_allowed, turns_here, turns_other, turns_step, step_grows, turns_unchanged}
use Rattle.kahn_law.proofs.Reached.{values_behind, length_values}
use Rattle.kahn_law.proofs.Blocks.{room_at}
use Rattle.kahn_law.proofs.Strict.{node_without, consumed_length}

module _ {A V : Type 0} (net : Net A V) (wired : IsWired net) where
  -- each history is at most its reader's consumed items and its capacity
  unfoldable pub Fits : (ℕ → Node A V) → Type 0
  Fits nodes = (w out : ℕ) → w < net.workers → length (history net nodes w out) ≤ (nodes (net.reader w out).worker).now.consumed (net.reader w out).port + net.capacity w out

  -- a move pushes one item at most, and only to a queue that had room
  push_fits : (nodes : ℕ → Node A V) (w out : ℕ) (l : Local A V) → room_gate net nodes w ≡ true → move (net.rule w) (inputs net nodes w) (nodes w).now ≡ Some l
      → length (history net nodes w out) ≤ (nodes (net.reader w out).worker).now.consumed (net.reader w out).port + net.capacity w out
      → length (net.starting w out ++ l.pushed out) ≤ (nodes (net.reader w out).worker).now.consumed (net.reader w out).port + net.capacity w out
  push_fits nodes w out l room e fits =
      let m = move_parts (net.rule w) (inputs net nodes w) (nodes w).now l e in
      let new = (net.rule w).puts (nodes w).now.state m.0 out in
      let few = (wired.regular w).puts_named (nodes w).now.state m.0 out (heads_length (inputs net nodes w) (nodes w).now.consumed ((net.rule w).pops (nodes w).now.state) m.0 m.2) in
      let once = (wired.regular w).outs_once (nodes w).now.state out in
      let len : length (l.pushed out) ≡ length ((nodes w).now.pushed out) + length new = ap (λ (z : Local A V). length (z.pushed out)) (sym m.3) ∙ length-append ((nodes w).now.pushed out) new in
      let whole : length (net.starting w out ++ l.pushed out) ≡ length (net.starting w out) + length (l.pushed out) = length-append (net.starting w out) (l.pushed out) in
      let whole' : length (history net nodes w out) ≡ length (net.starting w out) + length ((nodes w).now.pushed out) = length-append (net.starting w out) ((nodes w).now.pushed out) in
      ⊎_elim
      (λ none. omega arith)
      (λ one. let less = room_at net nodes w ((net.rule w).outs (nodes w).now.state) room out one in omega arith)
      (cases_lt (times out ((net.rule w).outs (nodes w).now.state)) 1)

  fits_step : (nodes : ℕ → Node A V) (m : ℕ) → Fits (turns net (room_gate net) nodes m) → Fits (turns net (room_gate net) nodes (suc m))
  unfolding Fits
  fits_step nodes m fits w out lt =
      let a = turns net (room_gate net) nodes m in
      let b = turns net (room_gate net) nodes (suc m) in
      let v = net.reader w out in
      let more : (a v.worker).now.consumed v.port ≤ (b v.worker).now.consumed v.port = (step_grows (net.rule v.worker) (inputs net a v.worker) (a v.worker) (b v.worker) (turns_step net (room_gate net) nodes m v.worker)).later.consumed v.port in
      let old = fits w out lt in
      ⊎_elim
      (λ e. let len : length (history net b w out) ≡ length (history net a w out) = ap (λ (n : Node A V). length (net.starting w out ++ n.now.pushed out)) e in omega arith)
      (λ g.
      let rose : (a w).count < (b w).count = (let c : (b w).count ≡ suc (a w).count = ap (λ (n : Node A V). n.count) g.2 in omega arith) in
      let len : length (history net b w out) ≡ length (net.starting w out ++ g.0.pushed out) = ap (λ (n : Node A V). length (net.starting w out ++ n.now.pushed out)) g.2 in
      ⊎_elim
      (λ is_m.
      let P : ℕ → Type 0 = λ u. (a u).count < (b u).count in
      let rose' : (a m).count < (b m).count = subst P is_m rose in
      let c : (b m).count ≡ (turn net (room_gate net) a m).count = ap (λ (n : Node A V). n.count) (turns_here net (room_gate net) nodes m) in
      let allowed = turn_allowed net (room_gate net) a m (omega arith) in
      let room : room_gate net a w ≡ true = subst (λ (u : ℕ). room_gate net a u ≡ true) (sym is_m) allowed.1 in
      let p = push_fits a w out g.0 room g.1 old in omega arith)
      (λ ne. let c : (b w).count ≡ (a w).count = ap (λ (n : Node A V). n.count) (turns_other net (room_gate net) nodes m w ne) in absurd (omega arith))
      (cases_eq w m))
      (turns_step net (room_gate net) nodes m w)

  fits_turns : (nodes : ℕ → Node A V) (m : ℕ) → Fits nodes → Fits (turns net (room_gate net) nodes m)
  unfolding Fits
  fits_turns nodes zero fits w out lt = fits w out lt
  fits_turns nodes (suc m) fits w out lt = fits_step nodes m (fits_turns nodes m fits) w out lt

  fits_rounds : StartsInCapacity net → (n : ℕ) → Fits (strict net n)
  unfolding Fits
  fits_rounds starts zero w out lt =
      let s = starts w out in
      let len : length (net.starting w out ++ []) ≡ length (net.starting w out) = ap length (append-nil (net.starting w out)) in omega arith
  fits_rounds starts (suc n) w out lt = fits_turns (strict net n) net.workers (fits_rounds starts n) w out lt

  -- the kept histories and consumed items are as long as those of the nodes
  history_length : (gate : Gate A V) (n w out : ℕ) → length (kept_history net (kept_of net gate n) w out) ≡ length (history net (rounds net gate n) w out)
  history_length gate n w out =
      let sent = (clocked_rounds net gate n w).now.pushed out in
      sym (length_values (kept_history net (kept_of net gate n) w out))
      ∙ (ap length (values_behind (net.starting w out) sent)
      ∙ ap (λ (node : Node A V). length (net.starting w out ++ node.now.pushed out)) (node_without net gate n w))

  consumed_count : (gate : Gate A V) (n w port : ℕ) → length ((kept_of net gate n w).consumed port) ≡ (rounds net gate n w).now.consumed port
  consumed_count gate n w port = consumed_length net gate wired n w port ∙ ap (λ (node : Node A V). node.now.consumed port) (node_without net gate n w)

  strict_in_capacity : StartsInCapacity net → (n : ℕ) → IsInCapacity net (kept_of net (room_gate net) n)
  unfolding Fits
  strict_in_capacity starts n w out lt =
      let f : length (history net (strict net n) w out) ≤ (strict net n (net.reader w out).worker).now.consumed (net.reader w out).port + net.capacity w out = fits_rounds starts n w out lt in
      let h = history_length (room_gate net) n w out in
      let c = consumed_count (room_gate net) n (net.reader w out).worker (net.reader w out).port in
      omega arith

  two_cases : (b : Bool) → (b ≡ true) ⊎ (b ≡ false)
  two_cases true = inl refl
  two_cases false = inr refl

  -- a gate of room that stops a worker names a full queue
  no_room : (nodes : ℕ → Node A V) (w : ℕ) (os : List ℕ) → has_room net nodes w os ≡ false
      → (o : ℕ) × (1 ≤ times o os) × ((nodes (net.reader w o).worker).now.consumed (net.reader w o).port + net.capacity w o ≤ length (history net nodes w o))
  no_room nodes w [] e = absurd (cc)
  no_room nodes w (q ∷ os) e =
      let b = nat_lt (length (history net nodes w q)) ((nodes (net.reader w q).worker).now.consumed (net.reader w q).port + net.capacity w q) in
      let here : (q == q) ≡ true = eq-eqb q q refl in
      let once : 1 ≤ times q (q ∷ os) = rw here (omega arith) in
      ⊎_elim
      (λ t. let rest : has_room net nodes w os ≡ false = ap (λ (x : Bool). x && has_room net nodes w os) (sym t) ∙ e in
      let r = no_room nodes w os rest in
      let more : 1 ≤ times r.0 (q ∷ os) = omega (arith, r.1) in (r.0, more, r.2))
      (λ f. (q, once, ltb-false _ _ f))
      (two_cases b)

  -- heads that aren't all there lack one
  no_head : (ins : Inputs V) (at : ℕ → ℕ) (ps : List ℕ) → heads ins at ps ≡ None → (p : ℕ) × (1 ≤ times p ps) × (slice_get (ins p) (at p) ≡ None)
  no_head ins at [] e = absurd (none-some _ (sym e))
  no_head ins at (p ∷ ps) e = lacking (slice_get (ins p) (at p)) (heads ins at ps) refl refl e (λ es. no_head ins at ps es)
    where
      lacking : (o : Option V) (os : Option (List V)) → slice_get (ins p) (at p) ≡ o → heads ins at ps ≡ os → option_and_then (λ v. option_map (λ vs. v ∷ vs) os) o ≡ None
          → (heads ins at ps ≡ None → (q : ℕ) × (1 ≤ times q ps) × (slice_get (ins q) (at q) ≡ None)) → (q : ℕ) × (1 ≤ times q (p ∷ ps)) × (slice_get (ins q) (at q) ≡ None)
      lacking None os eo es e rest = let here : (p == p) ≡ true = eq-eqb p p refl in let once : 1 ≤ times p (p ∷ ps) = rw here (omega arith) in (p, once, eo)
      lacking (Some v) None eo es e rest = let r = rest es in let more : 1 ≤ times r.0 (p ∷ ps) = omega (arith, r.1) in (r.0, more, r.2)
      lacking (Some v) (Some vs) eo es e rest = absurd (none-some _ (sym e))

  no_item : (xs : List V) (i : ℕ) → slice_get xs i ≡ None → length xs ≤ i
  no_item xs i e = ⊎_elim (λ a. let g = item_at xs i a in absurd (none-some g.0 (sym e ∙ g.1))) (λ a. a) (cases_lt i (length xs))

  -- a turn that leaves its node as it was was stopped by the budget, by the gate, by an end or by a queue
  stopped_turn : (gate : Gate A V) (nodes : ℕ → Node A V) (w : ℕ) → turn net gate nodes w ≡ nodes w
      → ((net.rule w).budget ≤ (nodes w).count) ⊎ ((gate nodes w ≡ false) ⊎ ((may_move (net.rule w) (nodes w).now.state ≡ false) ⊎ (heads (inputs net nodes w) (nodes w).now.consumed ((net.rule w).pops (nodes w).now.state) ≡ None)))
  stopped_turn gate nodes w e = stopped (nat_lt (nodes w).count (net.rule w).budget) (gate nodes w) (may_move (net.rule w) (nodes w).now.state) (heads (inputs net nodes w) (nodes w).now.consumed ((net.rule w).pops (nodes w).now.state)) refl e
    where
      stopped : (a b c : Bool) (o : Option (List V)) → nat_lt (nodes w).count (net.rule w).budget ≡ a → (if a && b then after_turn (nodes w) (if c then option_map (moved (net.rule w) (nodes w).now) o else None) else nodes w) ≡ nodes w
          → ((net.rule w).budget ≤ (nodes w).count) ⊎ ((b ≡ false) ⊎ ((c ≡ false) ⊎ (o ≡ None)))
      stopped false b c o ea e = inl (ltb-false _ _ ea)
      stopped true false c o ea e = inr (inl refl)
      stopped true true false o ea e = inr (inr (inl refl))
      stopped true true true None ea e = inr (inr (inr refl))
      stopped true true true (Some vs) ea e = let c : suc (nodes w).count ≡ (nodes w).count = ap (λ (n : Node A V). n.count) e in absurd (omega arith)

  -- at a stop no worker's turn changes it
  stop_turn : (gate : Gate A V) (n : ℕ) → StopsAt net gate n → (w : ℕ) → w < net.workers → turn net gate (rounds net gate n) w ≡ rounds net gate n w
  stop_turn gate n stop w lt =
      let same : turns net gate (rounds net gate n) w ≡ rounds net gate n = fun_ext (turns_unchanged net gate (rounds net gate n) stop w (omega arith)) in
      let after : turns net gate (rounds net gate n) (suc w) w ≡ rounds net gate n w = turns_unchanged net gate (rounds net gate n) stop (suc w) (omega arith) w in
      sym (ap (λ (nodes : ℕ → Node A V). turn net gate nodes w) same) ∙ (sym (turns_here net gate (rounds net gate n) w) ∙ after)

  strict_stopped : (n : ℕ) → StopsAt net (room_gate net) n → (w : ℕ) → w < net.workers → IsStopped net (kept_of net (room_gate net) n) w
  strict_stopped n stop w lt =
      let gate = room_gate net in
      let node = strict net n w in
      let e = node_without net gate n w in
      let state : (kept_of net gate n w).state ≡ node.now.state = ap (λ (x : Node A V). x.now.state) e in
      let count : (kept_of net gate n w).count ≡ node.count = ap (λ (x : Node A V). x.count) e in
      ⊎_elim
      (λ spent. inr (inl (omega arith)))
      (⊎_elim
      (λ full.
      let o = no_room (strict net n) w ((net.rule w).outs node.now.state) full in
      let v = net.reader w o.0 in
      let h = history_length gate n w o.0 in
      let c = consumed_count gate n v.worker v.port in
      let at_most = o.2 in
      inr (inr (inr (o.0, subst (λ (s : A). 1 ≤ times o.0 ((net.rule w).outs s)) (sym state) o.1, omega arith))))
      (⊎_elim
      (λ ended. inl (ap (may_move (net.rule w)) state ∙ ended))
      (λ empty.
      let p = no_head (inputs net (strict net n) w) node.now.consumed ((net.rule w).pops node.now.state) empty in
      let v = net.feeder w p.0 in
      let short = no_item (inputs net (strict net n) w p.0) (node.now.consumed p.0) p.2 in
      let h = history_length gate n v.worker v.port in
      let c = consumed_count gate n w p.0 in
      inr (inr (inl (p.0, subst (λ (s : A). 1 ≤ times p.0 ((net.rule w).pops s)) (sym state) p.1, omega arith))))))
      (stopped_turn gate (strict net n) w (stop_turn gate n stop w lt))

  pub strict_keeps_room : (n : ℕ) → StrictKeepsRoom net n
  strict_keeps_room n = record {
    in_capacity = λ starts. strict_in_capacity starts n;
    finished = λ stop. strict_stopped n stop;
  }
