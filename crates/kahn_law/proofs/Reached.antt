-- The reference reaches each causal set of local runs.
use Rattle.std.proofs.Common.{◌≡◌, ℕ, zero, suc, ◌+◌, ◌-◌, ◌<◌, ◌≤◌, min, List, [], ◌∷◌, ◌++◌, length, Some, None, refl, sym, ap, ◌∙◌, subst, inl, inr, ⊎_elim, arith}
use Rattle.std.specs.Prelude.{slice_get, ◌⊎◌}
use Rattle.std.proofs.lemmas.Bool.{cases_lt}
use Rattle.std.proofs.lemmas.List.{length-map, length-append}
use Rattle.std.proofs.lemmas.Option.{none-some, same_Some, slice_get-map}
use Rattle.std.specs.Option.{option_map}
use Rattle.kahn_law.specs.Worker.{Local, moved, move, loc}
use Rattle.kahn_law.specs.Network.{Node, Net, IsWired, history, inputs, turns, Gate, rounds, open_gate, ref}
use Rattle.kahn_law.specs.Causal.{Item, values, stamp_all, Kept, kept_history, kept_inputs, IsCausal, total, all_moves, IsAtRound, PrefixFacts}
use Rattle.kahn_law.specs.Laws.{Agree}
use Rattle.kahn_law.proofs.Lists.{IsWithin, within_append, within_of_prefix, prefix_of_within, item_at, mapped_item, within_map, item_of_back, within_behind, agree_behind}
use Rattle.kahn_law.proofs.Runs.{AllAgree, heads_or_lacks, IsLater, move_parts, join_move, loc_parts, join_loc, loc_agree, loc_up_to, runs_agree}
use Rattle.kahn_law.proofs.Rounds.{turns_step, moves_in_round, round_grows, count_met, IsRun, turns_are_runs}
use Rattle.kahn_law.proofs.Sums.{total_lt}

module _ {V : Type 0} where
  pub values_stamped : (c : ℕ) (vs : List V) → values (stamp_all c vs) ≡ vs
  values_stamped c [] = refl
  values_stamped c (v ∷ vs) = ap (λ ws. v ∷ ws) (values_stamped c vs)

  -- the values of a history with stamps
  pub values_behind : (vs : List V) (xs : List (Item V)) → values (stamp_all 0 vs ++ xs) ≡ vs ++ values xs
  values_behind [] xs = refl
  values_behind (v ∷ vs) xs = ap (λ ws. v ∷ ws) (values_behind vs xs)

  pub length_values : (xs : List (Item V)) → length (values xs) ≡ length xs
  length_values xs = length-map xs (λ (x : Item V). x.value)

  pub within_values : (xs ys : List (Item V)) → IsWithin xs ys → IsWithin (values xs) (values ys)
  within_values xs ys h = within_map (λ (x : Item V). x.value) xs ys h

module _ {A V : Type 0} (net : Net A V) (wired : IsWired net) (kept : ℕ → Kept A V) (causal : IsCausal net kept) where
  -- the values that a worker consumed
  abbrev pub given : ℕ → ℕ → List V
  given w port = values ((kept w).consumed port)

  -- the nodes are local runs on the histories, and their pushed lists agree with what is kept
  pub record Follows (nodes : ℕ → Node A V) : Type 0 where
    pub run : (w : ℕ) → loc (net.rule w) (net.first w) (nodes w).count (inputs net nodes w) ≡ Some (nodes w).now
    pub agrees : (w out : ℕ) → w < net.workers → Agree ((nodes w).now.pushed out) (values ((kept w).sent out))

  -- what a worker consumed stands at its place in the history of the queue, with its stamp
  consumed_stands : (w port : ℕ) → w < net.workers → IsWithin ((kept w).consumed port) (kept_inputs net kept w port)
  consumed_stands w port lt i x e =
      within_of_prefix ((kept w).consumed port ++ (kept w).held port) (kept_inputs net kept w port) (causal.taken w port lt) i x (within_append ((kept w).consumed port) ((kept w).held port) i x e)

  -- and so does its value
  given_stands : (w port : ℕ) → w < net.workers → IsWithin (given w port) (net.starting (net.feeder w port).worker (net.feeder w port).port ++ values ((kept (net.feeder w port).worker).sent (net.feeder w port).port))
  given_stands w port lt =
      let f = net.feeder w port in
      subst (IsWithin (given w port)) (values_behind (net.starting f.worker f.port) ((kept f.worker).sent f.port)) (within_values ((kept w).consumed port) (kept_inputs net kept w port) (consumed_stands w port lt))

  pub inputs_agree : (nodes : ℕ → Node A V) → Follows nodes → (w : ℕ) → w < net.workers → AllAgree (inputs net nodes w) (given w)
  inputs_agree nodes f w lt port i x y ex ey =
      let e = net.feeder w port in
      agree_behind (net.starting e.worker e.port) ((nodes e.worker).now.pushed e.port) (values ((kept e.worker).sent e.port)) (f.agrees e.worker e.port (wired.feeders w port lt)) i x y ex (given_stands w port lt i y ey)

  -- two runs, one of them the kept one, have pushed lists that agree
  kept_agrees : (ins : ℕ → List V) (k w : ℕ) (lt : w < net.workers) (l : Local A V) → AllAgree ins (given w) → loc (net.rule w) (net.first w) k ins ≡ Some l → (out : ℕ) → Agree (l.pushed out) (values ((kept w).sent out))
  kept_agrees ins k w lt l g e out =
      let r = causal.local_run w lt in
      subst (Agree (l.pushed out)) (r.pushed out) (runs_agree (net.rule w) (net.first w) k (kept w).count ins (given w) l r.now g e r.run out)

  -- one more turn
  follows_step : (gate : Gate A V) (nodes : ℕ → Node A V) (m : ℕ) → Follows (turns net gate nodes m) → IsRun net (turns net gate nodes (suc m)) → Follows (turns net gate nodes (suc m))
  unfolding IsRun
  follows_step gate nodes m f run =
      let a = turns net gate nodes m in
      let b = turns net gate nodes (suc m) in
      record {
        run = run;
        agrees = λ w out lt.
            let P : Node A V → Type 0 = λ n. Agree (n.now.pushed out) (values ((kept w).sent out)) in
            ⊎_elim
            (λ e. subst P (sym e) (f.agrees w out lt))
            (λ m. subst P (sym m.2) (kept_agrees (inputs net a w) (suc (a w).count) w lt m.0 (inputs_agree a f w lt)
            (join_loc (net.rule w) (net.first w) (a w).count (inputs net a w) (a w).now m.0 (f.run w) m.1) out))
            (turns_step net gate nodes m w);
      }

  pub follows_turns : (gate : Gate A V) (nodes : ℕ → Node A V) (m : ℕ) → Follows nodes → Follows (turns net gate nodes m)
  unfolding IsRun
  follows_turns gate nodes zero f = f
  follows_turns gate nodes (suc m) f = follows_step gate nodes m (follows_turns gate nodes m f) (turns_are_runs net gate nodes (suc m) f.run)

  pub follows_rounds : (gate : Gate A V) (n : ℕ) → Follows (rounds net gate n)
  follows_rounds gate zero = record { run = λ w. refl; agrees = λ w out lt i x y ex ey. absurd (none-some x ex) }
  follows_rounds gate (suc n) = follows_turns gate (rounds net gate n) net.workers (follows_rounds gate n)

  -- a node that is not ahead is where the kept run was after as many moves
  pub run_there : (nodes : ℕ → Node A V) → Follows nodes → (w : ℕ) → w < net.workers → (nodes w).count ≤ (kept w).count
      → loc (net.rule w) (net.first w) (nodes w).count (given w) ≡ Some (nodes w).now
  run_there nodes f w lt h =
      let q = loc_up_to (net.rule w) (net.first w) (nodes w).count (kept w).count (given w) (causal.local_run w lt).now h (causal.local_run w lt).run in
      q.1 ∙ ap Some (sym (loc_agree (net.rule w) (net.first w) (nodes w).count (inputs net nodes w) (given w) (nodes w).now q.0 (inputs_agree nodes f w lt) (f.run w) q.1))

  -- what a node that is not behind pushed begins with what is kept
  pub sent_within : (nodes : ℕ → Node A V) → Follows nodes → (w : ℕ) → w < net.workers → (kept w).count ≤ (nodes w).count
      → (out : ℕ) → IsWithin (values ((kept w).sent out)) ((nodes w).now.pushed out)
  sent_within nodes f w lt h out =
      let r = causal.local_run w lt in
      let q = loc_up_to (net.rule w) (net.first w) (kept w).count (nodes w).count (inputs net nodes w) (nodes w).now h (f.run w) in
      let same : q.0 ≡ r.now = loc_agree (net.rule w) (net.first w) (kept w).count (inputs net nodes w) (given w) q.0 r.now (inputs_agree nodes f w lt) q.1 r.run in
      subst (λ (xs : List V). IsWithin xs ((nodes w).now.pushed out)) (r.pushed out) (subst (λ (l : Local A V). IsWithin (l.pushed out) ((nodes w).now.pushed out)) same (q.2.pushed out))

  -- the same of the whole history
  pub history_within : (nodes : ℕ → Node A V) → Follows nodes → (w : ℕ) → w < net.workers → (kept w).count ≤ (nodes w).count
      → (out : ℕ) → IsWithin (values (kept_history net kept w out)) (history net nodes w out)
  history_within nodes f w lt h out =
      subst (λ (xs : List V). IsWithin xs (history net nodes w out)) (sym (values_behind (net.starting w out) ((kept w).sent out)))
      (within_behind (net.starting w out) (values ((kept w).sent out)) ((nodes w).now.pushed out) (sent_within nodes f w lt h out))

  -- what a node that is not ahead pushed and consumed is within what is kept
  pub within_kept : (nodes : ℕ → Node A V) → Follows nodes → (w : ℕ) → w < net.workers → (nodes w).count ≤ (kept w).count
      → ((out : ℕ) → IsWithin ((nodes w).now.pushed out) (values ((kept w).sent out))) × ((port : ℕ) → (nodes w).now.consumed port ≤ length ((kept w).consumed port))
  within_kept nodes f w lt h =
      let r = causal.local_run w lt in
      let q = loc_up_to (net.rule w) (net.first w) (nodes w).count (kept w).count (given w) r.now h r.run in
      let same : q.0 ≡ (nodes w).now = same_Some q.0 (nodes w).now (sym q.1 ∙ run_there nodes f w lt h) in
      let later : IsLater (nodes w).now r.now = subst (λ (l : Local A V). IsLater l r.now) same q.2 in
      (λ out. subst (IsWithin ((nodes w).now.pushed out)) (r.pushed out) (later.pushed out), λ port. omega (arith, later.consumed port, r.consumed port))

  -- a node with as many moves is at the kept run
  pub at_kept : (nodes : ℕ → Node A V) → Follows nodes → (w : ℕ) (lt : w < net.workers) → (nodes w).count ≡ (kept w).count → (nodes w).now ≡ (causal.local_run w lt).now
  at_kept nodes f w lt e =
      let r = causal.local_run w lt in
      let h : (nodes w).count ≤ (kept w).count = omega arith in
      let there = subst (λ (k : ℕ). loc (net.rule w) (net.first w) k (given w) ≡ Some (nodes w).now) e (run_there nodes f w lt h) in
      same_Some (nodes w).now r.now (sym there ∙ r.run)

  record IsBehind (nodes : ℕ → Node A V) (w : ℕ) : Type 0 where
    in_net : w < net.workers
    behind : (nodes w).count < (kept w).count

  -- all that the worker consumes up to and with its next move has a stamp below b
  NextBelow : (ℕ → Node A V) → ℕ → ℕ → Type 0
  NextBelow nodes w b = (after : Local A V) → loc (net.rule w) (net.first w) (suc (nodes w).count) (given w) ≡ Some after
      → (port i : ℕ) (x : Item V) → i < after.consumed port → slice_get ((kept w).consumed port) i ≡ Some x → x.stamp < b

  -- the next move needs an item that is still to be pushed, by a worker that is behind and needs only earlier stamps
  record Waits (nodes : ℕ → Node A V) (w : ℕ) : Type 0 where
    on : ℕ
    is_behind : IsBehind nodes on
    stamp : ℕ
    below : NextBelow nodes on stamp
    bounded : (b : ℕ) → NextBelow nodes w b → stamp < b

  CanMove : (ℕ → Node A V) → ℕ → Type 0
  CanMove nodes w = (l : Local A V) × (move (net.rule w) (inputs net nodes w) (nodes w).now ≡ Some l)

  -- the item that a worker waits for: the node that feeds it hasn't pushed it, and is behind for that reason
  record Missing (nodes : ℕ → Node A V) (w port i : ℕ) (x : Item V) : Type 0 where
    feeder_behind : IsBehind nodes (net.feeder w port).worker
    pushed_less : length ((nodes (net.feeder w port).worker).now.pushed (net.feeder w port).port) ≤ i - length (net.starting (net.feeder w port).worker (net.feeder w port).port)
    sent_there : slice_get ((kept (net.feeder w port).worker).sent (net.feeder w port).port) (i - length (net.starting (net.feeder w port).worker (net.feeder w port).port)) ≡ Some x

  missing : (nodes : ℕ → Node A V) → Follows nodes → (w port i : ℕ) (x : Item V) → w < net.workers → slice_get ((kept w).consumed port) i ≡ Some x → slice_get (inputs net nodes w port) i ≡ None → Missing nodes w port i x
  missing nodes f w port i x lt got none =
      let e = net.feeder w port in
      let e_in = wired.feeders w port lt in
      let front = net.starting e.worker e.port in
      let pushed = (nodes e.worker).now.pushed e.port in
      let short : length (front ++ pushed) ≤ i =
      ⊎_elim (λ a. let g = item_at (front ++ pushed) i a in absurd (none-some g.0 (sym none ∙ g.1))) (λ a. a) (cases_lt i (length (front ++ pushed))) in
      let sum : length (front ++ pushed) ≡ length front + length pushed = simp length-append in
      let stands = consumed_stands w port lt i x got in
      let marked : length (stamp_all 0 front) ≡ length front = length-map front (λ v. record { value = v; stamp = 0 }) in
      let back = item_of_back (stamp_all 0 front) ((kept e.worker).sent e.port) i x (omega arith) stands in
      let value_there : slice_get (given w port) i ≡ Some x.value = slice_get-map (λ (y : Item V). y.value) ((kept w).consumed port) i ∙ ap (option_map (λ (y : Item V). y.value)) got in
      record {
        feeder_behind = record {
          in_net = e_in;
          behind = ⊎_elim (λ a. a)
              (λ a. absurd (none-some x.value (sym none ∙ within_behind front (values ((kept e.worker).sent e.port)) pushed (sent_within nodes f e.worker e_in a e.port) i x.value (given_stands w port lt i x.value value_there))))
              (cases_lt (nodes e.worker).count (kept e.worker).count);
        };
        pushed_less = omega arith;
        sent_there = subst (λ (n : ℕ). slice_get ((kept e.worker).sent e.port) (i - n) ≡ Some x) marked back;
      }

  next_move : (nodes : ℕ → Node A V) → Follows nodes → (w : ℕ) → IsBehind nodes w → CanMove nodes w ⊎ Waits nodes w
  unfolding CanMove NextBelow
  next_move nodes f w k =
      let lt = k.in_net in
      let r = net.rule w in
      let first = net.first w in
      let n = (nodes w).count in
      let less : suc n ≤ (kept w).count = omega (arith, k.behind) in
      let at_most : n ≤ (kept w).count = omega arith in
      let there = run_there nodes f w lt at_most in
      let q = loc_up_to r first (suc n) (kept w).count (given w) (causal.local_run w lt).now less (causal.local_run w lt).run in
      let p = loc_parts r first n (given w) q.0 q.1 in
      let same : p.0 ≡ (nodes w).now = same_Some p.0 (nodes w).now (sym p.1 ∙ there) in
      let next : move r (given w) (nodes w).now ≡ Some q.0 = subst (λ (l : Local A V). move r (given w) l ≡ Some q.0) same p.2 in
      let m = move_parts r (given w) (nodes w).now q.0 next in
      let at = (nodes w).now.consumed in
      ⊎_elim
      (λ u. inl (moved r (nodes w).now u.0, join_move r (inputs net nodes w) (nodes w).now u.0 m.1 u.1))
      (λ u.
      let port = u.0 in
      let v = net.feeder w port in
      let x = mapped_item (λ (y : Item V). y.value) ((kept w).consumed port) (at port) u.1 u.3 in
      let inside : at port < q.0.consumed port = subst (λ (l : Local A V). at port < l.consumed port) m.3 (omega (arith, u.2)) in
      let lack = missing nodes f w port (at port) x.0 lt x.1 u.4 in
      let v_in = lack.feeder_behind.in_net in
      let v_behind = lack.feeder_behind.behind in
      let v_most : (nodes v.worker).count ≤ (kept v.worker).count = omega arith in
      inr (record {
        on = v.worker;
        is_behind = lack.feeder_behind;
        stamp = x.0.stamp;
        below = λ after e port' i y l g. (causal.local_run v.worker v_in).stamped (nodes v.worker).count (nodes v.worker).now after v_behind (run_there nodes f v.worker v_in v_most) e v.port
            (at port - length (net.starting v.worker v.port)) x.0 lack.pushed_less lack.sent_there port' i y l g;
        bounded = λ b h. h q.0 q.1 port (at port) x.0 inside x.1;
      }))
      (heads_or_lacks (given w) (inputs net nodes w) at (r.pops (nodes w).now.state) m.0 m.2)

  -- some worker that is behind moves in the next round of the reference
  Progress : (ℕ → Node A V) → Type 0
  Progress nodes = (w : ℕ) × (w < net.workers) × ((nodes w).count < (kept w).count) × ((nodes w).count < (turns net open_gate nodes net.workers w).count)

  can_move : (nodes : ℕ → Node A V) (w : ℕ) → IsBehind nodes w → CanMove nodes w → Progress nodes
  unfolding CanMove Progress
  can_move nodes w k m =
      let b = causal.in_budget w k.in_net in
      let h = k.behind in
      (w, k.in_net, k.behind, moves_in_round net open_gate nodes w m.0 k.in_net (omega arith) (λ later. refl) m.1)

  below_more : (nodes : ℕ → Node A V) (w a b : ℕ) → a ≤ b → NextBelow nodes w a → NextBelow nodes w b
  unfolding NextBelow
  below_more nodes w a b le h after e port i x l g = omega (arith, h after e port i x l g)

  -- descent on stamps: who waits for an item with a stamp below the bound waits on a worker that needs lower ones
  progress_below : (nodes : ℕ → Node A V) → Follows nodes → (b w : ℕ) → IsBehind nodes w → NextBelow nodes w b → Progress nodes
  progress_below nodes f zero w k h =
      ⊎_elim (can_move nodes w k) (λ u. absurd (omega (arith, u.bounded 0 h))) (next_move nodes f w k)
  progress_below nodes f (suc b) w k h =
      ⊎_elim (can_move nodes w k)
      (λ u. let less : u.stamp ≤ b = omega (arith, u.bounded (suc b) h) in
      progress_below nodes f b u.on u.is_behind (below_more nodes u.on u.stamp b less u.below))
      (next_move nodes f w k)

  progress : (nodes : ℕ → Node A V) → Follows nodes → (w : ℕ) → IsBehind nodes w → Progress nodes
  progress nodes f w k =
      ⊎_elim (can_move nodes w k) (λ u. progress_below nodes f u.stamp u.on u.is_behind u.below) (next_move nodes f w k)

  -- the moves of the kept runs that the reference has done after n rounds
  done : ℕ → ℕ → ℕ
  done n w = min (ref net n w).count (kept w).count

  done_grows : (n w : ℕ) → done n w ≤ done (suc n) w
  unfolding done
  done_grows n w = let g = (round_grows net open_gate n w).count in omega arith

  -- while a worker is behind, each round did one of these moves at least
  rounds_done : (n w : ℕ) → w < net.workers → (ref net n w).count < (kept w).count → n ≤ total net.workers (done n)
  unfolding done Progress
  rounds_done zero w lt h = omega arith
  rounds_done (suc n) w lt h =
      let g = (round_grows net open_gate n w).count in
      let h' : (ref net n w).count < (kept w).count = omega arith in
      let ih = rounds_done n w lt h' in
      let p = progress (ref net n) (follows_rounds open_gate n) w (record { in_net = lt; behind = h' }) in
      let p2 = p.2 in let p3 : (ref net n p.0).count < (ref net (suc n) p.0).count = p.3 in
      let rises : done n p.0 < done (suc n) p.0 = omega arith in
      let more = total_lt net.workers (done n) (done (suc n)) (λ v l. done_grows n v) p.0 p.1 rises in
      omega arith

  -- after as many rounds as the kept runs have moves nobody is behind
  pub caught_up : (w : ℕ) → w < net.workers → (kept w).count ≤ (ref net (all_moves net kept) w).count
  unfolding done
  caught_up w lt =
      let n = all_moves net kept in
      ⊎_elim
      (λ h. let r = rounds_done n w lt h in
      let less = total_lt net.workers (done n) (λ v. (kept v).count) (λ v l. omega arith) w lt (omega arith) in absurd (omega arith))
      (λ h. h)
      (cases_lt (ref net n w).count (kept w).count)

  pub is_at_round : (w : ℕ) → w < net.workers → (m : ℕ) × (m ≤ all_moves net kept) × IsAtRound net m w (kept w)
  is_at_round w lt =
      let r = causal.local_run w lt in
      let m = count_met net open_gate w (kept w).count (all_moves net kept) (caught_up w lt) in
      let same : (ref net m.0 w).now ≡ r.now = at_kept (ref net m.0) (follows_rounds open_gate m.0) w lt m.2 in (
        m.0,
        m.1,
        record {
          count = m.2;
          state = ap (λ (l : Local A V). l.state) same ∙ r.state;
          consumed = λ port. ap (λ (l : Local A V). l.consumed port) same ∙ r.consumed port;
          pushed = λ out. ap (λ (l : Local A V). l.pushed out) same ∙ r.pushed out;
        },
      )

  pub prefix_facts : PrefixFacts net kept
  prefix_facts =
      let n = all_moves net kept in
      let whole : (w out : ℕ) → w < net.workers → IsWithin (values (kept_history net kept w out)) (history net (ref net n) w out) = λ w out lt. history_within (ref net n) (follows_rounds open_gate n) w lt (caught_up w lt) out in
      record {
        histories = λ w out lt. prefix_of_within (values (kept_history net kept w out)) (history net (ref net n) w out) (whole w out lt);
        taken = λ w port lt.
            let e = net.feeder w port in
            let xs = (kept w).consumed port ++ (kept w).held port in
            let front = within_values xs (kept_inputs net kept w port) (within_of_prefix xs (kept_inputs net kept w port) (causal.taken w port lt)) in
            prefix_of_within (values xs) (inputs net (ref net n) w port) (λ i v g. whole e.worker e.port (wired.feeders w port lt) i v (front i v g));
        states = is_at_round;
      }
