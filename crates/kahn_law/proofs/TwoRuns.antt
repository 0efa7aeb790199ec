-- Two causal sets of one network agree.
use Rattle.std.proofs.Common.{◌≡◌, ℕ, ◌<◌, ◌≤◌, max, List, ◌++◌, length, sym, ap, ◌∙◌, arith}
use Rattle.std.proofs.lemmas.Option.{same_Some}
use Rattle.kahn_law.specs.Worker.{Local}
use Rattle.kahn_law.specs.Network.{Net, IsWired, history, open_gate, ref}
use Rattle.kahn_law.specs.Causal.{values, Kept, kept_history, kept_inputs, IsCausal, all_moves}
use Rattle.kahn_law.specs.Laws.{Agree, RunsAgree}
use Rattle.kahn_law.proofs.Lists.{IsWithin, within_append, within_of_prefix, within_behind, within_of_agree, same_of_within}
use Rattle.kahn_law.proofs.Rounds.{rounds_grow, one_place}
use Rattle.kahn_law.proofs.Reached.{length_values, within_values, prefix_facts}

module _ {A V : Type 0} (net : Net A V) where
  -- what the reference's history had after fewer rounds it has after more
  histories_grow : (m n w out : ℕ) → m ≤ n → IsWithin (history net (ref net m) w out) (history net (ref net n) w out)
  histories_grow m n w out le = within_behind (net.starting w out) ((ref net m w).now.pushed out) ((ref net n w).now.pushed out) ((rounds_grow net open_gate m n w le).later.pushed out)

  -- two lists within one agree
  agree_within : (xs ys zs : List V) → IsWithin xs zs → IsWithin ys zs → Agree xs ys
  agree_within xs ys zs f g i x y ex ey = same_Some x y (sym (f i x ex) ∙ g i y ey)

  module _ (wired : IsWired net) (one other : ℕ → Kept A V) (a : IsCausal net one) (b : IsCausal net other) where
    agree_at : (w out : ℕ) → w < net.workers → Agree (values (kept_history net one w out)) (values (kept_history net other w out))
    agree_at w out lt =
        let m = all_moves net one in
        let n = all_moves net other in
        let f = within_of_prefix (values (kept_history net one w out)) (history net (ref net m) w out) ((prefix_facts net wired one a).histories w out lt) in
        let g = within_of_prefix (values (kept_history net other w out)) (history net (ref net n) w out) ((prefix_facts net wired other b).histories w out lt) in
        let front : m ≤ max m n = omega arith in
        let back : n ≤ max m n = omega arith in
        agree_within (values (kept_history net one w out)) (values (kept_history net other w out)) (history net (ref net (max m n)) w out)
        (λ i x e. histories_grow m (max m n) w out front i x (f i x e))
        (λ i x e. histories_grow n (max m n) w out back i x (g i x e))

    same_place : (w : ℕ) (lt : w < net.workers) → (one w).count ≡ (other w).count
        → (ref net ((prefix_facts net wired one a).states w lt).0 w).now ≡ (ref net ((prefix_facts net wired other b).states w lt).0 w).now
    same_place w lt e =
        let s = (prefix_facts net wired one a).states w lt in
        let t = (prefix_facts net wired other b).states w lt in
        one_place net open_gate s.0 t.0 w (s.2.count ∙ (e ∙ sym t.2.count))

    consumed_within : (kept : ℕ → Kept A V) (c : IsCausal net kept) (w port : ℕ) → w < net.workers → IsWithin (values ((kept w).consumed port)) (values (kept_inputs net kept w port))
    consumed_within kept c w port lt =
        within_values ((kept w).consumed port) (kept_inputs net kept w port)
        (λ i x e. within_of_prefix ((kept w).consumed port ++ (kept w).held port) (kept_inputs net kept w port) (c.taken w port lt) i x (within_append ((kept w).consumed port) ((kept w).held port) i x e))

    pub runs_agree : RunsAgree net one other
    runs_agree = record {
      histories = agree_at;
      states = λ w lt e.
          let s = (prefix_facts net wired one a).states w lt in
          let t = (prefix_facts net wired other b).states w lt in
          sym s.2.state ∙ (ap (λ (l : Local A V). l.state) (same_place w lt e) ∙ t.2.state);
      consumed = λ w port lt e.
          let s = (prefix_facts net wired one a).states w lt in
          let t = (prefix_facts net wired other b).states w lt in
          let xs = values ((one w).consumed port) in
          let ys = values ((other w).consumed port) in
          let len : length ((one w).consumed port) ≡ length ((other w).consumed port) = sym (s.2.consumed port) ∙ (ap (λ (l : Local A V). l.consumed port) (same_place w lt e) ∙ t.2.consumed port) in
          let len' : length xs ≡ length ys = length_values ((one w).consumed port) ∙ (len ∙ sym (length_values ((other w).consumed port))) in
          let f = net.feeder w port in
          let agree : Agree xs ys = λ i x y ex ey. agree_at f.worker f.port (wired.feeders w port lt) i x y (consumed_within one a w port lt i x ex) (consumed_within other b w port lt i y ey) in
          same_of_within xs ys len' (within_of_agree xs ys agree (omega arith));
      sent = λ w out lt e.
          let s = (prefix_facts net wired one a).states w lt in
          let t = (prefix_facts net wired other b).states w lt in
          sym (s.2.pushed out) ∙ (ap (λ (l : Local A V). l.pushed out) (same_place w lt e) ∙ t.2.pushed out);
    }
