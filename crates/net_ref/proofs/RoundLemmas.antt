-- Rounds, turn by turn, and the stop.
use Rattle.std.proofs.Common.{◌≡◌, ℕ, zero, suc, ◌+◌, ◌-◌, ◌*◌, ◌<◌, ◌≤◌, Bool, true, false, ◌||◌, length, Option, Some, None, refl, sym, ap, ◌∙◌, subst, ⊎_elim, arith}
use mathlib.Core.Path.{fun_ext}
use Rattle.std.specs.Prelude.{slice_get, nat_lt, if◌then◌else◌}
use Rattle.std.proofs.lemmas.Bool.{cases_eq, eq-eqb, ne_eqb}
use Rattle.std.proofs.lemmas.Option.{slice_get_within}
use Rattle.kahn_law.specs.Network as law
use Rattle.kahn_law.specs.Causal.{total}
use Rattle.kahn_law.proofs.Rounds.{has_one_stop}
use Rattle.tie_desc.proofs.Lists.{All-slice_get}
use Rattle.net_parts.specs.declared.parts.Net.{Net}
use Rattle.net_parts.specs.declared.parts.NetCore.{NetCore}
use Rattle.net_parts.specs.declared.parts.NetSource.{NetSource}
use Rattle.net_parts.specs.declared.parts.NetCollector.{NetCollector}
use Rattle.net_parts.specs.Network.{IsCore, IsCollector, IsNet}
use Rattle.net_ref.specs.declared.running.Run.{Run}
use Rattle.net_ref.specs.Place.{Place}
use Rattle.net_ref.specs.Workers.{Nodes, network, core_count, source_count, core_rule, source_rule, collector_rule, rule_or_still, rule_at}
use Rattle.net_ref.specs.Reference.{gate_of, rounds_of}
use Rattle.net_ref.specs.Shown.{Shows, IsMet, IsTurn, ArePart, IsAtStop, turn_of, turns_of, turned}

-- ---- turn by turn

pub part_start : (bounded : Bool) (net : Net) (nodes : Nodes) (run : Run) → Shows net nodes run → ArePart bounded net nodes 0 false run
part_start bounded net nodes run shows = record {
  shows = shows;
  goes = λ e. absurd (never e);
  still = λ e v. refl;
  met = λ e c here x lt. absurd (omega arith);
}
  where
    never : false ≡ true → ⊥
    never e = cc

-- the turns of others change nothing
untouched : (bounded : Bool) (net : Net) (nodes : Nodes) (m w : ℕ) → m ≤ w → turns_of bounded net nodes m w ≡ nodes w
untouched bounded net nodes zero w le = refl
untouched bounded net nodes (suc m) w le = let b = ne_eqb w m (λ e. absurd (omega arith)) in rw b (untouched bounded net nodes m w (omega arith))

next_turned : (bounded : Bool) (net : Net) (nodes : Nodes) (w : ℕ) → turned bounded net (turns_of bounded net nodes w) w ≡ turns_of bounded net nodes (w + 1)
next_turned bounded net nodes w = let e : suc w ≡ w + 1 = omega arith in ap (λ (m : ℕ). turns_of bounded net nodes m) e

pub part_more : (bounded : Bool) (net : Net) (nodes : Nodes) (w : ℕ) (moved went : Bool) (old new : Run)
    → ArePart bounded net nodes w moved old → IsTurn bounded net (turns_of bounded net nodes w) w old went new
    → ArePart bounded net nodes (w + 1) (moved || went) new
part_more bounded net nodes w moved went old new p t = record {
  shows = subst (λ (f : Nodes). Shows net f new) (next_turned bounded net nodes w) t.shows;
  goes = goes moved went p.goes t.goes;
  still = λ e v. ap (λ (f : Nodes). f v) (sym (next_turned bounded net nodes w)) ∙ still v (p.still (first moved went e)) (t.still (second moved went e));
  met = λ e c here x lt at got. ⊎_elim
      (λ same.
      let at' : slice_get net.cores.items w ≡ Some here = ap (slice_get net.cores.items) (sym same) ∙ at in
      let got' : slice_get new.cores.items w ≡ Some x = ap (slice_get new.cores.items) (sym same) ∙ got in
      let there : turns_of bounded net nodes w w ≡ nodes c = untouched bounded net nodes w w (omega arith) ∙ ap nodes (sym same) in
      subst (λ (node : law.Node Place ℕ). IsMet here node x) there (t.met (second moved went e) here x at' got'))
      (λ ne. p.met (first moved went e) c here x (omega arith) at (sym (t.kept c ne) ∙ got))
      (cases_eq c w);
}
  where
    first : (a b : Bool) → (a || b) ≡ false → a ≡ false
    first true b e = e
    first false b e = refl

    second : (a b : Bool) → (a || b) ≡ false → b ≡ false
    second true b e = cc
    second false b e = e

    node_of : (v : ℕ) → law.Node Place ℕ
    node_of v = turns_of bounded net nodes w v

    still : (v : ℕ) → ((u : ℕ) → turns_of bounded net nodes w u ≡ nodes u) → turn_of bounded net (turns_of bounded net nodes w) w ≡ turns_of bounded net nodes w w
        → turned bounded net (turns_of bounded net nodes w) w v ≡ nodes v
    still v h k = ⊎_elim
        (λ same. let b = eq-eqb v w same in rw b (k ∙ (h w ∙ ap nodes (sym same))))
        (λ ne. let b = ne_eqb v w ne in rw b (h v))
        (cases_eq v w)

    goes : (a b : Bool) → (a ≡ true → (v : ℕ) × (v < w) × ((nodes v).count < (turns_of bounded net nodes w v).count))
        → (b ≡ true → (turn_of bounded net (turns_of bounded net nodes w) w).count ≡ suc (turns_of bounded net nodes w w).count)
        → (a || b) ≡ true → (v : ℕ) × (v < w + 1) × ((nodes v).count < (turns_of bounded net nodes (w + 1) v).count)
    goes true b h k e =
        let g = h refl in
        let n = ne_eqb g.0 w (λ s. let l = g.1 in absurd (omega arith)) in
        let there : turned bounded net (turns_of bounded net nodes w) w g.0 ≡ turns_of bounded net nodes w g.0 = rw n refl in
        let count : (turns_of bounded net nodes (w + 1) g.0).count ≡ (turns_of bounded net nodes w g.0).count =
        ap (λ (f : Nodes). (f g.0).count) (sym (next_turned bounded net nodes w)) ∙ ap (λ (node : law.Node Place ℕ). node.count) there in
        let l = g.1 in let m = g.2 in
        (g.0, omega arith, omega arith)
    goes false true h k e =
        let n = eq-eqb w w refl in
        let there : turned bounded net (turns_of bounded net nodes w) w w ≡ turn_of bounded net (turns_of bounded net nodes w) w = rw n refl in
        let count : (turns_of bounded net nodes (w + 1) w).count ≡ (turn_of bounded net (turns_of bounded net nodes w) w).count =
        ap (λ (f : Nodes). (f w).count) (sym (next_turned bounded net nodes w)) ∙ ap (λ (node : law.Node Place ℕ). node.count) there in
        let before : (turns_of bounded net nodes w w).count ≡ (nodes w).count = ap (λ (node : law.Node Place ℕ). node.count) (untouched bounded net nodes w w (omega arith)) in
        let more = k refl in
        (w, omega arith, omega arith)
    goes false false h k e = cc

-- ---- the stop

pub stop_reached : (bounded : Bool) (net : Net) (n : ℕ) (run : Run) → ArePart bounded net (rounds_of bounded net n) (network net).workers false run → IsAtStop bounded net run
stop_reached bounded net n run p = record {
  rounds = n;
  stops = λ w lt. ap (λ (node : law.Node Place ℕ). node.count) (p.still refl w);
  shows = subst (λ (f : Nodes). Shows net f run) (fun_ext (p.still refl)) p.shows;
  met = λ c here x at got.
      let lt = slice_get_within net.cores.items c here at in
      p.met refl c here x (omega arith) at got;
}

pub not_stopped : (bounded : Bool) (net : Net) (n : ℕ) (run : Run) → ArePart bounded net (rounds_of bounded net n) (network net).workers true run
    → law.StopsAt (network net) (gate_of bounded net) n → ⊥
not_stopped bounded net n run p stops =
    let g = p.goes refl in
    let same = stops g.0 g.1 in
    let more = g.2 in
    absurd (omega arith)

pub next_round : (bounded : Bool) (net : Net) (n m : ℕ) (run : Run) → m ≡ n + 1 → ArePart bounded net (rounds_of bounded net n) (network net).workers true run → Shows net (rounds_of bounded net m) run
next_round bounded net n m run e p =
    let k : suc n ≡ m = omega arith in
    subst (λ (j : ℕ). Shows net (rounds_of bounded net j) run) k p.shows

-- ---- the number of rounds

total_most : (n : ℕ) (f : ℕ → ℕ) → ((w : ℕ) → w < n → f w ≤ 1073741824) → total n f ≤ n * 1073741824
total_most zero f le = omega arith
total_most (suc n) f le =
    let h = total_most n f (λ w lt. le w (omega arith)) in
    let one = le n (omega arith) in
    omega arith

budget_small : (net : Net) → IsNet net → (w : ℕ) → (rule_at net w).budget ≤ 1073741824
budget_small net sound w =
    one (nat_lt w (core_count net)) (nat_lt w (core_count net + source_count net))
  where
    of_core : (o : Option NetCore) (c : ℕ) → slice_get net.cores.items c ≡ o → (rule_or_still (core_rule net c) o).budget ≤ 1073741824
    of_core None c at = omega arith
    of_core (Some here) c at = let h = (All-slice_get IsCore net.cores.items c here sound.cores at).most_budget in omega arith

    of_source : (o : Option NetSource) (s : ℕ) → slice_get net.sources.items s ≡ o → (rule_or_still (source_rule net s) o).budget ≤ 1073741824
    of_source None s at = omega arith
    of_source (Some here) s at = let h = All-slice_get (λ (x : NetSource). length x.items.items ≤ 1048576) net.sources.items s here sound.few_items at in omega arith

    of_collector : (o : Option NetCollector) (k : ℕ) → slice_get net.collectors.items k ≡ o → (rule_or_still (collector_rule net k) o).budget ≤ 1073741824
    of_collector None k at = omega arith
    of_collector (Some here) k at = let h = (All-slice_get IsCollector net.collectors.items k here sound.collectors at).most in omega arith

    one : (a b : Bool)
        → (if a then rule_or_still (core_rule net w) (slice_get net.cores.items w) else (
        if b then rule_or_still (source_rule net (w - core_count net)) (slice_get net.sources.items (w - core_count net))
        else rule_or_still (collector_rule net (w - (core_count net + source_count net))) (slice_get net.collectors.items (w - (core_count net + source_count net))))).budget ≤ 1073741824
    one true b = of_core (slice_get net.cores.items w) w refl
    one false true = of_source (slice_get net.sources.items (w - core_count net)) (w - core_count net) refl
    one false false = of_collector (slice_get net.collectors.items (w - (core_count net + source_count net))) (w - (core_count net + source_count net)) refl

-- there is a stop within so many rounds
pub stops_soon : (bounded : Bool) (net : Net) → IsNet net → ((m : ℕ) → m < 34359738369 → law.StopsAt (network net) (gate_of bounded net) m → ⊥) → ⊥
stops_soon bounded net sound none =
    let s = (has_one_stop (network net) (gate_of bounded net)).some in
    let most = total_most (network net).workers (λ w. (rule_at net w).budget) (λ w lt. budget_small net sound w) in
    let few : (network net).workers ≤ 32 = sound.counts.workers in
    let n = s.1 in
    none s.0 (omega arith) s.2
