-- Sources and collectors at a stop.
use Rattle.std.proofs.Common.{◌≡◌, ℕ, zero, suc, ◌+◌, ◌≤◌, Bool, true, false, List, Vec, Global, [], ◌∷◌, length, Some, None, IsTrue, refl, sym, ap, ◌∙◌, subst, ⊎_elim, ◌⊎◌, inl, inr, arith}
use Rattle.std.specs.Prelude.{slice_get}
use Rattle.std.proofs.lemmas.Bool.{eq-eqb}
use Rattle.std.proofs.lemmas.Option.{slice_get_within}
use Rattle.kahn_law.specs.Network as law
use Rattle.kahn_law.specs.Worker.{Rule, heads, loc}
use Rattle.kahn_law.proofs.Rounds.{in_budget, run_at}
use Rattle.tie_report.specs.net_parts.declared.ends.RunEnd.{RunEnd}
use Rattle.tie_report.specs.net_parts.declared.parts.Net.{Net}
use Rattle.tie_report.specs.net_parts.declared.parts.NetCollector.{NetCollector}
use Rattle.tie_report.specs.net_parts.declared.parts.NetSource.{NetSource}
use Rattle.tie_report.specs.net_ref.Place.{CollectorAt, Place, SourceAt}
use Rattle.tie_report.specs.net_ref.Reference.{gate_of, rounds_of}
use Rattle.tie_report.specs.net_ref.Workers.{capacity_of, collector_queue, collector_rule, collector_worker, network, reader, source_queue, source_rule, source_worker, writer}
use Rattle.tie_report.proofs.net_ref_proofs.Others.{collector_rule_is, source_rule_is}
use Rattle.tie_report.proofs.net_ref_proofs.Places.{none_past}
use Rattle.tie_report.proofs.net_ref_proofs.Wiring.{collector_below, collector_reader, source_below, source_writer}
use Rattle.tie_report.specs.Standing.{is_empty, is_full}
use Rattle.stop_law.specs.Finished.{has_pushed}
use Rattle.stop_law.proofs.Cores.{IsAtStop}
use Rattle.stop_law.proofs.Counts.{collector_begins, collector_run, source_begins, source_run}
use Rattle.stop_law.proofs.Queues.{consumed_within, empty_at, full_at, pushed_within, queue_at}
use Rattle.stop_law.proofs.Stuck.{crowded, held_up, idle_round, lacking}

clash : true ≡ false → ⊥
clash e = cc

only : (q o j : ℕ) → slice_get (q ∷ []) j ≡ Some o → q ≡ o
only q o zero at = cc
only q o (suc j) at = cc

-- ---- sources

-- at a full queue
source_crowds : (net : Net) (n : ℕ) (end : RunEnd) (s : ℕ) (here : NetSource) → IsAtStop true net n end → slice_get net.sources.items s ≡ Some here
    → law.room_gate (network net) (rounds_of true net n) (source_worker net s) ≡ false
    → IsTrue (is_full (capacity_of (slice_get net.queues.items (source_queue net s))) (slice_get end.queues.items (source_queue net s)))
source_crowds net n end s here stop there closed =
    let nodes = rounds_of true net n in
    let w = source_worker net s in
    let q = source_queue net s in
    let s_in = slice_get_within net.sources.items s here there in
    let lt = source_below net s stop.sound s_in in
    let closed' : law.has_room (network net) nodes w (q ∷ []) ≡ false =
    ap (λ (r : Rule Place ℕ). law.has_room (network net) nodes w (r.outs (nodes w).now.state)) (sym (source_rule_is net s here there)) ∙ closed in
    let l = crowded (network net) nodes w (q ∷ []) closed' in
    let capacity = capacity_of (slice_get net.queues.items q) in
    let most : (nodes (reader net q)).now.consumed q + capacity ≤ length ((nodes w).now.pushed q) =
    subst (λ (o : ℕ). (nodes (reader net o)).now.consumed o + capacity_of (slice_get net.queues.items o) ≤ length ((nodes w).now.pushed o)) (sym (only q l.1 l.0 l.2)) l.3 in
    let within = pushed_within net n w q stop.sound (omega arith) in
    full_at net nodes end q w capacity stop.ends lt (source_writer net s lt) (omega arith)

-- spent
source_spent : (bounded : Bool) (net : Net) (n : ℕ) (end : RunEnd) (s : ℕ) (here : NetSource) → IsAtStop bounded net n end → slice_get net.sources.items s ≡ Some here
    → length here.items.items ≤ (rounds_of bounded net n (source_worker net s)).count
    → IsTrue (has_pushed (length here.items.items) (slice_get end.queues.items (source_queue net s)))
source_spent bounded net n end s here stop there spent =
    let nodes = rounds_of bounded net n in
    let w = source_worker net s in
    let q = source_queue net s in
    let many = length here.items.items in
    let s_in = slice_get_within net.sources.items s here there in
    let lt = source_below net s stop.sound s_in in
    let is = source_rule_is net s here there in
    let most : (nodes w).count ≤ many = subst (λ (r : Rule Place ℕ). (nodes w).count ≤ r.budget) is (in_budget (network net) (gate_of bounded net) n w) in
    let ins = law.inputs (network net) nodes w in
    let run : loc (source_rule net s here) (SourceAt 0) (nodes w).count ins ≡ Some (nodes w).now =
    ap (λ (r : Rule Place ℕ). loc r (SourceAt 0) (nodes w).count ins) (sym is)
    ∙ (ap (λ (p : Place). loc ((network net).rule w) p (nodes w).count ins) (sym (source_begins net s s_in)) ∙ run_at (network net) (gate_of bounded net) n w) in
    let had = (source_run net s here (nodes w).count ins (nodes w).now run most).1 in
    let by : length ((nodes (writer net q)).now.pushed q) ≡ length ((nodes w).now.pushed q) = ap (λ (v : ℕ). length ((nodes v).now.pushed q)) (source_writer net s lt) in
    ap (has_pushed many) (queue_at net nodes end q stop.ends lt) ∙ eq-eqb (length ((nodes (writer net q)).now.pushed q)) many (omega arith)

pub source_finished : (bounded : Bool) (net : Net) (n : ℕ) (end : RunEnd) (s : ℕ) (here : NetSource) → IsAtStop bounded net n end → slice_get net.sources.items s ≡ Some here
    → IsTrue (has_pushed (length here.items.items) (slice_get end.queues.items (source_queue net s)))
    ⊎ ((bounded ≡ true) × IsTrue (is_full (capacity_of (slice_get net.queues.items (source_queue net s))) (slice_get end.queues.items (source_queue net s))))
source_finished bounded net n end s here stop there =
    let nodes = rounds_of bounded net n in
    let w = source_worker net s in
    let lt = slice_get_within net.sources.items s here there in
    ⊎_elim
    (λ spent. inl (source_spent bounded net n end s here stop there spent))
    (⊎_elim
    (λ closed. inr (gated bounded stop closed))
    (⊎_elim
    (λ ended. absurd (clash ended))
    (λ none. absurd (never [] none))))
    (held_up (network net) (gate_of bounded net) nodes w (source_rule net s here) (source_rule_is net s here there)
    (idle_round (network net) (gate_of bounded net) n stop.stops w (omega arith)))
  where
    never : (vs : List ℕ) → Some vs ≡ None → ⊥
    never vs e = cc

    gated : (b : Bool) → IsAtStop b net n end → gate_of b net (rounds_of b net n) (source_worker net s) ≡ false
        → (b ≡ true) × IsTrue (is_full (capacity_of (slice_get net.queues.items (source_queue net s))) (slice_get end.queues.items (source_queue net s)))
    gated true stop closed = (refl, source_crowds net n end s here stop there closed)
    gated false stop closed = absurd (clash closed)

-- ---- collectors

collector_lacks : (bounded : Bool) (net : Net) (n : ℕ) (end : RunEnd) (k : ℕ) (here : NetCollector) → IsAtStop bounded net n end → slice_get net.collectors.items k ≡ Some here
    → heads (law.inputs (network net) (rounds_of bounded net n) (collector_worker net k)) (rounds_of bounded net n (collector_worker net k)).now.consumed (collector_queue net k ∷ []) ≡ None
    → IsTrue (is_empty (slice_get end.queues.items (collector_queue net k)))
collector_lacks bounded net n end k here stop there none =
    let nodes = rounds_of bounded net n in
    let w = collector_worker net k in
    let q = collector_queue net k in
    let ins = law.inputs (network net) nodes w in
    let lt = collector_below net k stop.sound (slice_get_within net.collectors.items k here there) in
    let l = lacking ins (nodes w).now.consumed (q ∷ []) none in
    let past = none_past (ins q) ((nodes w).now.consumed q) (subst (λ (p : ℕ). slice_get (ins p) ((nodes w).now.consumed p) ≡ None) (sym (only q l.1 l.0 l.2)) l.3) in
    let within = consumed_within bounded net n w q stop.sound in
    let same : length ((nodes (writer net q)).now.pushed q) ≡ (nodes w).now.consumed q = omega arith in
    empty_at net nodes end q (writer net q) w stop.ends lt refl (collector_reader net k lt) same

collector_spent : (bounded : Bool) (net : Net) (n : ℕ) (end : RunEnd) (k : ℕ) (here : NetCollector) (vs : Vec ℕ Global) → IsAtStop bounded net n end
    → slice_get net.collectors.items k ≡ Some here → slice_get end.collected.items k ≡ Some vs → here.limit ≤ (rounds_of bounded net n (collector_worker net k)).count
    → length vs.items ≡ here.limit
collector_spent bounded net n end k here vs stop there at spent =
    let nodes = rounds_of bounded net n in
    let w = collector_worker net k in
    let is = collector_rule_is net k here there in
    let most : (nodes w).count ≤ here.limit = subst (λ (r : Rule Place ℕ). (nodes w).count ≤ r.budget) is (in_budget (network net) (gate_of bounded net) n w) in
    let ins = law.inputs (network net) nodes w in
    let run : loc (collector_rule net k here) (CollectorAt []) (nodes w).count ins ≡ Some (nodes w).now =
    ap (λ (r : Rule Place ℕ). loc r (CollectorAt []) (nodes w).count ins) (sym is)
    ∙ (ap (λ (p : Place). loc ((network net).rule w) p (nodes w).count ins) (sym (collector_begins net k)) ∙ run_at (network net) (gate_of bounded net) n w) in
    let h = collector_run net k here (nodes w).count ins (nodes w).now run in
    let same : h.0 ≡ vs.items = collected h.0 vs.items (sym h.1 ∙ stop.ends.collected k vs at) in
    let long = ap length same in
    let count = h.2 in
    omega arith
  where
    collected : (xs ys : List ℕ) → CollectorAt xs ≡ CollectorAt ys → xs ≡ ys
    collected xs ys e = cc

pub collector_finished : (bounded : Bool) (net : Net) (n : ℕ) (end : RunEnd) (k : ℕ) (here : NetCollector) (vs : Vec ℕ Global) → IsAtStop bounded net n end
    → slice_get net.collectors.items k ≡ Some here → slice_get end.collected.items k ≡ Some vs
    → (length vs.items ≡ here.limit) ⊎ IsTrue (is_empty (slice_get end.queues.items (collector_queue net k)))
collector_finished bounded net n end k here vs stop there at =
    let nodes = rounds_of bounded net n in
    let w = collector_worker net k in
    let lt = slice_get_within net.collectors.items k here there in
    let is = collector_rule_is net k here there in
    ⊎_elim
    (λ spent. inl (collector_spent bounded net n end k here vs stop there at spent))
    (⊎_elim
    (λ closed. absurd (clash (sym (opened bounded) ∙ closed)))
    (⊎_elim
    (λ ended. absurd (clash ended))
    (λ none. inr (collector_lacks bounded net n end k here stop there none))))
    (held_up (network net) (gate_of bounded net) nodes w (collector_rule net k here) is (idle_round (network net) (gate_of bounded net) n stop.stops w (omega arith)))
  where
    opened : (b : Bool) → gate_of b net (rounds_of bounded net n) (collector_worker net k) ≡ true
    opened true =
        ap (λ (r : Rule Place ℕ). law.has_room (network net) (rounds_of bounded net n) (collector_worker net k) (r.outs (rounds_of bounded net n (collector_worker net k)).now.state))
        (collector_rule_is net k here there)
    opened false = refl
