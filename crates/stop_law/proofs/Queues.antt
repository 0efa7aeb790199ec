-- The queues of a reference: consumed counts within histories, histories within capacities, and what is reported of them.
use Rattle.std.proofs.Common.{◌≡◌, ℕ, ◌+◌, ◌<◌, ◌≤◌, Bool, true, length, Some, IsTrue, sym, ap, ◌∙◌, arith}
use Rattle.std.specs.Prelude.{slice_get}
use Rattle.std.proofs.lemmas.Bool.{eq-eqb}
use Rattle.std.proofs.lemmas.List.{length-map}
use Rattle.kahn_law.specs.Causal.{Item}
use Rattle.kahn_law.specs.Clock.{kept_of}
use Rattle.kahn_law.specs.Network as law
use Rattle.kahn_law.proofs.Lists.{item_at}
use Rattle.kahn_law.proofs.Room.{strict_keeps_room}
use Rattle.kahn_law.proofs.Rounds.{run_at}
use Rattle.kahn_law.proofs.Runs.{consumed_there}
use Rattle.kahn_law.proofs.Strict.{reaches_causal_set}
use Rattle.tie_report.specs.net_parts.declared.ends.RunEnd.{RunEnd}
use Rattle.tie_report.specs.net_parts.declared.parts.Net.{Net}
use Rattle.tie_report.specs.net_parts.Network.{IsNet}
use Rattle.tie_report.specs.net_ref.Reference.{IsEnd, gate_of, queue_end, rounds_of}
use Rattle.tie_report.specs.net_ref.Workers.{Nodes, capacity_of, network, reader, writer}
use Rattle.tie_report.proofs.net_ref_proofs.WiredLemmas.{is_wired}
use Rattle.tie_report.specs.Standing.{is_empty, is_full}

-- no worker consumes more than its queue's history has
pub consumed_within : (bounded : Bool) (net : Net) (n w q : ℕ) → IsNet net
    → (rounds_of bounded net n w).now.consumed q ≤ length (law.inputs (network net) (rounds_of bounded net n) w q)
consumed_within bounded net n w q sound =
    consumed_there ((network net).rule w) ((network net).first w) ((is_wired net sound).regular w) (rounds_of bounded net n w).count
    (law.inputs (network net) (rounds_of bounded net n) w) (rounds_of bounded net n w).now (run_at (network net) (gate_of bounded net) n w) q

-- with capacities a history is no longer than its reader's consumed items and the capacity
pub pushed_within : (net : Net) (n w q : ℕ) → IsNet net → w < (network net).workers
    → length ((rounds_of true net n w).now.pushed q) ≤ (rounds_of true net n (reader net q)).now.consumed q + capacity_of (slice_get net.queues.items q)
pushed_within net n w q sound lt =
    let gate = law.room_gate (network net) in
    let wired = is_wired net sound in
    let r = reader net q in
    let nodes = (reaches_causal_set (network net) gate wired n).nodes in
    let here = nodes w lt in
    let there = nodes r (wired.readers w q lt) in
    let room = (strict_keeps_room (network net) wired n).in_capacity (λ v o. omega arith) w q lt in
    let sent = (kept_of (network net) gate n w).sent q in
    let long : length sent ≡ length ((rounds_of true net n w).now.pushed q) = sym (length-map sent (λ (x : Item ℕ). x.value)) ∙ ap length (here.pushed q) in
    let used = there.consumed q in
    omega arith

-- ---- reports

pub queue_at : (net : Net) (nodes : Nodes) (end : RunEnd) (q : ℕ) → IsEnd net nodes end → q < length net.queues.items → slice_get end.queues.items q ≡ Some (queue_end net nodes q)
queue_at net nodes end q ends lt =
    let count = ends.queue_count in
    let e = item_at end.queues.items q (omega arith) in
    e.1 ∙ ap Some (ends.queues q e.0 e.1)

pub empty_at : (net : Net) (nodes : Nodes) (end : RunEnd) (q w r : ℕ) → IsEnd net nodes end → q < length net.queues.items → writer net q ≡ w → reader net q ≡ r
    → length ((nodes w).now.pushed q) ≡ (nodes r).now.consumed q → IsTrue (is_empty (slice_get end.queues.items q))
empty_at net nodes end q w r ends lt by to same =
    let alike : length ((nodes (writer net q)).now.pushed q) ≡ (nodes (reader net q)).now.consumed q =
    ap (λ (v : ℕ). length ((nodes v).now.pushed q)) by ∙ (same ∙ ap (λ (v : ℕ). (nodes v).now.consumed q) (sym to)) in
    ap is_empty (queue_at net nodes end q ends lt) ∙ eq-eqb (length ((nodes (writer net q)).now.pushed q)) ((nodes (reader net q)).now.consumed q) alike

pub full_at : (net : Net) (nodes : Nodes) (end : RunEnd) (q w capacity : ℕ) → IsEnd net nodes end → q < length net.queues.items → writer net q ≡ w
    → length ((nodes w).now.pushed q) ≡ (nodes (reader net q)).now.consumed q + capacity → IsTrue (is_full capacity (slice_get end.queues.items q))
full_at net nodes end q w capacity ends lt by same =
    let pushed = length ((nodes (writer net q)).now.pushed q) in
    let consumed = (nodes (reader net q)).now.consumed q in
    let first : pushed ≡ length ((nodes w).now.pushed q) = ap (λ (v : ℕ). length ((nodes v).now.pushed q)) by in
    ap (is_full capacity) (queue_at net nodes end q ends lt) ∙ eq-eqb pushed (consumed + 0 + capacity) (omega arith)
