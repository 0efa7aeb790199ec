-- What an accepted network's wiring gives: each port has a queue of its own, with the port's worker at that end.
use Rattle.std.proofs.Common.{◌≡◌, ℕ, ◌<◌, true, false, length, Some, sym, ap, ◌∙◌, subst}
use Rattle.std.specs.Prelude.{slice_get, ◌==◌}
use Rattle.std.proofs.lemmas.Bool.{eqb-true}
use Rattle.net_parts.specs.declared.parts.Net.{Net}
use Rattle.net_parts.specs.declared.parts.NetCore.{NetCore}
use Rattle.net_parts.specs.declared.parts.NetQueue.{NetQueue}
use Rattle.net_parts.specs.declared.parts.FromEnd.{FromEnd}
use Rattle.net_parts.specs.declared.parts.FromEnd.TheVariants as from
use Rattle.net_parts.specs.declared.parts.ToEnd.{ToEnd}
use Rattle.net_parts.specs.declared.parts.ToEnd.TheVariants as to
use Rattle.net_parts.specs.Ends.{is_output, is_source, is_input, is_collector, ins_of, outs_of}
use Rattle.net_parts.specs.Network.{IsNet}
use Rattle.tie_desc.proofs.Lists.{both_left, both_right}
use Rattle.net_ref.specs.Workers.{input_queue, output_queue, source_queue, collector_queue, writer, reader, writer_of, reader_of, from_worker, to_worker, source_worker, collector_worker}
use Rattle.net_ref.proofs.Lists.{some_same, has_place, at_place}

-- ---- input queues

pub input_below : (net : Net) (c i : ℕ) (here : NetCore) → IsNet net → slice_get net.cores.items c ≡ Some here → i < length here.kit.desc.ins
    → input_queue net c i < length net.queues.items
input_below net c i here sound there lt =
    has_place (λ (q : NetQueue). is_input c i q.to) net.queues.items
    (sound.wired.inputs c i (subst (λ o. i < ins_of o) (sym there) lt))

input_end : (net : Net) (c i : ℕ) (end : ToEnd) → is_input c i end ≡ true → to_worker net end ≡ c
input_end net c i (to.Core worker input) e = eqb-true worker c (both_left (worker == c) (input == i) e)
input_end net c i (to.Collector k) e = absurd (differ e)
  where
    differ : false ≡ true → ⊥
    differ e = cc

input_port : (c i j : ℕ) (end : ToEnd) → is_input c i end ≡ true → is_input c j end ≡ true → i ≡ j
input_port c i j (to.Core worker input) e f =
    sym (eqb-true input i (both_right (worker == c) (input == i) e)) ∙ eqb-true input j (both_right (worker == c) (input == j) f)
input_port c i j (to.Collector k) e f = absurd (differ e)
  where
    differ : false ≡ true → ⊥
    differ e = cc

pub input_reader : (net : Net) (c i : ℕ) → input_queue net c i < length net.queues.items → reader net (input_queue net c i) ≡ c
input_reader net c i lt =
    let h = at_place (λ (q : NetQueue). is_input c i q.to) net.queues.items lt in
    ap (reader_of net) h.1 ∙ input_end net c i h.0.to h.2

pub input_differ : (net : Net) (c i j : ℕ) → input_queue net c i < length net.queues.items → input_queue net c i ≡ input_queue net c j → i ≡ j
input_differ net c i j lt same =
    let a = at_place (λ (q : NetQueue). is_input c i q.to) net.queues.items lt in
    let lt' : input_queue net c j < length net.queues.items = subst (λ (k : ℕ). k < length net.queues.items) same lt in
    let b = at_place (λ (q : NetQueue). is_input c j q.to) net.queues.items lt' in
    let e : a.0 ≡ b.0 = some_same a.0 b.0 (sym a.1 ∙ (ap (slice_get net.queues.items) same ∙ b.1)) in
    input_port c i j a.0.to a.2 (subst (λ (q : NetQueue). is_input c j q.to ≡ true) (sym e) b.2)

-- ---- output queues

pub output_below : (net : Net) (c o : ℕ) (here : NetCore) → IsNet net → slice_get net.cores.items c ≡ Some here → o < length here.kit.desc.outs
    → output_queue net c o < length net.queues.items
output_below net c o here sound there lt =
    has_place (λ (q : NetQueue). is_output c o q.from) net.queues.items
    (sound.wired.outputs c o (subst (λ x. o < outs_of x) (sym there) lt))

output_end : (net : Net) (c o : ℕ) (end : FromEnd) → is_output c o end ≡ true → from_worker net end ≡ c
output_end net c o (from.Core worker out) e = eqb-true worker c (both_left (worker == c) (out == o) e)
output_end net c o (from.Source s) e = absurd (differ e)
  where
    differ : false ≡ true → ⊥
    differ e = cc

output_port : (c i j : ℕ) (end : FromEnd) → is_output c i end ≡ true → is_output c j end ≡ true → i ≡ j
output_port c i j (from.Core worker out) e f =
    sym (eqb-true out i (both_right (worker == c) (out == i) e)) ∙ eqb-true out j (both_right (worker == c) (out == j) f)
output_port c i j (from.Source s) e f = absurd (differ e)
  where
    differ : false ≡ true → ⊥
    differ e = cc

pub output_writer : (net : Net) (c o : ℕ) → output_queue net c o < length net.queues.items → writer net (output_queue net c o) ≡ c
output_writer net c o lt =
    let h = at_place (λ (q : NetQueue). is_output c o q.from) net.queues.items lt in
    ap (writer_of net) h.1 ∙ output_end net c o h.0.from h.2

pub output_differ : (net : Net) (c i j : ℕ) → output_queue net c i < length net.queues.items → output_queue net c i ≡ output_queue net c j → i ≡ j
output_differ net c i j lt same =
    let a = at_place (λ (q : NetQueue). is_output c i q.from) net.queues.items lt in
    let lt' : output_queue net c j < length net.queues.items = subst (λ (k : ℕ). k < length net.queues.items) same lt in
    let b = at_place (λ (q : NetQueue). is_output c j q.from) net.queues.items lt' in
    let e : a.0 ≡ b.0 = some_same a.0 b.0 (sym a.1 ∙ (ap (slice_get net.queues.items) same ∙ b.1)) in
    output_port c i j a.0.from a.2 (subst (λ (q : NetQueue). is_output c j q.from ≡ true) (sym e) b.2)

-- ---- sources and collectors

pub source_below : (net : Net) (s : ℕ) → IsNet net → s < length net.sources.items → source_queue net s < length net.queues.items
source_below net s sound lt = has_place (λ (q : NetQueue). is_source s q.from) net.queues.items (sound.wired.sources s lt)

source_end : (net : Net) (s : ℕ) (end : FromEnd) → is_source s end ≡ true → from_worker net end ≡ source_worker net s
source_end net s (from.Core worker out) e = absurd (differ e)
  where
    differ : false ≡ true → ⊥
    differ e = cc
source_end net s (from.Source source) e = ap (source_worker net) (eqb-true source s e)

pub source_writer : (net : Net) (s : ℕ) → source_queue net s < length net.queues.items → writer net (source_queue net s) ≡ source_worker net s
source_writer net s lt =
    let h = at_place (λ (q : NetQueue). is_source s q.from) net.queues.items lt in
    ap (writer_of net) h.1 ∙ source_end net s h.0.from h.2

pub collector_below : (net : Net) (k : ℕ) → IsNet net → k < length net.collectors.items → collector_queue net k < length net.queues.items
collector_below net k sound lt = has_place (λ (q : NetQueue). is_collector k q.to) net.queues.items (sound.wired.collectors k lt)

collector_end : (net : Net) (k : ℕ) (end : ToEnd) → is_collector k end ≡ true → to_worker net end ≡ collector_worker net k
collector_end net k (to.Core worker input) e = absurd (differ e)
  where
    differ : false ≡ true → ⊥
    differ e = cc
collector_end net k (to.Collector j) e = ap (collector_worker net) (eqb-true j k e)

pub collector_reader : (net : Net) (k : ℕ) → collector_queue net k < length net.queues.items → reader net (collector_queue net k) ≡ collector_worker net k
collector_reader net k lt =
    let h = at_place (λ (q : NetQueue). is_collector k q.to) net.queues.items lt in
    ap (reader_of net) h.1 ∙ collector_end net k h.0.to h.2
