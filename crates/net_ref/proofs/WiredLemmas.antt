-- A network is wired as the law of networks wants it.
use Rattle.std.proofs.Common.{◌≡◌, ℕ, ◌+◌, ◌-◌, ◌<◌, ◌≤◌, Bool, true, false, List, [], ◌∷◌, length, map, Option, Some, None, refl, sym, ⊎_elim, arith}
use Rattle.std.specs.Prelude.{slice_get, slice_index_or, nat_lt, ◌==◌, if◌then◌else◌}
use Rattle.std.specs.Option.{option_to_list}
use Rattle.std.proofs.lemmas.Bool.{cases_eq, eq-eqb, ne_eqb}
use Rattle.std.proofs.lemmas.Option.{slice_get_within}
use Rattle.std.proofs.lemmas.List.{length-append}
use Rattle.kahn_law.specs.Worker.{IsRegular, times}
use Rattle.kahn_law.specs.Network as law
use Rattle.tie_desc.proofs.Lists.{All-slice_get}
use Rattle.xt_exec.specs.Queues as queues
use Rattle.xt_exec.specs.Step.{bundle_at}
use Rattle.net_parts.specs.declared.parts.Net.{Net}
use Rattle.net_parts.specs.declared.parts.NetCore.{NetCore}
use Rattle.net_parts.specs.declared.parts.NetSource.{NetSource}
use Rattle.net_parts.specs.declared.parts.NetCollector.{NetCollector}
use Rattle.net_parts.specs.declared.parts.NetQueue.{NetQueue}
use Rattle.net_parts.specs.declared.parts.FromEnd.{FromEnd}
use Rattle.net_parts.specs.declared.parts.FromEnd.TheVariants as from
use Rattle.net_parts.specs.declared.parts.ToEnd.{ToEnd}
use Rattle.net_parts.specs.declared.parts.ToEnd.TheVariants as to
use Rattle.net_parts.specs.Ends.{HasFrom, HasTo, ins_of, outs_of}
use Rattle.net_parts.specs.Network.{IsNet}
use Rattle.net_ref.specs.Place.{Place, CoreAt, SourceAt, CollectorAt, of_source}
use Rattle.net_ref.specs.Processor.{fetched_pops, fetched_pushes, next_pushes, writes_after}
use Rattle.net_ref.specs.Workers.{network, core_count, source_count, core_rule, source_rule, collector_rule, still_rule, rule_or_still, rule_at, input_queue, output_queue, source_queue, collector_queue, values_to, writer, reader, writer_of, reader_of, from_worker, to_worker}
use Rattle.net_ref.proofs.Popped.{times_chosen}
use Rattle.net_ref.proofs.Wiring.{input_below, input_differ, output_below, output_differ}

-- ---- ends

core_there : (net : Net) (c i : ℕ) (o : Option NetCore) → slice_get net.cores.items c ≡ o → i < ins_of o → c < core_count net
core_there net c i None at lt = absurd (omega arith)
core_there net c i (Some here) at lt = slice_get_within net.cores.items c here at

core_there_out : (net : Net) (c i : ℕ) (o : Option NetCore) → slice_get net.cores.items c ≡ o → i < outs_of o → c < core_count net
core_there_out net c i None at lt = absurd (omega arith)
core_there_out net c i (Some here) at lt = slice_get_within net.cores.items c here at

from_below : (net : Net) (end : FromEnd) → HasFrom net end → from_worker net end < (network net).workers
from_below net (from.Core worker out) has =
    let lt = core_there_out net worker out (slice_get net.cores.items worker) refl has in omega arith
from_below net (from.Source source) has = omega arith

to_below : (net : Net) (end : ToEnd) → HasTo net end → to_worker net end < (network net).workers
to_below net (to.Core worker input) has =
    let lt = core_there net worker input (slice_get net.cores.items worker) refl has in omega arith
to_below net (to.Collector k) has = omega arith

writer_below : (net : Net) (q : ℕ) → IsNet net → writer net q < (network net).workers
writer_below net q sound = one (slice_get net.queues.items q) refl
  where
    one : (o : Option NetQueue) → slice_get net.queues.items q ≡ o → writer_of net o < (network net).workers
    one None at = let some = sound.counts.some_core in omega arith
    one (Some queue) at = from_below net queue.from (All-slice_get (λ (x : NetQueue). HasFrom net x.from) net.queues.items q queue sound.froms at)

reader_below : (net : Net) (q : ℕ) → IsNet net → reader net q < (network net).workers
reader_below net q sound = one (slice_get net.queues.items q) refl
  where
    one : (o : Option NetQueue) → slice_get net.queues.items q ≡ o → reader_of net o < (network net).workers
    one None at = let some = sound.counts.some_core in omega arith
    one (Some queue) at = to_below net queue.to (All-slice_get (λ (x : NetQueue). HasTo net x.to) net.queues.items q queue sound.tos at)

-- ---- rules

one_option : (o : Option ℕ) → length (option_to_list o) ≤ 1
one_option None = omega arith
one_option (Some v) = omega arith

values_few : (f : ℕ → ℕ) (values : List (Option ℕ)) (os : List ℕ) (q : ℕ) → length (values_to f values os q) ≤ times q (map f os)
values_few f values [] q = omega arith
values_few f values (o ∷ os) q =
    ⊎_elim
    (λ same.
    let a = eq-eqb (f o) q same in
    let b = eq-eqb q (f o) (sym same) in
    let few = one_option (slice_index_or values o None) in
    let joined = length-append (option_to_list (slice_index_or values o None)) (values_to f values os q) in
    let rest = values_few f values os q in
    rw (a, b) (omega arith))
    (λ ne.
    let a = ne_eqb (f o) q ne in
    let b = ne_eqb q (f o) (λ e. ne (sym e)) in
    let rest = values_few f values os q in
    rw (a, b) (omega arith))
    (cases_eq (f o) q)

still_regular : IsRegular still_rule
still_regular = record {
  pops_once = λ p port. omega arith;
  outs_once = λ p out. omega arith;
  puts_named = λ p vs out e. omega arith;
}

core_regular : (net : Net) (c : ℕ) (here : NetCore) → IsNet net → slice_get net.cores.items c ≡ Some here → IsRegular (core_rule net c here)
core_regular net c here sound there = record { pops_once = pops; outs_once = outs; puts_named = puts }
  where
    pops : (p : Place) (port : ℕ) → times port ((core_rule net c here).pops p) ≤ 1
    pops (CoreAt s) port =
        ⊎_elim (λ e. omega arith) (λ once. let e = once.once in omega arith)
        (times_chosen (input_queue net c) (fetched_pops here.kit.desc (bundle_at here.kit s)) port (length here.kit.desc.ins) 0
        (λ j k a b c' d same. input_differ net c j k (input_below net c j here sound there (omega arith)) same))
    pops (SourceAt n) port = omega arith
    pops (CollectorAt vs) port = omega arith

    outs : (p : Place) (out : ℕ) → times out ((core_rule net c here).outs p) ≤ 1
    outs (CoreAt s) out =
        ⊎_elim (λ e. omega arith) (λ once. let e = once.once in omega arith)
        (times_chosen (output_queue net c) (fetched_pushes here.kit.desc (bundle_at here.kit s)) out (length here.kit.desc.outs) 0
        (λ j k a b c' d same. output_differ net c j k (output_below net c j here sound there (omega arith)) same))
    outs (SourceAt n) out = omega arith
    outs (CollectorAt vs) out = omega arith

    puts : (p : Place) (vs : List ℕ) (out : ℕ) → length vs ≡ length ((core_rule net c here).pops p) → length ((core_rule net c here).puts p vs out) ≤ times out ((core_rule net c here).outs p)
    puts (CoreAt s) vs out e = values_few (output_queue net c) (queues.all_sent (writes_after here.kit s vs)) (next_pushes here.kit s) out
    puts (SourceAt n) vs out e = omega arith
    puts (CollectorAt ws) vs out e = omega arith

source_regular : (net : Net) (s : ℕ) (here : NetSource) → IsRegular (source_rule net s here)
source_regular net s here = record { pops_once = λ p port. omega arith; outs_once = λ p out. once out; puts_named = λ p vs out e. puts p vs out }
  where
    once : (out : ℕ) → times out (source_queue net s ∷ []) ≤ 1
    once out = one (out == source_queue net s)
      where
        one : (b : Bool) → (if b then 1 else 0) + 0 ≤ 1
        one true = omega arith
        one false = omega arith

    puts : (p : Place) (vs : List ℕ) (out : ℕ) → length ((source_rule net s here).puts p vs out) ≤ times out (source_queue net s ∷ [])
    puts p vs out = ⊎_elim
        (λ same. let a = eq-eqb (source_queue net s) out same in let b = eq-eqb out (source_queue net s) (sym same) in rw (a, b) (few p))
        (λ ne. let a = ne_eqb (source_queue net s) out ne in rw a (omega arith))
        (cases_eq (source_queue net s) out)
      where
        few : (p : Place) → length (of_source [] (λ n. option_to_list (slice_get here.items.items n)) p) ≤ 1 + 0
        few (CoreAt t) = omega arith
        few (SourceAt n) = let h = one_option (slice_get here.items.items n) in omega arith
        few (CollectorAt ws) = omega arith

collector_regular : (net : Net) (k : ℕ) (here : NetCollector) → IsRegular (collector_rule net k here)
collector_regular net k here = record { pops_once = λ p port. once port; outs_once = λ p out. omega arith; puts_named = λ p vs out e. omega arith }
  where
    once : (port : ℕ) → times port (collector_queue net k ∷ []) ≤ 1
    once port = one (port == collector_queue net k)
      where
        one : (b : Bool) → (if b then 1 else 0) + 0 ≤ 1
        one true = omega arith
        one false = omega arith

regular : (net : Net) → IsNet net → (w : ℕ) → IsRegular (rule_at net w)
regular net sound w = one (nat_lt w (core_count net)) (nat_lt w (core_count net + source_count net))
  where
    of_core : (o : Option NetCore) (c : ℕ) → slice_get net.cores.items c ≡ o → IsRegular (rule_or_still (core_rule net c) o)
    of_core None c at = still_regular
    of_core (Some here) c at = core_regular net c here sound at

    of_source : (o : Option NetSource) (s : ℕ) → IsRegular (rule_or_still (source_rule net s) o)
    of_source None s = still_regular
    of_source (Some here) s = source_regular net s here

    of_collector : (o : Option NetCollector) (k : ℕ) → IsRegular (rule_or_still (collector_rule net k) o)
    of_collector None k = still_regular
    of_collector (Some here) k = collector_regular net k here

    one : (a b : Bool)
        → IsRegular (if a then rule_or_still (core_rule net w) (slice_get net.cores.items w) else (
        if b then rule_or_still (source_rule net (w - core_count net)) (slice_get net.sources.items (w - core_count net))
        else rule_or_still (collector_rule net (w - (core_count net + source_count net))) (slice_get net.collectors.items (w - (core_count net + source_count net)))))
    one true b = of_core (slice_get net.cores.items w) w refl
    one false true = of_source (slice_get net.sources.items (w - core_count net)) (w - core_count net)
    one false false = of_collector (slice_get net.collectors.items (w - (core_count net + source_count net))) (w - (core_count net + source_count net))

pub is_wired : (net : Net) → IsNet net → law.IsWired (network net)
is_wired net sound = record {
  feeders = λ w q lt. writer_below net q sound;
  readers = λ w q lt. reader_below net q sound;
  regular = regular net sound;
}
