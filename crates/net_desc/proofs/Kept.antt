-- What the network of a plan keeps.
use Rattle.std.proofs.Common.{◌≡◌, ℕ, ◌<◌, ◌≤◌, true, List, [], ◌∷◌, length, Option, Some, None, Ok, All, count_by, slice_get, slice_index_or, refl, subst, sym, ◌∙◌, ap, arith, zero-add, codes}
use Rattle.std.specs.List.{zip, list_any}
use Rattle.std.proofs.lemmas.List.Elements.{All-nil, All-cons, All-head, All-tail, All-same}
use Rattle.tie_desc.specs.declared.declarations.QueueDecl.{QueueDecl}
use Rattle.net_toml.specs.net_parts.declared.parts.Net.{Net}
use Rattle.net_toml.specs.net_parts.declared.parts.NetCore.{NetCore}
use Rattle.net_toml.specs.net_parts.declared.parts.NetQueue.{NetQueue}
use Rattle.net_toml.specs.net_parts.declared.parts.NetCollector.{NetCollector}
use Rattle.net_toml.specs.net_parts.Ends.{is_input, is_output, is_source, is_collector, ins_of, outs_of}
use Rattle.net_toml.specs.net_parts.Network.{IsCore, IsCollector, IsWiredOnce, IsNet}
use Rattle.net_toml.specs.declared.plan.NetPlan.{NetPlan}
use Rattle.net_toml.specs.declared.plan.PlanCore.{PlanCore}
use Rattle.net_toml.specs.declared.plan.PlanSource.{PlanSource}
use Rattle.net_toml.specs.Limits.{Between, IsKill, IsCorePlan, IsPlan}
use Rattle.net_toml.specs.declared.refusal.NetRule.TheVariants.{Unwired}
use Rattle.net_toml.specs.Names.{place_of}
use Rattle.net_toml.specs.Walk.{each}
use Rattle.net_desc.specs.Workers.{Loaded, IsKitOf, AreKitsOf, core_with, cores_with, HasWorkers}
use Rattle.net_desc.specs.Wiring.{queue_of, each_number, port_key, input_wired, output_wired, core_wired, source_wired, collector_wired, all_wired, wiring}
use Rattle.net_desc.proofs.Itemless.{HasNone, sources_count, no_items, fits_none, few_none}
use Rattle.net_desc.proofs.Counting.{count_by-some}
use Rattle.net_desc.proofs.Steps.{bind_ok, check_ok, each-keeps, each-count, each_number-at, some_at}
use Rattle.net_desc.proofs.Placed.{Placed, placed_none, placed_next, queue_of-next}

-- ---- each end has a queue

input_taken : (queues : List NetQueue) (c : ℕ) (ports : List QueueDecl) (u : Unit {0}) → each_number (input_wired queues c) 0 ports ≡ Ok u
    → (i : ℕ) → i < length ports → list_any (λ (b : NetQueue). is_input c i b.to) queues ≡ true
input_taken queues c ports u e i h =
    let (q, stands) = some_at ports i h in
    check_ok Unwired (port_key c q) (list_any (λ (b : NetQueue). is_input c i b.to) queues) tt (each_number-at (input_wired queues c) ports 0 i q u e stands i (sym (zero-add i)))

output_taken : (queues : List NetQueue) (c : ℕ) (ports : List QueueDecl) (u : Unit {0}) → each_number (output_wired queues c) 0 ports ≡ Ok u
    → (o : ℕ) → o < length ports → list_any (λ (b : NetQueue). is_output c o b.from) queues ≡ true
output_taken queues c ports u e o h =
    let (q, stands) = some_at ports o h in
    check_ok Unwired (port_key c q) (list_any (λ (b : NetQueue). is_output c o b.from) queues) tt (each_number-at (output_wired queues c) ports 0 o q u e stands o (sym (zero-add o)))

source_taken : (queues : List NetQueue) (sources : List PlanSource) (u : Unit {0}) → each_number (source_wired queues) 0 sources ≡ Ok u
    → (s : ℕ) → s < length sources → list_any (λ (b : NetQueue). is_source s b.from) queues ≡ true
source_taken queues sources u e s h =
    let (x, stands) = some_at sources s h in
    check_ok Unwired (place_of (codes "source") s) (list_any (λ (b : NetQueue). is_source s b.from) queues) tt (each_number-at (source_wired queues) sources 0 s x u e stands s (sym (zero-add s)))

collector_taken : (queues : List NetQueue) (collectors : List NetCollector) (u : Unit {0}) → each_number (collector_wired queues) 0 collectors ≡ Ok u
    → (k : ℕ) → k < length collectors → list_any (λ (b : NetQueue). is_collector k b.to) queues ≡ true
collector_taken queues collectors u e k h =
    let (x, stands) = some_at collectors k h in
    check_ok Unwired (place_of (codes "collector") k) (list_any (λ (b : NetQueue). is_collector k b.to) queues) tt (each_number-at (collector_wired queues) collectors 0 k x u e stands k (sym (zero-add k)))

core_right : (queues : List NetQueue) (cores : List NetCore) (u : Unit {0}) → each_number (core_wired queues) 0 cores ≡ Ok u
    → (c : ℕ) (core : NetCore) → slice_get cores c ≡ Some core → core_wired queues c core ≡ Ok tt
core_right queues cores u e c core stands = each_number-at (core_wired queues) cores 0 c core u e stands c (sym (zero-add c))

core_input_taken : (queues : List NetQueue) (cores : List NetCore) (u : Unit {0}) → each_number (core_wired queues) 0 cores ≡ Ok u
    → (c i : ℕ) (core : Option NetCore) → slice_get cores c ≡ core → i < ins_of core → list_any (λ (b : NetQueue). is_input c i b.to) queues ≡ true
core_input_taken queues cores u e c i None stands h = absurd (omega arith)
core_input_taken queues cores u e c i (Some core) stands h =
    let (v, ins, outs) = bind_ok (each_number (input_wired queues c) 0 core.kit.desc.ins) (λ ins. each_number (output_wired queues c) 0 core.kit.desc.outs) tt (core_right queues cores u e c core stands) in
    input_taken queues c core.kit.desc.ins v ins i h

core_output_taken : (queues : List NetQueue) (cores : List NetCore) (u : Unit {0}) → each_number (core_wired queues) 0 cores ≡ Ok u
    → (c o : ℕ) (core : Option NetCore) → slice_get cores c ≡ core → o < outs_of core → list_any (λ (b : NetQueue). is_output c o b.from) queues ≡ true
core_output_taken queues cores u e c o None stands h = absurd (omega arith)
core_output_taken queues cores u e c o (Some core) stands h =
    let (v, ins, outs) = bind_ok (each_number (input_wired queues c) 0 core.kit.desc.ins) (λ ins. each_number (output_wired queues c) 0 core.kit.desc.outs) tt (core_right queues cores u e c core stands) in
    output_taken queues c core.kit.desc.outs tt outs o h

exactly : (n : ℕ) → n ≤ 1 → 1 ≤ n → n ≡ 1
exactly n most some = omega arith

wired_once : (net : Net) (plan : NetPlan) (u : Unit {0}) → length net.sources.items ≡ length plan.sources → net.collectors.items ≡ plan.collectors
    → Placed net net.queues.items → all_wired net.cores.items plan net.queues.items ≡ Ok u → IsWiredOnce net
unfolding all_wired
wired_once net plan u sources collectors p e =
    let (v, cores_right, e1) = bind_ok (each_number (core_wired net.queues.items) 0 net.cores.items) _ u e in
    let (w, sources_right, e2) = bind_ok (each_number (source_wired net.queues.items) 0 plan.sources) _ u e1 in
    record {
      outputs = λ c o h. exactly (count_by (λ (q : NetQueue). is_output c o q.from) net.queues.items) (p.outputs c o) (count_by-some (λ (q : NetQueue). is_output c o q.from) net.queues.items (core_output_taken net.queues.items net.cores.items v cores_right c o (slice_get net.cores.items c) refl h));
      inputs = λ c i h. exactly (count_by (λ (q : NetQueue). is_input c i q.to) net.queues.items) (p.inputs c i) (count_by-some (λ (q : NetQueue). is_input c i q.to) net.queues.items (core_input_taken net.queues.items net.cores.items v cores_right c i (slice_get net.cores.items c) refl h));
      sources = λ s h. let below : s < length plan.sources = omega arith in exactly (count_by (λ (q : NetQueue). is_source s q.from) net.queues.items) (p.sources s) (count_by-some (λ (q : NetQueue). is_source s q.from) net.queues.items (source_taken net.queues.items plan.sources w sources_right s below));
      collectors = λ k h. exactly (count_by (λ (q : NetQueue). is_collector k q.to) net.queues.items) (p.collectors k) (count_by-some (λ (q : NetQueue). is_collector k q.to) net.queues.items (collector_taken net.queues.items plan.collectors u e2 k (subst (λ (xs : List NetCollector). k < length xs) collectors h)));
    }

-- ---- workers

core_kept : (p : PlanCore) (k : Loaded) → IsCorePlan p → IsKitOf p k → IsCore (core_with p k)
core_kept p k a b = record {
  least_memory = a.memory.0;
  most_memory = a.memory.1;
  whole_words = a.memory.2;
  some_budget = a.budget.0;
  most_budget = a.budget.1;
  dump = a.dump;
  short_text = b.short_text;
  text_fits = b.text_fits;
  image = b.image;
}

abbrev IsPair : PlanCore × Loaded → Type 0
IsPair x = IsKitOf x.0 x.1

cores_kept : (ps : List PlanCore) (ks : List Loaded) → All IsCorePlan ps → All IsPair (zip ps ks) → All IsCore (cores_with ps ks)
cores_kept [] ks a b = All-nil IsCore
cores_kept (p ∷ ps) [] a b = All-nil IsCore
cores_kept (p ∷ ps) (k ∷ ks) a b =
    All-cons IsCore (core_with p k) (cores_with ps ks) (core_kept p k (All-head IsCorePlan p ps a) (All-head IsPair (p, k) (zip ps ks) b))
    (cores_kept ps ks (All-tail IsCorePlan p ps a) (All-tail IsPair (p, k) (zip ps ks) b))

pub cores_count : (ps : List PlanCore) (ks : List Loaded) → length ks ≡ length ps → length (cores_with ps ks) ≡ length ps
cores_count [] ks e = refl
cores_count (p ∷ ps) [] e = e
cores_count (p ∷ ps) (k ∷ ks) e = let rest : length (cores_with ps ks) ≡ length ps = cores_count ps ks (omega (arith, e)) in omega (arith, rest)

-- ---- the whole

placed : (net : Net) (plan : NetPlan) → length plan.sources ≡ length net.sources.items → length plan.collectors ≡ length net.collectors.items
    → All (λ q. Between 1 4096 q.capacity) plan.queues → (qs : List NetQueue) → each (queue_of net.cores.items plan) [] plan.queues ≡ Ok qs → Placed net qs
placed net plan sources collectors capacities qs e =
    each-keeps (queue_of net.cores.items plan) (λ q. Between 1 4096 q.capacity) (Placed net)
    (λ before x y capacity is so_far. placed_next net before y (queue_of-next net plan sources collectors before x y capacity is) so_far)
    plan.queues [] qs capacities e (placed_none net)

-- the network of a plan is one
pub wire-kept : (plan : NetPlan) (ks : List Loaded) (net : Net) → IsPlan plan → AreKitsOf plan.cores ks → HasWorkers plan ks net
    → wiring (cores_with plan.cores ks) plan ≡ Ok net.queues.items → IsNet net
unfolding wiring
wire-kept plan ks net p kits has e =
    let same : wiring net.cores.items plan ≡ Ok net.queues.items = subst (λ (cores : List NetCore). wiring cores plan ≡ Ok net.queues.items) (sym has.cores) e in
    let (qs, made, e1) = bind_ok (each (queue_of net.cores.items plan) [] plan.queues) _ net.queues.items same in
    let (u, wired, e2) = bind_ok (all_wired net.cores.items plan qs) _ net.queues.items e1 in
    let these : qs ≡ net.queues.items = cc in
    let sources : length net.sources.items ≡ length plan.sources = sources_count (λ (s : PlanSource). s.name) net.sources.items plan.sources has.sources in
    let collectors : length net.collectors.items ≡ length plan.collectors = ap length has.collectors in
    let cores : length net.cores.items ≡ length plan.cores = ap length has.cores ∙ cores_count plan.cores ks kits.count in
    let queues : length net.queues.items ≡ length plan.queues = ap length (sym these) ∙ each-count (queue_of net.cores.items plan) plan.queues [] qs made ∙ zero-add (length plan.queues) in
    let all : Placed net net.queues.items = subst (Placed net) these (placed net plan (sym sources) (sym collectors) p.queues qs made) in
    let none : All HasNone net.sources.items = no_items (λ (s : PlanSource). s.name) net.sources.items plan.sources has.sources in
    let right : all_wired net.cores.items plan net.queues.items ≡ Ok u = subst (λ (q : List NetQueue). all_wired net.cores.items plan q ≡ Ok u) these wired in
    record {
      kill = subst IsKill (sym has.kill) p.kill;
      counts = record {
        some_core = omega (arith, cores, p.counts.some);
        cores = omega (arith, cores, p.counts.cores);
        workers = omega (arith, cores, sources, collectors, p.counts.workers);
        queues = omega (arith, queues, p.counts.queues);
      };
      cores = All-same IsCore net.cores.items (cores_with plan.cores ks) has.cores (cores_kept plan.cores ks p.cores kits.each);
      collectors = All-same IsCollector net.collectors.items plan.collectors has.collectors (λ k d h. let c = p.collectors k d h in record { some = c.0; most = c.1 });
      queues = all.queues;
      few_items = few_none net.sources.items none;
      froms = all.froms;
      tos = all.tos;
      between = all.between;
      wired = wired_once net plan u sources has.collectors all right;
      items_fit = λ k d h. fits_none net none (slice_index_or net.queues.items k d).from (slice_index_or net.queues.items k d).to;
    }
