-- The network of one processor that stands alone is one.
use Rattle.std.proofs.Common.{◌≡◌, ℕ, zero, suc, ◌+◌, ◌<◌, ◌≤◌, Bool, false, cond, ◌==◌, List, [], ◌∷◌, ◌++◌, length, map, All, count_by, slice_get, slice_index_or, refl, subst, sym, ◌∙◌, ap, inl, arith, zero-add, length-append}
use Rattle.std.proofs.lemmas.List.{length-map}
use Rattle.std.proofs.lemmas.List.Sums.{sum_by-append}
use Rattle.std.proofs.lemmas.List.Elements.{All-nil, All-cons, All-same, All-append}
use Rattle.tie_desc.specs.Fetching.{IsImage}
use Rattle.tie_desc.specs.Invariant.{IsDescription}
use Rattle.tie_desc.specs.declared.declarations.QueueDecl.{QueueDecl}
use Rattle.net_toml.specs.net_parts.declared.parts.Net.{Net}
use Rattle.net_toml.specs.net_parts.declared.parts.NetCore.{NetCore}
use Rattle.net_toml.specs.net_parts.declared.parts.NetQueue.{NetQueue}
use Rattle.net_toml.specs.net_parts.declared.parts.FromEnd.TheVariants as from
use Rattle.net_toml.specs.net_parts.declared.parts.ToEnd.TheVariants as to
use Rattle.net_toml.specs.net_parts.Ends.{is_input, is_output, is_source, is_collector, ins_of, outs_of, input_count, output_count, HasFrom, HasTo}
use Rattle.net_toml.specs.net_parts.Network.{IsCore, IsCollector, IsQueue, IsWiredOnce, IsBetween, IsNet}
use Rattle.net_desc.specs.Workers.{Loaded}
use Rattle.net_desc.specs.Alone.{alone_core, alone_collector, alone_inputs, alone_outputs, IsAlone}
use Rattle.net_desc.proofs.Itemless.{HasNone, sources_count, no_items, fits_none, few_none}
use Rattle.net_desc.proofs.Numbered.{IsNumbered, numbered-length, numbered-all, numbered-none, numbered-one}

abbrev in_queue : ℕ → QueueDecl → NetQueue
in_queue i q = record { name = q.name; capacity = 1; from = from.Source i; to = to.Core 0 i }

abbrev out_queue : ℕ → QueueDecl → NetQueue
out_queue o q = record { name = q.name; capacity = 1; from = from.Core 0 o; to = to.Collector o }

inputs_numbered : IsNumbered in_queue alone_inputs
inputs_numbered = record { none = λ i. refl; more = λ i q qs. refl }

outputs_numbered : IsNumbered out_queue alone_outputs
outputs_numbered = record { none = λ o. refl; more = λ o q qs. refl }

abbrev alone_queues : List QueueDecl → List QueueDecl → List NetQueue
alone_queues ins outs = alone_inputs 0 ins ++ alone_outputs 0 outs

-- what holds of each queue
each_queue : (P : NetQueue → Type 0) (ins outs : List QueueDecl) → ((i : ℕ) (q : QueueDecl) → i < length ins → P (in_queue i q))
    → ((o : ℕ) (q : QueueDecl) → o < length outs → P (out_queue o q)) → All P (alone_queues ins outs)
each_queue P ins outs in_each out_each =
    All-append P (alone_inputs 0 ins) (alone_outputs 0 outs)
    (numbered-all in_queue alone_inputs inputs_numbered P (length ins) in_each 0 ins (zero-add (length ins)))
    (numbered-all out_queue alone_outputs outputs_numbered P (length outs) out_each 0 outs (zero-add (length outs)))

-- an end of an input queue, of an output queue, is that of exactly one
one_input : (p : NetQueue → Bool) (n : ℕ) (ins outs : List QueueDecl) → ((i : ℕ) (q : QueueDecl) → p (in_queue i q) ≡ (i == n))
    → ((o : ℕ) (q : QueueDecl) → p (out_queue o q) ≡ false) → n < length ins → count_by p (alone_queues ins outs) ≡ 1
one_input p n ins outs is never below =
    let both : count_by p (alone_queues ins outs) ≡ count_by p (alone_inputs 0 ins) + count_by p (alone_outputs 0 outs) = sum_by-append (λ q. cond (p q) 1 0) (alone_inputs 0 ins) (alone_outputs 0 outs) in
    let one : count_by p (alone_inputs 0 ins) ≡ 1 = numbered-one in_queue alone_inputs inputs_numbered p n is 0 ins (omega arith) (omega arith) in
    let none : count_by p (alone_outputs 0 outs) ≡ 0 = numbered-none out_queue alone_outputs outputs_numbered p never 0 outs in
    omega (arith, both, one, none)

one_output : (p : NetQueue → Bool) (n : ℕ) (ins outs : List QueueDecl) → ((o : ℕ) (q : QueueDecl) → p (out_queue o q) ≡ (o == n))
    → ((i : ℕ) (q : QueueDecl) → p (in_queue i q) ≡ false) → n < length outs → count_by p (alone_queues ins outs) ≡ 1
one_output p n ins outs is never below =
    let both : count_by p (alone_queues ins outs) ≡ count_by p (alone_inputs 0 ins) + count_by p (alone_outputs 0 outs) = sum_by-append (λ q. cond (p q) 1 0) (alone_inputs 0 ins) (alone_outputs 0 outs) in
    let one : count_by p (alone_outputs 0 outs) ≡ 1 = numbered-one out_queue alone_outputs outputs_numbered p n is 0 outs (omega arith) (omega arith) in
    let none : count_by p (alone_inputs 0 ins) ≡ 0 = numbered-none in_queue alone_inputs inputs_numbered p never 0 ins in
    omega (arith, both, one, none)

-- ---- the workers

core_alone : (k : Loaded) → IsImage k.0.desc k.1.items k.0.image.at → length k.1.items ≤ 65536 → IsCore (alone_core k)
core_alone k image short = record {
  least_memory = omega arith;
  most_memory = omega arith;
  whole_words = refl;
  some_budget = omega arith;
  most_budget = omega arith;
  dump = tt;
  short_text = short;
  text_fits = short;
  image = image;
}

collectors_alone : (qs : List QueueDecl) → All IsCollector (map alone_collector qs)
collectors_alone [] = All-nil IsCollector
collectors_alone (q ∷ qs) = All-cons IsCollector (alone_collector q) (map alone_collector qs) (record { some = omega arith; most = omega arith }) (collectors_alone qs)

-- ---- the whole

module _ (k : Loaded) (net : Net) (a : IsAlone k net) where
  abbrev ins : List QueueDecl
  ins = k.0.desc.ins

  abbrev outs : List QueueDecl
  outs = k.0.desc.outs

  source_count : length net.sources.items ≡ length ins
  source_count = sources_count (λ (q : QueueDecl). q.name) net.sources.items ins a.sources

  collector_count : length net.collectors.items ≡ length outs
  collector_count = ap length a.collectors ∙ length-map outs alone_collector

  ins_count : (c : ℕ) → input_count net c ≡ ins_of (slice_get (alone_core k ∷ []) c)
  ins_count c = ap (λ (cores : List NetCore). ins_of (slice_get cores c)) a.cores

  outs_count : (c : ℕ) → output_count net c ≡ outs_of (slice_get (alone_core k ∷ []) c)
  outs_count c = ap (λ (cores : List NetCore). outs_of (slice_get cores c)) a.cores

  all_queues : (P : NetQueue → Type 0) → ((i : ℕ) (q : QueueDecl) → i < length ins → P (in_queue i q))
      → ((o : ℕ) (q : QueueDecl) → o < length outs → P (out_queue o q)) → All P net.queues.items
  all_queues P x y = All-same P net.queues.items (alone_queues ins outs) a.queues (each_queue P ins outs x y)

  once : (p : NetQueue → Bool) → count_by p (alone_queues ins outs) ≡ 1 → count_by p net.queues.items ≡ 1
  once p e = ap (count_by p) a.queues ∙ e

  output_once : (c o : ℕ) → o < outs_of (slice_get (alone_core k ∷ []) c) → count_by (λ (q : NetQueue). is_output c o q.from) net.queues.items ≡ 1
  output_once zero o h = once (λ (q : NetQueue). is_output 0 o q.from) (one_output (λ (q : NetQueue). is_output 0 o q.from) o ins outs (λ i q. refl) (λ i q. refl) h)
  output_once (suc c) o h = absurd (omega arith)

  input_once : (c i : ℕ) → i < ins_of (slice_get (alone_core k ∷ []) c) → count_by (λ (q : NetQueue). is_input c i q.to) net.queues.items ≡ 1
  input_once zero i h = once (λ (q : NetQueue). is_input 0 i q.to) (one_input (λ (q : NetQueue). is_input 0 i q.to) i ins outs (λ i q. refl) (λ i q. refl) h)
  input_once (suc c) i h = absurd (omega arith)

  wired_alone : IsWiredOnce net
  wired_alone = record {
    outputs = λ c o h. output_once c o (subst (λ (n : ℕ). o < n) (outs_count c) h);
    inputs = λ c i h. input_once c i (subst (λ (n : ℕ). i < n) (ins_count c) h);
    sources = λ s h. once (λ (q : NetQueue). is_source s q.from)
        (one_input (λ (q : NetQueue). is_source s q.from) s ins outs (λ i q. refl) (λ i q. refl) (subst (λ (n : ℕ). s < n) source_count h));
    collectors = λ m h. once (λ (q : NetQueue). is_collector m q.to)
        (one_output (λ (q : NetQueue). is_collector m q.to) m ins outs (λ i q. refl) (λ i q. refl) (subst (λ (n : ℕ). m < n) collector_count h));
  }

  pub alone-kept : IsDescription k.0.desc → IsImage k.0.desc k.1.items k.0.image.at → length k.1.items ≤ 65536 → IsNet net
  alone-kept d image short =
      let cores : length net.cores.items ≡ 1 = ap length a.cores in
      let sources = source_count in
      let collectors = collector_count in
      let queues : length net.queues.items ≡ length ins + length outs =
      ap length a.queues ∙ length-append (alone_inputs 0 ins) (alone_outputs 0 outs)
      ∙ ap (λ (n : ℕ). n + length (alone_outputs 0 outs)) (numbered-length in_queue alone_inputs inputs_numbered 0 ins)
      ∙ ap (λ (n : ℕ). length ins + n) (numbered-length out_queue alone_outputs outputs_numbered 0 outs) in
      let few_ins = d.counts.ins in
      let few_outs = d.counts.outs in
      let none : All HasNone net.sources.items = no_items (λ (q : QueueDecl). q.name) net.sources.items ins a.sources in
      record {
        kill = inl a.kill;
        counts = record { some_core = omega arith; cores = omega arith; workers = omega arith; queues = omega arith };
        cores = All-same IsCore net.cores.items (alone_core k ∷ []) a.cores (All-cons IsCore (alone_core k) [] (core_alone k image short) (All-nil IsCore));
        collectors = All-same IsCollector net.collectors.items (map alone_collector outs) a.collectors (collectors_alone outs);
        queues = all_queues IsQueue (λ i q h. record { some = omega arith; most = omega arith }) (λ o q h. record { some = omega arith; most = omega arith });
        few_items = few_none net.sources.items none;
        froms = all_queues (λ (q : NetQueue). HasFrom net q.from) (λ i q h. omega (arith, sources)) (λ o q h. subst (λ (n : ℕ). o < n) (sym (outs_count 0)) h);
        tos = all_queues (λ (q : NetQueue). HasTo net q.to) (λ i q h. subst (λ (n : ℕ). i < n) (sym (ins_count 0)) h) (λ o q h. omega (arith, collectors));
        between = all_queues (λ (q : NetQueue). IsBetween net q.from q.to) (λ i q h. tt) (λ o q h. tt);
        wired = wired_alone;
        items_fit = λ i d h. fits_none net none (slice_index_or net.queues.items i d).from (slice_index_or net.queues.items i d).to;
      }
