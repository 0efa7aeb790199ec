-- A network before its first round.
use Rattle.std.proofs.Common.{◌≡◌, ℕ, zero, suc, ◌+◌, ◌<◌, Bool, List, Vec, Global, [], length, replicate, Some, refl, sym, ap, ◌∙◌, inl, arith}
use Rattle.std.specs.Prelude.{slice_get, vec_len}
use Rattle.std.proofs.lemmas.Bool.{lt-ltb, le-ltb}
use Rattle.std.proofs.lemmas.Option.{slice_get_within}
use Rattle.net_parts.specs.declared.parts.Net.{Net}
use Rattle.net_parts.specs.declared.parts.NetCore.{NetCore}
use Rattle.net_parts.specs.declared.ends.CoreEnd.{CoreEnd}
use Rattle.xt_exec.specs.First.{first_state}
use Rattle.net_ref.specs.declared.channel.Channel.{Channel}
use Rattle.net_ref.specs.declared.running.Run.{Run}
use Rattle.net_ref.specs.Place.{CoreAt, SourceAt, CollectorAt}
use Rattle.net_ref.specs.Workers.{core_count, source_count, first_core, first_at, source_worker, collector_worker}
use Rattle.net_ref.specs.Reference.{rounds_of}
use Rattle.net_ref.specs.First.{IsFirstCore, IsFirstChannel}
use Rattle.net_ref.specs.Shown.{Shows, IsRun}
use Rattle.net_ref.proofs.Lists.{some_same}

-- the parts of a run before the first round
pub record IsFirstRun (net : Net) (run : Run) : Type 0 where
  pub core_count : length run.cores.items ≡ length net.cores.items
  pub cores : (c : ℕ) (here : NetCore) (x : CoreEnd) → slice_get net.cores.items c ≡ Some here → slice_get run.cores.items c ≡ Some x → IsFirstCore here x
  pub sources : run.sources.items ≡ replicate (length net.sources.items) 0
  pub collector_count : length run.collectors.items ≡ length net.collectors.items
  pub collectors : (k : ℕ) (x : Vec ℕ Global) → slice_get run.collectors.items k ≡ Some x → x.items ≡ []
  pub channel_count : length run.channels.items ≡ length net.queues.items
  pub channels : (q : ℕ) (x : Channel) → slice_get run.channels.items q ≡ Some x → IsFirstChannel x

-- from what the parts' makers say of lists and of numbers of parts
pub first_parts : (net : Net) (heres : List NetCore) (m k n : ℕ) (cores : Vec CoreEnd Global) (sources : Vec ℕ Global) (collectors : Vec (Vec ℕ Global) Global) (channels : Vec Channel Global)
    → heres ≡ net.cores.items → m ≡ vec_len net.sources → k ≡ vec_len net.collectors → n ≡ vec_len net.queues
    → vec_len cores ≡ length heres → ((c : ℕ) (here : NetCore) (x : CoreEnd) → slice_get heres c ≡ Some here → slice_get cores.items c ≡ Some x → IsFirstCore here x)
    → sources.items ≡ replicate m 0
    → vec_len collectors ≡ k → ((j : ℕ) (x : Vec ℕ Global) → slice_get collectors.items j ≡ Some x → x.items ≡ [])
    → vec_len channels ≡ n → ((q : ℕ) (x : Channel) → slice_get channels.items q ≡ Some x → IsFirstChannel x)
    → IsFirstRun net (record { cores = cores; sources = sources; collectors = collectors; channels = channels })
first_parts net heres m k n cores sources collectors channels same ms ks ns core_count each_core zeros collector_count each_collector channel_count each_channel =
    record {
      core_count = sym cores.ok.0 ∙ (core_count ∙ ap length same);
      cores = λ c here x at got. each_core c here x (ap (λ (xs : List NetCore). slice_get xs c) same ∙ at) got;
      sources = zeros ∙ ap (λ (j : ℕ). replicate j 0) (ms ∙ net.sources.ok.0);
      collector_count = sym collectors.ok.0 ∙ (collector_count ∙ (ks ∙ net.collectors.ok.0));
      collectors = each_collector;
      channel_count = sym channels.ok.0 ∙ (channel_count ∙ (ns ∙ net.queues.ok.0));
      channels = each_channel;
    }

length_zeros : (n : ℕ) → length {A = ℕ} (replicate n 0) ≡ n
length_zeros zero = refl
length_zeros (suc n) = let h = length_zeros n in omega arith

zero_at : (n k m : ℕ) → slice_get (replicate n 0) k ≡ Some m → m ≡ 0
zero_at zero k m at = cc
zero_at (suc n) zero m at = some_same m 0 (sym at)
zero_at (suc n) (suc k) m at = zero_at n k m at

pub first_whole : (net : Net) (run : Run) → IsFirstRun net run → IsRun net run
first_whole net run f = record {
  cores = f.core_count;
  sources = ap length f.sources ∙ length_zeros (length net.sources.items);
  collectors = f.collector_count;
  channels = f.channel_count;
  made = λ c here x at got. (f.cores c here x at got).made;
}

first_core_at : (net : Net) (c : ℕ) (here : NetCore) → slice_get net.cores.items c ≡ Some here → first_at net c ≡ CoreAt (first_state here.kit.desc here.memory here.text.items)
first_core_at net c here there =
    let b = lt-ltb c (core_count net) (slice_get_within net.cores.items c here there) in
    rw b (ap first_core there)

first_source_at : (net : Net) (s : ℕ) → s < source_count net → first_at net (source_worker net s) ≡ SourceAt 0
first_source_at net s lt =
    let a = le-ltb (core_count net + s) (core_count net) (omega arith) in
    let b = lt-ltb (core_count net + s) (core_count net + source_count net) (omega arith) in
    rw (a, b) refl

first_collector_at : (net : Net) (k : ℕ) → first_at net (collector_worker net k) ≡ CollectorAt []
first_collector_at net k =
    let a = le-ltb (core_count net + source_count net + k) (core_count net) (omega arith) in
    let b = le-ltb (core_count net + source_count net + k) (core_count net + source_count net) (omega arith) in
    rw (a, b) refl

pub first_shows : (net : Net) (run : Run) (bounded : Bool) → IsFirstRun net run → Shows net (rounds_of bounded net 0) run
first_shows net run bounded f = record {
  cores = λ c here x at got. let h = f.cores c here x at got in record {
    last = first_state here.kit.desc here.memory here.text.items;
    at = first_core_at net c here at;
    retired = h.retired;
    arch = inl h.arch;
  };
  sources = λ s n got.
      let zeros = ap length f.sources ∙ length_zeros (length net.sources.items) in
      let lt = slice_get_within run.sources.items s n got in
      let none : n ≡ 0 = zero_at (length net.sources.items) s n (ap (λ (xs : List ℕ). slice_get xs s) (sym f.sources) ∙ got) in
      record { at = first_source_at net s (omega arith) ∙ ap SourceAt (sym none); count = sym none };
  collectors = λ k vs got.
      let empty = f.collectors k vs got in
      record { at = first_collector_at net k ∙ ap CollectorAt (sym empty); count = sym (ap length empty) };
  channels = record {
    count = f.channel_count;
    histories = λ q x at. (f.channels q x at).history;
    consumed = λ q x at. (f.channels q x at).consumed;
  };
}
