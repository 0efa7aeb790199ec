-- What is reported of a run that has stopped.
use Rattle.std.proofs.Common.{◌≡◌, ℕ, List, Vec, Global, [], ◌∷◌, length, map, Some, refl, sym, ap, ◌∙◌, arith}
use Rattle.std.specs.Prelude.{slice_get}
use Rattle.kahn_law.specs.Network as law
use Rattle.kahn_law.proofs.Lists.{mapped_item}
use Rattle.net_parts.specs.declared.parts.Net.{Net}
use Rattle.net_parts.specs.declared.ends.CoreEnd.{CoreEnd}
use Rattle.net_parts.specs.declared.ends.QueueEnd.{QueueEnd}
use Rattle.net_parts.specs.declared.ends.RunEnd.{RunEnd}
use Rattle.net_ref.specs.declared.channel.Channel.{Channel}
use Rattle.net_ref.specs.declared.running.Run.{Run}
use Rattle.net_ref.specs.Workers.{Nodes, network, writer}
use Rattle.net_ref.specs.Reference.{IsEnd, IsWhole, queue_end}
use Rattle.net_ref.specs.Shown.{Shows, ShowsChannels, IsRun, AreMet, end_of}

length_map : {X Y : Type 0} (f : X → Y) (xs : List X) → length (map f xs) ≡ length xs
length_map f [] = refl
length_map f (x ∷ xs) = let h = length_map f xs in omega arith

queue_is : (net : Net) (nodes : Nodes) (channels : List Channel) (q : ℕ) (x : Channel) → ShowsChannels net nodes channels → slice_get channels q ≡ Some x → end_of x ≡ queue_end net nodes q
queue_is net nodes channels q x shows at =
    let a : length x.history.items ≡ length (law.history (network net) nodes (writer net q) q) = ap length (shows.histories q x at) in
    let F : ℕ → ℕ → QueueEnd = λ p k. record { pushed = p; consumed = k; held = 0 } in
    ap (λ (n : ℕ). F n x.consumed) a ∙ ap (F (length (law.history (network net) nodes (writer net q) q))) (shows.consumed q x at)

pub run_ends : (net : Net) (nodes : Nodes) (run : Run) (end : RunEnd) → IsRun net run → Shows net nodes run → AreMet net nodes run
    → end.cores.items ≡ run.cores.items → end.queues.items ≡ map end_of run.channels.items → end.collected.items ≡ run.collectors.items → IsEnd net nodes end
run_ends net nodes run end whole shows met cores queues collected = record {
  core_count = ap length cores ∙ whole.cores;
  cores = λ c here e at got.
      let got' : slice_get run.cores.items c ≡ Some e = ap (λ (xs : List CoreEnd). slice_get xs c) (sym cores) ∙ got in
      let s = shows.cores c here e at got' in
      let m = met c here e at got' in
      let made = whole.made c here e at got' in
      record { last = m.last; at = m.at; retired = s.retired; arch = m.arch; clock = made.clock; held = made.held };
  queue_count = ap length queues ∙ (length_map end_of run.channels.items ∙ whole.channels);
  queues = λ q e got.
      let m = mapped_item end_of run.channels.items q e (ap (λ (xs : List QueueEnd). slice_get xs q) (sym queues) ∙ got) in
      sym m.2 ∙ queue_is net nodes run.channels.items q m.0 shows.channels m.1;
  collector_count = ap length collected ∙ whole.collectors;
  collected = λ k vs got. (shows.collectors k vs (ap (λ (xs : List (Vec ℕ Global)). slice_get xs k) (sym collected) ∙ got)).at;
}

pub run_whole : (net : Net) (run : Run) (end : RunEnd) → IsRun net run → end.cores.items ≡ run.cores.items → end.queues.items ≡ map end_of run.channels.items
    → end.collected.items ≡ run.collectors.items → IsWhole net end
run_whole net run end whole cores queues collected = record {
  core_count = ap length cores ∙ whole.cores;
  queue_count = ap length queues ∙ (length_map end_of run.channels.items ∙ whole.channels);
  collector_count = ap length collected ∙ whole.collectors;
  made = λ c here e at got. (whole.made c here e at (ap (λ (xs : List CoreEnd). slice_get xs c) (sym cores) ∙ got)).made;
}
