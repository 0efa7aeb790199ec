-- What the turn of a source or a collector finds at its places, and what it leaves there.
use Rattle.std.proofs.Common.{◌≡◌, ℕ, zero, suc, ◌+◌, ◌<◌, ◌≤◌, Bool, true, false, List, Vec, Global, [], ◌∷◌, ◌++◌, length, get_or, Some, None, refl, sym, ap, ◌∙◌, arith}
use Rattle.std.specs.Prelude.{slice_get, slice_set, min, if◌then◌else◌}
use Rattle.std.proofs.lemmas.Option.{slice_get_read}
use Rattle.std.proofs.lemmas.List.FromFn.{get_or-map-range_with_len}
use Rattle.net_parts.specs.declared.parts.Net.{Net}
use Rattle.net_parts.specs.declared.parts.NetSource.{NetSource}
use Rattle.net_parts.specs.declared.parts.NetCollector.{NetCollector}
use Rattle.net_parts.specs.declared.parts.NetQueue.{NetQueue}
use Rattle.net_parts.specs.Network.{IsNet}
use Rattle.net_ref.specs.declared.channel.Channel.{Channel}
use Rattle.net_ref.specs.declared.ports.Ports.{Ports}
use Rattle.net_ref.specs.declared.running.Run.{Run}
use Rattle.net_ref.specs.Ports.{ArePorts}
use Rattle.net_ref.specs.Workers.{Nodes, source_queue, collector_queue, source_worker, collector_worker}
use Rattle.net_ref.specs.Reference.{gate_of}
use Rattle.net_ref.specs.Shown.{IsRun, IsTurn, Shows, room_at}
use Rattle.net_ref.proofs.Others.{IsAtSource, source_gate, source_full, source_moved, IsAtCollector, collector_moved}
use Rattle.net_ref.proofs.Tables.{table_length}
use Rattle.net_ref.proofs.Updates.{length_set, moved_push, moved_take}

pub none_past : {X : Type 0} (xs : List X) (i : ℕ) → slice_get xs i ≡ None → length xs ≤ i
none_past [] i e = omega arith
none_past (x ∷ xs) zero e = cc
none_past (x ∷ xs) (suc i) e = let h = none_past xs i e in omega arith

-- ---- the tables

pub source_ports : (net : Net) (ports : Ports) → ArePorts net ports → length ports.sources.items ≡ length net.sources.items
source_ports net ports h = table_length (source_queue net) (length net.sources.items) ports.sources.items h.sources

pub source_port : (net : Net) (ports : Ports) (s d : ℕ) → ArePorts net ports → s < length net.sources.items → get_or ports.sources.items s d ≡ source_queue net s
source_port net ports s d h lt =
    ap (λ (xs : List ℕ). get_or xs s d) h.sources ∙ get_or-map-range_with_len (source_queue net) 0 (length net.sources.items) s s d lt (omega arith)

pub collector_ports : (net : Net) (ports : Ports) → ArePorts net ports → length ports.collectors.items ≡ length net.collectors.items
collector_ports net ports h = table_length (collector_queue net) (length net.collectors.items) ports.collectors.items h.collectors

pub collector_port : (net : Net) (ports : Ports) (k d : ℕ) → ArePorts net ports → k < length net.collectors.items → get_or ports.collectors.items k d ≡ collector_queue net k
collector_port net ports k d h lt =
    ap (λ (xs : List ℕ). get_or xs k d) h.collectors ∙ get_or-map-range_with_len (collector_queue net) 0 (length net.collectors.items) k k d lt (omega arith)

pub room_asked : (asked : Bool) (cs ds : List Channel) (qs rs : List NetQueue) (q r : ℕ) (room b : Bool) → room ≡ (if asked then room_at cs qs q else true) → room ≡ b
    → cs ≡ ds → qs ≡ rs → q ≡ r → (if asked then room_at ds rs r else true) ≡ b
room_asked asked cs ds qs rs q r room b is e same alike at =
    ap (λ (k : ℕ). if asked then room_at ds rs k else true) (sym at)
    ∙ (ap (λ (xs : List NetQueue). if asked then room_at ds xs q else true) (sym alike)
    ∙ (ap (λ (xs : List Channel). if asked then room_at xs qs q else true) (sym same) ∙ (sym is ∙ e)))

-- ---- sources

pub at_source : (net : Net) (nodes : Nodes) (s n : ℕ) (here : NetSource) (run : Run) → IsNet net → IsRun net run → Shows net nodes run → s < length net.sources.items
    → here ≡ get_or net.sources.items s here → n ≡ get_or run.sources.items s n → IsAtSource net nodes s n here run
at_source net nodes s n here run sound whole shows lt a b = record {
  sound = sound;
  shown = shows;
  there = slice_get_read net.sources.items (length net.sources.items) s here refl lt a;
  pushed = slice_get_read run.sources.items (length net.sources.items) s n (sym whole.sources) lt b;
}

-- without room, where this is asked
pub source_waits : (bounded : Bool) (net : Net) (nodes : Nodes) (s n : ℕ) (here : NetSource) (run : Run) → IsAtSource net nodes s n here run
    → (if bounded then room_at run.channels.items net.queues.items (source_queue net s) else true) ≡ false → IsTurn bounded net nodes (source_worker net s) run false run
source_waits true net nodes s n here run t closed = source_full net nodes s n here run t closed
source_waits false net nodes s n here run t closed = cc

source_opened : (bounded : Bool) (net : Net) (nodes : Nodes) (s n : ℕ) (here : NetSource) (run : Run) → IsAtSource net nodes s n here run
    → (if bounded then room_at run.channels.items net.queues.items (source_queue net s) else true) ≡ true → gate_of bounded net nodes (source_worker net s) ≡ true
source_opened true net nodes s n here run t opened = source_gate net nodes s n here run t ∙ opened
source_opened false net nodes s n here run t opened = refl

pub source_pushes : (bounded : Bool) (net : Net) (nodes : Nodes) (s n v : ℕ) (here : NetSource) (x y : Channel) (old new : Run) → IsAtSource net nodes s n here old
    → (if bounded then room_at old.channels.items net.queues.items (source_queue net s) else true) ≡ true
    → slice_get here.items.items n ≡ Some v
    → slice_get old.channels.items (source_queue net s) ≡ Some y → x.history.items ≡ y.history.items ++ v ∷ [] → x.consumed ≡ y.consumed
    → new.cores.items ≡ old.cores.items → new.collectors.items ≡ old.collectors.items → new.sources.items ≡ slice_set old.sources.items s (n + 1)
    → new.channels.items ≡ slice_set old.channels.items (source_queue net s) x
    → IsTurn bounded net nodes (source_worker net s) old true new
source_pushes bounded net nodes s n v here x y old new t opened item at hist cons cores collectors sources channels =
    let q = source_queue net s in
    source_moved bounded net nodes s n v here old new t item (source_opened bounded net nodes s n here old t opened) (record {
      cores = cores;
      collectors = collectors;
      sources = sources;
      count = ap length channels ∙ length_set old.channels.items q x;
      channels = λ p z got. moved_push q v x y old.channels.items at hist cons p z (ap (λ (xs : List Channel). slice_get xs p) (sym channels) ∙ got);
    })

-- ---- collectors

pub at_collector : (net : Net) (nodes : Nodes) (k : ℕ) (had : Vec ℕ Global) (here : NetCollector) (run : Run) → IsNet net → IsRun net run → Shows net nodes run
    → k < length net.collectors.items → here ≡ get_or net.collectors.items k here → had ≡ get_or run.collectors.items k had → IsAtCollector net nodes k had here run
at_collector net nodes k had here run sound whole shows lt a b = record {
  sources = whole.sources;
  sound = sound;
  shown = shows;
  there = slice_get_read net.collectors.items (length net.collectors.items) k here refl lt a;
  collected = slice_get_read run.collectors.items (length net.collectors.items) k had (sym whole.collectors) lt b;
}

pub collector_takes : (bounded : Bool) (net : Net) (nodes : Nodes) (k v : ℕ) (had now : Vec ℕ Global) (here : NetCollector) (x y : Channel) (old new : Run)
    → IsAtCollector net nodes k had here old → length had.items < here.limit
    → slice_get old.channels.items (collector_queue net k) ≡ Some y → slice_get y.history.items y.consumed ≡ Some v
    → x.history.items ≡ y.history.items → x.consumed ≡ min (y.consumed + 1) (length y.history.items) → now.items ≡ had.items ++ v ∷ []
    → new.cores.items ≡ old.cores.items → new.sources.items ≡ old.sources.items → new.collectors.items ≡ slice_set old.collectors.items k now
    → new.channels.items ≡ slice_set old.channels.items (collector_queue net k) x
    → IsTurn bounded net nodes (collector_worker net k) old true new
collector_takes bounded net nodes k v had now here x y old new t lt at item hist cons values cores sources collectors channels =
    let q = collector_queue net k in
    collector_moved bounded net nodes k v had now here old new y t at item lt (record {
      cores = cores;
      sources = sources;
      values = values;
      collectors = collectors;
      count = ap length channels ∙ length_set old.channels.items q x;
      channels = λ p z got. moved_take q v x y old.channels.items at item hist cons p z (ap (λ (xs : List Channel). slice_get xs p) (sym channels) ∙ got);
    })
