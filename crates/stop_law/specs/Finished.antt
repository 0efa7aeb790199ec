-- Where a run of a network has finished: nobody waits without cause.
use Rattle.std.specs.Prelude.{◌≡◌, ◌⊎◌, ℕ, ◌==◌, Bool, true, false, IsTrue, Vec, length, Option, Some, None, slice_get}
use Rattle.std.specs.Global.{Global}
use Rattle.tie_report.specs.net_parts.declared.parts.Net.{Net}
use Rattle.tie_report.specs.net_parts.declared.parts.NetCore.{NetCore}
use Rattle.tie_report.specs.net_parts.declared.parts.NetSource.{NetSource}
use Rattle.tie_report.specs.net_parts.declared.parts.NetCollector.{NetCollector}
use Rattle.tie_report.specs.net_parts.declared.ends.CoreEnd.{CoreEnd}
use Rattle.tie_report.specs.net_parts.declared.ends.QueueEnd.{QueueEnd}
use Rattle.tie_report.specs.net_parts.declared.ends.RunEnd.{RunEnd}
use Rattle.tie_report.specs.net_ref.Workers.{capacity_of, collector_queue, source_queue}
use Rattle.tie_report.specs.declared.standing.Standing.{Standing}
use Rattle.tie_report.specs.declared.standing.Standing.TheVariants.{Halted, Trapped, Spent, Empty, Full, Running}
use Rattle.tie_report.specs.Standing.{is_empty, is_full, standing}

-- a processor that doesn't go on has halted, has trapped, has used up its budget, or waits at an empty queue or, where queues have
-- capacities, at a full one
abbrev pub IsStill : Bool → Standing → Type 0
IsStill bounded Halted = Unit {0}
IsStill bounded (Trapped trap) = Unit {0}
IsStill bounded Spent = Unit {0}
IsStill bounded (Empty q) = Unit {0}
IsStill bounded (Full q) = bounded ≡ true
IsStill bounded Running = ⊥

-- so many items were pushed
abbrev pub has_pushed : ℕ → Option QueueEnd → Bool
has_pushed n None = false
has_pushed n (Some e) = e.pushed == n

pub record IsFinished (bounded : Bool) (net : Net) (end : RunEnd) : Type 0 where
  pub cores : (c : ℕ) (here : NetCore) (e : CoreEnd) → slice_get net.cores.items c ≡ Some here → slice_get end.cores.items c ≡ Some e
      → IsStill bounded (standing net end c here e)
  -- a source has pushed all its items, or waits at a full queue
  pub sources : (s : ℕ) (here : NetSource) → slice_get net.sources.items s ≡ Some here
      → IsTrue (has_pushed (length here.items.items) (slice_get end.queues.items (source_queue net s)))
      ⊎ ((bounded ≡ true) × IsTrue (is_full (capacity_of (slice_get net.queues.items (source_queue net s))) (slice_get end.queues.items (source_queue net s))))
  -- a collector has as many items as its limit, or waits at an empty queue
  pub collectors : (k : ℕ) (here : NetCollector) (vs : Vec ℕ Global) → slice_get net.collectors.items k ≡ Some here → slice_get end.collected.items k ≡ Some vs
      → (length vs.items ≡ here.limit) ⊎ IsTrue (is_empty (slice_get end.queues.items (collector_queue net k)))
