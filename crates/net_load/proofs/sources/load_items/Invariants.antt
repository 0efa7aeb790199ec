use Rattle.std.proofs.Common.{◌≡◌, ◌≤◌, List, ℕ}
use Rattle.net_desc.specs.net_parts.Network.{IsNet}
use Rattle.net_desc.specs.net_toml.Walk.{source_names}
use Rattle.tie_files.specs.Files.{shelved}
use Rattle.net_load.specs.Pieces.{SameAround}
use Rattle.net_load.proofs.SourceSteps.{AreGiven, net_names}
use Rattle.net_load.proofs.sources.load_items.Given as goal

abbrev pub invariant-loop-i : goal.invariant-loop-i
invariant-loop-i g l = record {
  network : IsNet l.net;
  around : SameAround l.fn.net l.net;
  names : net_names l.net ≡ source_names l.plan.sources;
  items : AreGiven (shelved g.S.Shelf.holds g.S.Shelf.faults l.fn.shelf l.shelf) l.fn.net l.net l.plan.sources l.i;
  same : (other : List ℕ) → g.S.Shelf.holds l.shelf other ≡ g.S.Shelf.holds l.fn.shelf other;
  later : (other : List ℕ) → g.S.Shelf.faults l.fn.shelf other ≤ g.S.Shelf.faults l.shelf other;
}
