use Rattle.std.proofs.Common.{◌≡◌, ◌≤◌, List, ℕ, take}
use Rattle.tie_files.specs.Files.{shelved}
use Rattle.net_load.specs.Loaded.{AreCoresOf}
use Rattle.net_load.proofs.cores.load_kits.Given as goal

abbrev pub invariant-loop-i : goal.invariant-loop-i
invariant-loop-i g l = record {
  kits : AreCoresOf (shelved g.S.Shelf.holds g.S.Shelf.faults l.fn.shelf l.shelf) 0 (take l.i l.plan.cores) l.kits.items;
  same : (other : List ℕ) → g.S.Shelf.holds l.shelf other ≡ g.S.Shelf.holds l.fn.shelf other;
  later : (other : List ℕ) → g.S.Shelf.faults l.fn.shelf other ≤ g.S.Shelf.faults l.shelf other;
}
