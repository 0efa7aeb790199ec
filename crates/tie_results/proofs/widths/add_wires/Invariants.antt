use Rattle.std.proofs.Common.{◌≡◌, ◌++◌, take, map}
use Rattle.tie_mean.specs.Names.{wires}
use Rattle.tie_results.specs.Texts.{shown, limited_declared}
use Rattle.tie_results.proofs.widths.add_wires.Given as goal

abbrev pub invariant-loop-item : goal.invariant-loop-item
invariant-loop-item l = map shown l.found.items ≡ map shown l.fn.found.items ++ map limited_declared (wires (take l.item-index l.items))
