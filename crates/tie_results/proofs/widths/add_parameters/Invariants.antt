use Rattle.std.proofs.Common.{◌≡◌, ◌++◌, take, map}
use Rattle.tie_mean.specs.Names.{parameter_declared}
use Rattle.tie_results.specs.Texts.{shown, limited_declared}
use Rattle.tie_results.proofs.widths.add_parameters.Given as goal

abbrev pub invariant-loop-parameter : goal.invariant-loop-parameter
invariant-loop-parameter l = map shown l.found.items ≡ map shown l.fn.found.items ++ map limited_declared (map parameter_declared (take l.parameter-index l.parameters))
