use Rattle.std.proofs.Common.{◌≡◌, ◌++◌, take, map}
use Rattle.tie_mean.specs.Names.{argument_declared}
use Rattle.tie_results.specs.Texts.{shown, limited_declared}
use Rattle.tie_results.proofs.widths.add_arguments.Given as goal

abbrev pub invariant-loop-argument : goal.invariant-loop-argument
invariant-loop-argument l = map shown l.found.items ≡ map shown l.fn.found.items ++ map limited_declared (map (argument_declared l.tree) (take l.argument-index l.arguments))
