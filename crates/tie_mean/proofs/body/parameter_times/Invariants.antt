use Rattle.std.proofs.Common.{◌≡◌, take, map}
use Rattle.tie_mean.specs.Names as names
use Rattle.tie_mean.specs.Counts.{seen_behind}
use Rattle.tie_mean.specs.CountScope.{times_of}
use Rattle.tie_mean.proofs.body.parameter_times.Given as goal

abbrev pub invariant-loop-parameter : goal.invariant-loop-parameter
invariant-loop-parameter l =
    l.times.items ≡ map (times_of (seen_behind (names.table_named l.tree) l.tree.declarations l.declarations) l.function) (take l.parameter-index l.function.parameters)
