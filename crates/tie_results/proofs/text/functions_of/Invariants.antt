use Rattle.std.proofs.Common.{◌≡◌, take, map}
use Rattle.std.specs.List.{flat_map}
use Rattle.tie_mean.specs.Names.{function_of}
use Rattle.tie_results.proofs.text.functions_of.Given as goal

abbrev pub invariant-loop-declaration : goal.invariant-loop-declaration
invariant-loop-declaration l = map (λ f. f.now) l.found.items ≡ flat_map function_of (take l.declaration-index l.declarations)
