use Rattle.std.proofs.Common.{◌≡◌, ◌<◌, ◌^◌, take, map}
use Rattle.std.specs.List.{All}
use Rattle.tie_mean.specs.Literals.{literal_value}
use Rattle.tie_results.proofs.text.entries.Given as goal

abbrev pub invariant-loop-literal : goal.invariant-loop-literal
invariant-loop-literal l = (l.found.items ≡ map literal_value (take l.literal-index l.literals)) × All (λ x. x < 2 ^ l.width) l.found.items
