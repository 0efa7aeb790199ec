use Rattle.std.proofs.Common.{◌≡◌, drop, map}
use Rattle.tie_results.specs.Texts.{first_function}
use Rattle.tie_results.proofs.text.find_function.Given as goal

abbrev pub invariant-loop-function : goal.invariant-loop-function
invariant-loop-function l = first_function (map (λ f. f.now) (drop l.function-index l.functions)) l.name.bytes ≡ first_function (map (λ f. f.now) l.functions) l.name.bytes
