use Rattle.kahn_law.proofs.Blocks.{ends_as_strict}
use Rattle.kahn_law.proofs.no_false_block.Goals as goal

pub returns : goal.returns
returns g c net kept wired causal finished = ends_as_strict net wired kept causal finished
