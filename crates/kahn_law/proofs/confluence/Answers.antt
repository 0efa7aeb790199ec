use Rattle.kahn_law.proofs.Reached.{prefix_facts}
use Rattle.kahn_law.proofs.confluence.Goals as goal

pub returns : goal.returns
returns g c net kept wired causal = prefix_facts net wired kept causal
