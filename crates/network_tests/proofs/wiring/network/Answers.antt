use Rattle.std.proofs.Common.{◌∙◌}
use Rattle.network_tests.proofs.NoPrograms.{kits_without_programs}
use Rattle.network_tests.proofs.wiring.network.Goals as goal

pub wire-requires-clause-kits : goal.wire-requires-clause-kits
wire-requires-clause-kits c = kits_without_programs _ _ (c.in_ok-kits.ensures.count ∙ c.len.ensures) c.in_ok-kits.ensures.empty
