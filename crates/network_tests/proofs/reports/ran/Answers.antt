use Rattle.std.proofs.Common.{refl}
use Rattle.network_tests.proofs.reports.ran.Goals as goal

pub run-retired-requires-clause-made : goal.run-retired-requires-clause-made
run-retired-requires-clause-made c = c.in_ok-arch.ensures.made (record { desc = c.empty-desc.result; image = c.in_ok-image.image }) refl c.in_ok-image.ensures
