use Rattle.std.proofs.Common.{refl}
use Rattle.processor_tests.proofs.machine.made.Goals as goal

pub returns-clause-made : goal.returns-clause-made
returns-clause-made c = c.in_ok-arch.ensures.made (record { desc = c.in_ok-desc.desc; image = c.in_ok-image.image }) refl c.in_ok-image.ensures
