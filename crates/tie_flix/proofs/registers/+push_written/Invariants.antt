use Rattle.std.proofs.Common.{length}
use Rattle.tie_flix.proofs.registers.+push_written.Given as goal

abbrev pub decreases-push_written : goal.decreases-push_written
decreases-push_written l = length l.fields.now
