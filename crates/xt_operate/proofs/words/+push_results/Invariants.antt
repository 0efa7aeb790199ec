use Rattle.std.proofs.Common.{length}
use Rattle.xt_operate.proofs.words.+push_results.Given as goal

abbrev pub decreases-push_results : goal.decreases-push_results
decreases-push_results l = length l.bounds.now
