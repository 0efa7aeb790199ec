use Rattle.std.proofs.Common.{length}
use Rattle.xt_exec.proofs.places.+sent.Given as goal

abbrev pub decreases-sent : goal.decreases-sent
decreases-sent l = length l.values.now
