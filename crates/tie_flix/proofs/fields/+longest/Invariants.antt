use Rattle.std.proofs.Common.{length}
use Rattle.tie_flix.proofs.fields.+longest.Given as goal

abbrev pub decreases-longest : goal.decreases-longest
decreases-longest l = length l.codes.now
