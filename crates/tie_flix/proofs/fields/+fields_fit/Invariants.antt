use Rattle.std.proofs.Common.{length}
use Rattle.tie_flix.proofs.fields.+fields_fit.Given as goal

abbrev pub decreases-fields_fit : goal.decreases-fields_fit
decreases-fields_fit l = length l.fields.now
