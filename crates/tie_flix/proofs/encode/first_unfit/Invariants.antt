use Rattle.tie_flix.specs.Faults.{PassBefore, fits_in}
use Rattle.tie_flix.proofs.encode.first_unfit.Given as goal

abbrev pub invariant-loop-i : goal.invariant-loop-i
invariant-loop-i l = PassBefore (fits_in l.desc) l.slots l.parts l.i
