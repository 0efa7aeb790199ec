use Rattle.tie_desc.specs.Spelling.{is_listed}
use Rattle.tie_flix.specs.Faults.{PassBefore}
use Rattle.tie_flix.proofs.encode.first_unlisted.Given as goal

abbrev pub invariant-loop-i : goal.invariant-loop-i
invariant-loop-i l = PassBefore is_listed l.slots l.parts l.i
