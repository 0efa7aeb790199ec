use Rattle.std.proofs.Common.{◌≡◌, Err, ap}
use Rattle.tie_check.specs.declared.refusal.CheckRefusal.TheVariants.{Rule}
use Rattle.tie_check.proofs.check.Goals as goal

pub returns-in-Err-clause-refused : goal.returns-in-Err-clause-refused
returns-in-Err-clause-refused c = λ rule place e.
    let same : c.in-Err.refusal ≡ Rule rule place = cc in
    c.in-Err.ensures.first rule place (ap Err same)
