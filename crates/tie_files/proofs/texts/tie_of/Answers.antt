use Rattle.std.proofs.Common.{ap, inr}
use Rattle.tie_files.specs.declared.refusal.Refusal.TheVariants.{TieRefused}
use Rattle.tie_files.proofs.texts.tie_of.Goals as goal

pub returns-in_ok-copy_of-in-Err-Fault : goal.returns-in_ok-copy_of-in-Err-Fault
returns-in_ok-copy_of-in-Err-Fault c =
    let bad = c.read_tie.ensures.refused c.in-Err-Fault.rule c.in-Err-Fault.place (rw c.in-Err-Fault.field-0-is at c.in-Err-Fault.is) in
    inr (c.in-Err-Fault.rule, c.in-Err-Fault.place, bad, ap (λ n. TieRefused n c.in-Err-Fault.rule c.in-Err-Fault.place) c.in_ok-copy_of-in-Err-Fault.ensures)
