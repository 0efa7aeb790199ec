use Rattle.std.proofs.Common.{ap, inr}
use Rattle.tie_files.specs.declared.refusal.Refusal.TheVariants.{AsmRefused}
use Rattle.tie_files.proofs.texts.source_of.Goals as goal

pub returns-in_ok-copy_of-in-Err-Fault : goal.returns-in_ok-copy_of-in-Err-Fault
returns-in_ok-copy_of-in-Err-Fault c =
    let fault = c.in-Err-Fault in
    inr (fault.rule, fault.line, fault.column, rw fault.field-0-is at fault.ensures.fault, ap (λ n. AsmRefused n fault.rule fault.line fault.column) c.in_ok-copy_of-in-Err-Fault.ensures)
