use Rattle.std.proofs.Common.{ap, inr}
use Rattle.tie_files.specs.declared.refusal.Refusal.TheVariants.{HexRefused}
use Rattle.tie_files.proofs.texts.hex_of.Goals as goal

pub returns-in_ok-copy_of-in-Err-Fault-clause-bytes : goal.returns-in_ok-copy_of-in-Err-Fault-clause-bytes
returns-in_ok-copy_of-in-Err-Fault-clause-bytes c =
    inr (c.in-Err-Fault.rule, c.in-Err-Fault.place, rw c.in-Err-Fault.field-0-is at c.in-Err-Fault.ensures.value, ap (λ n. HexRefused n c.in-Err-Fault.rule c.in-Err-Fault.place) c.in_ok-copy_of-in-Err-Fault.ensures)
