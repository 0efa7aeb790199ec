use Rattle.std.proofs.Common.{Err, ap, inr}
use Rattle.tie_files.specs.declared.refusal.Refusal.TheVariants.{ReadFault, TooLong}
use Rattle.tie_files.specs.Files.{ReadFails, IsTooLong}
use Rattle.tie_files.proofs.reading.read_file.Goals as goal

pub returns-in-Err-Failed-clause-read : goal.returns-in-Err-Failed-clause-read
returns-in-Err-Failed-clause-read g c =
    inr (ReadFails (ap (λ n. ReadFault n) c.in_ok-owned.ensures) (c.in-Err-Failed.ensures.failed (ap (λ e. Err e) c.in-Err-Failed.field-0-is)))

pub returns-in-Err-TooLong-clause-read : goal.returns-in-Err-TooLong-clause-read
returns-in-Err-TooLong-clause-read g c =
    let longer = rw c.in-Err-TooLong.field-0-is at c.in-Err-TooLong.ensures.bytes in
    inr (IsTooLong (ap (λ n. TooLong n) c.in_ok-owned.ensures) _ longer)
