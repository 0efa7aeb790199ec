use Rattle.std.proofs.Common.{List, ℕ, Option, [], refl, subst, inr}
use Rattle.tie_io.specs.Writing.{GrewWithin}
use Rattle.load_law.specs.tie_files.declared.refusal.Refusal.TheVariants as refusals
use Rattle.tie_top.specs.Printing as printing
use Rattle.tie_top.proofs.Writing.{Grew-nothing}
use Rattle.tie_top.proofs.delivery.deliver_refusal.Goals as goal

pub returns : goal.returns
returns g c =
    let same = rw c.in-Err-NoMemory.field-0-is at c.in-Err-NoMemory.ensures.bytes in
    inr (inr (
      c.want-in-Err-NoMemory.ensures.status,
      (
        ([], ([], refl), Grew-nothing _),
        subst (λ (z : Option (List ℕ)). GrewWithin z (g.O.Sink.written c.want-in-Err-NoMemory.new.err) (printing.line_of refusals.NoMemory)) same c.want-in-Err-NoMemory.ensures.within,
      ),
    ))
