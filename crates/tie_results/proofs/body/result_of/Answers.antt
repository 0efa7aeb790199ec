use Rattle.std.proofs.Common.{sym, ◌∙◌}
use Rattle.tie_results.specs.Callees.{body_of}
use Rattle.tie_results.proofs.Gathered.{result_made}
use Rattle.tie_results.proofs.body.result_of.Goals as goal

pub returns : goal.returns
returns c =
    result_made (body_of c.args.frame.now) c.args.made.now c.args.output.now.bytes c.in-Some.at c.in-Some-made_at.e.now c.in_ok-copy-in-Some-made_at.field-0
    (sym c.requires.setters ∙ sym c.in-Some.ensures) c.requires.made (sym c.in-Some-made_at.ensures)
    c.in_ok-copy-in-Some-made_at.ensures.means c.in_ok-copy-in-Some-made_at.ensures.inputs c.in_ok-copy-in-Some-made_at.ensures.size
