use Rattle.std.proofs.Common.{ap, ◌∙◌}
use Rattle.tie_rules.specs.Least.{behind}
use Rattle.tie_rules.specs.Names.{body}
use Rattle.tie_rules.specs.Bodies.{wire_name, wire_doubled}
use Rattle.tie_rules.specs.NameSets.{at_again, wire_doubled_here}
use Rattle.tie_rules.proofs.NamedItems.{same_place, wires_again}
use Rattle.tie_rules.proofs.locals.wires_doubled.Goals as goal

pub returns : goal.returns
returns c =
    let t = c.args.tree.now in
    let decl = c.args.decl.now in
    let items = c.body.result.now in
    same_place c.least_again.result (behind (at_again wire_name (wire_doubled_here t decl)) items) (behind (wire_doubled t decl) (body decl))
    (wires_again t decl items ∙ ap (behind (wire_doubled t decl)) c.body.ensures) c.least_again.ensures
