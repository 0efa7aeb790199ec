use Rattle.std.proofs.Common.{map, sym}
use Rattle.tie_mean.specs.Names.{link_declared}
use Rattle.tie_results.specs.Texts.{limited_declared}
use Rattle.tie_results.proofs.Declared.{found_here}
use Rattle.tie_results.proofs.widths.declared_link.Goals as goal

pub returns-in-Some : goal.returns-in-Some
returns-in-Some c =
    sym (found_here (λ d. map limited_declared (link_declared d)) c.args.declarations.now c.loop-declaration.declaration-index c.declaration-item.result c.args.name.now.bytes c.in-Some.width _
    c.loop-declaration-test.true c.declaration-item.is c.in-Some.ensures c.loop-declaration.invariant)
