use Rattle.std.proofs.Common.{◌+◌, sym, ap, ◌∙◌, drop, Option, ℕ}
use Rattle.std.specs.List.{flat_map}
use Rattle.tie_rules.specs.Widths.{found, either}
use Rattle.tie_rules.proofs.Found.{among_next}
use Rattle.tie_rules.proofs.widths.width_among.Goals as goal

pub returns-in-Some : goal.returns-in-Some
returns-in-Some g c =
    let d = g.D.Declares.declared c.args.declares.now in
    let name = c.args.name.now.bytes in
    let rest = found (flat_map d (drop (c.loop-x.x-index + 1) c.args.xs.now)) name in
    ap (λ (o : Option ℕ). either o rest) (sym c.in-Some.is ∙ c.width_of.ensures)
    ∙ among_next d name c.args.xs.now c.loop-x.x-index c.x-item.result _ c.loop-x-test.true c.x-item.is c.loop-x.invariant

pub loop-x-preserved : goal.loop-x-preserved
loop-x-preserved g c =
    let d = g.D.Declares.declared c.args.declares.now in
    let name = c.args.name.now.bytes in
    let rest = found (flat_map d (drop (c.loop-x.x-index + 1) c.args.xs.now)) name in
    ap (λ (o : Option ℕ). either o rest) (sym c.in_default.is ∙ c.width_of.ensures)
    ∙ among_next d name c.args.xs.now c.loop-x.x-index c.x-item.result _ c.loop-x-test.true c.x-item.is c.loop-x.invariant
