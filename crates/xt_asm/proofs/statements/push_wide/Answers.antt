use Rattle.std.proofs.Common.{subst}
use Rattle.xt_asm.specs.Spelled.{HasFormat}
use Rattle.xt_asm.proofs.Unbroken.{few_parts}
use Rattle.xt_asm.proofs.statements.push_wide.Goals as goal

pub parts_of-parts-requires : goal.parts_of-parts-requires
parts_of-parts-requires c =
    few_parts c.args.desc.now c.in-Some.format c.args.operations.now c.facts.ensures (subst (λ f. HasFormat c.args.desc.now f c.args.operations.now) c.in-Some.is c.requires)
