use Rattle.std.proofs.Common.{◌≡◌, All, List, subst, sym, arith}
use Rattle.std.proofs.lemmas.Grind.{common_steps}
use Rattle.xt_operate.specs.declared.bounds.Bound.{Bound}
use Rattle.xt_operate.specs.Bounds.{IsBound, bounds}
use Rattle.xt_operate.proofs.BoundLemmas.{have_bounds}
use Rattle.xt_operate.proofs.bounds.bounds_of.Goals as goal

pub returns-clause-have : goal.returns-clause-have
returns-clause-have c fit =
    let P : List Bound → Type 0 = λ xs. All (IsBound c.args.desc.now) xs in
    let same : c.push_links.new.out.items ≡ bounds c.args.desc.now c.args.part.now = grind (arith, common_steps) in
    subst P (sym same) (have_bounds c.args.desc.now c.args.part.now c.facts.ensures fit)
