use Rattle.std.proofs.lemmas.Grind.{common_steps}
use Rattle.std.proofs.Common.{◌≡◌, ◌<◌, length, ℕ, List, subst, sym, ap, arith}
use Rattle.xt_state.specs.State.{File}
use Rattle.xt_state.proofs.Fit.{kept}
use Rattle.xt_state.proofs.bank.Bank.get.Goals as goal

pub returns : goal.returns
returns c =
    let place : c.args.i < length c.self.inside.values.items =
    let P : List ℕ → Type 0 = λ xs. c.args.i < length xs in
    subst P (sym (ap (λ (f : File). f.values) c.self.view_is)) c.requires in
    let same = kept c.self.inside.width c.self.inside.values.items c.args.i place c.self.invariant.2 in grind (arith, common_steps)
