use Rattle.std.proofs.Common.{◌≡◌, arith}
use Rattle.std.proofs.lemmas.Grind.{common_steps}
use Rattle.std.specs.Prelude.{IfOk}
use Rattle.tie_desc.specs.Fetching.{IsImage}
use Rattle.tie_desc.specs.declared.bundle.Kit.{Kit}
use Rattle.xt_state.specs.State.{State}
use Rattle.xt_exec.specs.First.{first_state}
use Rattle.xt_exec.specs.Made.{IsFor}
use Rattle.xt_exec.proofs.StartLemmas.{IsMade, if_ok, made_state}
use Rattle.xt_exec.proofs.starting.start.Goals as goal

pub returns-clause-made : goal.returns-clause-made
returns-clause-made c =
    let d = c.args.desc.now in
    let first : IfOk c.new.result (λ arch. arch ≡ first_state d c.args.memory c.args.text.now) = grind (arith, common_steps) in
    if_ok c.new.result (λ arch. arch ≡ first_state d c.args.memory c.args.text.now) (IsMade d c.args.text.now) (made_state d c.args.memory c.args.text.now) first
