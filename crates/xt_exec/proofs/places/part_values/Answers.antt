use Rattle.std.proofs.Common.{◌≡◌, ◌∙◌, ap}
use Rattle.xt_core.specs.Action.{action}
use Rattle.xt_operate.specs.Operate.{action_values}
use Rattle.xt_exec.specs.Places.{core_view}
use Rattle.xt_exec.proofs.places.part_values.Goals as goal

pub returns-in-Core-clause-value : goal.returns-in-Core-clause-value
returns-in-Core-clause-value c =
    let same = c.action_at.ensures.value ∙ ap (λ i. action i (core_view c.args.arch.now)) c.slot_instruction-inst.ensures.value in
    rw c.in-Core.is (c.action_values.ensures.value ∙ ap (λ a. action_values a) same)
