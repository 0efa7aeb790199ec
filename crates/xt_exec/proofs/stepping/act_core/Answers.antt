use Rattle.std.proofs.Common.{◌≡◌, ◌+◌, ◌∙◌, Some, None, ap, subst, sym, arith}
use Rattle.xt_core.specs.Action.{action}
use Rattle.tie_desc.specs.declared.bundle.Bundle.TheVariants as bundle
use Rattle.xt_exec.specs.declared.answer.Step.{Step}
use Rattle.xt_exec.specs.Memory.{access_trap}
use Rattle.xt_exec.specs.Places.{core_view}
use Rattle.xt_exec.specs.Effect.{after, core_effect}
use Rattle.xt_exec.specs.Step.{Acts}
use Rattle.xt_exec.proofs.CoreLemmas.{core_items, core_sends}
use Rattle.xt_exec.proofs.stepping.act_core.Goals as goal

pub returns-in-Some : goal.returns-in-Some
returns-in-Some c =
    let s = c.args.arch.now in
    let P : Step → Type 0 = λ x. Acts c.args.desc.now s c.args.heads.now (bundle.Core c.args.inst) c.args.size x c.trap.new.arch in
    let traps = ap (λ x. access_trap s x.access) (sym c.action_at-action.ensures.value) ∙ sym c.access_trap.ensures ∙ c.in-Some.is in
    subst P (sym c.trap.ensures.answer) (traps, c.trap.ensures.state)

pub returns-then-action : goal.returns-then-action
returns-then-action c =
    let s = c.args.arch.now in
    let same = c.action_at-action.ensures.value in
    let behind : c.pc.result + c.from.result ≡ s.pc + c.args.size = omega (arith, c.pc.ensures, c.from.ensures) in (
      ap (λ x. access_trap s x.access) (sym same) ∙ sym c.access_trap.ensures ∙ c.in-None.is,
      core_items c.args.desc.now c.args.inst c.args.heads.now,
      ap (λ x. x.halts) (sym same) ∙ c.if-action.true,
      c.carry_out.ensures ∙ ap (λ x. after (core_effect x) (c.pc.result + c.from.result) s) same
          ∙ ap (λ n. after (core_effect (action c.args.inst (core_view s))) n s) behind,
    )

pub returns-else-action : goal.returns-else-action
returns-else-action c =
    let s = c.args.arch.now in
    let same = c.action_at-action.ensures.value in
    let behind : c.pc.result + c.from.result ≡ s.pc + c.args.size = omega (arith, c.pc.ensures, c.from.ensures) in (
      ap (λ x. access_trap s x.access) (sym same) ∙ sym c.access_trap.ensures ∙ c.in-None.is,
      core_items c.args.desc.now c.args.inst c.args.heads.now,
      ap (λ x. x.halts) (sym same) ∙ c.if-action.false,
      sym (core_sends (action c.args.inst (core_view s))),
      c.carry_out.ensures ∙ ap (λ x. after (core_effect x) (c.pc.result + c.from.result) s) same
          ∙ ap (λ n. after (core_effect (action c.args.inst (core_view s))) n s) behind,
    )
