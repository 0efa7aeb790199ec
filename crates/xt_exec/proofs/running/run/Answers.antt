use Rattle.std.proofs.Common.{◌≡◌, ◌+◌, ◌∙◌, ℕ, suc, inl, subst, arith}
use Rattle.xt_exec.specs.Queues.{no_heads}
use Rattle.xt_exec.specs.Run.{Retired}
use Rattle.xt_exec.proofs.Kept.{step_ending}
use Rattle.xt_exec.proofs.running.run.Goals as goal

pub loop-retired-preserved : goal.loop-retired-preserved
loop-retired-preserved c =
    let kit = c.args.kit.now in
    let s = c.args.arch.now in
    let m = c.loop-retired.arch in
    let t = c.step.new.arch in
    let k = c.loop-retired.retired in
    let h = c.in-Stepped.ensures.step in
    let next : Retired kit (suc k) s t = (m, c.loop-retired.invariant.retired, (c.loop-retired.invariant.running, inl (c.in-Stepped.pushed, h))) in
    let one : suc k ≡ k + 1 = omega arith in
    let P : ℕ → Type 0 = λ n. Retired kit n s t in
    record {
      running = step_ending kit m no_heads c.in-Stepped.pushed t h ∙ c.loop-retired.invariant.running;
      retired = subst P one next;
      made = c.in-Stepped.ensures.made;
    }
