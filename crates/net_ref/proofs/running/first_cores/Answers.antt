use Rattle.std.proofs.Common.{◌≡◌, ℕ, List, Some, slice_get, length, refl, sym, subst, arith}
use Rattle.std.proofs.lemmas.Option.{slice_get_read}
use Rattle.std.proofs.lemmas.Grind.{common_steps}
use Rattle.net_parts.specs.declared.parts.NetCore.{NetCore}
use Rattle.net_parts.specs.declared.ends.CoreEnd.{CoreEnd}
use Rattle.net_ref.specs.First.{IsFirstCore}
use Rattle.net_ref.proofs.Pushed.{more_cores}
use Rattle.net_ref.proofs.running.first_cores.Goals as goal

pub loop-core-preserved : goal.loop-core-preserved
loop-core-preserved c =
    let cores = c.args.cores.now in
    let all = c.loop-core.all in
    let n = c.loop-core.core-index in
    let here = c.core-item.result in
    let len : n ≡ length all.items = let a = c.loop-core.invariant.len in let b = all.ok.0 in omega arith in
    record {
      len = grind (arith, common_steps);
      each =
          subst (λ (xs : List CoreEnd). (c : ℕ) (here : NetCore) (x : CoreEnd) → slice_get cores c ≡ Some here → slice_get xs c ≡ Some x → IsFirstCore here x)
          (sym c.in_ok-push.ensures.items)
          (more_cores cores all.items here c.in_ok-first_core.field-0 n len (slice_get_read cores _ n here refl (omega arith) c.core-item.is) c.in_ok-first_core.ensures c.loop-core.invariant.each);
    }
