use Rattle.std.proofs.Common.{◌≡◌, ℕ, List, Vec, Global, [], Some, slice_get, sym, subst, arith}
use Rattle.std.proofs.lemmas.Grind.{common_steps}
use Rattle.net_ref.proofs.Pushed.{more_values}
use Rattle.net_ref.proofs.running.no_values.Goals as goal

pub loop-preserved : goal.loop-preserved
loop-preserved c = record {
  len = grind (arith, common_steps);
  each =
      subst (λ (xs : List (Vec ℕ Global)). (k : ℕ) (x : Vec ℕ Global) → slice_get xs k ≡ Some x → x.items ≡ []) (sym c.in_ok-push.ensures.items)
      (more_values c.loop.all.items c.new.result c.new.ensures.items c.loop.invariant.each);
}
