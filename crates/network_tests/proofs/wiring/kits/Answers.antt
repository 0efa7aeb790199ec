use Rattle.std.proofs.Common.{arith}
use Rattle.std.proofs.lemmas.List.Elements.{All-push, All-same}
use Rattle.network_tests.proofs.NoPrograms.{IsEmpty}
use Rattle.network_tests.proofs.wiring.kits.Goals as goal

pub loop-preserved : goal.loop-preserved
loop-preserved c = record {
  count = omega (arith, c.in_ok-push.ensures.len);
  empty =
      All-same IsEmpty _ _ c.in_ok-push.ensures.items
      (All-push IsEmpty c.loop.made.items c.in_ok-kit.field-0 c.loop.invariant.empty (c.in_ok-kit.ensures.text, c.in_ok-kit.ensures.image));
}
