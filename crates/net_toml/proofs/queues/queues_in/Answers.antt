use Rattle.std.proofs.Common.{◌≡◌, ◌∙◌, length, sym, arith, BTreeMap, Bor, String, Global}
use Rattle.std.proofs.lemmas.Grind.{common_steps}
use Rattle.std.proofs.lemmas.List.Elements.{All-push}
use Rattle.toml.specs.View.{table_view}
use Rattle.toml.specs.declared.value.Value.{Value}
use Rattle.net_toml.specs.Limits.{Between}
use Rattle.net_toml.specs.Walk.{queue_of}
use Rattle.net_toml.proofs.Steps.{each-next}
use Rattle.net_toml.proofs.queues.queues_in.Goals as goal

pub loop-table-preserved : goal.loop-table-preserved
loop-table-preserved c =
    let before = c.loop-table.queues.items in
    let counted : c.loop-table.queues.len ≡ length before = omega (arith, c.loop-table.queues.ok.0) in
    let this = rw (c.loop-table.invariant.named, c.len.ensures, counted) at c.in_ok-queue.ensures.value in
    let next = each-next queue_of (λ (t : Bor (BTreeMap (String Global) Value)). table_view t.now) before c.args.tables.now c.loop-table.table-index c.table-item.result c.in_ok-queue.queue c.loop-table-test.true c.table-item.is this in
    record {
      walk = rw c.in_ok-push.ensures.items (sym next ∙ c.loop-table.invariant.walk);
      named = grind (arith, common_steps);
      count = grind (arith, common_steps);
      within = rw c.in_ok-push.ensures.items (All-push (λ q. Between 1 4096 q.capacity) before c.in_ok-queue.queue c.loop-table.invariant.within c.in_ok-queue.ensures.within);
    }
