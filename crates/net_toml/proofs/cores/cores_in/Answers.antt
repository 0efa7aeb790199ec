use Rattle.std.proofs.Common.{◌≡◌, ◌∙◌, length, sym, arith, BTreeMap, Bor, String, Global}
use Rattle.std.proofs.lemmas.Grind.{common_steps}
use Rattle.std.proofs.lemmas.List.Elements.{All-push}
use Rattle.toml.specs.View.{table_view}
use Rattle.toml.specs.declared.value.Value.{Value}
use Rattle.net_toml.specs.Limits.{IsCorePlan}
use Rattle.net_toml.specs.Walk.{core_of}
use Rattle.net_toml.proofs.Steps.{each-next}
use Rattle.net_toml.proofs.cores.cores_in.Goals as goal

pub loop-table-preserved : goal.loop-table-preserved
loop-table-preserved c =
    let before = c.loop-table.cores.items in
    let counted : c.loop-table.cores.len ≡ length before = omega (arith, c.loop-table.cores.ok.0) in
    let this = rw (c.loop-table.invariant.named, c.len.ensures, counted) at c.in_ok-core.ensures.value in
    let next = each-next core_of (λ (t : Bor (BTreeMap (String Global) Value)). table_view t.now) before c.args.tables.now c.loop-table.table-index c.table-item.result c.in_ok-core.core c.loop-table-test.true c.table-item.is this in
    record {
      walk = rw c.in_ok-push.ensures.items (sym next ∙ c.loop-table.invariant.walk);
      named = grind (arith, common_steps);
      count = grind (arith, common_steps);
      within = rw c.in_ok-push.ensures.items (All-push (IsCorePlan) before c.in_ok-core.core c.loop-table.invariant.within c.in_ok-core.ensures.within);
    }
