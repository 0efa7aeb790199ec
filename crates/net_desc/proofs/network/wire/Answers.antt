use Rattle.std.proofs.Common.{◌≡◌, length, Ok, refl, sym, ap, ◌∙◌, arith}
use Rattle.std.specs.Prelude.{map}
use Rattle.net_desc.specs.Workers.{cores_with, itemless}
use Rattle.net_desc.specs.Wiring.{wiring}
use Rattle.net_desc.proofs.Kept.{cores_count, wire-kept}
use Rattle.net_desc.proofs.network.wire.Goals as goal

pub wired_queues-requires-clause-cores : goal.wired_queues-requires-clause-cores
wired_queues-requires-clause-cores c =
    let plan = c.args.plan.now in
    let ks = c.args.kits.items in
    let cores : c.in_ok-cores.cores.items ≡ cores_with plan.cores ks = c.in_ok-cores.ensures ∙ ap (λ ps. cores_with ps ks) c.as_slice.ensures in
    let n : length c.as_slice-4.result.now ≡ length plan.cores = ap length c.as_slice-4.ensures.value ∙ ap length cores ∙ cores_count plan.cores ks c.requires.kits.count in
    let few = c.requires.plan.counts.cores in
    omega arith

pub returns-clause-network : goal.returns-clause-network
returns-clause-network c =
    let plan = c.args.plan.now in
    let ks = c.args.kits.items in
    let cores : c.in_ok-cores.cores.items ≡ cores_with plan.cores ks = c.in_ok-cores.ensures ∙ ap (λ ps. cores_with ps ks) c.as_slice.ensures in
    let queues : wiring (cores_with plan.cores ks) plan ≡ Ok c.in_ok-queues.queues.items =
    ap (λ cs. wiring cs plan) (sym cores ∙ sym c.as_slice-4.ensures.value) ∙ c.in_ok-queues.ensures in
    wire-kept plan ks _ c.requires.plan c.requires.kits
    (record {
      kill = refl;
      cores = cores;
      sources = c.in_ok-sources.ensures ∙ ap (map itemless) c.as_slice-2.ensures;
      collectors = c.in_ok-collectors.ensures ∙ c.as_slice-3.ensures;
    })
    queues
