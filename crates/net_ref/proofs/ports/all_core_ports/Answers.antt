use Rattle.std.proofs.Common.{◌≡◌, ℕ, List, Some, slice_get, length, refl, sym, subst, arith}
use Rattle.std.proofs.lemmas.Option.{slice_get_read}
use Rattle.std.proofs.lemmas.Grind.{common_steps}
use Rattle.net_parts.specs.declared.parts.NetCore.{NetCore}
use Rattle.net_ref.specs.declared.ports.CorePorts.{CorePorts}
use Rattle.net_ref.specs.Ports.{AreCorePorts}
use Rattle.net_ref.proofs.Pushed.{more_ports}
use Rattle.net_ref.proofs.ports.all_core_ports.Goals as goal

pub loop-c-preserved : goal.loop-c-preserved
loop-c-preserved c =
    let net = c.args.net.now in
    let all = c.loop-c.all in
    let n = c.loop-c.c in
    let here = c.index.result.now in
    let len : n ≡ length all.items = let a = c.loop-c.invariant.len in let b = all.ok.0 in omega arith in
    record {
      len = grind (arith, common_steps);
      each =
          subst (λ (xs : List CorePorts). (c : ℕ) (core : NetCore) (ports : CorePorts) → slice_get net.cores.items c ≡ Some core → slice_get xs c ≡ Some ports → AreCorePorts net c core ports)
          (sym c.in_ok-push.ensures.items)
          (more_ports net all.items here c.in_ok-core_ports.field-0 n len (slice_get_read net.cores.items _ n here refl (omega arith) c.index.ensures) c.in_ok-core_ports.ensures c.loop-c.invariant.each);
    }
