-- What the turn of a processor asks for.
use Rattle.std.proofs.Common.{◌≡◌, ℕ, ◌<◌, List, length, get_or, All, Some, refl, sym, arith}
use Rattle.std.specs.Prelude.{slice_get}
use Rattle.std.proofs.lemmas.Option.{slice_get_read}
use Rattle.tie_desc.specs.Invariant.{IsDescription}
use Rattle.net_parts.specs.declared.parts.Net.{Net}
use Rattle.net_parts.specs.declared.parts.NetCore.{NetCore}
use Rattle.net_parts.specs.declared.ends.CoreEnd.{CoreEnd}
use Rattle.net_parts.specs.Network.{IsNet}
use Rattle.net_ref.specs.declared.channel.Channel.{Channel}
use Rattle.net_ref.specs.declared.ports.CorePorts.{CorePorts}
use Rattle.net_ref.specs.declared.ports.Ports.{Ports}
use Rattle.net_ref.specs.declared.running.Run.{Run}
use Rattle.net_ref.specs.Ports.{AreCorePorts, ArePorts}
use Rattle.net_ref.specs.Shown.{IsRun}
use Rattle.net_ref.specs.Workers.{input_queue, output_queue}
use Rattle.net_ref.proofs.Tables.{table_below, table_length}
use Rattle.net_ref.proofs.Wiring.{input_below, output_below}

pub ins_below : (net : Net) (c : ℕ) (here : NetCore) (p : CorePorts) (channels : List Channel) → IsNet net → slice_get net.cores.items c ≡ Some here → AreCorePorts net c here p
    → length channels ≡ length net.queues.items → All (λ q. q < length channels) p.ins.items
ins_below net c here p channels sound there table len =
    table_below (input_queue net c) (length here.kit.desc.ins) (length channels) p.ins.items table.ins
    (λ i lt. let below = input_below net c i here sound there lt in omega arith)

pub outs_below : (net : Net) (c : ℕ) (here : NetCore) (p : CorePorts) (channels : List Channel) → IsNet net → slice_get net.cores.items c ≡ Some here → AreCorePorts net c here p
    → length channels ≡ length net.queues.items → All (λ q. q < length channels) p.outs.items
outs_below net c here p channels sound there table len =
    table_below (output_queue net c) (length here.kit.desc.outs) (length channels) p.outs.items table.outs
    (λ i lt. let below = output_below net c i here sound there lt in omega arith)

pub few_ins : (net : Net) (c : ℕ) (here : NetCore) (p : CorePorts) → IsDescription here.kit.desc → AreCorePorts net c here p → length p.ins.items < 9
few_ins net c here p desc table =
    let len = table_length (input_queue net c) (length here.kit.desc.ins) p.ins.items table.ins in
    let few = desc.counts.ins in
    omega arith

pub few_outs : (net : Net) (c : ℕ) (here : NetCore) (p : CorePorts) → IsDescription here.kit.desc → AreCorePorts net c here p → length p.outs.items < 9
few_outs net c here p desc table =
    let len = table_length (output_queue net c) (length here.kit.desc.outs) p.outs.items table.outs in
    let few = desc.counts.outs in
    omega arith

-- the processor, its ports and what is shown of it, each at its place
pub record IsReady (net : Net) (run : Run) (n : ℕ) (here : NetCore) (p : CorePorts) (x : CoreEnd) : Type 0 where
  pub there : slice_get net.cores.items n ≡ Some here
  pub at : slice_get run.cores.items n ≡ Some x
  pub table : AreCorePorts net n here p

pub ready : (net : Net) (ports : Ports) (run : Run) (n : ℕ) (here : NetCore) (p : CorePorts) (x : CoreEnd) → ArePorts net ports → IsRun net run → n < length net.cores.items
    → here ≡ get_or net.cores.items n here → p ≡ get_or ports.cores.items n p → x ≡ get_or run.cores.items n x → IsReady net run n here p x
ready net ports run n here p x tables whole lt a b d =
    let there = slice_get_read net.cores.items (length net.cores.items) n here refl lt a in
    let few = tables.core_count in
    let many = whole.cores in
    record {
      there = there;
      at = slice_get_read run.cores.items (length net.cores.items) n x (sym whole.cores) lt d;
      table = tables.cores n here p there (slice_get_read ports.cores.items (length net.cores.items) n p (sym tables.core_count) lt b);
    }
