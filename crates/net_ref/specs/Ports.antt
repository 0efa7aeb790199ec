-- The tables of the ports' queues.
use Rattle.std.specs.Prelude.{◌≡◌, ℕ, length, map, Some, slice_get}
use Rattle.std.specs.List.{range_with_len}
use Rattle.net_parts.specs.declared.parts.Net.{Net}
use Rattle.net_parts.specs.declared.parts.NetCore.{NetCore}
use Rattle.net_ref.specs.declared.ports.CorePorts.{CorePorts}
use Rattle.net_ref.specs.declared.ports.Ports.{Ports}
use Rattle.net_ref.specs.Workers.{input_queue, output_queue, source_queue, collector_queue}

pub record AreCorePorts (net : Net) (c : ℕ) (here : NetCore) (ports : CorePorts) : Type 0 where
  pub ins : ports.ins.items ≡ map (input_queue net c) (range_with_len 0 (length here.kit.desc.ins))
  pub outs : ports.outs.items ≡ map (output_queue net c) (range_with_len 0 (length here.kit.desc.outs))

pub record ArePorts (net : Net) (ports : Ports) : Type 0 where
  pub core_count : length ports.cores.items ≡ length net.cores.items
  pub cores : (c : ℕ) (here : NetCore) (p : CorePorts) → slice_get net.cores.items c ≡ Some here → slice_get ports.cores.items c ≡ Some p → AreCorePorts net c here p
  pub sources : ports.sources.items ≡ map (source_queue net) (range_with_len 0 (length net.sources.items))
  pub collectors : ports.collectors.items ≡ map (collector_queue net) (range_with_len 0 (length net.collectors.items))
