-- The network of one processor that stands alone.
use Rattle.std.specs.Prelude.{◌≡◌, ℕ, ◌+◌, List, [], ◌∷◌, ◌++◌, map, codes, None}
use Rattle.tie_desc.specs.declared.declarations.QueueDecl.{QueueDecl}
use Rattle.net_toml.specs.net_parts.declared.parts.Net.{Net}
use Rattle.net_toml.specs.net_parts.declared.parts.NetCore.{NetCore}
use Rattle.net_toml.specs.net_parts.declared.parts.NetCollector.{NetCollector}
use Rattle.net_toml.specs.net_parts.declared.parts.NetQueue.{NetQueue}
use Rattle.net_toml.specs.net_parts.declared.parts.FromEnd.TheVariants as from
use Rattle.net_toml.specs.net_parts.declared.parts.ToEnd.TheVariants as to
use Rattle.net_desc.specs.Workers.{Loaded, source_parts}

-- the processor, which has 65,536 bytes of memory and a budget of 1,000,000 bundles
abbrev pub alone_core : Loaded → NetCore
alone_core k = record { name = codes "main"; kit = k.0; text = k.1; memory = 65536; budget = 1000000; dump = None }

-- a source without items feeds an input queue
abbrev pub alone_source : QueueDecl → List ℕ × List ℕ
alone_source q = (q.name, [])

-- a collector reads an output queue
abbrev pub alone_collector : QueueDecl → NetCollector
alone_collector q = record { name = q.name; limit = 262144 }

-- the input queues, numbered from here on
abbrev pub alone_inputs : ℕ → List QueueDecl → List NetQueue
alone_inputs i [] = []
alone_inputs i (q ∷ qs) = record { name = q.name; capacity = 1; from = from.Source i; to = to.Core 0 i } ∷ alone_inputs (i + 1) qs

-- the output queues, numbered from here on
abbrev pub alone_outputs : ℕ → List QueueDecl → List NetQueue
alone_outputs o [] = []
alone_outputs o (q ∷ qs) = record { name = q.name; capacity = 1; from = from.Core 0 o; to = to.Collector o } ∷ alone_outputs (o + 1) qs

-- its sources, collectors and queues have the names of the processor's queues
pub record IsAlone (k : Loaded) (net : Net) : Type 0 where
  pub kill : net.kill ≡ 0
  pub cores : net.cores.items ≡ alone_core k ∷ []
  pub sources : map source_parts net.sources.items ≡ map alone_source k.0.desc.ins
  pub collectors : net.collectors.items ≡ map alone_collector k.0.desc.outs
  pub queues : net.queues.items ≡ alone_inputs 0 k.0.desc.ins ++ alone_outputs 0 k.0.desc.outs
