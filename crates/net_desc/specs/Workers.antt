-- The workers of a network with its plan and its kits.
use Rattle.std.specs.Prelude.{◌≡◌, ℕ, ◌≤◌, List, [], length, map, All, Vec}
use Rattle.std.specs.List.{zip}
use Rattle.std.specs.declared.alloc.Global.{Global}
use Rattle.tie_desc.specs.Fetching.{IsImage}
use Rattle.tie_desc.specs.declared.bundle.Kit.{Kit}
use Rattle.net_toml.specs.net_parts.declared.parts.Net.{Net}
use Rattle.net_toml.specs.net_parts.declared.parts.NetCore.{NetCore}
use Rattle.net_toml.specs.net_parts.declared.parts.NetSource.{NetSource}
use Rattle.net_toml.specs.declared.plan.NetPlan.{NetPlan}
use Rattle.net_toml.specs.declared.plan.PlanCore.{PlanCore}
use Rattle.net_toml.specs.declared.plan.PlanSource.{PlanSource}

-- a kit with the text of its program
abbrev pub Loaded : Type 0
Loaded = Kit × Vec ℕ Global

-- the image is that of the text, which fits the processor's memory
pub record IsKitOf (p : PlanCore) (k : Loaded) : Type 0 where
  pub short_text : length k.1.items ≤ 65536
  pub text_fits : length k.1.items ≤ p.memory
  pub image : IsImage k.0.desc k.1.items k.0.image.at

-- one kit for each processor
pub record AreKitsOf (ps : List PlanCore) (ks : List Loaded) : Type 0 where
  pub count : length ks ≡ length ps
  pub each : All (λ x. IsKitOf x.0 x.1) (zip ps ks)

abbrev pub core_with : PlanCore → Loaded → NetCore
core_with p k = record { name = p.name; kit = k.0; text = k.1; memory = p.memory; budget = p.budget; dump = p.dump }

abbrev pub cores_with : List PlanCore → List Loaded → List NetCore
cores_with ps ks = map (λ (x : PlanCore × Loaded). core_with x.0 x.1) (zip ps ks)

-- a source's name and its items
abbrev pub source_parts : NetSource → List ℕ × List ℕ
source_parts s = (s.name, s.items.items)

abbrev pub itemless : PlanSource → List ℕ × List ℕ
itemless s = (s.name, [])

-- the network's workers are those of the plan with these kits, and no source has an item
pub record HasWorkers (plan : NetPlan) (ks : List Loaded) (net : Net) : Type 0 where
  pub kill : net.kill ≡ plan.kill
  pub cores : net.cores.items ≡ cores_with plan.cores ks
  pub sources : map source_parts net.sources.items ≡ map itemless plan.sources
  pub collectors : net.collectors.items ≡ plan.collectors
