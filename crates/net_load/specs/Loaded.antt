-- The networks that the files of a shelf describe.
use Rattle.std.specs.Prelude.{◌≡◌, ℕ, ◌+◌, List, [], ◌∷◌, Option, Some, None, Ok}
use Rattle.tie_desc.specs.Description.{Description}
use Rattle.tie_desc.specs.Fetching.{IsImage}
use Rattle.net_desc.specs.net_parts.declared.parts.Net.{Net}
use Rattle.net_desc.specs.net_parts.declared.parts.NetSource.{NetSource}
use Rattle.net_desc.specs.net_toml.declared.plan.NetPlan.{NetPlan}
use Rattle.net_desc.specs.net_toml.declared.plan.PlanCore.{PlanCore}
use Rattle.net_desc.specs.net_toml.declared.plan.PlanSource.{PlanSource}
use Rattle.net_desc.specs.net_toml.Walk.{plan_in}
use Rattle.net_desc.specs.Workers.{Loaded, cores_with, HasWorkers}
use Rattle.net_desc.specs.Wiring.{wiring}
use Rattle.tie_files.specs.Files.{Shelved, IsTextOf, IsTie}
use Rattle.net_load.specs.Texts.{image_in, items_in}

-- the network file has this plan
pub record IsPlanOf (s : Shelved) (name : List ℕ) (plan : NetPlan) : Type 0 where
  pub text : List ℕ
  pub read : IsTextOf s name text
  pub says : plan_in text ≡ Ok plan

-- ---- processors

-- the description of no declarations
abbrev pub bare : Description
bare = record { states = []; files = []; ranges = []; ops = []; formats = []; ins = []; outs = [] }

-- that of a TIE file, or where there is none the empty one
abbrev pub IsDescOf : Shelved → Option (List ℕ) → Description → Type 0
IsDescOf s None d = d ≡ bare
IsDescOf s (Some tie) d = IsTie s tie d

-- the kit of processor i, with the text of its program
pub record IsCoreOf (s : Shelved) (i : ℕ) (core : PlanCore) (k : Loaded) : Type 0 where
  pub desc : IsDescOf s core.tie k.0.desc
  pub text : List ℕ
  pub read : IsTextOf s core.image text
  pub says : image_in i core text ≡ Ok k.1.items
  pub image : IsImage k.0.desc k.1.items k.0.image.at

-- those of all processors, numbered from here on
abbrev pub AreCoresOf : Shelved → ℕ → List PlanCore → List Loaded → Type 0
AreCoresOf s i [] [] = Unit {0}
AreCoresOf s i [] (k ∷ ks) = ⊥
AreCoresOf s i (core ∷ cores) [] = ⊥
AreCoresOf s i (core ∷ cores) (k ∷ ks) = IsCoreOf s i core k × AreCoresOf s (i + 1) cores ks

-- ---- the network

-- it is wired as its plan says, and its sources have no items yet
pub record IsWiredOf (s : Shelved) (plan : NetPlan) (net : Net) : Type 0 where
  pub kits : List Loaded
  pub cores : AreCoresOf s 0 plan.cores kits
  pub queues : wiring (cores_with plan.cores kits) plan ≡ Ok net.queues.items
  pub workers : HasWorkers plan kits net

-- the name and the items of source i
pub record IsSourceOf (s : Shelved) (net : Net) (i : ℕ) (source : PlanSource) (here : NetSource) : Type 0 where
  pub name : here.name ≡ source.name
  pub text : List ℕ
  pub read : IsTextOf s source.items text
  pub says : items_in net i text ≡ Ok here.items.items

-- those of all sources, numbered from here on
abbrev pub AreSourcesOf : Shelved → Net → ℕ → List PlanSource → List NetSource → Type 0
AreSourcesOf s net i [] [] = Unit {0}
AreSourcesOf s net i [] (here ∷ heres) = ⊥
AreSourcesOf s net i (source ∷ sources) [] = ⊥
AreSourcesOf s net i (source ∷ sources) (here ∷ heres) = IsSourceOf s net i source here × AreSourcesOf s net (i + 1) sources heres

-- the network that a file describes with the files that it names
pub record IsNetOf (s : Shelved) (name : List ℕ) (net : Net) : Type 0 where
  pub plan : NetPlan
  pub planned : IsPlanOf s name plan
  pub kits : List Loaded
  pub cores : AreCoresOf s 0 plan.cores kits
  pub queues : wiring (cores_with plan.cores kits) plan ≡ Ok net.queues.items
  pub kill_is : net.kill ≡ plan.kill
  pub cores_are : net.cores.items ≡ cores_with plan.cores kits
  pub collectors_are : net.collectors.items ≡ plan.collectors
  pub sources : AreSourcesOf s net 0 plan.sources net.sources.items
