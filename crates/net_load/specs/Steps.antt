-- In which order the files of a network are judged, and the first refusal.
use Rattle.std.specs.Prelude.{◌≡◌, ◌⊎◌, ℕ, ◌+◌, List, [], ◌∷◌, ◌++◌, Option, Some, None, Ok}
use Rattle.tie_desc.specs.Description.{Description}
use Rattle.net_desc.specs.net_parts.declared.parts.Net.{Net}
use Rattle.net_desc.specs.net_toml.declared.plan.NetPlan.{NetPlan}
use Rattle.net_desc.specs.net_toml.declared.plan.PlanCore.{PlanCore}
use Rattle.net_desc.specs.net_toml.declared.plan.PlanSource.{PlanSource}
use Rattle.net_desc.specs.net_toml.Walk.{plan_in}
use Rattle.net_desc.specs.Workers.{Loaded, cores_with}
use Rattle.net_desc.specs.Wiring.{wiring}
use Rattle.tie_files.specs.declared.refusal.Refusal.{Refusal}
use Rattle.tie_files.specs.Files.{Shelved, IsTextOf, IsTie, RefusesTie, IsWrong}
use Rattle.net_load.specs.Texts.{image_in, items_in, Breaks}
use Rattle.net_load.specs.Loaded.{IsPlanOf, AreCoresOf, IsWiredOf}

-- the TIE file of a processor; the image of processor i; the wiring of all queues; the items of source i
pub data Step : Type 0 where
  Tie : (name : List ℕ) → Step
  Image : (i : ℕ) (core : PlanCore) → Step
  Wires : Step
  Items : (i : ℕ) (source : PlanSource) → Step

abbrev pub tie_steps : Option (List ℕ) → List Step
tie_steps None = []
tie_steps (Some name) = Tie name ∷ []

-- for each processor its TIE file, then its image
abbrev pub cores_steps : ℕ → List PlanCore → List Step
cores_steps i [] = []
cores_steps i (core ∷ cores) = tie_steps core.tie ++ Image i core ∷ cores_steps (i + 1) cores

abbrev pub sources_steps : ℕ → List PlanSource → List Step
sources_steps i [] = []
sources_steps i (source ∷ sources) = Items i source ∷ sources_steps (i + 1) sources

-- the processors, the wiring, the sources
abbrev pub steps : NetPlan → List Step
steps plan = cores_steps 0 plan.cores ++ Wires ∷ sources_steps 0 plan.sources

-- what a step asks for is there
abbrev pub IsDone : Shelved → NetPlan → Step → Type 0
IsDone s plan (Tie name) = (d : Description) × IsTie s name d
IsDone s plan (Image i core) = (text : List ℕ) × (bytes : List ℕ) × IsTextOf s core.image text × (image_in i core text ≡ Ok bytes)
IsDone s plan Wires = (net : Net) × IsWiredOf s plan net
IsDone s plan (Items i source) =
    (net : Net) × IsWiredOf s plan net × (text : List ℕ) × (items : List ℕ) × IsTextOf s source.items text × (items_in net i text ≡ Ok items)

-- it isn't, and the network file of this name is refused so, or a file that can't be read or is no TIE text
abbrev pub IsStuck : Shelved → List ℕ → NetPlan → Step → Refusal → Type 0
IsStuck s name plan (Tie file) refusal = IsWrong s file (RefusesTie file) refusal
IsStuck s name plan (Image i core) refusal = IsWrong s core.image (λ text. Breaks name (image_in i core text)) refusal
IsStuck s name plan Wires refusal = (kits : List Loaded) × AreCoresOf s 0 plan.cores kits × Breaks name (wiring (cores_with plan.cores kits) plan) refusal
IsStuck s name plan (Items i source) refusal =
    (net : Net) × IsWiredOf s plan net × IsWrong s source.items (λ text. Breaks name (items_in net i text)) refusal

-- the first of the steps that is stuck
abbrev pub FirstStuck : Shelved → List ℕ → NetPlan → List Step → Refusal → Type 0
FirstStuck s name plan [] refusal = ⊥
FirstStuck s name plan (step ∷ rest) refusal = IsStuck s name plan step refusal ⊎ (IsDone s plan step × FirstStuck s name plan rest refusal)

-- the network file is refused, or the first of its steps that is stuck is
abbrev pub IsRefusedNet : Shelved → List ℕ → Refusal → Type 0
IsRefusedNet s name refusal =
    IsWrong s name (λ text. Breaks name (plan_in text)) refusal
    ⊎ ((plan : NetPlan) × IsPlanOf s name plan × FirstStuck s name plan (steps plan) refusal)
