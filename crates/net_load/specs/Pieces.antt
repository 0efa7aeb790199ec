-- What is answered on the way to a network, one file at a time.
use Rattle.std.specs.Prelude.{◌≡◌, ◌⊎◌, ℕ, List, Option, Some, None, Ok}
use Rattle.tie_desc.specs.Description.{Description}
use Rattle.net_desc.specs.net_parts.declared.parts.Net.{Net}
use Rattle.net_desc.specs.net_toml.declared.plan.PlanCore.{PlanCore}
use Rattle.net_desc.specs.net_toml.declared.plan.PlanSource.{PlanSource}
use Rattle.net_desc.specs.net_toml.declared.refusal.NetRefusal.{NetRefusal}
use Rattle.net_desc.specs.net_toml.declared.refusal.NetRefusal.TheVariants as plans
use Rattle.tie_files.specs.declared.refusal.Refusal.{Refusal}
use Rattle.tie_files.specs.declared.refusal.Refusal.TheVariants.{NetRefused, NoMemory}
use Rattle.tie_files.specs.Files.{Shelved, IsTextOf, RefusesTie, IsWrong}
use Rattle.net_load.specs.Texts.{image_in, items_in, Breaks}
use Rattle.net_load.specs.Loaded.{IsDescOf}

-- a refusal of a network, told of the network file of this name
abbrev pub refusal_of : List ℕ → NetRefusal → Refusal
refusal_of name (plans.Fault rule key) = NetRefused name rule key
refusal_of name plans.NoMemory = NoMemory

-- ---- a processor

-- its TIE file is wrong; without one nothing is
abbrev pub IsDescWrong : Shelved → Option (List ℕ) → Refusal → Type 0
IsDescWrong s None refusal = ⊥
IsDescWrong s (Some tie) refusal = IsWrong s tie (RefusesTie tie) refusal

-- the image in the image file of processor i
pub record IsImageOf (s : Shelved) (i : ℕ) (core : PlanCore) (bytes : List ℕ) : Type 0 where
  pub text : List ℕ
  pub read : IsTextOf s core.image text
  pub says : image_in i core text ≡ Ok bytes

abbrev pub IsImageWrong : Shelved → List ℕ → ℕ → PlanCore → Refusal → Type 0
IsImageWrong s name i core refusal = IsWrong s core.image (λ text. Breaks name (image_in i core text)) refusal

-- its TIE file is wrong, or that is right and its image file is wrong
abbrev pub IsCoreWrong : Shelved → List ℕ → ℕ → PlanCore → Refusal → Type 0
IsCoreWrong s name i core refusal =
    IsDescWrong s core.tie refusal ⊎ ((d : Description) × IsDescOf s core.tie d × IsImageWrong s name i core refusal)

-- ---- a source

-- the items in the file of source i
pub record AreItemsOf (s : Shelved) (net : Net) (i : ℕ) (source : PlanSource) (items : List ℕ) : Type 0 where
  pub text : List ℕ
  pub read : IsTextOf s source.items text
  pub says : items_in net i text ≡ Ok items

abbrev pub AreItemsWrong : Shelved → List ℕ → Net → ℕ → PlanSource → Refusal → Type 0
AreItemsWrong s name net i source refusal = IsWrong s source.items (λ text. Breaks name (items_in net i text)) refusal

-- two networks of the same processors, collectors and queues
pub record SameAround (old new : Net) : Type 0 where
  pub kill : new.kill ≡ old.kill
  pub cores : new.cores ≡ old.cores
  pub collectors : new.collectors ≡ old.collectors
  pub queues : new.queues ≡ old.queues
