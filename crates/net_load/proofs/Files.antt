-- From the text of a file to the file.
use Rattle.std.proofs.Common.{◌≡◌, List, ℕ, Result, Ok, Err, Vec, Global, inl, inr}
use Rattle.net_desc.specs.net_parts.declared.parts.Net.{Net}
use Rattle.net_desc.specs.net_toml.declared.plan.NetPlan.{NetPlan}
use Rattle.net_desc.specs.net_toml.declared.plan.PlanCore.{PlanCore}
use Rattle.net_desc.specs.net_toml.declared.plan.PlanSource.{PlanSource}
use Rattle.net_desc.specs.net_toml.Walk.{plan_in}
use Rattle.tie_files.specs.declared.refusal.Refusal.{Refusal}
use Rattle.tie_files.specs.Files.{Shelved, IsTextOf, IsWrong, TextIsWrong}
use Rattle.tie_files.specs.Parts.{Judges}
use Rattle.net_load.specs.Texts.{image_in, items_in, Breaks}
use Rattle.net_load.specs.Loaded.{IsPlanOf}
use Rattle.net_load.specs.Pieces.{IsImageOf, IsImageWrong, AreItemsOf, AreItemsWrong}

-- what is said of the text of a file is said of the file
file_of : {V : Type 0} (s : Shelved) (name text : List ℕ) (Has Is : V → Type 0) (P : List ℕ → Refusal → Type 0) (r : Result V Refusal)
    → IsTextOf s name text → ((v : V) → Has v → Is v) → Judges Has (P text) r → Judges Is (IsWrong s name P) r
file_of s name text Has Is P (Ok v) read of h = of v h
file_of s name text Has Is P (Err e) read of (inl p) = inl p
file_of s name text Has Is P (Err e) read of (inr bad) = inr (TextIsWrong text read bad)

pub plan_file : (s : Shelved) (name text : List ℕ) (r : Result NetPlan Refusal) → IsTextOf s name text
    → Judges (λ plan. plan_in text ≡ Ok plan) (Breaks name (plan_in text)) r → Judges (IsPlanOf s name) (IsWrong s name (λ t. Breaks name (plan_in t))) r
plan_file s name text r read h =
    file_of s name text (λ plan. plan_in text ≡ Ok plan) (IsPlanOf s name) (λ t. Breaks name (plan_in t)) r read
    (λ plan says. record { text = text; read = read; says = says }) h

pub image_file : (s : Shelved) (name : List ℕ) (i : ℕ) (core : PlanCore) (text : List ℕ) (r : Result (Vec ℕ Global) Refusal) → IsTextOf s core.image text
    → Judges (λ image. image_in i core text ≡ Ok image.items) (Breaks name (image_in i core text)) r
    → Judges (λ image. IsImageOf s i core image.items) (IsImageWrong s name i core) r
image_file s name i core text r read h =
    file_of s core.image text (λ image. image_in i core text ≡ Ok image.items) (λ image. IsImageOf s i core image.items) (λ t. Breaks name (image_in i core t)) r read
    (λ image says. record { text = text; read = read; says = says }) h

pub items_file : (s : Shelved) (name : List ℕ) (net : Net) (i : ℕ) (source : PlanSource) (text items : List ℕ) (r : Result (Unit {0}) Refusal) → IsTextOf s source.items text
    → Judges (λ _. items_in net i text ≡ Ok items) (Breaks name (items_in net i text)) r
    → Judges (λ _. AreItemsOf s net i source items) (AreItemsWrong s name net i source) r
items_file s name net i source text items r read h =
    file_of s source.items text (λ _. items_in net i text ≡ Ok items) (λ _. AreItemsOf s net i source items) (λ t. Breaks name (items_in net i t)) r read
    (λ u says. record { text = text; read = read; says = says }) h
