-- A call within another: what it finds and how it fails are the other's. What it finds depends on the files alone.
use Rattle.std.proofs.Common.{◌≡◌, ℕ, ◌+◌, List, [], ◌∷◌, Option, Some, None, subst, inl, inr}
use Rattle.tie_io.specs.Reading.{IsFile}
use Rattle.tie_desc.specs.Description.{Description}
use Rattle.net_desc.specs.net_parts.declared.parts.Net.{Net}
use Rattle.net_desc.specs.net_parts.declared.parts.NetSource.{NetSource}
use Rattle.net_desc.specs.net_toml.declared.plan.NetPlan.{NetPlan}
use Rattle.net_desc.specs.net_toml.declared.plan.PlanCore.{PlanCore}
use Rattle.net_desc.specs.net_toml.declared.plan.PlanSource.{PlanSource}
use Rattle.net_desc.specs.Workers.{Loaded}
use Rattle.tie_files.specs.declared.refusal.Refusal.{Refusal}
use Rattle.tie_files.specs.Files.{Shelved, IsTextOf, IsTie, RefusesTie}
use Rattle.tie_files.proofs.Steps.{Within, wrong_within}
use Rattle.net_load.specs.Texts.{image_in, items_in, Breaks}
use Rattle.net_load.specs.Loaded.{IsPlanOf, IsDescOf, IsCoreOf, AreCoresOf, IsWiredOf, IsSourceOf, AreSourcesOf}
use Rattle.net_load.specs.Steps.{Step, Tie, Image, Wires, Items, IsDone, IsStuck, FirstStuck}
use Rattle.net_load.specs.Pieces.{IsDescWrong, IsImageOf, IsImageWrong, IsCoreWrong, AreItemsOf, AreItemsWrong}

-- two calls that see the same files
module _ (s t : Shelved) (same : (n : List ℕ) → s.holds n ≡ t.holds n) where
  pub text_seen : (name text : List ℕ) → IsTextOf s name text → IsTextOf t name text
  text_seen name text (short, told) = (short, subst (λ held. IsFile held text) (same name) told)

  tie_seen : (name : List ℕ) (d : Description) → IsTie s name d → IsTie t name d
  tie_seen name d h = record { text = h.text; read = text_seen name h.text h.read; is = h.is }

  pub plan_seen : (name : List ℕ) (plan : NetPlan) → IsPlanOf s name plan → IsPlanOf t name plan
  plan_seen name plan h = record { text = h.text; read = text_seen name h.text h.read; says = h.says }

  pub desc_seen : (tie : Option (List ℕ)) (d : Description) → IsDescOf s tie d → IsDescOf t tie d
  desc_seen None d h = h
  desc_seen (Some tie) d h = tie_seen tie d h

  pub image_seen : (i : ℕ) (core : PlanCore) (bytes : List ℕ) → IsImageOf s i core bytes → IsImageOf t i core bytes
  image_seen i core bytes h = record { text = h.text; read = text_seen core.image h.text h.read; says = h.says }

  pub core_seen : (i : ℕ) (core : PlanCore) (k : Loaded) → IsCoreOf s i core k → IsCoreOf t i core k
  core_seen i core k h =
      record { desc = desc_seen core.tie k.0.desc h.desc; text = h.text; read = text_seen core.image h.text h.read; says = h.says; image = h.image }

  pub cores_seen : (i : ℕ) (cores : List PlanCore) (kits : List Loaded) → AreCoresOf s i cores kits → AreCoresOf t i cores kits
  cores_seen i [] [] h = tt
  cores_seen i [] (k ∷ ks) h = absurd h
  cores_seen i (core ∷ cores) [] h = absurd h
  cores_seen i (core ∷ cores) (k ∷ ks) h = (core_seen i core k h.0, cores_seen (i + 1) cores ks h.1)

  pub wired_seen : (plan : NetPlan) (net : Net) → IsWiredOf s plan net → IsWiredOf t plan net
  wired_seen plan net h = record { kits = h.kits; cores = cores_seen 0 plan.cores h.kits h.cores; queues = h.queues; workers = h.workers }

  pub items_seen : (net : Net) (i : ℕ) (source : PlanSource) (items : List ℕ) → AreItemsOf s net i source items → AreItemsOf t net i source items
  items_seen net i source items h = record { text = h.text; read = text_seen source.items h.text h.read; says = h.says }

  source_seen : (net : Net) (i : ℕ) (source : PlanSource) (here : NetSource) → IsSourceOf s net i source here → IsSourceOf t net i source here
  source_seen net i source here h = record { name = h.name; text = h.text; read = text_seen source.items h.text h.read; says = h.says }

  pub sources_seen : (net : Net) (i : ℕ) (sources : List PlanSource) (heres : List NetSource) → AreSourcesOf s net i sources heres → AreSourcesOf t net i sources heres
  sources_seen net i [] [] h = tt
  sources_seen net i [] (here ∷ heres) h = absurd h
  sources_seen net i (source ∷ sources) [] h = absurd h
  sources_seen net i (source ∷ sources) (here ∷ heres) h = (source_seen net i source here h.0, sources_seen net (i + 1) sources heres h.1)

  pub done_seen : (plan : NetPlan) (step : Step) → IsDone s plan step → IsDone t plan step
  done_seen plan (Tie name) (d, h) = (d, tie_seen name d h)
  done_seen plan (Image i core) (text, bytes, read, says) = (text, bytes, text_seen core.image text read, says)
  done_seen plan Wires (net, wired) = (net, wired_seen plan net wired)
  done_seen plan (Items i source) (net, wired, text, items, read, says) =
      (net, wired_seen plan net wired, text, items, text_seen source.items text read, says)

module _ (small big : Shelved) (w : Within small big) where
  pub desc_wrong : (tie : Option (List ℕ)) (e : Refusal) → IsDescWrong small tie e → IsDescWrong big tie e
  desc_wrong None e h = h
  desc_wrong (Some tie) e h = wrong_within small big w tie (RefusesTie tie) e h

  pub image_wrong : (name : List ℕ) (i : ℕ) (core : PlanCore) (e : Refusal) → IsImageWrong small name i core e → IsImageWrong big name i core e
  image_wrong name i core e h = wrong_within small big w core.image (λ text. Breaks name (image_in i core text)) e h

  pub items_wrong : (name : List ℕ) (net : Net) (i : ℕ) (source : PlanSource) (e : Refusal) → AreItemsWrong small name net i source e → AreItemsWrong big name net i source e
  items_wrong name net i source e h = wrong_within small big w source.items (λ text. Breaks name (items_in net i text)) e h

  pub core_wrong : (name : List ℕ) (i : ℕ) (core : PlanCore) (e : Refusal) → IsCoreWrong small name i core e → IsCoreWrong big name i core e
  core_wrong name i core e (inl h) = inl (desc_wrong core.tie e h)
  core_wrong name i core e (inr (d, is, h)) = inr (d, desc_seen small big w.holds core.tie d is, image_wrong name i core e h)

  stuck_within : (name : List ℕ) (plan : NetPlan) (step : Step) (e : Refusal) → IsStuck small name plan step e → IsStuck big name plan step e
  stuck_within name plan (Tie file) e h = wrong_within small big w file (RefusesTie file) e h
  stuck_within name plan (Image i core) e h = image_wrong name i core e h
  stuck_within name plan Wires e (kits, cores, bad) = (kits, cores_seen small big w.holds 0 plan.cores kits cores, bad)
  stuck_within name plan (Items i source) e (net, wired, wrong) = (net, wired_seen small big w.holds plan net wired, items_wrong name net i source e wrong)

  pub first_within : (name : List ℕ) (plan : NetPlan) (steps : List Step) (e : Refusal) → FirstStuck small name plan steps e → FirstStuck big name plan steps e
  first_within name plan [] e h = h
  first_within name plan (step ∷ rest) e (inl h) = inl (stuck_within name plan step e h)
  first_within name plan (step ∷ rest) e (inr (done, first)) = inr (done_seen small big w.holds plan step done, first_within name plan rest e first)
