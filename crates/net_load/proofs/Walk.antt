-- Steps one after the other.
use Rattle.std.proofs.Common.{ℕ, ◌+◌, List, [], ◌∷◌, ◌++◌, Option, Some, None, inl, inr}
use Rattle.tie_desc.specs.Description.{Description}
use Rattle.net_desc.specs.net_toml.declared.plan.NetPlan.{NetPlan}
use Rattle.net_desc.specs.net_toml.declared.plan.PlanCore.{PlanCore}
use Rattle.net_desc.specs.Workers.{Loaded}
use Rattle.tie_files.specs.declared.refusal.Refusal.{Refusal}
use Rattle.tie_files.specs.Files.{Shelved}
use Rattle.net_load.specs.Loaded.{IsDescOf, IsCoreOf, AreCoresOf}
use Rattle.net_load.specs.Steps.{Step, Image, tie_steps, cores_steps, IsDone, FirstStuck}
use Rattle.net_load.specs.Pieces.{IsDescWrong, IsCoreWrong}

abbrev pub AllDone : Shelved → NetPlan → List Step → Type 0
AllDone s plan [] = Unit {0}
AllDone s plan (step ∷ rest) = IsDone s plan step × AllDone s plan rest

module _ (s : Shelved) (name : List ℕ) (plan : NetPlan) where
  pub done_append : (a b : List Step) → AllDone s plan a → AllDone s plan b → AllDone s plan (a ++ b)
  done_append [] b h k = k
  done_append (step ∷ a) b h k = (h.0, done_append a b h.1 k)

  pub stuck_before : (a b : List Step) (e : Refusal) → FirstStuck s name plan a e → FirstStuck s name plan (a ++ b) e
  stuck_before [] b e h = absurd h
  stuck_before (step ∷ a) b e (inl h) = inl h
  stuck_before (step ∷ a) b e (inr (done, first)) = inr (done, stuck_before a b e first)

  pub stuck_behind : (a b : List Step) (e : Refusal) → AllDone s plan a → FirstStuck s name plan b e → FirstStuck s name plan (a ++ b) e
  stuck_behind [] b e h first = first
  stuck_behind (step ∷ a) b e h first = inr (h.0, stuck_behind a b e h.1 first)

  -- ---- a processor

  tie_done : (tie : Option (List ℕ)) (d : Description) → IsDescOf s tie d → AllDone s plan (tie_steps tie)
  tie_done None d h = tt
  tie_done (Some tie) d h = ((d, h), tt)

  tie_stuck : (tie : Option (List ℕ)) (rest : List Step) (e : Refusal) → IsDescWrong s tie e → FirstStuck s name plan (tie_steps tie ++ rest) e
  tie_stuck None rest e h = absurd h
  tie_stuck (Some tie) rest e h = inl h

  pub core_stuck : (i : ℕ) (core : PlanCore) (rest : List Step) (e : Refusal) → IsCoreWrong s name i core e
      → FirstStuck s name plan (tie_steps core.tie ++ Image i core ∷ rest) e
  core_stuck i core rest e (inl h) = tie_stuck core.tie (Image i core ∷ rest) e h
  core_stuck i core rest e (inr (d, is, wrong)) = stuck_behind (tie_steps core.tie) (Image i core ∷ rest) e (tie_done core.tie d is) (inl wrong)

  pub core_passed : (i : ℕ) (core : PlanCore) (k : Loaded) (rest : List Step) (e : Refusal) → IsCoreOf s i core k → FirstStuck s name plan rest e
      → FirstStuck s name plan (tie_steps core.tie ++ Image i core ∷ rest) e
  core_passed i core k rest e h first =
      stuck_behind (tie_steps core.tie) (Image i core ∷ rest) e (tie_done core.tie k.0.desc h.desc) (inr ((h.text, k.1.items, h.read, h.says), first))

  pub cores_done : (i : ℕ) (cores : List PlanCore) (kits : List Loaded) → AreCoresOf s i cores kits → AllDone s plan (cores_steps i cores)
  cores_done i [] kits h = tt
  cores_done i (core ∷ cores) [] h = absurd h
  cores_done i (core ∷ cores) (k ∷ ks) h =
      done_append (tie_steps core.tie) (Image i core ∷ cores_steps (i + 1) cores) (tie_done core.tie k.0.desc h.0.desc)
      ((h.0.text, k.1.items, h.0.read, h.0.says), cores_done (i + 1) cores ks h.1)
