-- The processors of a plan whose files a shelf tells have one wiring.
use Rattle.std.proofs.Common.{◌≡◌, ℕ, ◌+◌, List, [], ◌∷◌, ◌++◌, Option, Some, None, refl, sym, ap, subst, ◌∙◌}
use Rattle.tie_desc.specs.Description.{Description}
use Rattle.net_load.specs.tie_front.Front.{IsDescriptionOf}
use Rattle.net_load.specs.net_parts.declared.parts.Net.{Net}
use Rattle.net_load.specs.net_toml.declared.plan.NetPlan.{NetPlan}
use Rattle.net_load.specs.net_toml.declared.plan.PlanCore.{PlanCore}
use Rattle.net_load.specs.net_desc.Workers.{Loaded, cores_with}
use Rattle.net_load.specs.net_desc.Wiring.{wiring}
use Rattle.net_load.specs.tie_files.Files.{Shelved}
use Rattle.net_load.specs.Texts.{items_in}
use Rattle.net_load.specs.Loaded.{IsDescOf, AreCoresOf, IsWiredOf}
use Rattle.net_load.specs.Steps.{Step, Image, tie_steps, cores_steps, steps}
use Rattle.net_load.specs.Told.{IsTold, OfFiles}
use Rattle.load_law.proofs.Results.{one_ok}
use Rattle.load_law.proofs.Texts.{one_text}
use Rattle.load_law.proofs.SameQueues.{same_queues}
use Rattle.load_law.proofs.SameWiring.{AreAlike, wiring_same, items_same}

-- what is so of the files of some steps and of others
pub files_before : (Is : List ℕ → Type 0) (xs ys : List Step) → OfFiles Is (xs ++ ys) → OfFiles Is xs
files_before Is [] ys h = tt
files_before Is (x ∷ xs) ys h = (h.0, files_before Is xs ys h.1)

pub files_behind : (Is : List ℕ → Type 0) (xs ys : List Step) → OfFiles Is (xs ++ ys) → OfFiles Is ys
files_behind Is [] ys h = h
files_behind Is (x ∷ xs) ys h = files_behind Is xs ys h.1

-- ---- processors

AreQueuesOne : Description → Description → Type 0
AreQueuesOne d e = (d.ins ≡ e.ins) × (d.outs ≡ e.outs)

desc_same : (s : Shelved) (tie : Option (List ℕ)) (d e : Description) → OfFiles (IsTold s) (tie_steps tie) → IsDescOf s tie d → IsDescOf s tie e → AreQueuesOne d e
unfolding AreQueuesOne
desc_same s None d e told p q = let same : d ≡ e = p ∙ sym q in (ap (λ (x : Description). x.ins) same, ap (λ (x : Description). x.outs) same)
desc_same s (Some name) d e told p q = same_queues q.text d e (subst (λ z. IsDescriptionOf z d) (one_text s name told.0 p.text q.text p.read q.read) p.is) q.is

cores_alike : (s : Shelved) (i : ℕ) (cores : List PlanCore) (ks ls : List Loaded) → OfFiles (IsTold s) (cores_steps i cores)
    → AreCoresOf s i cores ks → AreCoresOf s i cores ls → AreAlike (cores_with cores ks) (cores_with cores ls)
unfolding AreQueuesOne
cores_alike s i [] [] [] told p q = tt
cores_alike s i [] [] (l ∷ ls) told p q = absurd q
cores_alike s i [] (k ∷ ks) ls told p q = absurd p
cores_alike s i (core ∷ cores) [] ls told p q = absurd p
cores_alike s i (core ∷ cores) (k ∷ ks) [] told p q = absurd q
cores_alike s i (core ∷ cores) (k ∷ ks) (l ∷ ls) told p q =
    let here : AreQueuesOne k.0.desc l.0.desc = desc_same s core.tie k.0.desc l.0.desc (files_before (IsTold s) (tie_steps core.tie) _ told) p.0.desc q.0.desc in
    let more : OfFiles (IsTold s) (Image i core ∷ cores_steps (i + 1) cores) = files_behind (IsTold s) (tie_steps core.tie) _ told in
    (record { name = refl; ins = here.0; outs = here.1 }, cores_alike s (i + 1) cores ks ls more.1 p.1 q.1)

-- ---- the wiring

pub wiring_once : (s : Shelved) (plan : NetPlan) → OfFiles (IsTold s) (steps plan) → (ks ls : List Loaded)
    → AreCoresOf s 0 plan.cores ks → AreCoresOf s 0 plan.cores ls → wiring (cores_with plan.cores ks) plan ≡ wiring (cores_with plan.cores ls) plan
wiring_once s plan told ks ls p q = wiring_same (cores_with plan.cores ks) (cores_with plan.cores ls) (cores_alike s 0 plan.cores ks ls (files_before (IsTold s) (cores_steps 0 plan.cores) _ told) p q) plan

-- ---- the items of sources

pub items_once : (s : Shelved) (plan : NetPlan) → OfFiles (IsTold s) (steps plan) → (a b : Net) → IsWiredOf s plan a → IsWiredOf s plan b
    → (i : ℕ) (text : List ℕ) → items_in a i text ≡ items_in b i text
items_once s plan told a b p q i text =
    let alike : AreAlike (cores_with plan.cores p.kits) (cores_with plan.cores q.kits) =
    cores_alike s 0 plan.cores p.kits q.kits (files_before (IsTold s) (cores_steps 0 plan.cores) _ told) p.cores q.cores in
    let left : AreAlike a.cores.items (cores_with plan.cores q.kits) = subst (λ cs. AreAlike cs (cores_with plan.cores q.kits)) (sym p.workers.cores) alike in
    let both : AreAlike a.cores.items b.cores.items = subst (λ cs. AreAlike a.cores.items cs) (sym q.workers.cores) left in
    items_same a b both (one_ok (wiring (cores_with plan.cores q.kits) plan) a.queues.items b.queues.items (sym (wiring_once s plan told p.kits q.kits p.cores q.cores) ∙ p.queues) q.queues) i text
