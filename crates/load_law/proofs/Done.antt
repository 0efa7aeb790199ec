-- The steps of a network that files describe are done.
use Rattle.std.proofs.Common.{◌≡◌, ℕ, ◌+◌, List, [], ◌∷◌, ◌++◌, map, Option, Some, None, Global, refl, ap, ◌∙◌}
use Rattle.std.specs.Vec.{vec_allocator}
use Rattle.std.specs.formers.vec.Vec.{mapped, the_empty}
use Rattle.net_load.specs.net_parts.declared.parts.Net.{Net}
use Rattle.net_load.specs.net_parts.declared.parts.NetSource.{NetSource}
use Rattle.net_load.specs.net_toml.declared.plan.NetPlan.{NetPlan}
use Rattle.net_load.specs.net_toml.declared.plan.PlanCore.{PlanCore}
use Rattle.net_load.specs.net_toml.declared.plan.PlanSource.{PlanSource}
use Rattle.net_load.specs.net_desc.Workers.{Loaded, source_parts, itemless}
use Rattle.net_load.specs.tie_files.Files.{Shelved}
use Rattle.net_load.specs.Texts.{items_in}
use Rattle.net_load.specs.Loaded.{IsDescOf, AreCoresOf, AreSourcesOf, IsWiredOf, IsNetOf}
use Rattle.net_load.specs.Steps.{Step, Image, Wires, tie_steps, cores_steps, sources_steps, steps}
use Rattle.load_law.proofs.Steps.{AreDone}

both_done : (s : Shelved) (plan : NetPlan) (xs ys : List Step) → AreDone s plan xs → AreDone s plan ys → AreDone s plan (xs ++ ys)
both_done s plan [] ys p q = q
both_done s plan (x ∷ xs) ys p q = (p.0, both_done s plan xs ys p.1 q)

-- ---- processors

tie_done : (s : Shelved) (plan : NetPlan) (tie : Option (List ℕ)) (k : Loaded) → IsDescOf s tie k.0.desc → AreDone s plan (tie_steps tie)
tie_done s plan None k h = tt
tie_done s plan (Some name) k h = ((k.0.desc, h), tt)

cores_done : (s : Shelved) (plan : NetPlan) (i : ℕ) (cores : List PlanCore) (ks : List Loaded) → AreCoresOf s i cores ks → AreDone s plan (cores_steps i cores)
cores_done s plan i [] ks h = tt
cores_done s plan i (core ∷ cores) [] h = absurd h
cores_done s plan i (core ∷ cores) (k ∷ ks) h =
    both_done s plan (tie_steps core.tie) (Image i core ∷ cores_steps (i + 1) cores) (tie_done s plan core.tie k h.0.desc)
    ((h.0.text, k.1.items, h.0.read, h.0.says), cores_done s plan (i + 1) cores ks h.1)

-- ---- the network with no items yet

emptied : NetSource → NetSource
emptied source = record source { items = mapped (λ none. absurd none) (the_empty Global (vec_allocator source.items)) }

wired : Net → Net
wired net = record net { sources = mapped emptied net.sources }

no_items : {A : Type 0} (f : ⊥ → A) (xs : List ⊥) → map f xs ≡ []
no_items f [] = refl
no_items f (x ∷ xs) = absurd x

emptied_parts : (here : NetSource) → source_parts (emptied here) ≡ (here.name, [])
unfolding emptied
emptied_parts here = ap (λ (items : List ℕ). (here.name, items)) (no_items (λ none. absurd none) (the_empty Global (vec_allocator here.items)).items)

names_same : (s : Shelved) (net : Net) (i : ℕ) (sources : List PlanSource) (heres : List NetSource) → AreSourcesOf s net i sources heres
    → map source_parts (map emptied heres) ≡ map itemless sources
names_same s net i [] [] h = refl
names_same s net i [] (here ∷ heres) h = absurd h
names_same s net i (source ∷ sources) [] h = absurd h
names_same s net i (source ∷ sources) (here ∷ heres) h =
    ap (λ (parts : List ℕ × List ℕ). parts ∷ map source_parts (map emptied heres)) (emptied_parts here ∙ ap (λ (name : List ℕ). (name, [])) h.0.name)
    ∙ ap (λ rest. itemless source ∷ rest) (names_same s net (i + 1) sources heres h.1)

wired_of : (s : Shelved) (name : List ℕ) (net : Net) (h : IsNetOf s name net) → IsWiredOf s h.plan (wired net)
unfolding wired
wired_of s name net h = record {
  kits = h.kits;
  cores = h.cores;
  queues = h.queues;
  workers = record {
    kill = h.kill_is;
    cores = h.cores_are;
    sources = names_same s net 0 h.plan.sources net.sources.items h.sources;
    collectors = h.collectors_are;
  };
}

items_wired : (net : Net) (i : ℕ) (text : List ℕ) → items_in (wired net) i text ≡ items_in net i text
unfolding wired items_in
items_wired net i text = refl

-- ---- sources

sources_done : (s : Shelved) (plan : NetPlan) (net : Net) → IsWiredOf s plan (wired net) → (i : ℕ) (sources : List PlanSource) (heres : List NetSource)
    → AreSourcesOf s net i sources heres → AreDone s plan (sources_steps i sources)
sources_done s plan net w i [] heres h = tt
sources_done s plan net w i (source ∷ sources) [] h = absurd h
sources_done s plan net w i (source ∷ sources) (here ∷ heres) h =
    ((wired net, w, h.0.text, here.items.items, h.0.read, items_wired net i h.0.text ∙ h.0.says), sources_done s plan net w (i + 1) sources heres h.1)

pub net_done : (s : Shelved) (name : List ℕ) (net : Net) (h : IsNetOf s name net) → AreDone s h.plan (steps h.plan)
net_done s name net h =
    let w : IsWiredOf s h.plan (wired net) = wired_of s name net h in
    both_done s h.plan (cores_steps 0 h.plan.cores) (Wires ∷ sources_steps 0 h.plan.sources) (cores_done s h.plan 0 h.plan.cores h.kits h.cores)
    ((wired net, w), sources_done s h.plan net w 0 h.plan.sources net.sources.items h.sources)
