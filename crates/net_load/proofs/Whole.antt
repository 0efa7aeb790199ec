-- A network file with the files that it names.
use Rattle.std.proofs.Common.{◌≡◌, ◌⊎◌, ℕ, List, ◌∷◌, Vec, Global, Ok, sym, ◌∙◌, ap, inl, inr}
use Rattle.net_desc.specs.net_parts.declared.parts.Net.{Net}
use Rattle.net_desc.specs.net_parts.declared.parts.NetCore.{NetCore}
use Rattle.net_desc.specs.net_parts.declared.parts.NetCollector.{NetCollector}
use Rattle.net_desc.specs.net_parts.declared.parts.NetQueue.{NetQueue}
use Rattle.net_desc.specs.net_toml.declared.plan.NetPlan.{NetPlan}
use Rattle.net_desc.specs.net_toml.Walk.{plan_in}
use Rattle.net_desc.specs.Workers.{Loaded, HasWorkers, cores_with}
use Rattle.net_desc.specs.Wiring.{wiring}
use Rattle.tie_files.specs.declared.refusal.Refusal.{Refusal}
use Rattle.tie_files.specs.declared.refusal.Refusal.TheVariants.{NoMemory}
use Rattle.tie_files.specs.Files.{Shelved, IsWrong}
use Rattle.tie_files.proofs.Steps.{Within}
use Rattle.net_load.specs.Texts.{Breaks}
use Rattle.net_load.specs.Loaded.{IsPlanOf, AreCoresOf, IsWiredOf, AreSourcesOf, IsNetOf}
use Rattle.net_load.specs.Steps.{Wires, cores_steps, sources_steps, FirstStuck, IsRefusedNet}
use Rattle.net_load.specs.Pieces.{SameAround}
use Rattle.net_load.proofs.Seen.{plan_seen, cores_seen, sources_seen, first_within}
use Rattle.net_load.proofs.Walk.{stuck_before, stuck_behind, cores_done}

-- the network file is wrong, or memory ran out
pub plan_err : (s : Shelved) (name : List ℕ) (e : Refusal) → (e ≡ NoMemory) ⊎ IsWrong s name (λ text. Breaks name (plan_in text)) e → (e ≡ NoMemory) ⊎ IsRefusedNet s name e
plan_err s name e (inl p) = inl p
plan_err s name e (inr h) = inr (inl h)

-- a file of a processor is wrong
pub kits_err : (one two s : Shelved) (name : List ℕ) (plan : NetPlan) (e : Refusal) → ((n : List ℕ) → one.holds n ≡ s.holds n) → Within two s → IsPlanOf one name plan
    → (e ≡ NoMemory) ⊎ FirstStuck two name plan (cores_steps 0 plan.cores) e → (e ≡ NoMemory) ⊎ IsRefusedNet s name e
kits_err one two s name plan e v w planned (inl p) = inl p
kits_err one two s name plan e v w planned (inr h) =
    inr (inr (
      plan,
      plan_seen one s v name plan planned,
      stuck_before s name plan (cores_steps 0 plan.cores) (Wires ∷ sources_steps 0 plan.sources) e (first_within two s w name plan (cores_steps 0 plan.cores) e h),
    ))

-- the wiring is wrong
pub wires_err : (one two s : Shelved) (name : List ℕ) (plan : NetPlan) (kits : List Loaded) (e : Refusal)
    → ((n : List ℕ) → one.holds n ≡ s.holds n) → ((n : List ℕ) → two.holds n ≡ s.holds n) → IsPlanOf one name plan → AreCoresOf two 0 plan.cores kits
    → (e ≡ NoMemory) ⊎ Breaks name (wiring (cores_with plan.cores kits) plan) e → (e ≡ NoMemory) ⊎ IsRefusedNet s name e
wires_err one two s name plan kits e v w planned cores (inl p) = inl p
wires_err one two s name plan kits e v w planned cores (inr bad) =
    let here = cores_seen two s w 0 plan.cores kits cores in
    inr (inr (
      plan,
      plan_seen one s v name plan planned,
      stuck_behind s name plan (cores_steps 0 plan.cores) (Wires ∷ sources_steps 0 plan.sources) e (cores_done s name plan 0 plan.cores kits here) (inl (kits, here, bad)),
    ))

-- the network is wired
pub wired_is : (two s : Shelved) (plan : NetPlan) (kits : List Loaded) (net : Net) → ((n : List ℕ) → two.holds n ≡ s.holds n) → AreCoresOf two 0 plan.cores kits
    → wiring (cores_with plan.cores kits) plan ≡ Ok net.queues.items → HasWorkers plan kits net → IsWiredOf s plan net
wired_is two s plan kits net w cores queues workers = record { kits = kits; cores = cores_seen two s w 0 plan.cores kits cores; queues = queues; workers = workers }

-- a file of a source is wrong
pub items_err : (one two three s : Shelved) (name : List ℕ) (plan : NetPlan) (kits : List Loaded) (net : Net) (e : Refusal)
    → ((n : List ℕ) → one.holds n ≡ s.holds n) → ((n : List ℕ) → two.holds n ≡ s.holds n) → Within three s → IsPlanOf one name plan → AreCoresOf two 0 plan.cores kits
    → wiring (cores_with plan.cores kits) plan ≡ Ok net.queues.items → HasWorkers plan kits net
    → (e ≡ NoMemory) ⊎ FirstStuck three name plan (sources_steps 0 plan.sources) e → (e ≡ NoMemory) ⊎ IsRefusedNet s name e
items_err one two three s name plan kits net e v w x planned cores queues workers (inl p) = inl p
items_err one two three s name plan kits net e v w x planned cores queues workers (inr h) =
    let here = cores_seen two s w 0 plan.cores kits cores in
    inr (inr (
      plan,
      plan_seen one s v name plan planned,
      stuck_behind s name plan (cores_steps 0 plan.cores) (Wires ∷ sources_steps 0 plan.sources) e (cores_done s name plan 0 plan.cores kits here)
          (inr ((net, wired_is two s plan kits net w cores queues workers), first_within three s x name plan (sources_steps 0 plan.sources) e h)),
    ))

-- all is right
pub net_is : (one two three s : Shelved) (name : List ℕ) (plan : NetPlan) (kits : List Loaded) (wired net : Net)
    → ((n : List ℕ) → one.holds n ≡ s.holds n) → ((n : List ℕ) → two.holds n ≡ s.holds n) → ((n : List ℕ) → three.holds n ≡ s.holds n)
    → IsPlanOf one name plan → AreCoresOf two 0 plan.cores kits → wiring (cores_with plan.cores kits) plan ≡ Ok wired.queues.items → HasWorkers plan kits wired
    → SameAround wired net → AreSourcesOf three net 0 plan.sources net.sources.items → IsNetOf s name net
net_is one two three s name plan kits wired net v w x planned cores queues workers around sources =
    record {
      plan = plan;
      planned = plan_seen one s v name plan planned;
      kits = kits;
      cores = cores_seen two s w 0 plan.cores kits cores;
      queues = queues ∙ ap (λ (q : Vec NetQueue Global). Ok q.items) (sym around.queues);
      kill_is = around.kill ∙ workers.kill;
      cores_are = ap (λ (v : Vec NetCore Global). v.items) around.cores ∙ workers.cores;
      collectors_are = ap (λ (v : Vec NetCollector Global). v.items) around.collectors ∙ workers.collectors;
      sources = sources_seen three s x net 0 plan.sources net.sources.items sources;
    }
