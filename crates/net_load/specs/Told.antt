-- Shelves that tell all files of a network, and on which no read of them fails.
use Rattle.std.specs.Prelude.{◌≡◌, ℕ, List, [], ◌∷◌, Some, Ok}
use Rattle.tie_io.specs.Counts.{Rose}
use Rattle.net_desc.specs.net_toml.declared.plan.NetPlan.{NetPlan}
use Rattle.net_desc.specs.net_toml.Walk.{plan_in}
use Rattle.tie_files.specs.Files.{Shelved}
use Rattle.net_load.specs.Steps.{Step, Tie, Image, Wires, Items, steps}

abbrev pub IsTold : Shelved → List ℕ → Type 0
IsTold s name = (text : List ℕ) × (s.holds name ≡ Some text)

-- a fact of the file that a step reads; the wiring reads none
abbrev pub OfFile : (List ℕ → Type 0) → Step → Type 0
OfFile Is (Tie name) = Is name
OfFile Is (Image i core) = Is core.image
OfFile Is Wires = Unit {0}
OfFile Is (Items i source) = Is source.items

abbrev pub OfFiles : (List ℕ → Type 0) → List Step → Type 0
OfFiles Is [] = Unit {0}
OfFiles Is (step ∷ rest) = OfFile Is step × OfFiles Is rest

-- the shelf tells the network file, and the files that it names where it has a plan
abbrev pub IsToldNet : Shelved → List ℕ → Type 0
IsToldNet s name = (text : List ℕ) × (s.holds name ≡ Some text) × ((plan : NetPlan) → plan_in text ≡ Ok plan → OfFiles (IsTold s) (steps plan))

-- no read of the network file failed, and none of the files that it names
abbrev pub IsSteady : Shelved → List ℕ → Type 0
IsSteady s name = ¬ Rose (s.before name) (s.after name)

abbrev pub IsSteadyNet : Shelved → List ℕ → Type 0
IsSteadyNet s name =
    IsSteady s name × ((text : List ℕ) (plan : NetPlan) → s.holds name ≡ Some text → plan_in text ≡ Ok plan → OfFiles (IsSteady s) (steps plan))
