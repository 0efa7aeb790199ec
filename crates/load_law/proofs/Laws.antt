-- What the files of a shelf say of a network is one, but for faults of reading.
use Rattle.std.proofs.Common.{◌≡◌, ◌⊎◌, ℕ, List, [], Ok, refl, sym, ap, subst, ◌∙◌, inl, inr}
use Rattle.tie_io.specs.Counts.{Rose}
use Rattle.net_load.specs.net_parts.declared.parts.Net.{Net}
use Rattle.net_load.specs.net_toml.declared.plan.NetPlan.{NetPlan}
use Rattle.net_load.specs.net_toml.Walk.{plan_in}
use Rattle.net_load.specs.tie_files.declared.refusal.Refusal.{Refusal}
use Rattle.net_load.specs.tie_files.declared.refusal.Refusal.TheVariants.{ReadFault}
use Rattle.net_load.specs.tie_files.Files.{Shelved, IsWrong}
use Rattle.net_load.specs.Texts.{Breaks}
use Rattle.net_load.specs.Loaded.{IsPlanOf, IsNetOf}
use Rattle.net_load.specs.Steps.{steps, FirstStuck, IsRefusedNet}
use Rattle.net_load.specs.Told.{IsTold, OfFiles, IsToldNet, IsSteady, IsSteadyNet}
use Rattle.load_law.specs.Faults.{IsReadFault}
use Rattle.load_law.specs.Kinds.{IsNetKind}
use Rattle.load_law.proofs.Results.{one_ok, breaks_once, breaks_none}
use Rattle.load_law.proofs.Texts.{text_told, wrong_text, wrong_once}
use Rattle.load_law.proofs.Steps.{first_once, done_or_first}
use Rattle.load_law.proofs.Done.{net_done}
use Rattle.load_law.proofs.ByKind.{Refuses, ByReading, ByText, by_break, by_wrong, by_first, every}

-- ---- the network file

abbrev told_file : (s : Shelved) (name : List ℕ) → IsToldNet s name → IsTold s name
told_file s name told = (told.0, told.1)

-- the text that the shelf tells has the plan
told_plan : (s : Shelved) (name : List ℕ) (told : IsToldNet s name) (plan : NetPlan) → IsPlanOf s name plan → plan_in told.0 ≡ Ok plan
told_plan s name told plan h = ap plan_in (text_told s name (told_file s name told) h.text h.read) ∙ h.says

told_steps : (s : Shelved) (name : List ℕ) → IsToldNet s name → (plan : NetPlan) → IsPlanOf s name plan → OfFiles (IsTold s) (steps plan)
told_steps s name told plan h = told.2 plan (told_plan s name told plan h)

one_plan : (s : Shelved) (name : List ℕ) → IsToldNet s name → (plan other : NetPlan) → IsPlanOf s name plan → IsPlanOf s name other → plan ≡ other
one_plan s name told plan other p q = one_ok (plan_in told.0) plan other (told_plan s name told plan p) (told_plan s name told other q)

-- a network file that has a plan isn't refused itself
plan_or_wrong : (s : Shelved) (name : List ℕ) → IsToldNet s name → (plan : NetPlan) (e : Refusal) → IsPlanOf s name plan
    → IsWrong s name (λ text. Breaks name (plan_in text)) e → IsReadFault e
plan_or_wrong s name told plan e p q =
    wrong_text s name (told_file s name told) p.text p.read (λ text. Breaks name (plan_in text)) e (λ bad. breaks_none name (plan_in p.text) plan e p.says bad) q

-- ---- the laws

pub loaded_refused : (s : Shelved) (name : List ℕ) (net : Net) (e : Refusal) → IsToldNet s name → IsNetOf s name net → IsRefusedNet s name e → IsReadFault e
loaded_refused s name net e told h (inl p) = plan_or_wrong s name told h.plan e h.planned p
loaded_refused s name net e told h (inr p) =
    let all : OfFiles (IsTold s) (steps h.plan) = told_steps s name told h.plan h.planned in
    done_or_first s name h.plan all (steps h.plan) e all (net_done s name net h)
    (subst (λ plan. FirstStuck s name plan (steps plan) e) (one_plan s name told p.0 h.plan p.1 h.planned) p.2)

pub one_refused : (s : Shelved) (name : List ℕ) (e f : Refusal) → IsToldNet s name → IsRefusedNet s name e → IsRefusedNet s name f → (e ≡ f) ⊎ IsReadFault e ⊎ IsReadFault f
one_refused s name e f told (inl p) (inl q) =
    wrong_once s name (told_file s name told) (λ text. Breaks name (plan_in text)) (λ text. Breaks name (plan_in text)) e f (λ text. breaks_once name (plan_in text) e f) p q
one_refused s name e f told (inl p) (inr q) = inr (inl (plan_or_wrong s name told q.0 e q.1 p))
one_refused s name e f told (inr p) (inl q) = inr (inr (plan_or_wrong s name told p.0 f p.1 q))
one_refused s name e f told (inr p) (inr q) =
    let all : OfFiles (IsTold s) (steps q.0) = told_steps s name told q.0 q.1 in
    first_once s name q.0 all (steps q.0) e f all (subst (λ plan. FirstStuck s name plan (steps plan) e) (one_plan s name told p.0 q.0 p.1 q.1) p.2) q.2

-- ---- by which kind

kinds : (s : Shelved) (name : List ℕ) (e : Refusal) → IsRefusedNet s name e → Refuses s (λ file. Unit {0}) e
kinds s name e (inl p) =
    by_wrong s (λ file. Unit {0}) name tt (λ text. Breaks name (plan_in text)) e (λ text. by_break s (λ file. Unit {0}) name (plan_in text) e) p
kinds s name e (inr p) = by_first s name p.0 (λ file. Unit {0}) (steps p.0) e (every (steps p.0)) p.2

steady_kinds : (s : Shelved) (name : List ℕ) (e : Refusal) → IsToldNet s name → IsSteadyNet s name → IsRefusedNet s name e → Refuses s (IsSteady s) e
steady_kinds s name e told steady (inl p) =
    by_wrong s (IsSteady s) name steady.0 (λ text. Breaks name (plan_in text)) e (λ text. by_break s (IsSteady s) name (plan_in text) e) p
steady_kinds s name e told steady (inr p) = by_first s name p.0 (IsSteady s) (steps p.0) e (steady.1 told.0 p.0 told.1 (told_plan s name told p.0 p.1)) p.2

file_or : List ℕ → Refusal → List ℕ
file_or other (ReadFault file) = file
file_or other _ = other

rose_of : (s : Shelved) (Is : List ℕ → Type 0) (file : List ℕ) → Refuses s Is (ReadFault file) → Rose (s.before file) (s.after file)
unfolding file_or
rose_of s Is file (ByReading other p rose h) = subst (λ z. Rose (s.before z) (s.after z)) (sym (ap (file_or []) p)) rose
rose_of s Is file (ByText kind none) = absurd (none file refl)

pub rose_net : (s : Shelved) (name file : List ℕ) → IsRefusedNet s name (ReadFault file) → Rose (s.before file) (s.after file)
rose_net s name file h = rose_of s (λ other. Unit {0}) file (kinds s name (ReadFault file) h)

steady_of : (s : Shelved) (file : List ℕ) → Refuses s (IsSteady s) (ReadFault file) → ⊥
steady_of s file (ByReading other p rose h) = h rose
steady_of s file (ByText kind none) = none file refl

pub steady_net : (s : Shelved) (name file : List ℕ) → IsToldNet s name → IsSteadyNet s name → IsRefusedNet s name (ReadFault file) → ⊥
steady_net s name file told steady h = steady_of s file (steady_kinds s name (ReadFault file) told steady h)

kind_of : (s : Shelved) (Is : List ℕ → Type 0) (e : Refusal) → Refuses s Is e → IsNetKind e
kind_of s Is e (ByReading file p rose h) = subst (λ z. IsNetKind z) (sym p) tt
kind_of s Is e (ByText kind none) = kind

-- the rules of a source, of hexadecimal text and of words refuse no network
pub kind_net : (s : Shelved) (name : List ℕ) (e : Refusal) → IsRefusedNet s name e → IsNetKind e
kind_net s name e h = kind_of s (λ file. Unit {0}) e (kinds s name e h)
