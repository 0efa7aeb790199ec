-- A step of a told network is done or stuck, and stuck in one way, but for faults of reading.
use Rattle.std.proofs.Common.{◌≡◌, ℕ, List, [], ◌∷◌, sym, ap, subst, ◌∙◌, inl, inr}
use Rattle.net_load.specs.tie_front.declared.refusal.TieRule.{TieRule}
use Rattle.net_load.proofs.tie_front_proofs.Laws.{one_refusal, not_refused}
use Rattle.net_load.specs.net_toml.declared.plan.NetPlan.{NetPlan}
use Rattle.net_load.specs.net_desc.Workers.{cores_with}
use Rattle.net_load.specs.net_desc.Wiring.{wiring}
use Rattle.net_load.specs.tie_files.declared.refusal.Refusal.{Refusal}
use Rattle.net_load.specs.tie_files.declared.refusal.Refusal.TheVariants.{TieRefused}
use Rattle.net_load.specs.tie_files.Files.{Shelved, RefusesTie}
use Rattle.net_load.specs.Texts.{image_in, items_in, Breaks}
use Rattle.net_load.specs.Steps.{Step, Tie, Image, Wires, Items, steps, IsDone, IsStuck, FirstStuck}
use Rattle.net_load.specs.Told.{IsTold, OfFile, OfFiles}
use Rattle.load_law.specs.Faults.{IsReadFault}
use Rattle.load_law.proofs.Results.{breaks_once, breaks_none}
use Rattle.load_law.proofs.Texts.{AreOne, wrong_text, wrong_once}
use Rattle.load_law.proofs.Kits.{wiring_once, items_once}

ties_once : (name text : List ℕ) (e f : Refusal) → RefusesTie name text e → RefusesTie name text f → e ≡ f
ties_once name text e f p q =
    let one = one_refusal text p.0 q.0 p.1 q.1 p.2 q.2 in
    p.3 ∙ ap (λ (rule : TieRule). TieRefused name rule p.1) one.rule ∙ ap (λ place. TieRefused name q.0 place) one.place ∙ sym q.3

-- ---- one step

step_once : (s : Shelved) (name : List ℕ) (plan : NetPlan) → OfFiles (IsTold s) (steps plan) → (step : Step) (e f : Refusal) → OfFile (IsTold s) step
    → IsStuck s name plan step e → IsStuck s name plan step f → AreOne e f
step_once s name plan all (Tie file) e f told p q = wrong_once s file told (RefusesTie file) (RefusesTie file) e f (λ text. ties_once file text e f) p q
step_once s name plan all (Image i core) e f told p q =
    wrong_once s core.image told (λ text. Breaks name (image_in i core text)) (λ text. Breaks name (image_in i core text)) e f
    (λ text. breaks_once name (image_in i core text) e f) p q
step_once s name plan all Wires e f told p q =
    inl (breaks_once name (wiring (cores_with plan.cores q.0) plan) e f (subst (λ z. Breaks name z e) (wiring_once s plan all p.0 q.0 p.1 q.1) p.2) q.2)
step_once s name plan all (Items i source) e f told p q =
    wrong_once s source.items told (λ text. Breaks name (items_in p.0 i text)) (λ text. Breaks name (items_in q.0 i text)) e f
    (λ text a b. breaks_once name (items_in q.0 i text) e f (subst (λ z. Breaks name z e) (items_once s plan all p.0 q.0 p.1 q.1 i text) a) b) p.2 q.2

done_or_stuck : (s : Shelved) (name : List ℕ) (plan : NetPlan) → OfFiles (IsTold s) (steps plan) → (step : Step) (e : Refusal) → OfFile (IsTold s) step
    → IsDone s plan step → IsStuck s name plan step e → IsReadFault e
done_or_stuck s name plan all (Tie file) e told p q =
    wrong_text s file told p.1.text p.1.read (RefusesTie file) e (λ bad. not_refused p.1.text p.0 bad.0 bad.1 p.1.is bad.2) q
done_or_stuck s name plan all (Image i core) e told p q =
    wrong_text s core.image told p.0 p.2 (λ text. Breaks name (image_in i core text)) e (λ bad. breaks_none name (image_in i core p.0) p.1 e p.3 bad) q
done_or_stuck s name plan all Wires e told p q =
    absurd (breaks_none name (wiring (cores_with plan.cores q.0) plan) p.0.queues.items e (sym (wiring_once s plan all p.1.kits q.0 p.1.cores q.1) ∙ p.1.queues) q.2)
done_or_stuck s name plan all (Items i source) e told p q =
    wrong_text s source.items told p.2 p.4 (λ text. Breaks name (items_in q.0 i text)) e
    (λ bad. breaks_none name (items_in q.0 i p.2) p.3 e (sym (items_once s plan all p.0 q.0 p.1 q.1 i p.2) ∙ p.5) bad) q.2

-- ---- the first of the steps

abbrev pub AreDone : Shelved → NetPlan → List Step → Type 0
AreDone s plan [] = Unit {0}
AreDone s plan (step ∷ rest) = IsDone s plan step × AreDone s plan rest

pub first_once : (s : Shelved) (name : List ℕ) (plan : NetPlan) → OfFiles (IsTold s) (steps plan) → (xs : List Step) (e f : Refusal) → OfFiles (IsTold s) xs
    → FirstStuck s name plan xs e → FirstStuck s name plan xs f → AreOne e f
first_once s name plan all [] e f told p q = absurd p
first_once s name plan all (x ∷ xs) e f told (inl p) (inl q) = step_once s name plan all x e f told.0 p q
first_once s name plan all (x ∷ xs) e f told (inl p) (inr q) = inr (inl (done_or_stuck s name plan all x e told.0 q.0 p))
first_once s name plan all (x ∷ xs) e f told (inr p) (inl q) = inr (inr (done_or_stuck s name plan all x f told.0 p.0 q))
first_once s name plan all (x ∷ xs) e f told (inr p) (inr q) = first_once s name plan all xs e f told.1 p.1 q.1

pub done_or_first : (s : Shelved) (name : List ℕ) (plan : NetPlan) → OfFiles (IsTold s) (steps plan) → (xs : List Step) (e : Refusal) → OfFiles (IsTold s) xs
    → AreDone s plan xs → FirstStuck s name plan xs e → IsReadFault e
done_or_first s name plan all [] e told p q = absurd q
done_or_first s name plan all (x ∷ xs) e told p (inl q) = done_or_stuck s name plan all x e told.0 p.0 q
done_or_first s name plan all (x ∷ xs) e told p (inr q) = done_or_first s name plan all xs e told.1 p.1 q.1
