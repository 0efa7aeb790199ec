-- Of which kinds the refusals of a network are.
use Rattle.std.proofs.Common.{◌≡◌, ℕ, List, [], ◌∷◌, Result, sym, subst, ◌∙◌, inl, inr}
use Rattle.tie_io.specs.Counts.{Rose}
use Rattle.net_load.specs.net_toml.declared.plan.NetPlan.{NetPlan}
use Rattle.net_load.specs.net_toml.Broken.{Broken}
use Rattle.net_load.specs.net_desc.Workers.{cores_with}
use Rattle.net_load.specs.net_desc.Wiring.{wiring}
use Rattle.net_load.specs.tie_files.declared.refusal.Refusal.{Refusal}
use Rattle.net_load.specs.tie_files.declared.refusal.Refusal.TheVariants.{Usage, ReadFault, TooLong, TieRefused, AsmRefused, HexRefused, NetRefused, NoMemory}
use Rattle.net_load.specs.tie_files.Files.{Shelved, RefusesTie, IsWrong, ReadFails, IsTooLong, TextIsWrong}
use Rattle.net_load.specs.Texts.{image_in, items_in, Breaks}
use Rattle.net_load.specs.Steps.{Step, Tie, Image, Wires, Items, IsStuck, FirstStuck}
use Rattle.net_load.specs.Told.{OfFile, OfFiles}
use Rattle.load_law.specs.Kinds.{IsNetKind}

-- what refuses a network: a failed read of a file that is so, or a file or a rule
pub data Refuses (s : Shelved) (Is : List ℕ → Type 0) (e : Refusal) : Type 0 where
  ByReading : (file : List ℕ) → e ≡ ReadFault file → Rose (s.before file) (s.after file) → Is file → Refuses s Is e
  ByText : IsNetKind e → ((file : List ℕ) → e ≡ ReadFault file → ⊥) → Refuses s Is e

IsOfText : Refusal → Type 0
IsOfText (ReadFault name) = ⊥
IsOfText (Usage word) = Unit {0}
IsOfText (TooLong name) = Unit {0}
IsOfText (TieRefused name rule place) = Unit {0}
IsOfText (AsmRefused name rule line column) = Unit {0}
IsOfText (HexRefused name rule place) = Unit {0}
IsOfText (NetRefused name rule key) = Unit {0}
IsOfText NoMemory = Unit {0}

by_text : (s : Shelved) (Is : List ℕ → Type 0) (e other : Refusal) → e ≡ other → IsNetKind other → IsOfText other → Refuses s Is e
unfolding IsOfText
by_text s Is e other p kind text = ByText (subst (λ z. IsNetKind z) (sym p) kind) (λ file q. subst (λ z. IsOfText z) (sym p ∙ q) text)

pub by_break : {A : Type 0} (s : Shelved) (Is : List ℕ → Type 0) (name : List ℕ) (r : Result A Broken) (e : Refusal) → Breaks name r e → Refuses s Is e
unfolding IsOfText
by_break s Is name r e h = by_text s Is e (NetRefused name h.0 h.1) h.3 tt tt

by_tie : (s : Shelved) (Is : List ℕ → Type 0) (name text : List ℕ) (e : Refusal) → RefusesTie name text e → Refuses s Is e
unfolding IsOfText
by_tie s Is name text e h = by_text s Is e (TieRefused name h.0 h.1) h.3 tt tt

pub by_wrong : (s : Shelved) (Is : List ℕ → Type 0) (file : List ℕ) → Is file → (P : List ℕ → Refusal → Type 0) (e : Refusal)
    → ((text : List ℕ) → P text e → Refuses s Is e) → IsWrong s file P e → Refuses s Is e
unfolding IsOfText
by_wrong s Is file h P e by (ReadFails p rose) = ByReading file p rose h
by_wrong s Is file h P e by (IsTooLong p front longer) = by_text s Is e (TooLong file) p tt tt
by_wrong s Is file h P e by (TextIsWrong text read bad) = by text bad

by_step : (s : Shelved) (name : List ℕ) (plan : NetPlan) (Is : List ℕ → Type 0) (step : Step) (e : Refusal) → OfFile Is step → IsStuck s name plan step e → Refuses s Is e
by_step s name plan Is (Tie file) e h p = by_wrong s Is file h (RefusesTie file) e (λ text. by_tie s Is file text e) p
by_step s name plan Is (Image i core) e h p = by_wrong s Is core.image h (λ text. Breaks name (image_in i core text)) e (λ text. by_break s Is name (image_in i core text) e) p
by_step s name plan Is Wires e h p = by_break s Is name (wiring (cores_with plan.cores p.0) plan) e p.2
by_step s name plan Is (Items i source) e h p = by_wrong s Is source.items h (λ text. Breaks name (items_in p.0 i text)) e (λ text. by_break s Is name (items_in p.0 i text) e) p.2

pub by_first : (s : Shelved) (name : List ℕ) (plan : NetPlan) (Is : List ℕ → Type 0) (xs : List Step) (e : Refusal) → OfFiles Is xs → FirstStuck s name plan xs e → Refuses s Is e
by_first s name plan Is [] e h p = absurd p
by_first s name plan Is (x ∷ xs) e h (inl p) = by_step s name plan Is x e h.0 p
by_first s name plan Is (x ∷ xs) e h (inr p) = by_first s name plan Is xs e h.1 p.1

-- every file is some file
pub every : (xs : List Step) → OfFiles (λ file. Unit {0}) xs
every [] = tt
every (Tie file ∷ xs) = (tt, every xs)
every (Image i core ∷ xs) = (tt, every xs)
every (Wires ∷ xs) = (tt, every xs)
every (Items i source ∷ xs) = (tt, every xs)
