-- One source after the other.
use Rattle.std.proofs.Common.{◌≡◌, ◌⊎◌, ℕ, zero, suc, ◌+◌, ◌<◌, List, [], ◌∷◌, length, map, Vec, Global, Some, refl, subst, sym, ◌∙◌, ap, arith, inl, inr}
use Rattle.std.specs.Prelude.{slice_get}
use Rattle.std.proofs.lemmas.List.{length-map}
use Rattle.net_desc.specs.net_parts.declared.parts.Net.{Net}
use Rattle.net_desc.specs.net_parts.declared.parts.NetCore.{NetCore}
use Rattle.net_desc.specs.net_parts.declared.parts.NetSource.{NetSource}
use Rattle.net_desc.specs.net_parts.declared.parts.NetQueue.{NetQueue}
use Rattle.net_desc.specs.net_parts.declared.parts.NetCollector.{NetCollector}
use Rattle.net_desc.specs.net_parts.Network.{items_of}
use Rattle.net_desc.specs.net_toml.declared.plan.NetPlan.{NetPlan}
use Rattle.net_desc.specs.net_toml.declared.plan.PlanSource.{PlanSource}
use Rattle.net_desc.specs.net_toml.Walk.{source_names}
use Rattle.net_desc.specs.Items.{source_items, SameBut}
use Rattle.net_desc.specs.Workers.{source_parts, itemless}
use Rattle.tie_files.specs.declared.refusal.Refusal.{Refusal}
use Rattle.tie_files.specs.declared.refusal.Refusal.TheVariants.{NoMemory}
use Rattle.tie_files.specs.Files.{Shelved}
use Rattle.tie_files.proofs.Steps.{Within, wrong_as}
use Rattle.net_load.specs.Texts.{items_in}
use Rattle.net_load.specs.Loaded.{IsWiredOf, AreSourcesOf}
use Rattle.net_load.specs.Steps.{sources_steps, FirstStuck}
use Rattle.net_load.specs.Pieces.{AreItemsOf, AreItemsWrong, SameAround}
use Rattle.net_load.proofs.Seen.{items_seen, items_wrong}

abbrev pub net_names : Net → List (List ℕ)
net_names net = map (λ (x : NetSource). x.name) net.sources.items

-- the first sources of a network, so many, have the items in their files
abbrev pub AreGiven : Shelved → Net → Net → List PlanSource → ℕ → Type 0
AreGiven s wired net sources n =
    (k : ℕ) (source : PlanSource) → k < n → slice_get sources k ≡ Some source → AreItemsOf s wired k source (source_items net k)

-- ---- what a text says of a source depends on the processors and the queues alone

items_where : (net : Net) (cores : Vec NetCore Global) (queues : Vec NetQueue Global) (kill : ℕ) (sources : Vec NetSource Global) (collectors : Vec NetCollector Global)
    (i : ℕ) (text : List ℕ) → cores ≡ net.cores → queues ≡ net.queues
    → items_in (record { kill = kill; cores = cores; sources = sources; collectors = collectors; queues = queues }) i text ≡ items_in net i text
unfolding items_in
items_where net cores queues kill sources collectors i text a b =
    let F : Vec NetCore Global → Vec NetQueue Global → Net = λ c q. record { kill = kill; cores = c; sources = sources; collectors = collectors; queues = q } in
    let base : items_in (F net.cores net.queues) i text ≡ items_in net i text = refl in
    subst (λ (q : Vec NetQueue Global). items_in (F cores q) i text ≡ items_in net i text) (sym b)
    (subst (λ (c : Vec NetCore Global). items_in (F c net.queues) i text ≡ items_in net i text) (sym a) base)

pub items_around : (old new : Net) (i : ℕ) (text : List ℕ) → SameAround old new → items_in new i text ≡ items_in old i text
items_around old new i text a = items_where old new.cores new.queues new.kill new.sources new.collectors i text a.cores a.queues

given_around : (s : Shelved) (old new : Net) (i : ℕ) (source : PlanSource) (items : List ℕ) → SameAround old new → AreItemsOf s new i source items → AreItemsOf s old i source items
given_around s old new i source items a h = record { text = h.text; read = h.read; says = sym (items_around old new i h.text a) ∙ h.says }

pub around_more : (i : ℕ) (a b c : Net) → SameAround a b → SameBut i b c → SameAround a c
around_more i a b c h k = record { kill = k.kill ∙ h.kill; cores = k.cores ∙ h.cores; collectors = k.collectors ∙ h.collectors; queues = k.queues ∙ h.queues }

-- ---- names

itemless_names : (heres : List NetSource) (sources : List PlanSource) → map source_parts heres ≡ map itemless sources
    → map (λ (x : NetSource). x.name) heres ≡ source_names sources
itemless_names [] [] e = refl
itemless_names [] (x ∷ xs) e = absurd cc
itemless_names (h ∷ hs) [] e = absurd cc
itemless_names (h ∷ hs) (x ∷ xs) e =
    let first : source_parts h ≡ itemless x = cc in
    let rest : map source_parts hs ≡ map itemless xs = cc in
    let name : h.name ≡ x.name = ap (λ (p : List ℕ × List ℕ). p.0) first in
    let names = itemless_names hs xs rest in
    cc

pub wired_names : (s : Shelved) (plan : NetPlan) (net : Net) → IsWiredOf s plan net → net_names net ≡ source_names plan.sources
wired_names s plan net h = itemless_names net.sources.items plan.sources h.workers.sources

pub named_count : (net : Net) (sources : List PlanSource) → net_names net ≡ source_names sources → length net.sources.items ≡ length sources
named_count net sources e =
    sym (length-map net.sources.items (λ (x : NetSource). x.name)) ∙ ap length e ∙ length-map sources (λ (x : PlanSource). x.name)

-- ---- the next source

pub given_next : (small s before : Shelved) (wired old new : Net) (sources : List PlanSource) (i : ℕ) (source : PlanSource)
    → ((n : List ℕ) → before.holds n ≡ s.holds n) → Within small s → SameAround wired old → SameBut i old new → slice_get sources i ≡ Some source
    → AreGiven before wired old sources i → AreItemsOf small old i source (source_items new i) → AreGiven s wired new sources (i + 1)
given_next small s before wired old new sources i source seen w around only stands given new_items k x below here = by_case (nat_cases k i)
  where
    nat_cases : (k i : ℕ) → (k ≡ i) ⊎ (k ≡ i → ⊥)
    nat_cases zero zero = inl refl
    nat_cases zero (suc i) = inr (λ e. omega arith)
    nat_cases (suc k) zero = inr (λ e. omega arith)
    nat_cases (suc k) (suc i) = elim (nat_cases k i) [ inl e ↦ inl (ap suc e) | inr n ↦ inr (λ e. n (omega arith)) ]

    by_case : (k ≡ i) ⊎ (k ≡ i → ⊥) → AreItemsOf s wired k x (source_items new k)
    by_case (inr other) =
        let was = items_seen before s seen wired k x (source_items old k) (given k x (omega (arith, below, other)) here) in
        subst (λ (items : List ℕ). AreItemsOf s wired k x items) (sym (only.others k other)) was
    by_case (inl e) =
        let there : slice_get sources i ≡ Some x = subst (λ (n : ℕ). slice_get sources n ≡ Some x) e here in
        let same : source ≡ x = cc in
        let is : AreItemsOf s wired i source (source_items new i) = given_around s wired old i source (source_items new i) around (items_seen small s w.holds old i source (source_items new i) new_items) in
        subst (λ (n : ℕ). AreItemsOf s wired n x (source_items new n)) (sym e) (subst (λ (z : PlanSource). AreItemsOf s wired i z (source_items new i)) same is)

-- the walk stops at the next source
stuck_there : (s : Shelved) (name : List ℕ) (plan : NetPlan) (wired net : Net) (sources : List PlanSource) (i n j : ℕ) (source : PlanSource) (e : Refusal)
    → IsWiredOf s plan wired → slice_get sources n ≡ Some source
    → ((k m : ℕ) (x : PlanSource) → k < n → m ≡ i + k → slice_get sources k ≡ Some x → AreItemsOf s wired m x (source_items net m))
    → j ≡ i + n → AreItemsWrong s name wired j source e → FirstStuck s name plan (sources_steps i sources) e
stuck_there s name plan wired net [] i n j source e is_wired stands given is wrong = absurd cc
stuck_there s name plan wired net (x ∷ xs) i zero j source e is_wired stands given is wrong =
    let same : source ≡ x = cc in
    let place : j ≡ i = omega (arith, is) in
    inl (wired, is_wired, subst (λ (z : PlanSource). AreItemsWrong s name wired i z e) same (subst (λ (n : ℕ). AreItemsWrong s name wired n source e) place wrong))
stuck_there s name plan wired net (x ∷ xs) i (suc n) j source e is_wired stands given is wrong =
    let here = given zero i x (omega arith) (omega arith) refl in
    inr (
      (wired, is_wired, here.text, source_items net i, here.read, here.says),
      stuck_there s name plan wired net xs (i + 1) n j source e is_wired stands
          (λ k m z below place there. given (suc k) m z (omega (arith, below)) (omega (arith, place)) there) (omega (arith, is)) wrong,
    )

pub items_stuck : (small s before : Shelved) (name : List ℕ) (plan : NetPlan) (wired net : Net) (i : ℕ) (source : PlanSource) (e : Refusal)
    → ((n : List ℕ) → before.holds n ≡ s.holds n) → Within small s → IsWiredOf s plan wired → SameAround wired net → slice_get plan.sources i ≡ Some source
    → AreGiven before wired net plan.sources i → (e ≡ NoMemory) ⊎ AreItemsWrong small name net i source e
    → (e ≡ NoMemory) ⊎ FirstStuck s name plan (sources_steps 0 plan.sources) e
items_stuck small s before name plan wired net i source e seen w is_wired around stands given (inl p) = inl p
items_stuck small s before name plan wired net i source e seen w is_wired around stands given (inr wrong) =
    let here = wrong_around e (items_wrong small s w name net i source e wrong) in
    inr (stuck_there s name plan wired net plan.sources 0 i i source e is_wired stands
    (λ k m x below place there. subst (λ (n : ℕ). AreItemsOf s wired n x (source_items net n)) (ends k m place) (items_seen before s seen wired k x (source_items net k) (given k x below there)))
    (omega arith) here)
  where
    ends : (k m : ℕ) → m ≡ 0 + k → k ≡ m
    ends k m e = omega (arith, e)

    wrong_around : (e : Refusal) → AreItemsWrong s name net i source e → AreItemsWrong s name wired i source e
    wrong_around e h = wrong_as s source.items _ _ e (λ text (rule, key, broken, told). (rule, key, sym (items_around wired net i text around) ∙ broken, told)) h

-- ---- all of them

sources_given : (s : Shelved) (wired net : Net) (sources : List PlanSource) (heres : List NetSource) (i : ℕ) → SameAround wired net
    → map (λ (x : NetSource). x.name) heres ≡ source_names sources
    → ((k m : ℕ) (source : PlanSource) (here : NetSource) → m ≡ i + k → slice_get sources k ≡ Some source → slice_get heres k ≡ Some here → AreItemsOf s wired m source here.items.items)
    → AreSourcesOf s net i sources heres
sources_given s wired net [] [] i around names given = tt
sources_given s wired net [] (h ∷ hs) i around names given = absurd cc
sources_given s wired net (x ∷ xs) [] i around names given = absurd cc
sources_given s wired net (x ∷ xs) (h ∷ hs) i around names given =
    let here = given zero i x h (omega arith) refl refl in
    let name : h.name ≡ x.name = cc in (
      record { name = name; text = here.text; read = here.read; says = items_around wired net i here.text around ∙ here.says },
      sources_given s wired net xs hs (i + 1) around (cc) (λ k m source there place a b. given (suc k) m source there (omega (arith, place)) a b),
    )

pub all_given : (s : Shelved) (wired net : Net) (sources : List PlanSource) (n : ℕ) → SameAround wired net → net_names net ≡ source_names sources → length sources ≡ n
    → AreGiven s wired net sources n → AreSourcesOf s net 0 sources net.sources.items
all_given s wired net sources n around names count given =
    sources_given s wired net sources net.sources.items 0 around names
    (λ k m source here place a b. let at : k ≡ m = ends k m place in
    subst (λ (j : ℕ). AreItemsOf s wired j source here.items.items) at
    (subst (λ (items : List ℕ). AreItemsOf s wired k source items) (ap items_of b) (given k source (below k source a) a)))
  where
    ends : (k m : ℕ) → m ≡ 0 + k → k ≡ m
    ends k m e = omega (arith, e)

    within : (xs : List PlanSource) (k : ℕ) (x : PlanSource) → slice_get xs k ≡ Some x → k < length xs
    within [] k x e = absurd cc
    within (y ∷ ys) zero x e = omega arith
    within (y ∷ ys) (suc k) x e = let more = within ys k x e in omega (arith, more)

    below : (k : ℕ) (x : PlanSource) → slice_get sources k ≡ Some x → k < n
    below k x e = let h = within sources k x e in omega (arith, h, count)
