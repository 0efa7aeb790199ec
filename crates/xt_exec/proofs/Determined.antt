-- A state has one step, and a run has one stop.
use Rattle.std.proofs.Common.{◌≡◌, ◌⊎◌, ℕ, zero, suc, ◌<◌, ◌≤◌, List, Option, Some, None, Bool, true, false, refl, sym, ap, subst, inl, inr, ◌∙◌, arith, ⊎_elim}
use Rattle.xt_core.specs.declared.ending.Ending.TheVariants.{Running, Halted}
use Rattle.xt_core.specs.declared.ending.Trap.{Trap}
use Rattle.tie_desc.specs.Description.{Description}
use Rattle.tie_desc.specs.declared.bundle.Bundle.{Bundle}
use Rattle.tie_desc.specs.declared.bundle.Fetched.{Fetched}
use Rattle.tie_desc.specs.declared.bundle.Kit.{Kit}
use Rattle.xt_state.specs.State.{State}
use Rattle.xt_exec.specs.declared.answer.Step.{Step}
use Rattle.xt_exec.specs.declared.answer.Step.TheVariants as steps
use Rattle.xt_exec.specs.Queues.{HasItems, IsFirstLacking, Lacks, no_heads}
use Rattle.xt_exec.specs.Step.{Acts, BundleStep, FetchedStep, bundle_at, bundle_trap, trapped}
use Rattle.xt_exec.specs.Run.{IsDone, MeetsTrap, Retired, Retires, Stopped}

-- a trap, and none
trap_none : {o : Option Trap} {trap : Trap} → o ≡ Some trap → o ≡ None → ⊥
trap_none e n = cc

both_halts : {A : Type 0} {b : Bool} → b ≡ true → b ≡ false → A
both_halts h n = cc

same_some : {o : Option Trap} {x y : Trap} → o ≡ Some x → o ≡ Some y → x ≡ y
same_some e f = cc

-- the first lacking queue is one
same_first : (d : Description) (b : Bundle) (heads : List (Option ℕ)) (q r : ℕ) → IsFirstLacking d b heads q → IsFirstLacking d b heads r → q ≡ r
same_first d b heads q r x y = ⊎_elim (λ apart. absurd (⊎_elim (λ h. y.1 q h x.0) (λ h. x.1 r h y.0) apart)) (λ e. e) (order q r)
  where
    order : (k j : ℕ) → (k < j ⊎ (j < k)) ⊎ (k ≡ j)
    order k j = grind arith

-- one answer and one next state
same_acts : (d : Description) (s : State) (heads : List (Option ℕ)) (b : Bundle) (size : ℕ) (answer other : Step) (t u : State)
    → Acts d s heads b size answer t → Acts d s heads b size other u → (answer ≡ other) × (t ≡ u)
same_acts d s heads b size (steps.Trapped x) (steps.Trapped y) t u (p, e) (q, f) =
    let same = same_some p q in
    (ap (λ trap. steps.Trapped trap) same, e ∙ ap (trapped s) same ∙ sym f)
same_acts d s heads b size (steps.Trapped x) (steps.NeedsItem y) t u (p, e) (q, g, f) = absurd (trap_none p q)
same_acts d s heads b size (steps.Trapped x) (steps.Stepped y) t u (p, e) (q, g, h, k, f) = absurd (trap_none p q)
same_acts d s heads b size (steps.Trapped x) steps.Halted t u (p, e) (q, g, h, f) = absurd (trap_none p q)
same_acts d s heads b size (steps.NeedsItem x) (steps.Trapped y) t u (p, g, e) (q, f) = absurd (trap_none q p)
same_acts d s heads b size (steps.NeedsItem x) (steps.NeedsItem y) t u (p, g, e) (q, h, f) =
    (ap (λ n. steps.NeedsItem n) (same_first d b heads x y g h), e ∙ sym f)
same_acts d s heads b size (steps.NeedsItem x) (steps.Stepped y) t u (p, g, e) (q, has, h, k, f) = absurd (has x g.0)
same_acts d s heads b size (steps.NeedsItem x) steps.Halted t u (p, g, e) (q, has, h, f) = absurd (has x g.0)
same_acts d s heads b size (steps.Stepped x) (steps.Trapped y) t u (p, has, h, k, e) (q, f) = absurd (trap_none q p)
same_acts d s heads b size (steps.Stepped x) (steps.NeedsItem y) t u (p, has, h, k, e) (q, g, f) = absurd (has y g.0)
same_acts d s heads b size (steps.Stepped x) (steps.Stepped y) t u (p, has, h, k, e) (q, g, i, l, f) =
    (ap (λ pushed. steps.Stepped pushed) (k ∙ sym l), e ∙ sym f)
same_acts d s heads b size (steps.Stepped x) steps.Halted t u (p, has, h, k, e) (q, g, i, f) = both_halts i h
same_acts d s heads b size steps.Halted (steps.Trapped y) t u (p, has, h, e) (q, f) = absurd (trap_none q p)
same_acts d s heads b size steps.Halted (steps.NeedsItem y) t u (p, has, h, e) (q, g, f) = absurd (has y g.0)
same_acts d s heads b size steps.Halted (steps.Stepped y) t u (p, has, h, e) (q, g, i, l, f) = both_halts h i
same_acts d s heads b size steps.Halted steps.Halted t u (p, has, h, e) (q, g, i, f) = (refl, e ∙ sym f)

same_fetched : (d : Description) (s : State) (heads : List (Option ℕ)) (o : Option Fetched) (answer other : Step) (t u : State)
    → FetchedStep d s heads o answer t → FetchedStep d s heads o other u → (answer ≡ other) × (t ≡ u)
same_fetched d s heads None answer other t u (p, e) (q, f) = (p ∙ sym q, e ∙ sym f)
same_fetched d s heads (Some f) answer other t u x y = same_acts d s heads f.bundle f.length answer other t u x y

pub same_step : (kit : Kit) (s : State) (heads : List (Option ℕ)) (answer other : Step) (t u : State)
    → BundleStep kit s heads answer t → BundleStep kit s heads other u → (answer ≡ other) × (t ≡ u)
same_step kit s heads answer other t u x y = same_fetched kit.desc s heads (bundle_at kit s) answer other t u x y

-- a retirement has one next state
pub same_retired : (kit : Kit) (s t u : State) → Retires kit s t → Retires kit s u → t ≡ u
same_retired kit s t u (r, inl a) (q, inl b) = (same_step kit s no_heads (steps.Stepped a.0) (steps.Stepped b.0) t u a.1 b.1).1
same_retired kit s t u (r, inl a) (q, inr b) = (same_step kit s no_heads (steps.Stepped a.0) steps.Halted t u a.1 b).1
same_retired kit s t u (r, inr a) (q, inl b) = (same_step kit s no_heads steps.Halted (steps.Stepped b.0) t u a b.1).1
same_retired kit s t u (r, inr a) (q, inr b) = (same_step kit s no_heads steps.Halted steps.Halted t u a b).1

-- so many retirements lead to one state
pub same_after : (kit : Kit) (k : ℕ) (s t u : State) → Retired kit k s t → Retired kit k s u → t ≡ u
same_after kit zero s t u a b = a ∙ sym b
same_after kit (suc k) s t u (m, a, r) (n, b, q) =
    let e = same_after kit k s m n a b in
    same_retired kit n t u (subst (λ x. Retires kit x t) e r) q

-- what traps doesn't retire
trap_apart : (x : Trap) (y : Step) → steps.Trapped x ≡ y → (y ≡ steps.Halted) ⊎ ((pushed : List (Option ℕ)) × (y ≡ steps.Stepped pushed)) → ⊥
trap_apart x y e (inl h) = let no : steps.Trapped x ≡ steps.Halted = e ∙ h in cc
trap_apart x y e (inr (pushed, h)) = let no : steps.Trapped x ≡ steps.Stepped pushed = e ∙ h in cc

pub no_retirement : (kit : Kit) (s t u : State) → MeetsTrap kit s t → Retires kit s u → ⊥
no_retirement kit s t u (r, trap, p) (q, inl (pushed, f)) =
    trap_apart trap (steps.Stepped pushed) (same_step kit s no_heads (steps.Trapped trap) (steps.Stepped pushed) t u p f).0 (inr (pushed, refl))
no_retirement kit s t u (r, trap, p) (q, inr f) =
    trap_apart trap steps.Halted (same_step kit s no_heads (steps.Trapped trap) steps.Halted t u p f).0 (inl refl)

-- before the last of more retirements another one follows
below_suc : (k j : ℕ) → k < suc j → (k < j) ⊎ (k ≡ j)
below_suc k j h = grind arith

earlier : (kit : Kit) (j k : ℕ) (s u : State) → Retired kit j s u → k < j → (m : State) × (n : State) × Retired kit k s m × Retires kit m n
earlier kit zero k s u r h = absurd (omega arith)
earlier kit (suc j) k s u (m, r, q) h =
    ⊎_elim (λ less. earlier kit j k s m r less) (λ same. (m, u, subst (λ n. Retired kit n s m) (sym same) r, q)) (below_suc k j h)

-- a run's last retired state: it retires no further, unless the budget is used up
record IsLast (kit : Kit) (budget : ℕ) (s : State) (k : ℕ) (m : State) : Type 0 where
  retired : Retired kit k s m
  within : k ≤ budget
  last : (n : State) → Retires kit m n → k ≡ budget

last_done : (kit : Kit) (budget k : ℕ) (s t : State) → Retired kit k s t → k ≤ budget → IsDone budget k t → IsLast kit budget s k t
last_done kit budget k s t r h d = record { retired = r; within = h; last = λ n q. spent d q.0 }
  where
    spent : IsDone budget k t → t.ending ≡ Running → k ≡ budget
    spent (inl halted) running = let no : Halted ≡ Running = sym halted ∙ running in absurd cc
    spent (inr (r, e)) running = e

last_trap : (kit : Kit) (budget k : ℕ) (s m t : State) → Retired kit k s m → k < budget → MeetsTrap kit m t → IsLast kit budget s k m
last_trap kit budget k s m t r h trap = record { retired = r; within = omega arith; last = λ n q. absurd (no_retirement kit m t n trap q) }

not_below : (kit : Kit) (budget k j : ℕ) (s m n : State) → IsLast kit budget s k m → IsLast kit budget s j n → k < j → ⊥
not_below kit budget k j s m n a b h =
    let e = earlier kit j k s n b.retired h in
    let same = same_after kit k s e.0 m e.2 a.retired in
    let full = a.last e.1 (subst (λ x. Retires kit x e.1) same e.3) in
    let within = b.within in
    omega arith

order : (k j : ℕ) → (k < j ⊎ (j < k)) ⊎ (k ≡ j)
order k j = grind arith

same_count : (kit : Kit) (budget k j : ℕ) (s m n : State) → IsLast kit budget s k m → IsLast kit budget s j n → k ≡ j
same_count kit budget k j s m n a b =
    ⊎_elim (λ apart. absurd (⊎_elim (λ h. not_below kit budget k j s m n a b h) (λ h. not_below kit budget j k s n m b a h) apart)) (λ e. e) (order k j)

same_last : (kit : Kit) (budget k j : ℕ) (s m n : State) → IsLast kit budget s k m → IsLast kit budget s j n → m ≡ n
same_last kit budget k j s m n a b =
    let e = same_count kit budget k j s m n a b in
    same_after kit j s m n (subst (λ i. Retired kit i s m) e a.retired) b.retired

-- a state that is done below the budget doesn't meet a trap
apart : (kit : Kit) (budget k j : ℕ) (t m u : State) → IsDone budget k t → k ≡ j → j < budget → t ≡ m → MeetsTrap kit m u → ⊥
apart kit budget k j t m u (inl halted) e h same trap =
    let no : Halted ≡ Running = sym halted ∙ ap (λ x. x.ending) same ∙ trap.0 in cc
apart kit budget k j t m u (inr (r, full)) e h same trap = omega arith

pub same_stop : (kit : Kit) (budget : ℕ) (s : State) (k j : ℕ) (t u : State) → Stopped kit budget s k t → Stopped kit budget s j u → (k ≡ j) × (t ≡ u)
same_stop kit budget s k j t u (inl (r, h, d)) (inl (q, g, c)) =
    let a = last_done kit budget k s t r h d in
    let b = last_done kit budget j s u q g c in
    (same_count kit budget k j s t u a b, same_last kit budget k j s t u a b)
same_stop kit budget s k j t u (inl (r, h, d)) (inr (n, q, g, c)) =
    let a = last_done kit budget k s t r h d in
    let b = last_trap kit budget j s n u q g c in
    absurd (apart kit budget k j t n u d (same_count kit budget k j s t n a b) g (same_last kit budget k j s t n a b) c)
same_stop kit budget s k j t u (inr (m, r, h, d)) (inl (q, g, c)) =
    let a = last_trap kit budget k s m t r h d in
    let b = last_done kit budget j s u q g c in
    absurd (apart kit budget j k u m t c (same_count kit budget j k s u m b a) h (same_last kit budget j k s u m b a) d)
same_stop kit budget s k j t u (inr (m, r, h, d)) (inr (n, q, g, c)) =
    let a = last_trap kit budget k s m t r h d in
    let b = last_trap kit budget j s n u q g c in
    let same = same_last kit budget k j s m n a b in
    (same_count kit budget k j s m n a b, (same_step kit n no_heads (steps.Trapped d.1) (steps.Trapped c.1) t u (subst (λ x. BundleStep kit x no_heads (steps.Trapped d.1) t) same d.2) c.2).1)
