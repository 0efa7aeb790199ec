-- Results are `Ok` or `Err`, and what they hold is one.
use Rattle.std.proofs.Common.{◌≡◌, ℕ, List, Result, Ok, Err, sym, ap, subst, ◌∙◌}
use Rattle.net_load.specs.net_toml.Broken.{Broken}
use Rattle.net_load.specs.tie_files.declared.refusal.Refusal.{Refusal}
use Rattle.net_load.specs.tie_files.declared.refusal.Refusal.TheVariants.{NetRefused}
use Rattle.net_load.specs.Texts.{Breaks}

IsGood : {A E : Type 0} → Result A E → Type 0
IsGood (Ok x) = Unit {0}
IsGood (Err e) = ⊥

pub ok_err : {A E : Type 0} (r : Result A E) (x : A) (e : E) → r ≡ Ok x → r ≡ Err e → ⊥
unfolding IsGood
ok_err r x e p q = subst (λ z. IsGood z) (sym p ∙ q) tt

good_or : {A E : Type 0} → A → Result A E → A
good_or other (Ok x) = x
good_or other (Err e) = other

pub one_ok : {A E : Type 0} (r : Result A E) (x y : A) → r ≡ Ok x → r ≡ Ok y → x ≡ y
unfolding good_or
one_ok r x y p q = ap (good_or x) (sym p ∙ q)

fault_or : {A E : Type 0} → E → Result A E → E
fault_or other (Ok x) = other
fault_or other (Err e) = e

pub one_err : {A E : Type 0} (r : Result A E) (e f : E) → r ≡ Err e → r ≡ Err f → e ≡ f
unfolding fault_or
one_err r e f p q = ap (fault_or e) (sym p ∙ q)

-- one result breaks one rule, and none where it has a value
pub breaks_once : {A : Type 0} (name : List ℕ) (r : Result A Broken) (e f : Refusal) → Breaks name r e → Breaks name r f → e ≡ f
breaks_once name r e f p q = p.3 ∙ ap (λ (b : Broken). NetRefused name b.0 b.1) (one_err r (p.0, p.1) (q.0, q.1) p.2 q.2) ∙ sym q.3

pub breaks_none : {A : Type 0} (name : List ℕ) (r : Result A Broken) (x : A) (e : Refusal) → r ≡ Ok x → Breaks name r e → ⊥
breaks_none name r x e p q = ok_err r x (q.0, q.1) p q.2
