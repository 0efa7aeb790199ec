-- Lists that grow at their end.
use Rattle.std.proofs.Common.{◌≡◌, ℕ, zero, suc, List, Vec, Global, [], ◌∷◌, ◌++◌, length, Some, refl, sym, ap, ◌∙◌, subst, ⊎_elim, ◌⊎◌, inl, inr, arith}
use Rattle.std.specs.Prelude.{slice_get}
use Rattle.net_parts.specs.declared.parts.Net.{Net}
use Rattle.net_parts.specs.declared.parts.NetCore.{NetCore}
use Rattle.net_parts.specs.declared.ends.CoreEnd.{CoreEnd}
use Rattle.net_ref.specs.declared.channel.Channel.{Channel}
use Rattle.net_ref.specs.declared.ports.CorePorts.{CorePorts}
use Rattle.net_ref.specs.Ports.{AreCorePorts}
use Rattle.net_ref.specs.First.{IsFirstCore, IsFirstChannel}
use Rattle.net_ref.proofs.Lists.{some_same}

-- an item of a list with one more at its end: one from before, or that one
pub pushed_at : {X : Type 0} (xs : List X) (x : X) (k : ℕ) (y : X) → slice_get (xs ++ x ∷ []) k ≡ Some y → (slice_get xs k ≡ Some y) ⊎ ((k ≡ length xs) × (y ≡ x))
pushed_at [] x zero y at = inr (refl, some_same y x (sym at))
pushed_at [] x (suc k) y at = cc
pushed_at (z ∷ zs) x zero y at = inl at
pushed_at (z ∷ zs) x (suc k) y at = ⊎_elim (λ h. inl h) (λ h. inr (let e = h.0 in omega arith, h.1)) (pushed_at zs x k y at)

pub more_ports : (net : Net) (all : List CorePorts) (here : NetCore) (x : CorePorts) (n : ℕ) → n ≡ length all → slice_get net.cores.items n ≡ Some here → AreCorePorts net n here x
    → ((c : ℕ) (core : NetCore) (p : CorePorts) → slice_get net.cores.items c ≡ Some core → slice_get all c ≡ Some p → AreCorePorts net c core p)
    → (c : ℕ) (core : NetCore) (p : CorePorts) → slice_get net.cores.items c ≡ Some core → slice_get (all ++ x ∷ []) c ≡ Some p → AreCorePorts net c core p
more_ports net all here x n len there new old c core p at got =
    ⊎_elim
    (λ h. old c core p at h)
    (λ h.
    let same : n ≡ c = len ∙ sym h.0 in
    let core_is : here ≡ core = some_same here core (sym there ∙ (ap (slice_get net.cores.items) same ∙ at)) in
    subst (λ (q : CorePorts). AreCorePorts net c core q) (sym h.1)
    (subst (λ (k : ℕ). AreCorePorts net k core x) same (subst (λ (a : NetCore). AreCorePorts net n a x) core_is new)))
    (pushed_at all x c p got)

pub more_cores : (cores : List NetCore) (all : List CoreEnd) (here : NetCore) (x : CoreEnd) (n : ℕ) → n ≡ length all → slice_get cores n ≡ Some here → IsFirstCore here x
    → ((c : ℕ) (core : NetCore) (y : CoreEnd) → slice_get cores c ≡ Some core → slice_get all c ≡ Some y → IsFirstCore core y)
    → (c : ℕ) (core : NetCore) (y : CoreEnd) → slice_get cores c ≡ Some core → slice_get (all ++ x ∷ []) c ≡ Some y → IsFirstCore core y
more_cores cores all here x n len there new old c core y at got =
    ⊎_elim
    (λ h. old c core y at h)
    (λ h.
    let same : n ≡ c = len ∙ sym h.0 in
    let core_is : here ≡ core = some_same here core (sym there ∙ (ap (slice_get cores) same ∙ at)) in
    subst (λ (q : CoreEnd). IsFirstCore core q) (sym h.1) (subst (λ (a : NetCore). IsFirstCore a x) core_is new))
    (pushed_at all x c y got)

pub more_values : (all : List (Vec ℕ Global)) (x : Vec ℕ Global) → x.items ≡ []
    → ((k : ℕ) (y : Vec ℕ Global) → slice_get all k ≡ Some y → y.items ≡ []) → (k : ℕ) (y : Vec ℕ Global) → slice_get (all ++ x ∷ []) k ≡ Some y → y.items ≡ []
more_values all x empty old k y got = ⊎_elim (λ h. old k y h) (λ h. ap (λ (v : Vec ℕ Global). v.items) h.1 ∙ empty) (pushed_at all x k y got)

pub more_channels : (all : List Channel) (x : Channel) → IsFirstChannel x
    → ((k : ℕ) (y : Channel) → slice_get all k ≡ Some y → IsFirstChannel y) → (k : ℕ) (y : Channel) → slice_get (all ++ x ∷ []) k ≡ Some y → IsFirstChannel y
more_channels all x new old k y got = ⊎_elim (λ h. old k y h) (λ h. subst (λ (z : Channel). IsFirstChannel z) (sym h.1) new) (pushed_at all x k y got)
