-- A value, or the first rule that is broken, with its key.
use Rattle.std.specs.Prelude.{◌≡◌, ℕ, Bool, if◌then◌else◌, List, Result, Ok, Err}
use Rattle.net_toml.specs.declared.refusal.NetRule.{NetRule}
use Rattle.net_toml.specs.declared.refusal.NetRefusal.{NetRefusal}
use Rattle.net_toml.specs.declared.refusal.NetRefusal.TheVariants.{Fault, NoMemory}

abbrev pub Broken : Type 0
Broken = NetRule × List ℕ

infixl 10 ◌>>=◌
abbrev pub ◌>>=◌ : {A B : Type 0} → Result A Broken → (A → Result B Broken) → Result B Broken
(Ok x) >>= f = f x
(Err e) >>= f = Err e

-- the rule holds, or it is broken at this key
abbrev pub check : NetRule → List ℕ → Bool → Result (Unit {0}) Broken
check rule key holds = if holds then Ok tt else Err (rule, key)

-- a refusal names the first broken rule with its key, unless memory ran out
abbrev pub Names : {A : Type 0} → NetRefusal → Result A Broken → Type 0
Names (Fault rule key) wanted = wanted ≡ Err (rule, key)
Names NoMemory wanted = Unit {0}

-- a call answered what is wanted, or memory ran out
abbrev pub Gives : {A : Type 0} → Result A NetRefusal → Result A Broken → Type 0
Gives (Ok x) wanted = wanted ≡ Ok x
Gives (Err e) wanted = Names e wanted

-- the same, where what it gave is seen in another way
abbrev pub GivesAs : {A B : Type 0} → (A → B) → Result A NetRefusal → Result B Broken → Type 0
GivesAs view (Ok x) wanted = wanted ≡ Ok (view x)
GivesAs view (Err e) wanted = Names e wanted
