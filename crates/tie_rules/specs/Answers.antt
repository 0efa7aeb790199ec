-- What an answer says of the first broken rule.
use Rattle.std.specs.Prelude.{◌≡◌, ℕ, Result, Ok, Err, Option, Some, None}
use Rattle.tie_rules.specs.declared.RuleRefusal.{RuleRefusal}
use Rattle.tie_rules.specs.declared.RuleRefusal.TheVariants as refusal

-- want of memory says nothing
abbrev pub Refused : RuleRefusal → Option (ℕ × ℕ) → Type 0
Refused (refusal.Rule rule place) first = first ≡ Some (rule, place)
Refused refusal.NoMemory first = Unit {0}

abbrev pub Judged : Result (Unit {0}) RuleRefusal → Option (ℕ × ℕ) → Type 0
Judged (Ok u) first = first ≡ None
Judged (Err e) first = Refused e first
