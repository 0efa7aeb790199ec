use Rattle.std.proofs.Common.{◌≡◌, ℕ, List, Result, Ok, Err, subst, refl}
use Rattle.tie_rules.specs.RuleBook as book
use Rattle.tie_rules.specs.Least.{IsFirst}
use Rattle.tie_check.specs.declared.refusal.CheckRefusal.{CheckRefusal}
use Rattle.tie_check.specs.declared.refusal.CheckRefusal.TheVariants.{Rule}
use Rattle.tie_check.proofs.judged.Goals as goal

-- a refusal names one rule and one place
refuses : {V : Type 0} (rules : List (List ℕ)) (n p : ℕ) → IsFirst 1 rules n p
    → (x : Result V CheckRefusal) (rule place : ℕ) → x ≡ Err (Rule n p) → x ≡ Err (Rule rule place) → IsFirst 1 rules rule place
refuses rules n p first x rule place d e =
    let same_rule : n ≡ rule = cc in
    let same_place : p ≡ place = cc in
    subst (λ r. IsFirst 1 rules r place) same_rule (subst (λ q. IsFirst 1 rules n q) same_place first)

pub returns-in-Err-Rule-clause-first : goal.returns-in-Err-Rule-clause-first
returns-in-Err-Rule-clause-first c = λ rule place e.
    let first = c.judge.ensures.first c.in-Err-Rule.rule c.in-Err-Rule.place (rw c.in-Err-Rule.field-0-is at c.in-Err-Rule.is) in
    refuses (book.rules c.args.tree.now) c.in-Err-Rule.rule c.in-Err-Rule.place first _ rule place refl e
