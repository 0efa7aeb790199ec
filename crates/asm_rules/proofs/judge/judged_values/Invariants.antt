use Rattle.std.proofs.Common.{◌≡◌, drop, ℕ, List}
use Rattle.std.specs.HashMap.{get_by_text}
use Rattle.asm_rules.specs.Judge.{judge_of}
use Rattle.asm_rules.specs.Rules.{first_in, judged_value}
use Rattle.asm_rules.proofs.judge.judged_values.Given as goal

abbrev pub invariant-loop-operand : goal.invariant-loop-operand
invariant-loop-operand l =
    let f = judged_value (judge_of l.desc (λ (q : List ℕ). get_by_text l.labels q) l.addresses l.test) l.size in
    first_in f (drop l.operand-index l.values) ≡ first_in f l.values
