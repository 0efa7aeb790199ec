use Rattle.std.proofs.Common.{◌≡◌, drop, ℕ, List}
use Rattle.std.specs.HashMap.{get_by_text}
use Rattle.asm_rules.specs.Judge.{judge_of}
use Rattle.asm_rules.specs.Rules.{first_in, judged_operation}
use Rattle.asm_rules.proofs.judge.judged_operations.Given as goal

abbrev pub invariant-loop-operation : goal.invariant-loop-operation
invariant-loop-operation l =
    let f = judged_operation l.desc (judge_of l.desc (λ (q : List ℕ). get_by_text l.labels q) l.addresses l.test) in
    first_in f (drop l.operation-index l.operations) ≡ first_in f l.operations
