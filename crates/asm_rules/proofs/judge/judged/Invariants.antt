use Rattle.std.proofs.Common.{◌≡◌, drop, ℕ, List}
use Rattle.std.specs.HashMap.{get_by_text}
use Rattle.asm_rules.specs.Judge.{judge_of}
use Rattle.asm_rules.specs.Expected.{expected}
use Rattle.asm_rules.specs.Rules.{judged}
use Rattle.asm_rules.proofs.judge.judged.Given as goal

abbrev pub invariant-loop-i : goal.invariant-loop-i
invariant-loop-i l =
    let test = judge_of l.desc (λ (q : List ℕ). get_by_text l.labels q) l.addresses l.test in
    judged test (drop l.i (expected l.desc l.operator)) (drop l.i l.operands) ≡ judged test (expected l.desc l.operator) l.operands
