use Rattle.std.proofs.Common.{◌≡◌, drop, ℕ, List}
use Rattle.std.specs.HashMap.{get_by_text}
use Rattle.asm_rules.specs.Rules.{breach_from}
use Rattle.asm_rules.proofs.rules.check_rule.Given as goal

abbrev pub invariant-loop-i : goal.invariant-loop-i
invariant-loop-i l =
    let find = λ (q : List ℕ). get_by_text l.labels q in
    breach_from l.desc find l.rule l.i (drop l.i l.lines) ≡ breach_from l.desc find l.rule 0 l.lines
