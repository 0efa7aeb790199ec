use Rattle.std.proofs.Common.{◌≡◌, drop, ℕ, List}
use Rattle.std.specs.HashMap.{get_by_text}
use Rattle.asm_rules.specs.Rules.{breach_by}
use Rattle.asm_rules.proofs.rules.check_rules.Given as goal

abbrev pub invariant-loop-rule : goal.invariant-loop-rule
invariant-loop-rule l =
    let find = λ (q : List ℕ). get_by_text l.labels q in
    breach_by l.desc find (drop l.rule-index l.rules) l.lines ≡ breach_by l.desc find l.rules l.lines
