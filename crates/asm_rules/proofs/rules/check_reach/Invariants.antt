use Rattle.std.proofs.Common.{◌≡◌, drop, ℕ, List}
use Rattle.std.specs.HashMap.{get_by_text}
use Rattle.asm_rules.specs.Labels.{find_in}
use Rattle.asm_rules.specs.Rules.{unreached_in}
use Rattle.asm_rules.proofs.rules.check_reach.Given as goal

abbrev pub invariant-loop-i : goal.invariant-loop-i
invariant-loop-i l =
    let find = find_in l.addresses (λ (q : List ℕ). get_by_text l.labels q) in
    unreached_in l.desc find (drop l.i l.addresses) (drop l.i l.lines) ≡ unreached_in l.desc find l.addresses l.lines
