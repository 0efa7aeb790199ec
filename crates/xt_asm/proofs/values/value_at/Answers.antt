use Rattle.std.proofs.Common.{rules, arith, ℕ, List, subst, sym, ◌∙◌}
use Rattle.std.proofs.lemmas.Grind.{common_steps}
use Rattle.std.specs.Prelude.{FitsSigned}
use Rattle.std.specs.Int.{w32}
use Rattle.std.specs.HashMap.{get_by_text}
use Rattle.asm_rules.specs.Expected.{expected}
use Rattle.asm_rules.specs.Labels.{find_in}
use Rattle.xt_asm.proofs.Numbers.{value_here, no_value, no_operand}
use Rattle.xt_asm.proofs.values.value_at.Goals as goal

pub value_of-requires : goal.value_of-requires
value_of-requires c =
    let find = find_in c.args.addresses.now (λ (q : List ℕ). get_by_text c.args.labels.now q) in
    let e = value_here c.args.desc.now find c.args.at (expected c.args.desc.now c.args.operator) c.args.operands.now c.args.number c.in-Some.expected c.index-operands-number.result (sym c.expected_at.ensures ∙ c.in-Some.is) c.if-number-operands.true c.index-operands-number.is in
    subst (FitsSigned w32) e c.requires

pub returns-in-None : goal.returns-in-None
returns-in-None c =
    let find = find_in c.args.addresses.now (λ (q : List ℕ). get_by_text c.args.labels.now q) in
    sym (no_value c.args.desc.now find c.args.at (expected c.args.desc.now c.args.operator) c.args.operands.now c.args.number (sym c.expected_at.ensures ∙ c.in-None.is))

pub returns-then-number-operands : goal.returns-then-number-operands
returns-then-number-operands c =
    let find = find_in c.args.addresses.now (λ (q : List ℕ). get_by_text c.args.labels.now q) in
    let e = value_here c.args.desc.now find c.args.at (expected c.args.desc.now c.args.operator) c.args.operands.now c.args.number c.in-Some.expected c.index-operands-number.result (sym c.expected_at.ensures ∙ c.in-Some.is) c.if-number-operands.true c.index-operands-number.is in
    let k = c.value_of.ensures ∙ sym e in
    first_of (search rules, grind (arith, common_steps))

pub returns-else-number-operands : goal.returns-else-number-operands
returns-else-number-operands c =
    let find = find_in c.args.addresses.now (λ (q : List ℕ). get_by_text c.args.labels.now q) in
    sym (no_operand c.args.desc.now find c.args.at (expected c.args.desc.now c.args.operator) c.args.operands.now c.args.number c.if-number-operands.false)
