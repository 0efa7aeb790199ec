use Rattle.std.proofs.Common.{rules, ◌≡◌, ◌+◌, ◌∷◌, ◌∙◌, ℕ, List, Some, None, drop, get_or, sym, ap, arith}
use Rattle.std.proofs.lemmas.Grind.{common_steps}
use Rattle.std.specs.HashMap.{get_by_text}
use Rattle.std.specs.Option.{option_map}
use Rattle.asm_lines.specs.declared.refusal.AsmRule.TheVariants as rule
use Rattle.asm_rules.specs.Labels.{find_in}
use Rattle.asm_rules.specs.Judge.{refused}
use Rattle.asm_rules.specs.Rules.{unreached_in, or_else, fault_at}
use Rattle.asm_rules.proofs.Steps.{unreached_step, unreached_end, unreached_done}
use Rattle.asm_rules.proofs.rules.check_reach.Goals as goal

pub returns-in-Some : goal.returns-in-Some
returns-in-Some c =
    let find = find_in c.args.addresses.now (λ (q : List ℕ). get_by_text c.args.labels.now q) in
    let step = unreached_step c.args.desc.now find c.args.addresses.now c.args.lines.now c.loop-i.i c.index-lines-i.result c.if-i-addresses.false c.loop-i-test.true c.index-lines-i.is in
    let rest = unreached_in c.args.desc.now find (drop (c.loop-i.i + 1) c.args.addresses.now) (drop (c.loop-i.i + 1) c.args.lines.now) in
    let e = sym c.loop-i.invariant ∙ step ∙ ap (λ o. or_else (option_map (fault_at rule.Reach c.index-lines-i.result) o) rest) (sym c.judged_in.ensures ∙ c.in-Some.is) in
    let f = ap refused e in
    first_of (search rules, grind (arith, common_steps))

pub loop-i-preserved : goal.loop-i-preserved
loop-i-preserved c =
    let find = find_in c.args.addresses.now (λ (q : List ℕ). get_by_text c.args.labels.now q) in
    let step = unreached_step c.args.desc.now find c.args.addresses.now c.args.lines.now c.loop-i.i c.index-lines-i.result c.if-i-addresses.false c.loop-i-test.true c.index-lines-i.is in
    let rest = unreached_in c.args.desc.now find (drop (c.loop-i.i + 1) c.args.addresses.now) (drop (c.loop-i.i + 1) c.args.lines.now) in
    sym (step ∙ ap (λ o. or_else (option_map (fault_at rule.Reach c.index-lines-i.result) o) rest) (sym c.judged_in.ensures ∙ c.in_default.is)) ∙ c.loop-i.invariant

pub returns-then-i-addresses : goal.returns-then-i-addresses
returns-then-i-addresses c =
    let find = find_in c.args.addresses.now (λ (q : List ℕ). get_by_text c.args.labels.now q) in
    ap refused (sym c.loop-i.invariant ∙ unreached_end c.args.desc.now find c.args.addresses.now c.args.lines.now c.loop-i.i c.if-i-addresses.true)

pub returns : goal.returns
returns c =
    let find = find_in c.args.addresses.now (λ (q : List ℕ). get_by_text c.args.labels.now q) in
    ap refused (sym c.loop-i.invariant ∙ unreached_done c.args.desc.now find c.args.addresses.now c.args.lines.now c.loop-i.i c.loop-i-test.false)
