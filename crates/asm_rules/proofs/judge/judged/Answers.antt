use Rattle.std.proofs.Common.{◌≡◌, ◌+◌, ◌∷◌, ◌∙◌, ℕ, List, Some, None, false, true, drop, sym, ap, arith}
use Rattle.std.specs.Prelude.{slice_get}
use Rattle.std.specs.HashMap.{get_by_text}
use Rattle.asm_rules.specs.Expected.{expected}
use Rattle.asm_rules.specs.Judge.{judge_of}
use Rattle.asm_rules.specs.Operands.{Judge, column_of}
use Rattle.asm_rules.specs.Rules.{judged, unless, or_else}
use Rattle.asm_rules.proofs.Steps.{judged_step, judged_end, judged_done}
use Rattle.asm_rules.proofs.judge.judged.Goals as goal

pub returns-in-None : goal.returns-in-None
returns-in-None c =
    let test = judge_of c.args.desc.now (λ (q : List ℕ). get_by_text c.args.labels.now q) c.args.addresses.now c.args.test in
    let es = expected c.args.desc.now c.args.operator in
    sym (sym c.loop-i.invariant ∙ judged_end test es c.args.operands.now c.loop-i.i (sym c.expected_at.ensures ∙ c.in-None.is))

pub returns-then-not-judge : goal.returns-then-not-judge
returns-then-not-judge c =
    let test = judge_of c.args.desc.now (λ (q : List ℕ). get_by_text c.args.labels.now q) c.args.addresses.now c.args.test in
    let es = expected c.args.desc.now c.args.operator in
    let os = c.args.operands.now in
    let o = c.index-operands-i.result in
    let i = c.loop-i.i in
    let step = judged_step test es os i c.in-Some.expected o (sym c.expected_at.ensures ∙ c.in-Some.is) c.loop-i-test.true c.index-operands-i.is in
    let fails : test c.in-Some.expected o ≡ false = sym c.judge.ensures ∙ c.if-not-judge.true in
    ap Some c.column_of.ensures
    ∙ sym (sym c.loop-i.invariant ∙ step ∙ ap (λ b. or_else (unless b (column_of o)) (judged test (drop (i + 1) es) (drop (i + 1) os))) fails)

pub loop-i-preserved : goal.loop-i-preserved
loop-i-preserved c =
    let test = judge_of c.args.desc.now (λ (q : List ℕ). get_by_text c.args.labels.now q) c.args.addresses.now c.args.test in
    let es = expected c.args.desc.now c.args.operator in
    let os = c.args.operands.now in
    let o = c.index-operands-i.result in
    let i = c.loop-i.i in
    let step = judged_step test es os i c.in-Some.expected o (sym c.expected_at.ensures ∙ c.in-Some.is) c.loop-i-test.true c.index-operands-i.is in
    let passes : test c.in-Some.expected o ≡ true = sym c.judge.ensures ∙ c.if-not-judge.false in
    sym (step ∙ ap (λ b. or_else (unless b (column_of o)) (judged test (drop (i + 1) es) (drop (i + 1) os))) passes) ∙ c.loop-i.invariant

pub returns : goal.returns
returns c =
    let test = judge_of c.args.desc.now (λ (q : List ℕ). get_by_text c.args.labels.now q) c.args.addresses.now c.args.test in
    let es = expected c.args.desc.now c.args.operator in
    sym (sym c.loop-i.invariant ∙ judged_done test es c.args.operands.now c.loop-i.i c.loop-i-test.false)
