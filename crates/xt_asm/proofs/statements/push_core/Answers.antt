use Rattle.std.proofs.Common.{ℕ, List, subst, sym, ap, ◌∙◌, ◌≡◌, ◌++◌}
use Rattle.std.specs.Prelude.{FitsSigned, OnOk}
use Rattle.std.specs.Int.{w32}
use Rattle.std.specs.HashMap.{get_by_text}
use Rattle.xt_isa.specs.Table.{Fits, word}
use Rattle.xt_mnemonics.specs.Build.{number_at, build, filled}
use Rattle.tie_desc.specs.Spelling.{three_bytes}
use Rattle.asm_lines.specs.declared.line.Operator.TheVariants as operator
use Rattle.asm_rules.specs.Expected.{expected}
use Rattle.asm_rules.specs.Labels.{find_in}
use Rattle.xt_asm.specs.Bytes.{values}
use Rattle.xt_asm.proofs.Small.{numbers_small}
use Rattle.xt_asm.proofs.Numbers.{same_built}
use Rattle.xt_asm.proofs.statements.push_core.Goals as goal

pub values-requires : goal.values-requires
values-requires c = λ i.
    let find = find_in c.args.addresses.now (λ (q : List ℕ). get_by_text c.args.labels.now q) in
    let es = expected c.args.desc.now (operator.Core c.args.mnemonic) in
    subst (λ os. FitsSigned w32 (number_at (values c.args.desc.now find c.args.at es os) i)) (sym c.as_slice-operands.ensures)
    (numbers_small c.args.mnemonic (values c.args.desc.now find c.args.at es c.args.operation.now.operands) i c.requires)

pub push_bundle-requires : goal.push_bundle-requires
push_bundle-requires c =
    let find = find_in c.args.addresses.now (λ (q : List ℕ). get_by_text c.args.labels.now q) in
    let es = expected c.args.desc.now (operator.Core c.args.mnemonic) in
    let vs = values c.args.desc.now find c.args.at es c.args.operation.now.operands in
    let is = c.build-inst.ensures ∙ ap (build c.args.mnemonic) (c.values.ensures ∙ ap (λ os. filled (values c.args.desc.now find c.args.at es os)) c.as_slice-operands.ensures) ∙ same_built c.args.mnemonic vs in
    subst Fits (sym is) (c.words_fit.ensures c.args.mnemonic vs c.requires)

pub returns : goal.returns
returns c =
    let find = find_in c.args.addresses.now (λ (q : List ℕ). get_by_text c.args.labels.now q) in
    let es = expected c.args.desc.now (operator.Core c.args.mnemonic) in
    let vs = values c.args.desc.now find c.args.at es c.args.operation.now.operands in
    let is = c.build-inst.ensures ∙ ap (build c.args.mnemonic) (c.values.ensures ∙ ap (λ os. filled (values c.args.desc.now find c.args.at es os)) c.as_slice-operands.ensures) ∙ same_built c.args.mnemonic vs in
    subst (λ inst. OnOk c.push_bundle.result (c.push_bundle.new.out.items ≡ c.args.out.now.items ++ three_bytes (word inst))) is c.push_bundle.ensures
