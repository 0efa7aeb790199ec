use Rattle.std.proofs.Common.{rules, arith, ℕ, List, Ok, sym, ap, ◌∙◌}
use Rattle.std.proofs.lemmas.Grind.{common_steps}
use Rattle.std.specs.HashMap.{get_by_text}
use Rattle.asm_rules.specs.Judge.{refused, laid}
use Rattle.asm_rules.specs.Labels.{find_in}
use Rattle.asm_rules.specs.Rules.{breach_by, line_rules, unreached_in, fault_in}
use Rattle.xt_asm.specs.Assembly.{assembled}
use Rattle.xt_asm.proofs.Judged.{line_fault, long_fault, reach_fault, no_fault, checked_bytes, hands_on}
use Rattle.xt_asm.proofs.assembly.assemble_lines.Goals as goal

pub returns-in_err-check_lines : goal.returns-in_err-check_lines
returns-in_err-check_lines c =
    let d = c.args.desc.now in
    let ls = c.args.lines.now in
    let labels = λ (q : List ℕ). get_by_text c.in_ok-labels.labels q in
    let k = hands_on c.in_err-check_lines.field-0.0 (refused (breach_by d labels line_rules ls)) (assembled d ls (fault_in d ls)) c.in_err-check_lines.ensures
    (λ f e. line_fault d labels ls f c.in_ok-labels.ensures e) in
    first_of (search rules, grind (arith, common_steps))

pub returns-in_err-addresses : goal.returns-in_err-addresses
returns-in_err-addresses c =
    let d = c.args.desc.now in
    let ls = c.args.lines.now in
    let labels = λ (q : List ℕ). get_by_text c.in_ok-labels.labels q in
    let k = hands_on c.in_err-addresses.field-0.0 (laid d ls) (assembled d ls (fault_in d ls)) c.in_err-addresses.ensures
    (λ f e. long_fault d labels ls f c.in_ok-labels.ensures c.in_ok-check_lines.ensures e) in
    first_of (search rules, grind (arith, common_steps))

pub returns-in_err-check_reach : goal.returns-in_err-check_reach
returns-in_err-check_reach c =
    let d = c.args.desc.now in
    let ls = c.args.lines.now in
    let labels = λ (q : List ℕ). get_by_text c.in_ok-labels.labels q in
    let at = c.as_slice-at.result.now in
    let laid_at = c.in_ok-addresses.ensures ∙ ap Ok (sym c.as_slice-at.ensures.value) in
    let k = hands_on c.in_err-check_reach.field-0.0 (refused (unreached_in d (find_in at labels) at ls)) (assembled d ls (fault_in d ls)) c.in_err-check_reach.ensures
    (λ f e. reach_fault d labels at ls f c.in_ok-labels.ensures c.in_ok-check_lines.ensures laid_at e) in
    first_of (search rules, grind (arith, common_steps))

pub image-requires : goal.image-requires
image-requires c =
    let labels = λ (q : List ℕ). get_by_text c.in_ok-labels.labels q in
    checked_bytes c.args.desc.now labels c.as_slice-at.result.now c.args.lines.now c.facts.ensures c.requires c.in_ok-check_lines.ensures c.in_ok-check_reach.ensures

pub returns : goal.returns
returns c =
    let labels = λ (q : List ℕ). get_by_text c.in_ok-labels.labels q in
    let laid_at = c.in_ok-addresses.ensures ∙ ap Ok (sym c.as_slice-at.ensures.value) in
    no_fault c.args.desc.now labels c.as_slice-at.result.now c.args.lines.now c.in_ok-labels.ensures c.in_ok-check_lines.ensures laid_at c.in_ok-check_reach.ensures
    ∙ ap Ok (sym c.in_ok-image.ensures)
