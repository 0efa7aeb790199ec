use Rattle.std.proofs.Common.{◌≡◌, ◌+◌, ◌++◌, ◌∷◌, ◌≤◌, [], length, drop, arith, ap, sym, ◌∙◌, length-drop, Ok}
use Rattle.asm_lines.specs.Tokens.{scan, with_front, tokens, moved, past, next_line, token_at, line_end, first_spot}
use Rattle.asm_lines.proofs.Scanning.{gap_step, token_step, line_step, bad_step, scan_end, with_front-append}
use Rattle.asm_lines.proofs.scan.tokens.Goals as goal

pub loop-at-preserved-in-Gap : goal.loop-at-preserved-in-Gap
loop-at-preserved-in-Gap c =
    let size = length-drop c.loop-at.at c.args.text.now in
    let w = c.in-Gap.ensures.within in
    let step = gap_step c.args.text.now c.loop-at.at c.loop-at.spot c.loop-at-test.true c.in-Gap.n (sym c.in-Gap.ensures.piece) w.0 in
    let line = ap (λ s. s.line) c.moved-spot.ensures in
    let column = ap (λ s. s.column) c.moved-spot.ensures in
    record {
      within = omega (arith, w.1);
      line = omega (arith, c.loop-at.invariant.line);
      column = omega (arith, c.loop-at.invariant.column);
      goes_on = ap (λ s. with_front c.loop-at.found.items (scan (drop (c.loop-at.at + c.in-Gap.n) c.args.text.now) 0 s)) c.moved-spot.ensures ∙ sym (ap (with_front c.loop-at.found.items) step) ∙ c.loop-at.invariant.goes_on;
    }

pub loop-at-preserved-in-Token : goal.loop-at-preserved-in-Token
loop-at-preserved-in-Token c =
    let size = length-drop c.loop-at.at c.args.text.now in
    let w = c.in-Token.ensures.within in
    let step = token_step c.args.text.now c.loop-at.at c.loop-at.spot c.loop-at-test.true c.in-Token.kind c.in-Token.n (sym c.in-Token.ensures.piece) w.0 in
    let line = ap (λ s. s.line) c.past-spot.ensures in
    let column = ap (λ s. s.column) c.past-spot.ensures in
    let rest = scan (drop (c.loop-at.at + c.in-Token.n) c.args.text.now) 0 (past c.in-Token.n c.loop-at.spot) in
    let token = token_at c.in-Token.kind c.loop-at.spot in
    record {
      within = omega (arith, w.1);
      line = omega (arith, c.loop-at.invariant.line);
      column = omega (arith, c.loop-at.invariant.column);
      goes_on = ap (λ s. with_front c.push.new.self.items (scan (drop (c.loop-at.at + c.in-Token.n) c.args.text.now) 0 s)) c.past-spot.ensures
          ∙ ap (λ ts. with_front ts rest) (c.in_ok-push-in-Token.ensures.items ∙ ap (λ t. c.loop-at.found.items ++ t ∷ []) c.token_at.ensures)
          ∙ sym (with_front-append c.loop-at.found.items (token ∷ []) rest) ∙ sym (ap (with_front c.loop-at.found.items) step) ∙ c.loop-at.invariant.goes_on;
    }

pub loop-at-preserved : goal.loop-at-preserved
loop-at-preserved c =
    let step = line_step c.args.text.now c.loop-at.at c.loop-at.spot c.loop-at-test.true (sym c.in-LineFeed.ensures.piece) in
    let line = ap (λ s. s.line) c.next_line-spot.ensures in
    let column = ap (λ s. s.column) c.next_line-spot.ensures in
    let rest = scan (drop (c.loop-at.at + 1) c.args.text.now) 0 (next_line c.loop-at.spot) in
    record {
      within = omega (arith, c.loop-at-test.true);
      line = omega (arith, c.loop-at.invariant.line);
      column = omega (arith, c.loop-at.invariant.column);
      goes_on = ap (λ s. with_front c.push_end.new.found.items (scan (drop (c.loop-at.at + 1) c.args.text.now) 0 s)) c.next_line-spot.ensures
          ∙ ap (λ ts. with_front ts rest) c.in_ok-push_end-in-LineFeed.ensures
          ∙ sym (with_front-append c.loop-at.found.items (line_end c.loop-at.spot) rest) ∙ sym (ap (with_front c.loop-at.found.items) step) ∙ c.loop-at.invariant.goes_on;
    }

pub returns-in-Bad : goal.returns-in-Bad
unfolding tokens
returns-in-Bad c =
    let step = bad_step c.args.text.now c.loop-at.at c.loop-at.spot c.loop-at-test.true (sym c.in-Bad.ensures.piece) in
    sym c.loop-at.invariant.goes_on ∙ ap (with_front c.loop-at.found.items) step

pub returns : goal.returns
unfolding tokens
returns c =
    sym c.loop-at.invariant.goes_on ∙ ap (with_front c.loop-at.found.items) (scan_end c.args.text.now c.loop-at.at c.loop-at.spot c.loop-at-test.false)
    ∙ ap Ok (sym c.in_ok-push_end.ensures)
