use Rattle.std.proofs.Common.{◌≡◌, ◌+◌, ℕ, [], length, drop, arith, subst, sym, length-drop, append_assoc}
use Rattle.std.proofs.lemmas.List.{append-nil}
use Rattle.tie_lexer.specs.declared.LexRule.{LexRule}
use Rattle.tie_lexer.specs.Pieces.{IsBad}
use Rattle.tie_lexer.specs.Tokens.{Lexed, done, gap, token}
use Rattle.tie_lexer.proofs.Within.{gap_within, spelled_within}
use Rattle.tie_lexer.proofs.lex.Goals as goal

pub loop-at-preserved-in-Gap : goal.loop-at-preserved-in-Gap
loop-at-preserved-in-Gap c =
    let size = length-drop c.loop-at.at c.args.text.now in
    let w = gap_within (drop c.loop-at.at c.args.text.now) c.in-Gap.n (omega arith) c.in-Gap.ensures in
    record {
      within = omega (arith, w.1);
      goes_on = λ ts to rest. c.loop-at.invariant.goes_on ts to (gap c.in-Gap.n c.loop-at-test.true c.in-Gap.ensures rest);
    }

pub loop-at-preserved : goal.loop-at-preserved
loop-at-preserved c =
    let size = length-drop c.loop-at.at c.args.text.now in
    let w = spelled_within (drop c.loop-at.at c.args.text.now) c.in-Token.kind c.in-Token.n (omega arith) c.in-Token.ensures.0 in
    record {
      within = omega (arith, w.1);
      goes_on = λ ts to rest. rw (c.in_ok-push-in-Token.ensures.items, append_assoc) (
          c.loop-at.invariant.goes_on _ to (token c.in-Token.kind c.in-Token.n c.loop-at-test.true c.in-Token.ensures rest)
          );
    }

pub returns-in-Bad-clause-fault : goal.returns-in-Bad-clause-fault
returns-in-Bad-clause-fault c =
    λ rule place is.
    let same_rule : c.in-Bad.rule ≡ rule = cc in
    let same_place : c.loop-at.at + c.in-Bad.offset ≡ place = cc in
    record {
      tokens = c.loop-at.found.items;
      at = c.loop-at.at;
      before = rw append-nil at (c.loop-at.invariant.goes_on [] c.loop-at.at done);
      more = c.loop-at-test.true;
      offset = c.in-Bad.offset;
      bad = subst (λ (r : LexRule). IsBad (drop c.loop-at.at c.args.text.now) r c.in-Bad.offset) same_rule c.in-Bad.ensures;
      place_is = sym same_place;
    }

pub returns-clause-tokens : goal.returns-clause-tokens
returns-clause-tokens c =
    let all : c.loop-at.at ≡ length c.args.text.now = omega arith in
    subst (λ (n : ℕ). Lexed c.args.text.now 0 c.loop-at.found.items n) all
    (rw append-nil at (c.loop-at.invariant.goes_on [] c.loop-at.at done))
