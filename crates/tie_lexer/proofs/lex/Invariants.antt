use Rattle.std.proofs.Common.{ℕ, List, length, ◌++◌, ◌-◌, ◌≤◌}
use Rattle.tie_lexer.specs.declared.Token.{Token}
use Rattle.tie_lexer.specs.Tokens.{Lexed}
use Rattle.tie_lexer.proofs.lex.Given as goal

-- whatever the rest of the text is, it goes on from what is found
abbrev pub invariant-loop-at : goal.invariant-loop-at
invariant-loop-at l = record {
  within : l.at ≤ length l.text;
  goes_on : (ts : List Token) (to : ℕ) → Lexed l.text l.at ts to → Lexed l.text 0 (l.found.items ++ ts) to;
}

abbrev pub decreases-loop-at : goal.decreases-loop-at
decreases-loop-at l = length l.text - l.at
