-- The description of a TIE text, or the first rule that the text breaks and its place.
use Rattle.std.specs.Prelude.{ℕ, List}
use Rattle.tie_lexer.specs.declared.Token.{Token}
use Rattle.tie_lexer.specs.Tokens.{AreTokens, IsFault}
use Rattle.tie_grammar.specs.declared.tree.Tree.{Tree}
use Rattle.tie_ast.specs.Parsing.{IsTreeOf, IsFaultOf}
use Rattle.tie_check.specs.tie_rules.RuleBook.{rules}
use Rattle.tie_check.specs.tie_rules.Least.{IsFirst}
use Rattle.tie_desc.specs.Description.{Description}
use Rattle.tie_check.specs.Checked.{Accepted}
use Rattle.tie_front.specs.declared.refusal.TieRule.{TieRule}
use Rattle.tie_front.specs.declared.refusal.TieRule.TheVariants.{Lex, Parse, Rule}

-- the text has tokens, these have a tree, and this is the tree's description
pub record IsDescriptionOf (text : List ℕ) (d : Description) : Type 0 where
  pub tokens : List Token
  pub lexed : AreTokens text tokens
  pub tree : Tree
  pub parsed : IsTreeOf text tokens tree
  pub accepted : Accepted tree d

-- the tokens of the text have their first fault here
pub record IsMisparsed (text : List ℕ) (place : ℕ) : Type 0 where
  pub tokens : List Token
  pub lexed : AreTokens text tokens
  pub fault : IsFaultOf text tokens place

-- the text has a tree, of which this is the least broken rule, at its least place
pub record IsIllFormed (text : List ℕ) (rule place : ℕ) : Type 0 where
  pub tokens : List Token
  pub lexed : AreTokens text tokens
  pub tree : Tree
  pub parsed : IsTreeOf text tokens tree
  pub first : IsFirst 1 (rules tree) rule place

-- the text is refused by this rule at this place
abbrev pub IsRefused : List ℕ → TieRule → ℕ → Type 0
IsRefused text (Lex rule) place = IsFault text rule place
IsRefused text Parse place = IsMisparsed text place
IsRefused text (Rule rule) place = IsIllFormed text rule place
