-- The answers of the parser.
use Rattle.std.specs.Prelude.{◌≡◌, ℕ, List}
use Rattle.tie_lexer.specs.declared.Token.{Token}
use Rattle.tie_grammar.specs.declared.tree.Tree.{Tree}
use Rattle.tie_grammar.specs.Grammar.{IsTree, IsBeyond, IsFault}
use Rattle.tie_ast.specs.Symbols.{symbols, place_at}

-- the tree of these tokens, in which no expression passes the limit of 1,024 tokens
pub record IsTreeOf (text : List ℕ) (tokens : List Token) (tree : Tree) : Type 0 where
  pub tree_is : IsTree (symbols text tokens) tree
  pub allowed : (k : ℕ) → IsBeyond (symbols text tokens) k → ⊥

-- the place of the first token with which no text goes on within the limit, or the text's length where the tokens end too early
pub record IsFaultOf (text : List ℕ) (tokens : List Token) (place : ℕ) : Type 0 where
  pub at : ℕ
  pub fault : IsFault (symbols text tokens) at
  pub place_is : place ≡ place_at text tokens at
