-- What the code passes down: the declarations that operands may speak of.
use Rattle.std.specs.Prelude.{◌≡◌, IsTrue, All}
use Rattle.tie_desc.specs.Names.{is_word}
use Rattle.tie_tree_law.specs.Shape.{kept_names}
use Rattle.tie_grammar.specs.declared.tree.Decl.{Decl}
use Rattle.tie_grammar.specs.declared.tree.Tree.{Tree}
use Rattle.tie_describe.specs.Operations.{states, files, ranges, inputs, outputs}
use Rattle.tie_describe.specs.declared.operands.Scope.{Scope}

abbrev pub HasWords : Decl → Type 0
HasWords decl = All (λ n. IsTrue (is_word n.bytes)) (kept_names decl)

-- the lists are those of the tree
pub record IsScope (t : Tree) (s : Scope) : Type 0 where
  pub states : s.states.now ≡ states t
  pub files : s.files.now ≡ files t
  pub ranges : s.ranges.now ≡ ranges t
  pub inputs : s.inputs.now ≡ inputs t
  pub outputs : s.outputs.now ≡ outputs t
