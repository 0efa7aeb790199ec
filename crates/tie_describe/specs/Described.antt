-- The description that a text declares.
use Rattle.std.specs.Prelude.{List}
use Rattle.tie_expr.specs.declared.node.Node.{Node}
use Rattle.tie_grammar.specs.declared.tree.Tree.{Tree}
use Rattle.tie_desc.specs.Description.{Description}
use Rattle.tie_desc.specs.declared.declarations.OpDecl.{OpDecl}
use Rattle.tie_describe.specs.Operations.{states, files, ranges, inputs, outputs, operations, with_results}
use Rattle.tie_describe.specs.Formats.{formats}

abbrev pub ops : Tree → List (List Node) → List OpDecl
ops t results = with_results t (operations t) results

-- each kind of declaration in the order of the text. The results are those of each operation, in the same order.
abbrev pub described : Tree → List (List Node) → Description
described t results = record {
  states = states t;
  files = files t;
  ranges = ranges t;
  ops = ops t results;
  formats = formats t (ops t results);
  ins = inputs t;
  outs = outputs t;
}
