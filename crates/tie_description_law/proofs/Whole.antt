-- All that a description keeps.
use Rattle.std.proofs.Common.{List, arith, lit<}
use Rattle.tie_expr.specs.declared.node.Node.{Node}
use Rattle.tie_grammar.specs.Spelling.{IsText}
use Rattle.tie_grammar.specs.declared.tree.Tree.{Tree}
use Rattle.tie_desc.specs.Invariant.{IsDescription}
use Rattle.tie_describe.specs.Described.{ops, described}
use Rattle.tie_description_law.specs.Fits.{ResultsFit}
use Rattle.tie_description_law.proofs.Declared.{all_states, all_files, all_ranges, all_inputs, all_outputs}
use Rattle.tie_description_law.proofs.Counts.{few_states, few_files, few_ranges, few_inputs, few_outputs, few_formats, formats_numbered}
use Rattle.tie_description_law.proofs.NamesDiffer.{names_differ}
use Rattle.tie_description_law.proofs.GoodOperations.{all_operations}
use Rattle.tie_description_law.proofs.Codes.{few_ops}
use Rattle.tie_description_law.proofs.GoodFormats.{all_formats}
use Rattle.tie_description_law.proofs.Kept.{Kept}

pub is_description : (t : Tree) (results : List (List Node)) → Kept t → IsText t → ResultsFit t results → IsDescription (described t results)
is_description t results k text fit = record {
  names = names_differ t results k;
  counts = record {
    states = few_states t k;
    files = few_files t k;
    ranges = few_ranges t k;
    ops = few_ops t results k;
    short_formats = few_formats t (ops t results) 32 (lit< tt) k;
    long_formats = few_formats t (ops t results) 64 (lit< tt) k;
    ins = few_inputs t k;
    outs = few_outputs t k;
  };
  states = all_states t k;
  files = all_files t k;
  ranges = all_ranges t k;
  ops = all_operations t results k fit;
  formats = all_formats t results k text;
  numbers = formats_numbered t (ops t results) k;
  ins = all_inputs t k;
  outs = all_outputs t k;
}
