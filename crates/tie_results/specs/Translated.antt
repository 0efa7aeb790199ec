-- The functions and operations of a text as bodies.
use Rattle.std.specs.Prelude.{ℕ, List, length, None}
use Rattle.tie_mean.specs.Names.{width_in, functions, tables, function_names, parameter_names, operation_names, read}
use Rattle.tie_mean.specs.Counts.{body_count}
use Rattle.tie_grammar.specs.declared.tree.Function.{Function}
use Rattle.tie_grammar.specs.declared.tree.Operation.{Operation}
use Rattle.tie_grammar.specs.declared.tree.Tree.{Tree}
use Rattle.tie_results.specs.Texts.{IsTextOf}
use Rattle.tie_results.specs.Bodies.{Calls, Body, calls_of}
use Rattle.tie_results.specs.Callees.{AreCallees}
use Rattle.tie_results.specs.declared.callees.Functions.{Functions}

-- calls of the functions among the first k declarations
abbrev pub calls_behind : Tree → ℕ → Calls
calls_behind t k = calls_of t (functions t) (tables t) k

-- a function behind the first k declarations
abbrev pub function_body : Tree → Function → ℕ → Body
function_body t f k = record {
  name = width_in (function_names f);
  calls = calls_behind t k;
  tables = tables t;
  inputs = parameter_names f;
  items = f.items;
}

-- the nodes of its value
abbrev pub body_nodes : Tree → Function → ℕ → ℕ
body_nodes t f k = body_count None (calls_behind t k).counts f

abbrev pub operation_body : Tree → Operation → Body
operation_body t o = record {
  name = width_in (operation_names t o);
  calls = calls_behind t (length t.declarations);
  tables = tables t;
  inputs = read o;
  items = o.items;
}

-- what is kept of the functions of a text
pub record AreFunctions (t : Tree) (f : Functions) : Type 0 where
  pub text : IsTextOf t f.text
  pub callees : AreCallees (calls_behind t (length t.declarations)) f.callees.items
