-- The width of a name as code finds it: none, or one beyond which widths aren't told apart.
use Rattle.std.specs.Prelude.{ℕ, List, [], ◌∷◌, map, Option, Some, None, if◌then◌else◌}
use Rattle.tie_mean.specs.Kept.{first_of_two}
use Rattle.tie_mean.specs.Sizes.{limited}
use Rattle.tie_mean.specs.Names.{Declared, is_named, parameter_declared, argument_declared, link_width, table_of, table_declared, function_of, function_declared}
use Rattle.tie_grammar.specs.declared.tree.Parameter.{Parameter}
use Rattle.tie_grammar.specs.declared.tree.Argument.{Argument}
use Rattle.tie_grammar.specs.declared.tree.Link.{Link}
use Rattle.tie_grammar.specs.declared.tree.Decl.{Decl}
use Rattle.tie_grammar.specs.declared.tree.Tree.{Tree}

abbrev pub found : List Declared → List ℕ → Option ℕ
found [] name = None
found (x ∷ xs) name = if is_named name x.name then Some (limited x.width) else found xs name

-- the first of two answers
abbrev pub either : Option ℕ → Option ℕ → Option ℕ
either a b = first_of_two a b

abbrev pub of_parameter : Parameter → List Declared
of_parameter x = parameter_declared x ∷ []

abbrev pub of_argument : Tree → Argument → List Declared
of_argument t x = argument_declared t x ∷ []

abbrev pub of_link : Tree → Link → List Declared
of_link t x = link_width t x ∷ []

abbrev pub of_table : Decl → List Declared
of_table x = map table_declared (table_of x)

abbrev pub of_function : Decl → List Declared
of_function x = map function_declared (function_of x)

-- one name
abbrev pub one : Declared → List ℕ → Option ℕ
one x name = if is_named name x.name then Some (limited x.width) else None
