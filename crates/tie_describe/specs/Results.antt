-- Results as they are handed out.
use Rattle.std.specs.Prelude.{List, [], ◌∷◌}
use Rattle.tie_expr.specs.declared.node.Node.{Node}

-- none where there are no more
abbrev pub first_results : List (List Node) → List Node
first_results [] = []
first_results (r ∷ rs) = r
