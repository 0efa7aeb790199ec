-- An expression with other expressions, its arguments, in place of its inputs.
use Rattle.std.specs.Prelude.{◌≡◌, ℕ, ◌+◌, ◌-◌, ◌*◌, List, [], length, map, slice_get, slice_index, slice_index_or, Some}
use Rattle.std.specs.List.{All, flat_map, sum_by}
use Rattle.tie_expr.specs.Word.{Word}
use Rattle.tie_expr.specs.Meaning.{Meaning}
use Rattle.tie_expr.specs.Size.{node_weight}
use Rattle.tie_expr.specs.Tree.{Input}
use Rattle.tie_expr.specs.declared.node.Node.{Node}
use Rattle.tie_expr.specs.declared.node.Node.TheVariants as node
use Rattle.tie_expr.specs.declared.node.Node.TheOpen.{Node-F}
use Rattle.tie_expr.specs.declared.node.Node.TheFolds.{fold-Node}

-- each input has a place among these widths, and its width there
abbrev pub IsOver : List ℕ → List Input → Type 0
IsOver widths inputs = All (λ i. slice_get widths i.index ≡ Some i.width) inputs

-- the values of the arguments, as the environment of the expression
abbrev pub argument_values : List Meaning → List Word → List Word
argument_values arguments env = map (λ a. record { width = a.width; value = a.at env }) arguments

abbrev pub substitute_meaning : Meaning → List Meaning → Meaning
substitute_meaning m arguments = record { width = m.width; at = λ env. m.at (argument_values arguments env) }

-- the inputs of the arguments that are read, from left to right
abbrev pub substitute_inputs : List Input → List (List Input) → List Input
substitute_inputs inputs arguments = flat_map (λ i. slice_index_or arguments i.index []) inputs

-- the weight of each input gives way to the size of its argument
abbrev pub substitute_size : ℕ → List Input → List ℕ → ℕ
substitute_size size inputs arguments = size + sum_by (λ i. slice_index arguments i.index) inputs - node_weight * length inputs

-- the tree that the code builds
abbrev pub replaced_step : List Node → Node-F Node → Node
replaced_step arguments (Node-F.Constant x) = node.Constant x
replaced_step arguments (Node-F.Input i w) = slice_index_or arguments i (node.Input i w)
replaced_step arguments (Node-F.One op a) = node.One op a
replaced_step arguments (Node-F.Two op a b) = node.Two op a b
replaced_step arguments (Node-F.Choose c a b) = node.Choose c a b
replaced_step arguments (Node-F.Join a b) = node.Join a b
replaced_step arguments (Node-F.Part a high low) = node.Part a high low
replaced_step arguments (Node-F.Resize a w) = node.Resize a w
replaced_step arguments (Node-F.Lookup a entries w) = node.Lookup a entries w
replaced_step arguments (Node-F.Repeat a n) = node.Repeat a n
replaced_step arguments (Node-F.Select s arms) = node.Select s arms
replaced_step arguments (Node-F.Mul a b s) = node.Mul a b s

abbrev pub replaced : List Node → Node → Node
replaced arguments = fold-Node Node (replaced_step arguments)
