-- Worked rows.
use Rattle.std.proofs.Common.{◌≡◌, ℕ, ◌^◌, List, [], ◌∷◌, codes, Option, Some, refl, rules}
use Rattle.tie_grammar.specs.declared.tree.Expr.TheFolds.{the_lemmas}
use Rattle.tie_mean.specs.Literals.{number, sized_width, sized_value}
use Rattle.tie_mean.specs.Counts.{operation_count}
use Rattle.tie_mean.specs.Operations.{operation_values}
use Rattle.tie_grammar.specs.declared.symbol.Direction.{Direction}
use Rattle.tie_grammar.specs.declared.symbol.Direction.TheVariants as way
use Rattle.tie_grammar.specs.declared.symbol.Leaf.{Leaf}
use Rattle.tie_grammar.specs.declared.symbol.TieFunction.TheVariants as tie
use Rattle.tie_grammar.specs.declared.tree.BinaryOp.{BinaryOp}
use Rattle.tie_grammar.specs.declared.tree.BinaryOp.TheVariants as op
use Rattle.tie_grammar.specs.declared.tree.Range.{Range}
use Rattle.tie_grammar.specs.declared.tree.Literal.TheVariants as literal
use Rattle.tie_grammar.specs.declared.tree.Expr.{Expr}
use Rattle.tie_grammar.specs.declared.tree.Expr.TheVariants as form
use Rattle.tie_grammar.specs.declared.tree.Item.{Item}
use Rattle.tie_grammar.specs.declared.tree.Item.TheVariants as item
use Rattle.tie_grammar.specs.declared.tree.Argument.{Argument}
use Rattle.tie_grammar.specs.declared.tree.Operation.{Operation}
use Rattle.tie_grammar.specs.declared.tree.Tree.{Tree}

decimal : number (codes "4294967296") ≡ 2 ^ 32
decimal = refl

hexadecimal : number (codes "0xFf") ≡ 255
hexadecimal = refl

width : sized_width (codes "128'h_1") ≡ 128
width = refl

sized : sized_value (codes "8'b1_01") ≡ 5
sized = refl

in_base_ten : sized_value (codes "12'd4_095") ≡ 4095
in_base_ten = refl

abbrev leaf : List ℕ → Leaf
leaf bytes = record { bytes = bytes; place = 0 }

abbrev name : List ℕ → Expr
name bytes = form.Name (leaf bytes)

abbrev sized_literal : List ℕ → Expr
sized_literal bytes = form.Literal (literal.Sized (leaf bytes))

abbrev binary : BinaryOp → Expr → Expr → Expr
binary o a b = form.Binary (record { op = o; place = 0 }) a b

abbrev to : List ℕ → Option Range
to high = Some (record { high = leaf high; zero = leaf (codes "0") })

abbrev argument : Direction → List ℕ → Argument
argument d n = record { direction = d; kind = leaf (codes "AR"); name = leaf n }

-- operation OP { out AR h, in AR a, in AR b } { } { items }
abbrev operation : List Item → Operation
operation items = record {
  name = leaf (codes "OP");
  arguments_brace = 0;
  arguments = argument way.Out (codes "h") ∷ argument way.In (codes "a") ∷ argument way.In (codes "b") ∷ [];
  links_brace = 0;
  links = [];
  items_brace = 0;
  items = items;
}

abbrev none : Tree
none = record { declarations = [] }

-- wire [32:0] s = a + b; assign h = s[32:32];
carry : operation_values none (operation (
    item.WireSet (to (codes "32")) (leaf (codes "s")) (binary op.Add (name (codes "a")) (name (codes "b")))
    ∷ item.Assign (leaf (codes "h")) (form.Select (leaf (codes "s")) (leaf (codes "32")) (leaf (codes "32"))) ∷ [])) (4294967295 ∷ 1 ∷ []) ≡ 1 ∷ []
carry = search (rules, the_lemmas)

carry_count : operation_count none (operation (
    item.WireSet (to (codes "32")) (leaf (codes "s")) (binary op.Add (name (codes "a")) (name (codes "b")))
    ∷ item.Assign (leaf (codes "h")) (form.Select (leaf (codes "s")) (leaf (codes "32")) (leaf (codes "32"))) ∷ [])) ≡ 5
carry_count = search (rules, the_lemmas)

-- the sides of a comparison are valued in the greater size: 8'd255 + 8'd1 is 256 beside a name of 32 bits
sides : operation_values none (operation (
    item.Assign (leaf (codes "h")) (binary op.Equal (binary op.Add (sized_literal (codes "8'd255")) (sized_literal (codes "8'd1"))) (name (codes "a"))) ∷ [])) (256 ∷ 0 ∷ []) ≡ 1 ∷ []
sides = search (rules, the_lemmas)

-- the amount of a shift is valued in its own size: 3'd7 + 3'd1 is 0
amount : operation_values none (operation (
    item.Assign (leaf (codes "h")) (binary op.ShiftLeft (name (codes "a")) (binary op.Add (sized_literal (codes "3'd7")) (sized_literal (codes "3'd1")))) ∷ [])) (5 ∷ 0 ∷ []) ≡ 5 ∷ []
amount = search (rules, the_lemmas)

-- TIEmul of two's complement values: -1 times 2 is -2 in 16 bits
signed : operation_values none (operation (
    item.Assign (leaf (codes "h")) (form.Tie (record { function = tie.Mul; place = 0 }) 0
    (sized_literal (codes "8'hFF") ∷ sized_literal (codes "8'd2") ∷ sized_literal (codes "1'd1") ∷ [])) ∷ [])) (0 ∷ 0 ∷ []) ≡ 65534 ∷ []
signed = search (rules, the_lemmas)
