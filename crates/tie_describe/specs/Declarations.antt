-- States, register files, ranges and queues as a text declares them. Numbers that a description has no room for count as the greatest
-- that it has room for; no text that keeps the rules has any.
use Rattle.std.specs.Prelude.{ℕ, ◌+◌, ◌-◌, ◌/◌, ℤ, pos, ◌-ℤ◌, min, List, [], ◌∷◌, Option, Some, None}
use Rattle.tie_mean.specs.Literals.{literal_value, capped}
use Rattle.tie_mean.specs.Sizes.{bounded}
use Rattle.tie_grammar.specs.declared.symbol.Leaf.{Leaf}
use Rattle.tie_grammar.specs.declared.tree.Literal.{Literal}
use Rattle.tie_grammar.specs.declared.tree.Int.{Int}
use Rattle.tie_grammar.specs.declared.tree.Decl.{Decl}
use Rattle.tie_grammar.specs.declared.tree.Decl.TheVariants as d
use Rattle.tie_desc.specs.declared.declarations.StateDecl.{StateDecl}
use Rattle.tie_desc.specs.declared.declarations.FileDecl.{FileDecl}
use Rattle.tie_desc.specs.declared.declarations.RangeDecl.{RangeDecl}
use Rattle.tie_desc.specs.declared.declarations.QueueDecl.{QueueDecl}

abbrev pub byte : ℕ → ℕ
byte n = min n 255

-- a number of the text
abbrev pub byte_of : Leaf → ℕ
byte_of leaf = byte (bounded leaf)

-- 0 where none is written
abbrev pub reset_of : Option Literal → ℕ
reset_of None = 0
reset_of (Some x) = capped (literal_value x)

abbrev pub state_of : Decl → List StateDecl
state_of (d.State x) = record { name = x.name.bytes; width = byte_of x.width; reset = reset_of x.reset } ∷ []
state_of _ = []

abbrev pub file_of : Decl → List FileDecl
file_of (d.Regfile x) = record { name = x.name.bytes; short = x.short.bytes; width = byte_of x.width; depth = byte_of x.depth } ∷ []
file_of _ = []

-- how far an integer stands above -2 ^ 31
abbrev pub above_least : Option ℕ → ℕ → ℕ
above_least None n = 2147483648 + min n 2147483647
above_least (Some minus) n = 2147483648 - n

abbrev pub height : Int → ℕ
height x = above_least x.minus (bounded x.number)

-- low, low + step, .. up to high
abbrev pub range_of : Decl → List RangeDecl
range_of (d.ImmediateRange x) =
    record {
      name = x.name.bytes;
      low = pos (height x.low) -ℤ pos 2147483648;
      step = min (bounded x.step) 4294967295;
      count = byte ((height x.high - height x.low) / min (bounded x.step) 4294967295 + 1);
    } ∷ []
range_of _ = []

abbrev pub input_of : Decl → List QueueDecl
input_of (d.QueueIn x) = record { name = x.name.bytes; width = byte_of x.width } ∷ []
input_of _ = []

abbrev pub output_of : Decl → List QueueDecl
output_of (d.QueueOut x) = record { name = x.name.bytes; width = byte_of x.width } ∷ []
output_of _ = []
