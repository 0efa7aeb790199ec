-- What stands in the operands' places.
use Rattle.std.specs.Prelude.{ℕ, List, map, ◌==◌, if◌then◌else◌}
use Rattle.xt_mnemonics.specs.declared.shape.Shape.TheVariants as shape
use Rattle.xt_mnemonics.specs.Shapes.{shapes}
use Rattle.tie_desc.specs.Description.{Description}
use Rattle.tie_desc.specs.Slots.{args_of}
use Rattle.tie_desc.specs.declared.declarations.Kind.{Kind}
use Rattle.tie_desc.specs.declared.declarations.Kind.TheVariants as kind
use Rattle.tie_desc.specs.declared.declarations.Access.{Access}
use Rattle.tie_desc.specs.declared.formats.Code.TheVariants as code
use Rattle.asm_lines.specs.declared.line.Operator.{Operator}
use Rattle.asm_lines.specs.declared.line.Operator.TheVariants as operator
use Rattle.asm_rules.specs.declared.expected.Expected.{Expected}
use Rattle.asm_rules.specs.declared.expected.Expected.TheVariants as expect

-- an argument of an operation: a register of the core or of a file, or a value of a range
abbrev pub of_kind : Kind → Expected
of_kind (kind.File f) = expect.File f
of_kind (kind.Range r) = expect.Immediate r
of_kind _ = expect.Core shape.Register

abbrev pub of_access : Access → Expected
of_access a = of_kind a.kind

-- in the order in which they are written
abbrev pub expected : Description → Operator → List Expected
expected d (operator.Core m) = map expect.Core (shapes m)
expected d (operator.Op i) = map of_access (args_of d (code.Op i))

-- a value of `.byte` or of `.word`
abbrev pub of_size : ℕ → Expected
of_size n = if n == 1 then expect.Byte else expect.Word
