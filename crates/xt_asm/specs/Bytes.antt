-- The bytes of statements.
use Rattle.std.specs.Prelude.{ℕ, ◌^◌, ◌==◌, ℤ, pos, unsigned_abs, List, [], ◌∷◌, ◌++◌, map, replicate, Option, Some, None, unwrap_or, if◌then◌else◌}
use Rattle.std.specs.List.{flat_map}
use Rattle.std.specs.Int.{to_le_bytes, w32}
use Rattle.xt_isa.specs.Numbers.{twos_complement}
use Rattle.xt_mnemonics.specs.declared.shape.Shape.TheVariants as shape
use Rattle.xt_mnemonics.specs.Shapes.{distance}
use Rattle.xt_mnemonics.specs.Build.{build}
use Rattle.tie_desc.specs.Description.{Description}
use Rattle.tie_desc.specs.Spelling.{spell, wide_bytes}
use Rattle.tie_desc.specs.declared.formats.SlotCore.TheVariants as core
use Rattle.tie_desc.specs.declared.formats.Code.{Code}
use Rattle.tie_desc.specs.declared.formats.Code.TheVariants as code
use Rattle.tie_desc.specs.declared.bundle.Part.{Part}
use Rattle.tie_desc.specs.declared.bundle.Bundle.{Bundle}
use Rattle.tie_desc.specs.declared.bundle.Bundle.TheVariants as bundle
use Rattle.asm_lines.specs.Lines.{number_of}
use Rattle.asm_lines.specs.declared.line.Operand.{Operand}
use Rattle.asm_lines.specs.declared.line.Operation.{Operation}
use Rattle.asm_lines.specs.declared.line.Operator.{Operator}
use Rattle.asm_lines.specs.declared.line.Operator.TheVariants as operator
use Rattle.asm_lines.specs.declared.line.Statement.{Statement}
use Rattle.asm_lines.specs.declared.line.Statement.TheVariants as statement
use Rattle.asm_lines.specs.declared.line.Line.{Line}
use Rattle.asm_rules.specs.declared.expected.Expected.{Expected}
use Rattle.asm_rules.specs.declared.expected.Expected.TheVariants as expect
use Rattle.asm_rules.specs.Expected.{expected}
use Rattle.asm_rules.specs.Operands.{Find, meant, target}
use Rattle.asm_rules.specs.Labels.{format_at, alignment, filling}
use Rattle.asm_rules.specs.Slots.{code_in, fields}

-- ---- core instructions

-- what an operand of an instruction at an address stands for: the number of a register, a number, the distance of a target
abbrev pub value_of : Description → Find → ℕ → Expected → Operand → ℤ
value_of d find at (expect.Core (shape.Target way)) o = distance way at (unwrap_or (target find o) 0)
value_of d find at e o = unwrap_or (meant d e o) (pos 0)

abbrev pub values : Description → Find → ℕ → List Expected → List Operand → List ℤ
values d find at (e ∷ es) (o ∷ os) = value_of d find at e o ∷ values d find at es os
values d find at _ _ = []

-- ---- operations

abbrev pub code_or_nop : Option Code → Code
code_or_nop None = code.Core core.Nop
code_or_nop (Some c) = c

-- an operation with its fields
abbrev pub part_of : Description → Operation → Part
part_of d o = record { code = code_or_nop (code_in o); fields = fields d (code_or_nop (code_in o)) o.operands }

-- an operation alone, as a bundle
abbrev pub bundle_of : Description → Find → ℕ → Operator → Operation → Bundle
bundle_of d find at (operator.Core m) o = bundle.Core (build m (values d find at (expected d (operator.Core m)) o.operands))
bundle_of d find at (operator.Op i) o = bundle.One (part_of d o)

abbrev pub alone_bytes : Description → Find → ℕ → Option Operator → Operation → List ℕ
alone_bytes d find at None o = []
alone_bytes d find at (Some op) o = spell d (bundle_of d find at op o)

-- ---- values

-- one byte, or four with the lowest first; a negative number in two's complement
abbrev pub number_bytes : ℕ → ℤ → List ℕ
number_bytes size z = if size == 1 then unsigned_abs z ∷ [] else to_le_bytes w32 (twos_complement (2 ^ 31) z)

abbrev pub value_bytes : ℕ → Operand → List ℕ
value_bytes size o = number_bytes size (unwrap_or (number_of o) (pos 0))

-- ---- statements

abbrev pub bytes : Description → Find → ℕ → Statement → List ℕ
bytes d find at statement.Nothing = []
bytes d find at (statement.Alone o) = alone_bytes d find at o.operator o
bytes d find at (statement.Wide column format os) = wide_bytes d (format_at d format) (map (part_of d) os)
bytes d find at (statement.Values column size vs) = flat_map (value_bytes size) vs
bytes d find at (statement.Align column place number) = replicate (filling (alignment number) at) 0

-- the lines one behind the other, each at its address
abbrev pub image_in : Description → Find → List ℕ → List Line → List ℕ
image_in d find (at ∷ more) (l ∷ ls) = bytes d find at l.statement ++ image_in d find more ls
image_in d find _ _ = []
