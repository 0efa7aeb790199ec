-- Which statements have bytes: those whose bundles have a spelling and whose values fit.
use Rattle.std.specs.Prelude.{ℕ, ◌<◌, ℤ, List, [], ◌∷◌, length, map, Option, Some, None, IsTrue, slice_get}
use Rattle.xt_mnemonics.specs.Shapes.{shapes, AllFit}
use Rattle.tie_desc.specs.Description.{Description}
use Rattle.tie_desc.specs.Spelling.{HasSpelling, HasWide}
use Rattle.tie_desc.specs.declared.bundle.Bundle.TheVariants as bundle
use Rattle.asm_lines.specs.Lines.{number_of}
use Rattle.asm_lines.specs.declared.line.Operand.{Operand}
use Rattle.asm_lines.specs.declared.line.Operation.{Operation}
use Rattle.asm_lines.specs.declared.line.Operator.{Operator}
use Rattle.asm_lines.specs.declared.line.Operator.TheVariants as operator
use Rattle.asm_lines.specs.declared.line.Statement.{Statement}
use Rattle.asm_lines.specs.declared.line.Statement.TheVariants as statement
use Rattle.asm_lines.specs.declared.line.Line.{Line}
use Rattle.asm_rules.specs.Expected.{expected, of_size}
use Rattle.asm_rules.specs.Operands.{Find, accepts}
use Rattle.xt_asm.specs.Bytes.{values, part_of}

abbrev pub HasAlone : Description → Find → ℕ → Option Operator → Operation → Type 0
HasAlone d find at None o = ⊥
HasAlone d find at (Some (operator.Core m)) o = AllFit (shapes m) (values d find at (expected d (operator.Core m)) o.operands)
HasAlone d find at (Some (operator.Op i)) o = HasSpelling d (bundle.One (part_of d o))

abbrev pub HasFormat : Description → Option ℕ → List Operation → Type 0
HasFormat d None os = ⊥
HasFormat d (Some f) os = (f < length d.formats) × HasWide d (slice_get d.formats f) (map (part_of d) os)

abbrev pub AcceptsNumber : Description → ℕ → Option ℤ → Type 0
AcceptsNumber d size None = ⊥
AcceptsNumber d size (Some z) = IsTrue (accepts d (of_size size) z)

abbrev pub AcceptsValue : Description → ℕ → Operand → Type 0
AcceptsValue d size o = AcceptsNumber d size (number_of o)

abbrev pub AreValues : Description → ℕ → List Operand → Type 0
AreValues d size [] = Unit {0}
AreValues d size (o ∷ os) = AcceptsValue d size o × AreValues d size os

abbrev pub HasBytes : Description → Find → ℕ → Statement → Type 0
HasBytes d find at statement.Nothing = Unit {0}
HasBytes d find at (statement.Alone o) = HasAlone d find at o.operator o
HasBytes d find at (statement.Wide column format os) = HasFormat d format os
HasBytes d find at (statement.Values column size vs) = AreValues d size vs
HasBytes d find at (statement.Align column place number) = Unit {0}

abbrev pub HaveBytes : Description → Find → List ℕ → List Line → Type 0
HaveBytes d find (at ∷ more) (l ∷ ls) = HasBytes d find at l.statement × HaveBytes d find more ls
HaveBytes d find _ _ = Unit {0}
