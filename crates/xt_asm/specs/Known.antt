-- Lines whose words name what the description declares.
use Rattle.std.specs.Prelude.{ℕ, ◌<◌, List, [], ◌∷◌, length, Option, Some, None}
use Rattle.tie_desc.specs.Description.{Description}
use Rattle.asm_lines.specs.declared.line.Operation.{Operation}
use Rattle.asm_lines.specs.declared.line.Operator.{Operator}
use Rattle.asm_lines.specs.declared.line.Operator.TheVariants as operator
use Rattle.asm_lines.specs.declared.line.Statement.{Statement}
use Rattle.asm_lines.specs.declared.line.Statement.TheVariants as statement
use Rattle.asm_lines.specs.declared.line.Line.{Line}

-- what holds of each element
abbrev pub Each : {A : Type 0} → (A → Type 0) → List A → Type 0
Each P [] = Unit {0}
Each P (x ∷ xs) = P x × Each P xs

-- the operation is declared
abbrev pub KnownOperator : Description → Option Operator → Type 0
KnownOperator d None = Unit {0}
KnownOperator d (Some (operator.Core m)) = Unit {0}
KnownOperator d (Some (operator.Op i)) = i < length d.ops

abbrev pub KnownOperation : Description → Operation → Type 0
KnownOperation d o = KnownOperator d o.operator

-- the format is declared
abbrev pub KnownFormat : Description → Option ℕ → Type 0
KnownFormat d None = Unit {0}
KnownFormat d (Some f) = f < length d.formats

abbrev pub KnownStatement : Description → Statement → Type 0
KnownStatement d statement.Nothing = Unit {0}
KnownStatement d (statement.Alone o) = KnownOperation d o
KnownStatement d (statement.Wide column format os) = KnownFormat d format × Each (KnownOperation d) os
KnownStatement d (statement.Values column size vs) = Unit {0}
KnownStatement d (statement.Align column place number) = Unit {0}

abbrev pub KnownLine : Description → Line → Type 0
KnownLine d l = KnownStatement d l.statement

abbrev pub AreKnown : Description → List Line → Type 0
AreKnown d ls = Each (KnownLine d) ls
