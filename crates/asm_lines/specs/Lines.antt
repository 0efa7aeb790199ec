-- The grammar of lines. It knows classes of tokens alone; what words name is looked up, and judged later.
use Rattle.std.specs.Prelude.{ℕ, ℤ, ◌+◌, List, [], ◌∷◌, length, Bool, true, false, not, Option, Some, None, Result, Ok, Err, is_some, if◌then◌else◌}
use denote.Enum.Bare.{sameb}
use Rattle.tie_desc.specs.Description.{Description}
use Rattle.asm_lines.specs.declared.token.TokenKind.{TokenKind}
use Rattle.asm_lines.specs.declared.token.TokenKind.TheVariants as kind
use Rattle.asm_lines.specs.declared.token.Token.{Token}
use Rattle.asm_lines.specs.declared.token.Mark.{Mark}
use Rattle.asm_lines.specs.declared.token.Mark.TheVariants as mark
use Rattle.asm_lines.specs.contracts.token.Mark.{the_type}
use Rattle.asm_lines.specs.declared.line.Operand.{Operand}
use Rattle.asm_lines.specs.declared.line.Operand.TheVariants as written
use Rattle.asm_lines.specs.declared.line.Label.{Label}
use Rattle.asm_lines.specs.declared.line.Operation.{Operation}
use Rattle.asm_lines.specs.declared.line.Statement.{Statement}
use Rattle.asm_lines.specs.declared.line.Statement.TheVariants as stated
use Rattle.asm_lines.specs.declared.line.Line.{Line}
use Rattle.asm_lines.specs.Naming.{named, format_named}
use Rattle.asm_lines.specs.Reading.{Reader, ◌>>=◌, ◌>>◌, pure, one, first_is, many_from}

-- ---- single tokens

unfoldable pub same : Mark → Mark → Bool
same = sameb the_type

abbrev pub is_mark : Mark → Token → Bool
is_mark m t = by t.kind
  where
    by : TokenKind → Bool
    by (kind.Mark found) = same found m
    by _ = false

abbrev pub sees : Mark → List Token → Bool
sees m ts = first_is (is_mark m) ts

abbrev pub mark_of : Mark → Token → Option (Unit {0})
mark_of m t = if is_mark m t then Some tt else None

abbrev pub expect : Mark → Reader (Unit {0})
expect m = one (mark_of m)

abbrev pub name_of : Token → Option Label
name_of t = by t.kind
  where
    by : TokenKind → Option Label
    by (kind.Name word) = Some (record { column = t.column; name = word })
    by _ = None

abbrev pub operand_of : Token → Option Operand
operand_of t = by t.kind
  where
    by : TokenKind → Option Operand
    by (kind.Name word) = Some (written.Word t.column word)
    by (kind.Number z) = Some (written.Number t.column z)
    by _ = None

-- the number of a line, at its end
abbrev pub end_of : Token → Option ℕ
end_of t = by t.kind
  where
    by : TokenKind → Option ℕ
    by kind.LineEnd = Some t.line
    by _ = None

-- how many bytes a value of the directive has
abbrev pub directive_of : Token → Option (ℕ × ℕ)
directive_of t = by t.kind
  where
    by : TokenKind → Option (ℕ × ℕ)
    by kind.ByteDirective = Some (t.column, 1)
    by kind.WordDirective = Some (t.column, 4)
    by _ = None

abbrev pub align_of : Token → Option ℕ
align_of t = by t.kind
  where
    by : TokenKind → Option ℕ
    by kind.AlignDirective = Some t.column
    by _ = None

abbrev pub sees_name : List Token → Bool
sees_name ts = first_is (λ t. is_some (name_of t)) ts

abbrev pub sees_operand : List Token → Bool
sees_operand ts = first_is (λ t. is_some (operand_of t)) ts

abbrev pub sees_end : List Token → Bool
sees_end ts = first_is (λ t. is_some (end_of t)) ts

abbrev pub sees_directive : List Token → Bool
sees_directive ts = first_is (λ t. is_some (directive_of t)) ts

abbrev pub sees_align : List Token → Bool
sees_align ts = first_is (λ t. is_some (align_of t)) ts

-- ---- parts of lines

abbrev pub operand : Reader Operand
operand = one operand_of

-- a comma and one more
abbrev pub next_operand : Reader Operand
next_operand = expect mark.Comma >> operand

unfoldable pub more_operands : Operand → Reader (List Operand)
more_operands first = many_from (sees mark.Comma) next_operand (first ∷ [])

-- one operand or more, with commas
unfoldable pub some_operands : Reader (List Operand)
some_operands = operand >>= more_operands

-- operands with commas, or none
unfoldable pub operands : Reader (List Operand)
operands = λ ts. if sees_operand ts then some_operands ts else Ok ([], ts)

-- the operands behind a mnemonic
unfoldable pub operation_of : Description → Label → Reader Operation
operation_of d name = operands >>= (λ os. pure (record { column = name.column; operator = named d name.name; operands = os }))

-- a mnemonic and its operands
unfoldable pub operation : Description → Reader Operation
operation d = one name_of >>= operation_of d

-- a semicolon and one more
unfoldable pub next_operation : Description → Reader Operation
next_operation d = expect mark.Semicolon >> operation d

unfoldable pub more_operations : Description → Operation → Reader (List Operation)
more_operations d first = many_from (sees mark.Semicolon) (next_operation d) (first ∷ [])

-- a format: its operations in braces, one or more, with semicolons
unfoldable pub wide : Description → Label → Reader Statement
wide d name =
    expect mark.OpenBrace >> operation d >>= more_operations d
    >>= (λ os. expect mark.CloseBrace >> pure (stated.Wide name.column (format_named d name.name) os))

-- a statement that begins with a word
unfoldable pub named_statement : Description → Label → Reader Statement
named_statement d name = λ ts. if sees mark.OpenBrace ts then wide d name ts else (operation_of d name >>= (λ o. pure (stated.Alone o))) ts

unfoldable pub values_statement : Reader Statement
values_statement = one directive_of >>= (λ p. some_operands >>= (λ vs. pure (stated.Values p.0 p.1 vs)))

abbrev pub column_of : Operand → ℕ
column_of (written.Word column word) = column
column_of (written.Number column z) = column

abbrev pub number_of : Operand → Option ℤ
number_of (written.Word column word) = None
number_of (written.Number column z) = Some z

unfoldable pub align_statement : Reader Statement
align_statement = one align_of >>= (λ column. operand >>= (λ o. pure (stated.Align column (column_of o) (number_of o))))

-- what stands behind a label, or where there is none and no word begins the line
unfoldable pub statement : Description → Reader Statement
statement d = λ ts.
    if sees_end ts then Ok (stated.Nothing, ts) else (
    if sees_directive ts then values_statement ts else (
    if sees_align ts then align_statement ts else (
    (one name_of >>= named_statement d) ts)))

-- the end of a line
unfoldable pub ended : Option Label → Statement → Reader Line
ended label s = one end_of >>= (λ number. pure (record { number = number; label = label; statement = s }))

-- a line that begins with a word: a label or a statement
unfoldable pub named_line : Description → Label → Reader Line
named_line d name = λ ts.
    if sees mark.Colon ts then (expect mark.Colon >> statement d >>= ended (Some name)) ts else (named_statement d name >>= ended None) ts

unfoldable pub line : Description → Reader Line
line d = λ ts. if sees_name ts then (one name_of >>= named_line d) ts else (statement d >>= ended None) ts

-- ---- all lines

abbrev pub some_left : List Token → Bool
some_left [] = false
some_left (t ∷ ts) = true

unfoldable pub lines : Description → Reader (List Line)
lines d = many_from some_left (line d) []
