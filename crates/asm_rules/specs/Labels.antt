-- Lengths of statements, addresses of lines, and where labels stand.
use Rattle.std.specs.Prelude.{ℕ, ◌+◌, ◌-◌, ◌*◌, ◌/◌, ◌%◌, Bool, true, false, ◌==◌, ℤ, pos, List, [], ◌∷◌, length, Option, Some, None, slice_get, if◌then◌else◌}
use Rattle.std.specs.Option.{option_and_then}
use Rattle.std.specs.Str.{bytes_eq}
use Rattle.tie_desc.specs.Description.{Description}
use Rattle.tie_desc.specs.declared.formats.FormatDecl.{FormatDecl}
use Rattle.asm_lines.specs.declared.line.Label.{Label}
use Rattle.asm_lines.specs.declared.line.Statement.{Statement}
use Rattle.asm_lines.specs.declared.line.Statement.TheVariants as statement
use Rattle.asm_lines.specs.declared.line.Line.{Line}
use Rattle.asm_rules.specs.Operands.{Find}

-- 4 or 8 bytes
abbrev pub format_size : Option FormatDecl → ℕ
format_size None = 0
format_size (Some f) = f.width / 8

abbrev pub format_at : Description → Option ℕ → Option FormatDecl
format_at d None = None
format_at d (Some f) = slice_get d.formats f

-- what `.align` aligns to; 1 where its number is none that it may have
abbrev pub alignment : Option ℤ → ℕ
alignment (Some (pos n)) = if n == 2 then 2 else (if n == 4 then 4 else (if n == 8 then 8 else 1))
alignment _ = 1

-- how many bytes stand from an address up to a multiple of n
abbrev pub filling : ℕ → ℕ → ℕ
filling n at = (n - at % n) % n

-- how many bytes a statement at an address has
abbrev pub size : Description → ℕ → Statement → ℕ
size d at statement.Nothing = 0
size d at (statement.Alone o) = 3
size d at (statement.Wide column format os) = format_size (format_at d format)
size d at (statement.Values column n vs) = n * length vs
size d at (statement.Align column place number) = filling (alignment number) at

-- the addresses of the lines, the first one standing at an address: each is the one before and the length of its statement
abbrev pub addresses : Description → ℕ → List Line → List ℕ
addresses d at [] = []
addresses d at (l ∷ ls) = at ∷ addresses d (at + size d at l.statement) ls

abbrev pub is_label : List ℕ → Option Label → Bool
is_label word None = false
is_label word (Some l) = bytes_eq word l.name

-- the number of the first line with a label, the lines being numbered from i on
abbrev pub label_from : List ℕ → ℕ → List Line → Option ℕ
label_from word i [] = None
label_from word i (l ∷ ls) = if is_label word l.label then Some i else label_from word (i + 1) ls

abbrev pub labels_of : List Line → Find
labels_of lines = λ word. label_from word 0 lines

-- a label's address is that of its line
abbrev pub find_in : List ℕ → Find → Find
find_in at labels = λ word. option_and_then (slice_get at) (labels word)

abbrev pub find_of : Description → List Line → Find
find_of d lines = find_in (addresses d 0 lines) (labels_of lines)
