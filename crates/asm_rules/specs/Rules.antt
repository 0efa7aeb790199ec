-- The rules that lines may break, each by the first column of a line at which it is broken, and the first fault.
use Rattle.std.specs.Prelude.{ℕ, ◌+◌, Bool, true, false, ◌==◌, nat_lt, nat_le, ℤ, List, [], ◌∷◌, length, Option, Some, None, is_some, slice_get, if◌then◌else◌}
use Rattle.std.specs.Option.{option_map}
use Rattle.std.specs.List.{flat_map}
use Rattle.tie_desc.specs.Description.{Description}
use Rattle.tie_desc.specs.Slots.{place_of}
use Rattle.tie_desc.specs.declared.formats.Code.{Code}
use Rattle.tie_desc.specs.declared.formats.SlotDecl.{SlotDecl}
use Rattle.tie_desc.specs.declared.formats.FormatDecl.{FormatDecl}
use Rattle.asm_lines.specs.Tokens.{Fault}
use Rattle.asm_lines.specs.declared.refusal.AsmRule.{AsmRule}
use Rattle.asm_lines.specs.declared.refusal.AsmRule.TheVariants as rule
use Rattle.asm_lines.specs.declared.line.Operand.{Operand}
use Rattle.asm_lines.specs.declared.line.Operand.TheVariants as written
use Rattle.asm_lines.specs.declared.line.Operation.{Operation}
use Rattle.asm_lines.specs.declared.line.Operator.{Operator}
use Rattle.asm_lines.specs.declared.line.Label.{Label}
use Rattle.asm_lines.specs.declared.line.Statement.{Statement}
use Rattle.asm_lines.specs.declared.line.Statement.TheVariants as statement
use Rattle.asm_lines.specs.declared.line.Line.{Line}
use Rattle.asm_rules.specs.declared.expected.Expected.{Expected}
use Rattle.asm_rules.specs.declared.expected.Expected.TheVariants as expect
use Rattle.asm_rules.specs.Expected.{expected, of_size}
use Rattle.asm_rules.specs.Operands.{Find, Judge, column_of, is_kind, in_range, is_known, reaches}
use Rattle.asm_rules.specs.Labels.{format_at, size, addresses, labels_of, find_of}
use Rattle.asm_rules.specs.Slots.{code_in, written, repeated}

abbrev pub or_else : {A : Type 0} → Option A → Option A → Option A
or_else (Some x) o = Some x
or_else None o = o

-- the column, where a test fails
abbrev pub unless : Bool → ℕ → Option ℕ
unless ok column = if ok then None else Some column

-- the first of these that something finds
abbrev pub first_in : {A : Type 0} → (A → Option ℕ) → List A → Option ℕ
first_in test [] = None
first_in test (x ∷ xs) = or_else (test x) (first_in test xs)

-- ---- operands

-- the first operand that a test refuses
abbrev pub judged : Judge → List Expected → List Operand → Option ℕ
judged test (e ∷ es) (o ∷ os) = or_else (unless (test e o) (column_of o)) (judged test es os)
judged test _ _ = None

abbrev pub judged_by : Description → Judge → Option Operator → List Operand → Option ℕ
judged_by d test None os = None
judged_by d test (Some op) os = judged test (expected d op) os

abbrev pub judged_operation : Description → Judge → Operation → Option ℕ
judged_operation d test o = judged_by d test o.operator o.operands

-- the operand of `.align`
abbrev pub align_operand : ℕ → Option ℤ → Operand
align_operand place None = written.Word place []
align_operand place (Some z) = written.Number place z

abbrev pub judged_value : Judge → ℕ → Operand → Option ℕ
judged_value test n v = unless (test (of_size n) v) (column_of v)

abbrev pub judged_align : Judge → ℕ → Option ℤ → Option ℕ
judged_align test place number = unless (test expect.Alignment (align_operand place number)) place

abbrev pub judged_in : Description → Judge → Statement → Option ℕ
judged_in d test statement.Nothing = None
judged_in d test (statement.Alone o) = judged_operation d test o
judged_in d test (statement.Wide column format os) = first_in (judged_operation d test) os
judged_in d test (statement.Values column n vs) = first_in (judged_value test n) vs
judged_in d test (statement.Align column place number) = judged_align test place number

-- ---- mnemonics

abbrev pub unknown_operation : Operation → Option ℕ
unknown_operation o = unless (is_some o.operator) o.column

-- UnknownMnemonic
abbrev pub unknown : Statement → Option ℕ
unknown (statement.Alone o) = unknown_operation o
unknown (statement.Wide column format os) = or_else (unless (is_some format) column) (first_in unknown_operation os)
unknown _ = None

abbrev pub counts : Description → Option Operator → ℕ → Bool
counts d None n = true
counts d (Some op) n = length (expected d op) == n

abbrev pub miscounted_operation : Description → Operation → Option ℕ
miscounted_operation d o = unless (counts d o.operator (length o.operands)) o.column

-- OperandCount
abbrev pub miscounted : Description → Statement → Option ℕ
miscounted d (statement.Alone o) = miscounted_operation d o
miscounted d (statement.Wide column format os) = first_in (miscounted_operation d) os
miscounted d _ = None

-- ---- labels

abbrev pub is_line : ℕ → Option ℕ → Bool
is_line i None = false
is_line i (Some j) = i == j

-- DoubledLabel: the label's line isn't this one
abbrev pub doubled : Find → ℕ → Option Label → Option ℕ
doubled labels i None = None
doubled labels i (Some l) = unless (is_line i (labels l.name)) l.column

-- ---- formats

abbrev pub has_slots : Option FormatDecl → ℕ → Bool
has_slots None n = true
has_slots (Some f) n = length f.slots == n

-- SlotCount
abbrev pub miscounted_slots : Description → Statement → Option ℕ
miscounted_slots d (statement.Wide column format os) = unless (has_slots (format_at d format) (length os)) column
miscounted_slots d _ = None

abbrev pub lists : SlotDecl → Option Code → Bool
lists s None = false
lists s (Some c) = nat_lt (place_of c s.codes) (length s.codes)

abbrev pub unlisted_in : List SlotDecl → List Operation → Option ℕ
unlisted_in (s ∷ ss) (o ∷ os) = or_else (unless (lists s (code_in o)) o.column) (unlisted_in ss os)
unlisted_in _ _ = None

abbrev pub unlisted_by : Option FormatDecl → List Operation → Option ℕ
unlisted_by None os = None
unlisted_by (Some f) os = unlisted_in f.slots os

-- SlotOpcode
abbrev pub unlisted : Description → Statement → Option ℕ
unlisted d (statement.Wide column format os) = unlisted_by (format_at d format) os
unlisted d _ = None

-- SameDest
abbrev pub rewritten : Description → Statement → Option ℕ
rewritten d (statement.Alone o) = repeated [] (written d o)
rewritten d (statement.Wide column format os) = repeated [] (flat_map (written d) os)
rewritten d _ = None

-- ---- rules that look at lines alone

-- the first column of a line at which a rule is broken, where labels have these lines and the line has a number
abbrev pub breach : Description → Find → AsmRule → ℕ → Line → Option ℕ
breach d labels rule.UnknownMnemonic i l = unknown l.statement
breach d labels rule.OperandCount i l = miscounted d l.statement
breach d labels rule.DoubledLabel i l = doubled labels i l.label
breach d labels rule.OperandKind i l = judged_in d (is_kind d) l.statement
breach d labels rule.OperandRange i l = judged_in d (in_range d) l.statement
breach d labels rule.UnknownLabel i l = judged_in d (is_known labels) l.statement
breach d labels rule.SlotCount i l = miscounted_slots d l.statement
breach d labels rule.SlotOpcode i l = unlisted d l.statement
breach d labels rule.SameDest i l = rewritten d l.statement
breach d labels _ i l = None

abbrev pub fault_at : AsmRule → Line → ℕ → Fault
fault_at r l column = (r, l.number, column)

-- the first line that breaks a rule, the lines being numbered from i on
abbrev pub breach_from : Description → Find → AsmRule → ℕ → List Line → Option Fault
breach_from d labels r i [] = None
breach_from d labels r i (l ∷ ls) = or_else (option_map (fault_at r l) (breach d labels r i l)) (breach_from d labels r (i + 1) ls)

-- the first of these rules that is broken
abbrev pub breach_by : Description → Find → List AsmRule → List Line → Option Fault
breach_by d labels [] lines = None
breach_by d labels (r ∷ rs) lines = or_else (breach_from d labels r 0 lines) (breach_by d labels rs lines)

abbrev pub line_rules : List AsmRule
line_rules =
    rule.UnknownMnemonic ∷ rule.OperandCount ∷ rule.DoubledLabel ∷ rule.OperandKind ∷ rule.OperandRange ∷ rule.UnknownLabel
    ∷ rule.SlotCount ∷ rule.SlotOpcode ∷ rule.SameDest ∷ []

-- ---- rules that look at addresses

abbrev pub begins_at : Statement → ℕ
begins_at statement.Nothing = 0
begins_at (statement.Alone o) = o.column
begins_at (statement.Wide column format os) = column
begins_at (statement.Values column n vs) = column
begins_at (statement.Align column place number) = column

-- TooLong: the first statement that ends behind 65,536 bytes
abbrev pub long_from : Description → ℕ → List Line → Option Fault
long_from d at [] = None
long_from d at (l ∷ ls) =
    let end = at + size d at l.statement in
    or_else (option_map (fault_at rule.TooLong l) (unless (nat_le end 65536) (begins_at l.statement))) (long_from d end ls)

-- Reach: the first target that its instruction doesn't reach, each line standing at its address
abbrev pub unreached_in : Description → Find → List ℕ → List Line → Option Fault
unreached_in d find (at ∷ more) (l ∷ ls) = or_else (option_map (fault_at rule.Reach l) (judged_in d (reaches find at) l.statement)) (unreached_in d find more ls)
unreached_in d find _ _ = None

-- ---- all of them

-- the least rule that is broken, at its least line and column
abbrev pub fault_in : Description → List Line → Option Fault
fault_in d lines =
    or_else (breach_by d (labels_of lines) line_rules lines) (or_else (long_from d 0 lines) (unreached_in d (find_of d lines) (addresses d 0 lines) lines))
