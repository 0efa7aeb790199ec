-- The image of a source depends on the names and the arguments of operations, and not on their results.
use Rattle.std.proofs.Common.{◌≡◌, ℕ, ◌+◌, ◌*◌, List, [], ◌∷◌, ◌++◌, length, map, Option, Some, None, Result, Ok, Err, refl, ap, ◌∙◌}
use Rattle.std.proofs.Math.Path.{fun_ext}
use Rattle.std.specs.Prelude.{◌==◌, ℤ, max, slice_get, if◌then◌else◌}
use Rattle.std.specs.List.{position, flat_map}
use Rattle.std.specs.Option.{option_map}
use Rattle.std.specs.Str.{bytes_eq}
use Rattle.std.specs.Int.{to_le_bytes, w32, w64}
use Rattle.xt_isa.specs.Table.{word}
use Rattle.xt_mnemonics.specs.Names.{mnemonic_named}
use Rattle.xt_mnemonics.specs.Build.{build}
use Rattle.tie_desc.specs.Description.{Description}
use Rattle.tie_desc.specs.Slots.{args_of, op_args, longest, place_of, code_space}
use Rattle.tie_desc.specs.Spelling.{three_bytes, op_word, fields_below, slot_below, slots_word, format_word, wide_bytes}
use Rattle.tie_desc.specs.declared.declarations.Access.{Access}
use Rattle.tie_desc.specs.declared.declarations.OpDecl.{OpDecl}
use Rattle.tie_desc.specs.declared.formats.Code.{Code}
use Rattle.tie_desc.specs.declared.formats.Code.TheVariants as code
use Rattle.tie_desc.specs.declared.formats.SlotDecl.{SlotDecl}
use Rattle.tie_desc.specs.declared.formats.FormatDecl.{FormatDecl}
use Rattle.tie_desc.specs.declared.bundle.Part.{Part}
use Rattle.asm_lines.specs.Tokens.{Fault, tokens}
use Rattle.asm_lines.specs.Naming.{core_or, named, format_named}
use Rattle.asm_lines.specs.Reading.{Reader, ◌>>=◌, ◌>>◌, pure, one, many_from}
use Rattle.asm_lines.specs.Lines.{sees, expect, name_of, end_of, sees_name, sees_end, sees_directive, sees_align, operands, operation_of, operation, next_operation, more_operations, wide, named_statement, values_statement, align_statement, statement, ended, named_line, line, some_left, lines}
use Rattle.asm_lines.specs.declared.refusal.AsmRule.{AsmRule}
use Rattle.asm_lines.specs.declared.refusal.AsmRule.TheVariants as rule
use Rattle.asm_lines.specs.declared.token.Token.{Token}
use Rattle.asm_lines.specs.declared.token.Mark.TheVariants as mark
use Rattle.asm_lines.specs.declared.line.Label.{Label}
use Rattle.asm_lines.specs.declared.line.Operand.{Operand}
use Rattle.asm_lines.specs.declared.line.Operator.{Operator}
use Rattle.asm_lines.specs.declared.line.Operator.TheVariants as operator
use Rattle.asm_lines.specs.declared.line.Operation.{Operation}
use Rattle.asm_lines.specs.declared.line.Statement.{Statement}
use Rattle.asm_lines.specs.declared.line.Statement.TheVariants as stated
use Rattle.asm_lines.specs.declared.line.Line.{Line}
use Rattle.xt_asm.specs.asm_rules.declared.expected.Expected.{Expected}
use Rattle.xt_asm.specs.asm_rules.declared.written.Written.{Written}
use Rattle.xt_asm.specs.asm_rules.Expected.{of_access, expected}
use Rattle.xt_asm.specs.asm_rules.Operands.{Find, Judge, meant, is_kind, in_range, is_known, reaches}
use Rattle.xt_asm.specs.asm_rules.Labels.{format_at, addresses, labels_of, find_of}
use Rattle.xt_asm.specs.asm_rules.Slots.{code_in, field_at, fields, written_in, written_of, written, repeated}
use Rattle.xt_asm.specs.asm_rules.Rules.{or_else, unless, first_in, judged, judged_by, judged_operation, judged_in, counts, miscounted_operation, miscounted, rewritten, breach, fault_at, breach_from, breach_by, line_rules, long_from, unreached_in, fault_in}
use Rattle.xt_asm.specs.Bytes.{values, code_or_nop, part_of, alone_bytes, bytes, image_in}
use Rattle.xt_asm.specs.Assembly.{image, assembled, of_lines, of_tokens, assembly}

-- these operations have the names and the arguments of the description's, in their order
pub record AreAlike (d : Description) (m : List OpDecl) : Type 0 where
  pub named : (name : List ℕ) → position (λ (op : OpDecl). bytes_eq op.name name) m ≡ position (λ (op : OpDecl). bytes_eq op.name name) d.ops
  pub args : (i : ℕ) → op_args (slice_get m i) ≡ op_args (slice_get d.ops i)

-- the description with other operations
abbrev pub swap : Description → List OpDecl → Description
swap d m = record d { ops = m }

-- ---- lines

named_same : (d : Description) (m : List OpDecl) → AreAlike d m → named (swap d m) ≡ named d
unfolding named
named_same d m h = fun_ext (λ name. ap (λ (p : Option ℕ). core_or (mnemonic_named name) (option_map operator.Op p)) (h.named name))

operation_of_same : (d : Description) (m : List OpDecl) → AreAlike d m → operation_of (swap d m) ≡ operation_of d
unfolding operation_of
operation_of_same d m h =
    ap (λ (f : List ℕ → Option Operator). λ (name : Label). operands >>= (λ os. pure (record { column = name.column; operator = f name.name; operands = os }))) (named_same d m h)

operation_same : (d : Description) (m : List OpDecl) → AreAlike d m → operation (swap d m) ≡ operation d
unfolding operation
operation_same d m h = ap (λ (f : Label → Reader Operation). one name_of >>= f) (operation_of_same d m h)

next_operation_same : (d : Description) (m : List OpDecl) → AreAlike d m → next_operation (swap d m) ≡ next_operation d
unfolding next_operation
next_operation_same d m h = ap (λ (f : Reader Operation). expect mark.Semicolon >> f) (operation_same d m h)

more_operations_same : (d : Description) (m : List OpDecl) → AreAlike d m → more_operations (swap d m) ≡ more_operations d
unfolding more_operations
more_operations_same d m h = ap (λ (f : Reader Operation). λ (first : Operation). many_from (sees mark.Semicolon) f (first ∷ [])) (next_operation_same d m h)

wide_of : Description → Reader Operation → (Operation → Reader (List Operation)) → Label → Reader Statement
wide_of d first more name = expect mark.OpenBrace >> first >>= more >>= (λ os. expect mark.CloseBrace >> pure (stated.Wide name.column (format_named d name.name) os))

wide_same : (d : Description) (m : List OpDecl) → AreAlike d m → wide (swap d m) ≡ wide d
unfolding wide wide_of
wide_same d m h =
    ap (λ (f : Reader Operation). wide_of d f (more_operations (swap d m))) (operation_same d m h)
    ∙ ap (λ (g : Operation → Reader (List Operation)). wide_of d (operation d) g) (more_operations_same d m h)

named_statement_of : (Label → Reader Statement) → (Label → Reader Operation) → Label → Reader Statement
named_statement_of all alone name = λ ts. if sees mark.OpenBrace ts then all name ts else (alone name >>= (λ o. pure (stated.Alone o))) ts

named_statement_same : (d : Description) (m : List OpDecl) → AreAlike d m → named_statement (swap d m) ≡ named_statement d
unfolding named_statement named_statement_of
named_statement_same d m h =
    ap (λ (f : Label → Reader Statement). named_statement_of f (operation_of (swap d m))) (wide_same d m h)
    ∙ ap (λ (g : Label → Reader Operation). named_statement_of (wide d) g) (operation_of_same d m h)

statement_of : (Label → Reader Statement) → Reader Statement
statement_of f = λ ts.
    if sees_end ts then Ok (stated.Nothing, ts) else (
    if sees_directive ts then values_statement ts else (
    if sees_align ts then align_statement ts else (
    (one name_of >>= f) ts)))

statement_same : (d : Description) (m : List OpDecl) → AreAlike d m → statement (swap d m) ≡ statement d
unfolding statement statement_of
statement_same d m h = ap statement_of (named_statement_same d m h)

named_line_of : Reader Statement → (Label → Reader Statement) → Label → Reader Line
named_line_of rest f name = λ ts.
    if sees mark.Colon ts then (expect mark.Colon >> rest >>= ended (Some name)) ts else (f name >>= ended None) ts

named_line_same : (d : Description) (m : List OpDecl) → AreAlike d m → named_line (swap d m) ≡ named_line d
unfolding named_line named_line_of
named_line_same d m h =
    ap (λ (f : Reader Statement). named_line_of f (named_statement (swap d m))) (statement_same d m h)
    ∙ ap (λ (g : Label → Reader Statement). named_line_of (statement d) g) (named_statement_same d m h)

line_of : (Label → Reader Line) → Reader Statement → Reader Line
line_of f rest = λ ts. if sees_name ts then (one name_of >>= f) ts else (rest >>= ended None) ts

line_same : (d : Description) (m : List OpDecl) → AreAlike d m → line (swap d m) ≡ line d
unfolding line line_of
line_same d m h =
    ap (λ (f : Label → Reader Line). line_of f (statement (swap d m))) (named_line_same d m h)
    ∙ ap (λ (g : Reader Statement). line_of (named_line d) g) (statement_same d m h)

lines_same : (d : Description) (m : List OpDecl) → AreAlike d m → lines (swap d m) ≡ lines d
unfolding lines
lines_same d m h = ap (λ (f : Reader Line). many_from some_left f []) (line_same d m h)

-- ---- rules

args_same : (d : Description) (m : List OpDecl) → AreAlike d m → (c : Code) → args_of (swap d m) c ≡ args_of d c
args_same d m h (code.Core c) = refl
args_same d m h (code.Op i) = h.args i

expected_same : (d : Description) (m : List OpDecl) → AreAlike d m → (op : Operator) → expected (swap d m) op ≡ expected d op
expected_same d m h (operator.Core c) = refl
expected_same d m h (operator.Op i) = ap (map of_access) (h.args i)

counts_same : (d : Description) (m : List OpDecl) → AreAlike d m → (op : Option Operator) (n : ℕ) → counts (swap d m) op n ≡ counts d op n
counts_same d m h None n = refl
counts_same d m h (Some op) n = ap (λ (es : List Expected). length es == n) (expected_same d m h op)

miscounted_operation_same : (d : Description) (m : List OpDecl) → AreAlike d m → miscounted_operation (swap d m) ≡ miscounted_operation d
miscounted_operation_same d m h = fun_ext (λ o. ap (λ b. unless b o.column) (counts_same d m h o.operator (length o.operands)))

miscounted_same : (d : Description) (m : List OpDecl) → AreAlike d m → (s : Statement) → miscounted (swap d m) s ≡ miscounted d s
miscounted_same d m h stated.Nothing = refl
miscounted_same d m h (stated.Alone o) = ap (λ (f : Operation → Option ℕ). f o) (miscounted_operation_same d m h)
miscounted_same d m h (stated.Wide column format os) = ap (λ (f : Operation → Option ℕ). first_in f os) (miscounted_operation_same d m h)
miscounted_same d m h (stated.Values column n vs) = refl
miscounted_same d m h (stated.Align column place number) = refl

judged_by_same : (d : Description) (m : List OpDecl) → AreAlike d m → (test : Judge) (op : Option Operator) (os : List Operand) → judged_by (swap d m) test op os ≡ judged_by d test op os
judged_by_same d m h test None os = refl
judged_by_same d m h test (Some op) os = ap (λ (es : List Expected). judged test es os) (expected_same d m h op)

judged_operation_same : (d : Description) (m : List OpDecl) → AreAlike d m → (test : Judge) → judged_operation (swap d m) test ≡ judged_operation d test
judged_operation_same d m h test = fun_ext (λ o. judged_by_same d m h test o.operator o.operands)

judged_in_same : (d : Description) (m : List OpDecl) → AreAlike d m → (test : Judge) (s : Statement) → judged_in (swap d m) test s ≡ judged_in d test s
judged_in_same d m h test stated.Nothing = refl
judged_in_same d m h test (stated.Alone o) = ap (λ (f : Operation → Option ℕ). f o) (judged_operation_same d m h test)
judged_in_same d m h test (stated.Wide column format os) = ap (λ (f : Operation → Option ℕ). first_in f os) (judged_operation_same d m h test)
judged_in_same d m h test (stated.Values column n vs) = refl
judged_in_same d m h test (stated.Align column place number) = refl

kind_same : (d : Description) (m : List OpDecl) → is_kind (swap d m) ≡ is_kind d
unfolding meant
kind_same d m = refl

range_same : (d : Description) (m : List OpDecl) → in_range (swap d m) ≡ in_range d
unfolding meant
range_same d m = refl

written_in_same : (d : Description) (m : List OpDecl) → written_in (swap d m) ≡ written_in d
unfolding meant
written_in_same d m = refl

written_of_same : (d : Description) (m : List OpDecl) → AreAlike d m → (c : Option Code) (os : List Operand) → written_of (swap d m) c os ≡ written_of d c os
written_of_same d m h None os = refl
written_of_same d m h (Some c) os =
    ap (λ (args : List Access). written_in (swap d m) args os) (args_same d m h c) ∙ ap (λ (f : List Access → List Operand → List Written). f (args_of d c) os) (written_in_same d m)

written_same : (d : Description) (m : List OpDecl) → AreAlike d m → written (swap d m) ≡ written d
written_same d m h = fun_ext (λ o. written_of_same d m h (code_in o) o.operands)

rewritten_same : (d : Description) (m : List OpDecl) → AreAlike d m → (s : Statement) → rewritten (swap d m) s ≡ rewritten d s
rewritten_same d m h stated.Nothing = refl
rewritten_same d m h (stated.Alone o) = ap (λ (f : Operation → List Written). repeated [] (f o)) (written_same d m h)
rewritten_same d m h (stated.Wide column format os) = ap (λ (f : Operation → List Written). repeated [] (flat_map f os)) (written_same d m h)
rewritten_same d m h (stated.Values column n vs) = refl
rewritten_same d m h (stated.Align column place number) = refl

breach_same : (d : Description) (m : List OpDecl) → AreAlike d m → (labels : Find) (r : AsmRule) (i : ℕ) (l : Line) → breach (swap d m) labels r i l ≡ breach d labels r i l
breach_same d m h labels rule.OperandCount i l = miscounted_same d m h l.statement
breach_same d m h labels rule.OperandKind i l = judged_in_same d m h (is_kind (swap d m)) l.statement ∙ ap (λ (t : Judge). judged_in d t l.statement) (kind_same d m)
breach_same d m h labels rule.OperandRange i l = judged_in_same d m h (in_range (swap d m)) l.statement ∙ ap (λ (t : Judge). judged_in d t l.statement) (range_same d m)
breach_same d m h labels rule.UnknownLabel i l = judged_in_same d m h (is_known labels) l.statement
breach_same d m h labels rule.SameDest i l = rewritten_same d m h l.statement
breach_same d m h labels _ i l = refl

breach_from_same : (d : Description) (m : List OpDecl) → AreAlike d m → (labels : Find) (r : AsmRule) (i : ℕ) (ls : List Line) → breach_from (swap d m) labels r i ls ≡ breach_from d labels r i ls
breach_from_same d m h labels r i [] = refl
breach_from_same d m h labels r i (l ∷ ls) =
    ap (λ (o : Option ℕ). or_else (option_map (fault_at r l) o) (breach_from (swap d m) labels r (i + 1) ls)) (breach_same d m h labels r i l)
    ∙ ap (λ (o : Option Fault). or_else (option_map (fault_at r l) (breach d labels r i l)) o) (breach_from_same d m h labels r (i + 1) ls)

breach_by_same : (d : Description) (m : List OpDecl) → AreAlike d m → (labels : Find) (rs : List AsmRule) (ls : List Line) → breach_by (swap d m) labels rs ls ≡ breach_by d labels rs ls
breach_by_same d m h labels [] ls = refl
breach_by_same d m h labels (r ∷ rs) ls =
    ap (λ (o : Option Fault). or_else o (breach_by (swap d m) labels rs ls)) (breach_from_same d m h labels r 0 ls)
    ∙ ap (λ (o : Option Fault). or_else (breach_from d labels r 0 ls) o) (breach_by_same d m h labels rs ls)

unreached_same : (d : Description) (m : List OpDecl) → AreAlike d m → (find : Find) (ats : List ℕ) (ls : List Line) → unreached_in (swap d m) find ats ls ≡ unreached_in d find ats ls
unreached_same d m h find [] ls = refl
unreached_same d m h find (at ∷ more) [] = refl
unreached_same d m h find (at ∷ more) (l ∷ ls) =
    ap (λ (o : Option ℕ). or_else (option_map (fault_at rule.Reach l) o) (unreached_in (swap d m) find more ls)) (judged_in_same d m h (reaches find at) l.statement)
    ∙ ap (λ (o : Option Fault). or_else (option_map (fault_at rule.Reach l) (judged_in d (reaches find at) l.statement)) o) (unreached_same d m h find more ls)

fault_same : (d : Description) (m : List OpDecl) → AreAlike d m → (ls : List Line) → fault_in (swap d m) ls ≡ fault_in d ls
fault_same d m h ls =
    ap (λ (o : Option Fault). or_else o (or_else (long_from d 0 ls) (unreached_in (swap d m) (find_of d ls) (addresses d 0 ls) ls))) (breach_by_same d m h (labels_of ls) line_rules ls)
    ∙ ap (λ (o : Option Fault). or_else (breach_by d (labels_of ls) line_rules ls) (or_else (long_from d 0 ls) o)) (unreached_same d m h (find_of d ls) (addresses d 0 ls) ls)

-- ---- bytes

values_same : (d : Description) (m : List OpDecl) → values (swap d m) ≡ values d
unfolding meant
values_same d m = refl

field_same : (d : Description) (m : List OpDecl) → field_at (swap d m) ≡ field_at d
unfolding meant
field_same d m = refl

fields_of : (Option Access → Option Operand → ℕ) → List Access → List Operand → List ℕ
fields_of f args os = f (slice_get args 0) (slice_get os 0) ∷ f (slice_get args 1) (slice_get os 1) ∷ f (slice_get args 2) (slice_get os 2) ∷ []

fields_same : (d : Description) (m : List OpDecl) → AreAlike d m → (c : Code) (os : List Operand) → fields (swap d m) c os ≡ fields d c os
unfolding fields_of
fields_same d m h c os =
    ap (λ (f : Option Access → Option Operand → ℕ). fields_of f (args_of (swap d m) c) os) (field_same d m)
    ∙ ap (λ (args : List Access). fields_of (field_at d) args os) (args_same d m h c)

part_of_same : (d : Description) (m : List OpDecl) → AreAlike d m → part_of (swap d m) ≡ part_of d
part_of_same d m h = fun_ext (λ o. ap (λ (fs : List ℕ). record { code = code_or_nop (code_in o); fields = fs }) (fields_same d m h (code_or_nop (code_in o)) o.operands))

longest_same : (d : Description) (m : List OpDecl) → AreAlike d m → (cs : List Code) → longest (swap d m) cs ≡ longest d cs
unfolding longest
longest_same d m h [] = refl
longest_same d m h (c ∷ cs) =
    ap (λ (args : List Access). max (length args) (longest (swap d m) cs)) (args_same d m h c) ∙ ap (λ n. max (length (args_of d c)) n) (longest_same d m h cs)

slot_of : ℕ → SlotDecl → Part → ℕ → ℕ
slot_of n s p above = fields_below n 0 p.fields above * code_space (length s.codes) + place_of p.code s.codes

slots_same : (d : Description) (m : List OpDecl) → AreAlike d m → (ss : List SlotDecl) (ps : List Part) → slots_word (swap d m) ss ps ≡ slots_word d ss ps
unfolding slot_of
slots_same d m h [] ps = refl
slots_same d m h (s ∷ ss) [] = refl
slots_same d m h (s ∷ ss) (p ∷ ps) =
    ap (λ n. slot_of n s p (slots_word (swap d m) ss ps)) (longest_same d m h s.codes) ∙ ap (λ above. slot_of (longest d s.codes) s p above) (slots_same d m h ss ps)

format_same : (d : Description) (m : List OpDecl) → AreAlike d m → (f : FormatDecl) (ps : List Part) → format_word (swap d m) f ps ≡ format_word d f ps
format_same d m h f ps = ap (λ w. (w * 16 + f.number) * 16 + (if f.width == 64 then 15 else 14)) (slots_same d m h f.slots ps)

wide_bytes_same : (d : Description) (m : List OpDecl) → AreAlike d m → (f : Option FormatDecl) (ps : List Part) → wide_bytes (swap d m) f ps ≡ wide_bytes d f ps
wide_bytes_same d m h None ps = refl
wide_bytes_same d m h (Some f) ps = ap (λ w. if f.width == 64 then to_le_bytes w64 w else to_le_bytes w32 w) (format_same d m h f ps)

alone_same : (d : Description) (m : List OpDecl) → AreAlike d m → (find : Find) (at : ℕ) (op : Option Operator) (o : Operation) → alone_bytes (swap d m) find at op o ≡ alone_bytes d find at op o
alone_same d m h find at None o = refl
alone_same d m h find at (Some (operator.Core c)) o =
    ap (λ (f : Find → ℕ → List Expected → List Operand → List ℤ). three_bytes (word (build c (f find at (expected d (operator.Core c)) o.operands)))) (values_same d m)
alone_same d m h find at (Some (operator.Op i)) o = ap (λ (f : Operation → Part). three_bytes (op_word (f o).code (f o).fields)) (part_of_same d m h)

bytes_same : (d : Description) (m : List OpDecl) → AreAlike d m → (find : Find) (at : ℕ) (s : Statement) → bytes (swap d m) find at s ≡ bytes d find at s
bytes_same d m h find at stated.Nothing = refl
bytes_same d m h find at (stated.Alone o) = alone_same d m h find at o.operator o
bytes_same d m h find at (stated.Wide column format os) =
    wide_bytes_same d m h (format_at d format) (map (part_of (swap d m)) os) ∙ ap (λ (f : Operation → Part). wide_bytes d (format_at d format) (map f os)) (part_of_same d m h)
bytes_same d m h find at (stated.Values column n vs) = refl
bytes_same d m h find at (stated.Align column place number) = refl

image_in_same : (d : Description) (m : List OpDecl) → AreAlike d m → (find : Find) (ats : List ℕ) (ls : List Line) → image_in (swap d m) find ats ls ≡ image_in d find ats ls
image_in_same d m h find [] ls = refl
image_in_same d m h find (at ∷ more) [] = refl
image_in_same d m h find (at ∷ more) (l ∷ ls) =
    ap (λ (b : List ℕ). b ++ image_in (swap d m) find more ls) (bytes_same d m h find at l.statement) ∙ ap (λ (b : List ℕ). bytes d find at l.statement ++ b) (image_in_same d m h find more ls)

-- ---- the whole

assembled_same : (d : Description) (m : List OpDecl) → AreAlike d m → (ls : List Line) (o : Option Fault) → assembled (swap d m) ls o ≡ assembled d ls o
assembled_same d m h ls None = ap Ok (image_in_same d m h (find_of d ls) (addresses d 0 ls) ls)
assembled_same d m h ls (Some fault) = refl

of_lines_same : (d : Description) (m : List OpDecl) → AreAlike d m → (r : Result (List Line × List Token) Fault) → of_lines (swap d m) r ≡ of_lines d r
of_lines_same d m h (Ok read) = assembled_same d m h read.0 (fault_in (swap d m) read.0) ∙ ap (assembled d read.0) (fault_same d m h read.0)
of_lines_same d m h (Err fault) = refl

of_tokens_same : (d : Description) (m : List OpDecl) → AreAlike d m → (r : Result (List Token) Fault) → of_tokens (swap d m) r ≡ of_tokens d r
of_tokens_same d m h (Ok ts) = of_lines_same d m h (lines (swap d m) ts) ∙ ap (λ (f : Reader (List Line)). of_lines d (f ts)) (lines_same d m h)
of_tokens_same d m h (Err fault) = refl

pub assembly_same : (d : Description) (m : List OpDecl) → AreAlike d m → (text : List ℕ) → assembly (swap d m) text ≡ assembly d text
unfolding assembly
assembly_same d m h text = of_tokens_same d m h (tokens text)
