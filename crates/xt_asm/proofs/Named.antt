-- The lines of a source name what the description declares.
use Rattle.std.proofs.Common.{◌≡◌, ℕ, zero, suc, ◌+◌, ◌<◌, Bool, true, false, cond, List, [], ◌∷◌, ◌++◌, length, Option, Some, None, refl, arith, subst}
use Rattle.std.specs.Prelude.{Ok, Err, nat_lt}
use Rattle.std.specs.Option.{option_map}
use Rattle.std.specs.List.{position, position_or_len}
use Rattle.std.specs.Str.{bytes_eq}
use Rattle.std.proofs.lemmas.Bool.Decides.{nat_tests}
use Rattle.xt_mnemonics.specs.declared.mnemonic.Mnemonic.{Mnemonic}
use Rattle.xt_mnemonics.specs.Names.{mnemonic_named}
use Rattle.tie_desc.specs.Description.{Description}
use Rattle.tie_desc.specs.declared.declarations.OpDecl.{OpDecl}
use Rattle.tie_desc.specs.declared.formats.FormatDecl.{FormatDecl}
use Rattle.asm_lines.specs.Reading.{Read, Reader, and_then, ◌>>=◌, ◌>>◌, pure, one, list_turn, list_from}
use Rattle.asm_lines.specs.Naming.{named, core_or, format_named}
use Rattle.asm_lines.specs.Lines as spec
use Rattle.asm_lines.specs.declared.token.Token.{Token}
use Rattle.asm_lines.specs.declared.token.Mark.TheVariants as mark
use Rattle.asm_lines.specs.declared.line.Label.{Label}
use Rattle.asm_lines.specs.declared.line.Operation.{Operation}
use Rattle.asm_lines.specs.declared.line.Operator.{Operator}
use Rattle.asm_lines.specs.declared.line.Operator.TheVariants as operator
use Rattle.asm_lines.specs.declared.line.Statement.{Statement}
use Rattle.asm_lines.specs.declared.line.Statement.TheVariants as stated
use Rattle.asm_lines.specs.declared.line.Line.{Line}
use Rattle.xt_asm.specs.Known.{Each, KnownOperator, KnownOperation, KnownFormat, KnownStatement, KnownLine, AreKnown}

-- ---- readers

-- what is read, if something is, has a property
abbrev Always : {A : Type 0} → (A → Type 0) → Read A → Type 0
Always P (Ok p) = P p.0
Always P (Err fault) = Unit {0}

chained : {A B : Type 0} (P : A → Type 0) (Q : B → Type 0) (r : Read A) (f : A → Reader B) → Always P r → ((a : A) (ts : List Token) → P a → Always Q (f a ts)) → Always Q (and_then r f)
chained P Q (Ok p) f h k = k p.0 p.1 h
chained P Q (Err fault) f h k = tt

after : {A B : Type 0} (Q : B → Type 0) (r : Read A) (f : A → Reader B) → ((a : A) (ts : List Token) → Always Q (f a ts)) → Always Q (and_then r f)
after Q (Ok p) f k = k p.0 p.1
after Q (Err fault) f k = tt

each_behind : {A : Type 0} (P : A → Type 0) (xs : List A) (x : A) → Each P xs → P x → Each P (xs ++ x ∷ [])
each_behind P [] x h k = (k, tt)
each_behind P (y ∷ ys) x h k = (h.0, each_behind P ys x h.1 k)

turns_keep : {A : Type 0} (P : A → Type 0) (goes_on : List Token → Bool) (p : Reader A) → ((ts : List Token) → Always P (p ts)) → (n : ℕ) (found : List A) (ts : List Token) → Each P found → Always (Each P) (list_from goes_on p n found ts)
unfolding list_from list_turn
turns_keep P goes_on p h zero found ts k = tt
turns_keep P goes_on p h (suc n) found ts k =
    elim (goes_on ts) as (λ b. Always (Each P) (list_turn (list_from goes_on p n) b p found ts)) [
      | true ↦ chained P (Each P) (p ts) (λ x. list_from goes_on p n (found ++ x ∷ [])) (h ts) (λ x more q. turns_keep P goes_on p h n (found ++ x ∷ []) more (each_behind P found x k q))
      | false ↦ k
    ]

-- ---- words

below : (a b : ℕ) → nat_lt a b ≡ true → a < b
below a b h = grind (arith, nat_tests)

op_known : (d : Description) (n : ℕ) (b : Bool) → nat_lt n (length d.ops) ≡ b → KnownOperator d (option_map operator.Op (cond b (Some n) None))
op_known d n true e = below n (length d.ops) e
op_known d n false e = tt

or_known : (d : Description) (m : Option Mnemonic) (o : Option Operator) → KnownOperator d o → KnownOperator d (core_or m o)
or_known d (Some m) o h = tt
or_known d None o h = h

named_known : (d : Description) (word : List ℕ) → KnownOperator d (named d word)
unfolding named
named_known d word =
    let n = position_or_len (λ (op : OpDecl). bytes_eq op.name word) d.ops in
    or_known d (mnemonic_named word) (option_map operator.Op (position (λ (op : OpDecl). bytes_eq op.name word) d.ops)) (op_known d n (nat_lt n (length d.ops)) refl)

format_found : (d : Description) (n : ℕ) (b : Bool) → nat_lt n (length d.formats) ≡ b → KnownFormat d (cond b (Some n) None)
format_found d n true e = below n (length d.formats) e
format_found d n false e = tt

format_known : (d : Description) (word : List ℕ) → KnownFormat d (format_named d word)
format_known d word =
    let n = position_or_len (λ (f : FormatDecl). bytes_eq f.name word) d.formats in
    format_found d n (nat_lt n (length d.formats)) refl

-- ---- operations

operation_of_known : (d : Description) (name : Label) (ts : List Token) → Always (KnownOperation d) (spec.operation_of d name ts)
unfolding spec.operation_of
operation_of_known d name ts =
    after (KnownOperation d) (spec.operands ts) (λ os. pure (record { column = name.column; operator = named d name.name; operands = os })) (λ os more. named_known d name.name)

operation_known : (d : Description) (ts : List Token) → Always (KnownOperation d) (spec.operation d ts)
unfolding spec.operation
operation_known d ts = after (KnownOperation d) (one spec.name_of ts) (spec.operation_of d) (λ name more. operation_of_known d name more)

next_known : (d : Description) (ts : List Token) → Always (KnownOperation d) (spec.next_operation d ts)
unfolding spec.next_operation
next_known d ts = after (KnownOperation d) (spec.expect mark.Semicolon ts) (λ _. spec.operation d) (λ u more. operation_known d more)

more_known : (d : Description) (first : Operation) (ts : List Token) → KnownOperation d first → Always (Each (KnownOperation d)) (spec.more_operations d first ts)
unfolding spec.more_operations
more_known d first ts h = turns_keep (KnownOperation d) (spec.sees mark.Semicolon) (spec.next_operation d) (next_known d) (length ts + 1) (first ∷ []) ts (h, tt)

-- ---- statements

closed_known : (d : Description) (name : Label) (os : List Operation) (ts : List Token) → Each (KnownOperation d) os
    → Always (KnownStatement d) (and_then (spec.expect mark.CloseBrace ts) (λ _. pure (stated.Wide name.column (format_named d name.name) os)))
closed_known d name os ts h =
    after (KnownStatement d) (spec.expect mark.CloseBrace ts) (λ _. pure (stated.Wide name.column (format_named d name.name) os)) (λ u more. (format_known d name.name, h))

wide_known : (d : Description) (name : Label) (ts : List Token) → Always (KnownStatement d) (spec.wide d name ts)
unfolding spec.wide
wide_known d name ts =
    let close = λ (os : List Operation). spec.expect mark.CloseBrace >> pure (stated.Wide name.column (format_named d name.name) os) in
    let first = (spec.expect mark.OpenBrace >> spec.operation d) ts in
    let first_known : Always (KnownOperation d) first = after (KnownOperation d) (spec.expect mark.OpenBrace ts) (λ _. spec.operation d) (λ u more. operation_known d more) in
    let all_known : Always (Each (KnownOperation d)) (and_then first (spec.more_operations d)) =
    chained (KnownOperation d) (Each (KnownOperation d)) first (spec.more_operations d) first_known (λ o more k. more_known d o more k) in
    chained (Each (KnownOperation d)) (KnownStatement d) (and_then first (spec.more_operations d)) close all_known (λ os more k. closed_known d name os more k)

named_statement_known : (d : Description) (name : Label) (ts : List Token) → Always (KnownStatement d) (spec.named_statement d name ts)
unfolding spec.named_statement
named_statement_known d name ts =
    elim (spec.sees mark.OpenBrace ts) as (λ b. Always (KnownStatement d) (cond b (spec.wide d name ts) (and_then (spec.operation_of d name ts) (λ o. pure (stated.Alone o))))) [
      | true ↦ wide_known d name ts
      | false ↦ chained (KnownOperation d) (KnownStatement d) (spec.operation_of d name ts) (λ o. pure (stated.Alone o)) (operation_of_known d name ts) (λ o more k. k)
    ]

values_known : (d : Description) (ts : List Token) → Always (KnownStatement d) (spec.values_statement ts)
unfolding spec.values_statement
values_known d ts =
    after (KnownStatement d) (one spec.directive_of ts) (λ p. spec.some_operands >>= (λ vs. pure (stated.Values p.0 p.1 vs)))
    (λ p more. after (KnownStatement d) (spec.some_operands more) (λ vs. pure (stated.Values p.0 p.1 vs)) (λ vs rest. tt))

align_known : (d : Description) (ts : List Token) → Always (KnownStatement d) (spec.align_statement ts)
unfolding spec.align_statement
align_known d ts =
    after (KnownStatement d) (one spec.align_of ts) (λ column. spec.operand >>= (λ o. pure (stated.Align column (spec.column_of o) (spec.number_of o))))
    (λ column more. after (KnownStatement d) (spec.operand more) (λ o. pure (stated.Align column (spec.column_of o) (spec.number_of o))) (λ o rest. tt))

word_known : (d : Description) (ts : List Token) → Always (KnownStatement d) (and_then (one spec.name_of ts) (spec.named_statement d))
word_known d ts = after (KnownStatement d) (one spec.name_of ts) (spec.named_statement d) (λ name more. named_statement_known d name more)

statement_known : (d : Description) (ts : List Token) → Always (KnownStatement d) (spec.statement d ts)
unfolding spec.statement
statement_known d ts = by (spec.sees_end ts) (spec.sees_directive ts) (spec.sees_align ts)
  where
    by : (e v a : Bool)
        → Always (KnownStatement d) (cond e (Ok (stated.Nothing, ts)) (cond v (spec.values_statement ts) (cond a (spec.align_statement ts) (and_then (one spec.name_of ts) (spec.named_statement d)))))
    by true v a = tt
    by false true a = values_known d ts
    by false false true = align_known d ts
    by false false false = word_known d ts

-- ---- lines

ended_known : (d : Description) (label : Option Label) (s : Statement) (ts : List Token) → KnownStatement d s → Always (KnownLine d) (spec.ended label s ts)
unfolding spec.ended
ended_known d label s ts h = after (KnownLine d) (one spec.end_of ts) (λ number. pure (record { number = number; label = label; statement = s })) (λ number more. h)

labelled_known : (d : Description) (name : Label) (ts : List Token) → Always (KnownLine d) ((spec.expect mark.Colon >> spec.statement d >>= spec.ended (Some name)) ts)
labelled_known d name ts =
    let s = (spec.expect mark.Colon >> spec.statement d) ts in
    let s_known : Always (KnownStatement d) s = after (KnownStatement d) (spec.expect mark.Colon ts) (λ _. spec.statement d) (λ u more. statement_known d more) in
    chained (KnownStatement d) (KnownLine d) s (spec.ended (Some name)) s_known (λ t more k. ended_known d (Some name) t more k)

named_line_known : (d : Description) (name : Label) (ts : List Token) → Always (KnownLine d) (spec.named_line d name ts)
unfolding spec.named_line
named_line_known d name ts = by (spec.sees mark.Colon ts)
  where
    by : (b : Bool) → Always (KnownLine d) (cond b ((spec.expect mark.Colon >> spec.statement d >>= spec.ended (Some name)) ts) (and_then (spec.named_statement d name ts) (spec.ended None)))
    by true = labelled_known d name ts
    by false = chained (KnownStatement d) (KnownLine d) (spec.named_statement d name ts) (spec.ended None) (named_statement_known d name ts) (λ t more k. ended_known d None t more k)

line_known : (d : Description) (ts : List Token) → Always (KnownLine d) (spec.line d ts)
unfolding spec.line
line_known d ts = by (spec.sees_name ts)
  where
    by : (b : Bool) → Always (KnownLine d) (cond b (and_then (one spec.name_of ts) (spec.named_line d)) (and_then (spec.statement d ts) (spec.ended None)))
    by true = after (KnownLine d) (one spec.name_of ts) (spec.named_line d) (λ name more. named_line_known d name more)
    by false = chained (KnownStatement d) (KnownLine d) (spec.statement d ts) (spec.ended None) (statement_known d ts) (λ t more k. ended_known d None t more k)

-- lines that are read are known
pub lines_known : (d : Description) (ts : List Token) (ls : List Line) (left : List Token) → spec.lines d ts ≡ Ok (ls, left) → AreKnown d ls
unfolding spec.lines
lines_known d ts ls left e =
    subst (Always (Each (KnownLine d))) e (turns_keep (KnownLine d) spec.some_left (spec.line d) (line_known d) (length ts + 1) [] ts tt)
