-- What declarations and texts spell is read as them.
use Rattle.std.proofs.Common.{◌≡◌, ℕ, ◌+◌, ◌≤◌, false, List, [], ◌∷◌, ◌++◌, length, Option, Some, None, Ok, refl, sym, ap, ◌∙◌, append_assoc, append-nil, arith, length-append, if◌then◌else◌}
use Rattle.std.specs.List.{flat_map, AllByRecursion}
use Rattle.tie_grammar.specs.declared.symbol.Leaf.{Leaf}
use Rattle.tie_grammar.specs.declared.symbol.Mark.TheVariants as m
use Rattle.tie_grammar.specs.declared.symbol.Symbol.{Symbol}
use Rattle.tie_grammar.specs.declared.symbol.Symbol.TheVariants as s
use Rattle.tie_grammar.specs.declared.tree.Literal.{Literal}
use Rattle.tie_grammar.specs.declared.tree.Literal.TheVariants as l
use Rattle.tie_grammar.specs.declared.tree.Int.{Int}
use Rattle.tie_grammar.specs.declared.tree.Range.{Range}
use Rattle.tie_grammar.specs.declared.tree.Parameter.{Parameter}
use Rattle.tie_grammar.specs.declared.tree.Argument.{Argument}
use Rattle.tie_grammar.specs.declared.tree.Link.{Link}
use Rattle.tie_grammar.specs.declared.tree.Item.{Item}
use Rattle.tie_grammar.specs.declared.tree.ScheduleItem.{ScheduleItem}
use Rattle.tie_grammar.specs.declared.tree.State.{State}
use Rattle.tie_grammar.specs.declared.tree.Table.{Table}
use Rattle.tie_grammar.specs.declared.tree.ImmediateRange.{ImmediateRange}
use Rattle.tie_grammar.specs.declared.tree.Function.{Function}
use Rattle.tie_grammar.specs.declared.tree.Operation.{Operation}
use Rattle.tie_grammar.specs.declared.tree.Schedule.{Schedule}
use Rattle.tie_grammar.specs.declared.tree.Format.{Format}
use Rattle.tie_grammar.specs.declared.tree.SlotOpcodes.{SlotOpcodes}
use Rattle.tie_grammar.specs.declared.tree.Decl.{Decl}
use Rattle.tie_grammar.specs.declared.tree.Decl.TheVariants as d
use Rattle.tie_grammar.specs.declared.tree.Tree.{Tree}
use Rattle.tie_grammar.specs.Spelling as spell
use Rattle.tie_grammar.specs.Spelling.{commas, IsFilled, IsRange, IsParameter, IsItem, IsScheduleItem, IsDecl, IsText}
use Rattle.tie_grammar.specs.Reading.{and_then, first, sees, same, expect, pure, name, number, literal, some_of, any_of, many, to_end}
use Rattle.tie_grammar.specs.Items.{item, schedule_item}
use Rattle.tie_grammar.specs.Decls.{sees_literal, some_literal, maybe_literal, some_minus, maybe_minus, int, parameter, argument, link, state, table, immediate_range, function, operation, schedule, format, slot_opcodes, regfile, queue, decl, decls, text}
use Rattle.tie_grammar.proofs.Readers.{Anywhere}
use Rattle.tie_grammar.proofs.CommaLists.{some_again, any_again, many_again, list_again}
use Rattle.tie_grammar.proofs.Tokens.{Whatever}
use Rattle.tie_grammar.proofs.ItemReads.{item_some, schedule_item_some}
use Rattle.tie_grammar.proofs.DeclReads.{decl_some}
use Rattle.tie_grammar.proofs.ItemAgain.{maybe_range_again, item_again, item_starts, all_whatever, names_again, schedule_item_again, schedule_item_starts}

-- no literal follows, which the state before it would take
abbrev pub Apart : List Symbol → Type 0
Apart rest = sees_literal (first rest) ≡ false

-- ---- parts

literal_again : (x : Literal) (us : List Symbol) → literal (spell.literal x ++ us) ≡ Ok (x, us)
literal_again (l.Number t) us = refl
literal_again (l.Sized t) us = refl

maybe_literal_again : (x : Option Literal) (us : List Symbol) → Apart us → maybe_literal (spell.optional spell.literal x ++ us) ≡ Ok (x, us)
unfolding maybe_literal some_literal
maybe_literal_again None us h = ap (λ b. if b then some_literal us else Ok (None, us)) h
maybe_literal_again (Some (l.Number t)) us h = refl
maybe_literal_again (Some (l.Sized t)) us h = refl

int_by : (p : Option ℕ) (n : Leaf) (us : List Symbol) → int ((spell.optional spell.minus p ++ s.Number n ∷ []) ++ us) ≡ Ok (record { minus = p; number = n }, us)
unfolding int maybe_minus some_minus
int_by None n us = refl
int_by (Some p) n us = refl

int_again : (x : Int) (us : List Symbol) → int (spell.int x ++ us) ≡ Ok (x, us)
int_again x us = int_by x.minus x.number us

parameter_again : (x : Parameter) (us : List Symbol) → IsParameter x → parameter (spell.parameter x ++ us) ≡ Ok (x, us)
unfolding parameter same
parameter_again x us fits =
    ap parameter (append_assoc (spell.maybe_range x.range) (s.Name x.name ∷ []) us)
    ∙ ap (λ z. and_then z (λ r vs. and_then (name vs) (λ n. pure (let p : Parameter = record { range = r; name = n } in p)))) (maybe_range_again x.range (s.Name x.name ∷ us) fits refl)

parameter_starts : (x : Parameter) (us : List Symbol) → sees m.EndParen (spell.parameter x ++ us) ≡ false
unfolding same
parameter_starts x us = by_range x.range
  where
    by_range : (r : Option Range) → sees m.EndParen ((spell.maybe_range r ++ s.Name x.name ∷ []) ++ us) ≡ false
    by_range None = refl
    by_range (Some r) = refl

argument_again : (x : Argument) (us : List Symbol) → argument (spell.argument x ++ us) ≡ Ok (x, us)
unfolding argument
argument_again x us = refl

link_again : (x : Link) (us : List Symbol) → link (spell.link x ++ us) ≡ Ok (x, us)
unfolding link
link_again x us = refl

parameters_again : (xs : List Parameter) (rest : List Symbol) → AllByRecursion IsParameter xs → any_of m.EndParen parameter (commas spell.parameter xs ++ s.Mark m.EndParen ∷ rest) ≡ Ok (xs, s.Mark m.EndParen ∷ rest)
unfolding same
parameters_again xs rest all = any_again spell.parameter IsParameter Anywhere parameter (length (commas spell.parameter xs)) (λ x us f _ _. parameter_again x us f) (λ _. tt) m.EndParen parameter_starts xs (s.Mark m.EndParen ∷ rest) all (omega arith) tt refl refl

arguments_again : (xs : List Argument) (rest : List Symbol) → any_of m.EndBrace argument (commas spell.argument xs ++ s.Mark m.EndBrace ∷ rest) ≡ Ok (xs, s.Mark m.EndBrace ∷ rest)
unfolding same
arguments_again xs rest = any_again spell.argument Whatever Anywhere argument (length (commas spell.argument xs)) (λ x us _ _ _. argument_again x us) (λ _. tt) m.EndBrace (λ x us. refl) xs (s.Mark m.EndBrace ∷ rest) (all_whatever xs) (omega arith) tt refl refl

links_again : (xs : List Link) (rest : List Symbol) → any_of m.EndBrace link (commas spell.link xs ++ s.Mark m.EndBrace ∷ rest) ≡ Ok (xs, s.Mark m.EndBrace ∷ rest)
unfolding same
links_again xs rest = any_again spell.link Whatever Anywhere link (length (commas spell.link xs)) (λ x us _ _ _. link_again x us) (λ _. tt) m.EndBrace (λ x us. refl) xs (s.Mark m.EndBrace ∷ rest) (all_whatever xs) (omega arith) tt refl refl

literals_again : (xs : List Literal) (rest : List Symbol) → IsFilled xs → some_of literal (commas spell.literal xs ++ s.Mark m.EndBrace ∷ rest) ≡ Ok (xs, s.Mark m.EndBrace ∷ rest)
unfolding same
literals_again xs rest filled = some_again spell.literal Whatever Anywhere literal (length (commas spell.literal xs)) (λ x us _ _ _. literal_again x us) (λ _. tt) xs (s.Mark m.EndBrace ∷ rest) filled (all_whatever xs) (omega arith) tt refl

listed_again : (xs : List Leaf) (rest : List Symbol) → IsFilled xs → some_of name (commas spell.name xs ++ s.Mark m.EndBrace ∷ rest) ≡ Ok (xs, s.Mark m.EndBrace ∷ rest)
unfolding same
listed_again xs rest filled = names_again xs (s.Mark m.EndBrace ∷ rest) filled refl

items_again : (size : ℕ) (xs : List Item) (rest : List Symbol) → AllByRecursion IsItem xs → length (flat_map spell.item xs) ≤ size
    → many m.EndBrace (item size) (flat_map spell.item xs ++ s.Mark m.EndBrace ∷ rest) ≡ Ok (xs, s.Mark m.EndBrace ∷ rest)
unfolding same
items_again size xs rest all len = many_again spell.item IsItem Anywhere (item size) size (λ x us f le _. item_again size x us f le) m.EndBrace item_starts item_some (λ _. tt) xs (s.Mark m.EndBrace ∷ rest) all len refl

schedule_items_again : (xs : List ScheduleItem) (rest : List Symbol) → AllByRecursion IsScheduleItem xs
    → many m.EndBrace schedule_item (flat_map spell.schedule_item xs ++ s.Mark m.EndBrace ∷ rest) ≡ Ok (xs, s.Mark m.EndBrace ∷ rest)
unfolding same
schedule_items_again xs rest all = many_again spell.schedule_item IsScheduleItem Anywhere schedule_item (length (flat_map spell.schedule_item xs)) (λ x us f _ _. schedule_item_again x us f) m.EndBrace schedule_item_starts schedule_item_some (λ _. tt) xs (s.Mark m.EndBrace ∷ rest) all (omega arith) refl

end_brace : {A : Type 0} (a : A) (rest : List Symbol) → and_then (expect m.EndBrace (s.Mark m.EndBrace ∷ rest)) (λ _. pure a) ≡ Ok (a, rest)
unfolding same
end_brace a rest = refl

-- ---- declarations

state_again : (x : State) (rest : List Symbol) → Apart rest → state (s.Name x.name ∷ s.Number x.width ∷ (spell.optional spell.literal x.reset ++ rest)) ≡ Ok (d.State x, rest)
unfolding state
state_again x rest h = ap (λ z. and_then z (λ r. pure (d.State (record { name = x.name; width = x.width; reset = r })))) (maybe_literal_again x.reset rest h)

table_again : (x : Table) (rest : List Symbol) → IsFilled x.entries → table (s.Name x.name ∷ s.Number x.width ∷ s.Number x.depth ∷ s.Brace x.brace ∷ (commas spell.literal x.entries ++ s.Mark m.EndBrace ∷ rest)) ≡ Ok (d.Table x, rest)
unfolding table
table_again x rest filled =
    ap (λ z. and_then z (λ xs us. and_then (expect m.EndBrace us) (λ _. pure (d.Table (record { name = x.name; width = x.width; depth = x.depth; brace = x.brace; entries = xs }))))) (literals_again x.entries rest filled)
    ∙ end_brace (d.Table x) rest

immediate_range_again : (x : ImmediateRange) (rest : List Symbol) → immediate_range (s.Name x.name ∷ (spell.int x.low ++ (spell.int x.high ++ s.Number x.step ∷ rest))) ≡ Ok (d.ImmediateRange x, rest)
unfolding immediate_range
immediate_range_again x rest =
    ap (λ z. and_then z (λ low us. and_then (int us) (λ high vs. and_then (number vs) (λ step. pure (d.ImmediateRange (record { name = x.name; low = low; high = high; step = step }))))))
    (int_again x.low (spell.int x.high ++ s.Number x.step ∷ rest))
    ∙ ap (λ z. and_then z (λ high vs. and_then (number vs) (λ step. pure (d.ImmediateRange (record { name = x.name; low = x.low; high = high; step = step }))))) (int_again x.high (s.Number x.step ∷ rest))

format_again : (x : Format) (rest : List Symbol) → IsFilled x.slots → format (s.Name x.name ∷ s.Number x.width ∷ s.Brace x.brace ∷ (commas spell.name x.slots ++ s.Mark m.EndBrace ∷ rest)) ≡ Ok (d.Format x, rest)
unfolding format
format_again x rest filled =
    ap (λ z. and_then z (λ xs us. and_then (expect m.EndBrace us) (λ _. pure (d.Format (record { name = x.name; width = x.width; brace = x.brace; slots = xs }))))) (listed_again x.slots rest filled)
    ∙ end_brace (d.Format x) rest

slot_opcodes_again : (x : SlotOpcodes) (rest : List Symbol) → IsFilled x.opcodes → slot_opcodes (s.Name x.slot ∷ s.Brace x.brace ∷ (commas spell.name x.opcodes ++ s.Mark m.EndBrace ∷ rest)) ≡ Ok (d.SlotOpcodes x, rest)
unfolding slot_opcodes
slot_opcodes_again x rest filled =
    ap (λ z. and_then z (λ xs us. and_then (expect m.EndBrace us) (λ _. pure (d.SlotOpcodes (record { slot = x.slot; brace = x.brace; opcodes = xs }))))) (listed_again x.opcodes rest filled)
    ∙ end_brace (d.SlotOpcodes x) rest

schedule_again : (x : Schedule) (rest : List Symbol) → IsFilled x.operations → AllByRecursion IsScheduleItem x.items
    → schedule (s.Name x.name ∷ s.Brace x.operations_brace ∷ (commas spell.name x.operations ++ s.Mark m.EndBrace ∷ s.Brace x.items_brace ∷ (flat_map spell.schedule_item x.items ++ s.Mark m.EndBrace ∷ rest))) ≡ Ok (d.Schedule x, rest)
unfolding schedule same
schedule_again x rest filled all =
    let body : List Symbol = flat_map spell.schedule_item x.items ++ s.Mark m.EndBrace ∷ rest in
    let a = listed_again x.operations (s.Brace x.items_brace ∷ body) filled in
    let b = schedule_items_again x.items rest all in
    rw a (rw b)

function_again : (size : ℕ) (x : Function) (rest : List Symbol) → IsRange x.range → AllByRecursion IsParameter x.parameters → AllByRecursion IsItem x.items → length (flat_map spell.item x.items) ≤ size
    → function size (spell.maybe_range x.range ++ s.Name x.name ∷ s.Paren x.paren ∷ (commas spell.parameter x.parameters ++ s.Mark m.EndParen ∷ s.Brace x.brace ∷ (flat_map spell.item x.items ++ s.Mark m.EndBrace ∷ rest))) ≡ Ok (d.Function x, rest)
unfolding function same
function_again size x rest fits all body_fits len =
    let body : List Symbol = flat_map spell.item x.items ++ s.Mark m.EndBrace ∷ rest in
    let inside : List Symbol = commas spell.parameter x.parameters ++ s.Mark m.EndParen ∷ s.Brace x.brace ∷ body in
    let a = maybe_range_again x.range (s.Name x.name ∷ s.Paren x.paren ∷ inside) fits refl in
    let b = parameters_again x.parameters (s.Brace x.brace ∷ body) all in
    let c = items_again size x.items rest body_fits len in
    rw a (rw b (rw c))

operation_again : (size : ℕ) (x : Operation) (rest : List Symbol) → AllByRecursion IsItem x.items → length (flat_map spell.item x.items) ≤ size
    → operation size (s.Name x.name ∷ s.Brace x.arguments_brace ∷ (commas spell.argument x.arguments ++ s.Mark m.EndBrace ∷ s.Brace x.links_brace
    ∷ (commas spell.link x.links ++ s.Mark m.EndBrace ∷ s.Brace x.items_brace ∷ (flat_map spell.item x.items ++ s.Mark m.EndBrace ∷ rest)))) ≡ Ok (d.Operation x, rest)
unfolding operation same
operation_again size x rest body_fits len =
    let body : List Symbol = flat_map spell.item x.items ++ s.Mark m.EndBrace ∷ rest in
    let inside : List Symbol = commas spell.link x.links ++ s.Mark m.EndBrace ∷ s.Brace x.items_brace ∷ body in
    let a = arguments_again x.arguments (s.Brace x.links_brace ∷ inside) in
    let b = links_again x.links (s.Brace x.items_brace ∷ body) in
    let c = items_again size x.items rest body_fits len in
    rw a (rw b (rw c))

-- ---- the tail of a declaration, with what stands behind it

tail_one : (xs : List Symbol) (x : Symbol) (rest : List Symbol) → (xs ++ x ∷ []) ++ rest ≡ xs ++ x ∷ rest
tail_one xs x rest = append_assoc xs (x ∷ []) rest

decl_again : (size : ℕ) (x : Decl) (rest : List Symbol) → IsDecl x → length (spell.decl x) ≤ size → Apart rest → decl size (spell.decl x ++ rest) ≡ Ok (x, rest)
unfolding regfile queue
decl_again size (d.State x) rest fits len be = state_again x rest be
decl_again size (d.Regfile x) rest fits len be = refl
decl_again size (d.QueueIn x) rest fits len be = refl
decl_again size (d.QueueOut x) rest fits len be = refl
decl_again size (d.Table x) rest fits len be =
    ap (λ z. table (s.Name x.name ∷ s.Number x.width ∷ s.Number x.depth ∷ s.Brace x.brace ∷ z)) (tail_one (commas spell.literal x.entries) (s.Mark m.EndBrace) rest) ∙ table_again x rest fits
decl_again size (d.ImmediateRange x) rest fits len be =
    ap (λ z. immediate_range (s.Name x.name ∷ z)) (append_assoc (spell.int x.low ++ spell.int x.high) (s.Number x.step ∷ []) rest ∙ append_assoc (spell.int x.low) (spell.int x.high) (s.Number x.step ∷ rest)) ∙ immediate_range_again x rest
decl_again size (d.Function x) rest fits len be =
    let items : List Symbol = flat_map spell.item x.items ++ s.Mark m.EndBrace ∷ [] in
    let behind : List Symbol = commas spell.parameter x.parameters ++ s.Mark m.EndParen ∷ s.Brace x.brace ∷ items in
    let sizes = length-append (spell.maybe_range x.range) (s.Name x.name ∷ s.Paren x.paren ∷ behind) in
    let sizes2 = length-append (commas spell.parameter x.parameters) (s.Mark m.EndParen ∷ s.Brace x.brace ∷ items) in
    let sizes3 = length-append (flat_map spell.item x.items) (s.Mark m.EndBrace ∷ []) in
    ap (function size) (append_assoc (spell.maybe_range x.range) (s.Name x.name ∷ s.Paren x.paren ∷ behind) rest
    ∙ ap (λ z. spell.maybe_range x.range ++ s.Name x.name ∷ s.Paren x.paren ∷ z) (append_assoc (commas spell.parameter x.parameters) (s.Mark m.EndParen ∷ s.Brace x.brace ∷ items) rest
    ∙ ap (λ z. commas spell.parameter x.parameters ++ s.Mark m.EndParen ∷ s.Brace x.brace ∷ z) (tail_one (flat_map spell.item x.items) (s.Mark m.EndBrace) rest)))
    ∙ function_again size x rest fits.0 fits.1 fits.2 (omega arith)
decl_again size (d.Operation x) rest fits len be =
    let items : List Symbol = flat_map spell.item x.items ++ s.Mark m.EndBrace ∷ [] in
    let links : List Symbol = commas spell.link x.links ++ s.Mark m.EndBrace ∷ s.Brace x.items_brace ∷ items in
    let sizes = length-append (commas spell.argument x.arguments) (s.Mark m.EndBrace ∷ s.Brace x.links_brace ∷ links) in
    let sizes2 = length-append (commas spell.link x.links) (s.Mark m.EndBrace ∷ s.Brace x.items_brace ∷ items) in
    let sizes3 = length-append (flat_map spell.item x.items) (s.Mark m.EndBrace ∷ []) in
    ap (λ z. operation size (s.Name x.name ∷ s.Brace x.arguments_brace ∷ z)) (append_assoc (commas spell.argument x.arguments) (s.Mark m.EndBrace ∷ s.Brace x.links_brace ∷ links) rest
    ∙ ap (λ z. commas spell.argument x.arguments ++ s.Mark m.EndBrace ∷ s.Brace x.links_brace ∷ z) (append_assoc (commas spell.link x.links) (s.Mark m.EndBrace ∷ s.Brace x.items_brace ∷ items) rest
    ∙ ap (λ z. commas spell.link x.links ++ s.Mark m.EndBrace ∷ s.Brace x.items_brace ∷ z) (tail_one (flat_map spell.item x.items) (s.Mark m.EndBrace) rest)))
    ∙ operation_again size x rest fits (omega arith)
decl_again size (d.Schedule x) rest fits len be =
    let items : List Symbol = flat_map spell.schedule_item x.items ++ s.Mark m.EndBrace ∷ [] in
    ap (λ z. schedule (s.Name x.name ∷ s.Brace x.operations_brace ∷ z)) (append_assoc (commas spell.name x.operations) (s.Mark m.EndBrace ∷ s.Brace x.items_brace ∷ items) rest
    ∙ ap (λ z. commas spell.name x.operations ++ s.Mark m.EndBrace ∷ s.Brace x.items_brace ∷ z) (tail_one (flat_map spell.schedule_item x.items) (s.Mark m.EndBrace) rest))
    ∙ schedule_again x rest fits.0 fits.1
decl_again size (d.Format x) rest fits len be =
    ap (λ z. format (s.Name x.name ∷ s.Number x.width ∷ s.Brace x.brace ∷ z)) (tail_one (commas spell.name x.slots) (s.Mark m.EndBrace) rest) ∙ format_again x rest fits
decl_again size (d.SlotOpcodes x) rest fits len be =
    ap (λ z. slot_opcodes (s.Name x.slot ∷ s.Brace x.brace ∷ z)) (tail_one (commas spell.name x.opcodes) (s.Mark m.EndBrace) rest) ∙ slot_opcodes_again x rest fits

-- ---- texts

decl_starts : (size : ℕ) (x : Decl) (us : List Symbol) → to_end (decl size) (first (spell.decl x ++ us)) ≡ Some (decl size)
decl_starts size (d.State x) us = refl
decl_starts size (d.Regfile x) us = refl
decl_starts size (d.QueueIn x) us = refl
decl_starts size (d.QueueOut x) us = refl
decl_starts size (d.Table x) us = refl
decl_starts size (d.ImmediateRange x) us = refl
decl_starts size (d.Function x) us = refl
decl_starts size (d.Operation x) us = refl
decl_starts size (d.Schedule x) us = refl
decl_starts size (d.Format x) us = refl
decl_starts size (d.SlotOpcodes x) us = refl

decl_apart : (x : Decl) (us : List Symbol) → Apart (spell.decl x ++ us)
decl_apart (d.State x) us = refl
decl_apart (d.Regfile x) us = refl
decl_apart (d.QueueIn x) us = refl
decl_apart (d.QueueOut x) us = refl
decl_apart (d.Table x) us = refl
decl_apart (d.ImmediateRange x) us = refl
decl_apart (d.Function x) us = refl
decl_apart (d.Operation x) us = refl
decl_apart (d.Schedule x) us = refl
decl_apart (d.Format x) us = refl
decl_apart (d.SlotOpcodes x) us = refl

decls_apart : (xs : List Decl) (us : List Symbol) → Apart us → Apart (flat_map spell.decl xs ++ us)
decls_apart [] us h = h
decls_apart (x ∷ xs) us h = ap (λ z. sees_literal (first z)) (append_assoc (spell.decl x) (flat_map spell.decl xs) us) ∙ decl_apart x (flat_map spell.decl xs ++ us)

decls_again : (size : ℕ) (xs : List Decl) → AllByRecursion IsDecl xs → length (flat_map spell.decl xs) ≤ size → decls size (flat_map spell.decl xs) ≡ Ok (xs, [])
unfolding decls
decls_again size xs all len =
    ap (decls size) (sym (append-nil (flat_map spell.decl xs)))
    ∙ list_again spell.decl IsDecl Apart (to_end (decl size)) (decl size) size (decl_starts size) decls_apart (λ x us f le be. decl_again size x us f le be) decl_some xs [] (length (flat_map spell.decl xs ++ []) + 1) []
    (omega arith) all len refl refl

pub text_again : (size : ℕ) (t : Tree) → IsText t → length (spell.tree t) ≤ size → text size (spell.tree t) ≡ Ok (t, [])
unfolding text
text_again size t fits len = ap (λ z. and_then z (λ xs. pure (let r : Tree = record { declarations = xs } in r))) (decls_again size t.declarations fits len)
