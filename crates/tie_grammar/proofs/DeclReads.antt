-- Declarations and texts are read as they are spelled.
use Rattle.std.proofs.Common.{◌≡◌, ℕ, ◌+◌, ◌≤◌, ◌<◌, List, [], ◌∷◌, ◌++◌, length, Some, None, refl, sym, ap, ap₂, ◌∙◌, append_assoc, append-nil, arith}
use Rattle.std.specs.List.{flat_map, AllByRecursion}
use Rattle.tie_grammar.specs.declared.symbol.Leaf.{Leaf}
use Rattle.tie_grammar.specs.declared.symbol.Mark.{Mark}
use Rattle.tie_grammar.specs.declared.symbol.Mark.TheVariants as m
use Rattle.tie_grammar.specs.declared.symbol.Direction.TheVariants as way
use Rattle.tie_grammar.specs.declared.symbol.Symbol.{Symbol}
use Rattle.tie_grammar.specs.declared.symbol.Symbol.TheVariants as s
use Rattle.tie_grammar.specs.declared.tree.Literal.TheVariants as l
use Rattle.tie_grammar.specs.declared.tree.Decl.{Decl}
use Rattle.tie_grammar.specs.declared.tree.Decl.TheVariants as d
use Rattle.tie_grammar.specs.Spelling as spell
use Rattle.tie_grammar.specs.Spelling.{IsRange, IsParameter, IsItem, IsScheduleItem, IsDecl, IsText}
use Rattle.tie_grammar.specs.Reading.{first, pure, name, name_of, number_of, literal, literal_of, paren_of, brace_of, direction_of, some_of, any_of, many, to_end}
use Rattle.tie_grammar.specs.Exprs.{expr}
use Rattle.tie_grammar.specs.Items.{maybe_range, item, schedule_item}
use Rattle.tie_grammar.specs.Decls.{sees_literal, some_literal, maybe_literal, minus_of, sees_minus, some_minus, maybe_minus, int, parameter, argument, link, state, regfile, queue_of, queue, table, immediate_range, function, operation, schedule, format, slot_opcodes, decl_by, decl_of, decl, decls, text}
use Rattle.tie_grammar.proofs.Readers.{Reads, Anywhere, Pairs, reads_bind, reads_pure, reads_either, reads_branch, reads_mark, reads_token, reads_one, reads_says, reads_again, reads_ends}
use Rattle.tie_grammar.proofs.CommaLists.{Spelled, Listed, Filled, Grown, Step, Lists, Over, reads_list, some_reads, any_reads, many_reads}
use Rattle.tie_grammar.proofs.Tokens.{Whatever, no_leaf, is_name, is_number, is_literal, is_paren, is_brace, is_direction, minus, is_minus}
use Rattle.tie_grammar.proofs.ExprReads.{Inner}
use Rattle.tie_grammar.proofs.ItemReads.{maybe_range_reads, names_reads, item_reads, item_some, schedule_item_reads, schedule_item_some}

-- ---- parts

literal_reads : (ts : List Symbol) → Reads (λ us x. literal us ≡ x) (Spelled spell.literal Whatever) Anywhere ts (literal ts)
literal_reads ts = reads_one (Spelled spell.literal Whatever) Anywhere literal_of ts
    (λ x after t _ h. (record { is = is_literal x t h; fits = tt }, tt)) (l.Number no_leaf) (s.Number no_leaf ∷ []) (record { is = refl; fits = tt })

some_literal_reads : (ts : List Symbol) → Reads (λ us x. some_literal us ≡ x) (Spelled (spell.optional spell.literal) Whatever) Anywhere ts (some_literal ts)
unfolding some_literal
some_literal_reads ts =
    reads_bind (Spelled spell.literal Whatever) Anywhere _ Anywhere literal _ _ ts (literal ts) (literal_reads ts) tt (λ x front us _ sp _.
    reads_pure _ Anywhere (Some x) us (record { is = sp.is ∙ sym (append-nil front); fits = tt }) tt)

maybe_literal_reads : (ts : List Symbol) → Reads (λ us x. maybe_literal us ≡ x) (Spelled (spell.optional spell.literal) Whatever) Anywhere ts (maybe_literal ts)
unfolding maybe_literal
maybe_literal_reads ts = reads_either (Spelled (spell.optional spell.literal) Whatever) Anywhere sees_literal some_literal (pure None) some_literal (pure None) ts
    (λ _. some_literal_reads ts) (λ _. reads_pure (Spelled (spell.optional spell.literal) Whatever) Anywhere None ts (record { is = refl; fits = tt }) tt)

some_minus_reads : (ts : List Symbol) → Reads (λ us x. some_minus us ≡ x) (Spelled (spell.optional spell.minus) Whatever) Anywhere ts (some_minus ts)
unfolding some_minus
some_minus_reads ts =
    reads_token _ Anywhere minus_of minus Whatever is_minus 0 tt _ _ ts (λ p us _ _.
    reads_pure _ Anywhere (Some p) us (record { is = refl; fits = tt }) tt)

maybe_minus_reads : (ts : List Symbol) → Reads (λ us x. maybe_minus us ≡ x) (Spelled (spell.optional spell.minus) Whatever) Anywhere ts (maybe_minus ts)
unfolding maybe_minus
maybe_minus_reads ts = reads_either (Spelled (spell.optional spell.minus) Whatever) Anywhere sees_minus some_minus (pure None) some_minus (pure None) ts
    (λ _. some_minus_reads ts) (λ _. reads_pure (Spelled (spell.optional spell.minus) Whatever) Anywhere None ts (record { is = refl; fits = tt }) tt)

int_reads : (ts : List Symbol) → Reads (λ us x. int us ≡ x) (Spelled spell.int Whatever) Anywhere ts (int ts)
unfolding int
int_reads ts =
    reads_bind (Spelled (spell.optional spell.minus) Whatever) Anywhere _ Anywhere maybe_minus _ _ ts (maybe_minus ts) (maybe_minus_reads ts) tt (λ p front us _ sp _.
    reads_token _ Anywhere number_of s.Number Whatever is_number no_leaf tt _ _ us (λ n us _ _.
    reads_pure _ Anywhere (record { minus = p; number = n }) us (record { is = ap (λ z. z ++ s.Number n ∷ []) sp.is; fits = tt }) tt))

parameter_reads : (ts : List Symbol) → Reads (λ us x. parameter us ≡ x) (Spelled spell.parameter IsParameter) Anywhere ts (parameter ts)
unfolding parameter
parameter_reads ts =
    reads_bind (Spelled spell.maybe_range IsRange) Anywhere _ Anywhere maybe_range _ _ ts (maybe_range ts) (maybe_range_reads ts) tt (λ r front us _ sp _.
    reads_token _ Anywhere name_of s.Name Whatever is_name no_leaf tt _ _ us (λ n us _ _.
    reads_pure _ Anywhere (record { range = r; name = n }) us (record { is = ap (λ z. z ++ s.Name n ∷ []) sp.is; fits = sp.fits }) tt))

argument_reads : (ts : List Symbol) → Reads (λ us x. argument us ≡ x) (Spelled spell.argument Whatever) Anywhere ts (argument ts)
unfolding argument
argument_reads ts =
    reads_token _ Anywhere direction_of s.Direction Whatever is_direction way.In tt _ _ ts (λ w us _ _.
    reads_token _ Anywhere name_of s.Name Whatever is_name no_leaf tt _ _ us (λ k us _ _.
    reads_token _ Anywhere name_of s.Name Whatever is_name no_leaf tt _ _ us (λ n us _ _.
    reads_pure _ Anywhere (record { direction = w; kind = k; name = n }) us (record { is = refl; fits = tt }) tt)))

link_reads : (ts : List Symbol) → Reads (λ us x. link us ≡ x) (Spelled spell.link Whatever) Anywhere ts (link ts)
unfolding link
link_reads ts =
    reads_token _ Anywhere direction_of s.Direction Whatever is_direction way.In tt _ _ ts (λ w us _ _.
    reads_token _ Anywhere name_of s.Name Whatever is_name no_leaf tt _ _ us (λ n us _ _.
    reads_pure _ Anywhere (record { direction = w; name = n }) us (record { is = refl; fits = tt }) tt))

-- ---- declarations, each behind its word

abbrev IsAt : Decl → List Symbol → Type 0
IsAt = Spelled spell.decl IsDecl

state_reads : (ts : List Symbol) → Reads (λ us x. state us ≡ x) (λ b fr. IsAt b (s.Mark m.State ∷ fr)) Anywhere ts (state ts)
unfolding state
state_reads ts =
    reads_token _ Anywhere name_of s.Name Whatever is_name no_leaf tt _ _ ts (λ n us _ _.
    reads_token _ Anywhere number_of s.Number Whatever is_number no_leaf tt _ _ us (λ w us _ _.
    reads_bind (Spelled (spell.optional spell.literal) Whatever) Anywhere _ Anywhere maybe_literal _ _ us (maybe_literal us) (maybe_literal_reads us) tt (λ r front us _ sp _.
    reads_pure _ Anywhere (d.State (record { name = n; width = w; reset = r })) us
    (record { is = ap (λ z. s.Mark m.State ∷ s.Name n ∷ s.Number w ∷ z) (sp.is ∙ sym (append-nil front)); fits = tt }) tt)))

regfile_reads : (ts : List Symbol) → Reads (λ us x. regfile us ≡ x) (λ b fr. IsAt b (s.Mark m.Regfile ∷ fr)) Anywhere ts (regfile ts)
unfolding regfile
regfile_reads ts =
    reads_token _ Anywhere name_of s.Name Whatever is_name no_leaf tt _ _ ts (λ n us _ _.
    reads_token _ Anywhere number_of s.Number Whatever is_number no_leaf tt _ _ us (λ w us _ _.
    reads_token _ Anywhere number_of s.Number Whatever is_number no_leaf tt _ _ us (λ k us _ _.
    reads_token _ Anywhere name_of s.Name Whatever is_name no_leaf tt _ _ us (λ short us _ _.
    reads_pure _ Anywhere (d.Regfile (record { name = n; width = w; depth = k; short = short })) us (record { is = refl; fits = tt }) tt))))

queue_reads : (ts : List Symbol) → Reads (λ us x. queue us ≡ x) (λ b fr. IsAt b (s.Mark m.Queue ∷ fr)) Anywhere ts (queue ts)
unfolding queue
queue_reads ts =
    reads_token _ Anywhere name_of s.Name Whatever is_name no_leaf tt _ _ ts (λ n us _ _.
    reads_token _ Anywhere number_of s.Number Whatever is_number no_leaf tt _ _ us (λ w us _ _.
    reads_branch _ Anywhere (queue_of n w) (queue_of n w) us (pairs n w us) (d.QueueIn (record { name = n; width = w })) (s.Direction way.In ∷ []) (record { is = refl; fits = tt })))
  where
    pairs : (n w : Leaf) (us : List Symbol) → (x : Symbol) (after : List Symbol) → us ≡ x ∷ after
        → Pairs (λ b fr. IsAt b (s.Mark m.Queue ∷ s.Name n ∷ s.Number w ∷ fr)) Anywhere x after (queue_of n w x) (queue_of n w x)
    pairs n w us (s.Direction way.In) after h = reads_pure (λ b fr. IsAt b (s.Mark m.Queue ∷ s.Name n ∷ s.Number w ∷ s.Direction way.In ∷ fr)) Anywhere (d.QueueIn (record { name = n; width = w })) after (record { is = refl; fits = tt }) tt
    pairs n w us (s.Direction way.Out) after h = reads_pure (λ b fr. IsAt b (s.Mark m.Queue ∷ s.Name n ∷ s.Number w ∷ s.Direction way.Out ∷ fr)) Anywhere (d.QueueOut (record { name = n; width = w })) after (record { is = refl; fits = tt }) tt
    pairs n w us _ after h = tt

table_reads : (ts : List Symbol) → Reads (λ us x. table us ≡ x) (λ b fr. IsAt b (s.Mark m.Table ∷ fr)) Anywhere ts (table ts)
unfolding table
table_reads ts =
    reads_token _ Anywhere name_of s.Name Whatever is_name no_leaf tt _ _ ts (λ n us _ _.
    reads_token _ Anywhere number_of s.Number Whatever is_number no_leaf tt _ _ us (λ w us _ _.
    reads_token _ Anywhere number_of s.Number Whatever is_number no_leaf tt _ _ us (λ k us _ _.
    reads_token _ Anywhere brace_of s.Brace Whatever is_brace 0 tt _ _ us (λ p us _ _.
    reads_bind (Filled spell.literal Whatever) Anywhere _ Anywhere (some_of literal) _ _ us (some_of literal us)
    (some_reads spell.literal Whatever literal literal (length us) (λ vs _. literal_reads vs) us (omega arith)) tt (λ xs front us _ li _.
    reads_mark _ Anywhere m.EndBrace _ _ us (λ us _.
    reads_pure _ Anywhere (d.Table (record { name = n; width = w; depth = k; brace = p; entries = xs })) us
    (record { is = ap (λ z. s.Mark m.Table ∷ s.Name n ∷ s.Number w ∷ s.Number k ∷ s.Brace p ∷ (z ++ s.Mark m.EndBrace ∷ [])) li.is; fits = li.filled }) tt))))))

immediate_range_reads : (ts : List Symbol) → Reads (λ us x. immediate_range us ≡ x) (λ b fr. IsAt b (s.Mark m.ImmediateRange ∷ fr)) Anywhere ts (immediate_range ts)
unfolding immediate_range
immediate_range_reads ts =
    reads_token _ Anywhere name_of s.Name Whatever is_name no_leaf tt _ _ ts (λ n us _ _.
    reads_bind (Spelled spell.int Whatever) Anywhere _ Anywhere int _ _ us (int us) (int_reads us) tt (λ low fa us _ sa _.
    reads_bind (Spelled spell.int Whatever) Anywhere _ Anywhere int _ _ us (int us) (int_reads us) tt (λ high fb us _ sb _.
    reads_token _ Anywhere number_of s.Number Whatever is_number no_leaf tt _ _ us (λ step us _ _.
    reads_pure _ Anywhere (d.ImmediateRange (record { name = n; low = low; high = high; step = step })) us
    (record { is = ap₂ (λ a b. s.Mark m.ImmediateRange ∷ s.Name n ∷ (a ++ b ++ s.Number step ∷ [])) sa.is sb.is ∙ ap (λ z. s.Mark m.ImmediateRange ∷ s.Name n ∷ z) (append_assoc fa fb (s.Number step ∷ [])); fits = tt }) tt))))

module _ (size more : ℕ) (inner : Inner (expr size) (expr more) size) where
  items_reads : (ts : List Symbol) → length ts ≤ size → Reads (λ us x. many m.EndBrace (item more) us ≡ x) (Spelled (flat_map spell.item) (AllByRecursion IsItem)) Anywhere ts (many m.EndBrace (item size) ts)
  items_reads ts len = many_reads spell.item IsItem (item size) (item more) size (item_reads size more inner) m.EndBrace item_some ts len

  function_reads : (ts : List Symbol) → length ts ≤ size → Reads (λ us x. function more us ≡ x) (λ b fr. IsAt b (s.Mark m.Function ∷ fr)) Anywhere ts (function size ts)
  unfolding function
  function_reads ts len =
      reads_bind (Spelled spell.maybe_range IsRange) Anywhere _ Anywhere maybe_range _ _ ts (maybe_range ts) (maybe_range_reads ts) tt (λ r fr us l1 sr _.
      reads_token _ Anywhere name_of s.Name Whatever is_name no_leaf tt _ _ us (λ n us l2 _.
      reads_token _ Anywhere paren_of s.Paren Whatever is_paren 0 tt _ _ us (λ p us l3 _.
      reads_bind (Listed spell.parameter IsParameter) Anywhere _ Anywhere (any_of m.EndParen parameter) _ _ us (any_of m.EndParen parameter us)
      (any_reads spell.parameter IsParameter parameter parameter (length us) (λ vs _. parameter_reads vs) m.EndParen us (omega arith)) tt (λ xs fx us l4 lx _.
      reads_mark _ Anywhere m.EndParen _ _ us (λ us l5.
      reads_token _ Anywhere brace_of s.Brace Whatever is_brace 0 tt _ _ us (λ q us l6 _.
      reads_bind (Spelled (flat_map spell.item) (AllByRecursion IsItem)) Anywhere _ Anywhere (many m.EndBrace (item more)) _ _ us (many m.EndBrace (item size) us) (items_reads us (omega arith)) tt (λ body fi us l7 si _.
      reads_mark _ Anywhere m.EndBrace _ _ us (λ us l8.
      reads_pure _ Anywhere (d.Function (record { range = r; name = n; paren = p; parameters = xs; brace = q; items = body })) us
      (record {
        is = ap (λ z. s.Mark m.Function ∷ (z ++ s.Name n ∷ s.Paren p ∷ (spell.commas spell.parameter xs ++ s.Mark m.EndParen ∷ s.Brace q ∷ (flat_map spell.item body ++ s.Mark m.EndBrace ∷ [])))) sr.is
            ∙ ap₂ (λ a b. s.Mark m.Function ∷ (fr ++ s.Name n ∷ s.Paren p ∷ (a ++ s.Mark m.EndParen ∷ s.Brace q ∷ (b ++ s.Mark m.EndBrace ∷ [])))) lx.is si.is;
        fits = (sr.fits, lx.fits, si.fits);
      }) tt))))))))

  operation_reads : (ts : List Symbol) → length ts ≤ size → Reads (λ us x. operation more us ≡ x) (λ b fr. IsAt b (s.Mark m.Operation ∷ fr)) Anywhere ts (operation size ts)
  unfolding operation
  operation_reads ts len =
      reads_token _ Anywhere name_of s.Name Whatever is_name no_leaf tt _ _ ts (λ n us l1 _.
      reads_token _ Anywhere brace_of s.Brace Whatever is_brace 0 tt _ _ us (λ p us l2 _.
      reads_bind (Listed spell.argument Whatever) Anywhere _ Anywhere (any_of m.EndBrace argument) _ _ us (any_of m.EndBrace argument us)
      (any_reads spell.argument Whatever argument argument (length us) (λ vs _. argument_reads vs) m.EndBrace us (omega arith)) tt (λ xs fx us l3 lx _.
      reads_mark _ Anywhere m.EndBrace _ _ us (λ us l4.
      reads_token _ Anywhere brace_of s.Brace Whatever is_brace 0 tt _ _ us (λ q us l5 _.
      reads_bind (Listed spell.link Whatever) Anywhere _ Anywhere (any_of m.EndBrace link) _ _ us (any_of m.EndBrace link us)
      (any_reads spell.link Whatever link link (length us) (λ vs _. link_reads vs) m.EndBrace us (omega arith)) tt (λ ys fy us l6 ly _.
      reads_mark _ Anywhere m.EndBrace _ _ us (λ us l7.
      reads_token _ Anywhere brace_of s.Brace Whatever is_brace 0 tt _ _ us (λ r us l8 _.
      reads_bind (Spelled (flat_map spell.item) (AllByRecursion IsItem)) Anywhere _ Anywhere (many m.EndBrace (item more)) _ _ us (many m.EndBrace (item size) us) (items_reads us (omega arith)) tt (λ body fi us l9 si _.
      reads_mark _ Anywhere m.EndBrace _ _ us (λ us l10.
      reads_pure _ Anywhere (d.Operation (record { name = n; arguments_brace = p; arguments = xs; links_brace = q; links = ys; items_brace = r; items = body })) us
      (record {
        is = ap (λ z. s.Mark m.Operation ∷ s.Name n ∷ s.Brace p ∷ (z ++ s.Mark m.EndBrace ∷ s.Brace q ∷ (spell.commas spell.link ys ++ s.Mark m.EndBrace ∷ s.Brace r ∷ (flat_map spell.item body ++ s.Mark m.EndBrace ∷ [])))) lx.is
            ∙ ap₂ (λ a b. s.Mark m.Operation ∷ s.Name n ∷ s.Brace p ∷ (fx ++ s.Mark m.EndBrace ∷ s.Brace q ∷ (a ++ s.Mark m.EndBrace ∷ s.Brace r ∷ (b ++ s.Mark m.EndBrace ∷ [])))) ly.is si.is;
        fits = si.fits;
      }) tt))))))))))

schedule_reads : (ts : List Symbol) → Reads (λ us x. schedule us ≡ x) (λ b fr. IsAt b (s.Mark m.Schedule ∷ fr)) Anywhere ts (schedule ts)
unfolding schedule
schedule_reads ts =
    reads_token _ Anywhere name_of s.Name Whatever is_name no_leaf tt _ _ ts (λ n us _ _.
    reads_token _ Anywhere brace_of s.Brace Whatever is_brace 0 tt _ _ us (λ p us _ _.
    reads_bind (Filled spell.name Whatever) Anywhere _ Anywhere (some_of name) _ _ us (some_of name us) (names_reads us) tt (λ xs fx us _ lx _.
    reads_mark _ Anywhere m.EndBrace _ _ us (λ us _.
    reads_token _ Anywhere brace_of s.Brace Whatever is_brace 0 tt _ _ us (λ q us _ _.
    reads_bind (Spelled (flat_map spell.schedule_item) (AllByRecursion IsScheduleItem)) Anywhere _ Anywhere (many m.EndBrace schedule_item) _ _ us (many m.EndBrace schedule_item us)
    (many_reads spell.schedule_item IsScheduleItem schedule_item schedule_item (length us) (λ vs _. schedule_item_reads vs) m.EndBrace schedule_item_some us (omega arith)) tt (λ body fi us _ si _.
    reads_mark _ Anywhere m.EndBrace _ _ us (λ us _.
    reads_pure _ Anywhere (d.Schedule (record { name = n; operations_brace = p; operations = xs; items_brace = q; items = body })) us
    (record {
      is = ap₂ (λ a b. s.Mark m.Schedule ∷ s.Name n ∷ s.Brace p ∷ (a ++ s.Mark m.EndBrace ∷ s.Brace q ∷ (b ++ s.Mark m.EndBrace ∷ []))) lx.is si.is;
      fits = (lx.filled, si.fits);
    }) tt)))))))

format_reads : (ts : List Symbol) → Reads (λ us x. format us ≡ x) (λ b fr. IsAt b (s.Mark m.Format ∷ fr)) Anywhere ts (format ts)
unfolding format
format_reads ts =
    reads_token _ Anywhere name_of s.Name Whatever is_name no_leaf tt _ _ ts (λ n us _ _.
    reads_token _ Anywhere number_of s.Number Whatever is_number no_leaf tt _ _ us (λ w us _ _.
    reads_token _ Anywhere brace_of s.Brace Whatever is_brace 0 tt _ _ us (λ p us _ _.
    reads_bind (Filled spell.name Whatever) Anywhere _ Anywhere (some_of name) _ _ us (some_of name us) (names_reads us) tt (λ xs fx us _ lx _.
    reads_mark _ Anywhere m.EndBrace _ _ us (λ us _.
    reads_pure _ Anywhere (d.Format (record { name = n; width = w; brace = p; slots = xs })) us
    (record { is = ap (λ z. s.Mark m.Format ∷ s.Name n ∷ s.Number w ∷ s.Brace p ∷ (z ++ s.Mark m.EndBrace ∷ [])) lx.is; fits = lx.filled }) tt)))))

slot_opcodes_reads : (ts : List Symbol) → Reads (λ us x. slot_opcodes us ≡ x) (λ b fr. IsAt b (s.Mark m.SlotOpcodes ∷ fr)) Anywhere ts (slot_opcodes ts)
unfolding slot_opcodes
slot_opcodes_reads ts =
    reads_token _ Anywhere name_of s.Name Whatever is_name no_leaf tt _ _ ts (λ n us _ _.
    reads_token _ Anywhere brace_of s.Brace Whatever is_brace 0 tt _ _ us (λ p us _ _.
    reads_bind (Filled spell.name Whatever) Anywhere _ Anywhere (some_of name) _ _ us (some_of name us) (names_reads us) tt (λ xs fx us _ lx _.
    reads_mark _ Anywhere m.EndBrace _ _ us (λ us _.
    reads_pure _ Anywhere (d.SlotOpcodes (record { slot = n; brace = p; opcodes = xs })) us
    (record { is = ap (λ z. s.Mark m.SlotOpcodes ∷ s.Name n ∷ s.Brace p ∷ (z ++ s.Mark m.EndBrace ∷ [])) lx.is; fits = lx.filled }) tt))))

-- ---- texts

some_queue : Decl
some_queue = d.QueueIn (record { name = no_leaf; width = no_leaf })

pub decl_some : (x : Decl) → 0 < length (spell.decl x)
decl_some (d.State x) = omega arith
decl_some (d.Regfile x) = omega arith
decl_some (d.QueueIn x) = omega arith
decl_some (d.QueueOut x) = omega arith
decl_some (d.Table x) = omega arith
decl_some (d.ImmediateRange x) = omega arith
decl_some (d.Function x) = omega arith
decl_some (d.Operation x) = omega arith
decl_some (d.Schedule x) = omega arith
decl_some (d.Format x) = omega arith
decl_some (d.SlotOpcodes x) = omega arith

module _ (size more : ℕ) (inner : Inner (expr size) (expr more) size) where
  decl_reads : (ts : List Symbol) → length ts ≤ size → Reads (λ us x. decl more us ≡ x) IsAt Anywhere ts (decl size ts)
  unfolding some_queue
  decl_reads ts len = reads_branch IsAt Anywhere (decl_of size) (decl_of more) ts pairs some_queue (spell.decl some_queue) (record { is = refl; fits = tt })
    where
      by_mark : (k : Mark) (after : List Symbol) → length after ≤ size → Pairs IsAt Anywhere (s.Mark k) after (decl_by size k) (decl_by more k)
      by_mark m.State after le = state_reads after
      by_mark m.Regfile after le = regfile_reads after
      by_mark m.Queue after le = queue_reads after
      by_mark m.Table after le = table_reads after
      by_mark m.ImmediateRange after le = immediate_range_reads after
      by_mark m.Function after le = function_reads size more inner after le
      by_mark m.Operation after le = operation_reads size more inner after le
      by_mark m.Schedule after le = schedule_reads after
      by_mark m.Format after le = format_reads after
      by_mark m.SlotOpcodes after le = slot_opcodes_reads after
      by_mark _ after le = tt

      pairs : (x : Symbol) (after : List Symbol) → ts ≡ x ∷ after → Pairs IsAt Anywhere x after (decl_of size x) (decl_of more x)
      pairs (s.Mark k) after h = by_mark k after (omega (arith, ap length h))
      pairs _ after h = tt

  decls_reads : (ts : List Symbol) → length ts ≤ size → Reads (λ us x. decls more us ≡ x) (Spelled (flat_map spell.decl) (AllByRecursion IsDecl)) (λ us. us ≡ []) ts (decls size ts)
  unfolding decls
  decls_reads ts len =
      reads_ends _ _ (Over spell.decl IsDecl (to_end (decl size)) (to_end (decl more)) size steps decl_some) (λ us. us ≡ []) ts _ at_end
      (reads_again (Lists spell.decl IsDecl (to_end (decl size)) (to_end (decl more)) size steps decl_some []) _ _ _ ts _ (λ vs y h. h (length vs + 1) (omega arith))
      (reads_says (Lists spell.decl IsDecl (to_end (decl size)) (to_end (decl more)) size steps decl_some []) (Grown spell.decl IsDecl []) (Spelled (flat_map spell.decl) (AllByRecursion IsDecl)) _ ts _
      (λ b fr g. record { is = g.is; fits = g.fits })
      (reads_list spell.decl IsDecl (to_end (decl size)) (to_end (decl more)) size steps decl_some (length ts + 1) [] ts (omega arith) len tt)))
    where
      at_end : (us : List Symbol) → to_end (decl size) (first us) ≡ None → us ≡ []
      at_end [] h = refl
      at_end (x ∷ us) h = absurd cc

      steps : (us : List Symbol) → length us ≤ size → Step spell.decl IsDecl (to_end (decl size) (first us)) (to_end (decl more) (first us)) us
      steps [] len = tt
      steps (x ∷ us) len = decl_reads (x ∷ us) len

  pub text_reads : (ts : List Symbol) → length ts ≤ size → Reads (λ us x. text more us ≡ x) (Spelled spell.tree IsText) (λ us. us ≡ []) ts (text size ts)
  unfolding text
  text_reads ts len =
      reads_bind (Spelled (flat_map spell.decl) (AllByRecursion IsDecl)) (λ us. us ≡ []) (Spelled spell.tree IsText) (λ us. us ≡ []) (decls more) _ _ ts (decls size ts) (decls_reads ts len) refl (λ xs front us _ sp over.
      reads_pure _ (λ us. us ≡ []) (record { declarations = xs }) us (record { is = sp.is ∙ sym (append-nil front); fits = sp.fits }) over)
