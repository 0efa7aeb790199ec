-- What items, declarations and texts spell is read as them.
use Rattle.std.proofs.Common.{◌≡◌, ℕ, ◌≤◌, false, List, [], ◌∷◌, ◌++◌, length, Option, Some, None, Ok, refl, sym, ap, subst, ◌∙◌, append_assoc, arith, length-append, if◌then◌else◌}
use Rattle.std.specs.List.{AllByRecursion}
use Rattle.tie_grammar.specs.declared.symbol.Leaf.{Leaf}
use Rattle.tie_grammar.specs.declared.symbol.Mark.TheVariants as m
use Rattle.tie_grammar.specs.declared.symbol.StageWord.{StageWord}
use Rattle.tie_grammar.specs.declared.symbol.Symbol.{Symbol}
use Rattle.tie_grammar.specs.declared.symbol.Symbol.TheVariants as s
use Rattle.tie_grammar.specs.declared.tree.Expr.{Expr}
use Rattle.tie_grammar.specs.declared.tree.Range.{Range}
use Rattle.tie_grammar.specs.declared.tree.Item.{Item}
use Rattle.tie_grammar.specs.declared.tree.Item.TheVariants as i
use Rattle.tie_grammar.specs.declared.tree.ScheduleItem.{ScheduleItem}
use Rattle.tie_grammar.specs.declared.tree.ScheduleItem.TheVariants as si
use Rattle.tie_grammar.specs.Spelling as spell
use Rattle.tie_grammar.specs.Spelling.{commas, Groups, IsFilled, IsRange, IsItem, IsScheduleItem}
use Rattle.tie_grammar.specs.Reading.{Parser, and_then, sees, same, expect, pure, branch, name, stage, some_of}
use Rattle.tie_grammar.specs.Exprs.{expr}
use Rattle.tie_grammar.specs.Items.{range, maybe_range, wire_set, wire_of, wire, assign, item, used, defined, schedule_item}
use Rattle.tie_grammar.proofs.Readers.{Anywhere}
use Rattle.tie_grammar.proofs.CommaLists.{some_again}
use Rattle.tie_grammar.proofs.Tokens.{Whatever}
use Rattle.tie_grammar.proofs.ExprAgain.{Stops, mark_stops, expr_again}

range_again : (h : Leaf) (bytes : List ℕ) (place : ℕ) (rest : List Symbol) → bytes ≡ 48 ∷ []
    → range (s.Mark m.Bracket ∷ s.Number h ∷ s.Mark m.Colon ∷ s.Number (record { bytes = bytes; place = place }) ∷ s.Mark m.EndBracket ∷ rest) ≡ Ok (Some (record { high = h; zero = record { bytes = bytes; place = place } }), rest)
unfolding range same
range_again h bytes place rest is = subst (λ b. range (s.Mark m.Bracket ∷ s.Number h ∷ s.Mark m.Colon ∷ s.Number (record { bytes = b; place = place }) ∷ s.Mark m.EndBracket ∷ rest)
    ≡ Ok (Some (record { high = h; zero = record { bytes = b; place = place } }), rest)) (sym is) refl

pub maybe_range_again : (r : Option Range) (rest : List Symbol) → IsRange r → sees m.Bracket rest ≡ false → maybe_range (spell.maybe_range r ++ rest) ≡ Ok (r, rest)
unfolding maybe_range same
maybe_range_again None rest z h = ap (λ b. if b then range rest else Ok (None, rest)) h
maybe_range_again (Some r) rest z h = range_again r.high r.zero.bytes r.zero.place rest z

semicolon_stops : (rest : List Symbol) → Stops 0 (s.Mark m.Semicolon ∷ rest)
unfolding same
semicolon_stops rest = mark_stops 0 m.Semicolon rest refl refl

value_again : (d : ℕ) (x : Expr) (rest : List Symbol) → length (spell.expr x) ≤ d → Groups x → expr d 0 ((spell.expr x ++ s.Mark m.Semicolon ∷ []) ++ rest) ≡ Ok (x, s.Mark m.Semicolon ∷ rest)
value_again d x rest len gr = ap (expr d 0) (append_assoc (spell.expr x) (s.Mark m.Semicolon ∷ []) rest) ∙ expr_again d 0 x (s.Mark m.Semicolon ∷ rest) len gr (omega arith) (semicolon_stops rest)

semicolon : (rest : List Symbol) → expect m.Semicolon (s.Mark m.Semicolon ∷ rest) ≡ Ok (tt, rest)
unfolding same
semicolon rest = refl

wire_set_again : (d : ℕ) (r : Option Range) (t : Leaf) (x : Expr) (rest : List Symbol) → length (spell.expr x) ≤ d → Groups x → wire_set d r t ((spell.expr x ++ s.Mark m.Semicolon ∷ []) ++ rest) ≡ Ok (i.WireSet r t x, rest)
unfolding wire_set
wire_set_again d r t x rest len gr =
    ap (λ z. and_then z (λ y us. and_then (expect m.Semicolon us) (λ _. pure (i.WireSet r t y)))) (value_again d x rest len gr)
    ∙ ap (λ z. and_then z (λ _. pure (i.WireSet r t x))) (semicolon rest)

abbrev named_wire : ℕ → Option Range → Parser Item
named_wire d r ts = and_then (name ts) (λ t. branch (wire_of d r t))

wire_named : (d : ℕ) (r : Option Range) (us : List Symbol) → IsRange r → sees m.Bracket us ≡ false → wire d (spell.maybe_range r ++ us) ≡ named_wire d r us
unfolding wire
wire_named d r us z h = ap (λ z. and_then z (λ r us. named_wire d r us)) (maybe_range_again r us z h)

wire_again : (d : ℕ) (r : Option Range) (t : Leaf) (rest : List Symbol) → IsRange r → wire d ((spell.maybe_range r ++ s.Name t ∷ s.Mark m.Semicolon ∷ []) ++ rest) ≡ Ok (i.Wire r t, rest)
wire_again d r t rest z =
    ap (wire d) (append_assoc (spell.maybe_range r) (s.Name t ∷ s.Mark m.Semicolon ∷ []) rest) ∙ wire_named d r (s.Name t ∷ s.Mark m.Semicolon ∷ rest) z refl

wire_value_again : (d : ℕ) (r : Option Range) (t : Leaf) (x : Expr) (rest : List Symbol) → IsRange r → length (spell.expr x) ≤ d → Groups x
    → wire d ((spell.maybe_range r ++ s.Name t ∷ s.Mark m.Equals ∷ (spell.expr x ++ s.Mark m.Semicolon ∷ [])) ++ rest) ≡ Ok (i.WireSet r t x, rest)
wire_value_again d r t x rest z len gr =
    ap (wire d) (append_assoc (spell.maybe_range r) (s.Name t ∷ s.Mark m.Equals ∷ (spell.expr x ++ s.Mark m.Semicolon ∷ [])) rest)
    ∙ wire_named d r (s.Name t ∷ s.Mark m.Equals ∷ ((spell.expr x ++ s.Mark m.Semicolon ∷ []) ++ rest)) z refl
    ∙ wire_set_again d r t x rest len gr

assign_again : (d : ℕ) (t : Leaf) (x : Expr) (rest : List Symbol) → length (spell.expr x) ≤ d → Groups x
    → assign d (s.Name t ∷ s.Mark m.Equals ∷ ((spell.expr x ++ s.Mark m.Semicolon ∷ []) ++ rest)) ≡ Ok (i.Assign t x, rest)
unfolding assign same
assign_again d t x rest len gr =
    ap (λ z. and_then z (λ y us. and_then (expect m.Semicolon us) (λ _. pure (i.Assign t y)))) (value_again d x rest len gr)
    ∙ ap (λ z. and_then z (λ _. pure (i.Assign t x))) (semicolon rest)

pub item_again : (d : ℕ) (x : Item) (rest : List Symbol) → IsItem x → length (spell.item x) ≤ d → item d (spell.item x ++ rest) ≡ Ok (x, rest)
item_again d (i.Wire r t) rest fits len = wire_again d r t rest fits
item_again d (i.WireSet r t x) rest fits len =
    wire_value_again d r t x rest fits.0 (omega (arith, length-append (spell.maybe_range r) (s.Name t ∷ s.Mark m.Equals ∷ (spell.expr x ++ s.Mark m.Semicolon ∷ [])), length-append (spell.expr x) (s.Mark m.Semicolon ∷ []))) fits.1
item_again d (i.Assign t x) rest fits len = assign_again d t x rest (omega (arith, length-append (spell.expr x) (s.Mark m.Semicolon ∷ []))) fits

pub item_starts : (x : Item) (us : List Symbol) → sees m.EndBrace (spell.item x ++ us) ≡ false
unfolding same
item_starts (i.Wire r t) us = refl
item_starts (i.WireSet r t x) us = refl
item_starts (i.Assign t x) us = refl

-- ---- items of schedules

pub all_whatever : {A : Type 0} (xs : List A) → AllByRecursion Whatever xs
all_whatever [] = tt
all_whatever (x ∷ xs) = (tt, all_whatever xs)

pub names_again : (xs : List Leaf) (rest : List Symbol) → IsFilled xs → sees m.Comma rest ≡ false → some_of name (commas spell.name xs ++ rest) ≡ Ok (xs, rest)
names_again xs rest filled apart = some_again spell.name Whatever Anywhere name (length (commas spell.name xs)) (λ x us _ _ _. refl) (λ _. tt) xs rest filled (all_whatever xs) (omega arith) tt apart

staged : (w : StageWord) (rest : List Symbol) → and_then (stage (s.Stage w ∷ s.Mark m.Semicolon ∷ rest)) (λ v us. and_then (expect m.Semicolon us) (λ _. pure v)) ≡ Ok (w, rest)
unfolding same
staged w rest = refl

used_again : (xs : List Leaf) (w : StageWord) (rest : List Symbol) → IsFilled xs → used (commas spell.name xs ++ s.Stage w ∷ s.Mark m.Semicolon ∷ rest) ≡ Ok (si.Use xs w, rest)
unfolding used same
used_again xs w rest filled = ap (λ z. and_then z (λ ys us. and_then (stage us) (λ v vs. and_then (expect m.Semicolon vs) (λ _. pure (si.Use ys v))))) (names_again xs (s.Stage w ∷ s.Mark m.Semicolon ∷ rest) filled refl)

defined_again : (xs : List Leaf) (w : StageWord) (rest : List Symbol) → IsFilled xs → defined (commas spell.name xs ++ s.Stage w ∷ s.Mark m.Semicolon ∷ rest) ≡ Ok (si.Def xs w, rest)
unfolding defined same
defined_again xs w rest filled = ap (λ z. and_then z (λ ys us. and_then (stage us) (λ v vs. and_then (expect m.Semicolon vs) (λ _. pure (si.Def ys v))))) (names_again xs (s.Stage w ∷ s.Mark m.Semicolon ∷ rest) filled refl)

pub schedule_item_again : (x : ScheduleItem) (rest : List Symbol) → IsScheduleItem x → schedule_item (spell.schedule_item x ++ rest) ≡ Ok (x, rest)
schedule_item_again (si.Use xs w) rest filled = ap used (append_assoc (commas spell.name xs) (s.Stage w ∷ s.Mark m.Semicolon ∷ []) rest) ∙ used_again xs w rest filled
schedule_item_again (si.Def xs w) rest filled = ap defined (append_assoc (commas spell.name xs) (s.Stage w ∷ s.Mark m.Semicolon ∷ []) rest) ∙ defined_again xs w rest filled

pub schedule_item_starts : (x : ScheduleItem) (us : List Symbol) → sees m.EndBrace (spell.schedule_item x ++ us) ≡ false
unfolding same
schedule_item_starts (si.Use xs w) us = refl
schedule_item_starts (si.Def xs w) us = refl
