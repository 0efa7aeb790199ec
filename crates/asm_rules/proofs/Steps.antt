-- One step of each search and each list.
use Rattle.std.proofs.Common.{◌≡◌, ℕ, zero, suc, ◌+◌, ◌≤◌, ◌<◌, Bool, true, false, cond, List, [], ◌∷◌, ◌++◌, length, take, drop, get_or, refl, arith, sym, ap, Option, Some, None, ◌∙◌, append_assoc}
use Rattle.std.specs.Prelude.{slice_get, nat_le}
use Rattle.std.specs.Option.{option_map}
use Rattle.std.specs.List.{flat_map, list_any}
use Rattle.std.proofs.Math.Seq.{drop-cons}
use Rattle.tie_desc.specs.Description.{Description}
use Rattle.tie_desc.specs.declared.declarations.Access.{Access}
use Rattle.tie_desc.specs.declared.formats.SlotDecl.{SlotDecl}
use Rattle.asm_lines.specs.Tokens.{Fault}
use Rattle.asm_lines.specs.declared.refusal.AsmRule.{AsmRule}
use Rattle.asm_lines.specs.declared.refusal.AsmRule.TheVariants as rule
use Rattle.asm_lines.specs.declared.line.Operand.{Operand}
use Rattle.asm_lines.specs.declared.line.Operation.{Operation}
use Rattle.asm_lines.specs.declared.line.Line.{Line}
use Rattle.asm_rules.specs.declared.expected.Expected.{Expected}
use Rattle.asm_rules.specs.Operands.{Find, Judge, column_of, reaches}
use Rattle.asm_rules.specs.Labels.{size, addresses, label_from, is_label}
use Rattle.asm_rules.specs.Slots.{code_in, written_in, written_by}
use Rattle.asm_rules.specs.Rules.{or_else, unless, first_in, judged, lists, unlisted_in, breach, fault_at, breach_from, breach_by, long_from, begins_at, unreached_in, judged_in}

-- the list from a place on
pub next : {A : Type 0} (xs : List A) (i : ℕ) (d : A) → i < length xs → drop i xs ≡ get_or xs i d ∷ drop (i + 1) xs
next xs i d h = drop-cons xs i d h ∙ ap (λ n. get_or xs i d ∷ drop n xs) (one i)
  where
    one : (i : ℕ) → suc i ≡ i + 1
    one i = omega arith

pub got : {A : Type 0} (xs : List A) (i : ℕ) (x : A) → slice_get xs i ≡ Some x → drop i xs ≡ x ∷ drop (i + 1) xs
got [] i x h = absurd (no h)
  where
    no : {A : Type 0} {x : A} → None ≡ Some x → ⊥
    no h = cc
got (y ∷ xs) zero x h = ap (λ z. z ∷ xs) same
  where
    same : y ≡ x
    same = cc
got (y ∷ xs) (suc i) x h = got xs i x h ∙ ap (λ n. x ∷ drop n (y ∷ xs)) (one i)
  where
    one : (i : ℕ) → suc (i + 1) ≡ suc i + 1
    one i = omega arith

pub none : {A : Type 0} (xs : List A) (i : ℕ) → slice_get xs i ≡ None → drop i xs ≡ []
none [] zero h = refl
none [] (suc i) h = refl
none (x ∷ xs) zero h = absurd (no h)
  where
    no : {A : Type 0} {x : A} → Some x ≡ None → ⊥
    no h = cc
none (x ∷ xs) (suc i) h = none xs i h

done : {A : Type 0} (xs : List A) (i : ℕ) → length xs ≤ i → drop i xs ≡ []
done [] zero h = refl
done [] (suc i) h = refl
done (x ∷ xs) zero h = absurd (omega arith)
done (x ∷ xs) (suc i) h = done xs i (omega arith)

-- ---- searches

pub first_step : {A : Type 0} (f : A → Option ℕ) (xs : List A) (i : ℕ) (x : A) → i < length xs → x ≡ get_or xs i x
    → first_in f (drop i xs) ≡ or_else (f x) (first_in f (drop (i + 1) xs))
first_step f xs i x h is = ap (first_in f) (next xs i x h) ∙ ap (λ z. or_else (f z) (first_in f (drop (i + 1) xs))) (sym is)

-- found or not
pub found : {A : Type 0} (a : A) (o rest : Option A) → o ≡ Some a → or_else o rest ≡ Some a
found a o rest e = ap (λ z. or_else z rest) e

pub passed : {A : Type 0} (o rest : Option A) → o ≡ None → or_else o rest ≡ rest
passed o rest e = ap (λ z. or_else z rest) e

pub judged_step : (test : Judge) (es : List Expected) (os : List Operand) (i : ℕ) (e : Expected) (o : Operand) → slice_get es i ≡ Some e → i < length os → o ≡ get_or os i o
    → judged test (drop i es) (drop i os) ≡ or_else (unless (test e o) (column_of o)) (judged test (drop (i + 1) es) (drop (i + 1) os))
judged_step test es os i e o h lt is =
    ap (λ z. judged test z (drop i os)) (got es i e h) ∙ ap (judged test (e ∷ drop (i + 1) es)) (next os i o lt)
    ∙ ap (λ z. or_else (unless (test e z) (column_of z)) (judged test (drop (i + 1) es) (drop (i + 1) os))) (sym is)

pub judged_end : (test : Judge) (es : List Expected) (os : List Operand) (i : ℕ) → slice_get es i ≡ None → judged test (drop i es) (drop i os) ≡ None
judged_end test es os i h = ap (λ z. judged test z (drop i os)) (none es i h)

pub unlisted_step : (ss : List SlotDecl) (os : List Operation) (i : ℕ) (s : SlotDecl) (o : Operation) → slice_get ss i ≡ Some s → i < length os → o ≡ get_or os i o
    → unlisted_in (drop i ss) (drop i os) ≡ or_else (unless (lists s (code_in o)) o.column) (unlisted_in (drop (i + 1) ss) (drop (i + 1) os))
unlisted_step ss os i s o h lt is =
    ap (λ z. unlisted_in z (drop i os)) (got ss i s h) ∙ ap (unlisted_in (s ∷ drop (i + 1) ss)) (next os i o lt)
    ∙ ap (λ z. or_else (unless (lists s (code_in z)) z.column) (unlisted_in (drop (i + 1) ss) (drop (i + 1) os))) (sym is)

pub unlisted_end : (ss : List SlotDecl) (os : List Operation) (i : ℕ) → slice_get ss i ≡ None → unlisted_in (drop i ss) (drop i os) ≡ None
unlisted_end ss os i h = ap (λ z. unlisted_in z (drop i os)) (none ss i h)

pub written_step : (d : Description) (as' : List Access) (os : List Operand) (i : ℕ) (a : Access) (o : Operand) → slice_get as' i ≡ Some a → i < length os → o ≡ get_or os i o
    → written_in d (drop i as') (drop i os) ≡ written_by d a o ++ written_in d (drop (i + 1) as') (drop (i + 1) os)
written_step d as' os i a o h lt is =
    ap (λ z. written_in d z (drop i os)) (got as' i a h) ∙ ap (written_in d (a ∷ drop (i + 1) as')) (next os i o lt)
    ∙ ap (λ z. written_by d a z ++ written_in d (drop (i + 1) as') (drop (i + 1) os)) (sym is)

pub written_end : (d : Description) (as' : List Access) (os : List Operand) (i : ℕ) → slice_get as' i ≡ None → written_in d (drop i as') (drop i os) ≡ []
written_end d as' os i h = ap (λ z. written_in d z (drop i os)) (none as' i h)

pub written_done : (d : Description) (as' : List Access) (os : List Operand) (i : ℕ) → length os ≤ i → written_in d (drop i as') (drop i os) ≡ []
written_done d as' os i h = ap (written_in d (drop i as')) (done os i h) ∙ empty (drop i as')
  where
    empty : (as' : List Access) → written_in d as' [] ≡ []
    empty [] = refl
    empty (a ∷ as') = refl

-- ---- rules

pub breach_step : (d : Description) (labels : Find) (r : AsmRule) (ls : List Line) (i : ℕ) (l : Line) → i < length ls → l ≡ get_or ls i l
    → breach_from d labels r i (drop i ls) ≡ or_else (option_map (fault_at r l) (breach d labels r i l)) (breach_from d labels r (i + 1) (drop (i + 1) ls))
breach_step d labels r ls i l lt is =
    ap (breach_from d labels r i) (next ls i l lt)
    ∙ ap (λ z. or_else (option_map (fault_at r z) (breach d labels r i z)) (breach_from d labels r (i + 1) (drop (i + 1) ls))) (sym is)

pub rule_step : (d : Description) (labels : Find) (rs : List AsmRule) (ls : List Line) (i : ℕ) (r : AsmRule) → i < length rs → r ≡ get_or rs i r
    → breach_by d labels (drop i rs) ls ≡ or_else (breach_from d labels r 0 ls) (breach_by d labels (drop (i + 1) rs) ls)
rule_step d labels rs ls i r lt is =
    ap (λ z. breach_by d labels z ls) (next rs i r lt) ∙ ap (λ z. or_else (breach_from d labels z 0 ls) (breach_by d labels (drop (i + 1) rs) ls)) (sym is)

pub long_step : (d : Description) (at : ℕ) (ls : List Line) (i : ℕ) (l : Line) → i < length ls → l ≡ get_or ls i l
    → long_from d at (drop i ls)
    ≡ or_else (option_map (fault_at rule.TooLong l) (unless (nat_le (at + size d at l.statement) 65536) (begins_at l.statement))) (long_from d (at + size d at l.statement) (drop (i + 1) ls))
long_step d at ls i l lt is =
    ap (long_from d at) (next ls i l lt)
    ∙ ap (λ z. or_else (option_map (fault_at rule.TooLong z) (unless (nat_le (at + size d at z.statement) 65536) (begins_at z.statement))) (long_from d (at + size d at z.statement) (drop (i + 1) ls))) (sym is)

pub addresses_step : (d : Description) (at : ℕ) (ls : List Line) (i : ℕ) (l : Line) → i < length ls → l ≡ get_or ls i l
    → addresses d at (drop i ls) ≡ at ∷ addresses d (at + size d at l.statement) (drop (i + 1) ls)
addresses_step d at ls i l lt is =
    ap (addresses d at) (next ls i l lt) ∙ ap (λ z. at ∷ addresses d (at + size d at z.statement) (drop (i + 1) ls)) (sym is)

pub unreached_step : (d : Description) (find : Find) (at : List ℕ) (ls : List Line) (i : ℕ) (l : Line) → i < length at → i < length ls → l ≡ get_or ls i l
    → unreached_in d find (drop i at) (drop i ls)
    ≡ or_else (option_map (fault_at rule.Reach l) (judged_in d (reaches find (get_or at i 0)) l.statement)) (unreached_in d find (drop (i + 1) at) (drop (i + 1) ls))
unreached_step d find at ls i l h lt is =
    ap (λ z. unreached_in d find z (drop i ls)) (next at i 0 h) ∙ ap (unreached_in d find (get_or at i 0 ∷ drop (i + 1) at)) (next ls i l lt)
    ∙ ap (λ z. or_else (option_map (fault_at rule.Reach z) (judged_in d (reaches find (get_or at i 0)) z.statement)) (unreached_in d find (drop (i + 1) at) (drop (i + 1) ls))) (sym is)

pub unreached_end : (d : Description) (find : Find) (at : List ℕ) (ls : List Line) (i : ℕ) → length at ≤ i → unreached_in d find (drop i at) (drop i ls) ≡ None
unreached_end d find at ls i h = ap (λ z. unreached_in d find z (drop i ls)) (done at i h)

-- ---- labels

pub label_step : (word : List ℕ) (ls : List Line) (i : ℕ) (l : Line) → i < length ls → l ≡ get_or ls i l
    → label_from word i (drop i ls) ≡ cond (is_label word l.label) (Some i) (label_from word (i + 1) (drop (i + 1) ls))
label_step word ls i l lt is =
    ap (label_from word i) (next ls i l lt) ∙ ap (λ z. cond (is_label word z.label) (Some i) (label_from word (i + 1) (drop (i + 1) ls))) (sym is)

-- ---- at the end

pub judged_done : (test : Judge) (es : List Expected) (os : List Operand) (i : ℕ) → length os ≤ i → judged test (drop i es) (drop i os) ≡ None
judged_done test es os i h = ap (judged test (drop i es)) (done os i h) ∙ empty (drop i es)
  where
    empty : (es : List Expected) → judged test es [] ≡ None
    empty [] = refl
    empty (e ∷ es) = refl

pub unlisted_done : (ss : List SlotDecl) (os : List Operation) (i : ℕ) → length os ≤ i → unlisted_in (drop i ss) (drop i os) ≡ None
unlisted_done ss os i h = ap (unlisted_in (drop i ss)) (done os i h) ∙ empty (drop i ss)
  where
    empty : (ss : List SlotDecl) → unlisted_in ss [] ≡ None
    empty [] = refl
    empty (s ∷ ss) = refl

pub unreached_done : (d : Description) (find : Find) (at : List ℕ) (ls : List Line) (i : ℕ) → length ls ≤ i → unreached_in d find (drop i at) (drop i ls) ≡ None
unreached_done d find at ls i h = ap (unreached_in d find (drop i at)) (done ls i h) ∙ empty (drop i at)
  where
    empty : (at : List ℕ) → unreached_in d find at [] ≡ None
    empty [] = refl
    empty (a ∷ at) = refl
