-- Where a read operand is used late, every written one is defined late.
use Rattle.std.proofs.Common.{◌≡◌, ◌⊎◌, inl, inr, ⊎_elim, ℕ, List, [], ◌∷◌, ◌++◌, Bool, true, false, not, ◌&&◌, ◌||◌, cond, map, Option, Some, None, refl, ap, sym, subst, ◌∙◌}
use Rattle.std.specs.List.{flat_map, list_any, list_all, find}
use Rattle.tie_expr.specs.declared.node.Node.{Node}
use Rattle.tie_mean.specs.Names.{is_read, is_written}
use Rattle.tie_grammar.specs.declared.symbol.Leaf.{Leaf}
use Rattle.tie_grammar.specs.declared.tree.Argument.{Argument}
use Rattle.tie_grammar.specs.declared.tree.Link.{Link}
use Rattle.tie_grammar.specs.declared.tree.Operation.{Operation}
use Rattle.tie_grammar.specs.declared.tree.ScheduleItem.{ScheduleItem}
use Rattle.tie_grammar.specs.declared.tree.ScheduleItem.TheVariants as si
use Rattle.tie_grammar.specs.declared.tree.Decl.{Decl}
use Rattle.tie_grammar.specs.declared.tree.Decl.TheVariants as d
use Rattle.tie_grammar.specs.declared.tree.Tree.{Tree}
use Rattle.tie_describe.specs.tie_rules.Least.{when}
use Rattle.tie_describe.specs.tie_rules.Names.{listed}
use Rattle.tie_describe.specs.tie_rules.Schedules.{schedules, uses_operand, defines_operand, is_late, late_use, early_def, schedule_order_at}
use Rattle.tie_desc.specs.Operands.{operands, read_operands, written_operands}
use Rattle.tie_desc.specs.Invariant.{stages_agree}
use Rattle.tie_desc.specs.declared.declarations.Operand.{Operand}
use Rattle.tie_desc.specs.declared.declarations.OpDecl.{OpDecl}
use Rattle.tie_describe.specs.Operations.{items_of, schedule_of, is_late_item, is_late_use, is_late_def, is_used_late, is_defined, is_defined_late, argument_used_late, link_used_late, uses_late, definition_late, argument, link, operation}
use Rattle.tie_description_law.proofs.Elements.{In, in_append, from_map, any_in, none_in, to_any, all_true, and_both, not_false, found, when_none, none_at}
use Rattle.tie_description_law.proofs.Places.{in_filter}
use Rattle.tie_description_law.proofs.Kept.{Kept}

-- an operand of an operation is one of the text's
pub from_operands : (t : Tree) (o : Operation) (r : List Node) (p : Operand) → In p (operands (operation t o r))
    → ((x : Argument) × In x o.arguments × (p ≡ argument t o x)) ⊎ ((x : Link) × In x o.links × (p ≡ link t o x))
from_operands t o r p i =
    ⊎_elim (λ l. inl (from_map (argument t o) o.arguments p l)) (λ l. inr (from_map (link t o) o.links p l)) (in_append p (map (argument t o) o.arguments) (map (link t o) o.links) i)

-- no `def` of the schedule is early
items_good : (t : Tree) (name : Leaf) → Kept t → (item : ScheduleItem) → In item (schedule_of t name) → early_def (schedule_of t name) item ≡ []
items_good t name k item i = by_schedule (find (schedules name.bytes) t.declarations) refl i
  where
    by_decl : (x : Decl) → In x t.declarations → In item (items_of (Some x)) → early_def (items_of (Some x)) item ≡ []
    by_decl (d.Schedule x) j i = none_at (early_def x.items) x.items (none_at schedule_order_at t.declarations k.schedule_order (d.Schedule x) j) item i
    by_decl _ j i = absurd i

    by_schedule : (o : Option Decl) → find (schedules name.bytes) t.declarations ≡ o → In item (items_of o) → early_def (items_of o) item ≡ []
    by_schedule None e i = absurd i
    by_schedule (Some x) e i = by_decl x (found (schedules name.bytes) t.declarations x e).0 i

late_used : (name : List ℕ) (item : ScheduleItem) → is_late_use name item ≡ true → late_use item ≡ true
late_used name (si.Use leaves stage) e = (and_both (listed name leaves) (is_late stage.stage) e).1
late_used name (si.Def leaves stage) e = absurd cc

late_defined : (items : List ScheduleItem) (name : List ℕ) (item : ScheduleItem) → list_any late_use items ≡ true → early_def items item ≡ [] → defines_operand name item ≡ true → is_late_def name item ≡ true
late_defined items name (si.Use leaves stage) late e h = absurd cc
late_defined items name (si.Def leaves stage) late e h = by_test (is_late stage.stage) refl
  where
    by_test : (b : Bool) → is_late stage.stage ≡ b → (listed name leaves && is_late stage.stage) ≡ true
    by_test true is = ap (λ c. c && is_late stage.stage) h ∙ is
    by_test false is =
        let no : (not (is_late stage.stage) && list_any late_use items) ≡ false = when_none (not (is_late stage.stage) && list_any late_use items) stage.place e in
        absurd (let f : true ≡ false = sym late ∙ sym (ap (λ c. not c && list_any late_use items) is) ∙ no in cc)

-- where anything is used late, each operand is defined late
all_late : (items : List ScheduleItem) (name : List ℕ) → ((item : ScheduleItem) → In item items → early_def items item ≡ []) → list_any late_use items ≡ true
    → definition_late items true name ≡ true
all_late items name good late = by_test (is_defined items name) refl
  where
    by_test : (b : Bool) → is_defined items name ≡ b → cond b (is_defined_late items name) true ≡ true
    by_test true e = let at = any_in (defines_operand name) items e in to_any (is_late_def name) items at.0 at.1 (late_defined items name at.0 late (good at.0 at.1) at.2)
    by_test false e = refl

some_late : (items : List ScheduleItem) (name : List ℕ) → is_used_late items name ≡ true → list_any late_use items ≡ true
some_late items name e = let at = any_in (is_late_use name) items e in to_any late_use items at.0 at.1 (late_used name at.0 at.2)

or_first : (a b : Bool) → a ≡ true → (a || b) ≡ true
or_first true b e = refl
or_first false b e = absurd cc

or_second : (a b : Bool) → b ≡ true → (a || b) ≡ true
or_second true b e = refl
or_second false b e = e

-- an operand that is used late makes the operation late
late_operand : (t : Tree) (o : Operation) (r : List Node) (p : Operand) → In p (read_operands (operation t o r)) → p.use_m ≡ true
    → (list_any late_use (schedule_of t o.name) ≡ true) × (uses_late (schedule_of t o.name) o ≡ true)
late_operand t o r p i m =
    let at = in_filter (λ q. q.reads) (operands (operation t o r)) p i in
    ⊎_elim
    (λ x. let used = sym (ap (λ (q : Operand). q.use_m) x.2) ∙ m in
    let both = and_both (is_read x.0.direction) (is_used_late (schedule_of t o.name) x.0.name.bytes) used in (
      some_late (schedule_of t o.name) x.0.name.bytes both.1,
      or_first (list_any (argument_used_late (schedule_of t o.name)) o.arguments) (list_any (link_used_late (schedule_of t o.name)) o.links) (to_any (argument_used_late (schedule_of t o.name)) o.arguments x.0 x.1 used),
    ))
    (λ x. let used = sym (ap (λ (q : Operand). q.use_m) x.2) ∙ m in
    let both = and_both (is_read x.0.direction) (is_used_late (schedule_of t o.name) x.0.name.bytes) used in (
      some_late (schedule_of t o.name) x.0.name.bytes both.1,
      or_second (list_any (argument_used_late (schedule_of t o.name)) o.arguments) (list_any (link_used_late (schedule_of t o.name)) o.links) (to_any (link_used_late (schedule_of t o.name)) o.links x.0 x.1 used),
    ))
    (from_operands t o r p at.0)

late_written : (t : Tree) (o : Operation) (r : List Node) (p : Operand) → Kept t → list_any late_use (schedule_of t o.name) ≡ true → uses_late (schedule_of t o.name) o ≡ true
    → In p (written_operands (operation t o r)) → p.def_m ≡ true
late_written t o r p k late used i =
    let at = in_filter (λ q. q.writes) (operands (operation t o r)) p i in
    let items = schedule_of t o.name in
    let whole : (w : Bool) (name : List ℕ) → w ≡ true → (w && definition_late items (uses_late items o) name) ≡ true =
    λ w name e. ap (λ b. b && definition_late items (uses_late items o) name) e ∙ ap (λ b. definition_late items b name) used ∙ all_late items name (items_good t o.name k) late in
    ⊎_elim
    (λ x. ap (λ (q : Operand). q.def_m) x.2 ∙ whole (is_written x.0.direction) x.0.name.bytes (sym (ap (λ (q : Operand). q.writes) x.2) ∙ at.1))
    (λ x. ap (λ (q : Operand). q.def_m) x.2 ∙ whole (is_written x.0.direction) x.0.name.bytes (sym (ap (λ (q : Operand). q.writes) x.2) ∙ at.1))
    (from_operands t o r p at.0)

pub stages_good : (t : Tree) (o : Operation) (r : List Node) → Kept t → stages_agree (operation t o r) ≡ true
stages_good t o r k = by_test (list_any (λ p. p.use_m) (read_operands (operation t o r))) refl
  where
    by_test : (b : Bool) → list_any (λ p. p.use_m) (read_operands (operation t o r)) ≡ b → (not b || list_all (λ p. p.def_m) (written_operands (operation t o r))) ≡ true
    by_test true e =
        let at = any_in (λ (p : Operand). p.use_m) (read_operands (operation t o r)) e in
        let late = late_operand t o r at.0 at.1 at.2 in
        all_true (λ (p : Operand). p.def_m) (written_operands (operation t o r)) (λ p i. late_written t o r p k late.0 late.1 i)
    by_test false e = refl
