-- Rule 26 in parts: operations that are listed again, and operands that are used or defined again.
use Rattle.std.proofs.Common.{◌≡◌, ℕ, List, Bool, true, false, Option, refl, ap, sym, ◌∙◌}
use Rattle.std.specs.List.{list_any, flat_map}
use mathlib.Core.Path.{fun_ext}
use Rattle.tie_grammar.specs.declared.symbol.Leaf.{Leaf}
use Rattle.tie_grammar.specs.declared.tree.Decl.{Decl}
use Rattle.tie_grammar.specs.declared.tree.Decl.TheVariants as d
use Rattle.tie_grammar.specs.declared.tree.ScheduleItem.{ScheduleItem}
use Rattle.tie_grammar.specs.declared.tree.ScheduleItem.TheVariants as si
use Rattle.tie_grammar.specs.declared.tree.Tree.{Tree}
use Rattle.tie_rules.specs.Least.{earlier, least, when, behind}
use Rattle.tie_rules.specs.Schedules.{schedules, scheduled_again, uses_operand, defines_operand, operand_again, schedule_twice_at, schedule_twice}
use Rattle.tie_rules.specs.NameSets.{at_lists, lists_name, leaf_again, known_leaf, scheduled_leaves, scheduled_here, operands, operands_here, operands_twice}
use Rattle.tie_rules.proofs.Places.{behind_split, behind_flat, earlier_none, least_append}

-- ---- operands

is_used : (q : List ℕ) (item : ScheduleItem) → uses_operand q item ≡ lists_name (operands false) q item
is_used q (si.Use leaves stage) = refl
is_used q (si.Def leaves stage) = refl

is_defined : (q : List ℕ) (item : ScheduleItem) → defines_operand q item ≡ lists_name (operands true) q item
is_defined q (si.Use leaves stage) = refl
is_defined q (si.Def leaves stage) = refl

abbrev by_use : List ScheduleItem → List ℕ → Bool
by_use before q = list_any (uses_operand q) before

abbrev by_def : List ScheduleItem → List ℕ → Bool
by_def before q = list_any (defines_operand q) before

abbrev by_list : Bool → List ScheduleItem → List ℕ → Bool
by_list defined before q = list_any (lists_name (operands defined) q) before

used_before : (before : List ScheduleItem) → by_use before ≡ by_list false before
used_before before = fun_ext (λ q. ap (λ (p : ScheduleItem → Bool). list_any p before) (fun_ext (is_used q)))

defined_before : (before : List ScheduleItem) → by_def before ≡ by_list true before
defined_before before = fun_ext (λ q. ap (λ (p : ScheduleItem → Bool). list_any p before) (fun_ext (is_defined q)))

abbrev again : List Leaf → (List ℕ → Bool) → Option ℕ
again leaves known = least (behind (leaf_again known) leaves)

one_item : (before : List ScheduleItem) (item : ScheduleItem)
    → least (operand_again before item) ≡ earlier (least (at_lists (operands false) (operands_here false) before item)) (least (at_lists (operands true) (operands_here true) before item))
one_item before (si.Use leaves stage) =
    ap (again leaves) (used_before before) ∙ sym (earlier_none (again leaves (by_list false before)))
one_item before (si.Def leaves stage) = ap (again leaves) (defined_before before)

pub operand_parts : (items : List ScheduleItem)
    → earlier (least (behind (at_lists (operands false) (operands_here false)) items)) (least (behind (at_lists (operands true) (operands_here true)) items)) ≡ least (behind operand_again items)
operand_parts items = sym (behind_split operand_again (at_lists (operands false) (operands_here false)) (at_lists (operands true) (operands_here true)) one_item items)

-- ---- operations

is_scheduled : (q : List ℕ) (decl : Decl) → schedules q decl ≡ lists_name scheduled_leaves q decl
is_scheduled q (d.Schedule x) = refl
is_scheduled q _ = refl

listed_before : (before : List Decl) (leaf : Leaf) → scheduled_again before leaf ≡ known_leaf (λ q. list_any (lists_name scheduled_leaves q) before) leaf
listed_before before leaf = ap (λ (p : Decl → Bool). when (list_any p before) leaf.place) (fun_ext (is_scheduled leaf.bytes))

one_decl : (before : List Decl) (decl : Decl) → least (schedule_twice_at before decl) ≡ earlier (least (at_lists scheduled_leaves scheduled_here before decl)) (least (operands_twice decl))
one_decl before (d.Schedule x) =
    least_append (flat_map (scheduled_again before) x.operations) (behind operand_again x.items)
    ∙ ap (λ (f : Leaf → List ℕ). earlier (least (flat_map f x.operations)) (least (behind operand_again x.items))) (fun_ext (listed_before before))
one_decl before _ = refl

pub schedule_parts : (t : Tree)
    → earlier (least (behind (at_lists scheduled_leaves scheduled_here) t.declarations)) (least (flat_map operands_twice t.declarations)) ≡ least (schedule_twice t)
schedule_parts t =
    let decls = t.declarations in
    sym (behind_split schedule_twice_at (at_lists scheduled_leaves scheduled_here) (λ before decl. operands_twice decl) one_decl decls
    ∙ ap (λ (ps : List ℕ). earlier (least (behind (at_lists scheduled_leaves scheduled_here) decls)) (least ps)) (behind_flat operands_twice decls))
