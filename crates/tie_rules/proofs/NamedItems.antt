-- The names of bodies as sets hold them.
use Rattle.std.proofs.Common.{◌≡◌, ℕ, List, [], ◌++◌, Bool, ◌&&◌, ◌||◌, not, Option, Result, Ok, Err, refl, ap, subst, ◌∙◌}
use Rattle.std.specs.List.{list_any}
use Rattle.std.specs.Result.{IfOk}
use Rattle.std.specs.Borrow.{Bor}
use Rattle.std.specs.BTreeSet.{BTreeSet}
use Rattle.tie_mean.specs.Kept.{met}
use mathlib.Core.Path.{fun_ext}
use Rattle.tie_grammar.specs.declared.tree.Item.{Item}
use Rattle.tie_grammar.specs.declared.tree.Item.TheVariants as i
use Rattle.tie_grammar.specs.declared.symbol.Direction.{Direction}
use Rattle.tie_grammar.specs.declared.symbol.Leaf.{Leaf}
use Rattle.tie_grammar.specs.declared.tree.Decl.{Decl}
use Rattle.tie_grammar.specs.declared.tree.Decl.TheVariants as d
use Rattle.tie_grammar.specs.declared.tree.Tree.{Tree}
use Rattle.tie_grammar.specs.declared.tree.Expr.{Expr, out-Expr}
use Rattle.tie_grammar.specs.declared.tree.Expr.TheOpen.{Expr-F}
use Rattle.tie_rules.specs.Names.{declares_wire, sets_name, has_parameter, has_argument, has_link, operand_is}
use Rattle.tie_rules.specs.Declarations.{in_item}
use Rattle.tie_rules.specs.Bodies.{declared_clash, wire_name, wire_doubled, lacks, assigned_twice_item, early, early_form, early_here, used_before_item}
use Rattle.tie_rules.specs.Least.{when, least, behind}
use Rattle.tie_rules.specs.NameSets.{has_name, at_again, at_met, set_name, set_again_here, wire_doubled_here, is_listed, waits, early_by, early_form_by, early_here_by, early_item}
use Rattle.tie_rules.proofs.NameSets.{behind_same}

is_wire : (q : List ℕ) (item : Item) → has_name wire_name q item ≡ declares_wire q item
is_wire q (i.Wire r n) = refl
is_wire q (i.WireSet r n x) = refl
is_wire q (i.Assign n x) = refl

is_set : (q : List ℕ) (item : Item) → has_name set_name q item ≡ sets_name q item
is_set q (i.Wire r n) = refl
is_set q (i.WireSet r n x) = refl
is_set q (i.Assign n x) = refl

pub wires_named : (q : List ℕ) (items : List Item) → list_any (has_name wire_name q) items ≡ list_any (declares_wire q) items
wires_named q items = ap (λ (p : Item → Bool). list_any p items) (fun_ext (is_wire q))

pub sets_named : (q : List ℕ) (items : List Item) → list_any (has_name set_name q) items ≡ list_any (sets_name q) items
sets_named q items = ap (λ (p : Item → Bool). list_any p items) (fun_ext (is_set q))

-- rule 21
pub assigned_again : (before : List Item) (item : Item) → at_again set_name set_again_here before item ≡ assigned_twice_item before item
assigned_again before (i.Wire r n) = refl
assigned_again before (i.WireSet r n x) = ap (λ b. when b n.place) (sets_named n.bytes before)
assigned_again before (i.Assign n x) = ap (λ b. when b n.place) (sets_named n.bytes before)

-- sets that hold the same names
pub same_names : {E : Type 0} (r : Result (BTreeSet (Bor (List ℕ))) E) (f g : List ℕ → Bool) → ((q : List ℕ) → f q ≡ g q)
    → IfOk r (λ found. (q : List ℕ) → met found q ≡ f q) → IfOk r (λ found. (q : List ℕ) → met found q ≡ g q)
same_names (Ok found) f g same h = λ q. h q ∙ same q
same_names (Err e) f g same h = tt

-- an answer, by another list of places
pub same_place : {E : Type 0} (r : Result (Option ℕ) E) (a b : List ℕ) → a ≡ b → IfOk r (λ place. place ≡ least a) → IfOk r (λ place. place ≡ least b)
same_place r a b same h = subst (λ (places : List ℕ). IfOk r (λ place. place ≡ least places)) same h

-- rule 20
early_form_is : (decl : Decl) (before : List Item) (x : Expr-F Expr) → early_form_by (waits decl) (λ q. list_any (sets_name q) before) x ≡ early_form decl before x
unfolding early early_by
early_form_is decl before (Expr-F.Name n) = refl
early_form_is decl before (Expr-F.Select n high low) = refl
early_form_is decl before (Expr-F.Index n x) = refl
early_form_is decl before _ = refl

early_is : (decl : Decl) (before : List Item) (item : Item) → at_met set_name (early_item (waits decl)) before item ≡ used_before_item decl before item
early_is decl before item =
    let sets : (λ (q : List ℕ). list_any (has_name set_name q) before) ≡ (λ (q : List ℕ). list_any (sets_name q) before) = fun_ext (λ q. sets_named q before) in
    let here : early_here_by (waits decl) (λ (q : List ℕ). list_any (sets_name q) before) ≡ early_here decl before = fun_ext (λ x. early_form_is decl before (out-Expr x)) in
    ap (λ (set : List ℕ → Bool). early_item (waits decl) set item) sets ∙ ap (λ (f : Expr → List ℕ). in_item f item) here

pub used_early : (decl : Decl) (items : List Item) → behind (at_met set_name (early_item (waits decl))) items ≡ behind (used_before_item decl) items
used_early decl items = behind_same (at_met set_name (early_item (waits decl))) (used_before_item decl) (early_is decl) [] items

pub used_again : (items : List Item) → behind (at_again set_name set_again_here) items ≡ behind assigned_twice_item items
used_again items = behind_same (at_again set_name set_again_here) assigned_twice_item assigned_again [] items

-- rule 15
wire_again : (t : Tree) (decl : Decl) (before : List Item) (item : Item) → at_again wire_name (wire_doubled_here t decl) before item ≡ wire_doubled t decl before item
wire_again t decl before (i.Wire r n) =
    ap (λ b. when (b || (has_parameter n.bytes decl || (has_argument n.bytes decl || has_link n.bytes decl))) n.place ++ declared_clash t n) (wires_named n.bytes before)
wire_again t decl before (i.WireSet r n x) =
    ap (λ b. when (b || (has_parameter n.bytes decl || (has_argument n.bytes decl || has_link n.bytes decl))) n.place ++ declared_clash t n) (wires_named n.bytes before)
wire_again t decl before (i.Assign n x) = refl

pub wires_again : (t : Tree) (decl : Decl) (items : List Item) → behind (at_again wire_name (wire_doubled_here t decl)) items ≡ behind (wire_doubled t decl) items
wires_again t decl items = behind_same (at_again wire_name (wire_doubled_here t decl)) (wire_doubled t decl) (wire_again t decl) [] items

-- rule 16
lacks_is : (way : Direction → Bool) (operations : List Leaf) (name : List ℕ) (decl : Decl) → (is_listed operations decl && not (operand_is way name decl)) ≡ lacks way operations name decl
lacks_is way operations name (d.Operation o) = refl
lacks_is way operations name _ = refl

pub lacks_any : (way : Direction → Bool) (operations : List Leaf) (name : List ℕ) (decls : List Decl)
    → list_any (λ decl. is_listed operations decl && not (operand_is way name decl)) decls ≡ list_any (lacks way operations name) decls
lacks_any way operations name decls = ap (λ (p : Decl → Bool). list_any p decls) (fun_ext (lacks_is way operations name))
