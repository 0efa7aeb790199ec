-- Rule 13 in parts: slots named twice, slots and opcodes that stand alone, and opcodes that are listed twice.
use Rattle.std.proofs.Common.{◌≡◌, ℕ, List, [], ◌++◌, Bool, ◌||◌, not, refl, ap, sym, ◌∙◌}
use Rattle.std.specs.List.{list_any, flat_map}
use mathlib.Core.Path.{fun_ext}
use Rattle.tie_grammar.specs.declared.symbol.Leaf.{Leaf}
use Rattle.tie_grammar.specs.declared.tree.Decl.{Decl}
use Rattle.tie_grammar.specs.declared.tree.Decl.TheVariants as d
use Rattle.tie_grammar.specs.declared.tree.Tree.{Tree}
use Rattle.tie_rules.specs.Names.{has, listed}
use Rattle.tie_rules.specs.Declarations.{has_slot, gives_opcodes, slot_at, slot_list_at, slot_list}
use Rattle.tie_rules.specs.Least.{earlier, least, when, behind}
use Rattle.tie_rules.specs.NameSets.{has_name, at_again, at_lists, lists_name, leaf_again, slots_of, given_slot, slots_again, given_again, lone_slot, lone_at}
use Rattle.tie_rules.proofs.NameSets.{or_comm}
use Rattle.tie_rules.proofs.Places.{behind_split, behind_flat, when_or, earlier_none, least_append}

is_slot : (q : List ℕ) (decl : Decl) → lists_name slots_of q decl ≡ has_slot q decl
is_slot q (d.Format x) = refl
is_slot q _ = refl

is_given : (q : List ℕ) (decl : Decl) → has_name given_slot q decl ≡ gives_opcodes q decl
is_given q (d.SlotOpcodes x) = refl
is_given q _ = refl

pub slots_named : (q : List ℕ) (decls : List Decl) → list_any (lists_name slots_of q) decls ≡ list_any (has_slot q) decls
slots_named q decls = ap (λ (p : Decl → Bool). list_any p decls) (fun_ext (is_slot q))

pub given_named : (q : List ℕ) (decls : List Decl) → list_any (has_name given_slot q) decls ≡ list_any (gives_opcodes q) decls
given_named q decls = ap (λ (p : Decl → Bool). list_any p decls) (fun_ext (is_given q))

one_slot : (t : Tree) (before : List Decl) (others : List Leaf) (slot : Leaf)
    → least (slot_at t before others slot) ≡ earlier (least (leaf_again (λ q. list_any (lists_name slots_of q) before) others slot)) (least (lone_slot t slot))
one_slot t before others slot =
    let alone : Bool = not (has (gives_opcodes slot.bytes) t) in
    let here : Bool = listed slot.bytes others in
    let order : (list_any (has_slot slot.bytes) before || here) ≡ (here || list_any (lists_name slots_of slot.bytes) before) =
    or_comm (list_any (has_slot slot.bytes) before) here ∙ ap (λ (b : Bool). here || b) (sym (slots_named slot.bytes before)) in
    ap (λ (b : Bool). least (when (b || alone) slot.place)) order ∙ when_or (here || list_any (lists_name slots_of slot.bytes) before) alone slot.place

format_slots : (t : Tree) (before : List Decl) (slots : List Leaf)
    → least (behind (slot_at t before) slots) ≡ earlier (least (behind (leaf_again (λ q. list_any (lists_name slots_of q) before)) slots)) (least (flat_map (lone_slot t) slots))
format_slots t before slots =
    let again : List Leaf → Leaf → List ℕ = leaf_again (λ q. list_any (lists_name slots_of q) before) in
    behind_split (slot_at t before) again (λ others slot. lone_slot t slot) (one_slot t before) slots
    ∙ ap (λ (ps : List ℕ). earlier (least (behind again slots)) (least ps)) (behind_flat (lone_slot t) slots)

least_nil : (a : List ℕ) → least (a ++ []) ≡ least a
least_nil a = least_append a [] ∙ earlier_none (least a)

-- what isn't asked of the slots of a format alone
abbrev rest : Tree → List Decl → Decl → List ℕ
rest t before decl = lone_at t decl ++ at_again given_slot given_again before decl

one_decl : (t : Tree) (before : List Decl) (decl : Decl) → least (slot_list_at t before decl) ≡ earlier (least (at_lists slots_of slots_again before decl)) (least (rest t before decl))
one_decl t before (d.Format x) =
    format_slots t before x.slots
    ∙ ap (earlier (least (behind (leaf_again (λ q. list_any (lists_name slots_of q) before)) x.slots)))
    (sym (least_nil (flat_map (lone_slot t) x.slots ++ []) ∙ least_nil (flat_map (lone_slot t) x.slots)))
one_decl t before (d.SlotOpcodes x) =
    let alone : Bool = not (has (has_slot x.slot.bytes) t) in
    when_or alone (list_any (gives_opcodes x.slot.bytes) before) x.slot.place
    ∙ ap (λ (b : Bool). earlier (least (when alone x.slot.place)) (least (when b x.slot.place))) (sym (given_named x.slot.bytes before))
    ∙ sym (least_append (when alone x.slot.place) (when (list_any (has_name given_slot x.slot.bytes) before) x.slot.place))
one_decl t before _ = refl

pub slot_parts : (t : Tree)
    → earlier (least (behind (at_lists slots_of slots_again) t.declarations)) (earlier (least (flat_map (lone_at t) t.declarations)) (least (behind (at_again given_slot given_again) t.declarations)))
    ≡ least (slot_list t)
slot_parts t =
    let decls = t.declarations in
    sym (behind_split (slot_list_at t) (at_lists slots_of slots_again) (rest t) (one_decl t) decls
    ∙ ap (earlier (least (behind (at_lists slots_of slots_again) decls)))
    (behind_split (rest t) (λ before decl. lone_at t decl) (at_again given_slot given_again) (λ before decl. least_append (lone_at t decl) (at_again given_slot given_again before decl)) decls
    ∙ ap (λ (ps : List ℕ). earlier (least ps) (least (behind (at_again given_slot given_again) decls))) (behind_flat (lone_at t) decls)))
