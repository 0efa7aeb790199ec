-- The functions of a text that breaks no rule.
use Rattle.std.proofs.Common.{◌≡◌, ℕ, ◌<◌, List, [], ◌∷◌, ◌++◌, map, length, take, true, false, cond, ◌||◌, nat_lt, Option, Some, None, refl, sym, ap, ◌∙◌, slice_get, append_assoc, inl, inr}
use Rattle.std.specs.List.{flat_map, list_any}
use Rattle.std.proofs.lemmas.Bool.{ltb-false, or_from, or_parts, cases_order}
use Rattle.tie_mean.specs.Names.{Declared, is_named, is_among, width_in, range_width, function_at, declared_function, function_declared, parameter_declared, wire_declared, wires, function_names, parameter_names}
use Rattle.tie_grammar.specs.declared.symbol.Leaf.{Leaf}
use Rattle.tie_grammar.specs.declared.tree.Item.{Item}
use Rattle.tie_grammar.specs.declared.tree.Item.TheVariants as i
use Rattle.tie_grammar.specs.declared.tree.Parameter.{Parameter}
use Rattle.tie_grammar.specs.declared.tree.Function.{Function}
use Rattle.tie_grammar.specs.declared.tree.Decl.{Decl}
use Rattle.tie_grammar.specs.declared.tree.Decl.TheVariants as d
use Rattle.tie_grammar.specs.declared.tree.Tree.{Tree}
use Rattle.tie_grammar.specs.Spelling.{IsDecl}
use Rattle.tie_results.specs.Sound.{SoundFunction, is_set}
use Rattle.tie_rules.specs.Least.{when, behind, NoPlace}
use Rattle.tie_rules.specs.Names.{declares, has_parameter, has_argument, has_link, is_parameter, declares_wire, is_assigned}
use Rattle.tie_rules.specs.Declarations.{is_reserved, doubled_at}
use Rattle.tie_rules.specs.Bodies.{clash_at, declared_clash, parameter_doubled, argument_doubled, link_doubled, named_doubled, wire_doubled, local_doubled_at, unset_name, unset_wire, unset_argument, unset_link, not_assigned_at}
use Rattle.tie_sizes_law.proofs.Places.{left, right, passed, holds}
use Rattle.tie_sizes_law.proofs.At.{places_at, behind_at, none_at}
use Rattle.tie_sizes_law.proofs.Widths.{among-append, among-map, among-flat}
use Rattle.tie_sizes_law.proofs.Unbroken.{Unbroken, unbroken_at}
use Rattle.tie_sizes_law.proofs.Seen.{function_names_wide, function_seeing, wire_named_at}
use Rattle.tie_sizes_law.proofs.BodyLaw.{same_name, clean_body, body_sound}
use Rattle.tie_sizes_law.proofs.First.{other_way, none_from, width_past, width_first, width_of_function, parameters_of_function, among_first, same_maps}

-- ---- names of a function's body

-- a local name isn't a declared one
not_declared : (t : Tree) (local : Leaf) → NoPlace (declared_clash t local) → (k : ℕ) (f : Function) → slice_get t.declarations k ≡ Some (d.Function f) → is_named f.name.bytes local ≡ false
not_declared t local h k f e =
    other_way f.name.bytes local.bytes false (passed (is_named local.bytes f.name) _ (places_at (clash_at local) t.declarations k (d.Function f) h e))

record LocalNames (t : Tree) (f : Function) : Type 0 where
  parameters : NoPlace (behind (parameter_doubled t) f.parameters)
  wires : NoPlace (behind (wire_doubled t (d.Function f)) f.items)

local_names : (t : Tree) (f : Function) → NoPlace (local_doubled_at t (d.Function f)) → LocalNames t f
local_names t f h =
    let first : List ℕ = behind (parameter_doubled t) f.parameters ++ behind (argument_doubled t) [] in
    let second : List ℕ = behind (link_doubled (d.Function f)) [] ++ behind (wire_doubled t (d.Function f)) f.items in
    record {
      parameters = left (behind (parameter_doubled t) f.parameters) (behind (argument_doubled t) []) (left first second h);
      wires = right (behind (link_doubled (d.Function f)) []) (behind (wire_doubled t (d.Function f)) f.items) (right first second h);
    }

module _ (t : Tree) (f : Function) (k : ℕ) (at : slice_get t.declarations k ≡ Some (d.Function f)) (local : LocalNames t f) where
  parameter_other : (j : ℕ) (x : Parameter) → slice_get f.parameters j ≡ Some x → is_parameter f.name.bytes x ≡ false
  parameter_other j x e =
      not_declared t x.name
      (right (when (list_any (is_parameter x.name.bytes) (take j f.parameters)) x.name.place) (declared_clash t x.name) (behind_at (parameter_doubled t) f.parameters j x local.parameters e)) k f at

  wire_named_other : (before : List Item) (n : Leaf) → NoPlace (named_doubled t (d.Function f) before (Some n)) → is_named f.name.bytes n ≡ false
  wire_named_other before n h =
      not_declared t n
      (right (when (list_any (declares_wire n.bytes) before || (has_parameter n.bytes (d.Function f) || (has_argument n.bytes (d.Function f) || has_link n.bytes (d.Function f)))) n.place) (declared_clash t n) h) k f at

  wire_other : (j : ℕ) (x : Item) → slice_get f.items j ≡ Some x → declares_wire f.name.bytes x ≡ false
  wire_other j x e = by_item x (behind_at (wire_doubled t (d.Function f)) f.items j x local.wires e)
    where
      by_item : (x : Item) → NoPlace (wire_doubled t (d.Function f) (take j f.items) x) → declares_wire f.name.bytes x ≡ false
      by_item (i.Wire r n) h = wire_named_other (take j f.items) n h
      by_item (i.WireSet r n y) h = wire_named_other (take j f.items) n h
      by_item (i.Assign n y) h = refl

  own_width : width_in (function_names f) f.name.bytes ≡ range_width f.range
  own_width =
      let n : List ℕ = f.name.bytes in
      let ps : is_among (map parameter_declared f.parameters) n ≡ false = among-map parameter_declared f.parameters n ∙ none_from (is_parameter n) f.parameters parameter_other in
      let ws : is_among (wires f.items) n ≡ false = among-flat wire_declared (declares_wire n) n (wire_named_at n) f.items ∙ none_from (declares_wire n) f.items wire_other in
      width_past (map parameter_declared f.parameters ++ wires f.items) (function_declared f ∷ []) n
      (among-append (map parameter_declared f.parameters) (wires f.items) n ∙ or_from (is_among (map parameter_declared f.parameters) n) (is_among (wires f.items) n) ps ws)
      ∙ ap (λ b. cond b (range_width f.range) 0) (same_name n)

  parameter_widths : map (width_in (function_names f)) (parameter_names f) ≡ map (λ (p : Parameter). range_width p.range) f.parameters
  parameter_widths =
      same_maps (width_in (function_names f)) (λ (x : Parameter). x.name.bytes) (λ (p : Parameter). range_width p.range) f.parameters (λ j x e. one j x e)
    where
      one : (j : ℕ) (x : Parameter) → slice_get f.parameters j ≡ Some x → width_in (function_names f) x.name.bytes ≡ range_width x.range
      one j x e =
          let n : List ℕ = x.name.bytes in
          let none = passed (list_any (is_parameter n) (take j f.parameters)) x.name.place
          (left (when (list_any (is_parameter n) (take j f.parameters)) x.name.place) (declared_clash t x.name) (behind_at (parameter_doubled t) f.parameters j x local.parameters e)) in
          let among : width_in (map parameter_declared f.parameters ++ (wires f.items ++ function_declared f ∷ [])) n ≡ range_width x.range =
          width_first parameter_declared n f.parameters (wires f.items ++ function_declared f ∷ []) j x e (same_name n) none in
          ap (λ (xs : List Declared). width_in xs n) (append_assoc (map parameter_declared f.parameters) (wires f.items) (function_declared f ∷ [])) ∙ among

-- ---- a function

-- no declaration before it has its name
name_is_new : (f : Function) (before : List Decl) → NoPlace (doubled_at before (d.Function f)) → list_any (declares f.name.bytes) before ≡ false
name_is_new f before h =
    (or_parts (list_any (declares f.name.bytes) before) (is_reserved (d.Function f) f.name)
    (passed (list_any (declares f.name.bytes) before || is_reserved (d.Function f) f.name) f.name.place h)).0

name_is_set : (f : Function) → NoPlace (not_assigned_at (d.Function f)) → is_set f.items f.name.bytes ≡ true
name_is_set f h =
    let decl : Decl = d.Function f in
    let own = left (unset_name decl (Some f.name)) (flat_map (unset_wire decl) f.items)
    (left (unset_name decl (Some f.name) ++ flat_map (unset_wire decl) f.items) (flat_map (unset_argument decl) [] ++ flat_map (unset_link decl) []) h) in
    holds (is_assigned f.name.bytes decl) f.name.place own

pub function_sound : (t : Tree) → Unbroken t → (k : ℕ) (f : Function) → slice_get t.declarations k ≡ Some (d.Function f) → IsDecl (d.Function f) → SoundFunction t f
function_sound t u k f at g =
    let here = unbroken_at t u k (d.Function f) at in
    let new = name_is_new f (take k t.declarations) here.names in
    let local = local_names t f here.locals in
    let wide = function_names_wide f here.widths in
    record {
      body = body_sound t (d.Function f) (function_seeing t u.widths f here.widths) (clean_body t (take k t.declarations) (d.Function f) here) wide g.2;
      few = ltb-false 8 (length f.parameters) (passed (nat_lt 8 (length f.parameters)) f.name.place here.many);
      assigned = name_is_set f here.assigned;
      width = own_width t f k at local ∙ sym (width_of_function f.name.bytes f (same_name f.name.bytes) t.declarations k at new);
      parameters = parameter_widths t f k at local ∙ sym (parameters_of_function f.name.bytes f (same_name f.name.bytes) t.declarations k at new);
    }

-- ---- no two functions have one name

pub function_there : (o : Option Decl) (f : Function) → declared_function o ≡ Some f → o ≡ Some (d.Function f)
function_there None f e = absurd cc
function_there (Some (d.Function g)) f e = let same : g ≡ f = cc in ap (λ z. Some (d.Function z)) same
function_there (Some (d.State x)) f e = absurd cc
function_there (Some (d.Regfile x)) f e = absurd cc
function_there (Some (d.QueueIn x)) f e = absurd cc
function_there (Some (d.QueueOut x)) f e = absurd cc
function_there (Some (d.Table x)) f e = absurd cc
function_there (Some (d.ImmediateRange x)) f e = absurd cc
function_there (Some (d.Operation x)) f e = absurd cc
function_there (Some (d.Schedule x)) f e = absurd cc
function_there (Some (d.Format x)) f e = absurd cc
function_there (Some (d.SlotOpcodes x)) f e = absurd cc

not_later : (t : Tree) → Unbroken t → (j k : ℕ) (f g : Function) → slice_get t.declarations j ≡ Some (d.Function f) → slice_get t.declarations k ≡ Some (d.Function g)
    → is_named g.name.bytes f.name ≡ true → j < k → ⊥
not_later t u j k f g e r same lt =
    let here = unbroken_at t u k (d.Function g) r in
    let new = name_is_new g (take k t.declarations) here.names in
    let other = none_at (declares g.name.bytes) (take k t.declarations) j (d.Function f) new (among_first t.declarations j k (d.Function f) e lt) in
    cc

pub functions_differ : (t : Tree) → Unbroken t → (j k : ℕ) (f g : Function) → function_at t.declarations j ≡ Some f → function_at t.declarations k ≡ Some g → is_named f.name.bytes g.name ≡ true → j ≡ k
functions_differ t u j k f g e r same =
    let first = function_there (slice_get t.declarations j) f e in
    let second = function_there (slice_get t.declarations k) g r in
    elim (cases_order j k) [
      | inl x ↦ x
      | inr y ↦ elim y [
        | inl lt ↦ absurd (not_later t u j k f g first second (other_way g.name.bytes f.name.bytes true same) lt)
        | inr lt ↦ absurd (not_later t u k j g f second first same lt)
      ]
    ]
