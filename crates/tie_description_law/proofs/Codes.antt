-- The codes of slots.
use Rattle.std.proofs.Common.{◌≡◌, ◌≢◌, ◌⊎◌, inl, inr, ⊎_elim, ℕ, zero, suc, ◌+◌, ◌*◌, ◌<◌, ◌≤◌, max, List, [], ◌∷◌, ◌++◌, Bool, true, false, not, ◌||◌, ◌&&◌, cond, eqb, ltb, leb, map, Option, Some, None, refl, ap, sym, subst, ◌∙◌, arith, length, get_or}
use Rattle.std.specs.Prelude.{codes}
use Rattle.std.specs.Str.{bytes_eq}
use Rattle.std.specs.List.{flat_map, list_any, list_all, find, position, slice_get, All}
use borrow.Author.Tests.{eqb-true, eqb-false}
use Rattle.tie_expr.specs.declared.node.Node.{Node}
use Rattle.tie_mean.specs.Names.{is_named}
use Rattle.tie_grammar.specs.declared.symbol.Leaf.{Leaf}
use Rattle.tie_grammar.specs.declared.tree.Operation.{Operation}
use Rattle.tie_grammar.specs.declared.tree.Decl.{Decl}
use Rattle.tie_grammar.specs.declared.tree.Decl.TheVariants as d
use Rattle.tie_grammar.specs.declared.tree.Tree.{Tree}
use Rattle.tie_describe.specs.tie_rules.Names.{has, declares_operation, arguments}
use Rattle.tie_describe.specs.tie_rules.Declarations.{is_slot_core, slot_core_names, is_code}
use Rattle.tie_describe.specs.tie_rules.Schedules.{links_of, opcode_links, is_nop, code_arguments, opcode_arguments}
use Rattle.tie_desc.specs.Slots as desc
use Rattle.tie_desc.specs.Slots.{args_of, op_args, op_links, core_args, core_number, same_code, access}
use Rattle.tie_desc.specs.Invariant.{IsCode}
use Rattle.tie_desc.specs.declared.declarations.OpDecl.{OpDecl}
use Rattle.tie_desc.specs.declared.declarations.Operand.{Operand}
use Rattle.tie_desc.specs.declared.formats.SlotCore.{SlotCore}
use Rattle.tie_desc.specs.declared.formats.Code.{Code}
use Rattle.tie_desc.specs.declared.formats.Code.TheVariants as code
use Rattle.tie_describe.specs.Declarations.{byte}
use Rattle.tie_describe.specs.Operations.{operation, operation_of, operations, with_results, argument, link}
use Rattle.tie_describe.specs.Formats.{core_named, other_core, op_or_core, code_of}
use Rattle.tie_describe.specs.Described.{ops, described}
use Rattle.tie_description_law.proofs.Elements.{In, map_length, from_flat_map, to_flat_map, any_in, none_in, to_any, any_none, all_in, found, find_any, find_none}
use Rattle.tie_description_law.proofs.Counts.{few_operations, number_append}
use Rattle.tie_description_law.proofs.Declared.{byte_small}
use Rattle.tie_description_law.proofs.Names.{bytes_true, bytes_same, times, in_times, named, text_once, op_names}
use Rattle.tie_description_law.proofs.NamesDiffer.{from_ops, in_decls}
use Rattle.tie_description_law.proofs.Places.{Found, position_found, position_none}
use Rattle.tie_description_law.proofs.Kept.{Kept}

-- ---- core names

-- a test of each core name, by computing it
each_core : (p : List ℕ → Bool) → list_all p slot_core_names ≡ true → (n : List ℕ) → is_slot_core n ≡ true → p n ≡ true
unfolding is_slot_core
each_core p e n h = let at = any_in (bytes_eq n) slot_core_names h in ap p (bytes_true n at.0 at.2) ∙ all_in p slot_core_names e at.0 at.1

nth_core : ℕ → List ℕ
nth_core k = get_or slot_core_names k []

is_own_word : List ℕ → Bool
is_own_word n = bytes_eq (nth_core (core_number (core_named n))) n

own_words : list_all is_own_word slot_core_names ≡ true
unfolding core_named other_core slot_core_names nth_core is_own_word
own_words = refl

has_own_count : List ℕ → Bool
has_own_count n = eqb (length (core_args (core_named n))) (cond (bytes_eq n (codes "NOP")) 0 3)

own_counts : list_all has_own_count slot_core_names ≡ true
unfolding core_named other_core slot_core_names has_own_count
own_counts = refl

-- the number of a core operation tells its name
core_back : (n : List ℕ) → is_slot_core n ≡ true → nth_core (core_number (core_named n)) ≡ n
unfolding is_own_word
core_back n h = bytes_true (nth_core (core_number (core_named n))) n (each_core is_own_word own_words n h)

core_count : (leaf : Leaf) → is_slot_core leaf.bytes ≡ true → length (core_args (core_named leaf.bytes)) ≡ code_arguments leaf None
unfolding has_own_count
core_count leaf h = eqb-true _ _ (each_core has_own_count own_counts leaf.bytes h)

pub cores_differ : (a b : List ℕ) → is_slot_core a ≡ true → is_slot_core b ≡ true → bytes_eq a b ≡ false → eqb (core_number (core_named a)) (core_number (core_named b)) ≡ false
cores_differ a b ha hb e = by_test (eqb (core_number (core_named a)) (core_number (core_named b))) refl
  where
    by_test : (c : Bool) → eqb (core_number (core_named a)) (core_number (core_named b)) ≡ c → c ≡ false
    by_test true h =
        let same : a ≡ b = sym (core_back a ha) ∙ ap nth_core (eqb-true _ _ h) ∙ core_back b hb in
        absurd (let f : true ≡ false = sym (bytes_same a b same) ∙ e in cc)
    by_test false h = refl

-- ---- the operation of a name

once_same : (keys : Decl → List (List ℕ)) (xs : List Decl) (n : List ℕ) (x y : Decl) → times n (flat_map keys xs) ≤ 1 → In x xs → In y xs → In n (keys x) → In n (keys y) → x ≡ y
once_same keys [] n x y l i j a b = absurd i
once_same keys (z ∷ xs) n x y l (inl e) (inl f) a b = e ∙ sym f
once_same keys (z ∷ xs) n x y l (inl e) (inr j) a b =
    let one = in_times n (keys z) (subst (λ v. In n (keys v)) e a) in
    let two = in_times n (flat_map keys xs) (to_flat_map keys xs y n j b) in
    absurd (omega (arith, one, two, l, number_append (bytes_eq n) (keys z) (flat_map keys xs)))
once_same keys (z ∷ xs) n x y l (inr i) (inl f) a b =
    let one = in_times n (keys z) (subst (λ v. In n (keys v)) f b) in
    let two = in_times n (flat_map keys xs) (to_flat_map keys xs x n i a) in
    absurd (omega (arith, one, two, l, number_append (bytes_eq n) (keys z) (flat_map keys xs)))
once_same keys (z ∷ xs) n x y l (inr i) (inr j) a b = once_same keys xs n x y (omega (arith, l, number_append (bytes_eq n) (keys z) (flat_map keys xs))) i j a b

is_declared : (n : List ℕ) (x : Decl) → declares_operation n x ≡ true → (o : Operation) × (x ≡ d.Operation o) × (o.name.bytes ≡ n)
is_declared n (d.Operation o) e = (o, refl, bytes_true o.name.bytes n e)
is_declared n _ e = absurd cc

-- the first declaration of an operation's name is its own
pub find_operation : (t : Tree) (o : Operation) (n : List ℕ) → Kept t → In (d.Operation o) t.declarations → o.name.bytes ≡ n → find (declares_operation n) t.declarations ≡ Some (d.Operation o)
find_operation t o n k i e =
    let some = find_any (declares_operation n) t.declarations (to_any (declares_operation n) t.declarations (d.Operation o) i (bytes_same o.name.bytes n e)) in
    let it = found (declares_operation n) t.declarations some.0 some.1 in
    let known = is_declared n some.0 it.1 in
    let same : some.0 ≡ d.Operation o =
    once_same named t.declarations n some.0 (d.Operation o) (text_once t k n) it.0 i (subst (λ v. In n (named v)) (sym known.1) (inl (sym known.2))) (inl (sym e)) in
    some.1 ∙ ap Some same

-- what a code is
pub data CodeOf (t : Tree) (results : List (List Node)) (leaf : Leaf) : Code → Type 0 where
  op : (i : ℕ) (o : Operation) (r : List Node) → slice_get (ops t results) i ≡ Some (operation t o r) → i < length (ops t results) → In (d.Operation o) t.declarations
      → o.name.bytes ≡ leaf.bytes → CodeOf t results leaf (code.Op i)
  core : is_slot_core leaf.bytes ≡ true → has (declares_operation leaf.bytes) t ≡ false → CodeOf t results leaf (code.Core (core_named leaf.bytes))

abbrev op_named : List ℕ → OpDecl → Bool
op_named n x = bytes_eq x.name n

to_ops : (t : Tree) (os : List Operation) (rs : List (List Node)) (o : Operation) → In o os → (r : List Node) × In (operation t o r) (with_results t os rs)
to_ops t [] rs o h = absurd h
to_ops t (p ∷ os) [] o (inl e) = ([], inl (ap (λ x. operation t x []) e))
to_ops t (p ∷ os) [] o (inr h) = let x = to_ops t os [] o h in (x.0, inr x.1)
to_ops t (p ∷ os) (r ∷ rs) o (inl e) = (r, inl (ap (λ x. operation t x r) e))
to_ops t (p ∷ os) (r ∷ rs) o (inr h) = let x = to_ops t os rs o h in (x.0, inr x.1)

many_ops : (t : Tree) (os : List Operation) (rs : List (List Node)) → length (with_results t os rs) ≡ length os
many_ops t [] rs = refl
many_ops t (o ∷ os) [] = let e = many_ops t os [] in omega (arith, e)
many_ops t (o ∷ os) (r ∷ rs) = let e = many_ops t os rs in omega (arith, e)

pub few_ops : (t : Tree) (results : List (List Node)) → Kept t → length (ops t results) ≤ 32
few_ops t results k = omega (arith, many_ops t (operations t) results, few_operations t k)

pub code_is : (t : Tree) (results : List (List Node)) (leaf : Leaf) → Kept t → is_code t leaf ≡ true → CodeOf t results leaf (code_of (ops t results) leaf)
code_is t results leaf k known = by_place (position (op_named leaf.bytes) (ops t results)) refl
  where
    no_op : position (op_named leaf.bytes) (ops t results) ≡ None → has (declares_operation leaf.bytes) t ≡ false
    no_op e = any_none (declares_operation leaf.bytes) t.declarations (λ x i h.
        let known' = is_declared leaf.bytes x h in
        let o = known'.0 in
        let among = to_flat_map operation_of t.declarations x o i (subst (λ v. In o (operation_of v)) (sym known'.1) (inl refl)) in
        let made = to_ops t (operations t) results o among in
        let yes = to_any (op_named leaf.bytes) (ops t results) (operation t o made.0) made.1 (bytes_same o.name.bytes leaf.bytes known'.2) in
        absurd (let f : true ≡ false = sym yes ∙ position_none (op_named leaf.bytes) (ops t results) e in cc))

    by_place : (p : Option ℕ) → position (op_named leaf.bytes) (ops t results) ≡ p → CodeOf t results leaf (op_or_core p leaf.bytes)
    by_place None e =
        let no = no_op e in CodeOf.core (ap (λ b. b || is_slot_core leaf.bytes) (sym no) ∙ known) no
    by_place (Some i) e =
        let f = position_found (op_named leaf.bytes) (ops t results) i e in
        let from = from_ops t (operations t) results f.it f.among in
        let o = from.0 in
        let name : o.name.bytes ≡ leaf.bytes = sym (ap (λ (q : OpDecl). q.name) from.3) ∙ bytes_true f.it.name leaf.bytes f.passes in
        subst (λ j. CodeOf t results leaf (code.Op j)) (sym (byte_small i (omega (arith, f.within, few_ops t results k)))) (
        CodeOf.op i o from.1 (f.at ∙ ap Some from.3) f.within (in_decls t o from.2) name
        )

-- ---- what follows

pub good_code : (t : Tree) (results : List (List Node)) (leaf : Leaf) (c : Code) → CodeOf t results leaf c → IsCode (described t results) c
good_code t results leaf _ (CodeOf.op i o r at within i' name) = within
good_code t results leaf _ (CodeOf.core is free) = tt

-- a code has as many arguments as the text says
pub code_count : (t : Tree) (results : List (List Node)) (leaf : Leaf) (c : Code) → Kept t → CodeOf t results leaf c → length (args_of (described t results) c) ≡ opcode_arguments t leaf
code_count t results leaf _ k (CodeOf.op i o r at within among name) =
    ap (λ x. length (op_args x)) at ∙ map_length access (map (argument t o) o.arguments) ∙ map_length (argument t o) o.arguments
    ∙ sym (ap (code_arguments leaf) (find_operation t o leaf.bytes k among name))
code_count t results leaf _ k (CodeOf.core is free) = core_count leaf is ∙ sym (ap (code_arguments leaf) (find_none (declares_operation leaf.bytes) t.declarations free))

-- and the same links
pub code_links : (t : Tree) (results : List (List Node)) (leaf : Leaf) (c : Code) (p : Operand) → Kept t → CodeOf t results leaf c → In p (desc.links_of (described t results) c)
    → (o : Operation) × In (d.Operation o) t.declarations × (opcode_links t leaf ≡ o.links) × In p (map (link t o) o.links)
code_links t results leaf _ p k (CodeOf.op i o r at within among name) h =
    (o, among, ap links_of (find_operation t o leaf.bytes k among name), subst (λ x. In p (op_links x)) at h)
code_links t results leaf _ p k (CodeOf.core is free) h = absurd h

-- different names, different codes
pub codes_apart : (t : Tree) (results : List (List Node)) (x y : Leaf) (a b : Code) → CodeOf t results x a → CodeOf t results y b → bytes_eq x.bytes y.bytes ≡ false → same_code a b ≡ false
codes_apart t results x y _ _ (CodeOf.op i o r at within among name) (CodeOf.op j p s at' within' among' name') e = by_test (eqb i j) refl
  where
    by_test : (c : Bool) → eqb i j ≡ c → c ≡ false
    by_test true h =
        let same : Some (operation t o r) ≡ Some (operation t p s) = sym at ∙ ap (slice_get (ops t results)) (eqb-true _ _ h) ∙ at' in
        let ops_same : operation t o r ≡ operation t p s = cc in
        let names : x.bytes ≡ y.bytes = sym name ∙ ap (λ (q : OpDecl). q.name) ops_same ∙ name' in
        absurd (let f : true ≡ false = sym (bytes_same x.bytes y.bytes names) ∙ e in cc)
    by_test false h = refl
codes_apart t results x y _ _ (CodeOf.op i o r at within among name) (CodeOf.core is free) e = refl
codes_apart t results x y _ _ (CodeOf.core is free) (CodeOf.op j p s at' within' among' name') e = refl
codes_apart t results x y _ _ (CodeOf.core is free) (CodeOf.core is2 free2) e = cores_differ x.bytes y.bytes is is2 e
