-- The widths of operands: as names of a text and as kinds of a description.
use Rattle.std.proofs.Common.{◌≡◌, ◌⊎◌, inl, inr, ⊎_elim, ℕ, ◌+◌, ◌≤◌, List, [], ◌∷◌, ◌++◌, Bool, true, false, cond, map, Option, Some, None, refl, ap, sym, subst, ◌∙◌, arith}
use Rattle.std.specs.Prelude.{codes}
use Rattle.std.specs.Str.{bytes_eq}
use Rattle.std.specs.List.{flat_map, filter, slice_get, All}
use Rattle.std.proofs.lemmas.List.Concat.{flat_map-append}
use Rattle.std.proofs.lemmas.List.{map-append}
use Rattle.tie_expr.specs.declared.node.Node.{Node}
use Rattle.tie_expr.specs.Tree.{meaning, inputs as node_inputs}
use Rattle.tie_expr.specs.Substitute.{IsOver}
use Rattle.tie_mean.specs.Sizes.{bounded}
use Rattle.tie_mean.specs.Names.{Declared, is_named, width_in, kind_declared, link_declared, kind_width, argument_declared, link_width, wires, operation_names, argument_if, link_if, is_read, is_written, written, read}
use Rattle.tie_grammar.specs.declared.symbol.Leaf.{Leaf}
use Rattle.tie_grammar.specs.declared.symbol.Direction.{Direction}
use Rattle.tie_grammar.specs.declared.tree.Argument.{Argument}
use Rattle.tie_grammar.specs.declared.tree.Link.{Link}
use Rattle.tie_grammar.specs.declared.tree.Operation.{Operation}
use Rattle.tie_grammar.specs.declared.tree.Decl.{Decl}
use Rattle.tie_grammar.specs.declared.tree.Decl.TheVariants as d
use Rattle.tie_grammar.specs.declared.tree.Tree.{Tree}
use Rattle.tie_describe.specs.tie_rules.Declarations.{width_range_at}
use Rattle.tie_describe.specs.tie_rules.Bodies.{unknown_kind, unknown_link}
use Rattle.tie_desc.specs.Operands as desc
use Rattle.tie_desc.specs.Operands.{operands, read_operands, written_operands, widths, file_width, state_width, queue_width}
use Rattle.tie_desc.specs.declared.declarations.StateDecl.{StateDecl}
use Rattle.tie_desc.specs.declared.declarations.FileDecl.{FileDecl}
use Rattle.tie_desc.specs.declared.declarations.RangeDecl.{RangeDecl}
use Rattle.tie_desc.specs.declared.declarations.QueueDecl.{QueueDecl}
use Rattle.tie_desc.specs.declared.declarations.Kind.{Kind}
use Rattle.tie_desc.specs.declared.declarations.Kind.TheVariants as kind
use Rattle.tie_desc.specs.declared.declarations.Operand.{Operand}
use Rattle.tie_describe.specs.Declarations.{state_of, file_of, range_of, input_of, output_of}
use Rattle.tie_describe.specs.Operations.{states, files, ranges, inputs, outputs, argument_kind, link_kind, argument, link, operation}
use Rattle.tie_describe.specs.Described.{described}
use Rattle.tie_description_law.specs.Fits.{FitsOperation}
use Rattle.tie_description_law.proofs.Elements.{In, in_left, in_right, to_map, from_flat_map, to_flat_map, none_at}
use Rattle.tie_description_law.proofs.Counts.{number_append}
use Rattle.tie_description_law.proofs.Declared.{good_width}
use Rattle.tie_description_law.proofs.Names.{bytes_true, bytes_same, times, in_times, named, text_once}
use Rattle.tie_description_law.proofs.OperandKinds.{ArgumentOf, LinkOf}
use Rattle.tie_description_law.proofs.OperandNames.{Local, operand_keys, operands_once, argument_key, link_key}
use Rattle.tie_description_law.proofs.Places.{Found}
use Rattle.tie_description_law.proofs.Kept.{Kept}

-- ---- the width of a name that stands once

abbrev declared_key : Declared → List (List ℕ)
declared_key x = x.name.bytes ∷ []

in_keys : (y : Declared) (xs : List Declared) → In y xs → In y.name.bytes (flat_map declared_key xs)
in_keys y xs i = to_flat_map declared_key xs y y.name.bytes i (inl refl)

width_at : (xs ys : List Declared) (y : Declared) (n : List ℕ) → In y xs → y.name.bytes ≡ n → times n (flat_map declared_key xs) ≤ 1 → width_in (xs ++ ys) n ≡ y.width
width_at [] ys y n i e l = absurd i
width_at (x ∷ xs) ys y n (inl s) e l =
    ap (λ b. cond b x.width (width_in (xs ++ ys) n)) (bytes_same x.name.bytes n (sym (ap (λ (z : Declared). z.name.bytes) s) ∙ e)) ∙ sym (ap (λ (z : Declared). z.width) s)
width_at (x ∷ xs) ys y n (inr i) e l = by_test (bytes_eq x.name.bytes n) refl (λ m. width_at xs ys y n i e m)
  where
    rest : (b : Bool) → bytes_eq n x.name.bytes ≡ b → cond b (1 + times n (flat_map declared_key xs)) (times n (flat_map declared_key xs)) ≤ 1 → times n (flat_map declared_key xs) ≤ 1
    rest true h m = omega (arith, m)
    rest false h m = m

    by_test : (b : Bool) → bytes_eq x.name.bytes n ≡ b → (times n (flat_map declared_key xs) ≤ 1 → width_in (xs ++ ys) n ≡ y.width) → cond b x.width (width_in (xs ++ ys) n) ≡ y.width
    by_test true h again =
        let twice : 1 + times n (flat_map declared_key xs) ≤ 1 = subst (λ b. cond b (1 + times n (flat_map declared_key xs)) (times n (flat_map declared_key xs)) ≤ 1) (bytes_same n x.name.bytes (sym (bytes_true x.name.bytes n h))) l in
        let one = in_times n (flat_map declared_key xs) (subst (λ m. In m (flat_map declared_key xs)) e (in_keys y xs i)) in
        absurd (omega (arith, twice, one))
    by_test false h again = again (rest (bytes_eq n x.name.bytes) refl l)

append_none : {A : Type 0} (ys : List A) → ys ++ [] ≡ ys
append_none [] = refl
append_none (y ∷ ys) = ap (λ z. y ∷ z) (append_none ys)

width_only : (xs : List Declared) (y : Declared) (n : List ℕ) → In y xs → y.name.bytes ≡ n → times n (flat_map declared_key xs) ≤ 1 → width_in xs n ≡ y.width
width_only xs y n i e l = ap (λ zs. width_in zs n) (sym (append_none xs)) ∙ width_at xs [] y n i e l

-- ---- declarations

few_keys : (n : List ℕ) (f : Decl → List Declared) → ((x : Decl) → times n (flat_map declared_key (f x)) ≤ times n (named x)) → (xs : List Decl)
    → times n (flat_map declared_key (flat_map f xs)) ≤ times n (flat_map named xs)
few_keys n f h [] = omega arith
few_keys n f h (x ∷ xs) =
    let split = ap (times n) (flat_map-append declared_key (f x) (flat_map f xs)) ∙ number_append (bytes_eq n) (flat_map declared_key (f x)) (flat_map declared_key (flat_map f xs)) in
    omega (arith, split, number_append (bytes_eq n) (named x) (flat_map named xs), h x, few_keys n f h xs)

kind_key : (n : List ℕ) (x : Decl) → times n (flat_map declared_key (kind_declared x)) ≤ times n (named x)
kind_key n (d.Regfile x) = omega arith
kind_key n (d.ImmediateRange x) = omega arith
kind_key n _ = omega arith

link_keys : (n : List ℕ) (x : Decl) → times n (flat_map declared_key (link_declared x)) ≤ times n (named x)
link_keys n (d.State x) = omega arith
link_keys n (d.QueueIn x) = omega arith
link_keys n (d.QueueOut x) = omega arith
link_keys n _ = omega arith

-- what a text declares with a name and a width
pub record Entry (f : Decl → List Declared) (x : Decl) (name : List ℕ) (width : ℕ) : Type 0 where
  pub entry : Declared
  pub among : In entry (f x)
  pub name_is : entry.name.bytes ≡ name
  pub width_is : entry.width ≡ width

file_entry : (x : Decl) (f : FileDecl) → In f (file_of x) → width_range_at x ≡ [] → Entry kind_declared x f.name f.width
file_entry (d.Regfile x) f (inl e) w =
    subst (λ (g : FileDecl). Entry kind_declared (d.Regfile x) g.name g.width) (sym e) (record { entry = _; among = inl refl; name_is = refl; width_is = sym (good_width x.width w).1 })
file_entry (d.Regfile x) f (inr h) w = absurd h
file_entry _ f h w = absurd h

range_entry : (x : Decl) (r : RangeDecl) → In r (range_of x) → Entry kind_declared x r.name 32
range_entry (d.ImmediateRange x) r (inl e) = subst (λ (g : RangeDecl). Entry kind_declared (d.ImmediateRange x) g.name 32) (sym e) (record { entry = _; among = inl refl; name_is = refl; width_is = refl })
range_entry (d.ImmediateRange x) r (inr h) = absurd h
range_entry _ r h = absurd h

state_entry : (x : Decl) (s : StateDecl) → In s (state_of x) → width_range_at x ≡ [] → Entry link_declared x s.name s.width
state_entry (d.State x) s (inl e) w =
    subst (λ (g : StateDecl). Entry link_declared (d.State x) g.name g.width) (sym e) (record { entry = _; among = inl refl; name_is = refl; width_is = sym (good_width x.width w).1 })
state_entry (d.State x) s (inr h) w = absurd h
state_entry _ s h w = absurd h

input_entry : (x : Decl) (q : QueueDecl) → In q (input_of x) → width_range_at x ≡ [] → Entry link_declared x q.name q.width
input_entry (d.QueueIn x) q (inl e) w =
    subst (λ (g : QueueDecl). Entry link_declared (d.QueueIn x) g.name g.width) (sym e) (record { entry = _; among = inl refl; name_is = refl; width_is = sym (good_width x.width w).1 })
input_entry (d.QueueIn x) q (inr h) w = absurd h
input_entry _ q h w = absurd h

output_entry : (x : Decl) (q : QueueDecl) → In q (output_of x) → width_range_at x ≡ [] → Entry link_declared x q.name q.width
output_entry (d.QueueOut x) q (inl e) w =
    subst (λ (g : QueueDecl). Entry link_declared (d.QueueOut x) g.name g.width) (sym e) (record { entry = _; among = inl refl; name_is = refl; width_is = sym (good_width x.width w).1 })
output_entry (d.QueueOut x) q (inr h) w = absurd h
output_entry _ q h w = absurd h

-- its width is found by its name
entry_width : (t : Tree) (f : Decl → List Declared) → Kept t → ((n : List ℕ) (x : Decl) → times n (flat_map declared_key (f x)) ≤ times n (named x))
    → (x : Decl) → In x t.declarations → (name n : List ℕ) (width : ℕ) → Entry f x name width → name ≡ n → width_in (flat_map f t.declarations) n ≡ width
entry_width t f k few x i name n width e same =
    width_only (flat_map f t.declarations) e.entry n (to_flat_map f t.declarations x e.entry i e.among) (e.name_is ∙ same)
    (omega (arith, few_keys n f (few n) t.declarations, text_once t k n)) ∙ e.width_is

argument_width : (t : Tree) (results : List (List Node)) (leaf : Leaf) (c : Kind) → Kept t → ArgumentOf t leaf c → kind_width t leaf ≡ desc.kind_width (described t results) c
argument_width t results leaf _ k (ArgumentOf.address e) = ap (λ b. cond b 32 (width_in (flat_map kind_declared t.declarations) leaf.bytes)) e
argument_width t results leaf _ k (ArgumentOf.file i e f) =
    let at = from_flat_map file_of t.declarations f.it f.among in
    ap (λ b. cond b 32 (width_in (flat_map kind_declared t.declarations) leaf.bytes)) e
    ∙ entry_width t kind_declared k kind_key at.0 at.1 f.it.name leaf.bytes f.it.width (file_entry at.0 f.it at.2 (none_at width_range_at t.declarations k.width_range at.0 at.1)) (bytes_true f.it.name leaf.bytes f.passes)
    ∙ sym (ap file_width f.at)
argument_width t results leaf _ k (ArgumentOf.range i e f) =
    let at = from_flat_map range_of t.declarations f.it f.among in
    ap (λ b. cond b 32 (width_in (flat_map kind_declared t.declarations) leaf.bytes)) e
    ∙ entry_width t kind_declared k kind_key at.0 at.1 f.it.name leaf.bytes 32 (range_entry at.0 f.it at.2) (bytes_true f.it.name leaf.bytes f.passes)

link_width_is : (t : Tree) (results : List (List Node)) (n : List ℕ) (c : Kind) → Kept t → LinkOf t n c → width_in (flat_map link_declared t.declarations) n ≡ desc.kind_width (described t results) c
link_width_is t results n _ k (LinkOf.state i f) =
    let at = from_flat_map state_of t.declarations f.it f.among in
    entry_width t link_declared k link_keys at.0 at.1 f.it.name n f.it.width (state_entry at.0 f.it at.2 (none_at width_range_at t.declarations k.width_range at.0 at.1)) (bytes_true f.it.name n f.passes)
    ∙ sym (ap state_width f.at)
link_width_is t results n _ k (LinkOf.input i f) =
    let at = from_flat_map input_of t.declarations f.it f.among in
    entry_width t link_declared k link_keys at.0 at.1 f.it.name n f.it.width (input_entry at.0 f.it at.2 (none_at width_range_at t.declarations k.width_range at.0 at.1)) (bytes_true f.it.name n f.passes)
    ∙ sym (ap queue_width f.at)
link_width_is t results n _ k (LinkOf.output i f) =
    let at = from_flat_map output_of t.declarations f.it f.among in
    entry_width t link_declared k link_keys at.0 at.1 f.it.name n f.it.width (output_entry at.0 f.it at.2 (none_at width_range_at t.declarations k.width_range at.0 at.1)) (bytes_true f.it.name n f.passes)
    ∙ sym (ap queue_width f.at)

-- ---- names of an operation

argument_keys : (t : Tree) (xs : List Argument) → flat_map declared_key (map (argument_declared t) xs) ≡ flat_map argument_key xs
argument_keys t [] = refl
argument_keys t (x ∷ xs) = ap (λ z. x.name.bytes ∷ z) (argument_keys t xs)

links_keys : (t : Tree) (xs : List Link) → flat_map declared_key (map (link_width t) xs) ≡ flat_map link_key xs
links_keys t [] = refl
links_keys t (x ∷ xs) = ap (λ z. x.name.bytes ∷ z) (links_keys t xs)

names_once : (t : Tree) (o : Operation) → Local t o → (n : List ℕ) → times n (flat_map declared_key (map (argument_declared t) o.arguments ++ map (link_width t) o.links)) ≤ 1
names_once t o h n =
    let same = flat_map-append declared_key (map (argument_declared t) o.arguments) (map (link_width t) o.links)
    ∙ ap (λ z. z ++ flat_map declared_key (map (link_width t) o.links)) (argument_keys t o.arguments) ∙ ap (λ z. flat_map argument_key o.arguments ++ z) (links_keys t o.links) in
    omega (arith, ap (times n) same, operands_once t o h n)

argument_in : (t : Tree) (o : Operation) → Local t o → (x : Argument) → In x o.arguments → width_in (operation_names t o) x.name.bytes ≡ kind_width t x.kind
argument_in t o h x i =
    width_at (map (argument_declared t) o.arguments ++ map (link_width t) o.links) (wires o.items) (argument_declared t x) x.name.bytes
    (in_left (argument_declared t x) (map (argument_declared t) o.arguments) (map (link_width t) o.links) (to_map (argument_declared t) o.arguments x i)) refl (names_once t o h x.name.bytes)

link_in : (t : Tree) (o : Operation) → Local t o → (x : Link) → In x o.links → width_in (operation_names t o) x.name.bytes ≡ width_in (flat_map link_declared t.declarations) x.name.bytes
link_in t o h x i =
    width_at (map (argument_declared t) o.arguments ++ map (link_width t) o.links) (wires o.items) (link_width t x) x.name.bytes
    (in_right (link_width t x) (map (argument_declared t) o.arguments) (map (link_width t) o.links) (to_map (link_width t) o.links x i)) refl (names_once t o h x.name.bytes)

-- ---- lists of operands

filter_append : {A : Type 0} (p : A → Bool) (xs ys : List A) → filter p (xs ++ ys) ≡ filter p xs ++ filter p ys
filter_append p [] ys = refl
filter_append p (x ∷ xs) ys = by_test (p x) (filter_append p xs ys)
  where
    by_test : (b : Bool) → filter p (xs ++ ys) ≡ filter p xs ++ filter p ys → cond b (x ∷ filter p (xs ++ ys)) (filter p (xs ++ ys)) ≡ cond b (x ∷ filter p xs) (filter p xs) ++ filter p ys
    by_test true e = ap (λ z. x ∷ z) e
    by_test false e = e

-- the operands of a side, by name and as they are described
side : {A : Type 0} (g : A → List (List ℕ)) (n : A → List ℕ) (b : A → Bool) (f : A → Operand) (q : Operand → Bool) (w : List ℕ → ℕ) (v : Operand → ℕ)
    → ((x : A) → g x ≡ cond (b x) (n x ∷ []) []) → ((x : A) → q (f x) ≡ b x) → (xs : List A) → ((x : A) → In x xs → w (n x) ≡ v (f x))
    → map w (flat_map g xs) ≡ map v (filter q (map f xs))
side g n b f q w v eg eq [] h = refl
side g n b f q w v eg eq (x ∷ xs) h =
    ap (λ ys. map w (ys ++ flat_map g xs)) (eg x) ∙ by_test (b x) (h x (inl refl)) (side g n b f q w v eg eq xs (λ y i. h y (inr i)))
    ∙ sym (ap (λ c. map v (cond c (f x ∷ filter q (map f xs)) (filter q (map f xs)))) (eq x))
  where
    by_test : (c : Bool) → w (n x) ≡ v (f x) → map w (flat_map g xs) ≡ map v (filter q (map f xs)) → map w (cond c (n x ∷ []) [] ++ flat_map g xs) ≡ map v (cond c (f x ∷ filter q (map f xs)) (filter q (map f xs)))
    by_test true e again = ap (λ m. m ∷ map w (flat_map g xs)) e ∙ ap (λ ms. v (f x) ∷ ms) again
    by_test false e again = again

pub side_widths : (t : Tree) (results : List (List Node)) (o : Operation) (r : List Node) (way : Direction → Bool) (q : Operand → Bool)
    → Kept t → Local t o → ((x : Argument) → In x o.arguments → ArgumentOf t x.kind (argument_kind (files t) (ranges t) x.kind)) → ((x : Link) → In x o.links → LinkOf t x.name.bytes (link_kind (states t) (inputs t) (outputs t) x.name.bytes))
    → ((x : Argument) → q (argument t o x) ≡ way x.direction) → ((x : Link) → q (link t o x) ≡ way x.direction)
    → map (width_in (operation_names t o)) (flat_map (argument_if way) o.arguments ++ flat_map (link_if way) o.links) ≡ widths (described t results) (filter q (operands (operation t o r)))
side_widths t results o r way q k h args links ea el =
    let w = width_in (operation_names t o) in
    let v : Operand → ℕ = λ p. desc.kind_width (described t results) p.kind in
    let one = side (argument_if way) (λ (x : Argument). x.name.bytes) (λ (x : Argument). way x.direction) (argument t o) q w v (λ x. refl) ea o.arguments
    (λ x i. argument_in t o h x i ∙ argument_width t results x.kind (argument_kind (files t) (ranges t) x.kind) k (args x i)) in
    let two = side (link_if way) (λ (x : Link). x.name.bytes) (λ (x : Link). way x.direction) (link t o) q w v (λ x. refl) el o.links
    (λ x i. link_in t o h x i ∙ link_width_is t results x.name.bytes (link_kind (states t) (inputs t) (outputs t) x.name.bytes) k (links x i)) in
    map-append w (flat_map (argument_if way) o.arguments) (flat_map (link_if way) o.links)
    ∙ ap (λ z. z ++ map w (flat_map (link_if way) o.links)) one ∙ ap (λ z. map v (filter q (map (argument t o) o.arguments)) ++ z) two
    ∙ sym (map-append v (filter q (map (argument t o) o.arguments)) (filter q (map (link t o) o.links)))
    ∙ sym (ap (map v) (filter_append q (map (argument t o) o.arguments) (map (link t o) o.links)))
