-- The operands of an operation differ in name.
use Rattle.std.proofs.Common.{◌≡◌, ◌⊎◌, inl, inr, ⊎_elim, ℕ, ◌+◌, ◌≤◌, List, [], ◌∷◌, ◌++◌, Bool, true, false, not, ◌&&◌, ◌||◌, map, refl, ap, sym, subst, ◌∙◌, arith}
use Rattle.std.specs.Str.{bytes_eq}
use Rattle.std.specs.List.{flat_map, list_any}
use Rattle.std.proofs.lemmas.List.{map-append}
use Rattle.tie_expr.specs.declared.node.Node.{Node}
use Rattle.tie_mean.specs.Names.{is_named}
use Rattle.tie_grammar.specs.declared.tree.Argument.{Argument}
use Rattle.tie_grammar.specs.declared.tree.Link.{Link}
use Rattle.tie_grammar.specs.declared.tree.Operation.{Operation}
use Rattle.tie_grammar.specs.declared.tree.Decl.{Decl}
use Rattle.tie_grammar.specs.declared.tree.Decl.TheVariants as d
use Rattle.tie_grammar.specs.declared.tree.Tree.{Tree}
use Rattle.tie_describe.specs.tie_rules.Least.{when, behind}
use Rattle.tie_describe.specs.tie_rules.Names.{is_argument, is_link, has_argument}
use Rattle.tie_describe.specs.tie_rules.Bodies.{declared_clash, argument_doubled, link_doubled, local_doubled_at}
use Rattle.tie_desc.specs.Names.{all_differ}
use Rattle.tie_desc.specs.Operands.{operands}
use Rattle.tie_desc.specs.declared.declarations.Operand.{Operand}
use Rattle.tie_describe.specs.Operations.{argument, link, operation}
use Rattle.tie_description_law.proofs.Elements.{In, from_flat_map, none_in, to_any, or_none, none_both, when_none, none_at, Behind, behind_none, behind_at}
use Rattle.tie_description_law.proofs.Counts.{number_append}
use Rattle.tie_description_law.proofs.Names.{bytes_true, bytes_same, times, times_none, number_some, differ, once_from}
use Rattle.tie_description_law.proofs.NamesDiffer.{one_time}
use Rattle.tie_description_law.proofs.Kept.{Kept}

abbrev pub argument_key : Argument → List (List ℕ)
argument_key x = x.name.bytes ∷ []

abbrev pub link_key : Link → List (List ℕ)
link_key x = x.name.bytes ∷ []

-- what the rule on doubled names says of an operation
pub record Local (t : Tree) (o : Operation) : Type 0 where
  pub arguments : behind (argument_doubled t) o.arguments ≡ []
  pub links : behind (link_doubled (d.Operation o)) o.links ≡ []

pub local : (t : Tree) (o : Operation) → Kept t → In (d.Operation o) t.declarations → Local t o
local t o k i =
    let here = none_at (local_doubled_at t) t.declarations k.local_doubled (d.Operation o) i in
    let halves = none_both (behind (argument_doubled t) o.arguments) _ here in
    let rest = none_both (behind (link_doubled (d.Operation o)) o.links) _ halves.1 in record { arguments = halves.0; links = rest.0 }

pub argument_clash : (t : Tree) (o : Operation) → Local t o → (x : Argument) → In x o.arguments → declared_clash t x.name ≡ []
argument_clash t o h x i =
    let at = behind_at (λ b y. argument_doubled t b y ≡ []) [] o.arguments x (behind_none (argument_doubled t) [] o.arguments h.arguments) i in
    (none_both (when (list_any (is_argument x.name.bytes) at.0) x.name.place) (declared_clash t x.name) at.1).1

key_same : (n k : List ℕ) → In n (k ∷ []) → k ≡ n
key_same n k (inl e) = sym e
key_same n k (inr h) = absurd h

apart_arguments : (t : Tree) (b : List Argument) (x : Argument) (n : List ℕ) → argument_doubled t b x ≡ [] → In n (argument_key x) → (y : Argument) → In y b → In n (argument_key y) → ⊥
apart_arguments t b x n e i y j k =
    let no = none_in (is_argument x.name.bytes) b y (when_none (list_any (is_argument x.name.bytes) b) x.name.place (none_both (when (list_any (is_argument x.name.bytes) b) x.name.place) (declared_clash t x.name) e).0) j in
    let yes = bytes_same y.name.bytes x.name.bytes (key_same n y.name.bytes k ∙ sym (key_same n x.name.bytes i)) in
    absurd (let f : true ≡ false = sym yes ∙ no in cc)

link_free : (o : Operation) (b : List Link) (x : Link) → link_doubled (d.Operation o) b x ≡ [] → (list_any (is_link x.name.bytes) b ≡ false) × (list_any (is_argument x.name.bytes) o.arguments ≡ false)
link_free o b x e = or_none (list_any (is_link x.name.bytes) b) (list_any (is_argument x.name.bytes) o.arguments) (when_none (list_any (is_link x.name.bytes) b || list_any (is_argument x.name.bytes) o.arguments) x.name.place e)

apart_links : (o : Operation) (b : List Link) (x : Link) (n : List ℕ) → link_doubled (d.Operation o) b x ≡ [] → In n (link_key x) → (y : Link) → In y b → In n (link_key y) → ⊥
apart_links o b x n e i y j k =
    let no = none_in (is_link x.name.bytes) b y (link_free o b x e).0 j in
    let yes = bytes_same y.name.bytes x.name.bytes (key_same n y.name.bytes k ∙ sym (key_same n x.name.bytes i)) in
    absurd (let f : true ≡ false = sym yes ∙ no in cc)

abbrev pub operand_keys : Operation → List (List ℕ)
operand_keys o = flat_map argument_key o.arguments ++ flat_map link_key o.links

pub operands_once : (t : Tree) (o : Operation) → Local t o → (n : List ℕ) → times n (operand_keys o) ≤ 1
operands_once t o h n =
    let args = once_from argument_key (λ b x. argument_doubled t b x ≡ []) (apart_arguments t) (λ b x m e. one_time m x.name.bytes) n [] o.arguments (behind_none (argument_doubled t) [] o.arguments h.arguments) (omega arith) in
    let links = once_from link_key (λ b x. link_doubled (d.Operation o) b x ≡ []) (apart_links o) (λ b x m e. one_time m x.name.bytes) n [] o.links (behind_none (link_doubled (d.Operation o)) [] o.links h.links) (omega arith) in
    let both = number_append (bytes_eq n) (flat_map argument_key o.arguments) (flat_map link_key o.links) in
    ⊎_elim (λ e. omega (arith, e, both, args))
    (λ s. let i = subst (λ k. In k (flat_map link_key o.links)) (sym (bytes_true n s.0 s.2)) s.1 in
    let at = from_flat_map link_key o.links n i in
    let front = behind_at (λ b y. link_doubled (d.Operation o) b y ≡ []) [] o.links at.0 (behind_none (link_doubled (d.Operation o)) [] o.links h.links) at.1 in
    let none = times_none n (flat_map argument_key o.arguments) (λ j.
    let a = from_flat_map argument_key o.arguments n j in
    let no = none_in (is_argument at.0.name.bytes) o.arguments a.0 (link_free o front.0 at.0 front.1).1 a.1 in
    let yes = bytes_same a.0.name.bytes at.0.name.bytes (key_same n a.0.name.bytes a.2 ∙ sym (key_same n at.0.name.bytes at.2)) in
    absurd (let f : true ≡ false = sym yes ∙ no in cc)) in
    omega (arith, none, both, links))
    (number_some (bytes_eq n) (flat_map link_key o.links))

arguments_named : (t : Tree) (o : Operation) (xs : List Argument) → map (λ (p : Operand). p.name) (map (argument t o) xs) ≡ flat_map argument_key xs
arguments_named t o [] = refl
arguments_named t o (x ∷ xs) = ap (λ z. x.name.bytes ∷ z) (arguments_named t o xs)

links_named : (t : Tree) (o : Operation) (xs : List Link) → map (λ (p : Operand). p.name) (map (link t o) xs) ≡ flat_map link_key xs
links_named t o [] = refl
links_named t o (x ∷ xs) = ap (λ z. x.name.bytes ∷ z) (links_named t o xs)

pub operands_differ : (t : Tree) (o : Operation) (r : List Node) → Local t o → all_differ bytes_eq (map (λ p. p.name) (operands (operation t o r))) ≡ true
operands_differ t o r h =
    let same = map-append (λ (p : Operand). p.name) (map (argument t o) o.arguments) (map (link t o) o.links)
    ∙ ap (λ z. z ++ map (λ (p : Operand). p.name) (map (link t o) o.links)) (arguments_named t o o.arguments) ∙ ap (λ z. flat_map argument_key o.arguments ++ z) (links_named t o o.links) in
    differ (map (λ p. p.name) (operands (operation t o r))) (λ n. omega (arith, ap (times n) same, operands_once t o h n))
