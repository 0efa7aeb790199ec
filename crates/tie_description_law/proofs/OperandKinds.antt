-- What operands of a text that keeps the rules speak of.
use Rattle.std.proofs.Common.{◌≡◌, ◌⊎◌, inl, inr, ⊎_elim, ℕ, zero, suc, ◌+◌, ◌<◌, ◌≤◌, List, [], ◌∷◌, ◌++◌, Bool, true, false, not, ◌&&◌, ◌||◌, cond, map, Option, Some, None, option_map, refl, ap, sym, subst, ◌∙◌, arith, length, IsTrue}
use Rattle.std.specs.Prelude.{codes}
use Rattle.std.specs.Str.{bytes_eq}
use Rattle.std.specs.List.{flat_map, list_any, position, slice_get}
use Rattle.tie_expr.specs.declared.node.Node.{Node}
use Rattle.tie_mean.specs.Names.{is_named, is_read, is_written}
use Rattle.tie_grammar.specs.declared.symbol.Leaf.{Leaf}
use Rattle.tie_grammar.specs.declared.symbol.Direction.{Direction}
use Rattle.tie_grammar.specs.declared.symbol.Direction.TheVariants as way
use Rattle.tie_grammar.specs.declared.tree.Argument.{Argument}
use Rattle.tie_grammar.specs.declared.tree.Link.{Link}
use Rattle.tie_grammar.specs.declared.tree.Operation.{Operation}
use Rattle.tie_grammar.specs.declared.tree.Decl.{Decl}
use Rattle.tie_grammar.specs.declared.tree.Decl.TheVariants as d
use Rattle.tie_grammar.specs.declared.tree.Tree.{Tree}
use Rattle.tie_describe.specs.tie_rules.Least.{when}
use Rattle.tie_describe.specs.tie_rules.Names.{has, declares_range, declares_kind, declares_link, declares_queue_in, declares_queue_out, declared_name, is_in, is_out}
use Rattle.tie_describe.specs.tie_rules.Bodies.{clash, clash_at, declared_clash, unknown_kind, unknown_link, bad_immediate, bad_queue}
use Rattle.tie_desc.specs.Description.{Description, declared_names}
use Rattle.tie_desc.specs.Invariant.{HasPlace, is_direction, is_argument, link_name, IsArgument, IsLink}
use Rattle.tie_desc.specs.declared.declarations.StateDecl.{StateDecl}
use Rattle.tie_desc.specs.declared.declarations.FileDecl.{FileDecl}
use Rattle.tie_desc.specs.declared.declarations.RangeDecl.{RangeDecl}
use Rattle.tie_desc.specs.declared.declarations.QueueDecl.{QueueDecl}
use Rattle.tie_desc.specs.declared.declarations.Kind.{Kind}
use Rattle.tie_desc.specs.declared.declarations.Kind.TheVariants as kind
use Rattle.tie_desc.specs.declared.declarations.Operand.{Operand}
use Rattle.tie_describe.specs.Declarations.{byte, state_of, file_of, range_of, input_of, output_of}
use Rattle.tie_describe.specs.Operations.{states, files, ranges, inputs, outputs, file_or_range, state_or_queue, argument_kind, link_kind}
use Rattle.tie_describe.specs.Described.{described}
use Rattle.tie_description_law.proofs.Elements.{In, from_flat_map, to_flat_map, any_none, any_in, none_in, to_any, or_none, and_both, not_false, when_none, none_at}
use Rattle.tie_description_law.proofs.Counts.{few_states, few_files, few_ranges, few_inputs, few_outputs}
use Rattle.tie_description_law.proofs.Declared.{byte_small}
use Rattle.tie_description_law.proofs.Names.{bytes_true, bytes_same, named, of_name, in_text}
use Rattle.tie_description_law.proofs.Places.{Found, position_found, position_any, position_none}
use Rattle.tie_description_law.proofs.Kept.{Kept}

abbrev pub file_named : List ℕ → FileDecl → Bool
file_named name x = bytes_eq x.name name

abbrev pub range_named : List ℕ → RangeDecl → Bool
range_named name x = bytes_eq x.name name

abbrev pub state_named : List ℕ → StateDecl → Bool
state_named name x = bytes_eq x.name name

abbrev pub queue_named : List ℕ → QueueDecl → Bool
queue_named name x = bytes_eq x.name name

-- ---- arguments

-- the three kinds of an argument
pub data ArgumentOf (t : Tree) (leaf : Leaf) : Kind → Type 0 where
  address : is_named (codes "AR") leaf ≡ true → ArgumentOf t leaf kind.Ar
  file : (i : ℕ) → is_named (codes "AR") leaf ≡ false → Found (file_named leaf.bytes) (files t) i → ArgumentOf t leaf (kind.File i)
  range : (i : ℕ) → is_named (codes "AR") leaf ≡ false → Found (range_named leaf.bytes) (ranges t) i → ArgumentOf t leaf (kind.Range i)

-- a declaration of a kind is a file or a range
kind_there : (n : List ℕ) (x : Decl) → declares_kind n x ≡ true → ((f : FileDecl) × In f (file_of x) × (file_named n f ≡ true)) ⊎ ((r : RangeDecl) × In r (range_of x) × (range_named n r ≡ true))
kind_there n (d.Regfile x) e = inl (_, inl refl, e)
kind_there n (d.ImmediateRange x) e = inr (_, inl refl, e)
kind_there n _ e = absurd cc

pub argument_of : (t : Tree) (x : Argument) → Kept t → unknown_kind t x ≡ [] → ArgumentOf t x.kind (argument_kind (files t) (ranges t) x.kind)
argument_of t x k u = by_name (is_named (codes "AR") x.kind) refl
  where
    n : List ℕ
    n = x.kind.bytes

    known : is_named (codes "AR") x.kind ≡ false → has (declares_kind x.kind.bytes) t ≡ true
    known e = ap (λ b. b || has (declares_kind x.kind.bytes) t) (sym e) ∙ not_false (is_named (codes "AR") x.kind || has (declares_kind x.kind.bytes) t) (when_none (not (is_named (codes "AR") x.kind || has (declares_kind x.kind.bytes) t)) x.kind.place u)

    nowhere : is_named (codes "AR") x.kind ≡ false → list_any (file_named x.kind.bytes) (files t) ≡ false → list_any (range_named x.kind.bytes) (ranges t) ≡ false → ⊥
    nowhere e no_file no_range =
        let at = any_in (declares_kind x.kind.bytes) t.declarations (known e) in
        ⊎_elim
        (λ f. let yes = to_any (file_named x.kind.bytes) (files t) f.0 (to_flat_map file_of t.declarations at.0 f.0 at.1 f.1) f.2 in absurd (let c : true ≡ false = sym yes ∙ no_file in cc))
        (λ r. let yes = to_any (range_named x.kind.bytes) (ranges t) r.0 (to_flat_map range_of t.declarations at.0 r.0 at.1 r.1) r.2 in absurd (let c : true ≡ false = sym yes ∙ no_range in cc))
        (kind_there x.kind.bytes at.0 at.2)

    by_places : is_named (codes "AR") x.kind ≡ false → (f r : Option ℕ) → position (file_named x.kind.bytes) (files t) ≡ f → position (range_named x.kind.bytes) (ranges t) ≡ r
        → ArgumentOf t x.kind (file_or_range f r)
    by_places e (Some i) r ef er =
        let at = position_found (file_named x.kind.bytes) (files t) i ef in
        subst (λ j. ArgumentOf t x.kind (kind.File j)) (sym (byte_small i (omega (arith, at.within, few_files t k)))) (ArgumentOf.file i e at)
    by_places e None (Some i) ef er =
        let at = position_found (range_named x.kind.bytes) (ranges t) i er in
        subst (λ j. ArgumentOf t x.kind (kind.Range j)) (sym (byte_small i (omega (arith, at.within, few_ranges t k)))) (ArgumentOf.range i e at)
    by_places e None None ef er = absurd (nowhere e (position_none (file_named x.kind.bytes) (files t) ef) (position_none (range_named x.kind.bytes) (ranges t) er))

    by_name : (b : Bool) → is_named (codes "AR") x.kind ≡ b → ArgumentOf t x.kind (cond b kind.Ar (file_or_range (position (file_named x.kind.bytes) (files t)) (position (range_named x.kind.bytes) (ranges t))))
    by_name true e = ArgumentOf.address e
    by_name false e = by_places e (position (file_named x.kind.bytes) (files t)) (position (range_named x.kind.bytes) (ranges t)) refl refl

some_way : (w : Direction) → (is_read w || is_written w) ≡ true
some_way way.In = refl
some_way way.Out = refl
some_way way.Inout = refl

in_way : (w : Direction) → is_in w ≡ true → (is_read w && not (is_written w)) ≡ true
in_way way.In e = refl
in_way way.Out e = absurd cc
in_way way.Inout e = absurd cc

out_way : (w : Direction) → is_out w ≡ true → (not (is_read w) && is_written w) ≡ true
out_way way.Out e = refl
out_way way.In e = absurd cc
out_way way.Inout e = absurd cc

-- a rule that a name of a sort has a direction
pub must : (a b : Bool) → (a && not b) ≡ false → a ≡ true → b ≡ true
must true true h e = refl
must true false h e = absurd cc
must false b h e = absurd cc

range_there : (n : List ℕ) (x : Decl) (r : RangeDecl) → In r (range_of x) → range_named n r ≡ true → declares_range n x ≡ true
range_there n (d.ImmediateRange x) r (inl e) h = sym (ap (range_named n) e) ∙ h
range_there n (d.ImmediateRange x) r (inr i) h = absurd i
range_there n _ r i h = absurd i

-- a name that equals no declared one
pub own_name : (t : Tree) (results : List (List Node)) (leaf : Leaf) → declared_clash t leaf ≡ [] → list_any (bytes_eq leaf.bytes) (declared_names (described t results)) ≡ false
own_name t results leaf e = any_none (bytes_eq leaf.bytes) (declared_names (described t results)) (λ n i same.
    let at = from_flat_map named t.declarations n (in_text t results n i) in
    clashes (declared_name at.0) n (bytes_true leaf.bytes n same) (none_at (clash_at leaf) t.declarations e at.0 at.1) at.2)
  where
    clashes : (o : Option Leaf) (n : List ℕ) → leaf.bytes ≡ n → clash leaf o ≡ [] → In n (of_name o) → ⊥
    clashes None n s c i = i
    clashes (Some other) n s c (inl j) =
        let no = when_none (is_named leaf.bytes other) _ c in
        let yes = bytes_same other.bytes leaf.bytes (sym j ∙ sym s) in
        absurd (let f : true ≡ false = sym yes ∙ no in cc)
    clashes (Some other) n s c (inr j) = j

pub good_argument : (t : Tree) (results : List (List Node)) (x : Argument) (p : Operand) (c : Kind) → Kept t → ArgumentOf t x.kind c
    → bad_immediate t x ≡ [] → declared_clash t x.name ≡ []
    → p.name ≡ x.name.bytes → p.kind ≡ c → p.reads ≡ is_read x.direction → p.writes ≡ is_written x.direction → IsArgument (described t results) p
good_argument t results x p c k a bad clash en ek er ew = record {
  kind = ap is_argument ek ∙ is_arg c a;
  place = subst (HasPlace (described t results)) (sym ek) (place c a);
  direction = ap (λ q. is_direction q p.reads p.writes) ek ∙ ap (λ b. is_direction c b p.writes) er ∙ ap (is_direction c (is_read x.direction)) ew ∙ goes c a;
  own_name = ap not (ap (λ n. list_any (bytes_eq n) (declared_names (described t results))) en ∙ own_name t results x.name clash);
}
  where
    is_arg : (c : Kind) → ArgumentOf t x.kind c → is_argument c ≡ true
    is_arg _ (ArgumentOf.address e) = refl
    is_arg _ (ArgumentOf.file i e f) = refl
    is_arg _ (ArgumentOf.range i e f) = refl

    place : (c : Kind) → ArgumentOf t x.kind c → HasPlace (described t results) c
    place _ (ArgumentOf.address e) = tt
    place _ (ArgumentOf.file i e f) = f.within
    place _ (ArgumentOf.range i e f) = f.within

    goes : (c : Kind) → ArgumentOf t x.kind c → is_direction c (is_read x.direction) (is_written x.direction) ≡ true
    goes _ (ArgumentOf.address e) = some_way x.direction
    goes _ (ArgumentOf.file i e f) = some_way x.direction
    goes _ (ArgumentOf.range i e f) =
        let at = from_flat_map range_of t.declarations f.it f.among in
        let is = to_any (declares_range x.kind.bytes) t.declarations at.0 at.1 (range_there x.kind.bytes at.0 f.it at.2 f.passes) in
        in_way x.direction (must (has (declares_range x.kind.bytes) t) (is_in x.direction) (when_none (has (declares_range x.kind.bytes) t && not (is_in x.direction)) x.name.place bad) is)

-- ---- links

pub data LinkOf (t : Tree) (n : List ℕ) : Kind → Type 0 where
  state : (i : ℕ) → Found (state_named n) (states t) i → LinkOf t n (kind.State i)
  input : (i : ℕ) → Found (queue_named n) (inputs t) i → LinkOf t n (kind.InQueue i)
  output : (i : ℕ) → Found (queue_named n) (outputs t) i → LinkOf t n (kind.OutQueue i)

link_there : (n : List ℕ) (x : Decl) → declares_link n x ≡ true
    → ((s : StateDecl) × In s (state_of x) × (state_named n s ≡ true)) ⊎ (((q : QueueDecl) × In q (input_of x) × (queue_named n q ≡ true)) ⊎ ((q : QueueDecl) × In q (output_of x) × (queue_named n q ≡ true)))
link_there n (d.State x) e = inl (_, inl refl, e)
link_there n (d.QueueIn x) e = inr (inl (_, inl refl, e))
link_there n (d.QueueOut x) e = inr (inr (_, inl refl, e))
link_there n _ e = absurd cc

pub link_of : (t : Tree) (x : Link) → Kept t → unknown_link t x ≡ [] → LinkOf t x.name.bytes (link_kind (states t) (inputs t) (outputs t) x.name.bytes)
link_of t x k u = by_places (position (state_named x.name.bytes) (states t)) (position (queue_named x.name.bytes) (inputs t)) (position (queue_named x.name.bytes) (outputs t)) refl refl refl
  where
    nowhere : list_any (state_named x.name.bytes) (states t) ≡ false → list_any (queue_named x.name.bytes) (inputs t) ≡ false → list_any (queue_named x.name.bytes) (outputs t) ≡ false → ⊥
    nowhere no_state no_in no_out =
        let at = any_in (declares_link x.name.bytes) t.declarations (not_false (has (declares_link x.name.bytes) t) (when_none (not (has (declares_link x.name.bytes) t)) x.name.place u)) in
        ⊎_elim
        (λ s. let yes = to_any (state_named x.name.bytes) (states t) s.0 (to_flat_map state_of t.declarations at.0 s.0 at.1 s.1) s.2 in absurd (let c : true ≡ false = sym yes ∙ no_state in cc))
        (λ q. ⊎_elim
        (λ s. let yes = to_any (queue_named x.name.bytes) (inputs t) s.0 (to_flat_map input_of t.declarations at.0 s.0 at.1 s.1) s.2 in absurd (let c : true ≡ false = sym yes ∙ no_in in cc))
        (λ s. let yes = to_any (queue_named x.name.bytes) (outputs t) s.0 (to_flat_map output_of t.declarations at.0 s.0 at.1 s.1) s.2 in absurd (let c : true ≡ false = sym yes ∙ no_out in cc))
        q)
        (link_there x.name.bytes at.0 at.2)

    by_places : (s i o : Option ℕ) → position (state_named x.name.bytes) (states t) ≡ s → position (queue_named x.name.bytes) (inputs t) ≡ i → position (queue_named x.name.bytes) (outputs t) ≡ o
        → LinkOf t x.name.bytes (state_or_queue s i o)
    by_places (Some j) i o es ei eo =
        let at = position_found (state_named x.name.bytes) (states t) j es in
        subst (λ m. LinkOf t x.name.bytes (kind.State m)) (sym (byte_small j (omega (arith, at.within, few_states t k)))) (LinkOf.state j at)
    by_places None (Some j) o es ei eo =
        let at = position_found (queue_named x.name.bytes) (inputs t) j ei in
        subst (λ m. LinkOf t x.name.bytes (kind.InQueue m)) (sym (byte_small j (omega (arith, at.within, few_inputs t k)))) (LinkOf.input j at)
    by_places None None (Some j) es ei eo =
        let at = position_found (queue_named x.name.bytes) (outputs t) j eo in
        subst (λ m. LinkOf t x.name.bytes (kind.OutQueue m)) (sym (byte_small j (omega (arith, at.within, few_outputs t k)))) (LinkOf.output j at)
    by_places None None None es ei eo =
        absurd (nowhere (position_none (state_named x.name.bytes) (states t) es) (position_none (queue_named x.name.bytes) (inputs t) ei) (position_none (queue_named x.name.bytes) (outputs t) eo))

input_there : (n : List ℕ) (x : Decl) (q : QueueDecl) → In q (input_of x) → queue_named n q ≡ true → declares_queue_in n x ≡ true
input_there n (d.QueueIn x) q (inl e) h = sym (ap (queue_named n) e) ∙ h
input_there n (d.QueueIn x) q (inr i) h = absurd i
input_there n _ q i h = absurd i

output_there : (n : List ℕ) (x : Decl) (q : QueueDecl) → In q (output_of x) → queue_named n q ≡ true → declares_queue_out n x ≡ true
output_there n (d.QueueOut x) q (inl e) h = sym (ap (queue_named n) e) ∙ h
output_there n (d.QueueOut x) q (inr i) h = absurd i
output_there n _ q i h = absurd i

pub good_link : (t : Tree) (results : List (List Node)) (x : Link) (p : Operand) (c : Kind) → LinkOf t x.name.bytes c → bad_queue t x ≡ []
    → p.name ≡ x.name.bytes → p.kind ≡ c → p.reads ≡ is_read x.direction → p.writes ≡ is_written x.direction → IsLink (described t results) p
good_link t results x p c a bad en ek er ew = record {
  kind = ap not (ap is_argument ek ∙ no_arg c a);
  place = subst (HasPlace (described t results)) (sym ek) (place c a);
  direction = ap (λ q. is_direction q p.reads p.writes) ek ∙ ap (λ b. is_direction c b p.writes) er ∙ ap (is_direction c (is_read x.direction)) ew ∙ goes c a;
  named = ap (link_name (described t results)) ek ∙ has_name c a ∙ ap Some (sym en);
}
  where
    no_arg : (c : Kind) → LinkOf t x.name.bytes c → is_argument c ≡ false
    no_arg _ (LinkOf.state i f) = refl
    no_arg _ (LinkOf.input i f) = refl
    no_arg _ (LinkOf.output i f) = refl

    place : (c : Kind) → LinkOf t x.name.bytes c → HasPlace (described t results) c
    place _ (LinkOf.state i f) = f.within
    place _ (LinkOf.input i f) = f.within
    place _ (LinkOf.output i f) = f.within

    has_name : (c : Kind) → LinkOf t x.name.bytes c → link_name (described t results) c ≡ Some x.name.bytes
    has_name _ (LinkOf.state i f) = ap (option_map (λ (s : StateDecl). s.name)) f.at ∙ ap Some (bytes_true f.it.name x.name.bytes f.passes)
    has_name _ (LinkOf.input i f) = ap (option_map (λ (s : QueueDecl). s.name)) f.at ∙ ap Some (bytes_true f.it.name x.name.bytes f.passes)
    has_name _ (LinkOf.output i f) = ap (option_map (λ (s : QueueDecl). s.name)) f.at ∙ ap Some (bytes_true f.it.name x.name.bytes f.passes)

    both : ((has (declares_queue_in x.name.bytes) t && not (is_in x.direction)) ≡ false) × ((has (declares_queue_out x.name.bytes) t && not (is_out x.direction)) ≡ false)
    both = or_none (has (declares_queue_in x.name.bytes) t && not (is_in x.direction)) (has (declares_queue_out x.name.bytes) t && not (is_out x.direction))
        (when_none ((has (declares_queue_in x.name.bytes) t && not (is_in x.direction)) || (has (declares_queue_out x.name.bytes) t && not (is_out x.direction))) x.name.place bad)

    goes : (c : Kind) → LinkOf t x.name.bytes c → is_direction c (is_read x.direction) (is_written x.direction) ≡ true
    goes _ (LinkOf.state i f) = some_way x.direction
    goes _ (LinkOf.input i f) =
        let at = from_flat_map input_of t.declarations f.it f.among in
        in_way x.direction (must (has (declares_queue_in x.name.bytes) t) (is_in x.direction) both.0 (to_any (declares_queue_in x.name.bytes) t.declarations at.0 at.1 (input_there x.name.bytes at.0 f.it at.2 f.passes)))
    goes _ (LinkOf.output i f) =
        let at = from_flat_map output_of t.declarations f.it f.among in
        out_way x.direction (must (has (declares_queue_out x.name.bytes) t) (is_out x.direction) both.1 (to_any (declares_queue_out x.name.bytes) t.declarations at.0 at.1 (output_there x.name.bytes at.0 f.it at.2 f.passes)))
