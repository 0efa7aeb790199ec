-- Operations of a text that keeps the rules, with results that fit.
use Rattle.std.proofs.Common.{◌≡◌, ◌⊎◌, inl, inr, ⊎_elim, ℕ, ◌+◌, ◌<◌, ◌≤◌, List, [], ◌∷◌, ◌++◌, Bool, true, false, not, ◌||◌, ◌&&◌, ltb, map, refl, ap, sym, subst, ◌∙◌, arith, length}
use Rattle.std.specs.List.{flat_map, All}
use borrow.Author.Tests.{ltb-false}
use Rattle.tie_expr.specs.declared.node.Node.{Node}
use Rattle.tie_expr.specs.Tree.{meaning, inputs as node_inputs}
use Rattle.tie_expr.specs.Substitute.{IsOver}
use Rattle.tie_mean.specs.Names.{width_in, operation_names, argument_if, link_if, is_read, is_written, written, read}
use Rattle.tie_grammar.specs.declared.tree.Argument.{Argument}
use Rattle.tie_grammar.specs.declared.tree.Link.{Link}
use Rattle.tie_grammar.specs.declared.tree.Operation.{Operation}
use Rattle.tie_grammar.specs.declared.tree.Decl.{Decl}
use Rattle.tie_grammar.specs.declared.tree.Decl.TheVariants as d
use Rattle.tie_grammar.specs.declared.tree.Tree.{Tree}
use Rattle.tie_describe.specs.tie_rules.Least.{when}
use Rattle.tie_describe.specs.tie_rules.Declarations.{too_many_args_at}
use Rattle.tie_describe.specs.tie_rules.Bodies.{unknown_kind, unknown_link, unknown_name_at, bad_immediate, bad_queue, direction_at}
use Rattle.tie_desc.specs.Operands.{operands, widths}
use Rattle.tie_desc.specs.Invariant.{IsArgument, IsLink, IsOperation}
use Rattle.tie_desc.specs.declared.declarations.Operand.{Operand}
use Rattle.tie_desc.specs.declared.declarations.OpDecl.{OpDecl}
use Rattle.tie_describe.specs.Operations.{states, files, ranges, inputs, outputs, argument_kind, link_kind, argument, link, operation, operations, with_results}
use Rattle.tie_describe.specs.Described.{ops, described}
use Rattle.tie_description_law.specs.Fits.{FitsOperation, FitOperations, ResultsFit}
use Rattle.tie_description_law.proofs.Elements.{In, all_from, map_length, from_map, or_none, none_both, when_none, none_at}
use Rattle.tie_description_law.proofs.NamesDiffer.{in_decls}
use Rattle.tie_description_law.proofs.OperandKinds.{ArgumentOf, LinkOf, argument_of, link_of, good_argument, good_link}
use Rattle.tie_description_law.proofs.OperandNames.{Local, local, argument_clash, operands_differ}
use Rattle.tie_description_law.proofs.Stages.{stages_good}
use Rattle.tie_description_law.proofs.OperandWidths.{side_widths}
use Rattle.tie_description_law.proofs.Kept.{Kept}

-- what the rules say of the operands of one operation
pub record Operands (t : Tree) (o : Operation) : Type 0 where
  pub few : (length o.arguments ≤ 3) × (length o.links ≤ 8)
  pub arguments : (x : Argument) → In x o.arguments → ArgumentOf t x.kind (argument_kind (files t) (ranges t) x.kind)
  pub links : (x : Link) → In x o.links → LinkOf t x.name.bytes (link_kind (states t) (inputs t) (outputs t) x.name.bytes)
  pub immediates : (x : Argument) → In x o.arguments → bad_immediate t x ≡ []
  pub queues : (x : Link) → In x o.links → bad_queue t x ≡ []

pub operands_of : (t : Tree) (o : Operation) → Kept t → In (d.Operation o) t.declarations → Operands t o
operands_of t o k i =
    let count = or_none (ltb 3 (length o.arguments)) (ltb 8 (length o.links)) (when_none (ltb 3 (length o.arguments) || ltb 8 (length o.links)) o.name.place (none_at too_many_args_at t.declarations k.too_many_args (d.Operation o) i)) in
    let unknown = none_both (flat_map (unknown_kind t) o.arguments) (flat_map (unknown_link t) o.links) (none_both (flat_map (unknown_kind t) o.arguments ++ flat_map (unknown_link t) o.links) _ (none_at (unknown_name_at t) t.declarations k.unknown_name (d.Operation o) i)).0 in
    let way = none_both (flat_map (bad_immediate t) o.arguments) (flat_map (bad_queue t) o.links) (none_both (flat_map (bad_immediate t) o.arguments ++ flat_map (bad_queue t) o.links) _ (none_at (direction_at t) t.declarations k.direction (d.Operation o) i)).0 in
    record {
      few = (ltb-false _ _ count.0, ltb-false _ _ count.1);
      arguments = λ x j. argument_of t x k (none_at (unknown_kind t) o.arguments unknown.0 x j);
      links = λ x j. link_of t x k (none_at (unknown_link t) o.links unknown.1 x j);
      immediates = λ x j. none_at (bad_immediate t) o.arguments way.0 x j;
      queues = λ x j. none_at (bad_queue t) o.links way.1 x j;
    }

good_operation : (t : Tree) (results : List (List Node)) (o : Operation) (r : List Node) → Kept t → In (d.Operation o) t.declarations → FitsOperation t o r → IsOperation (described t results) (operation t o r)
good_operation t results o r k i fits =
    let h = local t o k i in
    let known = operands_of t o k i in
    record {
      few_args = omega (arith, known.few.0, map_length (argument t o) o.arguments);
      few_links = omega (arith, known.few.1, map_length (link t o) o.links);
      args = all_from (IsArgument (described t results)) (map (argument t o) o.arguments) (λ p j.
          let at = from_map (argument t o) o.arguments p j in
          let x = at.0 in
          subst (IsArgument (described t results)) (sym at.2) (
          good_argument t results x (argument t o x) (argument_kind (files t) (ranges t) x.kind) k (known.arguments x at.1) (known.immediates x at.1) (argument_clash t o h x at.1) refl refl refl refl
          ));
      links = all_from (IsLink (described t results)) (map (link t o) o.links) (λ p j.
          let at = from_map (link t o) o.links p j in
          let x = at.0 in
          subst (IsLink (described t results)) (sym at.2) (
          good_link t results x (link t o x) (link_kind (states t) (inputs t) (outputs t) x.name.bytes) (known.links x at.1) (known.queues x at.1) refl refl refl refl
          ));
      names = operands_differ t o r h;
      stages = stages_good t o r k;
      results = fits.widths ∙ side_widths t results o r is_written (λ p. p.writes) k h known.arguments known.links (λ x. refl) (λ x. refl);
      over = subst (λ ws. All (λ e. IsOver ws (node_inputs e)) r) (side_widths t results o r is_read (λ p. p.reads) k h known.arguments known.links (λ x. refl) (λ x. refl)) fits.over;
    }

from_fitting : (t : Tree) (os : List Operation) (rs : List (List Node)) (p : OpDecl) → FitOperations t os rs → In p (with_results t os rs)
    → (o : Operation) × (r : List Node) × In o os × FitsOperation t o r × (p ≡ operation t o r)
from_fitting t [] rs p f h = absurd h
from_fitting t (o ∷ os) [] p f h = absurd f
from_fitting t (o ∷ os) (r ∷ rs) p f (inl e) = (o, r, inl refl, f.0, e)
from_fitting t (o ∷ os) (r ∷ rs) p f (inr h) = let x = from_fitting t os rs p f.1 h in (x.0, x.1, inr x.2, x.3, x.4)

pub all_operations : (t : Tree) (results : List (List Node)) → Kept t → ResultsFit t results → All (IsOperation (described t results)) (ops t results)
all_operations t results k fit = all_from (IsOperation (described t results)) (ops t results) (λ p i.
    let at = from_fitting t (operations t) results p fit i in
    subst (IsOperation (described t results)) (sym at.4) (good_operation t results at.0 at.1 k (in_decls t at.0 at.2) at.3))
