-- The results of an operation, from the results of its body.
use Rattle.std.proofs.Common.{◌≡◌, ℕ, zero, suc, ◌+◌, ◌*◌, ◌^◌, ◌≤◌, ◌<◌, Bool, true, List, [], ◌∷◌, map, length, sum, nat_le, None, refl, ap, sym, subst, ◌∙◌, arith}
use Rattle.std.specs.List.{All, sum_by, list_all}
use Rattle.std.proofs.lemmas.Bool.{and_from, le-leb}
use Rattle.std.proofs.lemmas.List.Elements.{All-cons, All-nil}
use Rattle.std.proofs.lemmas.List.Sums.{sum_by-cons, sum-map}
use Rattle.tie_expr.specs.Word.{Word}
use Rattle.tie_expr.specs.Meaning.{Meaning as Typed}
use Rattle.tie_expr.specs.Tree as typed
use Rattle.tie_expr.specs.Substitute.{IsOver}
use Rattle.tie_expr.specs.declared.node.Node.{Node}
use Rattle.tie_mean.specs.Names.{read, written, width_in, operation_names}
use Rattle.tie_mean.specs.Counts.{operation_count}
use Rattle.tie_mean.specs.Operations.{last_value, operation_values}
use Rattle.tie_translate.specs.Bounds.{node_limit}
use Rattle.tie_grammar.specs.declared.tree.Operation.{Operation}
use Rattle.tie_grammar.specs.declared.tree.Tree.{Tree}
use Rattle.tie_results.specs.Results.{AreResults, read_widths, written_widths}
use Rattle.tie_results.specs.Bodies.{Body, seen_of, input_widths, inputs_of, last_count, AreResultsOf}
use Rattle.tie_results.specs.Translated.{operation_body}
use Rattle.tie_results.proofs.Masks.{values_as_given}

result_widths : (b : Body) (ns : List (List ℕ)) (es : List Node) → AreResultsOf b ns es → map (λ e. (typed.meaning e).width) es ≡ map b.name ns
result_widths b [] [] so = refl
result_widths b [] (e ∷ es) so = absurd so
result_widths b (n ∷ ns) [] so = absurd so
result_widths b (n ∷ ns) (e ∷ es) so =
    ap (λ (m : Typed). m.width ∷ map (λ f. (typed.meaning f).width) es) so.0.means ∙ ap (λ ws. b.name n ∷ ws) (result_widths b ns es so.1)

result_over : (b : Body) (ns : List (List ℕ)) (es : List Node) → AreResultsOf b ns es → All (λ e. IsOver (input_widths b) (typed.inputs e)) es
result_over b [] [] so = All-nil _
result_over b [] (e ∷ es) so = absurd so
result_over b (n ∷ ns) [] so = absurd so
result_over b (n ∷ ns) (e ∷ es) so = All-cons (λ (f : Node). IsOver (input_widths b) (typed.inputs f)) e es so.0.bounds.over (result_over b ns es so.1)

result_values : (b : Body) (words : List Word) (args : List ℕ) (ns : List (List ℕ)) (es : List Node) → inputs_of b words ≡ args → AreResultsOf b ns es
    → map (λ e. (typed.meaning e).at words) es ≡ map (last_value (seen_of b) b.inputs args b.items) ns
result_values b words args [] [] given so = refl
result_values b words args [] (e ∷ es) given so = absurd so
result_values b words args (n ∷ ns) [] given so = absurd so
result_values b words args (n ∷ ns) (e ∷ es) given so =
    ap (λ (m : Typed). m.at words ∷ map (λ f. (typed.meaning f).at words) es) so.0.means
    ∙ ap (λ (vs : List ℕ). last_value (seen_of b) b.inputs vs b.items n ∷ map (λ f. (typed.meaning f).at words) es) given
    ∙ ap (λ vs. last_value (seen_of b) b.inputs args b.items n ∷ vs) (result_values b words args ns es given so.1)

result_sizes : (b : Body) (ns : List (List ℕ)) (es : List Node) → AreResultsOf b ns es → sum_by typed.size es ≤ 200 * sum (map (λ n. last_count b n None) ns)
result_sizes b [] [] so = omega arith
result_sizes b [] (e ∷ es) so = absurd so
result_sizes b (n ∷ ns) [] so = absurd so
result_sizes b (n ∷ ns) (e ∷ es) so =
    let sizes = sum_by-cons typed.size e es in
    let counts : sum (map (λ m. last_count b m None) (n ∷ ns)) ≡ last_count b n None + sum (map (λ m. last_count b m None) ns) =
    sum-map (λ m. last_count b m None) (n ∷ ns) ∙ sum_by-cons (λ m. last_count b m None) n ns ∙ ap (λ k. last_count b n None + k) (sym (sum-map (λ m. last_count b m None) ns)) in
    let here = so.0.bounds.small in
    let rest = result_sizes b ns es so.1 in
    omega (arith, sizes, counts, here, rest)

pub results_are : (t : Tree) (o : Operation) (es : List Node) → AreResultsOf (operation_body t o) (written o) es → AreResults t o es
results_are t o es so = record {
  widths = result_widths (operation_body t o) (written o) es so;
  over = result_over (operation_body t o) (written o) es so;
  values = λ reads fit below. result_values (operation_body t o) reads (map (λ (w : Word). w.value) reads) (written o) es (values_as_given (read_widths t o) reads fit below) so;
  small = result_sizes (operation_body t o) (written o) es so;
}

-- each result has few nodes
few_each : (b : Body) (ns : List (List ℕ)) (n : ℕ) → sum (map (λ m. last_count b m None) ns) ≤ n → n ≤ node_limit → list_all (λ m. nat_le (last_count b m None) node_limit) ns ≡ true
few_each b [] n h small = refl
few_each b (m ∷ ms) n h small =
    let counts : sum (map (λ k. last_count b k None) (m ∷ ms)) ≡ last_count b m None + sum (map (λ k. last_count b k None) ms) =
    sum-map (λ k. last_count b k None) (m ∷ ms) ∙ sum_by-cons (λ k. last_count b k None) m ms ∙ ap (λ j. last_count b m None + j) (sym (sum-map (λ k. last_count b k None) ms)) in
    and_from (nat_le (last_count b m None) node_limit) (list_all (λ k. nat_le (last_count b k None) node_limit) ms)
    (le-leb (last_count b m None) node_limit (omega (arith, counts, h, small)))
    (few_each b ms n (omega (arith, counts, h)) small)

pub few_results : (t : Tree) (o : Operation) → operation_count t o ≤ 4096 → list_all (λ m. nat_le (last_count (operation_body t o) m None) node_limit) (written o) ≡ true
few_results t o h = few_each (operation_body t o) (written o) (operation_count t o) (omega arith) h
