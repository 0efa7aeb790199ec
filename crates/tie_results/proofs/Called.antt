-- A call of a function whose expression is kept.
use Rattle.std.proofs.Common.{◌≡◌, ℕ, zero, suc, ◌+◌, ◌-◌, ◌*◌, ◌^◌, ◌≤◌, ◌<◌, Bool, Option, List, [], ◌∷◌, ◌++◌, map, length, get_or, Some, slice_get, refl, ap, sym, subst, ◌∙◌, arith}
use Rattle.std.specs.List.{All, sum_by, count_by, flat_map, slice_index_or}
use Rattle.std.specs.Bool.{nat_eq}
use Rattle.std.proofs.lemmas.Simd.{map-map}
use Rattle.std.proofs.lemmas.List.Elements.{All-append, All-nil, All-map, All-get_or, All-same}
use Rattle.tie_expr.specs.Word.{Word}
use Rattle.tie_expr.specs.Meaning.{Meaning as Typed, constant_meaning}
use Rattle.tie_expr.specs.Tree as typed
use Rattle.tie_expr.specs.Tree.{Input}
use Rattle.tie_expr.specs.Size.{node_weight, size_limit}
use Rattle.tie_expr.specs.Substitute.{IsOver, argument_values, substitute_meaning, substitute_inputs, substitute_size}
use Rattle.tie_expr.specs.declared.node.Node.{Node}
use Rattle.tie_mean.specs.Counts.{weighted}
use Rattle.tie_translate.specs.Translation.{call_typed, widths_of as typed_widths}
use Rattle.tie_translate.specs.Bounds.{IsWithin, IsCallBounded, call_size, occurrences, name_room, node_size, expression_limit}
use Rattle.tie_results.specs.Bodies.{Calls, Body, widths_of, env_behind, bounds_of, input_widths, IsCallee, IsUnknown}
use Rattle.tie_results.proofs.Weighted.{sum_at_reads, count_at_reads}

-- ---- what a call gives

values_are : (args : List Typed) (env : List Word) → map (λ (w : Word). w.value) (argument_values args env) ≡ map (λ a. a.at env) args
values_are args env = map-map (λ (w : Word). w.value) (λ (a : Typed). record { width = a.width; value = a.at env }) args

widths_are : (args : List Typed) (env : List Word) → map (λ (w : Word). w.width) (argument_values args env) ≡ typed_widths args
widths_are args env = map-map (λ (w : Word). w.width) (λ (a : Typed). record { width = a.width; value = a.at env }) args

below : (args : List Node) (env : List Word) → All (λ a. (env : List Word) → (typed.meaning a).at env < 2 ^ (typed.meaning a).width) args
    → All (λ (w : Word). w.value < 2 ^ w.width) (argument_values (map typed.meaning args) env)
below args env so =
    All-map (λ (w : Word). w.value < 2 ^ w.width) (λ (a : Typed). record { width = a.width; value = a.at env }) (map typed.meaning args)
    (All-map (λ (a : Typed). a.at env < 2 ^ a.width) typed.meaning args (λ k d h. so k d h env))

pub call_means : (b : Body) (k : ℕ) (name : List ℕ) (body : Node) (args : List Node) (m : Typed) → IsCallee b.calls name body → typed_widths (map typed.meaning args) ≡ b.calls.parameters name
    → All (λ a. (env : List Word) → (typed.meaning a).at env < 2 ^ (typed.meaning a).width) args → m ≡ substitute_meaning (typed.meaning body) (map typed.meaning args)
    → m ≡ call_typed (widths_of b) (env_behind b k) name (map typed.meaning args)
call_means b k name body args m callee fit so is =
    is ∙ (λ i. record {
      width = callee.width i;
      at = λ env. gives env i;
    })
  where
    gives : (env : List Word) → (typed.meaning body).at (argument_values (map typed.meaning args) env) ≡ b.calls.gives name (map (λ (a : Typed). a.at env) (map typed.meaning args))
    gives env =
        callee.values (argument_values (map typed.meaning args) env) (widths_are (map typed.meaning args) env ∙ fit) (below args env so)
        ∙ ap (b.calls.gives name) (values_are (map typed.meaning args) env)

-- ---- its bounds

pub arguments_over : (name : List ℕ) (b : Body) (body : Node) (args : List Node) → IsCallee b.calls name body → typed_widths (map typed.meaning args) ≡ b.calls.parameters name
    → IsOver (map (λ a. (typed.meaning a).width) args) (typed.inputs body)
arguments_over name b body args callee fit =
    subst (λ (ws : List ℕ). IsOver ws (typed.inputs body)) (sym (sym (map-map (λ (t : Typed). t.width) typed.meaning args) ∙ fit)) callee.over

pub call_small : (b : Body) (name : List ℕ) (body : Node) (args : List Node) → IsCallee b.calls name body
    → node_size * b.calls.counts.call name + weighted (b.calls.counts.times name) 0 (map typed.size args) ≤ expression_limit
    → substitute_size (typed.size body) (typed.inputs body) (map typed.size args) ≤ size_limit
call_small b name body args callee few =
    let most = sum_at_reads (b.calls.counts.times name) (typed.inputs body) (map typed.size args) (λ k. let often = callee.often k in omega (arith, often)) in
    let small = callee.small in
    omega (arith, most, small, few)

over_all : (ws : List ℕ) (xs : List Input) (rows : List (List Input)) → All (λ row. IsOver ws row) rows → IsOver ws (flat_map (λ (x : Input). slice_index_or rows x.index []) xs)
over_all ws [] rows so = All-nil _
over_all ws (x ∷ xs) rows so =
    All-append (λ (i : Input). slice_get ws i.index ≡ Some i.width) (slice_index_or rows x.index []) (flat_map (λ (y : Input). slice_index_or rows y.index []) xs) (row_over rows x.index so) (over_all ws xs rows so)
  where
    row_over : (rs : List (List Input)) (i : ℕ) → All (λ row. IsOver ws row) rs → IsOver ws (slice_index_or rs i [])
    row_over [] i so = All-nil _
    row_over (r ∷ rs) zero so = so 0 r (omega arith)
    row_over (r ∷ rs) (suc i) so = row_over rs i (λ k d h. so (suc k) d (omega (arith, h)))

pub call_bounded : (b : Body) (made : List (Option Node)) (k : ℕ) (name : List ℕ) (body e : Node) (args : List Node) → IsCallee b.calls name body
    → All (λ a. IsOver (input_widths b) (typed.inputs a)) args
    → typed.inputs e ≡ substitute_inputs (typed.inputs body) (map typed.inputs args)
    → typed.size e ≡ substitute_size (typed.size body) (typed.inputs body) (map typed.size args)
    → IsCallBounded (bounds_of b made k) name_room name args e
call_bounded b made k name body e args callee over inputs size = record {
  over = subst (IsOver (input_widths b)) (sym inputs) (over_all (input_widths b) (typed.inputs body) (map typed.inputs args) (All-map (λ (row : List Input). IsOver (input_widths b) row) typed.inputs args over));
  small =
      let most = sum_at_reads (b.calls.counts.times name) (typed.inputs body) (map typed.size args) (λ j. let often = callee.often j in omega (arith, often)) in
      let small = callee.small in
      omega (arith, most, small, size);
  often = λ j.
      let p : Input → Bool = λ x. nat_eq x.index j in
      let whole : occurrences j e ≡ sum_by (λ (x : Input). slice_index_or (map (occurrences j) args) x.index 0) (typed.inputs body) =
      ap (count_by p) inputs ∙ count_at_reads j (typed.inputs body) (map typed.inputs args)
      ∙ ap (λ (gs : List ℕ). sum_by (λ (x : Input). slice_index_or gs x.index 0) (typed.inputs body)) (map-map (count_by p) typed.inputs args) in
      let most = sum_at_reads (b.calls.counts.times name) (typed.inputs body) (map (occurrences j) args) (λ i. let often = callee.often i in omega (arith, often)) in
      omega (arith, whole, most);
}

-- ---- a function that isn't seen

pub unknown_means : (b : Body) (k : ℕ) (name : List ℕ) (args : List Typed) (w : ℕ) (m : Typed) → IsUnknown b.calls name → w ≡ b.calls.width name
    → m ≡ constant_meaning (record { width = w; value = 0 }) → m ≡ call_typed (widths_of b) (env_behind b k) name args
unknown_means b k name args w m unknown width is =
    is ∙ (λ i. record { width = width i; at = λ env. sym (unknown.gives (map (λ (a : Typed). a.at env) args)) i })

pub unknown_bounded : (b : Body) (made : List (Option Node)) (k : ℕ) (name : List ℕ) (e : Node) (args : List Node) → IsUnknown b.calls name → typed.inputs e ≡ [] → typed.size e ≡ node_weight
    → IsCallBounded (bounds_of b made k) name_room name args e
unknown_bounded b made k name e args unknown inputs size = record {
  over = subst (IsOver (input_widths b)) (sym inputs) (All-nil _);
  small = let one = unknown.call in omega (arith, one, size);
  often = λ j. let none : occurrences j e ≡ 0 = ap (count_by (λ (x : Input). nat_eq x.index j)) inputs in omega (arith, none);
}
