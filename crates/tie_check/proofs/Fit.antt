-- The results of all operations, one after the other.
use Rattle.std.proofs.Common.{◌≡◌, ℕ, ◌+◌, ◌<◌, List, [], ◌∷◌, ◌++◌, length, map, take, get_or, ap, sym, ◌∙◌}
use Rattle.std.specs.List.{flat_map}
use Rattle.std.proofs.lemmas.List.{take_more, map-append}
use Rattle.std.proofs.lemmas.Grind.{flat_map-append}
use Rattle.tie_expr.specs.declared.node.Node.{Node}
use Rattle.tie_grammar.specs.declared.tree.Operation.{Operation}
use Rattle.tie_grammar.specs.declared.tree.Decl.{Decl}
use Rattle.tie_grammar.specs.declared.tree.Decl.TheVariants as d
use Rattle.tie_grammar.specs.declared.tree.Tree.{Tree}
use Rattle.tie_results.specs.Results.{AreResults}
use Rattle.tie_description_law.specs.tie_describe.Operations.{operation_of}
use Rattle.tie_description_law.specs.Fits.{FitOperations}
use Rattle.tie_check.specs.Checked.{AllResults}

-- their widths and inputs fit
pub fit : (t : Tree) (os : List Operation) (rs : List (List Node)) → AllResults t os rs → FitOperations t os rs
fit t [] [] h = tt
fit t [] (r ∷ rs) h = h
fit t (o ∷ os) [] h = h
fit t (o ∷ os) (r ∷ rs) h = (record { widths = h.0.widths; over = h.0.over }, fit t os rs h.1)

-- those of some operations, and then those of more
pub joined : (t : Tree) (os ps : List Operation) (rs qs : List (List Node)) → AllResults t os rs → AllResults t ps qs → AllResults t (os ++ ps) (rs ++ qs)
joined t [] ps [] qs h k = k
joined t [] ps (r ∷ rs) qs h k = absurd h
joined t (o ∷ os) ps [] qs h k = absurd h
joined t (o ∷ os) ps (r ∷ rs) qs h k = (h.0, joined t os ps rs qs h.1 k)

ended : (t : Tree) (os : List Operation) (rs : List (List Node)) → AllResults t os rs → AllResults t (os ++ []) rs
ended t [] [] h = h
ended t [] (r ∷ rs) h = h
ended t (o ∷ os) [] h = h
ended t (o ∷ os) (r ∷ rs) h = (h.0, ended t os rs h.1)

before : (xs : List Decl) (k : ℕ) (x : Decl) (os : List Operation) → k < length xs → x ≡ get_or xs k x → operation_of x ≡ os
    → flat_map operation_of (take (k + 1) xs) ≡ flat_map operation_of (take k xs) ++ (os ++ [])
before xs k x os within e is =
    ap (flat_map operation_of) (take_more xs k x within ∙ ap (λ y. take k xs ++ y ∷ []) (sym e))
    ∙ flat_map-append operation_of (take k xs) (x ∷ [])
    ∙ ap (λ ps. flat_map operation_of (take k xs) ++ (ps ++ [])) is

-- one more declaration, an operation with its results
pub more : {V : Type 0} (f : V → List Node) (t : Tree) (xs : List Decl) (k : ℕ) (x : Decl) (o : Operation) (vs ws : List V) (v : V)
    → k < length xs → x ≡ get_or xs k x → x ≡ d.Operation o → ws ≡ vs ++ v ∷ [] → AllResults t (flat_map operation_of (take k xs)) (map f vs) → AreResults t o (f v)
    → AllResults t (flat_map operation_of (take (k + 1) xs)) (map f ws)
more f t xs k x o vs ws v within e is pushed all own =
    let operations = before xs k x (o ∷ []) within e (ap operation_of is) in
    let values : map f ws ≡ map f vs ++ f v ∷ [] = ap (map f) pushed ∙ map-append f vs (v ∷ []) in
    rw (operations, values) (joined t (flat_map operation_of (take k xs)) (o ∷ []) (map f vs) (f v ∷ []) all (own, tt))

-- one more declaration, of another sort
pub same : {V : Type 0} (f : V → List Node) (t : Tree) (xs : List Decl) (k : ℕ) (x : Decl) (vs ws : List V)
    → k < length xs → x ≡ get_or xs k x → operation_of x ≡ [] → ws ≡ vs → AllResults t (flat_map operation_of (take k xs)) (map f vs)
    → AllResults t (flat_map operation_of (take (k + 1) xs)) (map f ws)
same f t xs k x vs ws within e none kept all =
    let operations = before xs k x [] within e none in
    let values : map f ws ≡ map f vs = ap (map f) kept in
    rw (operations, values) (ended t (flat_map operation_of (take k xs)) (map f vs) all)
