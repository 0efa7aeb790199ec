-- The width of the first of a name.
use Rattle.std.proofs.Common.{◌≡◌, ℕ, List, [], ◌∷◌, ◌++◌, Option, Some, None, Bool, true, false, cond, refl, ap, sym, ◌∙◌, map, unwrap_or, ◌+◌, ◌<◌, drop, take, length, get_or, append_assoc}
use Rattle.std.specs.List.{flat_map}
use Rattle.std.proofs.lemmas.List.Concat.{flat_map_single}
use Rattle.std.proofs.lemmas.List.{map-append}
use Rattle.tie_mean.specs.Sizes.{limited}
use Rattle.tie_mean.specs.Names.{Declared, is_named, width_in, functions, function_declared, function_of, tables, table_declared, table_of, parameter_declared, argument_declared, link_width, wire_declared, wires, function_names, operation_names}
use Rattle.tie_grammar.specs.declared.tree.Function.{Function}
use Rattle.tie_grammar.specs.declared.tree.Operation.{Operation}
use Rattle.tie_grammar.specs.declared.tree.Tree.{Tree}
use Rattle.tie_rules.proofs.Places.{next_of, taken_of}
use Rattle.tie_rules.specs.Widths.{found, either, of_table, of_function, of_parameter, of_argument, of_link, one}

pub found-append : (xs ys : List Declared) (name : List ℕ) → found (xs ++ ys) name ≡ either (found xs name) (found ys name)
found-append [] ys name = refl
found-append (x ∷ xs) ys name = by_test (is_named name x.name) (found-append xs ys name)
  where
    by_test : (b : Bool) → found (xs ++ ys) name ≡ either (found xs name) (found ys name) → cond b (Some (limited x.width)) (found (xs ++ ys) name) ≡ either (cond b (Some (limited x.width)) (found xs name)) (found ys name)
    by_test true again = refl
    by_test false again = again

pub found_width : (xs : List Declared) (name : List ℕ) → unwrap_or (found xs name) 0 ≡ limited (width_in xs name)
found_width [] name = refl
found_width (x ∷ xs) name = by_test (is_named name x.name) (found_width xs name)
  where
    by_test : (b : Bool) → unwrap_or (found xs name) 0 ≡ limited (width_in xs name) → unwrap_or (cond b (Some (limited x.width)) (found xs name)) 0 ≡ limited (cond b x.width (width_in xs name))
    by_test true again = refl
    by_test false again = again

append_none : (xs : List Declared) → xs ++ [] ≡ xs
append_none [] = refl
append_none (x ∷ xs) = ap (λ ys. x ∷ ys) (append_none xs)

flat_map-snoc : {A : Type 0} (d : A → List Declared) (xs : List A) (x : A) → flat_map d (xs ++ x ∷ []) ≡ flat_map d xs ++ d x
flat_map-snoc d [] x = append_none (d x)
flat_map-snoc d (y ∷ ys) x = ap (λ zs. d y ++ zs) (flat_map-snoc d ys x) ∙ sym (append_assoc (d y) (flat_map d ys) (d x))

map_in : {A B C : Type 0} (g : B → C) (f : A → List B) (xs : List A) → flat_map (λ x. map g (f x)) xs ≡ map g (flat_map f xs)
map_in g f [] = refl
map_in g f (x ∷ xs) = ap (λ z. map g (f x) ++ z) (map_in g f xs) ∙ sym (map-append g (f x) (flat_map f xs))

pub table_found : (t : Tree) (name : List ℕ) → unwrap_or (found (flat_map of_table t.declarations) name) 0 ≡ limited (width_in (map table_declared (tables t)) name)
table_found t name =
    found_width (flat_map of_table t.declarations) name ∙ ap (λ (xs : List Declared). limited (width_in xs name)) (map_in table_declared table_of t.declarations)

pub function_found : (t : Tree) (name : List ℕ) → unwrap_or (found (flat_map of_function t.declarations) name) 0 ≡ limited (width_in (map function_declared (functions t)) name)
function_found t name =
    found_width (flat_map of_function t.declarations) name ∙ ap (λ (xs : List Declared). limited (width_in xs name)) (map_in function_declared function_of t.declarations)

three : (xs ys zs : List Declared) (name : List ℕ) → found ((xs ++ ys) ++ zs) name ≡ either (either (found xs name) (found ys name)) (found zs name)
three xs ys zs name = found-append (xs ++ ys) zs name ∙ ap (λ o. either o (found zs name)) (found-append xs ys name)

pub seen_function : (f : Function) (name : List ℕ)
    → either (either (found (flat_map of_parameter f.parameters) name) (found (flat_map wire_declared f.items) name)) (one (function_declared f) name) ≡ found (function_names f) name
seen_function f name =
    ap (λ (xs : List Declared). either (either (found xs name) (found (wires f.items) name)) (one (function_declared f) name)) (flat_map_single parameter_declared f.parameters)
    ∙ sym (three (map parameter_declared f.parameters) (wires f.items) (function_declared f ∷ []) name)

pub seen_operation : (t : Tree) (o : Operation) (name : List ℕ)
    → either (either (found (flat_map (of_argument t) o.arguments) name) (found (flat_map (of_link t) o.links) name)) (found (flat_map wire_declared o.items) name) ≡ found (operation_names t o) name
seen_operation t o name =
    ap (λ (xs : List Declared). either (either (found xs name) (found (flat_map (of_link t) o.links) name)) (found (wires o.items) name)) (flat_map_single (argument_declared t) o.arguments)
    ∙ ap (λ (xs : List Declared). either (either (found (map (argument_declared t) o.arguments) name) (found xs name)) (found (wires o.items) name)) (flat_map_single (link_width t) o.links)
    ∙ sym (three (map (argument_declared t) o.arguments) (map (link_width t) o.links) (wires o.items) name)

either_assoc : (a b c : Option ℕ) → either (either a b) c ≡ either a (either b c)
either_assoc None b c = refl
either_assoc (Some a) b c = refl

-- the widths of one more of several things, behind what is kept
pub keep_next : {A : Type 0} (d : A → List Declared) (q : List ℕ) (xs : List A) (i : ℕ) (x : A) (first before after : Option ℕ) → i < length xs → x ≡ get_or xs i x
    → before ≡ either first (found (flat_map d (take i xs)) q) → after ≡ either before (found (d x) q) → after ≡ either first (found (flat_map d (take (i + 1) xs)) q)
keep_next d q xs i x first before after h e was is =
    is ∙ ap (λ o. either o (found (d x) q)) was ∙ either_assoc first (found (flat_map d (take i xs)) q) (found (d x) q)
    ∙ ap (either first) (sym (found-append (flat_map d (take i xs)) (d x) q) ∙ ap (λ ys. found ys q) (sym (flat_map-snoc d (take i xs) x) ∙ ap (flat_map d) (taken_of xs i x h e)))

-- one more of several things
pub among_next : {A : Type 0} (d : A → List Declared) (name : List ℕ) (xs : List A) (i : ℕ) (x : A) (total : Option ℕ) → i < length xs → x ≡ get_or xs i x
    → found (flat_map d (drop i xs)) name ≡ total → either (found (d x) name) (found (flat_map d (drop (i + 1) xs)) name) ≡ total
among_next d name xs i x total h e inv =
    sym (found-append (d x) (flat_map d (drop (i + 1) xs)) name) ∙ ap (λ ys. found (flat_map d ys) name) (sym (next_of xs i x h e)) ∙ inv

pub ruleset found_lemmas = (found-append, found_width, table_found, function_found, seen_function, seen_operation)
