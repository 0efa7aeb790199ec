-- The results of a body, from what was made of its items.
use Rattle.std.proofs.Common.{◌≡◌, ℕ, zero, suc, ◌+◌, ◌≤◌, ◌<◌, Bool, true, false, List, [], ◌∷◌, ◌++◌, length, map, get_or, take, Option, Some, None, refl, ap, sym, subst, ◌∙◌, arith}
use Rattle.std.specs.Borrow.{Bor}
use Rattle.std.specs.List.{count_by, list_all}
use Rattle.std.specs.Bool.{nat_eq}
use Rattle.std.proofs.lemmas.Bool.{and_parts}
use Rattle.std.proofs.lemmas.List.{map-append}
use Rattle.tie_expr.specs.Word.{Word}
use Rattle.tie_expr.specs.Tree as typed
use Rattle.tie_expr.specs.Tree.{Input}
use Rattle.tie_expr.specs.Substitute.{IsOver}
use Rattle.tie_expr.specs.declared.node.Node.{Node}
use Rattle.tie_mean.specs.Names.{Setting, setting_at, sets}
use Rattle.tie_mean.specs.Setters.{setter, leaf_names, give_setting, give_at}
use Rattle.tie_mean.specs.Counts.{Counted, value_count}
use Rattle.tie_mean.specs.Operations.{set_value, last_value}
use Rattle.tie_mean.proofs.Setting.{last_set_at, setter_sets}
use Rattle.tie_translate.specs.Bounds.{occurrences}
use Rattle.tie_grammar.specs.declared.symbol.Leaf.{Leaf}
use Rattle.tie_results.specs.Bodies.{Body, widths_of, seen_of, input_widths, input_name, inputs_of, names_behind, name_counts, setting_count, last_typed, last_count, Keeps, made_at, AreMade, IsMadeOf, IsResult, AreResultsOf}
use Rattle.tie_results.proofs.Declared.{taken_of}
use Rattle.tie_results.proofs.Inputs.{same_bytes}

-- a test of the names of leaves
pub leaf_passes : (p : List ℕ → Bool) (leaves : List (Bor Leaf)) (i : ℕ) (leaf : Bor Leaf) → i < length leaves → leaf ≡ get_or leaves i leaf → list_all p (leaf_names leaves) ≡ true → p leaf.now.bytes ≡ true
leaf_passes p [] i leaf h e all = absurd (omega (arith, h))
leaf_passes p (x ∷ xs) zero leaf h e all = ap (λ (l : Bor Leaf). p l.now.bytes) e ∙ (and_parts (p x.now.bytes) (list_all p (leaf_names xs)) all).0
leaf_passes p (x ∷ xs) (suc i) leaf h e all = leaf_passes p xs i leaf (omega (arith, h)) e (and_parts (p x.now.bytes) (list_all p (leaf_names xs)) all).1

last_here : (b : Body) (name : List ℕ) (at : ℕ) (s : Setting) (words : List Word) → setter b.items (length b.items) name ≡ Some at → setting_at b.items at ≡ Some s
    → set_value (seen_of b) (names_behind b words at) s.name s.value ≡ last_value (seen_of b) b.inputs (inputs_of b words) b.items name
last_here b name at s words e is =
    sym (last_set_at (set_value (seen_of b)) (names_behind b words) 0 b.items (length b.items) name
    ∙ ap (λ o. give_at (set_value (seen_of b)) (names_behind b words) b.items o 0) e
    ∙ ap (λ o. give_setting (set_value (seen_of b)) (names_behind b words at) o 0) is)

last_counts : (b : Body) (name : List ℕ) (at : ℕ) (s : Setting) (what : Counted) → setter b.items (length b.items) name ≡ Some at → setting_at b.items at ≡ Some s
    → setting_count b what at (Some s) ≡ last_count b name what
last_counts b name at s what e is =
    sym (last_set_at (value_count what b.calls.counts) (name_counts b what) 0 b.items (length b.items) name
    ∙ ap (λ o. give_at (value_count what b.calls.counts) (name_counts b what) b.items o 0) e
    ∙ ap (λ o. give_setting (value_count what b.calls.counts) (name_counts b what at) o 0) is)

from_item : (b : Body) (name : List ℕ) (at : ℕ) (e f : Node) (o : Option Setting) → setter b.items (length b.items) name ≡ Some at → setting_at b.items at ≡ o → IsMadeOf b at o e
    → typed.meaning f ≡ typed.meaning e → typed.inputs f ≡ typed.inputs e → typed.size f ≡ typed.size e → IsResult b name f
from_item b name at e f None set is made means inputs size = absurd made
from_item b name at e f (Some s) set is made means inputs size =
    let named : s.name.bytes ≡ name = same_bytes s.name.bytes name (ap (sets name) (sym is) ∙ setter_sets b.items (length b.items) name at set) in
    record {
      means = means ∙ made.means ∙ (λ i. record { width = b.name (named i); at = λ words. last_here b name at s words set is i });
      bounds = record {
        over = subst (IsOver (input_widths b)) (sym inputs) made.bounds.over;
        small = let small = made.bounds.small in let count = last_counts b name at s None set is in omega (arith, small, count, size);
        often = λ j.
            let same : occurrences j f ≡ occurrences j e = ap (count_by (λ (x : Input). nat_eq x.index j)) inputs in
            let often = made.bounds.often j in
            let count = last_counts b name at s (Some (input_name b j)) set is in
            omega (arith, same, often, count);
      };
    }

pub result_made : (b : Body) (made : List (Option Node)) (name : List ℕ) (at : ℕ) (e f : Node) → setter b.items (length b.items) name ≡ Some at → AreMade b made → made_at made at ≡ Some e
    → typed.meaning f ≡ typed.meaning e → typed.inputs f ≡ typed.inputs e → typed.size f ≡ typed.size e → IsResult b name f
result_made b made name at e f set so is means inputs size = from_item b name at e f (setting_at b.items at) set refl (so at e is) means inputs size

results_push : (b : Body) (ns : List (List ℕ)) (es : List Node) (n : List ℕ) (e : Node) → AreResultsOf b ns es → IsResult b n e → AreResultsOf b (ns ++ n ∷ []) (es ++ e ∷ [])
results_push b [] [] n e so one = (one, tt)
results_push b [] (f ∷ fs) n e so one = absurd so
results_push b (m ∷ ms) [] n e so one = absurd so
results_push b (m ∷ ms) (f ∷ fs) n e so one = (so.0, results_push b ms fs n e so.1 one)

-- one result more
pub results_more : (b : Body) (leaves : List (Bor Leaf)) (i : ℕ) (leaf : Bor Leaf) (es more : List Node) (e : Node) → i < length leaves → leaf ≡ get_or leaves i leaf
    → AreResultsOf b (leaf_names (take i leaves)) es → IsResult b leaf.now.bytes e → more ≡ es ++ e ∷ [] → AreResultsOf b (leaf_names (take (i + 1) leaves)) more
results_more b leaves i leaf es more e within is so one pushed =
    let names : leaf_names (take i leaves) ++ leaf.now.bytes ∷ [] ≡ leaf_names (take (i + 1) leaves) =
    sym (map-append (λ (l : Bor Leaf). l.now.bytes) (take i leaves) (leaf ∷ [])) ∙ ap leaf_names (taken_of leaves i leaf within is) in
    subst (λ (fs : List Node). AreResultsOf b (leaf_names (take (i + 1) leaves)) fs) (sym pushed)
    (subst (λ (ns : List (List ℕ)). AreResultsOf b ns (es ++ e ∷ [])) names (results_push b (leaf_names (take i leaves)) es leaf.now.bytes e so one))
