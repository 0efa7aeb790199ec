-- Declarations that are counted by keys.
use Rattle.std.proofs.Common.{◌≡◌, ℕ, ◌+◌, ◌<◌, ◌==◌, Bool, true, false, cond, if◌then◌else◌, unwrap_or, List, [], Option, Some, None, refl, ap, sym, ◌∙◌, take, length, get_or, arith}
use Rattle.std.specs.List.{count_by}
use Rattle.std.specs.Ordering.{nat_cmp, is_eq}
use Rattle.std.proofs.lemmas.Bool.Decides.{nat_tests}
use Rattle.std.proofs.lemmas.List.Sums.{count_by_more_yes, count_by_more_no}
use mathlib.Core.Path.{fun_ext}
use Rattle.tie_grammar.specs.declared.symbol.Leaf.{Leaf}
use Rattle.tie_grammar.specs.declared.tree.Decl.{Decl}
use Rattle.tie_grammar.specs.declared.tree.Decl.TheVariants as d
use Rattle.tie_grammar.specs.declared.tree.Tree.{Tree}
use Rattle.tie_mean.specs.Sizes.{bounded}
use Rattle.tie_rules.specs.Names.{is_operation}
use Rattle.tie_rules.specs.Declarations.{at_name, is_full, same_sort, too_many_at, too_many, too_many_opcodes_at, too_many_opcodes}
use Rattle.tie_rules.specs.Least.{earlier, least, behind}
use Rattle.tie_rules.specs.Tallies.{is_key, at_count, sort_number, many_of_sort, format_width, many_of_width, operation_number, many_operations}
use Rattle.tie_rules.proofs.NameSets.{behind_same}
use Rattle.tie_rules.proofs.Places.{behind_split, earlier_none}

pub same_number : (key q : ℕ) → is_eq (nat_cmp key q) ≡ (q == key)
same_number key q = grind (arith, nat_tests)

-- a key that is counted once more
pub count_step : (old : ℕ → Option ℕ) (new : Option ℕ) (key q n : ℕ) → new ≡ cond (is_eq (nat_cmp key q)) (Some (n + 1)) (old q) → n ≡ unwrap_or (old key) 0
    → unwrap_or new 0 ≡ (if q == key then unwrap_or (old q) 0 + 1 else unwrap_or (old q) 0)
count_step old new key q n is n_is = by_test (q == key) refl
  where
    by_test : (b : Bool) → (q == key) ≡ b → unwrap_or new 0 ≡ (if b then unwrap_or (old q) 0 + 1 else unwrap_or (old q) 0)
    by_test true t =
        let same : q ≡ key = grind (arith, nat_tests) in
        ap (λ (o : Option ℕ). unwrap_or o 0) (is ∙ ap (λ (b : Bool). cond b (Some (n + 1)) (old q)) (same_number key q ∙ t))
        ∙ ap (λ (m : ℕ). m + 1) (n_is ∙ ap (λ (k : ℕ). unwrap_or (old k) 0) (sym same))
    by_test false t =
        ap (λ (o : Option ℕ). unwrap_or o 0) (is ∙ ap (λ (b : Bool). cond b (Some (n + 1)) (old q)) (same_number key q ∙ t))

-- one more of several things that are counted
pub count_next : {A : Type 0} (p : A → Bool) (xs : List A) (i : ℕ) (x : A) → i < length xs → x ≡ get_or xs i x
    → (if p x then count_by p (take i xs) + 1 else count_by p (take i xs)) ≡ count_by p (take (i + 1) xs)
count_next p xs i x h e = by_test (p x) refl
  where
    by_test : (b : Bool) → p x ≡ b → (if b then count_by p (take i xs) + 1 else count_by p (take i xs)) ≡ count_by p (take (i + 1) xs)
    by_test true is = sym (count_by_more_yes p xs i x h (ap p (sym e) ∙ is))
    by_test false is = sym (count_by_more_no p xs i x h (ap p (sym e) ∙ is))

same_count : (p q : Decl → Bool) (decls : List Decl) → ((decl : Decl) → p decl ≡ q decl) → count_by p decls ≡ count_by q decls
same_count p q decls same = ap (λ (f : Decl → Bool). count_by f decls) (fun_ext same)

-- a sort of declarations that are counted together
one_sort : (leaf : Leaf) (limit k : ℕ) (decl : Decl) (before : List Decl) → ((other : Decl) → same_sort decl other ≡ is_key sort_number k other)
    → least (at_name (Some leaf) (is_full (Some limit) (count_by (same_sort decl) before))) ≡ earlier (least (at_name (Some leaf) (is_full (Some limit) (count_by (is_key sort_number k) before)))) None
one_sort leaf limit k decl before same =
    ap (λ (n : ℕ). least (at_name (Some leaf) (is_full (Some limit) n))) (same_count (same_sort decl) (is_key sort_number k) before same)
    ∙ sym (earlier_none (least (at_name (Some leaf) (is_full (Some limit) (count_by (is_key sort_number k) before)))))

is_state : (y : _) (other : Decl) → same_sort (d.State y) other ≡ is_key sort_number 0 other
is_state y (d.State z) = refl
is_state y _ = refl

is_file : (y : _) (other : Decl) → same_sort (d.Regfile y) other ≡ is_key sort_number 1 other
is_file y (d.Regfile z) = refl
is_file y _ = refl

is_queue_in : (y : _) (other : Decl) → same_sort (d.QueueIn y) other ≡ is_key sort_number 2 other
is_queue_in y (d.QueueIn z) = refl
is_queue_in y _ = refl

is_queue_out : (y : _) (other : Decl) → same_sort (d.QueueOut y) other ≡ is_key sort_number 3 other
is_queue_out y (d.QueueOut z) = refl
is_queue_out y _ = refl

is_table : (y : _) (other : Decl) → same_sort (d.Table y) other ≡ is_key sort_number 4 other
is_table y (d.Table z) = refl
is_table y _ = refl

is_range : (y : _) (other : Decl) → same_sort (d.ImmediateRange y) other ≡ is_key sort_number 5 other
is_range y (d.ImmediateRange z) = refl
is_range y _ = refl

is_function : (y : _) (other : Decl) → same_sort (d.Function y) other ≡ is_key sort_number 6 other
is_function y (d.Function z) = refl
is_function y _ = refl

is_schedule : (y : _) (other : Decl) → same_sort (d.Schedule y) other ≡ is_key sort_number 7 other
is_schedule y (d.Schedule z) = refl
is_schedule y _ = refl

is_format : (y : _) (other : Decl) → same_sort (d.Format y) other ≡ is_key format_width (bounded y.width) other
is_format y (d.Format z) = refl
is_format y _ = refl

one_more : (before : List Decl) (decl : Decl) → least (too_many_at before decl) ≡ earlier (least (at_count sort_number many_of_sort before decl)) (least (at_count format_width many_of_width before decl))
one_more before (d.State x) = one_sort x.name 32 0 (d.State x) before (is_state x)
one_more before (d.Regfile x) = one_sort x.name 8 1 (d.Regfile x) before (is_file x)
one_more before (d.QueueIn x) = one_sort x.name 8 2 (d.QueueIn x) before (is_queue_in x)
one_more before (d.QueueOut x) = one_sort x.name 8 3 (d.QueueOut x) before (is_queue_out x)
one_more before (d.Table x) = one_sort x.name 32 4 (d.Table x) before (is_table x)
one_more before (d.ImmediateRange x) = one_sort x.name 32 5 (d.ImmediateRange x) before (is_range x)
one_more before (d.Function x) = one_sort x.name 64 6 (d.Function x) before (is_function x)
one_more before (d.Schedule x) = one_sort x.name 64 7 (d.Schedule x) before (is_schedule x)
one_more before (d.Format x) =
    ap (λ (n : ℕ). least (at_name (Some x.name) (n == 16))) (same_count (same_sort (d.Format x)) (is_key format_width (bounded x.width)) before (is_format x))
one_more before (d.Operation x) = refl
one_more before (d.SlotOpcodes x) = refl

pub too_many_parts : (t : Tree)
    → earlier (least (behind (at_count sort_number many_of_sort) t.declarations)) (least (behind (at_count format_width many_of_width) t.declarations)) ≡ least (too_many t)
too_many_parts t = sym (behind_split too_many_at (at_count sort_number many_of_sort) (at_count format_width many_of_width) one_more t.declarations)

is_operation_key : (other : Decl) → is_key operation_number 0 other ≡ is_operation other
is_operation_key (d.Operation x) = refl
is_operation_key _ = refl

operations_counted : (before : List Decl) (decl : Decl) → at_count operation_number many_operations before decl ≡ too_many_opcodes_at before decl
operations_counted before (d.Operation x) = ap (λ (n : ℕ). at_name (Some x.name) (n == 32)) (same_count (is_key operation_number 0) is_operation before is_operation_key)
operations_counted before _ = refl

pub too_many_operations : (t : Tree) → behind (at_count operation_number many_operations) t.declarations ≡ too_many_opcodes t
too_many_operations t = behind_same (at_count operation_number many_operations) too_many_opcodes_at operations_counted [] t.declarations
