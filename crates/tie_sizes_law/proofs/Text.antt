-- A text that breaks no rule.
use Rattle.std.proofs.Common.{◌≡◌, ℕ, ◌+◌, ◌≤◌, List, [], ◌∷◌, ◌++◌, length, take, Bool, true, false, cond, not, ◌&&◌, ◌||◌, ◌==◌, nat_lt, nat_le, Some, None, slice_get, arith}
use Rattle.std.specs.List.{flat_map, AllByRecursion, list_all}
use Rattle.std.proofs.lemmas.Bool.{and_parts, and_from, or_parts, ltb-false, leb-true, le-leb, eqb-true, not-false}
use Rattle.tie_mean.specs.Literals.{is_width, literal_fits}
use Rattle.tie_mean.specs.Sizes.{bounded}
use Rattle.tie_mean.specs.Names.{tables, table_of, is_written, argument_if, link_if, written}
use Rattle.tie_mean.specs.Counts.{operation_count}
use Rattle.tie_grammar.specs.declared.tree.Literal.{Literal}
use Rattle.tie_grammar.specs.declared.tree.Item.{Item}
use Rattle.tie_grammar.specs.declared.tree.Table.{Table}
use Rattle.tie_grammar.specs.declared.tree.Operation.{Operation}
use Rattle.tie_grammar.specs.declared.tree.Decl.{Decl}
use Rattle.tie_grammar.specs.declared.tree.Decl.TheVariants as d
use Rattle.tie_grammar.specs.declared.tree.Tree.{Tree}
use Rattle.tie_grammar.specs.Spelling.{IsDecl, IsText}
use Rattle.tie_results.specs.Sound.{SoundText, SoundOperation, is_sound_table, is_set}
use Rattle.tie_rules.specs.Least.{NoPlace}
use Rattle.tie_rules.specs.Names.{is_assigned}
use Rattle.tie_rules.specs.Declarations.{bad_value, bad_values_at, fits_itself, literal_place, literal_here, in_body, width_range_at, depth_range_at, literal_range_at, table_count_at}
use Rattle.tie_rules.specs.Bodies.{unknown_kind, unknown_link, unknown_target, unknown_here, unknown_in_schedule, unset_name, unset_wire, unset_argument, unset_link, not_assigned_at}
use Rattle.tie_sizes_law.proofs.Places.{left, right, each, passed, holds}
use Rattle.tie_sizes_law.proofs.At.{of_each, to_each, places_at, all_from}
use Rattle.tie_sizes_law.proofs.Unbroken.{Unbroken, unbroken_at}
use Rattle.tie_sizes_law.proofs.Seen.{each_to, operation_names_wide, operation_seeing}
use Rattle.tie_sizes_law.proofs.BodyLaw.{unknown_operands, clean_body, body_sound}
use Rattle.tie_sizes_law.proofs.Functions.{function_there, function_sound, functions_differ}

all-append : {A : Type 0} (P : A → Type 0) (xs ys : List A) → AllByRecursion P xs → AllByRecursion P ys → AllByRecursion P (xs ++ ys)
all-append P [] ys h k = k
all-append P (x ∷ xs) ys h k = (h.0, all-append P xs ys h.1 k)

all-flat : {A B : Type 0} (P : B → Type 0) (f : A → List B) (xs : List A) → AllByRecursion (λ x. AllByRecursion P (f x)) xs → AllByRecursion P (flat_map f xs)
all-flat P f [] h = tt
all-flat P f (x ∷ xs) h = all-append P (f x) (flat_map f xs) h.0 (all-flat P f xs h.1)

-- ---- tables

value_fits : (width : ℕ) (x : Literal) → is_width width ≡ true → NoPlace (bad_value width x) → literal_fits width x ≡ true
value_fits width x wide h =
    let none = passed (is_width width && not (fits_itself x && literal_fits width x)) (literal_place x) h in
    (and_parts (fits_itself x) (literal_fits width x) (both (is_width width) (fits_itself x && literal_fits width x) wide none)).1
  where
    both : (a b : Bool) → a ≡ true → (a && not b) ≡ false → b ≡ true
    both true b e h = not-false b h
    both false b e h = absurd cc

table_sound : (x : Table) → NoPlace (width_range_at (d.Table x)) → NoPlace (depth_range_at (d.Table x)) → NoPlace (literal_range_at (d.Table x)) → NoPlace (table_count_at (d.Table x)) → is_sound_table x ≡ true
table_sound x w h v c =
    let wide = holds (is_width (bounded x.width)) x.width.place w in
    let depth : bounded x.depth ≤ 256 =
    leb-true (bounded x.depth) 256 (and_parts (nat_lt 0 (bounded x.depth)) (nat_le (bounded x.depth) 256) (holds (nat_lt 0 (bounded x.depth) && nat_le (bounded x.depth) 256) x.depth.place h)).1 in
    let count : length x.entries ≡ bounded x.depth = eqb-true (length x.entries) (bounded x.depth) (holds (length x.entries == bounded x.depth) x.name.place c) in
    let values = left (bad_values_at (d.Table x)) (in_body literal_here (d.Table x)) v in
    and_from (nat_le (length x.entries) 256) (list_all (literal_fits (bounded x.width)) x.entries) (le-leb (length x.entries) 256 (omega arith))
    (all_from (literal_fits (bounded x.width)) x.entries
    (each_to (λ y. NoPlace (bad_value (bounded x.width) y)) (λ y. literal_fits (bounded x.width) y ≡ true) (λ y good. value_fits (bounded x.width) y wide good) x.entries
    (each (bad_value (bounded x.width)) x.entries values)))

record TableFacts (x : Decl) : Type 0 where
  widths : NoPlace (width_range_at x)
  depths : NoPlace (depth_range_at x)
  literals : NoPlace (literal_range_at x)
  entries : NoPlace (table_count_at x)

tables_there : (x : Decl) → TableFacts x → AllByRecursion (λ y. is_sound_table y ≡ true) (table_of x)
tables_there (d.Table x) h = (table_sound x h.widths h.depths h.literals h.entries, tt)
tables_there _ h = tt

tables_sound : (t : Tree) → Unbroken t → list_all is_sound_table (tables t) ≡ true
tables_sound t u =
    all_from is_sound_table (tables t) (all-flat (λ y. is_sound_table y ≡ true) table_of t.declarations
    (to_each (λ x. AllByRecursion (λ y. is_sound_table y ≡ true) (table_of x)) t.declarations (λ k x e. tables_there x (record {
      widths = places_at width_range_at t.declarations k x u.widths e;
      depths = places_at depth_range_at t.declarations k x u.depths e;
      literals = places_at literal_range_at t.declarations k x u.literals e;
      entries = places_at table_count_at t.declarations k x u.entries e;
    }))))

pub text_sound : (t : Tree) → IsText t → Unbroken t → SoundText t
text_sound t g u = record {
  tables = tables_sound t u;
  functions = λ k f e.
      let at = function_there (slice_get t.declarations k) f e in
      function_sound t u k f at (of_each IsDecl t.declarations k (d.Function f) g at);
  differ = functions_differ t u;
}

-- ---- operations

set_if : (p : Bool) (n : List ℕ) (items : List Item) → (p && not (is_set items n)) ≡ false → AllByRecursion (λ m. is_set items m ≡ true) (cond p (n ∷ []) [])
set_if true n items h = (not-false (is_set items n) h, tt)
set_if false n items h = tt

operands_set : (o : Operation) → NoPlace (not_assigned_at (d.Operation o)) → list_all (is_set o.items) (written o) ≡ true
operands_set o h =
    let decl : Decl = d.Operation o in
    let operands = right (unset_name decl None ++ flat_map (unset_wire decl) o.items) (flat_map (unset_argument decl) o.arguments ++ flat_map (unset_link decl) o.links) h in
    let first = left (flat_map (unset_argument decl) o.arguments) (flat_map (unset_link decl) o.links) operands in
    let second = right (flat_map (unset_argument decl) o.arguments) (flat_map (unset_link decl) o.links) operands in
    all_from (is_set o.items) (written o)
    (all-append (λ n. is_set o.items n ≡ true) (flat_map (argument_if is_written) o.arguments) (flat_map (link_if is_written) o.links)
    (all-flat (λ n. is_set o.items n ≡ true) (argument_if is_written) o.arguments
    (each_to (λ x. NoPlace (unset_argument decl x)) (λ x. AllByRecursion (λ n. is_set o.items n ≡ true) (argument_if is_written x))
    (λ x good. set_if (is_written x.direction) x.name.bytes o.items (passed (is_written x.direction && not (is_assigned x.name.bytes decl)) x.name.place good)) o.arguments (each (unset_argument decl) o.arguments first)))
    (all-flat (λ n. is_set o.items n ≡ true) (link_if is_written) o.links
    (each_to (λ x. NoPlace (unset_link decl x)) (λ x. AllByRecursion (λ n. is_set o.items n ≡ true) (link_if is_written x))
    (λ x good. set_if (is_written x.direction) x.name.bytes o.items (passed (is_written x.direction && not (is_assigned x.name.bytes decl)) x.name.place good)) o.links (each (unset_link decl) o.links second))))

few_operands : (o : Operation) → (nat_lt 3 (length o.arguments) || nat_lt 8 (length o.links)) ≡ false → length o.arguments + length o.links ≤ 11
few_operands o h =
    let tests = or_parts (nat_lt 3 (length o.arguments)) (nat_lt 8 (length o.links)) h in
    omega (arith, ltb-false 3 (length o.arguments) tests.0, ltb-false 8 (length o.links) tests.1)

pub operation_sound : (t : Tree) → Unbroken t → (k : ℕ) (o : Operation) → slice_get t.declarations k ≡ Some (d.Operation o) → IsDecl (d.Operation o) → SoundOperation t o
operation_sound t u k o at g =
    let decl : Decl = d.Operation o in
    let here = unbroken_at t u k decl at in
    let items : List ℕ = flat_map (unknown_target decl) o.items ++ in_body (unknown_here t decl) decl in
    let operands = left (unknown_operands t decl) (items ++ unknown_in_schedule t decl) here.known in
    let wide = operation_names_wide t u.widths o here.widths (left (flat_map (unknown_kind t) o.arguments) (flat_map (unknown_link t) o.links) operands)
    (right (flat_map (unknown_kind t) o.arguments) (flat_map (unknown_link t) o.links) operands) in
    record {
      body = body_sound t decl (operation_seeing t u.widths o wide) (clean_body t (take k t.declarations) decl here) wide g;
      few = few_operands o (passed (nat_lt 3 (length o.arguments) || nat_lt 8 (length o.links)) o.name.place here.many);
      assigned = operands_set o here.assigned;
      small = ltb-false 4096 (operation_count t o) (passed (nat_lt 4096 (operation_count t o)) o.name.place here.large);
    }
