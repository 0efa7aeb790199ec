-- What a function or an operation sees, in a text that breaks no rule.
use Rattle.std.proofs.Common.{◌≡◌, ℕ, ◌+◌, ◌<◌, List, [], ◌∷◌, ◌++◌, map, length, codes, Bool, true, false, cond, not, ◌||◌, ◌&&◌, ◌==◌, nat_le, Option, Some, None, refl, sym, ap, subst, ◌∙◌, arith}
use Rattle.std.specs.List.{flat_map, AllByRecursion, list_any}
use Rattle.std.proofs.lemmas.List.{length-map}
use Rattle.std.proofs.lemmas.Bool.{leb-false, or_parts, not-false, eqb-true}
use Rattle.tie_mean.specs.Literals.{is_width}
use Rattle.tie_mean.specs.Sizes.{bounded}
use Rattle.tie_mean.specs.Names.{Declared, is_named, is_among, width_in, range_width, function_of, functions, table_of, tables, function_declared, table_declared, link_declared, kind_declared, wire_declared, wires, parameter_declared, argument_declared, link_width, function_names, operation_names, parameters_in}
use Rattle.tie_grammar.specs.declared.symbol.Leaf.{Leaf}
use Rattle.tie_grammar.specs.declared.tree.Range.{Range}
use Rattle.tie_grammar.specs.declared.tree.Item.{Item}
use Rattle.tie_grammar.specs.declared.tree.Item.TheVariants as i
use Rattle.tie_grammar.specs.declared.tree.Parameter.{Parameter}
use Rattle.tie_grammar.specs.declared.tree.Argument.{Argument}
use Rattle.tie_grammar.specs.declared.tree.Link.{Link}
use Rattle.tie_grammar.specs.declared.tree.Function.{Function}
use Rattle.tie_grammar.specs.declared.tree.Operation.{Operation}
use Rattle.tie_grammar.specs.declared.tree.Decl.{Decl}
use Rattle.tie_grammar.specs.declared.tree.Decl.TheVariants as d
use Rattle.tie_grammar.specs.declared.tree.Tree.{Tree}
use Rattle.tie_rules.specs.Least.{NoPlace}
use Rattle.tie_rules.specs.Names.{has, sees, names_seen, seen_widths, declares_function, declares_table, declares_kind, declares_link, declares_wire, is_parameter, is_argument, is_link}
use Rattle.tie_rules.specs.Declarations.{bad_width, bad_range, parameter_width, wire_width, width_range_at}
use Rattle.tie_rules.specs.Bodies.{takes_others, unknown_kind, unknown_link}
use Rattle.tie_rules.specs.Declarations as declared
use Rattle.tie_sizes_law.proofs.Places.{left, right, each, passed, holds}
use Rattle.tie_sizes_law.proofs.Wide.{is_wide}
use Rattle.tie_sizes_law.proofs.Widths.{AreWide, wide_in, wide-append, wide-map, wide-flat, among-append, among-map, among-flat, map-flat, one_test}
use Rattle.tie_sizes_law.proofs.Forms.{Seeing}

pub each_to : {A : Type 0} (P Q : A → Type 0) → ((x : A) → P x → Q x) → (xs : List A) → AllByRecursion P xs → AllByRecursion Q xs
each_to P Q f [] h = tt
each_to P Q f (x ∷ xs) h = (f x h.0, each_to P Q f xs h.1)

-- ---- widths that are written

good_width : (leaf : Leaf) → NoPlace (bad_width leaf) → is_width (bounded leaf) ≡ true
good_width leaf h = holds (is_width (bounded leaf)) leaf.place h

good_range : (r : Option Range) → NoPlace (bad_range r) → is_width (range_width r) ≡ true
good_range None h = refl
good_range (Some r) h =
    let low : bounded r.high < 128 = leb-false 128 (bounded r.high) (passed (nat_le 128 (bounded r.high)) r.high.place h) in
    is_wide (bounded r.high + 1) (omega arith) (omega arith)

table_wide : (x : Decl) → NoPlace (width_range_at x) → AreWide (map table_declared (table_of x))
table_wide (d.Table x) h = (good_width x.width h, tt)
table_wide _ h = tt

function_wide : (x : Decl) → NoPlace (width_range_at x) → AreWide (map function_declared (function_of x))
function_wide (d.Function f) h = (good_range f.range (left (bad_range f.range) (flat_map parameter_width f.parameters ++ flat_map wire_width f.items) h), tt)
function_wide _ h = tt

link_wide : (x : Decl) → NoPlace (width_range_at x) → AreWide (link_declared x)
link_wide (d.State x) h = (good_width x.width h, tt)
link_wide (d.QueueIn x) h = (good_width x.width h, tt)
link_wide (d.QueueOut x) h = (good_width x.width h, tt)
link_wide _ h = tt

kind_wide : (x : Decl) → NoPlace (width_range_at x) → AreWide (kind_declared x)
kind_wide (d.Regfile x) h = (good_width x.width h, tt)
kind_wide (d.ImmediateRange x) h = (refl, tt)
kind_wide _ h = tt

wire_wide : (x : Item) → NoPlace (wire_width x) → AreWide (wire_declared x)
wire_wide (i.Wire r n) h = (good_range r h, tt)
wire_wide (i.WireSet r n x) h = (good_range r h, tt)
wire_wide (i.Assign n x) h = tt

-- ---- in a whole text

all_wide : (t : Tree) → NoPlace (declared.width_range t) → (f : Decl → List Declared) → ((x : Decl) → NoPlace (width_range_at x) → AreWide (f x)) → AreWide (flat_map f t.declarations)
all_wide t h f good = wide-flat f t.declarations (each_to (λ x. NoPlace (width_range_at x)) (λ x. AreWide (f x)) good t.declarations (each width_range_at t.declarations h))

tables_wide : (t : Tree) → NoPlace (declared.width_range t) → AreWide (map table_declared (tables t))
tables_wide t h = subst AreWide (sym (map-flat table_declared table_of t.declarations)) (all_wide t h (λ x. map table_declared (table_of x)) table_wide)

functions_wide : (t : Tree) → NoPlace (declared.width_range t) → AreWide (map function_declared (functions t))
functions_wide t h = subst AreWide (sym (map-flat function_declared function_of t.declarations)) (all_wide t h (λ x. map function_declared (function_of x)) function_wide)

table_named_at : (n : List ℕ) (x : Decl) → is_among (map table_declared (table_of x)) n ≡ declares_table n x
table_named_at n (d.Table x) = one_test (is_named n x.name)
table_named_at n _ = refl

function_named_at : (n : List ℕ) (x : Decl) → is_among (map function_declared (function_of x)) n ≡ declares_function n x
function_named_at n (d.Function x) = one_test (is_named n x.name)
function_named_at n _ = refl

link_named_at : (n : List ℕ) (x : Decl) → is_among (link_declared x) n ≡ declares_link n x
link_named_at n (d.State x) = one_test (is_named n x.name)
link_named_at n (d.QueueIn x) = one_test (is_named n x.name)
link_named_at n (d.QueueOut x) = one_test (is_named n x.name)
link_named_at n _ = refl

kind_named_at : (n : List ℕ) (x : Decl) → is_among (kind_declared x) n ≡ declares_kind n x
kind_named_at n (d.Regfile x) = one_test (is_named n x.name)
kind_named_at n (d.ImmediateRange x) = one_test (is_named n x.name)
kind_named_at n _ = refl

pub wire_named_at : (n : List ℕ) (x : Item) → is_among (wire_declared x) n ≡ declares_wire n x
wire_named_at n (i.Wire r m) = one_test (is_named n m)
wire_named_at n (i.WireSet r m x) = one_test (is_named n m)
wire_named_at n (i.Assign m x) = refl

pub tables_named : (t : Tree) (n : List ℕ) → is_among (map table_declared (tables t)) n ≡ has (declares_table n) t
tables_named t n =
    ap (λ (xs : List Declared). is_among xs n) (map-flat table_declared table_of t.declarations)
    ∙ among-flat (λ x. map table_declared (table_of x)) (declares_table n) n (table_named_at n) t.declarations

pub functions_named : (t : Tree) (n : List ℕ) → is_among (map function_declared (functions t)) n ≡ has (declares_function n) t
functions_named t n =
    ap (λ (xs : List Declared). is_among xs n) (map-flat function_declared function_of t.declarations)
    ∙ among-flat (λ x. map function_declared (function_of x)) (declares_function n) n (function_named_at n) t.declarations

-- ---- the parameters of a function that is called

or_false : (a b : Bool) → (a || b) ≡ true → a ≡ false → b ≡ true
or_false true b h e = absurd cc
or_false false b h e = h

module _ (n : List ℕ) (k : ℕ) where
  many : (xs : List Decl) → list_any (declares_function n) xs ≡ true → list_any (takes_others n k) xs ≡ false → length (parameters_in (flat_map function_of xs) n) ≡ k
  many [] a b = absurd cc
  many (x ∷ xs) a b = by_decl x a b (λ c e. many xs c e)
    where
      by_test : (f : Function) (b : Bool) → (b || list_any (declares_function n) xs) ≡ true → ((b && not (length f.parameters == k)) || list_any (takes_others n k) xs) ≡ false
          → (list_any (declares_function n) xs ≡ true → list_any (takes_others n k) xs ≡ false → length (parameters_in (flat_map function_of xs) n) ≡ k)
          → length (cond b (map (λ (p : Parameter). range_width p.range) f.parameters) (parameters_in (flat_map function_of xs) n)) ≡ k
      by_test f true a b again =
          length-map f.parameters (λ p. range_width p.range) ∙ eqb-true (length f.parameters) k (not-false (length f.parameters == k) (or_parts (not (length f.parameters == k)) (list_any (takes_others n k) xs) b).0)
      by_test f false a b again = again a b

      by_decl : (x : Decl) → (declares_function n x || list_any (declares_function n) xs) ≡ true → (takes_others n k x || list_any (takes_others n k) xs) ≡ false
          → (list_any (declares_function n) xs ≡ true → list_any (takes_others n k) xs ≡ false → length (parameters_in (flat_map function_of xs) n) ≡ k)
          → length (parameters_in (function_of x ++ flat_map function_of xs) n) ≡ k
      by_decl (d.Function f) a b again = by_test f (is_named n f.name) a b again
      by_decl _ a b again = again a b

parameter_widths : (xs : List Parameter) → NoPlace (flat_map parameter_width xs) → AllByRecursion (λ k. is_width k ≡ true) (map (λ (p : Parameter). range_width p.range) xs)
parameter_widths [] h = tt
parameter_widths (x ∷ xs) h = (good_range x.range (left (parameter_width x) (flat_map parameter_width xs) h), parameter_widths xs (right (parameter_width x) (flat_map parameter_width xs) h))

parameters_wide : (n : List ℕ) (xs : List Decl) → AllByRecursion (λ x. NoPlace (width_range_at x)) xs → AllByRecursion (λ k. is_width k ≡ true) (parameters_in (flat_map function_of xs) n)
parameters_wide n [] h = tt
parameters_wide n (x ∷ xs) h = by_decl x h.0 (parameters_wide n xs h.1)
  where
    by_test : (b : Bool) (us vs : List ℕ) → AllByRecursion (λ k. is_width k ≡ true) us → AllByRecursion (λ k. is_width k ≡ true) vs → AllByRecursion (λ k. is_width k ≡ true) (cond b us vs)
    by_test true us vs a b = a
    by_test false us vs a b = b

    by_decl : (x : Decl) → NoPlace (width_range_at x) → AllByRecursion (λ k. is_width k ≡ true) (parameters_in (flat_map function_of xs) n) → AllByRecursion (λ k. is_width k ≡ true) (parameters_in (function_of x ++ flat_map function_of xs) n)
    by_decl (d.Function f) here again =
        by_test (is_named n f.name) (map (λ (p : Parameter). range_width p.range) f.parameters) (parameters_in (flat_map function_of xs) n)
        (parameter_widths f.parameters (left (flat_map parameter_width f.parameters) (flat_map wire_width f.items) (right (bad_range f.range) (flat_map parameter_width f.parameters ++ flat_map wire_width f.items) here))) again
    by_decl _ here again = again

-- ---- the names that a body sees

wires_wide : (items : List Item) → NoPlace (flat_map wire_width items) → AreWide (wires items)
wires_wide items h = wide-flat wire_declared items (each_to (λ x. NoPlace (wire_width x)) (λ x. AreWide (wire_declared x)) wire_wide items (each wire_width items h))

pub function_names_wide : (f : Function) → NoPlace (width_range_at (d.Function f)) → AreWide (function_names f)
function_names_wide f h =
    let rest = right (bad_range f.range) (flat_map parameter_width f.parameters ++ flat_map wire_width f.items) h in
    wide-append (map parameter_declared f.parameters ++ wires f.items) (function_declared f ∷ [])
    (wide-append (map parameter_declared f.parameters) (wires f.items)
    (wide-map parameter_declared f.parameters (each_to (λ x. NoPlace (parameter_width x)) (λ x. is_width (range_width x.range) ≡ true) (λ x good. good_range x.range good) f.parameters
    (each parameter_width f.parameters (left (flat_map parameter_width f.parameters) (flat_map wire_width f.items) rest))))
    (wires_wide f.items (right (flat_map parameter_width f.parameters) (flat_map wire_width f.items) rest)))
    (good_range f.range (left (bad_range f.range) (flat_map parameter_width f.parameters ++ flat_map wire_width f.items) h), tt)

kind_is_wide : (t : Tree) → NoPlace (declared.width_range t) → (kind : Leaf) (b : Bool) → (b || has (declares_kind kind.bytes) t) ≡ true → is_width (cond b 32 (width_in (flat_map kind_declared t.declarations) kind.bytes)) ≡ true
kind_is_wide t h kind true e = refl
kind_is_wide t h kind false e =
    wide_in (flat_map kind_declared t.declarations) kind.bytes (all_wide t h kind_declared kind_wide)
    (among-flat kind_declared (declares_kind kind.bytes) kind.bytes (kind_named_at kind.bytes) t.declarations ∙ e)

argument_wide : (t : Tree) → NoPlace (declared.width_range t) → (x : Argument) → NoPlace (unknown_kind t x) → is_width (argument_declared t x).width ≡ true
argument_wide t h x k = kind_is_wide t h x.kind (is_named (codes "AR") x.kind) (holds (is_named (codes "AR") x.kind || has (declares_kind x.kind.bytes) t) x.kind.place k)

link_is_wide : (t : Tree) → NoPlace (declared.width_range t) → (x : Link) → NoPlace (unknown_link t x) → is_width (link_width t x).width ≡ true
link_is_wide t h x k =
    wide_in (flat_map link_declared t.declarations) x.name.bytes (all_wide t h link_declared link_wide)
    (among-flat link_declared (declares_link x.name.bytes) x.name.bytes (link_named_at x.name.bytes) t.declarations ∙ holds (has (declares_link x.name.bytes) t) x.name.place k)

pub operation_names_wide : (t : Tree) → NoPlace (declared.width_range t) → (o : Operation) → NoPlace (width_range_at (d.Operation o)) → NoPlace (flat_map (unknown_kind t) o.arguments) → NoPlace (flat_map (unknown_link t) o.links)
    → AreWide (operation_names t o)
operation_names_wide t h o here kinds links =
    wide-append (map (argument_declared t) o.arguments ++ map (link_width t) o.links) (wires o.items)
    (wide-append (map (argument_declared t) o.arguments) (map (link_width t) o.links)
    (wide-map (argument_declared t) o.arguments (each_to (λ x. NoPlace (unknown_kind t x)) (λ x. is_width (argument_declared t x).width ≡ true) (argument_wide t h) o.arguments (each (unknown_kind t) o.arguments kinds)))
    (wide-map (link_width t) o.links (each_to (λ x. NoPlace (unknown_link t x)) (λ x. is_width (link_width t x).width ≡ true) (link_is_wide t h) o.links (each (unknown_link t) o.links links))))
    (wires_wide o.items here)

both : (xs ys zs : List Declared) (n : List ℕ) → is_among ((xs ++ ys) ++ zs) n ≡ ((is_among xs n || is_among ys n) || is_among zs n)
both xs ys zs n = among-append (xs ++ ys) zs n ∙ ap (λ b. b || is_among zs n) (among-append xs ys n)

wires_named : (items : List Item) (n : List ℕ) → is_among (wires items) n ≡ list_any (declares_wire n) items
wires_named items n = among-flat wire_declared (declares_wire n) n (wire_named_at n) items

function_sees : (f : Function) (n : List ℕ) → is_among (function_names f) n ≡ ((list_any (is_parameter n) f.parameters || list_any (declares_wire n) f.items) || is_named n f.name)
function_sees f n =
    both (map parameter_declared f.parameters) (wires f.items) (function_declared f ∷ []) n
    ∙ ap (λ b. (b || is_among (wires f.items) n) || is_among (function_declared f ∷ []) n) (among-map parameter_declared f.parameters n)
    ∙ ap (λ b. (list_any (is_parameter n) f.parameters || b) || is_among (function_declared f ∷ []) n) (wires_named f.items n)
    ∙ ap (λ b. (list_any (is_parameter n) f.parameters || list_any (declares_wire n) f.items) || b) (one_test (is_named n f.name))

operation_sees : (t : Tree) (o : Operation) (n : List ℕ)
    → is_among (operation_names t o) n ≡ ((list_any (is_argument n) o.arguments || list_any (is_link n) o.links) || list_any (declares_wire n) o.items)
operation_sees t o n =
    both (map (argument_declared t) o.arguments) (map (link_width t) o.links) (wires o.items) n
    ∙ ap (λ b. (b || is_among (map (link_width t) o.links) n) || is_among (wires o.items) n) (among-map (argument_declared t) o.arguments n)
    ∙ ap (λ b. (list_any (is_argument n) o.arguments || b) || is_among (wires o.items) n) (among-map (link_width t) o.links n)
    ∙ ap (λ b. (list_any (is_argument n) o.arguments || list_any (is_link n) o.links) || b) (wires_named o.items n)

or_nothing : (b : Bool) → (b || false) ≡ b
or_nothing true = refl
or_nothing false = refl

-- ---- together

pub seeing : (t : Tree) → NoPlace (declared.width_range t) → (decl : Decl) → AreWide (names_seen t decl) → ((n : List ℕ) → sees n decl ≡ true → is_among (names_seen t decl) n ≡ true) → Seeing t decl (seen_widths t decl)
seeing t h decl wide seen = record {
  names = λ n e. wide_in (names_seen t decl) n wide (seen n e);
  is_table = λ n. sym (tables_named t n);
  table = λ n e. wide_in (map table_declared (tables t)) n (tables_wide t h) e;
  function = λ n e. wide_in (map function_declared (functions t)) n (functions_wide t h) (functions_named t n ∙ e);
  parameters = λ n. parameters_wide n t.declarations (each width_range_at t.declarations h);
  count = λ n k a b. many n k t.declarations a b;
}

pub function_seeing : (t : Tree) → NoPlace (declared.width_range t) → (f : Function) → NoPlace (width_range_at (d.Function f)) → Seeing t (d.Function f) (seen_widths t (d.Function f))
function_seeing t h f here = seeing t h (d.Function f) (function_names_wide f here) (λ n e. function_sees f n ∙ e)

pub operation_seeing : (t : Tree) → NoPlace (declared.width_range t) → (o : Operation) → AreWide (operation_names t o) → Seeing t (d.Operation o) (seen_widths t (d.Operation o))
operation_seeing t h o wide =
    seeing t h (d.Operation o) wide (λ n e. operation_sees t o n ∙ sym (or_nothing ((list_any (is_argument n) o.arguments || list_any (is_link n) o.links) || list_any (declares_wire n) o.items)) ∙ e)
