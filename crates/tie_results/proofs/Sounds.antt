-- What a sound body gives to where it stands.
use Rattle.std.proofs.Common.{◌≡◌, ◌⊎◌, ℕ, zero, suc, ◌+◌, ◌≤◌, ◌<◌, Bool, true, false, ◌&&◌, ◌||◌, if◌then◌else◌, List, [], ◌∷◌, ◌++◌, map, length, length-append, nat_lt, nat_le, Option, Some, None, inl, inr, refl, ap, sym, subst, ◌∙◌, arith}
use Rattle.std.specs.Borrow.{Bor}
use Rattle.std.specs.BTreeMap.{BTreeMap}
use Rattle.std.specs.List.{flat_map, list_all, list_any}
use Rattle.std.specs.Option.{is_some, unwrap_or}
use Rattle.std.proofs.lemmas.Bool.{cases_lt, cases_eq, and_parts, and_from, or_cases, leb-true, ltb-true}
use Rattle.tie_mean.specs.Kept.{kept}
use Rattle.tie_mean.specs.Literals.{is_width}
use Rattle.tie_mean.specs.Sizes.{limited}
use Rattle.tie_mean.specs.Names.{Declared, Setting, setting, setting_at, sets, width_in, functions, tables, argument_if, link_if, operands_if}
use Rattle.tie_mean.specs.Setters.{setter, setter_or, leaf_names}
use Rattle.tie_grammar.specs.declared.symbol.Leaf.{Leaf}
use Rattle.tie_grammar.specs.declared.symbol.Direction.{Direction}
use Rattle.tie_grammar.specs.declared.tree.Argument.{Argument}
use Rattle.tie_grammar.specs.declared.tree.Link.{Link}
use Rattle.tie_grammar.specs.declared.tree.Operation.{Operation}
use Rattle.tie_grammar.specs.declared.tree.Item.{Item}
use Rattle.tie_grammar.specs.declared.tree.Tree.{Tree}
use Rattle.tie_results.specs.Sound.{is_set}
use Rattle.tie_results.specs.Texts.{shown, limited_declared, IsTextOf}
use Rattle.tie_results.specs.Bodies.{Body, Calls, calls_of}
use Rattle.tie_results.specs.Callees.{body_at}
use Rattle.tie_results.specs.declared.text.Text.{Text}
use Rattle.tie_results.proofs.Entries.{small_width}

-- ---- widths

pub limits_none : (xs : List Declared) → list_all (λ x. is_width x.width) xs ≡ true → map limited_declared xs ≡ xs
limits_none [] h = refl
limits_none (x ∷ xs) h =
    let both = and_parts (is_width x.width) (list_all (λ y. is_width y.width) xs) h in
    let small = small_width x.width both.0 in
    let high = small.high in
    let same : limited x.width ≡ x.width = omega (arith, high) in
    ap (λ w. record { name = x.name; width = w } ∷ map limited_declared xs) same ∙ ap (λ ys. x ∷ ys) (limits_none xs both.1)

-- the widths of a body's names
pub names_are : (m : BTreeMap (Bor (List ℕ)) ℕ) (declared : List (Bor Leaf × ℕ)) (names : List Declared) → ((q : List ℕ) → unwrap_or (kept m q) 0 ≡ width_in (map shown declared) q)
    → map shown declared ≡ map limited_declared names → list_all (λ x. is_width x.width) names ≡ true → (q : List ℕ) → unwrap_or (kept m q) 0 ≡ width_in names q
names_are m declared names by_name are widths q = by_name q ∙ ap (λ xs. width_in xs q) (are ∙ limits_none names widths)

-- ---- setters

record SetAt (items : List Item) (name : List ℕ) : Type 0 where
  at : ℕ
  within : at < length items
  set : sets name (setting_at items at) ≡ true

later_set : (item : Item) (items : List Item) (name : List ℕ) → SetAt items name → SetAt (item ∷ items) name
later_set item items name s = record { at = suc s.at; within = (let w = s.within in omega (arith, w)); set = s.set }

some_set : (items : List Item) (name : List ℕ) → is_set items name ≡ true → SetAt items name
some_set [] name h = absurd cc
some_set (item ∷ items) name h = either (or_cases (sets name (setting item)) (is_set items name) h) (λ l. some_set items name l)
  where
    either : (sets name (setting item) ≡ true) ⊎ (is_set items name ≡ true) → (is_set items name ≡ true → SetAt items name) → SetAt (item ∷ items) name
    either (inl s) later = record { at = 0; within = omega arith; set = s }
    either (inr l) later = later_set item items name (later l)

or_some : (o : Option Setting) (k : ℕ) (name : List ℕ) (before : Option ℕ) → is_some before ≡ true → is_some (setter_or o k name before) ≡ true
or_some None k name before h = h
or_some (Some s) k name before h =
    elim (sets name (Some s)) as (λ b. is_some (if b then Some k else before) ≡ true) [ true ↦ refl | false ↦ h ]

here_some : (o : Option Setting) (k : ℕ) (name : List ℕ) (before : Option ℕ) → sets name o ≡ true → is_some (setter_or o k name before) ≡ true
here_some None k name before h = absurd cc
here_some (Some s) k name before h = ap (λ b. is_some (if b then Some k else before)) h

set_behind : (items : List Item) (name : List ℕ) (j k : ℕ) → j < k → sets name (setting_at items j) ≡ true → is_some (setter items k name) ≡ true
set_behind items name j zero low h = absurd (omega (arith, low))
set_behind items name j (suc k) low h = by_place (cases_eq j k) (λ l. set_behind items name j k l h)
  where
    by_place : (j ≡ k) ⊎ (j ≡ k → ⊥) → (j < k → is_some (setter items k name) ≡ true) → is_some (setter items (suc k) name) ≡ true
    by_place (inl same) before = here_some (setting_at items k) k name (setter items k name) (ap (λ n. sets name (setting_at items n)) (sym same) ∙ h)
    by_place (inr other) before = or_some (setting_at items k) k name (setter items k name) (before (omega (arith, low, other)))

-- a name that is set has a last setter
pub set_last : (items : List Item) (name : List ℕ) → is_set items name ≡ true → is_some (setter items (length items) name) ≡ true
set_last items name h = let s = some_set items name h in set_behind items name s.at (length items) s.within s.set

pub all_set : (items : List Item) (names : List (List ℕ)) → list_all (is_set items) names ≡ true → list_all (λ name. is_some (setter items (length items) name)) names ≡ true
all_set items [] h = refl
all_set items (n ∷ ns) h =
    let both = and_parts (is_set items n) (list_all (is_set items) ns) h in
    and_from (is_some (setter items (length items) n)) (list_all (λ name. is_some (setter items (length items) name)) ns) (set_last items n both.0) (all_set items ns both.1)

-- ---- bodies

pub body_is : (t : Tree) (k n : ℕ) (x : Text) (widths : BTreeMap (Bor (List ℕ)) ℕ) (leaves : List (Bor Leaf)) (items all : List Item) (name : List ℕ → ℕ) (inputs : List (List ℕ)) → k ≡ n → IsTextOf t x
    → ((q : List ℕ) → unwrap_or (kept widths q) 0 ≡ name q) → leaf_names leaves ≡ inputs → items ≡ all
    → body_at t k x widths leaves items ≡ record { name = name; calls = calls_of t (functions t) (tables t) n; tables = tables t; inputs = inputs; items = all }
body_is t k n x widths leaves items all name inputs places text names ins its =
    λ i. record { name = λ q. names q i; calls = calls_of t (text.functions i) (text.tables i) (places i); tables = text.tables i; inputs = ins i; items = its i }

-- ---- operands

argument_few : (p : Direction → Bool) (xs : List Argument) → length (flat_map (argument_if p) xs) ≤ length xs
argument_few p [] = omega arith
argument_few p (x ∷ xs) =
    let rest = argument_few p xs in
    elim (p x.direction) as (λ b. length ((if b then x.name.bytes ∷ [] else []) ++ flat_map (argument_if p) xs) ≤ length (x ∷ xs)) [ true ↦ omega (arith, rest) | false ↦ omega (arith, rest) ]

link_few : (p : Direction → Bool) (xs : List Link) → length (flat_map (link_if p) xs) ≤ length xs
link_few p [] = omega arith
link_few p (x ∷ xs) =
    let rest = link_few p xs in
    elim (p x.direction) as (λ b. length ((if b then x.name.bytes ∷ [] else []) ++ flat_map (link_if p) xs) ≤ length (x ∷ xs)) [ true ↦ omega (arith, rest) | false ↦ omega (arith, rest) ]

pub operands_few : (p : Direction → Bool) (o : Operation) → length (operands_if p o) ≤ length o.arguments + length o.links
operands_few p o =
    let both = length-append (flat_map (argument_if p) o.arguments) (flat_map (link_if p) o.links) in
    let arguments = argument_few p o.arguments in
    let links = link_few p o.links in
    omega (arith, both, arguments, links)
