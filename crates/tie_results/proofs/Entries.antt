-- A table that is found by its name.
use Rattle.std.proofs.Common.{◌≡◌, ℕ, ◌≤◌, ◌<◌, Bool, true, false, ◌&&◌, IsTrue, if◌then◌else◌, List, [], ◌∷◌, map, length, Option, Some, None, nat_lt, nat_le, refl, ap, sym, subst, ◌∙◌, arith}
use Rattle.std.specs.List.{list_all}
use Rattle.std.proofs.lemmas.Bool.{and_parts, ltb-true, leb-true}
use Rattle.tie_mean.specs.Literals.{is_width, literal_fits, literal_value}
use Rattle.tie_mean.specs.Sizes.{bounded, limited}
use Rattle.tie_mean.specs.Names.{is_named, width_in, table_declared}
use Rattle.tie_mean.specs.Operations.{entries_in}
use Rattle.tie_grammar.specs.declared.tree.Table.{Table}
use Rattle.tie_expr.specs.Meaning.{Meaning as Typed, lookup_meaning}
use Rattle.tie_expr.specs.Operators.{lookup_value}
use Rattle.tie_translate.specs.Translation.{lookup_typed}
use Rattle.tie_results.specs.Bodies.{Body, widths_of, env_behind}
use Rattle.tie_results.specs.Sound.{is_sound_table}
use Rattle.tie_results.specs.Texts.{first_table, table_width, table_entries}
use Rattle.tie_results.proofs.Found.{table_found, entries_found}

pub record IsSmall (w : ℕ) : Type 0 where
  pub low : 0 < w
  pub high : w ≤ 128

pub small_width : (w : ℕ) → is_width w ≡ true → IsSmall w
small_width w h =
    let p = and_parts (nat_lt 0 w) (nat_le w 128) h in
    record { low = ltb-true 0 w p.0; high = leb-true w 128 p.1 }

passes : (p : Table → Bool) (xs : List Table) (name : List ℕ) (x : Table) → first_table xs name ≡ Some x → list_all p xs ≡ true → p x ≡ true
passes p [] name x e all = absurd cc
passes p (y ∷ ys) name x e all =
    let both = and_parts (p y) (list_all p ys) all in
    elim (is_named name y.name) as (λ b. (if b then Some y else first_table ys name) ≡ Some x → p x ≡ true) [
      | true ↦ λ h. let same : y ≡ x = cc in subst (λ (z : Table). p z ≡ true) same both.0
      | false ↦ λ h. passes p ys name x h both.1
    ] e

pub record IsHere (xs : List Table) (name : List ℕ) (x : Table) (w : ℕ) : Type 0 where
  pub width : w ≡ width_in (map table_declared xs) name
  pub low : 0 < w
  pub high : w ≤ 128
  pub fit : list_all (literal_fits w) x.entries ≡ true
  pub few : length x.entries ≤ 256
  pub entries : map literal_value x.entries ≡ entries_in xs name

pub table_here : (xs : List Table) (name : List ℕ) (x : Table) (w : ℕ) → Some x ≡ first_table xs name → w ≡ limited (bounded x.width)
    → is_width (width_in (map table_declared xs) name) ≡ true → list_all is_sound_table xs ≡ true → IsHere xs name x w
table_here xs name x w found is known sound =
    let width : width_in (map table_declared xs) name ≡ bounded x.width = table_found xs name ∙ ap table_width (sym found) in
    let small = small_width (width_in (map table_declared xs) name) known in
    let low = small.low in
    let high = small.high in
    let same : w ≡ bounded x.width = omega (arith, is, width, low, high) in
    let ok = passes is_sound_table xs name x (sym found) sound in
    let parts = and_parts (nat_le (length x.entries) 256) (list_all (literal_fits (bounded x.width)) x.entries) ok in
    record {
      width = same ∙ sym width;
      low = omega (arith, same, width, low);
      high = omega (arith, same, width, high);
      fit = ap (λ v. list_all (literal_fits v) x.entries) same ∙ parts.1;
      few = leb-true (length x.entries) 256 parts.0;
      entries = ap table_entries found ∙ sym (entries_found xs name);
    }

pub none_here : (xs : List Table) (name : List ℕ) → None ≡ first_table xs name → is_width (width_in (map table_declared xs) name) ≡ true → ⊥
none_here xs name found known =
    let width : width_in (map table_declared xs) name ≡ 0 = table_found xs name ∙ ap table_width (sym found) in
    let small = small_width (width_in (map table_declared xs) name) known in
    let low = small.low in
    absurd (omega (arith, width, low))

pub lookup_means : (b : Body) (k : ℕ) (name : List ℕ) (x : Table) (w : ℕ) (entries : List ℕ) (index m : Typed) → IsHere b.tables name x w → entries ≡ map literal_value x.entries
    → m ≡ lookup_meaning index entries w → m ≡ lookup_typed (widths_of b) (env_behind b k) name index
lookup_means b k name x w entries index m here are is =
    let same : entries ≡ entries_in b.tables name = are ∙ here.entries in
    is ∙ (λ i. record { width = here.width i; at = λ env. lookup_value (same i) (index.at env) })
