-- What a name counts, by its last setting.
use Rattle.std.proofs.Common.{◌≡◌, ℕ, ◌+◌, ◌≤◌, true, false, if◌then◌else◌, List, Option, Some, None, refl, ap, ◌∙◌, arith}
use Rattle.std.specs.Str.{bytes_eq}
use Rattle.tie_mean.specs.Names.{Setting, setting_at, sets, has}
use Rattle.tie_mean.specs.Setters.{setter, leaf_names, give_setting, give_at}
use Rattle.tie_mean.specs.Counts.{Counted, nodes, lone_name, limited, value_count, replaced_count, Seen}
use Rattle.tie_mean.specs.CountScope.{counted_of, seen_in, names_in, item_count, kept_count}
use Rattle.tie_mean.specs.declared.scope.CountScope.{CountScope}
use Rattle.tie_mean.proofs.Setting.{behind_set, behind_kept, setter_sets}

lone_small : (what : Counted) (name : List ℕ) → lone_name what name ≤ 1
lone_small None name = omega arith
lone_small (Some p) name = elim (bytes_eq p name) as (λ b. (if b then 1 else 0) ≤ 1) [ true ↦ omega arith | false ↦ omega arith ]

lone_limited : (what : Counted) (name : List ℕ) (n : ℕ) → n ≡ lone_name what name → lone_name what name ≡ limited n
lone_limited what name n e = let small = lone_small what name in omega (arith, small, e)

-- of an input
pub input_count : (s : CountScope) (k : ℕ) (name : List ℕ) → has (leaf_names s.inputs.now) name ≡ true → lone_name (counted_of s.what) name ≡ limited (names_in s k name)
input_count s k name h =
    lone_limited (counted_of s.what) name (names_in s k name)
    (behind_kept (leaf_names s.inputs.now) (replaced_count (counted_of s.what) (seen_in s)) (lone_name (counted_of s.what)) s.items.now k name h)

read : (s : CountScope) (k : ℕ) (name : List ℕ) (at : Option ℕ) → has (leaf_names s.inputs.now) name ≡ false → setter s.items.now k name ≡ at
    → names_in s k name ≡ give_at (replaced_count (counted_of s.what) (seen_in s)) (names_in s) s.items.now at (lone_name (counted_of s.what) name)
read s k name at free e =
    behind_set (leaf_names s.inputs.now) (replaced_count (counted_of s.what) (seen_in s)) (lone_name (counted_of s.what)) s.items.now k name free
    ∙ ap (λ o. give_at (replaced_count (counted_of s.what) (seen_in s)) (names_in s) s.items.now o (lone_name (counted_of s.what) name)) e

-- of a name for which nothing is kept
pub unset_count : (s : CountScope) (k : ℕ) (name : List ℕ) → has (leaf_names s.inputs.now) name ≡ false → kept_count s (setter s.items.now k name) ≡ None
    → lone_name (counted_of s.what) name ≡ limited (names_in s k name)
unset_count s k name free e = by_setter (setter s.items.now k name) refl e
  where
    by_setter : (o : Option ℕ) → setter s.items.now k name ≡ o → kept_count s o ≡ None → lone_name (counted_of s.what) name ≡ limited (names_in s k name)
    by_setter None is e = lone_limited (counted_of s.what) name (names_in s k name) (read s k name None free is)
    by_setter (Some j) is e = cc

one_more : (what : Counted) (seen : Seen) (names : List ℕ → ℕ) (name : List ℕ) (o : Option Setting) (other : ℕ) → sets name o ≡ true
    → give_setting (replaced_count what seen) names o other ≡ nodes what 1 + give_setting (value_count what seen) names o 0
one_more what seen names name None other h = cc
one_more what seen names name (Some s) other h = refl

set_there : (s : CountScope) (k j : ℕ) (name : List ℕ) (n : ℕ) → has (leaf_names s.inputs.now) name ≡ false → setter s.items.now k name ≡ Some j
    → n ≡ limited (item_count s j) → limited (nodes (counted_of s.what) 1 + n) ≡ limited (names_in s k name)
set_there s k j name n free e is =
    let more = one_more (counted_of s.what) (seen_in s) (names_in s j) name (setting_at s.items.now j) (lone_name (counted_of s.what) name) (setter_sets s.items.now k name j e) in
    let whole = read s k name (Some j) free e ∙ more in
    omega (arith, whole, is)

-- of a name for which a count is kept
pub set_name_count : (s : CountScope) (k : ℕ) (name : List ℕ) (n : ℕ) → has (leaf_names s.inputs.now) name ≡ false → kept_count s (setter s.items.now k name) ≡ Some n
    → limited (nodes (counted_of s.what) 1 + n) ≡ limited (names_in s k name)
set_name_count s k name n free e = by_setter (setter s.items.now k name) refl e
  where
    by_setter : (o : Option ℕ) → setter s.items.now k name ≡ o → kept_count s o ≡ Some n → limited (nodes (counted_of s.what) 1 + n) ≡ limited (names_in s k name)
    by_setter None is e = cc
    by_setter (Some j) is e = let same : n ≡ limited (item_count s j) = cc in set_there s k j name n free is same
