-- Names that are kept in sets, and values that are kept by names.
use Rattle.std.specs.Borrow.{Bor}
use Rattle.std.specs.Prelude.{ℕ, Bool, List, Option, Some, None}
use Rattle.std.specs.BTreeMap.{BTreeMap, get_by}
use Rattle.std.specs.BTreeSet.{BTreeSet, contains_by}
use Rattle.std.specs.Ordering.{nat_cmp}
use Rattle.std.specs.Cmp.Lexicographic.{slice_cmp}

-- the set has the name
abbrev pub met : BTreeSet (Bor (List ℕ)) → List ℕ → Bool
met s name = contains_by (λ k. slice_cmp nat_cmp name k.now) s

-- what is kept for a name, where anything is
abbrev pub kept : {X : Type 0} → BTreeMap (Bor (List ℕ)) X → List ℕ → Option X
kept m name = get_by (λ k. slice_cmp nat_cmp name k.now) m

-- the first of two answers
abbrev pub first_of_two : {X : Type 0} → Option X → Option X → Option X
first_of_two None b = b
first_of_two (Some a) b = Some a
