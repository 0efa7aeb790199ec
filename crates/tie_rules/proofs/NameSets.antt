-- A name that joins a set, and the things before one more.
use Rattle.std.specs.Borrow.{Bor}
use Rattle.std.proofs.Common.{◌≡◌, ℕ, List, [], ◌∷◌, ◌++◌, Bool, true, false, ◌||◌, Option, Some, None, refl, ap, sym, ◌∙◌, ◌+◌, ◌<◌, take, length, get_or}
use Rattle.std.specs.List.{list_any}
use Rattle.std.specs.BTreeSet.{BTreeSet}
use Rattle.tie_grammar.specs.declared.symbol.Leaf.{Leaf}
use Rattle.tie_rules.specs.Least.{behind_from}
use Rattle.tie_rules.specs.Names.{declared_name}
use Rattle.tie_rules.specs.Declarations.{doubled_at, doubled_name, short_of, short_name_of, short_name_at}
use Rattle.tie_mean.specs.Kept.{met}
use Rattle.tie_rules.specs.NameSets.{has_name, again_of, at_again, held_name, doubled_by, doubled_here, short_by, short_here}
use Rattle.tie_grammar.specs.declared.tree.Decl.{Decl}
use Rattle.tie_rules.proofs.Places.{taken_of}

or_none : (b : Bool) → (b || false) ≡ b
or_none true = refl
or_none false = refl

pub or_assoc : (a b c : Bool) → (a || (b || c)) ≡ ((a || b) || c)
or_assoc true b c = refl
or_assoc false b c = refl

pub or_comm : (a b : Bool) → (a || b) ≡ (b || a)
or_comm true true = refl
or_comm true false = refl
or_comm false true = refl
or_comm false false = refl

or_last : (a b c : Bool) → (a || (b || c)) ≡ (b || (a || c))
or_last true true c = refl
or_last true false c = refl
or_last false true c = refl
or_last false false c = refl

any_push : {A : Type 0} (p : A → Bool) (ys : List A) (x : A) → list_any p (ys ++ x ∷ []) ≡ (p x || list_any p ys)
any_push p [] x = refl
any_push p (y ∷ ys) x = ap (λ b. p y || b) (any_push p ys x) ∙ or_last (p y) (p x) (list_any p ys)

pub any_next : {A : Type 0} (p : A → Bool) (xs : List A) (i : ℕ) (x : A) → i < length xs → x ≡ get_or xs i x → (p x || list_any p (take i xs)) ≡ list_any p (take (i + 1) xs)
any_next p xs i x h e = sym (any_push p (take i xs) x) ∙ ap (list_any p) (taken_of xs i x h e)

-- what the set holds is what stands before
pub held_again : {A : Type 0} (name : A → Option Leaf) (s : BTreeSet (Bor (List ℕ))) (before : List A) → ((q : List ℕ) → met s q ≡ list_any (has_name name q) before)
    → (o : Option Leaf) → held_name s o ≡ again_of name before o
held_again name s before h None = refl
held_again name s before h (Some leaf) = h leaf.bytes

-- two rules that name the same places
pub behind_same : {A : Type 0} (f g : List A → A → List ℕ) → ((before : List A) (x : A) → f before x ≡ g before x) → (before xs : List A) → behind_from f before xs ≡ behind_from g before xs
behind_same f g h before [] = refl
behind_same f g h before (x ∷ xs) =
    ap (λ ps. ps ++ behind_from f (before ++ x ∷ []) xs) (h before x) ∙ ap (λ ps. g before x ++ ps) (behind_same f g h (before ++ x ∷ []) xs)

pub doubled_again : (before : List Decl) (decl : Decl) → at_again declared_name doubled_here before decl ≡ doubled_at before decl
doubled_again before decl = by_name (declared_name decl)
  where
    by_name : (o : Option Leaf) → doubled_by (again_of declared_name before o) decl o ≡ doubled_name before decl o
    by_name None = refl
    by_name (Some leaf) = refl

pub short_again : (before : List Decl) (decl : Decl) → at_again short_of short_here before decl ≡ short_name_at before decl
short_again before decl = by_name (short_of decl)
  where
    by_name : (o : Option Leaf) → short_by (again_of short_of before o) o ≡ short_name_of before o
    by_name None = refl
    by_name (Some leaf) = refl
