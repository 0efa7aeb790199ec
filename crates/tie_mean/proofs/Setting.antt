-- What the last setting of a name says of what the name stands for.
use Rattle.std.proofs.Common.{◌≡◌, ℕ, zero, suc, ◌<◌, Bool, true, false, ◌&&◌, not, if◌then◌else◌, List, length, get_or, Option, Some, None, refl, ap, sym, ◌∙◌}
use Rattle.std.proofs.lemmas.Option.{slice_get_read}
use Rattle.tie_mean.specs.Names.{Setting, setting, setting_of, setting_at, sets, has, is_named, behind, behind_setting, set_to, last_set}
use Rattle.tie_mean.specs.Setters.{setter, setter_or, give_setting, give_at}
use Rattle.tie_grammar.specs.declared.symbol.Leaf.{Leaf}
use Rattle.tie_grammar.specs.declared.tree.Expr.{Expr}
use Rattle.tie_grammar.specs.declared.tree.Item.{Item}

pub setting_read : (items : List Item) (k : ℕ) (item : Item) → k < length items → item ≡ get_or items k item → setting_at items k ≡ setting item
setting_read items k item h e = ap setting_of (slice_get_read items (length items) k item refl h e)

setter_or_is : (o : Option Setting) (k : ℕ) (name : List ℕ) (e : Option ℕ) (b : Bool) → sets name o ≡ b → setter_or o k name e ≡ (if b then Some k else e)
setter_or_is None k name e b h = ap (λ v. if v then Some k else e) h
setter_or_is (Some s) k name e b h = ap (λ v. if v then Some k else e) h

pub setter_step : (items : List Item) (k : ℕ) (name : List ℕ) (item : Item) (b : Bool) → k < length items → item ≡ get_or items k item → sets name (setting item) ≡ b
    → setter items (suc k) name ≡ (if b then Some k else setter items k name)
setter_step items k name item b h e is =
    setter_or_is (setting_at items k) k name (setter items k name) b (ap (sets name) (setting_read items k item h e) ∙ is)

set_behind : {A : Type 0} (inputs : List (List ℕ)) (give : (List ℕ → A) → Leaf → Expr → A) (first : List ℕ → A) (items : List Item) (k : ℕ) (name : List ℕ) → has inputs name ≡ false
    → (before : Option ℕ) → behind inputs give first items k name ≡ give_at give (behind inputs give first items) items before (first name)
    → (o : Option Setting) → setting_at items k ≡ o
    → behind_setting inputs give (behind inputs give first items k) o name ≡ give_at give (behind inputs give first items) items (setter_or o k name before) (first name)
set_behind inputs give first items k name free before ih None e = ih
set_behind {A} inputs give first items k name free before ih (Some s) e =
    let names : ℕ → List ℕ → A = behind inputs give first items in
    let here : A = give (names k) s.name s.value in
    elim (is_named name s.name) as (λ b. (if b && not (has inputs name) then here else names k name) ≡ give_at give names items (if b then Some k else before) (first name)) [
      | true ↦ ap (λ v. if not v then here else names k name) free ∙ sym (ap (λ o. give_setting give (names k) o (first name)) e)
      | false ↦ ih
    ]

-- what stands for a name that is no input is what its last setting gives
pub behind_set : {A : Type 0} (inputs : List (List ℕ)) (give : (List ℕ → A) → Leaf → Expr → A) (first : List ℕ → A) (items : List Item) (k : ℕ) (name : List ℕ) → has inputs name ≡ false
    → behind inputs give first items k name ≡ give_at give (behind inputs give first items) items (setter items k name) (first name)
behind_set inputs give first items zero name free = refl
behind_set inputs give first items (suc k) name free =
    set_behind inputs give first items k name free (setter items k name) (behind_set inputs give first items k name free) (setting_at items k) refl

kept_behind : {A : Type 0} (inputs : List (List ℕ)) (give : (List ℕ → A) → Leaf → Expr → A) (before : List ℕ → A) (name : List ℕ) → has inputs name ≡ true
    → (o : Option Setting) → behind_setting inputs give before o name ≡ before name
kept_behind inputs give before name input None = refl
kept_behind inputs give before name input (Some s) =
    elim (is_named name s.name) as (λ b. (if b && not (has inputs name) then give before s.name s.value else before name) ≡ before name) [
      | true ↦ ap (λ v. if not v then give before s.name s.value else before name) input
      | false ↦ refl
    ]

-- an input stands for what it stood for at first
pub behind_kept : {A : Type 0} (inputs : List (List ℕ)) (give : (List ℕ → A) → Leaf → Expr → A) (first : List ℕ → A) (items : List Item) (k : ℕ) (name : List ℕ) → has inputs name ≡ true
    → behind inputs give first items k name ≡ first name
behind_kept inputs give first items zero name input = refl
behind_kept inputs give first items (suc k) name input =
    kept_behind inputs give (behind inputs give first items k) name input (setting_at items k) ∙ behind_kept inputs give first items k name input

set_last : {A : Type 0} (give : (List ℕ → A) → Leaf → Expr → A) (names : ℕ → List ℕ → A) (none : A) (items : List Item) (k : ℕ) (name : List ℕ) (before : Option ℕ) (earlier : A)
    → earlier ≡ give_at give names items before none → (o : Option Setting) → setting_at items k ≡ o
    → set_to give (names k) o name earlier ≡ give_at give names items (setter_or o k name before) none
set_last give names none items k name before earlier ih None e = ih
set_last give names none items k name before earlier ih (Some s) e =
    elim (is_named name s.name) as (λ b. (if b then give (names k) s.name s.value else earlier) ≡ give_at give names items (if b then Some k else before) none) [
      | true ↦ sym (ap (λ o. give_setting give (names k) o none) e)
      | false ↦ ih
    ]

-- what a name is last set to
pub last_set_at : {A : Type 0} (give : (List ℕ → A) → Leaf → Expr → A) (names : ℕ → List ℕ → A) (none : A) (items : List Item) (k : ℕ) (name : List ℕ)
    → last_set give names none items k name ≡ give_at give names items (setter items k name) none
last_set_at give names none items zero name = refl
last_set_at give names none items (suc k) name =
    set_last give names none items k name (setter items k name) (last_set give names none items k name) (last_set_at give names none items k name) (setting_at items k) refl

found_sets : (items : List Item) (k : ℕ) (name : List ℕ) (j : ℕ) (before : Option ℕ) → (before ≡ Some j → sets name (setting_at items j) ≡ true)
    → (o : Option Setting) → setting_at items k ≡ o → setter_or o k name before ≡ Some j → sets name (setting_at items j) ≡ true
found_sets items k name j before ih None e h = ih h
found_sets items k name j before ih (Some s) e h =
    elim (is_named name s.name) as (λ b. is_named name s.name ≡ b → (if b then Some k else before) ≡ Some j → sets name (setting_at items j) ≡ true) [
      | true ↦ λ t found. let same : k ≡ j = cc in sym (ap (λ n. sets name (setting_at items n)) same) ∙ ap (sets name) e ∙ t
      | false ↦ λ f found. ih found
    ] refl h

-- the item that was found sets the name
pub setter_sets : (items : List Item) (k : ℕ) (name : List ℕ) (j : ℕ) → setter items k name ≡ Some j → sets name (setting_at items j) ≡ true
setter_sets items zero name j h = cc
setter_sets items (suc k) name j h = found_sets items k name j (setter items k name) (setter_sets items k name j) (setting_at items k) refl h
