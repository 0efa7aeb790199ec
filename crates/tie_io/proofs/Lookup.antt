-- A look-up in the files of a memory shelf is a look-up in its map.
use Rattle.std.proofs.Common.{◌≡◌, ◌≢◌, ℕ, Bool, true, false, cond, ◌||◌, List, [], ◌∷◌, Option, Some, None, is_none, option_map, string_bytes, map, refl, sym, ap, ◌∙◌}
use Rattle.std.specs.declared.string.String.{String}
use Rattle.std.specs.declared.vec.Vec.{Vec}
use Rattle.std.specs.String.{string_cmp}
use Rattle.std.specs.Str.{bytes_eq}
use Rattle.std.specs.Map.{lookup}
use Rattle.std.specs.Ordering.{nat_cmp}
use Rattle.std.specs.Cmp.Lexicographic.{slice_cmp}
use Rattle.std.specs.BTreeMap.{BTreeMap, is_at, get_by_text, Updates}
use Rattle.std.proofs.lemmas.Map.Text.{is_eq-slice_cmp, btree_map_updates_text}
use Rattle.std.proofs.lemmas.Slice.Eq.{bytes_eq-Decides}
use Rattle.std.proofs.lemmas.Bool.{false_from_ne_true}
use Rattle.tie_io.specs.Memory.{ShelfState, held, is_planned, read_fails}

-- the files of a map, by their names
abbrev pub files_of : {Y Z : Type 0} → List (String Y × Vec ℕ Z) → List (List ℕ × List ℕ)
files_of es = map (λ e. (string_bytes e.0, e.1.items)) es

pick : {Z : Type 0} (b : Bool) (file : Vec ℕ Z) (found : Option (List ℕ)) (rest : Option (Vec ℕ Z))
    → found ≡ option_map (λ v. v.items) rest → cond b (Some file.items) found ≡ option_map (λ v. v.items) (cond b (Some file) rest)
pick true file found rest e = refl
pick false file found rest e = e

pub held-files_of : {Y Z : Type 0} (name : List ℕ) (es : List (String Y × Vec ℕ Z))
    → held (files_of es) name ≡ option_map (λ v. v.items) (lookup (is_at (λ k. slice_cmp nat_cmp name (string_bytes k))) es)
held-files_of name [] = refl
held-files_of name (e ∷ es) =
    rw (is_eq-slice_cmp name (string_bytes e.0)) (pick (bytes_eq name (string_bytes e.0)) e.1 _ _ (held-files_of name es))

-- the name that was inserted has the new bytes, and every other name what it had
pub held-inserted : {Y Z : Type 0} (m n : BTreeMap (String Y) (Vec ℕ Z)) (key : String Y) (file : Vec ℕ Z) (name : List ℕ)
    → string_bytes key ≡ name → Updates string_cmp m n key (Some file) → (other : List ℕ)
    → held (files_of n.entries) other ≡ cond (bytes_eq name other) (Some file.items) (held (files_of m.entries) other)
held-inserted m n key file name e u other =
    let found : get_by_text n other ≡ cond (bytes_eq (string_bytes key) other) (Some file) (get_by_text m other) = btree_map_updates_text (string_bytes key) m n (Some file) u other in
    held-files_of other n.entries
    ∙ ap (λ o. option_map (λ v. v.items) o) (rw e at found)
    ∙ sym (pick (bytes_eq name other) file _ _ (held-files_of other m.entries))

pub held-inserted_same : {Y Z : Type 0} (m n : BTreeMap (String Y) (Vec ℕ Z)) (key : String Y) (file : Vec ℕ Z) (name : List ℕ)
    → string_bytes key ≡ name → Updates string_cmp m n key (Some file) → held (files_of n.entries) name ≡ Some file.items
held-inserted_same m n key file name e u =
    let same : bytes_eq name name ≡ true = (bytes_eq-Decides name name).1 refl in
    rw same at (held-inserted m n key file name e u name)

pub held-inserted_other : {Y Z : Type 0} (m n : BTreeMap (String Y) (Vec ℕ Z)) (key : String Y) (file : Vec ℕ Z) (name : List ℕ)
    → string_bytes key ≡ name → Updates string_cmp m n key (Some file) → (other : List ℕ) → other ≢ name → held (files_of n.entries) other ≡ held (files_of m.entries) other
held-inserted_other m n key file name e u other ne =
    let differs : bytes_eq name other ≡ false = false_from_ne_true _ (λ p. ne (sym ((bytes_eq-Decides name other).0 p))) in
    rw differs at (held-inserted m n key file name e u other)

or_true : (b : Bool) → (b || true) ≡ true
or_true true = refl
or_true false = refl

-- a read of a name that was not added fails
pub absent_fails : (s : ShelfState) (name : List ℕ) → held s.files name ≡ None → read_fails s name ≡ true
absent_fails s name absent = ap (λ found. is_planned s.fail s.calls || is_none found) absent ∙ or_true (is_planned s.fail s.calls)

-- a read of a name that was added doesn't, if its number isn't to fail
pub present_reads : (s : ShelfState) (name file : List ℕ) → is_planned s.fail s.calls ≡ false → held s.files name ≡ Some file → read_fails s name ≡ false
present_reads s name file unplanned present =
    ap (λ planned. planned || is_none (held s.files name)) unplanned ∙ ap (λ found. is_none found) present

pub is_held : {Y Z : Type 0} (m : BTreeMap (String Y) (Vec ℕ Z)) (name : List ℕ) (found : Option (Vec ℕ Z))
    → found ≡ get_by_text m name → held (files_of m.entries) name ≡ option_map (λ v. v.items) found
is_held m name found e = held-files_of name m.entries ∙ ap (λ o. option_map (λ v. v.items) o) (sym e)
