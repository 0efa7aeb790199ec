-- Names with their widths, up to the limit.
use Rattle.std.proofs.Common.{◌≡◌, ℕ, ◌+◌, ◌<◌, ◌≤◌, Bool, true, false, if◌then◌else◌, List, [], ◌∷◌, ◌++◌, map, length, drop, take, get_or, Option, Some, None, refl, ap, ◌∙◌, sym, arith}
use Rattle.std.proofs.lemmas.Grind.{common_steps}
use Rattle.std.proofs.lemmas.List.{map-append}
use Rattle.std.specs.Borrow.{Bor}
use Rattle.std.specs.BTreeMap.{BTreeMap}
use Rattle.std.specs.List.{flat_map}
use Rattle.std.specs.Str.{bytes_eq}
use Rattle.tie_mean.specs.Kept.{kept}
use Rattle.tie_grammar.specs.declared.symbol.Leaf.{Leaf}
use Rattle.tie_grammar.specs.declared.tree.Decl.{Decl}
use Rattle.std.specs.Option.{unwrap_or}
use Rattle.tie_mean.specs.Kept.{first_of_two}
use Rattle.tie_mean.specs.Sizes.{limited}
use Rattle.tie_mean.specs.Names.{is_named, Declared, width_in}
use Rattle.tie_results.specs.Texts.{first_width, limited_declared, shown}

pub first_width-append : (xs ys : List Declared) (name : List ℕ) → first_width (xs ++ ys) name ≡ first_of_two (first_width xs name) (first_width ys name)
first_width-append [] ys name = refl
first_width-append (x ∷ xs) ys name =
    elim (is_named name x.name) as (λ b. (if b then Some x.width else first_width (xs ++ ys) name) ≡ first_of_two (if b then Some x.width else first_width xs name) (first_width ys name))
    [ true ↦ refl | false ↦ first_width-append xs ys name ]

pub width_first : (xs : List Declared) (name : List ℕ) → width_in xs name ≡ unwrap_or (first_width xs name) 0
width_first [] name = refl
width_first (x ∷ xs) name =
    elim (is_named name x.name) as (λ b. (if b then x.width else width_in xs name) ≡ unwrap_or (if b then Some x.width else first_width xs name) 0)
    [ true ↦ refl | false ↦ width_first xs name ]

pub width_limited : (xs : List Declared) (name : List ℕ) → limited (width_in xs name) ≡ unwrap_or (first_width (map limited_declared xs) name) 0
width_limited [] name = refl
width_limited (x ∷ xs) name =
    elim (is_named name x.name) as (λ b. limited (if b then x.width else width_in xs name) ≡ unwrap_or (if b then Some (limited x.width) else first_width (map limited_declared xs) name) 0)
    [ true ↦ refl | false ↦ width_limited xs name ]

map-flat_map : (f : Decl → List Declared) (ds : List Decl) → map limited_declared (flat_map f ds) ≡ flat_map (λ d. map limited_declared (f d)) ds
map-flat_map f [] = refl
map-flat_map f (d ∷ ds) = map-append limited_declared (f d) (flat_map f ds) ∙ ap (λ z. map limited_declared (f d) ++ z) (map-flat_map f ds)

-- what is found among declarations
pub limited_first : (f : Decl → List Declared) (ds : List Decl) (name : List ℕ) (o : Option ℕ) → first_width (flat_map (λ d. map limited_declared (f d)) ds) name ≡ o
    → unwrap_or o 0 ≡ limited (width_in (flat_map f ds) name)
limited_first f ds name o e =
    ap (λ p. unwrap_or p 0) (sym e) ∙ ap (λ xs. unwrap_or (first_width xs name) 0) (sym (map-flat_map f ds)) ∙ sym (width_limited (flat_map f ds) name)

next_of : {A : Type 0} (xs : List A) (i : ℕ) (x : A) → i < length xs → x ≡ get_or xs i x → drop i xs ≡ x ∷ drop (i + 1) xs
next_of xs i x h e = grind (arith, common_steps)

pub taken_of : {A : Type 0} (xs : List A) (i : ℕ) (x : A) → i < length xs → x ≡ get_or xs i x → take i xs ++ x ∷ [] ≡ take (i + 1) xs
taken_of xs i x h e = grind (arith, common_steps)

-- the first declaration that has the name
pub found_here : (g : Decl → List Declared) (ds : List Decl) (i : ℕ) (d : Decl) (name : List ℕ) (w : ℕ) (total : Option ℕ) → i < length ds → d ≡ get_or ds i d → Some w ≡ first_width (g d) name
    → first_width (flat_map g (drop i ds)) name ≡ total → total ≡ Some w
found_here g ds i d name w total h e is inv =
    sym inv ∙ ap (λ ys. first_width (flat_map g ys) name) (next_of ds i d h e) ∙ first_width-append (g d) (flat_map g (drop (i + 1) ds)) name
    ∙ ap (λ o. first_of_two o (first_width (flat_map g (drop (i + 1) ds)) name)) (sym is)

-- one name more
pub widths_more : (m n : BTreeMap (Bor (List ℕ)) ℕ) (xs : List (Bor Leaf × ℕ)) (i : ℕ) (x : Bor Leaf × ℕ) → i < length xs → x ≡ get_or xs i x
    → ((q : List ℕ) → kept m q ≡ first_width (map shown (take i xs)) q)
    → ((q : List ℕ) → kept n q ≡ first_of_two (kept m q) (if bytes_eq x.0.now.bytes q then Some x.1 else None))
    → (q : List ℕ) → kept n q ≡ first_width (map shown (take (i + 1) xs)) q
widths_more m n xs i x h e so put q =
    put q ∙ ap (λ o. first_of_two o (if bytes_eq x.0.now.bytes q then Some x.1 else None)) (so q)
    ∙ sym (first_width-append (map shown (take i xs)) (shown x ∷ []) q)
    ∙ ap (λ ys. first_width ys q) (sym (map-append shown (take i xs) (x ∷ [])) ∙ ap (map shown) (taken_of xs i x h e))

all_taken : {A : Type 0} (xs : List A) (i : ℕ) → length xs ≤ i → take i xs ≡ xs
all_taken xs i h = grind (arith, common_steps)

pub width_all : (m : BTreeMap (Bor (List ℕ)) ℕ) (xs : List (Bor Leaf × ℕ)) (i : ℕ) → length xs ≤ i → ((q : List ℕ) → kept m q ≡ first_width (map shown (take i xs)) q)
    → (q : List ℕ) → unwrap_or (kept m q) 0 ≡ width_in (map shown xs) q
width_all m xs i h so q =
    ap (λ o. unwrap_or o 0) (so q ∙ ap (λ ys. first_width (map shown ys) q) (all_taken xs i h)) ∙ sym (width_first (map shown xs) q)

pub ruleset first_widths = (width_limited, first_width-append)
