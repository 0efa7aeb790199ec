-- Registers of which none is repeated all differ.
use Rattle.std.proofs.Common.{◌≡◌, ℕ, Bool, true, false, not, List, [], ◌∷◌, ◌++◌, refl, sym, ap, Option, Some, None, ◌∙◌, append_assoc}
use Rattle.std.specs.Prelude.{◌&&◌, ◌||◌, map, if◌then◌else◌}
use Rattle.std.specs.List.{list_any}
use Rattle.std.proofs.lemmas.List.{append-nil}
use Rattle.tie_desc.specs.Names.{all_differ}
use Rattle.tie_desc.specs.Spots.{same_spot}
use Rattle.tie_desc.specs.declared.bundle.Spot.{Spot}
use Rattle.asm_rules.specs.declared.written.Written.{Written}
use Rattle.asm_rules.specs.Slots.{repeated}

neither : (a b : Bool) → (a || b) ≡ false → (a ≡ false) × (b ≡ false)
neither true b h = absurd (no h)
  where
    no : true ≡ false → ⊥
    no h = cc
neither false b h = (refl, h)

any_behind : {A : Type 0} (p : A → Bool) (xs : List A) (y : A) → list_any p xs ≡ false → p y ≡ false → list_any p (xs ++ y ∷ []) ≡ false
any_behind p [] y h k = ap (λ b. b || false) k
any_behind p (x ∷ xs) y h k =
    let g = neither (p x) (list_any p xs) h in
    ap (λ b. b || list_any p (xs ++ y ∷ [])) g.0 ∙ any_behind p xs y g.1 k

none_of : (b : Bool) → not b ≡ true → b ≡ false
none_of true h = absurd (no h)
  where
    no : false ≡ true → ⊥
    no h = cc
none_of false h = refl

two : (a b : Bool) → (a && b) ≡ true → (a ≡ true) × (b ≡ true)
two true b h = (refl, h)
two false b h = absurd (no h)
  where
    no : false ≡ true → ⊥
    no h = cc

-- one more that is none of those before
one_more : (xs : List Spot) (y : Spot) → all_differ same_spot xs ≡ true → list_any (λ x. same_spot x y) xs ≡ false → all_differ same_spot (xs ++ y ∷ []) ≡ true
one_more [] y h k = refl
one_more (x ∷ xs) y h k =
    let g = two (not (list_any (same_spot x) xs)) (all_differ same_spot xs) h in
    let n = neither (same_spot x y) (list_any (λ x. same_spot x y) xs) k in
    let first : list_any (same_spot x) (xs ++ y ∷ []) ≡ false = any_behind (same_spot x) xs y (none_of (list_any (same_spot x) xs) g.0) n.0 in
    ap (λ b. not b && all_differ same_spot (xs ++ y ∷ [])) first ∙ one_more xs y g.1 n.1

any_mapped : (p : Spot → Bool) (ws : List Written) → list_any p (map (λ w. w.spot) ws) ≡ list_any (λ w. p w.spot) ws
any_mapped p [] = refl
any_mapped p (w ∷ ws) = ap (λ b. p w.spot || b) (any_mapped p ws)

map_snoc : (es : List Written) (w : Written) → map (λ w. w.spot) (es ++ w ∷ []) ≡ map (λ w. w.spot) es ++ w.spot ∷ []
map_snoc [] w = refl
map_snoc (e ∷ es) w = ap (λ z. e.spot ∷ z) (map_snoc es w)

not_found : (b : Bool) (c : ℕ) (rest : Option ℕ) → (if b then Some c else rest) ≡ None → (b ≡ false) × (rest ≡ None)
not_found true c rest h = absurd (no h)
  where
    no : Some c ≡ None → ⊥
    no h = cc
not_found false c rest h = (refl, h)

differ_from : (es ws : List Written) → repeated es ws ≡ None → all_differ same_spot (map (λ w. w.spot) es) ≡ true → all_differ same_spot (map (λ w. w.spot) es ++ map (λ w. w.spot) ws) ≡ true
differ_from es [] h k = ap (all_differ same_spot) (append-nil (map (λ w. w.spot) es)) ∙ k
differ_from es (w ∷ ws) h k =
    let g = not_found (list_any (λ e. same_spot e.spot w.spot) es) w.column (repeated (es ++ w ∷ []) ws) h in
    let more : all_differ same_spot (map (λ w. w.spot) (es ++ w ∷ [])) ≡ true =
    ap (all_differ same_spot) (map_snoc es w) ∙ one_more (map (λ w. w.spot) es) w.spot k (any_mapped (λ x. same_spot x w.spot) es ∙ g.0) in
    sym (ap (all_differ same_spot) (ap (λ z. z ++ map (λ w. w.spot) ws) (map_snoc es w) ∙ append_assoc (map (λ w. w.spot) es) (w.spot ∷ []) (map (λ w. w.spot) ws)))
    ∙ differ_from (es ++ w ∷ []) ws g.1 more

pub all_differ_from : (ws : List Written) → repeated [] ws ≡ None → all_differ same_spot (map (λ w. w.spot) ws) ≡ true
all_differ_from ws h = differ_from [] ws h refl
