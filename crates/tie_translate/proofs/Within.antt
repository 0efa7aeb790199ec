-- Bounds of typed expressions that are built of others.
use Rattle.std.proofs.Common.{◌≡◌, ℕ, suc, ◌+◌, ◌*◌, ◌≤◌, ◌==◌, inl, inr, List, [], ◌∷◌, ◌++◌, length, Some, refl, sym, ap, subst, ◌∙◌, arith}
use Rattle.std.specs.List.{All, count_by, flat_map, slice_get, sum_by}
use Rattle.std.proofs.lemmas.List.Elements.{All-append, All-nil}
use Rattle.std.proofs.lemmas.List.Sums.{sum_by-append, sum_by-cons}
use Rattle.tie_expr.specs.Substitute.{IsOver}
use Rattle.tie_expr.specs.Tree.{Input, inputs, size}
use Rattle.tie_expr.specs.declared.node.Node.{Node}
use Rattle.tie_translate.specs.Bounds.{IsWithin, AreWithin, ReadsBoth, occurrences}

-- how often a list of inputs has the number k
abbrev many : ℕ → List Input → ℕ
many k is = count_by (λ i. i.index == k) is

many_append : (k : ℕ) (is js : List Input) → many k (is ++ js) ≡ many k is + many k js
many_append k is js = sum_by-append _ is js

over_append : (ws : List ℕ) (is js : List Input) → IsOver ws is → IsOver ws js → IsOver ws (is ++ js)
over_append ws is js a b = All-append (λ i. slice_get ws i.index ≡ Some i.width) is js a b

pub over_none : (ws : List ℕ) → IsOver ws []
over_none ws = All-nil (λ i. slice_get ws i.index ≡ Some i.width)

-- one that reads the same as another and is little larger
pub within_same : (ws : List ℕ) (r m : ℕ) (f : ℕ → ℕ) (s n : ℕ) (g : ℕ → ℕ) (a e : Node) → IsWithin ws r m f a → inputs e ≡ inputs a → size e + s + m ≤ size a + r + n → ((k : ℕ) → f k ≤ g k)
    → IsWithin ws s n g e
within_same ws r m f s n g a e h same more reads = record {
  over = let P : List Input → Type 0 = λ is. IsOver ws is in subst P (sym same) h.over;
  small = let small = h.small in omega (arith, small, more);
  often = λ k. (let e1 = ap (many k) same in let o = h.often k in let l = reads k in omega (arith, e1, o, l));
}

both_many : (k : ℕ) (a b e : Node) → ReadsBoth a b e → occurrences k e ≡ occurrences k a + occurrences k b
both_many k a b e (inl is) = ap (many k) is ∙ many_append k (inputs a) (inputs b)
both_many k a b e (inr is) = let x = ap (many k) is ∙ many_append k (inputs b) (inputs a) in omega (arith, x)

both_over : (ws : List ℕ) (a b e : Node) → ReadsBoth a b e → IsOver ws (inputs a) → IsOver ws (inputs b) → IsOver ws (inputs e)
both_over ws a b e (inl is) p q = let P : List Input → Type 0 = λ is. IsOver ws is in subst P (sym is) (over_append ws (inputs a) (inputs b) p q)
both_over ws a b e (inr is) p q = let P : List Input → Type 0 = λ is. IsOver ws is in subst P (sym is) (over_append ws (inputs b) (inputs a) q p)

pub within_both : (ws : List ℕ) (r m : ℕ) (f : ℕ → ℕ) (r' m' : ℕ) (f' : ℕ → ℕ) (s n : ℕ) (g : ℕ → ℕ) (a b e : Node) → IsWithin ws r m f a → IsWithin ws r' m' f' b → ReadsBoth a b e
    → size e + s + m + m' ≤ size a + r + size b + r' + n → ((k : ℕ) → f k + f' k ≤ g k) → IsWithin ws s n g e
within_both ws r m f r' m' f' s n g a b e h h' both more reads = record {
  over = both_over ws a b e both h.over h'.over;
  small = let p = h.small in let q = h'.small in omega (arith, p, q, more);
  often = λ k. (let x = both_many k a b e both in let o = h.often k in let o' = h'.often k in let l = reads k in omega (arith, x, o, o', l));
}

pub within_three : (ws : List ℕ) (r m : ℕ) (f : ℕ → ℕ) (m' : ℕ) (f' : ℕ → ℕ) (m'' : ℕ) (f'' : ℕ → ℕ) (s n : ℕ) (g : ℕ → ℕ) (c a b e : Node) → IsWithin ws r m f c → IsWithin ws r m' f' a → IsWithin ws r m'' f'' b
    → inputs e ≡ inputs c ++ inputs a ++ inputs b
    → size e + s + m + m' + m'' ≤ size c + size a + size b + 3 * r + n → ((k : ℕ) → f k + (f' k + f'' k) ≤ g k) → IsWithin ws s n g e
within_three ws r m f m' f' m'' f'' s n g c a b e h h' h'' is more reads = record {
  over = let P : List Input → Type 0 = λ is. IsOver ws is in
      subst P (sym is) (over_append ws (inputs c ++ inputs a) (inputs b) (over_append ws (inputs c) (inputs a) h.over h'.over) h''.over);
  small = let p = h.small in let q = h'.small in let q' = h''.small in omega (arith, p, q, q', more);
  often = λ k. (
      let x = ap (many k) is ∙ many_append k (inputs c ++ inputs a) (inputs b) in let y = many_append k (inputs c) (inputs a) in let o = h.often k in let o' = h'.often k in let o'' = h''.often k in let l = reads k in omega (arith, x, y, o, o', o'', l)
      );
}

-- ---- lists

all_head : (ws : List ℕ) (e : Node) (es : List Node) → All (λ e. IsOver ws (inputs e)) (e ∷ es) → IsOver ws (inputs e)
all_head ws e es all = all 0 e (omega arith)

all_tail : (ws : List ℕ) (e : Node) (es : List Node) → All (λ e. IsOver ws (inputs e)) (e ∷ es) → All (λ e. IsOver ws (inputs e)) es
all_tail ws e es all = λ k d h. all (suc k) d (omega arith)

all_over : (ws : List ℕ) (es : List Node) → All (λ e. IsOver ws (inputs e)) es → IsOver ws (flat_map inputs es)
all_over ws [] all = over_none ws
all_over ws (e ∷ es) all = over_append ws (inputs e) (flat_map inputs es) (all_head ws e es all) (all_over ws es (all_tail ws e es all))

all_many : (k : ℕ) (es : List Node) → many k (flat_map inputs es) ≡ sum_by (occurrences k) es
all_many k [] = refl
all_many k (e ∷ es) = many_append k (inputs e) (flat_map inputs es) ∙ ap (λ n. occurrences k e + n) (all_many k es) ∙ sym (sum_by-cons (occurrences k) e es)

pub within_all : (ws : List ℕ) (r m : ℕ) (f : ℕ → ℕ) (s n : ℕ) (g : ℕ → ℕ) (es : List Node) (e : Node) → AreWithin ws r m f es → inputs e ≡ flat_map inputs es
    → size e + s + m ≤ sum_by size es + r * length es + n → ((k : ℕ) → f k ≤ g k) → IsWithin ws s n g e
within_all ws r m f s n g es e h is more reads = record {
  over = let P : List Input → Type 0 = λ is. IsOver ws is in subst P (sym is) (all_over ws es h.over);
  small = let p = h.small in omega (arith, p, more);
  often = λ k. (let x = ap (many k) is ∙ all_many k es in let o = h.often k in let l = reads k in omega (arith, x, o, l));
}
