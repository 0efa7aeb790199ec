-- One part or argument more.
use Rattle.std.proofs.Common.{◌≡◌, ℕ, zero, suc, ◌+◌, ◌*◌, ◌≤◌, ◌<◌, Bool, ◌&&◌, IsTrue, List, [], ◌∷◌, ◌++◌, length, map, sum, take, get_or, slice_index, slice_index_or, refl, sym, ap, subst, ◌∙◌, arith}
use Rattle.std.specs.List.{All}
use Rattle.std.proofs.Math.Nat.{mul-le-mul_left, mul-le-mul_right}
use Rattle.std.proofs.lemmas.Bool.{and_parts}
use Rattle.std.proofs.lemmas.List.{map-append, length-append, length-take-le, take_more}
use Rattle.std.proofs.lemmas.List.Elements.{All-append, All-nil}
use Rattle.std.proofs.lemmas.List.Sums.{sum-map, sum_by-cons, sum_by_push}
use Rattle.tie_expr.specs.Meaning.{Meaning as Typed}
use Rattle.tie_expr.specs.Substitute.{IsOver}
use Rattle.tie_expr.specs.Tree as typed
use Rattle.tie_expr.specs.Tree.{inputs}
use Rattle.tie_expr.specs.declared.node.Node.{Node}
use Rattle.tie_grammar.specs.declared.tree.Expr.{Expr}
use Rattle.tie_mean.specs.Counts.{weighted}
use Rattle.tie_mean.specs.Literals.{is_width}
use Rattle.tie_mean.specs.Scope.{Widths}
use Rattle.tie_mean.specs.Values.{Meaning, meaning, size, all_sized, arguments_sized}
use Rattle.tie_translate.specs.Bounds.{Bounds, IsBounded, AreBounded, AreArgumentsBounded, nodes_of, reads_of, occurrences, room, assigned_room}
use Rattle.tie_translate.specs.Translation.{Env, in_size, assigned_in, own_typed, arguments_typed, widths_of}

-- ---- parts in their own sizes

-- each of sized expressions is sized
pub all_sized_at : (w : Widths) (xs : List Expr) (i : ℕ) (x : Expr) → IsTrue (all_sized (map (meaning w) xs)) → i < length xs → x ≡ get_or xs i x → IsTrue (meaning w x).sized
all_sized_at w [] i x all h e = absurd (omega arith)
all_sized_at w (y ∷ ys) zero x all h e =
    let P : Expr → Type 0 = λ z. IsTrue (meaning w z).sized in
    subst P (sym e) (and_parts (meaning w y).sized (all_sized (map (meaning w) ys)) all).0
all_sized_at w (y ∷ ys) (suc i) x all h e = all_sized_at w ys i x (and_parts (meaning w y).sized (all_sized (map (meaning w) ys)) all).1 (omega arith) e

-- a part counts no more than all
pub sum_at : (f : Expr → ℕ) (xs : List Expr) (i : ℕ) (x : Expr) → i < length xs → x ≡ get_or xs i x → f x ≤ sum (map f xs)
sum_at f [] i x h e = absurd (omega arith)
sum_at f (y ∷ ys) zero x h e = let a = ap f e in let s = sum-map f (y ∷ ys) in let c = sum_by-cons f y ys in omega (arith, a, s, c)
sum_at f (y ∷ ys) (suc i) x h e =
    let rest = sum_at f ys i x (omega arith) e in
    let s = sum-map f (y ∷ ys) in
    let r = sum-map f ys in
    let c = sum_by-cons f y ys in
    omega (arith, rest, s, r, c)

-- the first i parts, and one more
more : {X : Type 0} (xs : List X) (i : ℕ) (x : X) → i < length xs → x ≡ get_or xs i x → take (i + 1) xs ≡ take i xs ++ x ∷ []
more xs i x h e = take_more xs i x h ∙ ap (λ y. take i xs ++ y ∷ []) (sym e)

pub parts_more : (w : Widths) (env : Env) (xs : List Expr) (i : ℕ) (x : Expr) (k : ℕ) (es : List Node) (e : Node) → i < length xs → x ≡ get_or xs i x → k ≡ size w x
    → map typed.meaning es ≡ map (own_typed env) (map (meaning w) (take i xs)) → typed.meaning e ≡ in_size w env k x → map typed.meaning (es ++ e ∷ []) ≡ map (own_typed env) (map (meaning w) (take (i + 1) xs))
parts_more w env xs i x k es e h at is_k before is =
    let f : Expr → Typed = λ y. own_typed env (meaning w y) in
    let g : List Expr → List Typed = λ ys. map (own_typed env) (map (meaning w) ys) in
    map-append typed.meaning es (e ∷ []) ∙ ap (λ ts. ts ++ typed.meaning e ∷ []) before ∙ ap (λ (t : Typed). g (take i xs) ++ t ∷ []) (is ∙ ap (λ j. in_size w env j x) is_k)
    ∙ sym (map-append (own_typed env) (map (meaning w) (take i xs)) (meaning w x ∷ [])) ∙ sym (ap (map (own_typed env)) (map-append (meaning w) (take i xs) (x ∷ []))) ∙ sym (ap g (more xs i x h at))

sum_more : (f : Expr → ℕ) (xs : List Expr) (i : ℕ) (x : Expr) → i < length xs → x ≡ get_or xs i x → sum (map f (take (i + 1) xs)) ≡ sum (map f (take i xs)) + f x
sum_more f xs i x h e =
    ap (λ (ys : List Expr). sum (map f ys)) (more xs i x h e) ∙ sum-map f (take i xs ++ x ∷ []) ∙ sum_by_push f (take i xs) x ∙ ap (λ n. n + f x) (sym (sum-map f (take i xs)))

one_over : (ws : List ℕ) (e : Node) → IsOver ws (inputs e) → (k : ℕ) (d : Node) → k < length (e ∷ []) → IsOver ws (inputs (slice_index_or (e ∷ []) k d))
one_over ws e h zero d below = h
one_over ws e h (suc k) d below = absurd (omega arith)

all_over_more : (ws : List ℕ) (es : List Node) (e : Node) → All (λ e. IsOver ws (inputs e)) es → IsOver ws (inputs e) → All (λ e. IsOver ws (inputs e)) (es ++ e ∷ [])
all_over_more ws es e all one = All-append (λ e. IsOver ws (inputs e)) es (e ∷ []) all (one_over ws e one)

pub bounded_more : (b : Bounds) (xs : List Expr) (i : ℕ) (x : Expr) (es : List Node) (e : Node) → i < length xs → x ≡ get_or xs i x → AreBounded b (take i xs) es → IsBounded b room x e → AreBounded b (take (i + 1) xs) (es ++ e ∷ [])
bounded_more b xs i x es e h at before one = record {
  over = all_over_more b.widths es e before.over one.over;
  small =
      let n = sum_more (nodes_of b) xs i x h at in
      let s = sum_by_push typed.size es e in
      let l = length-append es (e ∷ []) in
      let p = before.small in
      let q = one.small in
      omega (arith, n, s, l, p, q);
  often = λ k. (
      let n = sum_more (reads_of b k) xs i x h at in
      let s = sum_by_push (occurrences k) es e in
      let p = before.often k in
      let q = one.often k in
      omega (arith, n, s, p, q)
      );
}

-- ---- arguments of a call

weighted_more : (times : ℕ → ℕ) (j : ℕ) (ns : List ℕ) (n : ℕ) → weighted times j (ns ++ n ∷ []) ≡ weighted times j ns + times (j + length ns) * n
weighted_more times j [] n = let e : j + 0 ≡ j = omega arith in let t = ap (λ k. times k * n) e in omega (arith, t)
weighted_more times j (m ∷ ns) n =
    let rest = weighted_more times (j + 1) ns n in
    let e : j + 1 + length ns ≡ j + length (m ∷ ns) = omega arith in
    let t = ap (λ k. times k * n) e in
    omega (arith, rest, t)

pub weighted_at : (times : ℕ → ℕ) (f : Expr → ℕ) (j : ℕ) (xs : List Expr) (i : ℕ) (x : Expr) → i < length xs → x ≡ get_or xs i x → 0 < times (j + i) → f x ≤ weighted times j (map f xs)
weighted_at times f j [] i x h e some = absurd (omega arith)
weighted_at times f j (y ∷ ys) zero x h e some =
    let back : j + 0 ≡ j = omega arith in
    let P : ℕ → Type 0 = λ k. 0 < times k in
    let t : 0 < times j = subst P back some in
    let a = ap f e in
    let p : 1 * f y ≤ times j * f y = mul-le-mul_right (f y) t in
    omega (arith, a, p)
weighted_at times f j (y ∷ ys) (suc i) x h e some =
    let on : j + suc i ≡ j + 1 + i = omega arith in
    let P : ℕ → Type 0 = λ k. 0 < times k in
    let rest = weighted_at times f (j + 1) ys i x (omega arith) e (subst P on some) in
    omega (arith, rest)

-- a width and an argument for each
pub record IsArgument (w : ℕ) (sized : Bool) : Type 0 where
  pub width : IsTrue (is_width w)
  pub argument : IsTrue sized

pub argument_there : (w : Widths) (ws : List ℕ) (xs : List Expr) (i : ℕ) (x : Expr) → IsTrue (arguments_sized ws (map (meaning w) xs)) → i < length xs → x ≡ get_or xs i x → IsArgument (slice_index ws i) (meaning w x).sized
argument_there w ws [] i x all h e = absurd (omega arith)
argument_there w [] (y ∷ ys) i x all h e = cc
argument_there w (v ∷ ws) (y ∷ ys) zero x all h e =
    let p = and_parts (is_width v && (meaning w y).sized) (arguments_sized ws (map (meaning w) ys)) all in
    let q = and_parts (is_width v) (meaning w y).sized p.0 in
    let P : Expr → Type 0 = λ z. IsTrue (meaning w z).sized in
    record { width = q.0; argument = subst P (sym e) q.1 }
argument_there w (v ∷ ws) (y ∷ ys) (suc i) x all h e =
    argument_there w ws ys i x (and_parts (is_width v && (meaning w y).sized) (arguments_sized ws (map (meaning w) ys)) all).1 (omega arith) e

pub argument_widths : (env : Env) (ws : List ℕ) (ms : List Meaning) → IsTrue (arguments_sized ws ms) → widths_of (arguments_typed env ws ms) ≡ ws
argument_widths env [] [] all = refl
argument_widths env [] (m ∷ ms) all = cc
argument_widths env (w ∷ ws) [] all = cc
argument_widths env (w ∷ ws) (m ∷ ms) all = ap (λ vs. w ∷ vs) (argument_widths env ws ms (and_parts (is_width w && m.sized) (arguments_sized ws ms) all).1)

no_arguments : (env : Env) (ws : List ℕ) → arguments_typed env ws [] ≡ []
no_arguments env [] = refl
no_arguments env (w ∷ ws) = refl

typed_more : (w : Widths) (env : Env) (ws : List ℕ) (xs : List Expr) (i : ℕ) (x : Expr) → IsTrue (arguments_sized ws (map (meaning w) xs)) → i < length xs → x ≡ get_or xs i x
    → arguments_typed env ws (map (meaning w) (take (i + 1) xs)) ≡ arguments_typed env ws (map (meaning w) (take i xs)) ++ assigned_in w env (slice_index ws i) x ∷ []
typed_more w env ws [] i x all h e = absurd (omega arith)
typed_more w env [] (y ∷ ys) i x all h e = cc
typed_more w env (v ∷ ws) (y ∷ ys) zero x all h e = ap (λ ts. assigned_in w env v y ∷ ts) (no_arguments env ws) ∙ ap (λ (z : Expr). assigned_in w env v z ∷ []) (sym e)
typed_more w env (v ∷ ws) (y ∷ ys) (suc i) x all h e =
    let on : suc i + 1 ≡ suc (i + 1) = omega arith in
    ap (λ k. arguments_typed env (v ∷ ws) (map (meaning w) (take k (y ∷ ys)))) on
    ∙ ap (λ ts. assigned_in w env v y ∷ ts) (typed_more w env ws ys i x (and_parts (is_width v && (meaning w y).sized) (arguments_sized ws (map (meaning w) ys)) all).1 (omega arith) e)

pub arguments_more : (w : Widths) (env : Env) (ws : List ℕ) (xs : List Expr) (i : ℕ) (x : Expr) (k : ℕ) (es : List Node) (e : Node) → IsTrue (arguments_sized ws (map (meaning w) xs)) → i < length xs → x ≡ get_or xs i x
    → k ≡ slice_index ws i → map typed.meaning es ≡ arguments_typed env ws (map (meaning w) (take i xs)) → typed.meaning e ≡ assigned_in w env k x
    → map typed.meaning (es ++ e ∷ []) ≡ arguments_typed env ws (map (meaning w) (take (i + 1) xs))
arguments_more w env ws xs i x k es e all h at is_k before is =
    map-append typed.meaning es (e ∷ []) ∙ ap (λ ts. ts ++ typed.meaning e ∷ []) before
    ∙ ap (λ (t : Typed). arguments_typed env ws (map (meaning w) (take i xs)) ++ t ∷ []) (is ∙ ap (λ j. assigned_in w env j x) is_k) ∙ sym (typed_more w env ws xs i x all h at)

length_map : {X : Type 0} (f : X → ℕ) (xs : List X) → length (map f xs) ≡ length xs
length_map f [] = refl
length_map f (x ∷ xs) = ap suc (length_map f xs)

weighted_last : {X : Type 0} (times : ℕ → ℕ) (f : X → ℕ) (xs : List X) (x : X) (i : ℕ) → length xs ≡ i → weighted times 0 (map f (xs ++ x ∷ [])) ≡ weighted times 0 (map f xs) + times i * f x
weighted_last times f xs x i many =
    let same = length_map f xs in
    let place : 0 + length (map f xs) ≡ i = omega (arith, same, many) in
    ap (weighted times 0) (map-append f xs (x ∷ [])) ∙ weighted_more times 0 (map f xs) (f x) ∙ ap (λ k. weighted times 0 (map f xs) + times k * f x) place

scaled : (t s n : ℕ) → s ≤ 200 * n → t * s ≤ 200 * (t * n)
scaled t s n h = let m : t * s ≤ t * (200 * n) = mul-le-mul_left t h in omega (arith, m)

kept : (t s n : ℕ) → s ≤ n → t * s ≤ t * n
kept t s n h = mul-le-mul_left t h

pub argument_bounded : (b : Bounds) (name : List ℕ) (xs : List Expr) (i : ℕ) (x : Expr) (es : List Node) (e : Node) → i < length xs → x ≡ get_or xs i x → length es ≡ i → AreArgumentsBounded b name (take i xs) es → IsBounded b assigned_room x e
    → AreArgumentsBounded b name (take (i + 1) xs) (es ++ e ∷ [])
argument_bounded b name xs i x es e h at many before one =
    let times = b.seen.times name in
    let first : length (take i xs) ≡ i = length-take-le i xs (omega arith) in
    record {
      over = all_over_more b.widths es e before.over one.over;
      small =
          let s = weighted_last times typed.size es e i many in
          let n = ap (λ ys. weighted times 0 (map (nodes_of b) ys)) (more xs i x h at) ∙ weighted_last times (nodes_of b) (take i xs) x i first in
          let p = before.small in
          let q = one.small in
          let r = scaled (times i) (typed.size e) (nodes_of b x) (omega arith) in
          omega (arith, s, n, p, r);
      often = λ k. (
          let s = weighted_last times (occurrences k) es e i many in
          let n = ap (λ ys. weighted times 0 (map (reads_of b k) ys)) (more xs i x h at) ∙ weighted_last times (reads_of b k) (take i xs) x i first in
          let p = before.often k in
          let r = kept (times i) (occurrences k e) (reads_of b k x) (one.often k) in
          omega (arith, s, n, p, r)
          );
    }

-- ---- before the first argument

pub first_means : (w : Widths) (env : Env) (ws : List ℕ) (xs : List Expr) → [] ≡ arguments_typed env ws (map (meaning w) (take 0 xs))
first_means w env ws xs = sym (no_arguments env ws)

pub first_bounded : (b : Bounds) (name : List ℕ) (xs : List Expr) → AreArgumentsBounded b name (take 0 xs) []
first_bounded b name xs = record {
  over = All-nil (λ (e : Node). IsOver b.widths (inputs e));
  small = omega arith;
  often = λ k. omega arith;
}
