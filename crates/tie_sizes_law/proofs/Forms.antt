-- Each form that breaks no rule has right sizes, where its parts have.
use Rattle.std.proofs.Common.{◌≡◌, ℕ, zero, suc, ◌*◌, ◌<◌, ◌≤◌, max, Bool, true, false, not, cond, ◌&&◌, ◌||◌, nat_lt, nat_le, ◌==◌, List, [], ◌∷◌, map, length, sum, Option, Some, None, refl, ap, subst, ◌∙◌, arith}
use Rattle.std.specs.List.{AllByRecursion}
use Rattle.std.proofs.lemmas.List.Sums.{sum_by-cons}
use Rattle.std.proofs.lemmas.Bool.{and_parts, and_from, or_parts, ltb-false, eqb-false, lt-ltb, le-leb}
use Rattle.tie_mean.specs.Literals.{literal_width, literal_sound, literal_fits, is_width}
use Rattle.tie_mean.specs.Scope.{Widths}
use Rattle.tie_mean.specs.Sizes.{bounded, limited, unary_size, binary_size}
use Rattle.tie_mean.specs.Values.{Meaning, meaning, size, form, within, all_sized, sizes_of, arguments_sized, index_sized, bit_sized}
use Rattle.tie_mean.proofs.Layers.{literal_is, name_is, select_is, index_is, call_is, paren_is, concat_is, repeat_is, unary_is, binary_is, conditional_is}
use Rattle.tie_grammar.specs.declared.symbol.Leaf.{Leaf}
use Rattle.tie_grammar.specs.declared.tree.Literal.{Literal}
use Rattle.tie_grammar.specs.declared.tree.Literal.TheVariants as l
use Rattle.tie_grammar.specs.declared.tree.UnaryOp.{UnaryOp}
use Rattle.tie_grammar.specs.declared.tree.UnaryOp.TheVariants as unary
use Rattle.tie_grammar.specs.declared.tree.BinaryOp.{BinaryOp}
use Rattle.tie_grammar.specs.declared.tree.BinaryOp.TheVariants as op
use Rattle.tie_grammar.specs.declared.tree.Operator.{Operator}
use Rattle.tie_grammar.specs.declared.tree.Decl.{Decl}
use Rattle.tie_grammar.specs.declared.tree.Tree.{Tree}
use Rattle.tie_grammar.specs.declared.tree.Expr.{Expr}
use Rattle.tie_grammar.specs.declared.tree.Expr.TheVariants as e
use Rattle.tie_grammar.specs.declared.tree.Expr.TheOpen.{Expr-F}
use Rattle.tie_grammar.specs.Spelling.{IsFilled}
use Rattle.tie_grammar.proofs.Shapes as shape
use Rattle.tie_grammar.proofs.Shapes.{Form}
use Rattle.tie_rules.specs.Least.{when, NoPlace}
use Rattle.tie_rules.specs.Names.{has, sees, declares_function, declares_table}
use Rattle.tie_rules.specs.Declarations.{literal_form, literal_here, literal_place}
use Rattle.tie_rules.specs.Bodies.{unseen, unseen_index, no_function, other_count, unknown_form, unknown_here, takes_others, number_of, bare_number, no_number, arg_count_form, arg_count_here, bad_bit, bad_index, select_form, select_here, arg_size_here, start, size_here}
use Rattle.tie_sizes_law.proofs.Places.{passed, holds}
use Rattle.tie_sizes_law.proofs.Out.{out-Literal, out-Name, out-Select, out-Index, out-Call, out-Tie, out-Paren, out-Concat, out-Repeat, out-Unary, out-Binary, out-Conditional}
use Rattle.tie_sizes_law.proofs.Wide.{is_wide, at_least, below_limited}

-- an expression has right sizes
pub record IsSized (w : Widths) (x : Expr) : Type 0 where
  pub low : 1 ≤ size w x
  pub high : size w x ≤ 128
  pub sized : (meaning w x).sized ≡ true

-- what is known of the names that a body sees
pub record Seeing (t : Tree) (decl : Decl) (w : Widths) : Type 0 where
  pub names : (n : List ℕ) → sees n decl ≡ true → is_width (w.name n) ≡ true
  pub is_table : (n : List ℕ) → has (declares_table n) t ≡ w.is_table n
  pub table : (n : List ℕ) → w.is_table n ≡ true → is_width (w.table n) ≡ true
  pub function : (n : List ℕ) → has (declares_function n) t ≡ true → is_width (w.function n) ≡ true
  pub parameters : (n : List ℕ) → AllByRecursion (λ k. is_width k ≡ true) (w.parameters n)
  pub count : (n : List ℕ) (k : ℕ) → has (declares_function n) t ≡ true → has (takes_others n k) t ≡ false → length (w.parameters n) ≡ k

-- no rule is broken at an expression itself
pub record IsClean (t : Tree) (decl : Decl) (w : Widths) (x : Expr) : Type 0 where
  pub literals : NoPlace (literal_here x)
  pub known : NoPlace (unknown_here t decl x)
  pub counts : NoPlace (arg_count_here t x)
  pub selects : NoPlace (select_here w x)
  pub arguments : NoPlace (arg_size_here w x)
  pub sizes : NoPlace (size_here w x)

pub made : (w : Widths) (x : Expr) (m : Meaning) → meaning w x ≡ within m → 1 ≤ m.size → m.sized ≡ true → NoPlace (size_here w x) → IsSized w x
made w x m is low ok h =
    let same : size w x ≡ m.size = ap (λ (k : Meaning). k.size) is in
    let high : size w x ≤ 128 = ltb-false 128 (size w x) (passed (nat_lt 128 (size w x)) (start x) h) in
    record {
      low = omega arith;
      high = high;
      sized = ap (λ (k : Meaning). k.sized) is ∙ and_from (is_width m.size) m.sized (is_wide m.size low (omega arith)) ok;
    }

-- ---- lists of expressions

pub all_are_sized : (w : Widths) (xs : List Expr) → AllByRecursion (IsSized w) xs → all_sized (map (meaning w) xs) ≡ true
all_are_sized w [] h = refl
all_are_sized w (x ∷ xs) h = and_from (meaning w x).sized (all_sized (map (meaning w) xs)) h.0.sized (all_are_sized w xs h.1)

sum_low : (w : Widths) (xs : List Expr) → IsFilled xs → AllByRecursion (IsSized w) xs → 1 ≤ sum (sizes_of (map (meaning w) xs))
sum_low w [] f h = absurd f
sum_low w (x ∷ xs) f h = omega (arith, sum_by-cons (λ (n : ℕ). n) (size w x) (sizes_of (map (meaning w) xs)), h.0.low)

arguments_are_sized : (w : Widths) (ws : List ℕ) (xs : List Expr) → length ws ≡ length xs → AllByRecursion (λ k. is_width k ≡ true) ws → AllByRecursion (IsSized w) xs → arguments_sized ws (map (meaning w) xs) ≡ true
arguments_are_sized w [] [] same wide h = refl
arguments_are_sized w [] (x ∷ xs) same wide h = absurd (omega arith)
arguments_are_sized w (k ∷ ws) [] same wide h = absurd (omega arith)
arguments_are_sized w (k ∷ ws) (x ∷ xs) same wide h =
    and_from (is_width k && (meaning w x).sized) (arguments_sized ws (map (meaning w) xs)) (and_from (is_width k) (meaning w x).sized wide.0 h.0.sized)
    (arguments_are_sized w ws xs (omega arith) wide.1 h.1)

-- ---- forms without parts

sound_width : (x : Literal) → literal_sound x ≡ true → is_width (literal_width x) ≡ true
sound_width x h = (and_parts (is_width (literal_width x)) (literal_fits (literal_width x) x) h).0

pub sized-Literal : (t : Tree) (decl : Decl) (w : Widths) (x : Literal) → IsClean t decl w (e.Literal x) → IsSized w (e.Literal x)
sized-Literal t decl w x h =
    let ok : literal_sound x ≡ true = holds (literal_sound x) (literal_place x) (subst (λ y. NoPlace (literal_form y)) (out-Literal x) h.literals) in
    made w (e.Literal x) (form w (Expr-F.Literal x)) (literal_is w x) (at_least (literal_width x) (sound_width x ok)) ok h.sizes

seen_width : (t : Tree) (decl : Decl) (w : Widths) (s : Seeing t decl w) (n : Leaf) → NoPlace (unseen decl n) → is_width (w.name n.bytes) ≡ true
unfolding unseen
seen_width t decl w s n h = s.names n.bytes (holds (sees n.bytes decl) n.place h)

pub sized-Name : (t : Tree) (decl : Decl) (w : Widths) (s : Seeing t decl w) (n : Leaf) → IsClean t decl w (e.Name n) → IsSized w (e.Name n)
sized-Name t decl w s n h =
    let wide = seen_width t decl w s n (subst (λ y. NoPlace (unknown_form t decl y)) (out-Name n) h.known) in
    made w (e.Name n) (form w (Expr-F.Name n)) (name_is w n) (at_least (w.name n.bytes) wide) refl h.sizes

pub sized-Select : (t : Tree) (decl : Decl) (w : Widths) (s : Seeing t decl w) (n high low : Leaf) → IsClean t decl w (e.Select n high low) → IsSized w (e.Select n high low)
sized-Select t decl w s n high low h =
    let wide = seen_width t decl w s n (subst (λ y. NoPlace (unknown_form t decl y)) (out-Select n high low) h.known) in
    let tests = or_parts (nat_lt (bounded high) (bounded low)) (nat_le (limited (w.name n.bytes)) (bounded high))
    (passed (nat_lt (bounded high) (bounded low) || nat_le (limited (w.name n.bytes)) (bounded high)) high.place
    (subst (λ y. NoPlace (select_form w y)) (out-Select n high low) h.selects)) in
    let order : bounded low ≤ bounded high = ltb-false (bounded high) (bounded low) tests.0 in
    let inside : bounded high < w.name n.bytes = below_limited (w.name n.bytes) (bounded high) tests.1 in
    made w (e.Select n high low) (form w (Expr-F.Select n high low)) (select_is w n high low) (omega arith)
    (and_from (is_width (w.name n.bytes)) (nat_le (bounded low) (bounded high) && nat_lt (bounded high) (w.name n.bytes)) wide
    (and_from (nat_le (bounded low) (bounded high)) (nat_lt (bounded high) (w.name n.bytes)) (le-leb (bounded low) (bounded high) order) (lt-ltb (bounded high) (w.name n.bytes) inside)))
    h.sizes

-- ---- forms with one part

pub sized-Paren : (t : Tree) (decl : Decl) (w : Widths) (p : ℕ) (x : Expr) → IsClean t decl w (e.Paren p x) → IsSized w x → IsSized w (e.Paren p x)
sized-Paren t decl w p x h part = made w (e.Paren p x) (form w (Expr-F.Paren p (meaning w x))) (paren_is w p x) part.low part.sized h.sizes

repeat_low : (n k : ℕ) → (n ≡ 0 → ⊥) → 1 ≤ k → 1 ≤ n * k
repeat_low zero k h one = absurd (h refl)
repeat_low (suc n) k h one = omega arith

pub sized-Repeat : (t : Tree) (decl : Decl) (w : Widths) (p : ℕ) (n : Leaf) (q : ℕ) (x : Expr) → IsClean t decl w (e.Repeat p n q x) → IsSized w x → IsSized w (e.Repeat p n q x)
sized-Repeat t decl w p n q x h part =
    let some : (bounded n ≡ 0 → ⊥) = eqb-false (bounded n) 0 (passed (bounded n == 0) n.place (subst (λ y. NoPlace (select_form w y)) (out-Repeat p n q x) h.selects)) in
    made w (e.Repeat p n q x) (form w (Expr-F.Repeat p n q (meaning w x))) (repeat_is w p n q x) (repeat_low (bounded n) (size w x) some part.low) part.sized h.sizes

unary_low : (o : UnaryOp) (a : ℕ) → 1 ≤ a → 1 ≤ unary_size o a
unary_low unary.Not a h = h
unary_low _ a h = omega arith

pub sized-Unary : (t : Tree) (decl : Decl) (w : Widths) (o : UnaryOp) (p : ℕ) (x : Expr) → IsClean t decl w (e.Unary o p x) → IsSized w x → IsSized w (e.Unary o p x)
sized-Unary t decl w o p x h part =
    made w (e.Unary o p x) (form w (Expr-F.Unary o p (meaning w x))) (unary_is w o p x) (unary_low o (size w x) part.low) part.sized h.sizes

-- the number that a bare number is
number_is : (w : Widths) (x : Expr) → Form x → (leaf : Leaf) → number_of x ≡ Some leaf → (meaning w x).number ≡ Some (bounded leaf)
number_is w _ (shape.literal (l.Number n)) leaf h =
    let same : n ≡ leaf = cc (ap bare_number (out-Literal (l.Number n))) in
    ap (λ (m : Meaning). m.number) (literal_is w (l.Number n)) ∙ ap (λ k. Some (bounded k)) same
number_is w _ (shape.literal (l.Sized n)) leaf h = absurd (cc (ap bare_number (out-Literal (l.Sized n))))
number_is w _ (shape.name n) leaf h = absurd (cc (ap bare_number (out-Name n)))
number_is w _ (shape.select n i j) leaf h = absurd (cc (ap bare_number (out-Select n i j)))
number_is w _ (shape.index n x) leaf h = absurd (cc (ap bare_number (out-Index n x)))
number_is w _ (shape.call n p xs) leaf h = absurd (cc (ap bare_number (out-Call n p xs)))
number_is w _ (shape.tie o p xs) leaf h = absurd (cc (ap bare_number (out-Tie o p xs)))
number_is w _ (shape.paren p x) leaf h = absurd (cc (ap bare_number (out-Paren p x)))
number_is w _ (shape.concat p xs) leaf h = absurd (cc (ap bare_number (out-Concat p xs)))
number_is w _ (shape.repeat p n q x) leaf h = absurd (cc (ap bare_number (out-Repeat p n q x)))
number_is w _ (shape.unary o p x) leaf h = absurd (cc (ap bare_number (out-Unary o p x)))
number_is w _ (shape.binary o a b) leaf h = absurd (cc (ap bare_number (out-Binary o a b)))
number_is w _ (shape.conditional c a b) leaf h = absurd (cc (ap bare_number (out-Conditional c a b)))

some_number : (o : Option Leaf) → no_number o ≡ false → (leaf : Leaf) × (o ≡ Some leaf)
some_number None h = absurd cc
some_number (Some leaf) h = (leaf, refl)

-- a bit of a name that is no table
bit_is : (w : Widths) (n : Leaf) (o : Option ℕ) (k : ℕ) → o ≡ Some k → is_width (w.name n.bytes) ≡ true → k < w.name n.bytes → bit_sized (w.name n.bytes) o ≡ true
bit_is w n None k same wide lt = absurd cc
bit_is w n (Some j) k same wide lt =
    let eq : j ≡ k = cc in
    and_from (is_width (w.name n.bytes)) (nat_lt j (w.name n.bytes)) wide (lt-ltb j (w.name n.bytes) (omega arith))

-- what the rules say of `n [ x ]`
record IndexFacts (t : Tree) (decl : Decl) (w : Widths) (n : Leaf) (x : Expr) : Type 0 where
  known : NoPlace (unseen_index t decl n)
  number : NoPlace (when (not (has (declares_table n.bytes) t) && no_number (number_of x)) n.place)
  inside : NoPlace (bad_index w n (number_of x))

index_facts : (t : Tree) (decl : Decl) (w : Widths) (n : Leaf) (x : Expr) → IsClean t decl w (e.Index n x) → IndexFacts t decl w n x
index_facts t decl w n x h = record {
  known = subst (λ y. NoPlace (unknown_form t decl y)) (out-Index n x) h.known;
  number = subst (λ y. NoPlace (arg_count_form t y)) (out-Index n x) h.counts;
  inside = subst (λ y. NoPlace (select_form w y)) (out-Index n x) h.selects;
}

-- ---- a name that is no table
plain_seen : (t : Tree) (decl : Decl) (w : Widths) (s : Seeing t decl w) (n : Leaf) → NoPlace (unseen_index t decl n) → w.is_table n.bytes ≡ false → is_width (w.name n.bytes) ≡ true
unfolding unseen_index
plain_seen t decl w s n h plain =
    let none : has (declares_table n.bytes) t ≡ false = s.is_table n.bytes ∙ plain in
    let one = holds (sees n.bytes decl || has (declares_table n.bytes) t) n.place h in
    s.names n.bytes (first (sees n.bytes decl) (has (declares_table n.bytes) t) one none)
  where
    first : (a b : Bool) → (a || b) ≡ true → b ≡ false → a ≡ true
    first true b h e = refl
    first false b h e = absurd (cc)

plain_number : (t : Tree) (decl : Decl) (w : Widths) (s : Seeing t decl w) (n : Leaf) (x : Expr) → IndexFacts t decl w n x → w.is_table n.bytes ≡ false → no_number (number_of x) ≡ false
plain_number t decl w s n x f plain =
    second (has (declares_table n.bytes) t) (no_number (number_of x)) (s.is_table n.bytes ∙ plain) (passed (not (has (declares_table n.bytes) t) && no_number (number_of x)) n.place f.number)
  where
    second : (a b : Bool) → a ≡ false → (not a && b) ≡ false → b ≡ false
    second true b e h = absurd (cc)
    second false b e h = h

plain_inside : (w : Widths) (n leaf : Leaf) (o : Option Leaf) → o ≡ Some leaf → w.is_table n.bytes ≡ false → NoPlace (bad_index w n o) → bounded leaf < w.name n.bytes
plain_inside w n leaf o same plain h =
    let inside : NoPlace (bad_bit (limited (w.name n.bytes)) o) = subst (λ b. NoPlace (cond b [] (bad_bit (limited (w.name n.bytes)) o))) plain h in
    let at : NoPlace (bad_bit (limited (w.name n.bytes)) (Some leaf)) = subst (λ y. NoPlace (bad_bit (limited (w.name n.bytes)) y)) same inside in
    below_limited (w.name n.bytes) (bounded leaf) (passed (nat_le (limited (w.name n.bytes)) (bounded leaf)) leaf.place at)

index_ok : (t : Tree) (decl : Decl) (w : Widths) (s : Seeing t decl w) (n : Leaf) (x : Expr) → Form x → IndexFacts t decl w n x → IsSized w x → (b : Bool) → w.is_table n.bytes ≡ b
    → (1 ≤ cond b (w.table n.bytes) 1) × (index_sized b w n (meaning w x) ≡ true)
index_ok t decl w s n x shape_of f part true is = (at_least (w.table n.bytes) (s.table n.bytes is), part.sized)
index_ok t decl w s n x shape_of f part false is =
    let found = some_number (number_of x) (plain_number t decl w s n x f is) in
    (omega arith, bit_is w n (meaning w x).number (bounded found.0) (number_is w x shape_of found.0 found.1) (plain_seen t decl w s n f.known is) (plain_inside w n found.0 (number_of x) found.1 is f.inside))

pub sized-Index : (t : Tree) (decl : Decl) (w : Widths) (s : Seeing t decl w) (n : Leaf) (x : Expr) → Form x → IsClean t decl w (e.Index n x) → IsSized w x → IsSized w (e.Index n x)
sized-Index t decl w s n x shape_of h part =
    let ok = index_ok t decl w s n x shape_of (index_facts t decl w n x h) part (w.is_table n.bytes) refl in
    made w (e.Index n x) (form w (Expr-F.Index n (meaning w x))) (index_is w n x) ok.0 ok.1 h.sizes

-- ---- forms with several parts

call_known : (t : Tree) (decl : Decl) (w : Widths) (n : Leaf) (p : ℕ) (xs : List Expr) → IsClean t decl w (e.Call n p xs) → has (declares_function n.bytes) t ≡ true
unfolding no_function
call_known t decl w n p xs h = holds (has (declares_function n.bytes) t) n.place (subst (λ y. NoPlace (unknown_form t decl y)) (out-Call n p xs) h.known)

call_count : (t : Tree) (decl : Decl) (w : Widths) (n : Leaf) (p : ℕ) (xs : List Expr) → IsClean t decl w (e.Call n p xs) → has (takes_others n.bytes (length xs)) t ≡ false
unfolding other_count
call_count t decl w n p xs h = passed (has (takes_others n.bytes (length xs)) t) n.place (subst (λ y. NoPlace (arg_count_form t y)) (out-Call n p xs) h.counts)

pub sized-Call : (t : Tree) (decl : Decl) (w : Widths) (s : Seeing t decl w) (n : Leaf) (p : ℕ) (xs : List Expr) → IsClean t decl w (e.Call n p xs) → AllByRecursion (IsSized w) xs → IsSized w (e.Call n p xs)
sized-Call t decl w s n p xs h parts =
    let known = call_known t decl w n p xs h in
    made w (e.Call n p xs) (form w (Expr-F.Call n p (map (meaning w) xs))) (call_is w n p xs) (at_least (w.function n.bytes) (s.function n.bytes known))
    (arguments_are_sized w (w.parameters n.bytes) xs (s.count n.bytes (length xs) known (call_count t decl w n p xs h)) (s.parameters n.bytes) parts) h.sizes

pub sized-Concat : (t : Tree) (decl : Decl) (w : Widths) (p : ℕ) (xs : List Expr) → IsFilled xs → IsClean t decl w (e.Concat p xs) → AllByRecursion (IsSized w) xs → IsSized w (e.Concat p xs)
sized-Concat t decl w p xs filled h parts =
    made w (e.Concat p xs) (form w (Expr-F.Concat p (map (meaning w) xs))) (concat_is w p xs) (sum_low w xs filled parts) (all_are_sized w xs parts) h.sizes

binary_low : (o : BinaryOp) (a b : ℕ) → 1 ≤ a → 1 ≤ b → 1 ≤ binary_size o a b
binary_low op.Or a b h k = omega arith
binary_low op.Xor a b h k = omega arith
binary_low op.And a b h k = omega arith
binary_low op.Add a b h k = omega arith
binary_low op.Subtract a b h k = omega arith
binary_low op.Multiply a b h k = omega arith
binary_low op.ShiftLeft a b h k = h
binary_low op.ShiftRight a b h k = h
binary_low _ a b h k = omega arith

pub sized-Binary : (t : Tree) (decl : Decl) (w : Widths) (o : Operator) (a b : Expr) → IsClean t decl w (e.Binary o a b) → IsSized w a → IsSized w b → IsSized w (e.Binary o a b)
sized-Binary t decl w o a b h one two =
    made w (e.Binary o a b) (form w (Expr-F.Binary o (meaning w a) (meaning w b))) (binary_is w o a b) (binary_low o.op (size w a) (size w b) one.low two.low)
    (and_from (meaning w a).sized (meaning w b).sized one.sized two.sized) h.sizes

pub sized-Conditional : (t : Tree) (decl : Decl) (w : Widths) (c a b : Expr) → IsClean t decl w (e.Conditional c a b) → IsSized w c → IsSized w a → IsSized w b → IsSized w (e.Conditional c a b)
sized-Conditional t decl w c a b h test one two =
    let low : 1 ≤ max (size w a) (size w b) = omega (arith, one.low, two.low) in
    made w (e.Conditional c a b) (form w (Expr-F.Conditional (meaning w c) (meaning w a) (meaning w b))) (conditional_is w c a b) low
    (and_from (meaning w c).sized ((meaning w a).sized && (meaning w b).sized) test.sized (and_from (meaning w a).sized (meaning w b).sized one.sized two.sized)) h.sizes
