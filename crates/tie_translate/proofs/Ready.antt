-- What is built of a form may be brought to the form's size.
use Rattle.std.proofs.Common.{◌≡◌, ℕ, zero, suc, ◌+◌, ◌*◌, ◌≤◌, ◌<◌, Bool, true, false, IsTrue, if◌then◌else◌, List, [], ◌∷◌, ◌++◌, length, take, map, sum, nat_lt, ◌&&◌, Option, Some, None, IsSome, unwrap_or, refl, sym, ap, subst, ◌∙◌, arith}
use Rattle.std.specs.List.{sum_by}
use Rattle.std.proofs.Math.Nat.{mul-le-mul_left}
use Rattle.std.proofs.lemmas.Bool.{ltb-true}
use Rattle.std.proofs.lemmas.List.{length-append, take_all}
use Rattle.tie_expr.specs.Meaning.{Meaning as Typed}
use Rattle.tie_expr.specs.Size.{size_limit}
use Rattle.tie_expr.specs.Tree as typed
use Rattle.tie_expr.specs.declared.node.Node.{Node}
use Rattle.tie_grammar.specs.declared.symbol.Leaf.{Leaf}
use Rattle.tie_grammar.specs.declared.symbol.TieWord.{TieWord}
use Rattle.tie_grammar.specs.declared.tree.Literal.{Literal}
use Rattle.tie_grammar.specs.declared.tree.UnaryOp.{UnaryOp}
use Rattle.tie_grammar.specs.declared.tree.UnaryOp.TheVariants as unary
use Rattle.tie_grammar.specs.declared.tree.BinaryOp.{BinaryOp}
use Rattle.tie_grammar.specs.declared.tree.Operator.{Operator}
use Rattle.tie_grammar.specs.declared.tree.Expr.{Expr}
use Rattle.tie_grammar.specs.declared.tree.Expr.TheVariants as tree
use Rattle.tie_mean.specs.Literals.{is_width, literal_sound, literal_width}
use Rattle.tie_mean.specs.Scope.{Widths}
use Rattle.tie_mean.specs.Sizes.{bounded, binary_size}
use Rattle.tie_mean.specs.Values.{Meaning, meaning, size, unary_side, left_side, right_side, bit_sized}
use Rattle.tie_mean.proofs.Layers.{literal_is, name_is, select_is, index_is, call_is, tie_is, paren_is, concat_is, repeat_is, unary_is, binary_is, conditional_is}
use Rattle.tie_translate.specs.Bounds.{Bounds, IsWithin, AreWithin, AreArgumentsBounded, nodes_of, arguments_of, call_size, room, node_limit, node_size, expression_limit}
use Rattle.tie_translate.specs.Translation.{Env, Fit, name_typed, select_typed, bit_typed, lookup_typed, call_typed, own_typed, concat_typed, tie_typed, widths_of}
use Rattle.tie_translate.proofs.Own.{HasWidth, sized_width}
use Rattle.tie_translate.proofs.Fitting.{fit_from}
use Rattle.tie_translate.proofs.Meant.{own_widths, tie_width}
use Rattle.tie_translate.proofs.CountLayers.{count_name, count_select, count_call, count_tie, count_paren, count_concat, count_repeat, count_unary, count_binary, count_conditional}
use Rattle.tie_translate.proofs.Formed.{node_counts, bit_count, entry_count}
use Rattle.tie_translate.proofs.Sized.{both, sized_at, repeat_part}

-- ---- widths

pub some_size : (w : Widths) (x : Expr) (n : ℕ) → IsTrue (meaning w x).sized → size w x ≤ n → 0 < n
some_size w x n s low = let low' = (sized_width w x s).low in omega (arith, low', low)

pub name_known : (w : Widths) (name : Leaf) → IsTrue (meaning w (tree.Name name)).sized → IsTrue (is_width (w.name name.bytes))
name_known w name s = (both _ _ (sized_at _ _ (name_is w name) s)).first

pub name_low : (w : Widths) (env : Env) (n : ℕ) (name : Leaf) (s : Typed) → s ≡ name_typed w env name.bytes → size w (tree.Name name) ≤ n → s.width ≤ n
name_low w env n name s is low = let a = ap (λ (t : Typed). t.width) is in let b = ap (λ (m : Meaning). m.size) (name_is w name) in omega (arith, a, b, low)

pub select_low : (w : Widths) (env : Env) (n : ℕ) (name h l : Leaf) (s : Typed) → s ≡ select_typed env name.bytes (bounded h) (bounded l) → size w (tree.Select name h l) ≤ n → s.width ≤ n
select_low w env n name h l s is low = let a = ap (λ (t : Typed). t.width) is in let b = ap (λ (m : Meaning). m.size) (select_is w name h l) in omega (arith, a, b, low)

index_size : (w : Widths) (name : Leaf) (y : Expr) (t : Bool) → w.is_table name.bytes ≡ t → size w (tree.Index name y) ≡ (if t then w.table name.bytes else 1)
index_size w name y t is = ap (λ (m : Meaning). m.size) (index_is w name y) ∙ ap (λ (b : Bool). if b then w.table name.bytes else 1) is

pub entry_low : (w : Widths) (env : Env) (n : ℕ) (name : Leaf) (y : Expr) (i s : Typed) → s ≡ lookup_typed w env name.bytes i → w.is_table name.bytes ≡ true → size w (tree.Index name y) ≤ n → s.width ≤ n
entry_low w env n name y i s is table low = let a = ap (λ (t : Typed). t.width) is in let b = index_size w name y true table in omega (arith, a, b, low)

pub bit_low : (w : Widths) (env : Env) (n : ℕ) (name : Leaf) (y : Expr) (at : ℕ) (s : Typed) → s ≡ bit_typed env name.bytes at → w.is_table name.bytes ≡ false → size w (tree.Index name y) ≤ n → s.width ≤ n
bit_low w env n name y at s is table low = let a = ap (λ (t : Typed). t.width) is in let b = index_size w name y false table in omega (arith, a, b, low)

pub call_low : (w : Widths) (env : Env) (n : ℕ) (name : Leaf) (xs : List Expr) (ts : List Typed) (s : Typed) → s ≡ call_typed w env name.bytes ts → size w (tree.Call name 0 xs) ≤ n → s.width ≤ n
call_low w env n name xs ts s is low = let a = ap (λ (t : Typed). t.width) is in let b = ap (λ (m : Meaning). m.size) (call_is w name 0 xs) in omega (arith, a, b, low)

pub tie_low : (w : Widths) (env : Env) (n : ℕ) (o : TieWord) (xs : List Expr) (ts : List Typed) (s : Typed) → s ≡ tie_typed o.function ts → ts ≡ map (own_typed env) (map (meaning w) xs) → size w (tree.Tie o 0 xs) ≤ n → s.width ≤ n
tie_low w env n o xs ts s is is_ts low =
    let a = ap (λ (t : Typed). t.width) (is ∙ ap (tie_typed o.function) is_ts) in
    let c = tie_width o.function env (map (meaning w) xs) in
    let b = ap (λ (m : Meaning). m.size) (tie_is w o 0 xs) in
    omega (arith, a, b, c, low)

pub concat_width : (w : Widths) (env : Env) (xs : List Expr) (ts : List Typed) → ts ≡ map (own_typed env) (map (meaning w) xs) → sum (widths_of ts) ≡ size w (tree.Concat 0 xs)
concat_width w env xs ts is =
    ap (λ (us : List Typed). sum (widths_of us)) is ∙ ap sum (own_widths env (map (meaning w) xs)) ∙ sym (ap (λ (m : Meaning). m.size) (concat_is w 0 xs))

pub concat_low : (w : Widths) (env : Env) (n : ℕ) (xs : List Expr) (ts : List Typed) (s : Typed) → s ≡ concat_typed ts → ts ≡ map (own_typed env) (map (meaning w) xs) → size w (tree.Concat 0 xs) ≤ n → s.width ≤ n
concat_low w env n xs ts s is is_ts low = let a = ap (λ (t : Typed). t.width) is in let b = concat_width w env xs ts is_ts in omega (arith, a, b, low)

pub binary_low : (w : Widths) (o : Operator) (y z : Expr) (n s t : ℕ) → s ≡ size w y → t ≡ size w z → size w (tree.Binary o y z) ≤ n → binary_size o.op s t ≤ n
binary_low w o y z n s t is_s is_t low =
    let e = ap (λ k. binary_size o.op k t) is_s ∙ ap (λ k. binary_size o.op (size w y) k) is_t in
    let b = ap (λ (m : Meaning). m.size) (binary_is w o y z) in
    omega (arith, e, b, low)

-- ---- counts

pub name_few : (b : Bounds) (name : Leaf) (n : ℕ) → nodes_of b (tree.Name name) ≤ n → b.names name.bytes ≤ n
name_few b name n few = let c = count_name (node_counts b) name in omega (arith, c, few)

pub select_few : (b : Bounds) (name h l : Leaf) (n : ℕ) → nodes_of b (tree.Select name h l) ≤ n → b.names name.bytes ≤ n
select_few b name h l n few = let c = count_select (node_counts b) name h l in omega (arith, c, few)

pub bit_few : (b : Bounds) (name : Leaf) (y : Expr) (n : ℕ) → b.seen.is_table name.bytes ≡ false → nodes_of b (tree.Index name y) ≤ n → b.names name.bytes ≤ n
bit_few b name y n table few = let c = bit_count (node_counts b) name y table in omega (arith, c, few)

pub entry_few : (b : Bounds) (name : Leaf) (y : Expr) (n : ℕ) → b.seen.is_table name.bytes ≡ true → nodes_of b (tree.Index name y) ≤ n → nodes_of b y ≤ n
entry_few b name y n table few = let c = entry_count (node_counts b) name y table in omega (arith, c, few)

pub repeat_few : (b : Bounds) (c : Leaf) (y : Expr) (n : ℕ) → nodes_of b (tree.Repeat 0 c 0 y) ≤ n → nodes_of b y ≤ n
repeat_few b c y n few = let e = count_repeat (node_counts b) 0 c 0 y in omega (arith, e, few)

pub unary_few : (b : Bounds) (o : UnaryOp) (y : Expr) (n : ℕ) → nodes_of b (tree.Unary o 0 y) ≤ n → nodes_of b y ≤ n
unary_few b o y n few = let e = count_unary (node_counts b) o 0 y in omega (arith, e, few)

pub record AllFew (a b n : ℕ) : Type 0 where
  pub first : a ≤ n
  pub second : b ≤ n
  pub together : a + b ≤ n

pub binary_few : (b : Bounds) (o : Operator) (y z : Expr) (n : ℕ) → nodes_of b (tree.Binary o y z) ≤ n → AllFew (nodes_of b y) (nodes_of b z) n
binary_few b o y z n few = let e = count_binary (node_counts b) o y z in record { first = omega (arith, e, few); second = omega (arith, e, few); together = omega (arith, e, few) }

pub record EachFew (a b c n : ℕ) : Type 0 where
  pub first : a ≤ n
  pub second : b ≤ n
  pub third : c ≤ n
  pub together : a + (b + c) ≤ n

pub condition_few : (b : Bounds) (c y z : Expr) (n : ℕ) → nodes_of b (tree.Conditional c y z) ≤ n → EachFew (nodes_of b c) (nodes_of b y) (nodes_of b z) n
condition_few b c y z n few =
    let e = count_conditional (node_counts b) c y z in
    record { first = omega (arith, e, few); second = omega (arith, e, few); third = omega (arith, e, few); together = omega (arith, e, few) }

pub concat_few : (b : Bounds) (xs : List Expr) (n : ℕ) → nodes_of b (tree.Concat 0 xs) ≤ n → sum (map (nodes_of b) xs) ≤ n
concat_few b xs n few = let e = count_concat (node_counts b) 0 xs in omega (arith, e, few)

pub tie_few : (b : Bounds) (o : TieWord) (xs : List Expr) (n : ℕ) → nodes_of b (tree.Tie o 0 xs) ≤ n → sum (map (nodes_of b) xs) ≤ n
tie_few b o xs n few = let e = count_tie (node_counts b) o 0 xs in omega (arith, e, few)

pub call_few : (b : Bounds) (name : Leaf) (xs : List Expr) (n : ℕ) → nodes_of b (tree.Call name 0 xs) ≤ n → b.seen.call name.bytes + arguments_of b name.bytes xs ≤ n
call_few b name xs n few = let e = count_call (node_counts b) name 0 xs in omega (arith, e, few)

-- ---- sizes

-- what keeps its bounds is far below any limit
pub within_limit : (ws : List ℕ) (r n : ℕ) (f : ℕ → ℕ) (e : Node) → IsWithin ws r (node_size * n) f e → n ≤ node_limit → typed.size e ≤ expression_limit
within_limit ws r n f e h few = let small = h.small in omega (arith, small, few)

pub all_limit : (ws : List ℕ) (r n : ℕ) (f : ℕ → ℕ) (es : List Node) → AreWithin ws r (node_size * n) f es → n ≤ node_limit → sum_by typed.size es + r * length es ≤ expression_limit
all_limit ws r n f es h few = let small = h.small in omega (arith, small, few)

pub call_limit : (b : Bounds) (name : Leaf) (xs : List Expr) (es : List Node) → AreArgumentsBounded b name.bytes xs es → nodes_of b (tree.Call name 0 xs) ≤ node_limit → call_size b name.bytes es ≤ expression_limit
call_limit b name xs es h few = let small = h.small in let c = call_few b name xs node_limit few in omega (arith, small, c)

-- ---- single forms

pub literal_known : (w : Widths) (x : Literal) → IsTrue (meaning w (tree.Literal x)).sized → IsTrue (literal_sound x)
literal_known w x s = (both _ _ (sized_at _ _ (literal_is w x) s)).second

pub literal_low : (w : Widths) (x : Literal) (n : ℕ) → size w (tree.Literal x) ≤ n → literal_width x ≤ n
literal_low w x n low = let b = ap (λ (m : Meaning). m.size) (literal_is w x) in omega (arith, b, low)

pub paren_known : (w : Widths) (p : ℕ) (y : Expr) → IsTrue (meaning w (tree.Paren p y)).sized → IsTrue (meaning w y).sized
paren_known w p y s = (both _ _ (sized_at _ _ (paren_is w p y) s)).second

pub paren_low : (w : Widths) (p : ℕ) (y : Expr) (n : ℕ) → size w (tree.Paren p y) ≤ n → size w y ≤ n
paren_low w p y n low = let b = ap (λ (m : Meaning). m.size) (paren_is w p y) in omega (arith, b, low)

pub paren_few : (b : Bounds) (p : ℕ) (y : Expr) (n : ℕ) → nodes_of b (tree.Paren p y) ≤ n → nodes_of b y ≤ n
paren_few b p y n few = let c = count_paren (node_counts b) p y in omega (arith, c, few)

pub unary_low : (w : Widths) (o : UnaryOp) (y : Expr) (n s k : ℕ) → s ≡ size w y → k ≡ unary_side o n s → size w (tree.Unary o 0 y) ≤ n → size w y ≤ k
unary_low w unary.Not y n s k is_s is_k low = let b = ap (λ (m : Meaning). m.size) (unary_is w unary.Not 0 y) in omega (arith, is_k, b, low)
unary_low w unary.LogicalNot y n s k is_s is_k low = omega (arith, is_s, is_k)
unary_low w unary.ReduceAnd y n s k is_s is_k low = omega (arith, is_s, is_k)
unary_low w unary.ReduceOr y n s k is_s is_k low = omega (arith, is_s, is_k)
unary_low w unary.ReduceXor y n s k is_s is_k low = omega (arith, is_s, is_k)

pub unary_high : (o : UnaryOp) (n s k : ℕ) → k ≡ unary_side o n s → s ≤ 128 → n ≤ 128 → k ≤ 128
unary_high unary.Not n s k is h h' = omega (arith, is)
unary_high unary.LogicalNot n s k is h h' = omega (arith, is)
unary_high unary.ReduceAnd n s k is h h' = omega (arith, is)
unary_high unary.ReduceOr n s k is h h' = omega (arith, is)
unary_high unary.ReduceXor n s k is h h' = omega (arith, is)

positive : (a b : ℕ) → 0 < a * b → 0 < a
positive zero b h = absurd (omega arith)
positive (suc a) b h = omega arith

pub repeat_count : (w : Widths) (n : Leaf) (y : Expr) → IsTrue (meaning w (tree.Repeat 0 n 0 y)).sized → HasWidth (bounded n)
repeat_count w n y s =
    let b : size w (tree.Repeat 0 n 0 y) ≡ bounded n * size w y = ap (λ (m : Meaning). m.size) (repeat_is w 0 n 0 y) in
    let whole = sized_width w (tree.Repeat 0 n 0 y) s in
    let low = whole.low in
    let high = whole.high in
    let some : 0 < bounded n * size w y = omega (arith, b, low) in
    let part = (sized_width w y (repeat_part w n y s)).low in
    let least : 1 ≤ size w y = omega (arith, part) in
    let times : bounded n * 1 ≤ bounded n * size w y = mul-le-mul_left (bounded n) least in
    record { low = positive (bounded n) (size w y) some; high = omega (arith, b, high, times) }

pub concat_some : (w : Widths) (env : Env) (xs : List Expr) (es : List Node) → IsTrue (meaning w (tree.Concat 0 xs)).sized → map typed.meaning es ≡ map (own_typed env) (map (meaning w) xs) → 0 < length es
concat_some w env xs [] s is =
    let width = concat_width w env xs [] is in
    let low = (sized_width w (tree.Concat 0 xs) s).low in
    absurd (omega (arith, width, low))
concat_some w env xs (e ∷ es) s is = omega arith

-- ---- bits

pub bit_some : (width : ℕ) (o r : Option ℕ) → IsTrue (bit_sized width o) → r ≡ o → IsSome r
bit_some width None r s is = cc
bit_some width (Some n) r s is = let P : Option ℕ → Type 0 = λ x. IsSome x in subst P (sym is) refl

pub record IsBit (width at : ℕ) : Type 0 where
  pub known : IsTrue (is_width width)
  pub within : at < width

is_bit : (width at n : ℕ) → IsTrue (is_width width && nat_lt n width) → at ≡ n → IsBit width at
is_bit width at n s is =
    let p = both (is_width width) (nat_lt n width) s in
    let below = ltb-true n width p.second in
    record { known = p.first; within = omega (arith, below, is) }

pub bit_at : (width : ℕ) (o r : Option ℕ) (at : ℕ) → IsTrue (bit_sized width o) → r ≡ o → r ≡ Some at → IsBit width at
bit_at width None r at s is some = cc
bit_at width (Some n) r at s is some =
    let same : Some at ≡ Some n = sym some ∙ is in
    is_bit width at n s (ap (λ (x : Option ℕ). unwrap_or x 0) same)

-- the room for the calls that are left
pub size_fits : (n k : ℕ) → n ≤ expression_limit → k ≤ 1000 → n + k ≤ size_limit
size_fits n k h small = omega arith

-- ---- operators

pub fit_sides : (o : BinaryOp) (n s t l r : ℕ) (p q : Typed) → l ≡ left_side o n s t → r ≡ right_side o n s t → p.width ≡ l → q.width ≡ r → Fit o n p.width q.width
fit_sides o n s t l r p q is_l is_r is_p is_q = fit_from o n s t p.width q.width (is_p ∙ is_l) (is_q ∙ is_r)

-- ---- several parts

pub both_limit : (ws : List ℕ) (n : ℕ) (f : ℕ → ℕ) (m : ℕ) (g : ℕ → ℕ) (p q : Node) → IsWithin ws room (node_size * n) f p → IsWithin ws room (node_size * m) g q → n + m ≤ node_limit → typed.size p + typed.size q + 200 ≤ size_limit
both_limit ws n f m g p q h h' few = let a = h.small in let b = h'.small in omega (arith, a, b, few)

pub three_limit : (ws : List ℕ) (n : ℕ) (f : ℕ → ℕ) (m : ℕ) (g : ℕ → ℕ) (k : ℕ) (e : ℕ → ℕ) (p q r : Node) → IsWithin ws room (node_size * n) f p → IsWithin ws room (node_size * m) g q → IsWithin ws room (node_size * k) e r
    → n + (m + k) ≤ node_limit → 4 + typed.size p + typed.size q + typed.size r ≤ size_limit
three_limit ws n f m g k e p q r h h' h'' few = let a = h.small in let b = h'.small in let c = h''.small in omega (arith, a, b, c, few)

pub record AllLow (a b n : ℕ) : Type 0 where
  pub first : a ≤ n
  pub second : b ≤ n

pub choice_low : (w : Widths) (c y z : Expr) (n : ℕ) → size w (tree.Conditional c y z) ≤ n → AllLow (size w y) (size w z) n
choice_low w c y z n low =
    let b = ap (λ (m : Meaning). m.size) (conditional_is w c y z) in
    record { first = omega (arith, b, low); second = omega (arith, b, low) }

pub at_own : (k s : ℕ) → k ≡ s → s ≤ k
at_own k s e = omega (arith, e)

-- ---- loops over all

pub all_taken : (xs : List Expr) (i : ℕ) → length xs ≤ i → take i xs ≡ xs
all_taken xs i h = take_all i xs h

pub one_more : (es : List Node) (e : Node) (i : ℕ) → length es ≡ i → length (es ++ e ∷ []) ≡ i + 1
one_more es e i many = let l = length-append es (e ∷ []) in omega (arith, l, many)

pub counted_at : (times : ℕ → ℕ) (i : ℕ) → 0 < times i → 0 < times (0 + i)
counted_at times i h = let back : i ≡ 0 + i = omega arith in let P : ℕ → Type 0 = λ k. 0 < times k in subst P back h
