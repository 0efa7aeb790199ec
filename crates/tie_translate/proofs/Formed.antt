-- What is built for each form keeps the form's bounds.
use Rattle.std.proofs.Common.{◌≡◌, ℕ, ◌+◌, ◌*◌, ◌≤◌, ◌==◌, Bool, if◌then◌else◌, true, false, List, [], ◌++◌, map, sum, Result, Ok, Err, Some, None, refl, sym, ap, subst, ◌∙◌, arith}
use Rattle.std.specs.Result.{IfOk}
use Rattle.std.specs.List.{count_by}
use Rattle.tie_expr.specs.Tree.{Input, inputs, size}
use Rattle.tie_expr.specs.Substitute.{IsOver}
use Rattle.tie_expr.specs.declared.node.Node.{Node}
use Rattle.tie_grammar.specs.declared.symbol.Leaf.{Leaf}
use Rattle.tie_grammar.specs.declared.symbol.TieWord.{TieWord}
use Rattle.tie_grammar.specs.declared.tree.Literal.{Literal}
use Rattle.tie_grammar.specs.declared.tree.UnaryOp.{UnaryOp}
use Rattle.tie_grammar.specs.declared.tree.Operator.{Operator}
use Rattle.tie_grammar.specs.declared.tree.Expr.{Expr}
use Rattle.tie_grammar.specs.declared.tree.Expr.TheVariants as tree
use Rattle.tie_mean.specs.Counts.{Counts, count, counts_of, weighted, nodes}
use Rattle.tie_translate.specs.Bounds.{Bounds, IsWithin, IsBounded, IsNameBounded, IsCallBounded, AreBounded, AreArgumentsBounded, IsMadeOf, ReadsBoth, nodes_of, reads_of, call_size, occurrences, node_size, room, name_room, part_room, assigned_room}
use Rattle.tie_translate.proofs.Within.{within_same, within_both, within_three, within_all, over_none}
use Rattle.tie_translate.proofs.CountLayers.{count_literal, count_name, count_select, count_index, count_call, count_tie, count_paren, count_concat, count_repeat, count_unary, count_binary, count_conditional}

-- one that reads the same and is little larger
pub grown : {E : Type 0} (r : Result Node E) (ws : List ℕ) (s m : ℕ) (f : ℕ → ℕ) (t n : ℕ) (g : ℕ → ℕ) (k : ℕ) (a : Node) → IsWithin ws s m f a → IfOk r (λ e. inputs e ≡ inputs a) → IfOk r (λ e. size e ≡ k + size a)
    → k + t + m ≤ s + n → ((j : ℕ) → f j ≤ g j) → IfOk r (IsWithin ws t n g)
grown (Ok e) ws s m f t n g k a h same small more reads = within_same ws s m f t n g a e h same (omega arith) reads
grown (Err x) ws s m f t n g k a h same small more reads = tt

abbrev pub node_counts : Bounds → Counts
node_counts b = counts_of None b.seen b.names

abbrev pub read_counts : Bounds → ℕ → Counts
read_counts b k = counts_of (Some (b.input k)) b.seen (b.reads k)

-- ---- forms with no parts

pub literal_bounded : {E : Type 0} (r : Result Node E) (b : Bounds) (x : Literal) → IfOk r (λ e. inputs e ≡ []) → IfOk r (λ e. size e ≡ 8) → IfOk r (IsBounded b room (tree.Literal x))
literal_bounded (Ok e) b x none small = record {
  over = let P : List Input → Type 0 = λ is. IsOver b.widths is in subst P (sym none) (over_none b.widths);
  small = let n = count_literal (node_counts b) x in omega (arith, n, small);
  often = λ k. (let n = ap (count_by (λ (i : Input). i.index == k)) none in omega (arith, n));
}
literal_bounded (Err e) b x none small = tt

pub name_bounded : {E : Type 0} (r : Result Node E) (b : Bounds) (name : Leaf) (a : Node) → IsNameBounded b name_room name.bytes a → IfOk r (λ e. inputs e ≡ inputs a) → IfOk r (λ e. size e ≡ 4 + size a)
    → IfOk r (IsBounded b room (tree.Name name))
name_bounded r b name a h same small =
    let n = count_name (node_counts b) name in
    grown r b.widths name_room (node_size * b.names name.bytes) (λ k. b.reads k name.bytes) room (node_size * nodes_of b (tree.Name name)) (λ k. reads_of b k (tree.Name name)) 4 a h same small (omega (arith, n))
    (λ k. (let reads = count_name (read_counts b k) name in omega (arith, reads)))

pub select_bounded : {E : Type 0} (r : Result Node E) (b : Bounds) (name high low : Leaf) (a : Node) → IsNameBounded b part_room name.bytes a → IfOk r (λ e. inputs e ≡ inputs a) → IfOk r (λ e. size e ≡ 4 + size a)
    → IfOk r (IsBounded b room (tree.Select name high low))
select_bounded r b name high low a h same small =
    let x = tree.Select name high low in
    let n = count_select (node_counts b) name high low in
    grown r b.widths part_room (node_size * b.names name.bytes) (λ k. b.reads k name.bytes) room (node_size * nodes_of b x) (λ k. reads_of b k x) 4 a h same small (omega (arith, n))
    (λ k. (let reads = count_select (read_counts b k) name high low in omega (arith, reads)))

-- a bit of a name counts the name and one more
pub bit_count : (c : Counts) (name : Leaf) (y : Expr) → c.is_table name.bytes ≡ false → count c (tree.Index name y) ≡ nodes c.counted 1 + c.name name.bytes
bit_count c name y table = count_index c name y ∙ ap (λ (t : Bool). if t then nodes c.counted 3 + count c y else nodes c.counted 1 + c.name name.bytes) table

pub bit_bounded : {E : Type 0} (r : Result Node E) (b : Bounds) (name : Leaf) (y : Expr) (a : Node) → b.seen.is_table name.bytes ≡ false → IsNameBounded b part_room name.bytes a → IfOk r (λ e. inputs e ≡ inputs a)
    → IfOk r (λ e. size e ≡ 4 + size a) → IfOk r (IsBounded b room (tree.Index name y))
bit_bounded r b name y a table h same small =
    let x = tree.Index name y in
    let n = bit_count (node_counts b) name y table in
    grown r b.widths part_room (node_size * b.names name.bytes) (λ k. b.reads k name.bytes) room (node_size * nodes_of b x) (λ k. reads_of b k x) 4 a h same small (omega (arith, n))
    (λ k. (let reads = bit_count (read_counts b k) name y table in omega (arith, reads)))

-- ---- forms with one part

-- an entry of a table counts the index and three more
pub entry_count : (c : Counts) (name : Leaf) (y : Expr) → c.is_table name.bytes ≡ true → count c (tree.Index name y) ≡ nodes c.counted 3 + count c y
entry_count c name y table = count_index c name y ∙ ap (λ (t : Bool). if t then nodes c.counted 3 + count c y else nodes c.counted 1 + c.name name.bytes) table

pub entry_bounded : {E : Type 0} (r : Result Node E) (b : Bounds) (name : Leaf) (y : Expr) (index entry : Node) → b.seen.is_table name.bytes ≡ true → IsBounded b room y index → inputs entry ≡ inputs index
    → size entry ≡ 560 + size index → IfOk r (λ e. inputs e ≡ inputs entry) → IfOk r (λ e. size e ≡ 4 + size entry) → IfOk r (IsBounded b room (tree.Index name y))
entry_bounded (Ok e) b name y index entry table h reads large same small =
    let x = tree.Index name y in
    let n = entry_count (node_counts b) name y table in
    within_same b.widths room (node_size * nodes_of b y) (λ k. reads_of b k y) room (node_size * nodes_of b x) (λ k. reads_of b k x) index e h (same ∙ reads) (omega (arith, n, large, small))
    (λ k. (let reads = entry_count (read_counts b k) name y table in omega (arith, reads)))
entry_bounded (Err z) b name y index entry table h reads large same small = tt

pub repeat_bounded : {E : Type 0} (r : Result Node E) (b : Bounds) (n : Leaf) (y : Expr) (one all : Node) → IsBounded b room y one → inputs all ≡ inputs one → size all ≡ 60 + size one
    → IfOk r (λ e. inputs e ≡ inputs all) → IfOk r (λ e. size e ≡ 4 + size all) → IfOk r (IsBounded b room (tree.Repeat 0 n 0 y))
repeat_bounded (Ok e) b n y one all h reads large same small =
    let x = tree.Repeat 0 n 0 y in
    let c = count_repeat (node_counts b) 0 n 0 y in
    within_same b.widths room (node_size * nodes_of b y) (λ k. reads_of b k y) room (node_size * nodes_of b x) (λ k. reads_of b k x) one e h (same ∙ reads) (omega (arith, c, large, small))
    (λ k. (let reads = count_repeat (read_counts b k) 0 n 0 y in omega (arith, reads)))
repeat_bounded (Err z) b n y one all h reads large same small = tt

pub unary_bounded : {E : Type 0} (r : Result Node E) (b : Bounds) (o : UnaryOp) (y : Expr) (a : Node) → IsBounded b room y a → IfOk r (λ e. inputs e ≡ inputs a) → IfOk r (λ e. size e ≤ size a + 64)
    → IfOk r (IsBounded b room (tree.Unary o 0 y))
unary_bounded (Ok e) b o y a h same small =
    let x = tree.Unary o 0 y in
    let c = count_unary (node_counts b) o 0 y in
    within_same b.widths room (node_size * nodes_of b y) (λ k. reads_of b k y) room (node_size * nodes_of b x) (λ k. reads_of b k x) a e h same (omega (arith, c, small))
    (λ k. (let reads = count_unary (read_counts b k) o 0 y in omega (arith, reads)))
unary_bounded (Err z) b o y a h same small = tt

pub assigned_bounded : {E : Type 0} (r : Result Node E) (b : Bounds) (x : Expr) (a : Node) → IsBounded b room x a → IfOk r (λ e. inputs e ≡ inputs a) → IfOk r (λ e. size e ≡ 4 + size a) → IfOk r (IsBounded b assigned_room x)
assigned_bounded r b x a h same small =
    grown r b.widths room (node_size * nodes_of b x) (λ k. reads_of b k x) assigned_room (node_size * nodes_of b x) (λ k. reads_of b k x) 4 a h same small (omega arith) (λ k. omega arith)

-- ---- forms with two and three parts

pub binary_bounded : {E : Type 0} (r : Result Node E) (b : Bounds) (o : Operator) (y z : Expr) (p q : Node) → IsBounded b room y p → IsBounded b room z q → IfOk r (ReadsBoth p q) → IfOk r (λ e. size e ≤ size p + size q + 64)
    → IfOk r (IsBounded b room (tree.Binary o y z))
binary_bounded (Ok e) b o y z p q h h' both small =
    let x = tree.Binary o y z in
    let c = count_binary (node_counts b) o y z in
    within_both b.widths room (node_size * nodes_of b y) (λ k. reads_of b k y) room (node_size * nodes_of b z) (λ k. reads_of b k z) room (node_size * nodes_of b x) (λ k. reads_of b k x) p q e h h' both (omega (arith, c, small))
    (λ k. (let reads = count_binary (read_counts b k) o y z in omega (arith, reads)))
binary_bounded (Err t) b o y z p q h h' both small = tt

pub conditional_bounded : {E : Type 0} (r : Result Node E) (b : Bounds) (v y z : Expr) (t p q : Node) → IsBounded b room v t → IsBounded b room y p → IsBounded b room z q → IfOk r (λ e. inputs e ≡ inputs t ++ inputs p ++ inputs q)
    → IfOk r (λ e. size e ≡ 4 + size t + size p + size q) → IfOk r (IsBounded b room (tree.Conditional v y z))
conditional_bounded (Ok e) b v y z t p q h h' h'' is small =
    let x = tree.Conditional v y z in
    let c = count_conditional (node_counts b) v y z in
    within_three b.widths room (node_size * nodes_of b v) (λ k. reads_of b k v) (node_size * nodes_of b y) (λ k. reads_of b k y) (node_size * nodes_of b z) (λ k. reads_of b k z) room (node_size * nodes_of b x) (λ k. reads_of b k x)
    t p q e h h' h'' is (omega (arith, c, small))
    (λ k. (let reads = count_conditional (read_counts b k) v y z in omega (arith, reads)))
conditional_bounded (Err s) b v y z t p q h h' h'' is small = tt

-- ---- forms with lists of parts

list_bounded : {E : Type 0} (r : Result Node E) (b : Bounds) (xs : List Expr) (x : Expr) (es : List Node) (all : Node) → AreBounded b xs es → IsMadeOf es all → IfOk r (λ e. inputs e ≡ inputs all) → IfOk r (λ e. size e ≡ 4 + size all)
    → nodes_of b x ≡ 1 + sum (map (nodes_of b) xs) → ((k : ℕ) → reads_of b k x ≡ sum (map (reads_of b k) xs)) → IfOk r (IsBounded b room x)
list_bounded (Ok e) b xs x es all h made same small counted reads =
    let large = made.small in
    within_all b.widths room (node_size * sum (map (nodes_of b) xs)) (λ k. sum (map (reads_of b k) xs)) room (node_size * nodes_of b x) (λ k. reads_of b k x) es e h (same ∙ made.reads) (omega (arith, counted, large, small))
    (λ k. (let read = reads k in omega (arith, read)))
list_bounded (Err z) b xs x es all h made same small counted reads = tt

pub concat_bounded : {E : Type 0} (r : Result Node E) (b : Bounds) (xs : List Expr) (es : List Node) (all : Node) → AreBounded b xs es → IsMadeOf es all → IfOk r (λ e. inputs e ≡ inputs all) → IfOk r (λ e. size e ≡ 4 + size all)
    → IfOk r (IsBounded b room (tree.Concat 0 xs))
concat_bounded r b xs es all h made same small =
    list_bounded r b xs (tree.Concat 0 xs) es all h made same small (count_concat (node_counts b) 0 xs) (λ k. (let n = count_concat (read_counts b k) 0 xs in omega (arith, n)))

pub tie_bounded : {E : Type 0} (r : Result Node E) (b : Bounds) (o : TieWord) (xs : List Expr) (es : List Node) (all : Node) → AreBounded b xs es → IsMadeOf es all → IfOk r (λ e. inputs e ≡ inputs all) → IfOk r (λ e. size e ≡ 4 + size all)
    → IfOk r (IsBounded b room (tree.Tie o 0 xs))
tie_bounded r b o xs es all h made same small =
    list_bounded r b xs (tree.Tie o 0 xs) es all h made same small (count_tie (node_counts b) o 0 xs) (λ k. (let n = count_tie (read_counts b k) o 0 xs in omega (arith, n)))

pub call_bounded : {E : Type 0} (r : Result Node E) (b : Bounds) (name : Leaf) (xs : List Expr) (es : List Node) (all : Node) → AreArgumentsBounded b name.bytes xs es → IsCallBounded b name_room name.bytes es all
    → IfOk r (λ e. inputs e ≡ inputs all) → IfOk r (λ e. size e ≡ 4 + size all) → IfOk r (IsBounded b room (tree.Call name 0 xs))
call_bounded r b name xs es all args h same small =
    let x = tree.Call name 0 xs in
    let n = count_call (node_counts b) name 0 xs in
    let size = args.small in
    grown r b.widths name_room (call_size b name.bytes es) (λ k. weighted (b.seen.times name.bytes) 0 (map (occurrences k) es)) room (node_size * nodes_of b x) (λ k. reads_of b k x) 4 all h same small (omega (arith, n, size))
    (λ k. (let reads = count_call (read_counts b k) name 0 xs in let often = args.often k in omega (arith, reads, often)))

pub paren_bounded : {E : Type 0} (r : Result Node E) (b : Bounds) (p : ℕ) (y : Expr) → IfOk r (IsBounded b room y) → IfOk r (IsBounded b room (tree.Paren p y))
paren_bounded (Ok e) b p y h =
    let x = tree.Paren p y in
    let c = count_paren (node_counts b) p y in
    within_same b.widths room (node_size * nodes_of b y) (λ k. reads_of b k y) room (node_size * nodes_of b x) (λ k. reads_of b k x) e e h refl (omega (arith, c))
    (λ k. (let reads = count_paren (read_counts b k) p y in omega (arith, reads)))
paren_bounded (Err z) b p y h = tt
