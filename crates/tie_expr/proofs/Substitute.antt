-- What a tree means whose inputs are replaced by other trees.
use Rattle.std.proofs.Common.{◌≡◌, ℕ, zero, suc, ◌+◌, ◌*◌, ◌%◌, ◌^◌, ◌<◌, ◌≤◌, ◌&&◌, ◌==◌, nat_lt, nat_le, IsTrue, List, [], ◌∷◌, ◌++◌, length, map, slice_get, slice_index, slice_index_or, Some, refl, sym, subst, ap, ◌∙◌, arith, rules, length-append}
use mathlib.Core.Path.{fun_ext, ap₂}
use Rattle.std.specs.List.{list_all, flat_map, sum_by}
use Rattle.std.proofs.Math.Nat.{mod-eq_of_lt}
use Rattle.std.proofs.Math.ListN.{get_or-map}
use Rattle.std.proofs.lemmas.Bool.{and_parts, and_from, eqb-true, eq-eqb, le-leb, leb-true}
use Rattle.std.proofs.lemmas.Grind.{flat_map-append}
use Rattle.std.proofs.lemmas.List.{append-nil}
use Rattle.std.proofs.lemmas.List.Sums.{sum_by-append}
use Rattle.tie_expr.specs.Word.{Word}
use Rattle.tie_expr.specs.Operators.{two_widths_agree}
use Rattle.tie_expr.specs.Meaning.{Meaning, input_meaning, one_meaning, two_meaning, choose_meaning, join_meaning, part_meaning, resize_meaning, lookup_meaning, repeat_meaning, arm, select_meaning, mul_meaning}
use Rattle.tie_expr.specs.Size.{node_weight, wide_weight, table_weight, one_weight, two_weight}
use Rattle.tie_expr.specs.Substitute.{IsOver, substitute_meaning, substitute_inputs, substitute_size, replaced, replaced_step}
use Rattle.tie_expr.specs.Tree.{Summary, Input, summary, summary_step, meaning, inputs, size, typed, is_width, arms_typed, arm_meanings}
use Rattle.tie_expr.specs.declared.ops.Op1.{Op1}
use Rattle.tie_expr.specs.declared.ops.Op2.{Op2}
use Rattle.tie_expr.specs.declared.node.Node.{Node}
use Rattle.tie_expr.specs.declared.node.Node.TheVariants as node
use Rattle.tie_expr.specs.declared.node.Node.TheViews.{roll-Node}
use Rattle.tie_expr.specs.declared.node.Node.TheOpen.{Node-F}
use Rattle.tie_expr.specs.declared.node.Node.TheFolds.{the_lemmas, map-Node, fold-roll-Node, ind-Node}
use Rattle.tie_expr.proofs.Bounds.{bounded}
use Rattle.tie_expr.proofs.Typed.{two_is, choose_is, join_is, lookup_is, select_is, mul_is}

abbrev pub widths : List Node → List ℕ
widths = map (λ a. (meaning a).width)

-- the sizes of the arguments at some inputs
abbrev pub sizes_at : List Node → List Input → ℕ
sizes_at arguments = sum_by (λ i. slice_index (map size arguments) i.index)

-- r is what s becomes where the arguments stand in place of its inputs
pub record Becomes (arguments : List Node) (s r : Summary) : Type 0 where
  pub means : r.meaning ≡ substitute_meaning s.meaning (map meaning arguments)
  pub inputs : r.inputs ≡ substitute_inputs s.inputs (map inputs arguments)
  pub size : r.size + node_weight * length s.inputs ≡ s.size + sizes_at arguments s.inputs
  pub typed : IsTrue r.typed

pub same_width : (arguments : List Node) (s r : Summary) → Becomes arguments s r → r.meaning.width ≡ s.meaning.width
same_width arguments s r b = ap (λ (m : Meaning). m.width) b.means

-- ---- the inputs of two parts
over_left : (ws : List ℕ) (xs ys : List Input) → IsOver ws (xs ++ ys) → IsOver ws xs
over_left ws [] ys h k d lt = absurd (omega arith)
over_left ws (x ∷ xs) ys h zero d lt = h zero d (omega arith)
over_left ws (x ∷ xs) ys h (suc k) d lt = over_left ws xs ys (λ i e m. h (suc i) e (omega arith)) k d (omega arith)

over_right : (ws : List ℕ) (xs ys : List Input) → IsOver ws (xs ++ ys) → IsOver ws ys
over_right ws [] ys h = h
over_right ws (x ∷ xs) ys h = over_right ws xs ys (λ i e m. h (suc i) e (omega arith))

inputs_two : (arguments : List Node) (a b p q : List Input) → p ≡ substitute_inputs a (map inputs arguments) → q ≡ substitute_inputs b (map inputs arguments) → p ++ q ≡ substitute_inputs (a ++ b) (map inputs arguments)
inputs_two arguments a b p q e f = ap₂ (λ x y. x ++ y) e f ∙ sym (flat_map-append (λ (i : Input). slice_index_or (map inputs arguments) i.index []) a b)

-- the sizes of two parts
size_two : (arguments : List Node) (p q s t : ℕ) (a b : List Input) → p + node_weight * length a ≡ s + sizes_at arguments a → q + node_weight * length b ≡ t + sizes_at arguments b → (p + q) + node_weight * length (a ++ b) ≡ (s + t) + sizes_at arguments (a ++ b)
size_two arguments p q s t a b e f =
    let l = length-append a b in
    let m = sum_by-append (λ (i : Input). slice_index (map size arguments) i.index) a b in
    omega arith

-- a weight of its own
size_more : (arguments : List Node) (n p s : ℕ) (a : List Input) → p + node_weight * length a ≡ s + sizes_at arguments a → (n + p) + node_weight * length a ≡ (n + s) + sizes_at arguments a
size_more arguments n p s a e = omega arith

-- ---- an input
pub input_becomes : (arguments : List Node) (i w : ℕ) (d : Node) → IsTrue (list_all typed arguments) → slice_get (widths arguments) i ≡ Some w
    → (meaning (slice_index_or arguments i d) ≡ substitute_meaning (input_meaning i w) (map meaning arguments))
    × (inputs (slice_index_or arguments i d) ≡ slice_index_or (map inputs arguments) i [])
    × (size (slice_index_or arguments i d) ≡ slice_index (map size arguments) i)
    × IsTrue (typed (slice_index_or arguments i d))
input_becomes [] i w d t h = cc
input_becomes (e ∷ es) zero w d t h =
    let p = and_parts (typed e) (list_all typed es) t in
    let same : (meaning e).width ≡ w = cc in
    let value : (meaning e).at ≡ (λ env. (meaning e).at env % 2 ^ w) =
    fun_ext (λ env. sym (mod-eq_of_lt (subst (λ n. (meaning e).at env < 2 ^ n) same (bounded e p.0 env)))) in
    (ap₂ (λ (n : ℕ) (f : List Word → ℕ). let m : Meaning = record { width = n; at = f } in m) same value, refl, refl, p.0)
input_becomes (e ∷ es) (suc i) w d t h = input_becomes es i w d (and_parts (typed e) (list_all typed es) t).1 h

-- ---- one layer, where each part becomes what it shall
one_becomes : (arguments : List Node) (op : Op1) (a p : Summary) → Becomes arguments a p → Becomes arguments (summary_step (Node-F.One op a)) (summary_step (Node-F.One op p))
one_becomes arguments op a p x = record {
  means = ap (one_meaning op) x.means;
  inputs = x.inputs;
  size = size_more arguments (one_weight op) p.size a.size a.inputs x.size;
  typed = x.typed;
}

two_becomes : (arguments : List Node) (op : Op2) (a b p q : Summary) → IsTrue (two_widths_agree op a.meaning.width b.meaning.width) → Becomes arguments a p → Becomes arguments b q → Becomes arguments (summary_step (Node-F.Two op a b)) (summary_step (Node-F.Two op p q))
two_becomes arguments op a b p q agree x y = record {
  means = ap₂ (two_meaning op) x.means y.means;
  inputs = inputs_two arguments a.inputs b.inputs p.inputs q.inputs x.inputs y.inputs;
  size = size_two arguments (two_weight op + p.size) q.size (two_weight op + a.size) b.size a.inputs b.inputs (size_more arguments (two_weight op) p.size a.size a.inputs x.size) y.size;
  typed = and_from (p.typed && q.typed) (two_widths_agree op p.meaning.width q.meaning.width) (and_from p.typed q.typed x.typed y.typed)
      (subst (λ n. IsTrue (two_widths_agree op n q.meaning.width)) (sym (same_width arguments a p x))
      (subst (λ n. IsTrue (two_widths_agree op a.meaning.width n)) (sym (same_width arguments b q y)) agree));
}

choose_becomes : (arguments : List Node) (c a b r p q : Summary) → a.meaning.width ≡ b.meaning.width → Becomes arguments c r → Becomes arguments a p → Becomes arguments b q → Becomes arguments (summary_step (Node-F.Choose c a b)) (summary_step (Node-F.Choose r p q))
choose_becomes arguments c a b r p q same z x y = record {
  means = ap₂ (λ l m. choose_meaning l m q.meaning) z.means x.means ∙ ap (choose_meaning (substitute_meaning c.meaning (map meaning arguments)) (substitute_meaning a.meaning (map meaning arguments))) y.means;
  inputs = inputs_two arguments (c.inputs ++ a.inputs) b.inputs (r.inputs ++ p.inputs) q.inputs (inputs_two arguments c.inputs a.inputs r.inputs p.inputs z.inputs x.inputs) y.inputs;
  size = size_two arguments (node_weight + r.size + p.size) q.size (node_weight + c.size + a.size) b.size (c.inputs ++ a.inputs) b.inputs
      (size_two arguments (node_weight + r.size) p.size (node_weight + c.size) a.size c.inputs a.inputs (size_more arguments node_weight r.size c.size c.inputs z.size) x.size) y.size;
  typed = and_from (r.typed && p.typed) (q.typed && p.meaning.width == q.meaning.width) (and_from r.typed p.typed z.typed x.typed)
      (and_from q.typed (p.meaning.width == q.meaning.width) y.typed
      (eq-eqb p.meaning.width q.meaning.width (same_width arguments a p x ∙ same ∙ sym (same_width arguments b q y))));
}

join_becomes : (arguments : List Node) (a b p q : Summary) → a.meaning.width + b.meaning.width ≤ 128 → Becomes arguments a p → Becomes arguments b q → Becomes arguments (summary_step (Node-F.Join a b)) (summary_step (Node-F.Join p q))
join_becomes arguments a b p q room x y =
    let u = same_width arguments a p x in
    let v = same_width arguments b q y in
    record {
      means = ap₂ join_meaning x.means y.means;
      inputs = inputs_two arguments a.inputs b.inputs p.inputs q.inputs x.inputs y.inputs;
      size = size_two arguments (node_weight + p.size) q.size (node_weight + a.size) b.size a.inputs b.inputs (size_more arguments node_weight p.size a.size a.inputs x.size) y.size;
      typed = and_from (p.typed && q.typed) (nat_le (p.meaning.width + q.meaning.width) 128) (and_from p.typed q.typed x.typed y.typed) (le-leb (p.meaning.width + q.meaning.width) 128 (omega arith));
    }

mul_becomes : (arguments : List Node) (a b s p q r : Summary) → s.meaning.width ≡ 1 → a.meaning.width + b.meaning.width ≤ 128 → Becomes arguments a p → Becomes arguments b q → Becomes arguments s r → Becomes arguments (summary_step (Node-F.Mul a b s)) (summary_step (Node-F.Mul p q r))
mul_becomes arguments a b s p q r one room x y z =
    let u = same_width arguments a p x in
    let v = same_width arguments b q y in
    let w = same_width arguments s r z in
    record {
      means = ap₂ (λ l m. mul_meaning l m r.meaning) x.means y.means ∙ ap (mul_meaning (substitute_meaning a.meaning (map meaning arguments)) (substitute_meaning b.meaning (map meaning arguments))) z.means;
      inputs = inputs_two arguments (a.inputs ++ b.inputs) s.inputs (p.inputs ++ q.inputs) r.inputs (inputs_two arguments a.inputs b.inputs p.inputs q.inputs x.inputs y.inputs) z.inputs;
      size = size_two arguments (wide_weight + p.size + q.size) r.size (wide_weight + a.size + b.size) s.size (a.inputs ++ b.inputs) s.inputs
          (size_two arguments (wide_weight + p.size) q.size (wide_weight + a.size) b.size a.inputs b.inputs (size_more arguments wide_weight p.size a.size a.inputs x.size) y.size) z.size;
      typed = and_from ((p.typed && q.typed) && (r.typed && r.meaning.width == 1)) (nat_le (p.meaning.width + q.meaning.width) 128)
          (and_from (p.typed && q.typed) (r.typed && r.meaning.width == 1) (and_from p.typed q.typed x.typed y.typed) (and_from r.typed (r.meaning.width == 1) z.typed (eq-eqb r.meaning.width 1 (w ∙ one))))
          (le-leb (p.meaning.width + q.meaning.width) 128 (omega arith));
    }

part_becomes : (arguments : List Node) (a p : Summary) (high low : ℕ) → IsTrue (nat_le low high && nat_lt high a.meaning.width) → Becomes arguments a p → Becomes arguments (summary_step (Node-F.Part a high low)) (summary_step (Node-F.Part p high low))
part_becomes arguments a p high low fits x = record {
  means = ap (λ m. part_meaning m high low) x.means;
  inputs = x.inputs;
  size = size_more arguments node_weight p.size a.size a.inputs x.size;
  typed = and_from p.typed (nat_le low high && nat_lt high p.meaning.width) x.typed (subst (λ n. IsTrue (nat_le low high && nat_lt high n)) (sym (same_width arguments a p x)) fits);
}

resize_becomes : (arguments : List Node) (a p : Summary) (w : ℕ) → IsTrue (is_width w) → Becomes arguments a p → Becomes arguments (summary_step (Node-F.Resize a w)) (summary_step (Node-F.Resize p w))
resize_becomes arguments a p w fits x = record {
  means = ap (λ m. resize_meaning m w) x.means;
  inputs = x.inputs;
  size = size_more arguments node_weight p.size a.size a.inputs x.size;
  typed = and_from p.typed (is_width w) x.typed fits;
}

lookup_becomes : (arguments : List Node) (a p : Summary) (entries : List ℕ) (w : ℕ) → IsTrue (summary_step (Node-F.Lookup a entries w)).typed → Becomes arguments a p → Becomes arguments (summary_step (Node-F.Lookup a entries w)) (summary_step (Node-F.Lookup p entries w))
lookup_becomes arguments a p entries w t x =
    let rest = nat_le (length entries) 256 && list_all (λ e. nat_lt e (2 ^ w)) entries in
    let q = and_parts (a.typed && is_width w) rest t in
    record {
      means = ap (λ m. lookup_meaning m entries w) x.means;
      inputs = x.inputs;
      size = size_more arguments table_weight p.size a.size a.inputs x.size;
      typed = and_from (p.typed && is_width w) rest (and_from p.typed (is_width w) x.typed (and_parts a.typed (is_width w) q.0).1) q.1;
    }

repeat_becomes : (arguments : List Node) (a p : Summary) (n : ℕ) → IsTrue (nat_lt 0 n && nat_le (a.meaning.width * n) 128) → Becomes arguments a p → Becomes arguments (summary_step (Node-F.Repeat a n)) (summary_step (Node-F.Repeat p n))
repeat_becomes arguments a p n fits x = record {
  means = ap (λ m. repeat_meaning m n) x.means;
  inputs = x.inputs;
  size = size_more arguments wide_weight p.size a.size a.inputs x.size;
  typed = and_from p.typed (nat_lt 0 n && nat_le (p.meaning.width * n) 128) x.typed (subst (λ w. IsTrue (nat_lt 0 n && nat_le (w * n) 128)) (sym (same_width arguments a p x)) fits);
}

-- ---- arms
abbrev pub arm_inputs : List Summary → List Input
arm_inputs = flat_map (λ a. a.inputs)

abbrev pub arm_sizes : List Summary → ℕ
arm_sizes = sum_by (λ a. a.size)

abbrev pub substituted : List Node → Meaning → Meaning
substituted arguments m = substitute_meaning m (map meaning arguments)

pub record ArmsBecome (arguments : List Node) (w : ℕ) (ss ps : List Summary) : Type 0 where
  pub means : arm_meanings ps ≡ map (substituted arguments) (arm_meanings ss)
  pub inputs : arm_inputs ps ≡ substitute_inputs (arm_inputs ss) (map inputs arguments)
  pub size : arm_sizes ps + node_weight * length (arm_inputs ss) ≡ arm_sizes ss + sizes_at arguments (arm_inputs ss)
  pub typed : IsTrue (arms_typed w ps)
  pub count : length ps ≡ length ss

abbrev pub Claim : List Node → Node → Type 0
Claim arguments x = IsTrue (typed x) → IsOver (widths arguments) (inputs x) → Becomes arguments (summary x) (summary (replaced arguments x))

abbrev pub Claimed : List Node → Type 0
Claimed arguments = (x : Node) × Claim arguments x

abbrev before : (arguments : List Node) → List (Claimed arguments) → List Summary
before arguments arms = map summary (map (λ e. e.0) arms)

abbrev after : (arguments : List Node) → List (Claimed arguments) → List Summary
after arguments arms = map summary (map (replaced arguments) (map (λ e. e.0) arms))

arms_become : (arguments : List Node) (arms : List (Claimed arguments)) (w : ℕ) → IsTrue (arms_typed w (before arguments arms)) → IsOver (widths arguments) (arm_inputs (before arguments arms)) → ArmsBecome arguments w (before arguments arms) (after arguments arms)
arms_become arguments [] w t o = record { means = refl; inputs = refl; size = refl; typed = refl; count = refl }
arms_become arguments (e ∷ es) w t o =
    let ss = before arguments es in
    let ps = after arguments es in
    let s = summary e.0 in
    let r = summary (replaced arguments e.0) in
    let p = and_parts (s.typed && s.meaning.width == w) (arms_typed w ss) t in
    let q = and_parts s.typed (s.meaning.width == w) p.0 in
    let here = e.1 q.0 (over_left (widths arguments) s.inputs (arm_inputs ss) o) in
    let rest = arms_become arguments es w p.1 (over_right (widths arguments) s.inputs (arm_inputs ss) o) in
    let both = size_two arguments r.size (arm_sizes ps) s.size (arm_sizes ss) s.inputs (arm_inputs ss) here.size rest.size in
    let first = sum_by-append (λ (a : Summary). a.size) (r ∷ []) ps in
    let second = sum_by-append (λ (a : Summary). a.size) (s ∷ []) ss in
    record {
      means = ap₂ (λ m ms. m ∷ ms) here.means rest.means;
      inputs = inputs_two arguments s.inputs (arm_inputs ss) r.inputs (arm_inputs ps) here.inputs rest.inputs;
      size = omega (arith, both, first, second);
      typed = and_from (r.typed && r.meaning.width == w) (arms_typed w ps)
          (and_from r.typed (r.meaning.width == w) here.typed (eq-eqb r.meaning.width w (same_width arguments s r here ∙ eqb-true s.meaning.width w q.1))) rest.typed;
      count = ap suc rest.count;
    }

-- an arm of the arms
picked : (arguments : List Node) (ms : List Meaning) (k : ℕ) → arm (map (substituted arguments) ms) k ≡ substituted arguments (arm ms k)
picked arguments ms k = get_or-map (substituted arguments) ms k (arm [] 0)

select_means : (arguments : List Node) (s : Meaning) (ms : List Meaning) → select_meaning (substituted arguments s) (map (substituted arguments) ms) ≡ substituted arguments (select_meaning s ms)
select_means arguments s ms =
    ap₂ (λ (n : ℕ) (f : List Word → ℕ). let m : Meaning = record { width = n; at = f } in m)
    (ap (λ (m : Meaning). m.width) (picked arguments ms 0))
    (fun_ext (λ env. ap (λ (m : Meaning). m.at env) (picked arguments ms ((substituted arguments s).at env))))

select_becomes : (arguments : List Node) (s r : Summary) (ss ps : List Summary) → IsTrue (nat_le s.meaning.width 4) → IsTrue (length ss == 2 ^ s.meaning.width) → Becomes arguments s r → ArmsBecome arguments (arm (arm_meanings ss) 0).width ss ps → Becomes arguments (summary_step (Node-F.Select s ss)) (summary_step (Node-F.Select r ps))
select_becomes arguments s r ss ps few many x arms =
    let u = same_width arguments s r x in
    let w : (arm (arm_meanings ps) 0).width ≡ (arm (arm_meanings ss) 0).width = ap (λ (ms : List Meaning). (arm ms 0).width) arms.means ∙ ap (λ (m : Meaning). m.width) (picked arguments (arm_meanings ss) 0) in
    let count : length ps ≡ 2 ^ r.meaning.width = arms.count ∙ eqb-true (length ss) (2 ^ s.meaning.width) many ∙ ap (λ n. 2 ^ n) (sym u) in
    record {
      means = ap₂ select_meaning x.means arms.means ∙ select_means arguments s.meaning (arm_meanings ss);
      inputs = inputs_two arguments s.inputs (arm_inputs ss) r.inputs (arm_inputs ps) x.inputs arms.inputs;
      size = size_two arguments (wide_weight + r.size) (arm_sizes ps) (wide_weight + s.size) (arm_sizes ss) s.inputs (arm_inputs ss) (size_more arguments wide_weight r.size s.size s.inputs x.size) arms.size;
      typed = and_from (r.typed && nat_le r.meaning.width 4) (length ps == 2 ^ r.meaning.width && arms_typed (arm (arm_meanings ps) 0).width ps)
          (and_from r.typed (nat_le r.meaning.width 4) x.typed (subst (λ n. IsTrue (nat_le n 4)) (sym u) few))
          (and_from (length ps == 2 ^ r.meaning.width) (arms_typed (arm (arm_meanings ps) 0).width ps) (eq-eqb (length ps) (2 ^ r.meaning.width) count)
          (subst (λ n. IsTrue (arms_typed n ps)) (sym w) arms.typed));
    }

-- ---- one layer of a tree
constant_is : (x : Word) → summary (node.Constant x) ≡ summary_step (Node-F.Constant x)
constant_is x = search (rules, the_lemmas)

one_is : (op : Op1) (a : Node) → summary (node.One op a) ≡ summary_step (Node-F.One op (summary a))
one_is op a = search (rules, the_lemmas)

part_is : (a : Node) (high low : ℕ) → summary (node.Part a high low) ≡ summary_step (Node-F.Part (summary a) high low)
part_is a high low = search (rules, the_lemmas)

resize_is : (a : Node) (w : ℕ) → summary (node.Resize a w) ≡ summary_step (Node-F.Resize (summary a) w)
resize_is a w = search (rules, the_lemmas)

repeat_is : (a : Node) (n : ℕ) → summary (node.Repeat a n) ≡ summary_step (Node-F.Repeat (summary a) n)
repeat_is a n = search (rules, the_lemmas)

abbrev pub ClaimAt : List Node → Summary → Node → Type 0
ClaimAt arguments s r = IsTrue s.typed → IsOver (widths arguments) s.inputs → Becomes arguments s (summary r)

-- a layer over parts of which the claim is known
abbrev placed : (arguments : List Node) → Node-F (Claimed arguments) → Node-F Node
placed arguments y = map-Node (Claimed arguments) Node (λ e. e.0) y

layer : (arguments : List Node) → IsTrue (list_all typed arguments) → (y : Node-F (Claimed arguments)) → ClaimAt arguments (summary_step (map-Node Node Summary summary (placed arguments y))) (replaced_step arguments (map-Node Node Node (replaced arguments) (placed arguments y)))
layer arguments known (Node-F.Constant x) t o =
    subst (Becomes arguments (summary_step (Node-F.Constant x))) (sym (constant_is x)) (record { means = refl; inputs = refl; size = refl; typed = t })
layer arguments known (Node-F.Input i w) t o =
    let b = input_becomes arguments i w (node.Input i w) known (o 0 (record { index = i; width = w }) (omega arith)) in
    let third = b.2 in
    record {
      means = b.0;
      inputs = b.1 ∙ sym (append-nil (slice_index_or (map inputs arguments) i []));
      size = omega arith;
      typed = b.3;
    }
layer arguments known (Node-F.One op a) t o =
    subst (Becomes arguments (summary_step (Node-F.One op (summary a.0)))) (sym (one_is op (replaced arguments a.0)))
    (one_becomes arguments op (summary a.0) (summary (replaced arguments a.0)) (a.1 t o))
layer arguments known (Node-F.Two op a b) t o =
    let p = and_parts (typed a.0 && typed b.0) (two_widths_agree op (meaning a.0).width (meaning b.0).width) t in
    let q = and_parts (typed a.0) (typed b.0) p.0 in
    subst (Becomes arguments (summary_step (Node-F.Two op (summary a.0) (summary b.0)))) (sym (two_is op (replaced arguments a.0) (replaced arguments b.0)))
    (two_becomes arguments op (summary a.0) (summary b.0) (summary (replaced arguments a.0)) (summary (replaced arguments b.0)) p.1
    (a.1 q.0 (over_left (widths arguments) (inputs a.0) (inputs b.0) o))
    (b.1 q.1 (over_right (widths arguments) (inputs a.0) (inputs b.0) o)))
layer arguments known (Node-F.Choose c a b) t o =
    let p = and_parts (typed c.0 && typed a.0) (typed b.0 && (meaning a.0).width == (meaning b.0).width) t in
    let q = and_parts (typed c.0) (typed a.0) p.0 in
    let r = and_parts (typed b.0) ((meaning a.0).width == (meaning b.0).width) p.1 in
    let front = over_left (widths arguments) (inputs c.0 ++ inputs a.0) (inputs b.0) o in
    subst (Becomes arguments (summary_step (Node-F.Choose (summary c.0) (summary a.0) (summary b.0)))) (sym (choose_is (replaced arguments c.0) (replaced arguments a.0) (replaced arguments b.0)))
    (choose_becomes arguments (summary c.0) (summary a.0) (summary b.0) (summary (replaced arguments c.0)) (summary (replaced arguments a.0)) (summary (replaced arguments b.0))
    (eqb-true (meaning a.0).width (meaning b.0).width r.1)
    (c.1 q.0 (over_left (widths arguments) (inputs c.0) (inputs a.0) front))
    (a.1 q.1 (over_right (widths arguments) (inputs c.0) (inputs a.0) front))
    (b.1 r.0 (over_right (widths arguments) (inputs c.0 ++ inputs a.0) (inputs b.0) o)))
layer arguments known (Node-F.Join a b) t o =
    let p = and_parts (typed a.0 && typed b.0) (nat_le ((meaning a.0).width + (meaning b.0).width) 128) t in
    let q = and_parts (typed a.0) (typed b.0) p.0 in
    subst (Becomes arguments (summary_step (Node-F.Join (summary a.0) (summary b.0)))) (sym (join_is (replaced arguments a.0) (replaced arguments b.0)))
    (join_becomes arguments (summary a.0) (summary b.0) (summary (replaced arguments a.0)) (summary (replaced arguments b.0))
    (leb-true ((meaning a.0).width + (meaning b.0).width) 128 p.1)
    (a.1 q.0 (over_left (widths arguments) (inputs a.0) (inputs b.0) o))
    (b.1 q.1 (over_right (widths arguments) (inputs a.0) (inputs b.0) o)))
layer arguments known (Node-F.Part a high low) t o =
    let p = and_parts (typed a.0) (nat_le low high && nat_lt high (meaning a.0).width) t in
    subst (Becomes arguments (summary_step (Node-F.Part (summary a.0) high low))) (sym (part_is (replaced arguments a.0) high low))
    (part_becomes arguments (summary a.0) (summary (replaced arguments a.0)) high low p.1 (a.1 p.0 o))
layer arguments known (Node-F.Resize a w) t o =
    let p = and_parts (typed a.0) (is_width w) t in
    subst (Becomes arguments (summary_step (Node-F.Resize (summary a.0) w))) (sym (resize_is (replaced arguments a.0) w))
    (resize_becomes arguments (summary a.0) (summary (replaced arguments a.0)) w p.1 (a.1 p.0 o))
layer arguments known (Node-F.Lookup a entries w) t o =
    let p = and_parts (typed a.0 && is_width w) (nat_le (length entries) 256 && list_all (λ e. nat_lt e (2 ^ w)) entries) t in
    subst (Becomes arguments (summary_step (Node-F.Lookup (summary a.0) entries w))) (sym (lookup_is (replaced arguments a.0) entries w))
    (lookup_becomes arguments (summary a.0) (summary (replaced arguments a.0)) entries w t (a.1 (and_parts (typed a.0) (is_width w) p.0).0 o))
layer arguments known (Node-F.Repeat a n) t o =
    let p = and_parts (typed a.0) (nat_lt 0 n && nat_le ((meaning a.0).width * n) 128) t in
    subst (Becomes arguments (summary_step (Node-F.Repeat (summary a.0) n))) (sym (repeat_is (replaced arguments a.0) n))
    (repeat_becomes arguments (summary a.0) (summary (replaced arguments a.0)) n p.1 (a.1 p.0 o))
layer arguments known (Node-F.Select s arms) t o =
    let ss = before arguments arms in
    let many = length ss == 2 ^ (meaning s.0).width in
    let each = arms_typed (arm (arm_meanings ss) 0).width ss in
    let p = and_parts (typed s.0 && nat_le (meaning s.0).width 4) (many && each) t in
    let q = and_parts (typed s.0) (nat_le (meaning s.0).width 4) p.0 in
    let r = and_parts many each p.1 in
    subst (Becomes arguments (summary_step (Node-F.Select (summary s.0) ss))) (sym (select_is (replaced arguments s.0) (map (replaced arguments) (map (λ e. e.0) arms))))
    (select_becomes arguments (summary s.0) (summary (replaced arguments s.0)) ss (after arguments arms) q.1 r.0
    (s.1 q.0 (over_left (widths arguments) (inputs s.0) (arm_inputs ss) o))
    (arms_become arguments arms (arm (arm_meanings ss) 0).width r.1 (over_right (widths arguments) (inputs s.0) (arm_inputs ss) o)))
layer arguments known (Node-F.Mul a b s) t o =
    let factors = typed a.0 && typed b.0 in
    let flag = typed s.0 && (meaning s.0).width == 1 in
    let p = and_parts (factors && flag) (nat_le ((meaning a.0).width + (meaning b.0).width) 128) t in
    let q = and_parts factors flag p.0 in
    let f = and_parts (typed a.0) (typed b.0) q.0 in
    let g = and_parts (typed s.0) ((meaning s.0).width == 1) q.1 in
    let front = over_left (widths arguments) (inputs a.0 ++ inputs b.0) (inputs s.0) o in
    subst (Becomes arguments (summary_step (Node-F.Mul (summary a.0) (summary b.0) (summary s.0)))) (sym (mul_is (replaced arguments a.0) (replaced arguments b.0) (replaced arguments s.0)))
    (mul_becomes arguments (summary a.0) (summary b.0) (summary s.0) (summary (replaced arguments a.0)) (summary (replaced arguments b.0)) (summary (replaced arguments s.0))
    (eqb-true (meaning s.0).width 1 g.1)
    (leb-true ((meaning a.0).width + (meaning b.0).width) 128 p.1)
    (a.1 f.0 (over_left (widths arguments) (inputs a.0) (inputs b.0) front))
    (b.1 f.1 (over_right (widths arguments) (inputs a.0) (inputs b.0) front))
    (s.1 g.0 (over_right (widths arguments) (inputs a.0 ++ inputs b.0) (inputs s.0) o)))

-- a typed tree over typed arguments
pub replaced_becomes : (arguments : List Node) → IsTrue (list_all typed arguments) → (x : Node) → Claim arguments x
replaced_becomes arguments known = ind-Node (Claim arguments) (λ x y is.
    subst (λ z. Claim arguments (roll-Node z)) is
    (subst (λ (s : Summary). ClaimAt arguments s (replaced arguments (roll-Node (placed arguments y)))) (sym (fold-roll-Node Summary summary_step (placed arguments y)))
    (subst (ClaimAt arguments (summary_step (map-Node Node Summary summary (placed arguments y)))) (sym (fold-roll-Node Node (replaced_step arguments) (placed arguments y)))
    (layer arguments known y))))

-- the size as a difference
pub replaced_size : (arguments : List Node) (s r : Summary) → Becomes arguments s r → r.size ≡ substitute_size s.size s.inputs (map size arguments)
replaced_size arguments s r b = let e = b.size in omega arith

-- the same of what the code holds
pub node_becomes : (arguments : List Node) (self inside made : Node) → IsTrue (list_all typed arguments) → IsTrue (typed inside) → IsOver (widths arguments) (inputs self) → inside ≡ self → made ≡ replaced arguments inside → Becomes arguments (summary self) (summary made)
node_becomes arguments self inside made known t over is_self is_made =
    subst (λ (x : Node). Becomes arguments (summary self) (summary x)) (ap (replaced arguments) (sym is_self) ∙ sym is_made)
    (replaced_becomes arguments known self (subst (λ (x : Node). IsTrue (typed x)) is_self t) over)
