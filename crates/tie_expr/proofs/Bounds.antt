-- The value of a typed tree is below the power of its width, for each environment.
use Rattle.std.proofs.Common.{◌≡◌, ℕ, zero, suc, ◌+◌, ◌-◌, ◌*◌, ◌/◌, ◌%◌, ◌^◌, ◌<◌, Bool, true, false, ◌&&◌, ◌==◌, if◌then◌else◌, nat_lt, nat_le, ℤ, pos, negsuc, IsTrue, List, [], ◌∷◌, length, map, refl, sym, subst, ◌∙◌, arith}
use Rattle.std.specs.List.{All}
use Rattle.std.proofs.lemmas.Bool.{and_parts, eqb-true, leb-true, ltb-true}
use Rattle.std.proofs.lemmas.List.{length-map}
use Rattle.std.proofs.lemmas.Nat.{pow_pos, mod_below, and_le_l, or_lt, xor_lt, shr_le}
use Rattle.tie_expr.specs.Word.{Word}
use Rattle.tie_expr.specs.Operators.{bit, one_width, one_value, two_widths_agree, two_width, two_value, resize_value, lookup_value, modulo_power, mul_value}
use Rattle.tie_expr.specs.Meaning.{arm}
use Rattle.tie_expr.specs.Tree.{Summary, summary, summary_step, typed, meaning, arms_typed, arm_meanings, is_width}
use Rattle.tie_expr.specs.declared.ops.Op1.{Op1}
use Rattle.tie_expr.specs.declared.ops.Op1.TheVariants as one
use Rattle.tie_expr.specs.declared.ops.Op2.{Op2}
use Rattle.tie_expr.specs.declared.ops.Op2.TheVariants as two
use Rattle.tie_expr.specs.declared.node.Node.{Node}
use Rattle.tie_expr.specs.declared.node.Node.TheViews.{roll-Node}
use Rattle.tie_expr.specs.declared.node.Node.TheOpen.{Node-F}
use Rattle.tie_expr.specs.declared.node.Node.TheFolds.{map-Node, fold-roll-Node, ind-Node}
use Rattle.tie_expr.proofs.Masks.{wider, join_below, repeat_fits}
use Rattle.tie_expr.proofs.Typed.{lookup_fits}

-- ---- the operators
either_below : (t : Bool) (x y n : ℕ) → x < n → y < n → (if t then x else y) < n
either_below true x y n p q = p
either_below false x y n p q = q

bit_below : (b : Bool) → bit b < 2
bit_below true = omega arith
bit_below false = omega arith

one_below : (op : Op1) (w a : ℕ) → one_value op w a < 2 ^ one_width op w
one_below one.Not w a = let some = pow_pos w in omega arith
one_below one.IsZero w a = bit_below (a == 0)
one_below one.AndAll w a = bit_below (a == 2 ^ w - 1)
one_below one.OrAll w a = bit_below (nat_lt 0 a)
one_below one.XorAll w a = mod_below _ 2 (omega arith)

two_below : (op : Op2) (w v a b : ℕ) → IsTrue (two_widths_agree op w v) → a < 2 ^ w → b < 2 ^ v → two_value op w a b < 2 ^ two_width op w
two_below two.Add w v a b g p q = mod_below (a + b) (2 ^ w) (pow_pos w)
two_below two.Sub w v a b g p q = mod_below (a + 2 ^ w - b) (2 ^ w) (pow_pos w)
two_below two.Mul w v a b g p q = mod_below (a * b) (2 ^ w) (pow_pos w)
two_below two.And w v a b g p q = let less = and_le_l a b in omega arith
two_below two.Or w v a b g p q = or_lt w a b p (subst (λ n. b < 2 ^ n) (sym (eqb-true w v g)) q)
two_below two.Xor w v a b g p q = xor_lt w a b p (subst (λ n. b < 2 ^ n) (sym (eqb-true w v g)) q)
two_below two.Eq w v a b g p q = bit_below (a == b)
two_below two.Lt w v a b g p q = bit_below (nat_lt a b)
two_below two.Shl w v a b g p q = either_below (nat_le w b) 0 ((a * 2 ^ b) % 2 ^ w) (2 ^ w) (pow_pos w) (mod_below (a * 2 ^ b) (2 ^ w) (pow_pos w))
two_below two.Shr w v a b g p q = either_below (nat_le w b) 0 (a / 2 ^ b) (2 ^ w) (pow_pos w) (let less = shr_le a b in omega arith)

resize_below : (v a w : ℕ) → a < 2 ^ v → resize_value v a w < 2 ^ w
resize_below v a w p = either (nat_le v w) refl
  where
    either : (t : Bool) → nat_le v w ≡ t → (if t then a else a % 2 ^ w) < 2 ^ w
    either true fits = wider a v w p (leb-true v w fits)
    either false fits = mod_below a (2 ^ w) (pow_pos w)

lookup_below : (entries : List ℕ) (n k : ℕ) → 0 < n → All (λ x. x < n) entries → lookup_value entries k < n
lookup_below [] n k some fit = some
lookup_below (x ∷ entries) n zero some fit = fit 0 x (omega arith)
lookup_below (x ∷ entries) n (suc k) some fit = lookup_below entries n k some (λ i d h. fit (suc i) d (omega arith))

modulo_below : (z : ℤ) (w : ℕ) → modulo_power z w < 2 ^ w
modulo_below (pos a) w = mod_below a (2 ^ w) (pow_pos w)
modulo_below (negsuc a) w = let some = pow_pos w in let h : 2 ^ w - 1 - a % 2 ^ w < 2 ^ w = omega arith in h

mul_below : (w a v b s : ℕ) → mul_value w a v b s < 2 ^ (w + v)
mul_below w a v b s = either_below (s == 1) _ _ (2 ^ (w + v)) (modulo_below _ (w + v)) (mod_below (a * b) (2 ^ (w + v)) (pow_pos (w + v)))

-- ---- one layer
abbrev pub Bounded : Summary → Type 0
Bounded s = IsTrue s.typed → (env : List Word) → s.meaning.at env < 2 ^ s.meaning.width

abbrev pub Known : Type 0
Known = (x : Node) × Bounded (summary x)

abbrev pub known : List Known → List Summary
known arms = map summary (map (λ e. e.0) arms)

arms_below : (arms : List Known) (w n : ℕ) (env : List Word) → n < length arms → IsTrue (arms_typed w (known arms)) → (arm (arm_meanings (known arms)) n).at env < 2 ^ w
arms_below [] w n env h t = absurd (omega arith)
arms_below (a ∷ arms) w zero env h t =
    let p = and_parts (typed a.0 && (meaning a.0).width == w) (arms_typed w (known arms)) t in
    let q = and_parts (typed a.0) ((meaning a.0).width == w) p.0 in
    subst (λ n. (meaning a.0).at env < 2 ^ n) (eqb-true (meaning a.0).width w q.1) (a.1 q.0 env)
arms_below (a ∷ arms) w (suc n) env h t =
    arms_below arms w n env (omega arith) (and_parts (typed a.0 && (meaning a.0).width == w) (arms_typed w (known arms)) t).1

select_below : (s : Summary) (arms : List Known) → Bounded s → Bounded (summary_step (Node-F.Select s (known arms)))
select_below s arms p t env =
    let w = (arm (arm_meanings (known arms)) 0).width in
    let many = length (known arms) == 2 ^ s.meaning.width in
    let q = and_parts (s.typed && nat_le s.meaning.width 4) (many && arms_typed w (known arms)) t in
    let r = and_parts many (arms_typed w (known arms)) q.1 in
    let below = p (and_parts s.typed (nat_le s.meaning.width 4) q.0).0 env in
    let count : length (known arms) ≡ length arms = length-map (map (λ e. e.0) arms) summary ∙ length-map arms (λ e. e.0) in
    let many_is = eqb-true (length (known arms)) (2 ^ s.meaning.width) r.0 in
    let within : s.meaning.at env < length arms = omega arith in
    arms_below arms w (s.meaning.at env) env within r.1

layer : (y : Node-F Known) → Bounded (summary_step (map-Node Node Summary summary (map-Node Known Node (λ e. e.0) y)))
layer (Node-F.Constant x) t env = ltb-true x.value (2 ^ x.width) (and_parts (is_width x.width) (nat_lt x.value (2 ^ x.width)) t).1
layer (Node-F.Input i w) t env = mod_below _ (2 ^ w) (pow_pos w)
layer (Node-F.One op a) t env = one_below op (meaning a.0).width ((meaning a.0).at env)
layer (Node-F.Two op a b) t env =
    let agree = two_widths_agree op (meaning a.0).width (meaning b.0).width in
    let p = and_parts (typed a.0 && typed b.0) agree t in
    let q = and_parts (typed a.0) (typed b.0) p.0 in
    two_below op (meaning a.0).width (meaning b.0).width ((meaning a.0).at env) ((meaning b.0).at env) p.1 (a.1 q.0 env) (b.1 q.1 env)
layer (Node-F.Choose c a b) t env =
    let same = (meaning a.0).width == (meaning b.0).width in
    let p = and_parts (typed c.0 && typed a.0) (typed b.0 && same) t in
    let q = and_parts (typed b.0) same p.1 in
    let w = eqb-true (meaning a.0).width (meaning b.0).width q.1 in
    either_below ((meaning c.0).at env == 0) ((meaning b.0).at env) ((meaning a.0).at env) (2 ^ (meaning a.0).width)
    (subst (λ n. (meaning b.0).at env < 2 ^ n) (sym w) (b.1 q.0 env))
    (a.1 (and_parts (typed c.0) (typed a.0) p.0).1 env)
layer (Node-F.Join a b) t env =
    let p = and_parts (typed a.0 && typed b.0) (nat_le ((meaning a.0).width + (meaning b.0).width) 128) t in
    let q = and_parts (typed a.0) (typed b.0) p.0 in
    join_below ((meaning a.0).at env) ((meaning b.0).at env) (meaning a.0).width (meaning b.0).width (a.1 q.0 env) (b.1 q.1 env)
layer (Node-F.Part a high low) t env = mod_below _ (2 ^ (high - low + 1)) (pow_pos (high - low + 1))
layer (Node-F.Resize a w) t env = resize_below (meaning a.0).width ((meaning a.0).at env) w (a.1 (and_parts (typed a.0) (is_width w) t).0 env)
layer (Node-F.Lookup a entries w) t env = lookup_below entries (2 ^ w) ((meaning a.0).at env) (pow_pos w) (lookup_fits (summary a.0) entries w t)
layer (Node-F.Repeat a n) t env = repeat_fits (meaning a.0).width ((meaning a.0).at env) n (a.1 (and_parts (typed a.0) (nat_lt 0 n && nat_le ((meaning a.0).width * n) 128) t).0 env)
layer (Node-F.Select s arms) t env = select_below (summary s.0) arms s.1 t env
layer (Node-F.Mul a b s) t env = mul_below (meaning a.0).width ((meaning a.0).at env) (meaning b.0).width ((meaning b.0).at env) ((meaning s.0).at env)

pub bounded : (x : Node) → IsTrue (typed x) → (env : List Word) → (meaning x).at env < 2 ^ (meaning x).width
bounded = ind-Node (λ x. Bounded (summary x)) (λ x y is.
    subst (λ z. Bounded (summary (roll-Node z))) is
    (subst Bounded (sym (fold-roll-Node Summary summary_step (map-Node Known Node (λ e. e.0) y))) (layer y)))
