-- What is built for each form is the form in its size.
use Rattle.std.proofs.Common.{◌≡◌, ℕ, zero, suc, ◌+◌, ◌-◌, ◌*◌, ◌/◌, ◌%◌, ◌^◌, ◌<◌, Bool, true, false, List, [], ◌∷◌, drop, map, max, sum, slice_index, Option, Some, Result, unwrap_or, refl, sym, ap, subst, ◌∙◌, arith}
use Rattle.std.specs.Result.{IfOk}
use Rattle.std.proofs.Math.Nat.{div-one}
use Rattle.tie_expr.specs.Word.{Word}
use Rattle.tie_expr.specs.Meaning.{Meaning as Typed, arm, choose_meaning, part_meaning, repeat_meaning}
use Rattle.tie_expr.specs.Operators.{mul_value, part_value}
use Rattle.tie_expr.specs.Tree as typed
use Rattle.tie_expr.specs.declared.node.Node.{Node}
use Rattle.tie_grammar.specs.declared.symbol.Leaf.{Leaf}
use Rattle.tie_grammar.specs.declared.symbol.TieWord.{TieWord}
use Rattle.tie_grammar.specs.declared.symbol.TieFunction.{TieFunction}
use Rattle.tie_grammar.specs.declared.symbol.TieFunction.TheVariants as tie
use Rattle.tie_grammar.specs.declared.tree.Literal.{Literal}
use Rattle.tie_grammar.specs.declared.tree.UnaryOp.{UnaryOp}
use Rattle.tie_grammar.specs.declared.tree.Operator.{Operator}
use Rattle.tie_grammar.specs.declared.tree.Expr.{Expr}
use Rattle.tie_grammar.specs.declared.tree.Expr.TheVariants as tree
use Rattle.tie_mean.specs.Literals.{literal_value}
use Rattle.tie_mean.specs.Scope.{Widths}
use Rattle.tie_mean.specs.Sizes.{bounded, tie_size, greatest_size}
use Rattle.tie_mean.specs.Values.{Meaning, meaning, size, own, part_at, sizes_of, tie_value, concat_value, argument_values, unary_side, left_side, right_side, index_value}
use Rattle.tie_mean.proofs.Layers.{literal_is, name_is, select_is, index_is, call_is, tie_is, paren_is, concat_is, repeat_is, unary_is, binary_is, conditional_is}
use Rattle.tie_translate.specs.Translation.{Env, at_size, in_size, assigned_in, widened, constant_typed, name_typed, select_typed, bit_typed, lookup_typed, call_typed, unary_typed, binary_typed, own_typed, widths_of, concat_at, concat_typed, tie_typed, arguments_typed}
use Rattle.tie_translate.proofs.Built.{same_at}

pub meant : {E : Type 0} (r : Result Node E) (s t : Typed) → s ≡ t → IfOk r (λ e. typed.meaning e ≡ s) → IfOk r (λ e. typed.meaning e ≡ t)
meant r s t is h = subst (λ (m : Typed). IfOk r (λ e. typed.meaning e ≡ m)) is h

pub literal_form : (w : Widths) (env : Env) (n : ℕ) (x : Literal) → constant_typed n (literal_value x) ≡ in_size w env n (tree.Literal x)
literal_form w env n x = sym (ap (at_size env n) (literal_is w x))

pub name_form : (w : Widths) (env : Env) (n : ℕ) (name : Leaf) (s : Typed) → s ≡ name_typed w env name.bytes → widened s n ≡ in_size w env n (tree.Name name)
name_form w env n name s is_s = ap (λ (m : Typed). widened m n) is_s ∙ sym (ap (at_size env n) (name_is w name))

pub select_form : (w : Widths) (env : Env) (n : ℕ) (name h l : Leaf) (s : Typed) → s ≡ select_typed env name.bytes (bounded h) (bounded l) → widened s n ≡ in_size w env n (tree.Select name h l)
select_form w env n name h l s is_s = ap (λ (m : Typed). widened m n) is_s ∙ sym (ap (at_size env n) (select_is w name h l))

pub paren_form : (w : Widths) (env : Env) (n p : ℕ) (y : Expr) → in_size w env n y ≡ in_size w env n (tree.Paren p y)
paren_form w env n p y = sym (ap (at_size env n) (paren_is w p y))

pub unary_form : (w : Widths) (env : Env) (n : ℕ) (o : UnaryOp) (y : Expr) (s k : ℕ) (t : Typed) → s ≡ size w y → k ≡ unary_side o n s → t ≡ in_size w env k y
    → unary_typed o n t.width t ≡ in_size w env n (tree.Unary o 0 y)
unary_form w env n o y s k t is_s is_k is_t =
    let operand : t ≡ in_size w env (unary_side o n (size w y)) y = is_t ∙ ap (λ j. in_size w env j y) (is_k ∙ ap (unary_side o n) is_s) in
    ap (λ (m : Typed). unary_typed o n m.width m) operand ∙ sym (ap (at_size env n) (unary_is w o 0 y))

pub binary_form : (w : Widths) (env : Env) (n : ℕ) (o : Operator) (a b : Expr) (s t l r : ℕ) (p q : Typed) → s ≡ size w a → t ≡ size w b → l ≡ left_side o.op n s t → r ≡ right_side o.op n s t
    → p ≡ in_size w env l a → q ≡ in_size w env r b → binary_typed o.op n p q ≡ in_size w env n (tree.Binary o a b)
binary_form w env n o a b s t l r p q is_s is_t is_l is_r is_p is_q =
    let left : l ≡ left_side o.op n (size w a) (size w b) = is_l ∙ ap (λ k. left_side o.op n k t) is_s ∙ ap (λ k. left_side o.op n (size w a) k) is_t in
    let right : r ≡ right_side o.op n (size w a) (size w b) = is_r ∙ ap (λ k. right_side o.op n k t) is_s ∙ ap (λ k. right_side o.op n (size w a) k) is_t in
    let pa : p ≡ in_size w env (left_side o.op n (size w a) (size w b)) a = is_p ∙ ap (λ j. in_size w env j a) left in
    let qb : q ≡ in_size w env (right_side o.op n (size w a) (size w b)) b = is_q ∙ ap (λ j. in_size w env j b) right in
    ap (λ (m : Typed). binary_typed o.op n m q) pa ∙ ap (λ (m : Typed). binary_typed o.op n (in_size w env (left_side o.op n (size w a) (size w b)) a) m) qb
    ∙ sym (ap (at_size env n) (binary_is w o a b))

own_size : (w : Widths) (env : Env) (y : Expr) (k : ℕ) (t : Typed) → k ≡ size w y → t ≡ in_size w env k y → t ≡ in_size w env (size w y) y
own_size w env y k t is_k is_t = is_t ∙ ap (λ j. in_size w env j y) is_k

pub conditional_form : (w : Widths) (env : Env) (n : ℕ) (c a b : Expr) (k : ℕ) (r p q : Typed) → k ≡ size w c → r ≡ in_size w env k c → p ≡ in_size w env n a → q ≡ in_size w env n b
    → choose_meaning r p q ≡ in_size w env n (tree.Conditional c a b)
conditional_form w env n c a b k r p q is_k is_r is_p is_q =
    ap (λ (m : Typed). choose_meaning m p q) (own_size w env c k r is_k is_r) ∙ ap (λ (m : Typed). choose_meaning (in_size w env (size w c) c) m q) is_p
    ∙ ap (λ (m : Typed). choose_meaning (in_size w env (size w c) c) (in_size w env n a) m) is_q
    ∙ sym (ap (at_size env n) (conditional_is w c a b))

swapped : (a b : ℕ) → a * b ≡ b * a
swapped a b = grind arith

pub repeat_width : (w : Widths) (env : Env) (n : Leaf) (y : Expr) (k c : ℕ) (t : Typed) → k ≡ size w y → t ≡ in_size w env k y → c ≡ bounded n → t.width * c ≡ size w (tree.Repeat 0 n 0 y)
repeat_width w env n y k c t is_k is_t is_c =
    ap (λ (m : Typed). m.width * c) (own_size w env y k t is_k is_t) ∙ ap (λ j. size w y * j) is_c ∙ swapped (size w y) (bounded n)
    ∙ sym (ap (λ (m : Meaning). m.size) (repeat_is w 0 n 0 y))

pub repeat_form : (w : Widths) (env : Env) (s : ℕ) (n : Leaf) (y : Expr) (k c : ℕ) (t all : Typed) → k ≡ size w y → t ≡ in_size w env k y → c ≡ bounded n → all ≡ repeat_meaning t c
    → widened all s ≡ in_size w env s (tree.Repeat 0 n 0 y)
repeat_form w env s n y k c t all is_k is_t is_c is_all =
    ap (λ (m : Typed). widened m s) (is_all ∙ ap (λ (m : Typed). repeat_meaning m c) (own_size w env y k t is_k is_t) ∙ ap (repeat_meaning (in_size w env (size w y) y)) is_c)
    ∙ sym (ap (at_size env s) (repeat_is w 0 n 0 y))

pub entry_form : (w : Widths) (env : Env) (n : ℕ) (name : Leaf) (y : Expr) (k : ℕ) (t e : Typed) → k ≡ size w y → t ≡ in_size w env k y → e ≡ lookup_typed w env name.bytes t → w.is_table name.bytes ≡ true
    → widened e n ≡ in_size w env n (tree.Index name y)
entry_form w env n name y k t e is_k is_t is_e table =
    let make : Bool → Typed = λ b. record { width = n; at = λ inputs. index_value b (env inputs) name (meaning w y) } in
    ap (λ (m : Typed). widened m n) (is_e ∙ ap (lookup_typed w env name.bytes) (own_size w env y k t is_k is_t)) ∙ ap make (sym table)
    ∙ sym (ap (at_size env n) (index_is w name y))

pub bit_form : (w : Widths) (env : Env) (n : ℕ) (name : Leaf) (y : Expr) (at : ℕ) (e : Typed) → Some at ≡ (meaning w y).number → e ≡ bit_typed env name.bytes at → w.is_table name.bytes ≡ false
    → widened e n ≡ in_size w env n (tree.Index name y)
bit_form w env n name y at e is_at is_e table =
    let make : Bool → Typed = λ b. record { width = n; at = λ inputs. index_value b (env inputs) name (meaning w y) } in
    let bits : Option ℕ → Typed = λ o. record { width = n; at = λ inputs. part_value ((env inputs).name name.bytes) (unwrap_or o 0) (unwrap_or o 0) } in
    ap (λ (m : Typed). widened m n) is_e ∙ ap bits is_at ∙ ap make (sym table) ∙ sym (ap (at_size env n) (index_is w name y))

-- ---- assignments

low_bits : (v w k : ℕ) → k ≡ w → v / 2 ^ 0 % 2 ^ k ≡ v % 2 ^ w
low_bits v w k e = ap (λ j. v / 2 ^ 0 % 2 ^ j) e ∙ ap (λ q. q % 2 ^ w) (div-one v)

pub assigned_form : (w : Widths) (env : Env) (width : ℕ) (x : Expr) (s n : ℕ) (t : Typed) → 0 < width → s ≡ size w x → n ≡ max s width → t ≡ in_size w env n x → part_meaning t (width - 1) 0 ≡ assigned_in w env width x
assigned_form w env width x s n t low is_s is_n is_t =
    let whole : t ≡ in_size w env (max (size w x) width) x = is_t ∙ ap (λ k. in_size w env k x) (is_n ∙ ap (λ k. max k width) is_s) in
    let back : width - 1 - 0 + 1 ≡ width = omega arith in
    let f = λ (inputs : List Word). (meaning w x).at (env inputs) (max (size w x) width) in
    let resized : (k : ℕ) → k ≡ width → (let m : Typed = record { width = k; at = λ inputs. f inputs % 2 ^ width } in m) ≡ assigned_in w env width x =
    λ k e. ap (λ j. let m : Typed = record { width = j; at = λ inputs. f inputs % 2 ^ width } in m) e in
    ap (λ (m : Typed). part_meaning m (width - 1) 0) whole
    ∙ same_at (width - 1 - 0 + 1) (λ inputs. f inputs / 2 ^ 0 % 2 ^ (width - 1 - 0 + 1)) (λ inputs. f inputs % 2 ^ width) (λ inputs. low_bits (f inputs) width (width - 1 - 0 + 1) back)
    ∙ resized (width - 1 - 0 + 1) back

-- ---- lists

pub own_widths : (env : Env) (ms : List Meaning) → widths_of (map (own_typed env) ms) ≡ sizes_of ms
own_widths env [] = refl
own_widths env (m ∷ ms) = ap (λ ns. m.size ∷ ns) (own_widths env ms)

own_concat : (env : Env) (ms : List Meaning) (inputs : List Word) → concat_at inputs (map (own_typed env) ms) ≡ concat_value (env inputs) ms
own_concat env [] inputs = refl
own_concat env (m ∷ ms) inputs =
    ap (λ ns. m.at (env inputs) m.size * 2 ^ sum ns + concat_at inputs (map (own_typed env) ms)) (own_widths env ms)
    ∙ ap (λ v. m.at (env inputs) m.size * 2 ^ sum (sizes_of ms) + v) (own_concat env ms inputs)

pub concat_form : (w : Widths) (env : Env) (n : ℕ) (xs : List Expr) (ts : List Typed) (all : Typed) → ts ≡ map (own_typed env) (map (meaning w) xs) → all ≡ concat_typed ts → widened all n ≡ in_size w env n (tree.Concat 0 xs)
concat_form w env n xs ts all is_ts is_all =
    ap (λ (m : Typed). widened m n) (is_all ∙ ap concat_typed is_ts)
    ∙ same_at n (λ inputs. concat_at inputs (map (own_typed env) (map (meaning w) xs))) (λ inputs. concat_value (env inputs) (map (meaning w) xs)) (own_concat env (map (meaning w) xs))
    ∙ sym (ap (at_size env n) (concat_is w 0 xs))

-- the part of a number, in its own size
pub arm_value : (env : Env) (ms : List Meaning) (k : ℕ) (i : List Word) → (arm (map (own_typed env) ms) k).at i ≡ own (env i) (part_at ms k)
arm_value env [] k i = refl
arm_value env (m ∷ ms) zero i = refl
arm_value env (m ∷ ms) (suc k) i = arm_value env ms k i

pub arm_width : (env : Env) (ms : List Meaning) (k : ℕ) → (arm (map (own_typed env) ms) k).width ≡ (part_at ms k).size
arm_width env [] k = refl
arm_width env (m ∷ ms) zero = refl
arm_width env (m ∷ ms) (suc k) = arm_width env ms k

size_at : (ms : List Meaning) (k : ℕ) → (part_at ms k).size ≡ slice_index (sizes_of ms) k
size_at [] k = refl
size_at (m ∷ ms) zero = refl
size_at (m ∷ ms) (suc k) = size_at ms k

drop_own : (env : Env) (ms : List Meaning) → drop 1 (map (own_typed env) ms) ≡ map (own_typed env) (drop 1 ms)
drop_own env [] = refl
drop_own env (m ∷ ms) = refl

drop_sizes : (ms : List Meaning) → sizes_of (drop 1 ms) ≡ drop 1 (sizes_of ms)
drop_sizes [] = refl
drop_sizes (m ∷ ms) = refl

add_values : (env : Env) (ms : List Meaning) (i : List Word) → (tie_typed tie.Add (map (own_typed env) ms)).at i ≡ tie_value tie.Add (env i) ms
add_values env ms i =
    let a = arm_value env ms 0 i in
    let b = arm_value env ms 1 i in
    let c = arm_value env ms 2 i in
    let v = arm_width env ms 0 ∙ size_at ms 0 in
    let w = arm_width env ms 1 ∙ size_at ms 1 in
    let total = ap (λ x. x + (arm (map (own_typed env) ms) 1).at i + (arm (map (own_typed env) ms) 2).at i) a ∙ ap (λ x. own (env i) (part_at ms 0) + x + (arm (map (own_typed env) ms) 2).at i) b
    ∙ ap (λ x. own (env i) (part_at ms 0) + own (env i) (part_at ms 1) + x) c in
    let width = ap (λ x. max x (arm (map (own_typed env) ms) 1).width) v ∙ ap (λ x. max (slice_index (sizes_of ms) 0) x) w in
    ap (λ x. x % 2 ^ max (arm (map (own_typed env) ms) 0).width (arm (map (own_typed env) ms) 1).width) total ∙ ap (λ k. (own (env i) (part_at ms 0) + own (env i) (part_at ms 1) + own (env i) (part_at ms 2)) % 2 ^ k) width

mul_values : (env : Env) (ms : List Meaning) (i : List Word) → (tie_typed tie.Mul (map (own_typed env) ms)).at i ≡ tie_value tie.Mul (env i) ms
mul_values env ms i =
    let t : ℕ → Typed = λ k. arm (map (own_typed env) ms) k in
    let v = arm_width env ms 0 in
    let w = arm_width env ms 1 in
    let a = arm_value env ms 0 i in
    let b = arm_value env ms 1 i in
    let c = arm_value env ms 2 i in
    ap (λ x. mul_value x ((t 0).at i) (t 1).width ((t 1).at i) ((t 2).at i)) v
    ∙ ap (λ x. mul_value (part_at ms 0).size x (t 1).width ((t 1).at i) ((t 2).at i)) a
    ∙ ap (λ x. mul_value (part_at ms 0).size (own (env i) (part_at ms 0)) x ((t 1).at i) ((t 2).at i)) w
    ∙ ap (λ x. mul_value (part_at ms 0).size (own (env i) (part_at ms 0)) (part_at ms 1).size x ((t 2).at i)) b
    ∙ ap (λ x. mul_value (part_at ms 0).size (own (env i) (part_at ms 0)) (part_at ms 1).size (own (env i) (part_at ms 1)) x) c

mux_values : (env : Env) (ms : List Meaning) (i : List Word) → (tie_typed tie.Mux (map (own_typed env) ms)).at i ≡ tie_value tie.Mux (env i) ms
mux_values env ms i =
    ap (λ (ts : List Typed). (arm ts ((arm (map (own_typed env) ms) 0).at i)).at i) (drop_own env ms)
    ∙ ap (λ k. (arm (map (own_typed env) (drop 1 ms)) k).at i) (arm_value env ms 0 i)
    ∙ arm_value env (drop 1 ms) (own (env i) (part_at ms 0)) i

tie_values : (o : TieFunction) (env : Env) (ms : List Meaning) (i : List Word) → (tie_typed o (map (own_typed env) ms)).at i ≡ tie_value o (env i) ms
tie_values tie.Add env ms i = add_values env ms i
tie_values tie.Mul env ms i = mul_values env ms i
tie_values tie.Mux env ms i = mux_values env ms i

pub tie_width : (o : TieFunction) (env : Env) (ms : List Meaning) → (tie_typed o (map (own_typed env) ms)).width ≡ tie_size o (sizes_of ms)
tie_width tie.Add env ms = omega (arith, arm_width env ms 0, size_at ms 0, arm_width env ms 1, size_at ms 1)
tie_width tie.Mul env ms = omega (arith, arm_width env ms 0, size_at ms 0, arm_width env ms 1, size_at ms 1)
tie_width tie.Mux env ms = ap (λ (ts : List Typed). greatest_size (widths_of ts)) (drop_own env ms) ∙ ap greatest_size (own_widths env (drop 1 ms) ∙ drop_sizes ms)

pub tie_form : (w : Widths) (env : Env) (n : ℕ) (o : TieWord) (xs : List Expr) (ts : List Typed) (all : Typed) → ts ≡ map (own_typed env) (map (meaning w) xs) → all ≡ tie_typed o.function ts → widened all n ≡ in_size w env n (tree.Tie o 0 xs)
tie_form w env n o xs ts all is_ts is_all =
    ap (λ (m : Typed). widened m n) (is_all ∙ ap (tie_typed o.function) is_ts)
    ∙ same_at n (tie_typed o.function (map (own_typed env) (map (meaning w) xs))).at (λ inputs. tie_value o.function (env inputs) (map (meaning w) xs)) (tie_values o.function env (map (meaning w) xs))
    ∙ sym (ap (at_size env n) (tie_is w o 0 xs))

-- ---- calls

argument_at : (env : Env) (ws : List ℕ) (ms : List Meaning) (i : List Word) → map (λ (a : Typed). a.at i) (arguments_typed env ws ms) ≡ argument_values (env i) ws ms
argument_at env [] ms i = refl
argument_at env (w ∷ ws) [] i = refl
argument_at env (w ∷ ws) (m ∷ ms) i = ap (λ vs. m.at (env i) (max m.size w) % 2 ^ w ∷ vs) (argument_at env ws ms i)

pub call_form : (w : Widths) (env : Env) (n : ℕ) (name : Leaf) (xs : List Expr) (ts : List Typed) (all : Typed) → ts ≡ arguments_typed env (w.parameters name.bytes) (map (meaning w) xs) → all ≡ call_typed w env name.bytes ts
    → widened all n ≡ in_size w env n (tree.Call name 0 xs)
call_form w env n name xs ts all is_ts is_all =
    let ws = w.parameters name.bytes in
    let ms = map (meaning w) xs in
    ap (λ (m : Typed). widened m n) (is_all ∙ ap (call_typed w env name.bytes) is_ts)
    ∙ same_at n (λ inputs. (env inputs).call name.bytes (map (λ (a : Typed). a.at inputs) (arguments_typed env ws ms))) (λ inputs. (env inputs).call name.bytes (argument_values (env inputs) ws ms))
    (λ inputs. ap ((env inputs).call name.bytes) (argument_at env ws ms inputs))
    ∙ sym (ap (at_size env n) (call_is w name 0 xs))
