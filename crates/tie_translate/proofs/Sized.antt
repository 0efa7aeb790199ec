-- The parts of a sized form are sized, and go together.
use Rattle.std.proofs.Common.{◌≡◌, suc, ◌+◌, ◌^◌, ◌≤◌, Bool, true, false, ◌&&◌, IsTrue, if◌then◌else◌, List, [], ◌∷◌, length, map, refl, sym, ap, subst, ◌∙◌, arith}
use Rattle.std.proofs.lemmas.Bool.{and_parts, leb-true, eqb-true}
use Rattle.tie_expr.specs.Meaning.{Meaning as Typed}
use Rattle.tie_grammar.specs.declared.symbol.Leaf.{Leaf}
use Rattle.tie_grammar.specs.declared.symbol.TieWord.{TieWord}
use Rattle.tie_grammar.specs.declared.symbol.TieFunction.{TieFunction}
use Rattle.tie_grammar.specs.declared.symbol.TieFunction.TheVariants as tie
use Rattle.tie_grammar.specs.declared.tree.UnaryOp.{UnaryOp}
use Rattle.tie_grammar.specs.declared.tree.Operator.{Operator}
use Rattle.tie_grammar.specs.declared.tree.Expr.{Expr}
use Rattle.tie_grammar.specs.declared.tree.Expr.TheVariants as tree
use Rattle.tie_mean.specs.Literals.{is_width}
use Rattle.tie_mean.specs.Scope.{Widths}
use Rattle.tie_mean.specs.Sizes.{bounded, tie_size}
use Rattle.tie_mean.specs.Values.{Meaning, meaning, part_at, sizes_of, all_sized, arguments_sized, tie_sized, select_sized, bit_sized, index_sized}
use Rattle.tie_mean.proofs.Layers.{select_is, index_is, call_is, tie_is, concat_is, repeat_is, unary_is, binary_is, conditional_is}
use Rattle.tie_translate.specs.Translation.{Env, own_typed, TieFits}
use Rattle.tie_translate.proofs.Meant.{arm_width, tie_width}

pub record Both (a b : Bool) : Type 0 where
  pub first : IsTrue a
  pub second : IsTrue b

pub both : (a b : Bool) → IsTrue (a && b) → Both a b
both a b h = let p = and_parts a b h in record { first = p.0; second = p.1 }

pub sized_at : (m k : Meaning) → m ≡ k → IsTrue m.sized → IsTrue k.sized
sized_at m k e h = let P : Meaning → Type 0 = λ x. IsTrue x.sized in subst P e h

pub select_parts : (w : Widths) (n h l : Leaf) → IsTrue (meaning w (tree.Select n h l)).sized → IsTrue (select_sized (w.name n.bytes) (bounded h) (bounded l))
select_parts w n h l s = (both _ _ (sized_at _ _ (select_is w n h l) s)).second

pub repeat_part : (w : Widths) (n : Leaf) (y : Expr) → IsTrue (meaning w (tree.Repeat 0 n 0 y)).sized → IsTrue (meaning w y).sized
repeat_part w n y s = (both _ _ (sized_at _ _ (repeat_is w 0 n 0 y) s)).second

pub unary_part : (w : Widths) (o : UnaryOp) (y : Expr) → IsTrue (meaning w (tree.Unary o 0 y)).sized → IsTrue (meaning w y).sized
unary_part w o y s = (both _ _ (sized_at _ _ (unary_is w o 0 y) s)).second

pub binary_parts : (w : Widths) (o : Operator) (y z : Expr) → IsTrue (meaning w (tree.Binary o y z)).sized → Both (meaning w y).sized (meaning w z).sized
binary_parts w o y z s = both _ _ (both _ _ (sized_at _ _ (binary_is w o y z) s)).second

pub condition_part : (w : Widths) (c y z : Expr) → IsTrue (meaning w (tree.Conditional c y z)).sized → IsTrue (meaning w c).sized
condition_part w c y z s = (both _ _ (both _ _ (sized_at _ _ (conditional_is w c y z) s)).second).first

pub choice_parts : (w : Widths) (c y z : Expr) → IsTrue (meaning w (tree.Conditional c y z)).sized → Both (meaning w y).sized (meaning w z).sized
choice_parts w c y z s = both _ _ (both _ _ (both _ _ (sized_at _ _ (conditional_is w c y z) s)).second).second

pub concat_parts : (w : Widths) (xs : List Expr) → IsTrue (meaning w (tree.Concat 0 xs)).sized → IsTrue (all_sized (map (meaning w) xs))
concat_parts w xs s = (both _ _ (sized_at _ _ (concat_is w 0 xs) s)).second

tie_parts : (w : Widths) (o : TieWord) (xs : List Expr) → IsTrue (meaning w (tree.Tie o 0 xs)).sized → Both (is_width (tie_size o.function (sizes_of (map (meaning w) xs)))) (tie_sized o.function (map (meaning w) xs))
tie_parts w o xs s = both _ _ (sized_at _ _ (tie_is w o 0 xs) s)

all_of : (f : TieFunction) (ms : List Meaning) → IsTrue (tie_sized f ms) → IsTrue (all_sized ms)
all_of tie.Add ms h = (both _ _ h).first
all_of tie.Mul ms h = (both _ _ h).first
all_of tie.Mux ms h = (both _ _ h).first

pub tie_arguments : (w : Widths) (o : TieWord) (xs : List Expr) → IsTrue (meaning w (tree.Tie o 0 xs)).sized → IsTrue (all_sized (map (meaning w) xs))
tie_arguments w o xs s = all_of o.function (map (meaning w) xs) (tie_parts w o xs s).second

own_length : (env : Env) (ms : List Meaning) → length (map (own_typed env) ms) ≡ length ms
own_length env [] = refl
own_length env (m ∷ ms) = ap suc (own_length env ms)

fits : (f : TieFunction) (env : Env) (ms : List Meaning) → tie_size f (sizes_of ms) ≤ 128 → IsTrue (tie_sized f ms) → TieFits f (map (own_typed env) ms)
fits tie.Add env ms most h =
    let p = both _ _ (both (all_sized ms) _ h).second in
    (own_length env ms ∙ eqb-true _ _ p.first, arm_width env ms 2 ∙ eqb-true _ _ p.second)
fits tie.Mul env ms most h =
    let p = both _ _ (both (all_sized ms) _ h).second in
    (own_length env ms ∙ eqb-true _ _ p.first, arm_width env ms 2 ∙ eqb-true _ _ p.second, (let e = tie_width tie.Mul env ms in omega (arith, e, most)))
fits tie.Mux env ms most h =
    let p = both _ _ (both (all_sized ms) _ h).second in
    let w = arm_width env ms 0 in
    let few : (part_at ms 0).size ≤ 4 = leb-true (part_at ms 0).size 4 p.first in
    (omega (arith, few, w), own_length env ms ∙ eqb-true _ _ p.second ∙ ap (λ k. 2 ^ k + 1) (sym w))

pub tie_fits : (w : Widths) (env : Env) (o : TieWord) (xs : List Expr) (ts : List Typed) → IsTrue (meaning w (tree.Tie o 0 xs)).sized → ts ≡ map (own_typed env) (map (meaning w) xs) → TieFits o.function ts
tie_fits w env o xs ts s is =
    let p = tie_parts w o xs s in
    let high : tie_size o.function (sizes_of (map (meaning w) xs)) ≤ 128 = leb-true _ 128 (both _ _ p.first).second in
    let P : List Typed → Type 0 = λ us. TieFits o.function us in
    subst P (sym is) (fits o.function env (map (meaning w) xs) high p.second)

pub call_arguments : (w : Widths) (n : Leaf) (xs : List Expr) → IsTrue (meaning w (tree.Call n 0 xs)).sized → Both (is_width (w.function n.bytes)) (arguments_sized (w.parameters n.bytes) (map (meaning w) xs))
call_arguments w n xs s = both _ _ (sized_at _ _ (call_is w n 0 xs) s)

index_parts : (w : Widths) (n : Leaf) (y : Expr) → IsTrue (meaning w (tree.Index n y)).sized → Both (is_width (if w.is_table n.bytes then w.table n.bytes else 1)) (index_sized (w.is_table n.bytes) w n (meaning w y))
index_parts w n y s = both _ _ (sized_at _ _ (index_is w n y) s)

pub entry_parts : (w : Widths) (n : Leaf) (y : Expr) → w.is_table n.bytes ≡ true → IsTrue (meaning w (tree.Index n y)).sized → Both (is_width (w.table n.bytes)) (meaning w y).sized
entry_parts w n y table s =
    let p = index_parts w n y s in
    let P : Bool → Type 0 = λ b. IsTrue (is_width (if b then w.table n.bytes else 1)) in
    let Q : Bool → Type 0 = λ b. IsTrue (index_sized b w n (meaning w y)) in
    record { first = subst P table p.first; second = subst Q table p.second }

pub bit_part : (w : Widths) (n : Leaf) (y : Expr) → w.is_table n.bytes ≡ false → IsTrue (meaning w (tree.Index n y)).sized → IsTrue (bit_sized (w.name n.bytes) (meaning w y).number)
bit_part w n y table s =
    let Q : Bool → Type 0 = λ b. IsTrue (index_sized b w n (meaning w y)) in
    subst Q table (index_parts w n y s).second
