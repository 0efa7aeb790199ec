use Rattle.std.proofs.Common.{◌≡◌, ℕ, ◌≤◌, ◌<◌, ◌^◌, length, map, ap, ◌∙◌, arith, rules}
use Rattle.std.proofs.Math.Nat.{pow-le-pow_right}
use Rattle.std.proofs.lemmas.Nat.{pow_pos}
use Rattle.std.proofs.lemmas.Result.{IfOk-weaker}
use Rattle.tie_expr.specs.Meaning.{select_meaning}
use Rattle.tie_expr.specs.Tree as typed
use Rattle.tie_expr.specs.declared.node.Node.{Node}
use Rattle.tie_translate.specs.Translation.{mux_typed}
use Rattle.tie_translate.proofs.Arms.{below_greatest, greatest_of, one_width, mux_is, length_meanings}
use Rattle.tie_translate.proofs.parts.mux.Goals as goal

pub widen_all-requires-clause-low : goal.widen_all-requires-clause-low
widen_all-requires-clause-low c = λ k d h. (
    let below = below_greatest c.args.arms.items k d h in
    let is : c.greatest_width-width.result ≡ greatest_of c.args.arms.items = c.greatest_width-width.ensures.is ∙ ap greatest_of c.deref.ensures.value in
    omega (arith, below, is)
    )

some_arms : (n w : ℕ) → n ≡ 2 ^ w → 0 < n
some_arms n w e = let some = pow_pos w in omega (arith, e, some)

few_arms : (n w : ℕ) → n ≡ 2 ^ w → w ≤ 4 → n ≤ 16
few_arms n w e h = let powers : 2 ^ w ≤ 2 ^ 4 = pow-le-pow_right {n = 2} (omega arith) {i = w} {j = 4} h in omega (arith, e, powers)

pub select-requires-clause-widths : goal.select-requires-clause-widths
select-requires-clause-widths c =
    let count : length c.args.arms.items ≡ 2 ^ (typed.meaning c.args.selector).width = search rules in
    let some = some_arms (length (map typed.meaning c.args.arms.items)) (typed.meaning c.args.selector).width (length_meanings c.args.arms.items ∙ count) in
    one_width c.greatest_width-width.result (map typed.meaning c.args.arms.items) (map typed.meaning c.in_ok-arms.arms.items) c.in_ok-arms.ensures.means some

pub select-requires-clause-limit : goal.select-requires-clause-limit
select-requires-clause-limit c =
    let few = few_arms _ _ c.requires.count c.requires.few in
    let size = c.in_ok-arms.ensures.size in
    omega (arith, few, size)

pub returns-clause-means : goal.returns-clause-means
returns-clause-means c =
    let count : length c.args.arms.items ≡ 2 ^ (typed.meaning c.args.selector).width = search rules in
    let some = some_arms (length (map typed.meaning c.args.arms.items)) (typed.meaning c.args.selector).width (length_meanings c.args.arms.items ∙ count) in
    let is : c.greatest_width-width.result ≡ greatest_of c.args.arms.items = c.greatest_width-width.ensures.is ∙ ap greatest_of c.deref.ensures.value in
    let s = typed.meaning c.args.selector in
    let arms = mux_is s (map typed.meaning c.args.arms.items) (map typed.meaning c.in_ok-arms.arms.items) c.greatest_width-width.result c.in_ok-arms.ensures.means some is in
    IfOk-weaker c.select.result (λ (e : Node). typed.meaning e ≡ select_meaning s (map typed.meaning c.in_ok-arms.arms.items)) (λ (e : Node). typed.meaning e ≡ mux_typed s (map typed.meaning c.args.arms.items)) (λ e is. is ∙ arms)
    c.select.ensures.means
