use Rattle.std.proofs.Common.{◌≡◌, ◌<◌, ◌^◌, ◌∙◌, ap, sym, subst, IsTrue, length, map, rules}
use Rattle.tie_expr.specs.declared.node.Node.TheFolds.{the_lemmas}
use Rattle.tie_expr.specs.Word.{Word}
use Rattle.tie_expr.specs.Meaning.{select_meaning}
use Rattle.tie_expr.specs.declared.node.Node.{Node}
use Rattle.tie_expr.specs.Tree.{Summary, summary, meaning, typed}
use Rattle.tie_expr.proofs.Typed.{two_parts, choose_parts, join_parts, mul_parts, lookup_is, lookup_fits, select_means, select_parts, arm_at}
use Rattle.tie_expr.proofs.eval.+eval.Goals as goal

pub eval-eval-requires-in-Two : goal.eval-eval-requires-in-Two
eval-eval-requires-in-Two t c =
    let parts = two_parts c.in-Two.op c.in-Two.left c.in-Two.right (subst (λ (x : Node). IsTrue (typed x)) c.in-Two.is c.requires) in
    (search (rules, the_lemmas), rw c.get-in-Two.ensures parts.left)

pub eval-eval-requires-in-Two-2 : goal.eval-eval-requires-in-Two-2
eval-eval-requires-in-Two-2 t c =
    let parts = two_parts c.in-Two.op c.in-Two.left c.in-Two.right (subst (λ (x : Node). IsTrue (typed x)) c.in-Two.is c.requires) in
    (search (rules, the_lemmas), rw c.get-in-Two-2.ensures parts.right)

pub eval-two-requires : goal.eval-two-requires
eval-two-requires t c =
    let parts = two_parts c.in-Two.op c.in-Two.left c.in-Two.right (subst (λ (x : Node). IsTrue (typed x)) c.in-Two.is c.requires) in
    rw (c.eval-in-Two.ensures, c.eval-in-Two-2.ensures, c.get-in-Two.ensures, c.get-in-Two-2.ensures) parts.agree

pub eval-eval-requires-in-Choose : goal.eval-eval-requires-in-Choose
eval-eval-requires-in-Choose t c =
    let parts = choose_parts c.in-Choose.condition c.in-Choose.then c.in-Choose.otherwise (subst (λ (x : Node). IsTrue (typed x)) c.in-Choose.is c.requires) in
    (search (rules, the_lemmas), rw c.get-in-Choose.ensures parts.condition)

pub eval-eval-requires-in-Choose-2 : goal.eval-eval-requires-in-Choose-2
eval-eval-requires-in-Choose-2 t c =
    let parts = choose_parts c.in-Choose.condition c.in-Choose.then c.in-Choose.otherwise (subst (λ (x : Node). IsTrue (typed x)) c.in-Choose.is c.requires) in
    (search (rules, the_lemmas), rw c.get-in-Choose-2.ensures parts.then)

pub eval-eval-requires-in-Choose-3 : goal.eval-eval-requires-in-Choose-3
eval-eval-requires-in-Choose-3 t c =
    let parts = choose_parts c.in-Choose.condition c.in-Choose.then c.in-Choose.otherwise (subst (λ (x : Node). IsTrue (typed x)) c.in-Choose.is c.requires) in
    (search (rules, the_lemmas), rw c.get-in-Choose-3.ensures parts.otherwise)

pub eval-choose-requires : goal.eval-choose-requires
eval-choose-requires t c =
    let parts = choose_parts c.in-Choose.condition c.in-Choose.then c.in-Choose.otherwise (subst (λ (x : Node). IsTrue (typed x)) c.in-Choose.is c.requires) in
    rw (c.eval-in-Choose-2.ensures, c.eval-in-Choose-3.ensures, c.get-in-Choose-2.ensures, c.get-in-Choose-3.ensures) parts.same

pub eval-eval-requires-in-Join : goal.eval-eval-requires-in-Join
eval-eval-requires-in-Join t c =
    let parts = join_parts c.in-Join.high c.in-Join.low (subst (λ (x : Node). IsTrue (typed x)) c.in-Join.is c.requires) in
    (search (rules, the_lemmas), rw c.get-in-Join.ensures parts.high)

pub eval-eval-requires-in-Join-2 : goal.eval-eval-requires-in-Join-2
eval-eval-requires-in-Join-2 t c =
    let parts = join_parts c.in-Join.high c.in-Join.low (subst (λ (x : Node). IsTrue (typed x)) c.in-Join.is c.requires) in
    (search (rules, the_lemmas), rw c.get-in-Join-2.ensures parts.low)

pub eval-join_two-requires : goal.eval-join_two-requires
eval-join_two-requires t c =
    let parts = join_parts c.in-Join.high c.in-Join.low (subst (λ (x : Node). IsTrue (typed x)) c.in-Join.is c.requires) in
    rw (c.eval-in-Join.ensures, c.eval-in-Join-2.ensures, c.get-in-Join.ensures, c.get-in-Join-2.ensures) parts.room

pub eval-eval-requires-in-Mul : goal.eval-eval-requires-in-Mul
eval-eval-requires-in-Mul t c =
    let parts = mul_parts c.in-Mul.left c.in-Mul.right c.in-Mul.signed (subst (λ (x : Node). IsTrue (typed x)) c.in-Mul.is c.requires) in
    (search (rules, the_lemmas), rw c.get-in-Mul.ensures parts.left)

pub eval-eval-requires-in-Mul-2 : goal.eval-eval-requires-in-Mul-2
eval-eval-requires-in-Mul-2 t c =
    let parts = mul_parts c.in-Mul.left c.in-Mul.right c.in-Mul.signed (subst (λ (x : Node). IsTrue (typed x)) c.in-Mul.is c.requires) in
    (search (rules, the_lemmas), rw c.get-in-Mul-2.ensures parts.right)

pub eval-eval-requires-in-Mul-3 : goal.eval-eval-requires-in-Mul-3
eval-eval-requires-in-Mul-3 t c =
    let parts = mul_parts c.in-Mul.left c.in-Mul.right c.in-Mul.signed (subst (λ (x : Node). IsTrue (typed x)) c.in-Mul.is c.requires) in
    (search (rules, the_lemmas), rw c.get-in-Mul-3.ensures parts.signed)

pub eval-product-requires : goal.eval-product-requires
eval-product-requires t c =
    let parts = mul_parts c.in-Mul.left c.in-Mul.right c.in-Mul.signed (subst (λ (x : Node). IsTrue (typed x)) c.in-Mul.is c.requires) in
    rw (c.eval-in-Mul.ensures, c.eval-in-Mul-2.ensures, c.get-in-Mul.ensures, c.get-in-Mul-2.ensures) parts.room

pub eval-entry-requires-clause-fit : goal.eval-entry-requires-clause-fit
eval-entry-requires-clause-fit t c =
    let h = subst (λ (m : Summary). IsTrue m.typed) (ap summary c.in-Lookup.is ∙ lookup_is c.in-Lookup.index c.in-Lookup.entries c.in-Lookup.width) c.requires in
    lookup_fits (summary c.in-Lookup.index) c.in-Lookup.entries c.in-Lookup.width h

pub eval-select-requires : goal.eval-select-requires
eval-select-requires t c =
    let number = c.in-Select.number in
    let arms = c.in-Select.arms in
    let parts = select_parts number arms (subst (λ (x : Node). IsTrue (typed x)) c.in-Select.is c.requires) in
    let wide : c.eval-in-Select.result.width ≡ (meaning number).width = ap (λ (x : Word). x.width) c.eval-in-Select.ensures ∙ ap (λ (x : Node). (meaning x).width) c.get-in-Select.ensures in
    let below : c.value.result < 2 ^ (meaning number).width = subst (λ w. c.value.result < 2 ^ w) wide c.value.ensures.fits in
    let within : c.value.result < length arms = subst (λ n. c.value.result < n) (sym parts.count) below in
    (search (rules, the_lemmas), rw c.as_slice.ensures (within, parts.typed))

pub eval-returns-in-Select : goal.eval-returns-in-Select
eval-returns-in-Select t c =
    let number = c.in-Select.number in
    let arms = c.in-Select.arms in
    let means : meaning c.args.x.now ≡ select_meaning (meaning number) (map meaning arms) = ap meaning c.in-Select.is ∙ select_means number arms in
    let chosen : c.value.result ≡ (meaning number).at c.args.env.now = c.value.ensures.is ∙ ap (λ (x : Word). x.value) c.eval-in-Select.ensures ∙ ap (λ (x : Node). (meaning x).at c.args.env.now) c.get-in-Select.ensures in
    rw (means, c.select.ensures, c.as_slice.ensures, chosen)

pub select-eval-requires : goal.select-eval-requires
select-eval-requires t c =
    (search (rules, the_lemmas), (arm_at c.args.arms.now c.args.number c.index-arms-number.result c.requires.within c.index-arms-number.is c.requires.typed).typed)

pub select-returns : goal.select-returns
select-returns t c =
    let a = arm_at c.args.arms.now c.args.number c.index-arms-number.result c.requires.within c.index-arms-number.is c.requires.typed in
    let w = a.width in
    let v = a.is in
    rw (c.eval.ensures, w, ← v)
