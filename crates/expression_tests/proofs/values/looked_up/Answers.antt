use Rattle.std.proofs.Common.{ℕ, List, ◌<◌, ◌^◌, sym, subst, ap, arith}
use Rattle.std.specs.List.{All}
use Rattle.std.proofs.lemmas.Nat.{pow_below}
use Rattle.tie_expr.specs.Word.{Word}
use Rattle.expression_tests.proofs.Tables.{three_fit}
use Rattle.expression_tests.proofs.values.looked_up.Goals as goal

pub lookup-requires-clause-fit : goal.lookup-requires-clause-fit
lookup-requires-clause-fit c =
    let n = 2 ^ c.args.width in
    let more : 2 ^ 0 < n = pow_below 0 c.args.width c.requires.low in
    let most : c.value-most.result < n = subst (λ w. c.value-most.result < 2 ^ w) (ap (λ (x : Word). x.width) c.new.ensures) c.value-most.ensures.fits in
    subst (λ (xs : List ℕ). All (λ x. x < n) xs) (sym c.in_ok-entries.ensures.items) (three_fit n 0 1 c.value-most.result (omega arith) (omega arith) most)
