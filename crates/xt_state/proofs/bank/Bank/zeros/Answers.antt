use Rattle.std.proofs.Common.{◌≡◌, ◌<◌, ◌^◌, ℕ, List, All, replicate, subst, sym, rules}
use Rattle.std.proofs.lemmas.Nat.{pow_pos}
use Rattle.std.proofs.lemmas.List.Elements.{All-replicate}
use Rattle.xt_state.proofs.bank.Bank.zeros.Goals as goal

pub invariant_of-result : goal.invariant_of-result
invariant_of-result c =
    let P : List ℕ → Type 0 = λ xs. All (λ v. v < 2 ^ c.args.width) xs in
    let zeros : c.in_ok-values.values.items ≡ replicate c.args.depth 0 = search rules in (
      c.requires.low,
      c.requires.high,
      subst P (sym zeros) (All-replicate (λ v. v < 2 ^ c.args.width) c.args.depth 0 (pow_pos c.args.width)),
    )
