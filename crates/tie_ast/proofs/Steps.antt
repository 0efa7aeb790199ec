-- The steps of reading expressions, in the form in which the code takes them.
use Rattle.std.proofs.Common.{◌≡◌, ℕ, zero, suc, ◌+◌, ◌-◌, ◌<◌, ◌≤◌, true, false, nat_le, nat_eq, List, length, drop, Some, None, Ok, Err, refl, ap, ◌∙◌, arith, rules, tests}
use Rattle.tie_grammar.specs.declared.symbol.Symbol.{Symbol}
use Rattle.tie_grammar.specs.declared.tree.Operator.{Operator}
use Rattle.tie_grammar.specs.declared.tree.Expr.{Expr}
use Rattle.tie_grammar.specs.declared.tree.Expr.TheVariants as e
use Rattle.tie_grammar.specs.Spelling.{level}
use Rattle.tie_grammar.specs.Reading.{Parser, and_then}
use Rattle.tie_grammar.specs.Exprs.{operator, more, turn, climb, level_from, expr}

pub expr_bottom : (d least : ℕ) (ts : List Symbol) → d ≡ 0 → expr d least ts ≡ Err (length ts)
unfolding expr
expr_bottom zero least ts e = refl
expr_bottom (suc d) least ts e = absurd (omega arith)

pub expr_deeper : (d least : ℕ) (ts : List Symbol) → (d ≡ 0 → ⊥) → expr d least ts ≡ level_from (expr (d - 1)) least ts
unfolding expr
expr_deeper zero least ts e = absurd (e refl)
expr_deeper (suc d) least ts e = let h : d ≡ suc d - 1 = omega arith in ap (λ n. level_from (expr n) least ts) h

pub climb_more : (inner : ℕ → Parser Expr) (least n at : ℕ) (left : Expr) (ts : List Symbol) (o : Operator) → at < n → operator ts ≡ Some o → least ≤ level o.op
    → climb inner least (n - at) left ts ≡ and_then (inner (level o.op + 1) (drop 1 ts)) (λ right. climb inner least (n - (at + 1)) (e.Binary o left right))
unfolding climb turn more
climb_more inner least n at left ts o below is enough =
    let k : n - at ≡ suc (n - (at + 1)) = omega arith in
    let t : nat_le least (level o.op) ≡ true = search (rules, tests) in
    ap (λ k. climb inner least k left ts) k ∙ ap (λ x. turn inner (climb inner least (n - (at + 1))) least left x ts) is
    ∙ ap (λ b. more inner (climb inner least (n - (at + 1))) left o b ts) t

pub climb_none : (inner : ℕ → Parser Expr) (least n at : ℕ) (left : Expr) (ts : List Symbol) → at < n → operator ts ≡ None → climb inner least (n - at) left ts ≡ Ok (left, ts)
unfolding climb turn more
climb_none inner least n at left ts below is =
    let k : n - at ≡ suc (n - (at + 1)) = omega arith in
    ap (λ k. climb inner least k left ts) k ∙ ap (λ x. turn inner (climb inner least (n - (at + 1))) least left x ts) is

pub climb_loose : (inner : ℕ → Parser Expr) (least n at : ℕ) (left : Expr) (ts : List Symbol) (o : Operator) → at < n → operator ts ≡ Some o → level o.op < least
    → climb inner least (n - at) left ts ≡ Ok (left, ts)
unfolding climb turn more
climb_loose inner least n at left ts o below is loose =
    let k : n - at ≡ suc (n - (at + 1)) = omega arith in
    let t : nat_le least (level o.op) ≡ false = search (rules, tests) in
    ap (λ k. climb inner least k left ts) k ∙ ap (λ x. turn inner (climb inner least (n - (at + 1))) least left x ts) is
    ∙ ap (λ b. more inner (climb inner least (n - (at + 1))) left o b ts) t

pub climb_end : (inner : ℕ → Parser Expr) (least n at : ℕ) (left : Expr) (ts : List Symbol) → n ≤ at → climb inner least (n - at) left ts ≡ Err (length ts)
unfolding climb
climb_end inner least n at left ts past = let k : n - at ≡ 0 = omega arith in ap (λ k. climb inner least k left ts) k

pub not_zero : (n : ℕ) → 0 < n → nat_eq n 0 ≡ false
not_zero n h = search (rules, tests)
