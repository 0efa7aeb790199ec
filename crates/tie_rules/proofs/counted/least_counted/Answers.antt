use Rattle.std.proofs.Common.{◌≡◌, ℕ, ◌+◌, if◌then◌else◌, Option, ap, ◌∙◌, take, drop}
use Rattle.std.specs.List.{count_by}
use mathlib.Core.Path.{fun_ext}
use Rattle.tie_rules.specs.Least.{earlier, least, behind_from}
use Rattle.tie_rules.specs.Tallies.{count_at, count_of, has_key, is_key, at_count}
use Rattle.tie_rules.proofs.Places.{behind_next}
use Rattle.tie_rules.proofs.Counting.{count_next}
use Rattle.tie_rules.proofs.counted.least_counted.Goals as goal

pub loop-decl-preserved : goal.loop-decl-preserved
loop-decl-preserved g c =
    let key = g.R.JudgeCounted.key c.args.rule.now in
    let places = g.R.JudgeCounted.places c.args.rule.now in
    let xs = c.args.decls.now in
    let i = c.loop-decl.decl-index in
    let x = c.decl-item.result in
    let rest = least (behind_from (at_count key places) (take (i + 1) xs) (drop (i + 1) xs)) in
    let counts : count_at c.loop-decl.counts ≡ (λ (q : ℕ). count_by (is_key key q) (take i xs)) = fun_ext c.loop-decl.invariant.counted in
    let n = c.in_ok-n.ensures.before ∙ ap (λ (f : ℕ → ℕ). count_of f c.key_of.result) counts ∙ ap (count_of (λ (q : ℕ). count_by (is_key key q) (take i xs))) c.key_of.ensures in
    let here = c.earlier-found.ensures ∙ ap (earlier c.loop-decl.found) (c.judge.ensures ∙ ap (λ (m : ℕ). least (places m x)) n) in
    record {
      counted = λ q. c.in_ok-n.ensures.after q
          ∙ ap (λ (k : Option ℕ). if has_key q k then count_at c.loop-decl.counts q + 1 else count_at c.loop-decl.counts q) c.key_of.ensures
          ∙ ap (λ (m : ℕ). if is_key key q x then m + 1 else m) (c.loop-decl.invariant.counted q) ∙ count_next (is_key key q) xs i x c.loop-decl-test.true c.decl-item.is;
      so_far = ap (λ (o : Option ℕ). earlier o rest) here ∙ behind_next (at_count key places) c.loop-decl.found xs i x _ c.loop-decl-test.true c.decl-item.is c.loop-decl.invariant.so_far;
    }
