use Rattle.std.proofs.Common.{◌≡◌, ℕ, drop, take}
use Rattle.std.specs.List.{count_by}
use Rattle.tie_rules.specs.Least.{earlier, least, behind, behind_from}
use Rattle.tie_rules.specs.Tallies.{count_at, is_key, at_count}
use Rattle.tie_rules.proofs.counted.least_counted.Given as goal

abbrev pub invariant-loop-decl : goal.invariant-loop-decl
invariant-loop-decl g l = record {
  counted : (q : ℕ) → count_at l.counts q ≡ count_by (is_key (g.R.JudgeCounted.key l.rule) q) (take l.decl-index l.decls);
  so_far : earlier l.found (least (behind_from (at_count (g.R.JudgeCounted.key l.rule) (g.R.JudgeCounted.places l.rule)) (take l.decl-index l.decls) (drop l.decl-index l.decls)))
      ≡ least (behind (at_count (g.R.JudgeCounted.key l.rule) (g.R.JudgeCounted.places l.rule)) l.decls);
}
