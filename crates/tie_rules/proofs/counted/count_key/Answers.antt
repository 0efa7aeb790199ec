use Rattle.std.proofs.Common.{ℕ, Option, unwrap_or, ap, ◌∙◌}
use Rattle.std.specs.BTreeMap.{get}
use Rattle.std.specs.Ordering.{nat_cmp}
use Rattle.tie_rules.proofs.Counting.{count_step}
use Rattle.tie_rules.proofs.counted.count_key.Goals as goal

pub returns-clause-after : goal.returns-clause-after
returns-clause-after c = λ q.
    count_step (get nat_cmp c.args.counts.now) (get nat_cmp c.insert.new.self q) c.args.key q c.unwrap_or-n.result (c.in_ok-insert.ensures.updates.0 q)
    (c.unwrap_or-n.ensures ∙ ap (λ (o : Option ℕ). unwrap_or o 0) (c.copied.ensures ∙ c.get.ensures.value))
