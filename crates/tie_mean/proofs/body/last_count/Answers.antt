use Rattle.std.proofs.Common.{◌∙◌, ap, ℕ, Option}
use Rattle.std.specs.Option.{unwrap_or}
use Rattle.tie_mean.proofs.KeptCounts.{last_count_is}
use Rattle.tie_mean.proofs.body.last_count.Goals as goal

pub returns : goal.returns
returns c =
    let name = c.args.name.now.bytes in
    c.unwrap_or.ensures ∙ ap (λ (o : Option ℕ). unwrap_or o 0) (c.kept.ensures ∙ c.requires name) ∙ last_count_is c.args.body.now name
