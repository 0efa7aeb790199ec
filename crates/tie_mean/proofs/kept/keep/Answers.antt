use Rattle.std.proofs.Common.{ℕ, List, Some, cond, ap, ◌∙◌}
use Rattle.std.specs.Str.{bytes_eq}
use Rattle.std.proofs.lemmas.Map.Text.{btree_map_updates_str}
use Rattle.tie_mean.specs.Kept.{kept}
use Rattle.tie_mean.proofs.kept.keep.Goals as goal

pub returns : goal.returns
returns g c = λ q.
    btree_map_updates_str c.as_slice.result.now c.args.values.now c.insert.new.self _ c.in_ok-insert.ensures.updates q
    ∙ ap (λ (bs : List ℕ). cond (bytes_eq bs q) (Some c.args.value) (kept c.args.values.now q)) c.as_slice.ensures
