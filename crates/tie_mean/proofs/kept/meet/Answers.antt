use Rattle.std.proofs.Common.{ℕ, List, Bool, true, cond, ◌||◌, ap, ◌∙◌}
use Rattle.std.specs.Str.{bytes_eq}
use Rattle.std.proofs.lemmas.Map.Text.{is_eq-slice_cmp}
use Rattle.tie_mean.specs.Kept.{met}
use Rattle.tie_mean.proofs.Sets.{cond_or}
use Rattle.tie_mean.proofs.kept.meet.Goals as goal

pub returns-clause-met : goal.returns-clause-met
returns-clause-met c = λ q.
    c.in_ok-added.ensures.updates.0 (record { ref_ptr = (0, 0); now = q })
    ∙ ap (λ (b : Bool). cond b true (met c.args.names.now q)) (is_eq-slice_cmp c.as_slice.result.now q)
    ∙ cond_or (bytes_eq c.as_slice.result.now q) (met c.args.names.now q)
    ∙ ap (λ (bs : List ℕ). bytes_eq bs q || met c.args.names.now q) c.as_slice.ensures
