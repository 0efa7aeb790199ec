use Rattle.std.proofs.Common.{map, refl, ap, ◌∙◌}
use Rattle.net_ref.specs.Shown.{end_of}
use Rattle.net_ref.proofs.Ended.{run_ends, run_whole}
use Rattle.net_ref.proofs.ends.run_end.Goals as goal

pub returns-clause-whole : goal.returns-clause-whole
returns-clause-whole c = run_whole c.args.net.now c.args.run _ c.requires refl (c.in_ok-queue_ends.ensures ∙ ap (map end_of) c.as_slice.ensures.value) refl

pub returns-clause-end : goal.returns-clause-end
returns-clause-end c nodes shows met = run_ends c.args.net.now nodes c.args.run _ c.requires shows met refl (c.in_ok-queue_ends.ensures ∙ ap (map end_of) c.as_slice.ensures.value) refl
