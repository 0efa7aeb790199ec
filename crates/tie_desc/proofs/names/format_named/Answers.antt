use Rattle.std.proofs.Common.{rules, ◌≤◌, length}
use Rattle.tie_desc.proofs.FormatLemmas.{few_formats}
use Rattle.tie_desc.proofs.names.format_named.Goals as goal

pub number-requires : goal.number-requires
number-requires c =
    let few : length c.desc.inside.formats ≤ 32 = few_formats _ c.desc.invariant in
    search rules
