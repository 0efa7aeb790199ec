use Rattle.std.proofs.Common.{◌≤◌, length, sym, ap, ◌∙◌, arith}
use Rattle.std.specs.Option.{option_copied}
use Rattle.tie_desc.specs.Invariant.{IsFormat}
use Rattle.tie_desc.proofs.FormatLemmas.{few_formats}
use Rattle.tie_desc.proofs.Lists.{All-slice_get}
use Rattle.tie_flix.proofs.Decided.{get_within}
use Rattle.tie_flix.proofs.words.read_wide.Goals as goal

pub overflow_cast-place : goal.overflow_cast-place
overflow_cast-place c =
    let few : length c.desc.inside.formats ≤ 32 = few_formats _ c.desc.invariant in
    let within = get_within c.desc.inside.formats c.format_place-place.result c.in-Some.format.now (sym c.get.ensures ∙ ap option_copied c.in-Some.is) in
    omega (arith, few, within)

pub read_format-requires : goal.read_format-requires
read_format-requires c =
    (All-slice_get (IsFormat _) c.desc.inside.formats c.format_place-place.result c.in-Some.format.now c.desc.invariant.formats (sym c.get.ensures ∙ ap option_copied c.in-Some.is)).few
