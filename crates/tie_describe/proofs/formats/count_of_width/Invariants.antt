use Rattle.std.proofs.Common.{◌≡◌, take}
use Rattle.tie_desc.specs.Invariant.{formats_of_width}
use Rattle.tie_describe.proofs.formats.count_of_width.Given as goal

abbrev pub invariant-loop-format : goal.invariant-loop-format
invariant-loop-format l = l.n ≡ formats_of_width l.width (take l.format-index l.formats)
