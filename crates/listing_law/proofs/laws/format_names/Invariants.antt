use Rattle.std.proofs.Common.{take, IsTrue}
use Rattle.std.specs.List.{list_all}
use Rattle.tie_desc.specs.Names.{is_word}
use Rattle.listing_law.proofs.laws.format_names.Given as goal

abbrev pub invariant-loop-format : goal.invariant-loop-format
invariant-loop-format l = IsTrue (list_all (λ x. is_word x.name) (take l.format-index l.formats))
