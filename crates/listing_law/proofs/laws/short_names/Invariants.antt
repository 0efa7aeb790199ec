use Rattle.std.proofs.Common.{take, IsTrue}
use Rattle.std.specs.List.{list_all}
use Rattle.tie_desc.specs.Names.{is_word}
use Rattle.listing_law.proofs.laws.short_names.Given as goal

abbrev pub invariant-loop-file : goal.invariant-loop-file
invariant-loop-file l = IsTrue (list_all (λ x. is_word x.short) (take l.file-index l.files))
