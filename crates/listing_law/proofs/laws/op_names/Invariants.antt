use Rattle.std.proofs.Common.{take, IsTrue}
use Rattle.std.specs.List.{list_all}
use Rattle.tie_desc.specs.Names.{is_word}
use Rattle.listing_law.proofs.laws.op_names.Given as goal

abbrev pub invariant-loop-op : goal.invariant-loop-op
invariant-loop-op l = IsTrue (list_all (λ x. is_word x.name) (take l.op-index l.ops))
