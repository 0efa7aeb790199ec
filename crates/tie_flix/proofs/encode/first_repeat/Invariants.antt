use Rattle.std.proofs.Common.{ℕ, ◌<◌, ◌+◌, take}
use Rattle.std.specs.Prelude.{IsTrue}
use Rattle.tie_desc.specs.Spelling.{writes_differ}
use Rattle.tie_flix.proofs.encode.first_repeat.Given as goal

abbrev pub invariant-loop-i : goal.invariant-loop-i
invariant-loop-i l = (k : ℕ) → k < l.i → IsTrue (writes_differ l.desc (take (k + 1) l.parts))
