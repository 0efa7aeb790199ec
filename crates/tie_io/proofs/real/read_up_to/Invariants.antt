use Rattle.std.proofs.Common.{◌+◌, ◌-◌, length}
use Rattle.tie_io.proofs.real.read_up_to.Given as goal

abbrev pub decreases-loop-chunk : goal.decreases-loop-chunk
decreases-loop-chunk g l = l.limit + 1 - length l.into.items
