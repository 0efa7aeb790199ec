use Rattle.std.proofs.Common.{◌≡◌, ◌++◌, drop}
use Rattle.xt_asm.proofs.bundles.push_all.Given as goal

abbrev pub invariant-loop-byte : goal.invariant-loop-byte
invariant-loop-byte l = l.out.items ++ drop l.byte-index l.bytes ≡ l.fn.out.items ++ l.bytes
