use Rattle.std.proofs.Common.{take, length, ◌≡◌}
use Rattle.tie_flix.proofs.spell.pushed.Given as goal

abbrev pub invariant-loop-byte : goal.invariant-loop-byte
invariant-loop-byte l = record { items : l.out.items ≡ take l.byte-index l.bytes; count : length l.out.items ≡ l.byte-index }
