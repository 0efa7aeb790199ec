use Rattle.std.proofs.Common.{◌≡◌, ◌≤◌, length, take}
use Rattle.xt_operate.specs.Bounds.{read_words}
use Rattle.xt_operate.specs.Values.{value_in}
use Rattle.xt_operate.proofs.parts.words_of.Given as goal

-- the words of the operands so far
abbrev pub invariant-loop-bound : goal.invariant-loop-bound
invariant-loop-bound l = record {
  so_far : l.words ≡ read_words l.desc (value_in l.reads.at) (take l.bound-index l.bounds);
  few : length l.words ≤ l.bound-index;
}
