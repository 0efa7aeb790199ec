use Rattle.std.proofs.Common.{◌≡◌, ◌≤◌, length, take}
use Rattle.xt_operate.specs.Bounds.{read_words}
use Rattle.xt_exec.specs.Places.{get}
use Rattle.xt_exec.specs.Queues.{item_of}
use Rattle.xt_exec.proofs.places.words_at.Given as goal

-- the words of the operands so far
abbrev pub invariant-loop-bound : goal.invariant-loop-bound
invariant-loop-bound l = record {
  so_far : l.words ≡ read_words l.desc (get l.arch (item_of l.desc l.heads)) (take l.bound-index l.bounds);
  few : length l.words ≤ l.bound-index;
}
