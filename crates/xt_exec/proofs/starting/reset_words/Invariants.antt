use Rattle.std.proofs.Common.{◌≡◌, map, take}
use Rattle.xt_exec.specs.First.{reset_word}
use Rattle.xt_exec.proofs.starting.reset_words.Given as goal

-- the words of the states so far
abbrev pub invariant-loop-state : goal.invariant-loop-state
invariant-loop-state l = l.words.items ≡ map reset_word (take l.state-index l.states)
