use Rattle.std.proofs.Common.{◌≡◌, ◌+◌, drop}
use Rattle.xt_isa.specs.Constants.{place_of}
use Rattle.xt_isa.proofs.constants.place_of.Given as goal

-- the value isn't among the elements passed
abbrev pub invariant-loop-place : goal.invariant-loop-place
invariant-loop-place l = l.place + place_of l.value (drop l.place l.list) ≡ place_of l.value l.list
