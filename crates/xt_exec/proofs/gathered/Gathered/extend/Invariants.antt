use Rattle.std.proofs.Common.{◌≡◌, ◌+◌, ◌++◌, length, take}
use Rattle.xt_exec.proofs.gathered.Gathered.extend.Given as goal

-- the places so far
abbrev pub invariant-loop-place : goal.invariant-loop-place
invariant-loop-place l = record {
  so_far : l.self ≡ l.fn.self ++ take l.place-index l.values;
  count : length l.self ≡ length l.fn.self + l.place-index;
}
