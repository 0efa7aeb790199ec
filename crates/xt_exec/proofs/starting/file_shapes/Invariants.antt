use Rattle.std.proofs.Common.{◌≡◌, map, take}
use Rattle.xt_exec.specs.First.{file_shape}
use Rattle.xt_exec.proofs.starting.file_shapes.Given as goal

-- the shapes of the files so far
abbrev pub invariant-loop-file : goal.invariant-loop-file
invariant-loop-file l = l.shapes.items ≡ map file_shape (take l.file-index l.files)
