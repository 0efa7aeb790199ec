use Rattle.std.proofs.Common.{◌≡◌, drop, map, length}
use Rattle.std.specs.Char.{to_ascii_uppercase}
use Rattle.std.specs.Str.{bytes_eq}
use Rattle.xt_mnemonics.proofs.names.same_upper.Given as goal

abbrev pub invariant-loop-i : goal.invariant-loop-i
invariant-loop-i l =
    (length l.word ≡ length l.name) × (bytes_eq (map to_ascii_uppercase (drop l.i l.word)) (drop l.i l.name) ≡ bytes_eq (map to_ascii_uppercase l.word) l.name)
