use Rattle.std.proofs.Common.{◌≡◌, drop, map, length}
use Rattle.std.specs.Char.{to_ascii_uppercase}
use Rattle.std.specs.Str.{bytes_eq}
use Rattle.tie_rules.proofs.mnemonics.same_upper.Given as goal

abbrev pub invariant-loop-i : goal.invariant-loop-i
invariant-loop-i l =
    (length l.name ≡ length l.word) × (bytes_eq (map to_ascii_uppercase (drop l.i l.name)) (drop l.i l.word) ≡ bytes_eq (map to_ascii_uppercase l.name) l.word)
