use Rattle.std.proofs.Common.{◌≡◌, drop, ℕ, List}
use Rattle.std.specs.HashMap.{get_by_text}
use Rattle.asm_rules.specs.Rules.{or_else}
use Rattle.asm_rules.specs.Labels.{labels_of, label_from}
use Rattle.asm_rules.proofs.labels.labels_of.Given as goal

abbrev pub invariant-loop-i : goal.invariant-loop-i
invariant-loop-i l = (q : List ℕ) → or_else (get_by_text l.labels q) (label_from q l.i (drop l.i l.lines)) ≡ labels_of l.lines q
