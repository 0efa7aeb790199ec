-- The tests of operands by name.
use Rattle.std.specs.Prelude.{◌≡◌, ℕ, List, Option, Some, None, Result, Ok, Err}
use Rattle.tie_desc.specs.Description.{Description}
use Rattle.asm_lines.specs.Tokens.{Fault}
use Rattle.asm_lines.specs.declared.line.Line.{Line}
use Rattle.asm_rules.specs.declared.judge.Test.{Test}
use Rattle.asm_rules.specs.declared.judge.Test.TheVariants as test
use Rattle.asm_rules.specs.Operands.{Find, Judge, is_kind, in_range, is_known, reaches}
use Rattle.asm_rules.specs.Labels.{find_in, addresses}
use Rattle.asm_rules.specs.Rules.{long_from}

-- labels and the addresses of lines are given
abbrev pub judge_of : Description → Find → List ℕ → Test → Judge
judge_of d labels at test.Kind = is_kind d
judge_of d labels at test.Range = in_range d
judge_of d labels at test.Known = is_known labels
judge_of d labels at (test.Reach from) = reaches (find_in at labels) from

-- a fault, if there is one
abbrev pub refused : Option Fault → Result (Unit {0}) Fault
refused None = Ok tt
refused (Some f) = Err f

abbrev pub laid_by : Option Fault → List ℕ → Result (List ℕ) Fault
laid_by None at = Ok at
laid_by (Some f) at = Err f

-- the addresses of the lines, where no statement ends too far
abbrev pub laid : Description → List Line → Result (List ℕ) Fault
laid d lines = laid_by (long_from d 0 lines) (addresses d 0 lines)
