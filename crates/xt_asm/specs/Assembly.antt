-- The image of a source, or its first fault.
use Rattle.std.specs.Prelude.{ℕ, List, Option, Some, None, Result, Ok, Err}
use Rattle.tie_desc.specs.Description.{Description}
use Rattle.asm_lines.specs.Tokens.{Fault, tokens}
use Rattle.asm_lines.specs.Lines.{lines}
use Rattle.asm_lines.specs.declared.token.Token.{Token}
use Rattle.asm_lines.specs.declared.line.Line.{Line}
use Rattle.asm_rules.specs.Labels.{addresses, find_of}
use Rattle.asm_rules.specs.Rules.{fault_in}
use Rattle.xt_asm.specs.Bytes.{image_in}

-- a label's address is the sum of the lengths of the statements before it, and the bytes of the statements stand one
-- behind the other
abbrev pub image : Description → List Line → List ℕ
image d ls = image_in d (find_of d ls) (addresses d 0 ls) ls

abbrev pub assembled : Description → List Line → Option Fault → Result (List ℕ) Fault
assembled d ls None = Ok (image d ls)
assembled d ls (Some fault) = Err fault

-- lines that break no rule have an image
abbrev pub of_lines : Description → Result (List Line × List Token) Fault → Result (List ℕ) Fault
of_lines d (Ok read) = assembled d read.0 (fault_in d read.0)
of_lines d (Err fault) = Err fault

abbrev pub of_tokens : Description → Result (List Token) Fault → Result (List ℕ) Fault
of_tokens d (Ok ts) = of_lines d (lines d ts)
of_tokens d (Err fault) = Err fault

-- the image of a source, or the least rule that it breaks, at the least line and column
unfoldable pub assembly : Description → List ℕ → Result (List ℕ) Fault
assembly d text = of_tokens d (tokens text)
