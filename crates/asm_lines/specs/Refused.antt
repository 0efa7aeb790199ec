-- A fault as code hands it on.
use Rattle.asm_lines.specs.declared.refusal.AsmRefusal.{AsmRefusal}
use Rattle.asm_lines.specs.declared.refusal.AsmRefusal.TheVariants as refusal
use Rattle.asm_lines.specs.Tokens.{Fault}

abbrev pub refusal_of : Fault → AsmRefusal
refusal_of f = refusal.Fault f.0 f.1 f.2
