-- What code answers, but for want of memory.
use Rattle.std.specs.Prelude.{◌≡◌, ℕ, Result, Ok, Err}
use Rattle.asm_lines.specs.declared.refusal.AsmRefusal.{AsmRefusal}
use Rattle.asm_lines.specs.declared.refusal.AsmRefusal.TheVariants as refusal
use Rattle.asm_lines.specs.Tokens.{Fault}

-- memory ran out, or this is the fault
abbrev pub Fails : {Y : Type 0} → AsmRefusal → Result Y Fault → Type 0
Fails refusal.NoMemory answer = Unit {0}
Fails (refusal.Fault rule line column) answer = answer ≡ Err (rule, line, column)

-- the result, seen as contracts see it, is the answer
abbrev pub Gives : {X Y : Type 0} → (X → Y) → Result X AsmRefusal → Result Y Fault → Type 0
Gives view (Ok x) answer = answer ≡ Ok (view x)
Gives view (Err e) answer = Fails e answer
