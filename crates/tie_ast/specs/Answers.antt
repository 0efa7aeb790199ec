-- What functions of the parser answer.
use Rattle.std.specs.Prelude.{◌≡◌, ℕ, Result, Ok, Err}
use Rattle.tie_ast.specs.declared.refusal.Refusal.{Refusal}
use Rattle.tie_ast.specs.declared.refusal.Refusal.TheVariants as refusal

abbrev pub Fails : {Y : Type 0} → Refusal → Result Y ℕ → Type 0
Fails refusal.NoMemory read = Unit {0}
Fails (refusal.Fault left) read = read ≡ Err left

-- what a function returned, seen by view, is what reading gives, unless memory ran out
abbrev pub Gives : {X Y : Type 0} → (X → Y) → Result X Refusal → Result Y ℕ → Type 0
Gives view (Ok x) read = read ≡ Ok (view x)
Gives view (Err e) read = Fails e read
