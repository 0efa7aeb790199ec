-- Operands as they are written.
use Rattle.std.specs.Prelude.{ℕ, ◌+◌, ◌%◌, ◌^◌, ℤ, List, [], ◌∷◌, ◌++◌, codes, Option, Some, None, slice_get}
use Rattle.std.specs.Fmt.{signed_decimal}
use Rattle.xt_isa.specs.Numbers.{twos_complement}
use Rattle.xt_mnemonics.specs.declared.shape.Way.{Way}
use Rattle.xt_mnemonics.specs.declared.shape.Shape.{Shape}
use Rattle.xt_mnemonics.specs.declared.shape.Shape.TheVariants as shape
use Rattle.xt_mnemonics.specs.Shapes.{base}
use Rattle.tie_desc.specs.Description.{Description}
use Rattle.tie_desc.specs.Operands.{range_value}
use Rattle.tie_desc.specs.declared.declarations.Access.{Access}
use Rattle.tie_desc.specs.declared.declarations.FileDecl.{FileDecl}
use Rattle.tie_desc.specs.declared.declarations.Kind.{Kind}
use Rattle.tie_desc.specs.declared.declarations.Kind.TheVariants as kind
use Rattle.xt_dis.specs.Words.{register, address}

-- ---- of the core instructions

-- the address at a distance, for an instruction at an address, modulo 2 ^ 32
abbrev pub target : Way → ℕ → ℤ → ℕ
target way at distance = (base way at + twos_complement (2 ^ 31) distance) % 2 ^ 32

-- an operand of an instruction at an address: a register, the address of a target, or a number
abbrev pub operand : ℕ → Shape → ℤ → List ℕ
operand at shape.Register value = codes "a" ++ signed_decimal value
operand at (shape.Target way) value = address (target way at value)
operand at _ value = signed_decimal value

abbrev pub core_operands : ℕ → List Shape → List ℤ → List (List ℕ)
core_operands at (s ∷ ss) (value ∷ values) = operand at s value ∷ core_operands at ss values
core_operands at _ _ = []

-- ---- of operations and slots

-- what assembly writes before the number of a register of a file
abbrev pub short_of : Option FileDecl → List ℕ
short_of None = []
short_of (Some file) = file.short

-- an argument with the number in its field: a register, or the value of a range that has this number
abbrev pub argument : Description → Kind → ℕ → List ℕ
argument d kind.Ar number = register (codes "a") number
argument d (kind.File file) number = register (short_of (slice_get d.files file)) number
argument d (kind.Range range) number = signed_decimal (range_value (slice_get d.ranges range) number)
argument d _ number = []

abbrev pub arguments : Description → List Access → List ℕ → List (List ℕ)
arguments d (a ∷ as') (number ∷ numbers) = argument d a.kind number ∷ arguments d as' numbers
arguments d _ _ = []
