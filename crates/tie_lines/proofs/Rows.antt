-- The definitions on worked rows.
use Rattle.std.proofs.Common.{◌≡◌, codes, [], ◌∷◌, refl}
use Rattle.std.specs.Fmt as printed
use Rattle.core_text.specs.Digits.{hex_digits}
use Rattle.tie_lines.specs.Lines.{operation_code, operation_lines, format_lines}

-- the first operation, the second one, and the 17th
codes_of : (operation_code 0 ≡ 0x060000) × (operation_code 1 ≡ 0x160000) × (operation_code 16 ≡ 0x070000)
codes_of = (refl, refl, refl)

first : operation_lines 0 (record { name = codes "MYADD"; args = []; links = []; results = [] } ∷ []) ≡ codes "operation MYADD 060000\n"
unfolding hex_digits
first = refl

format : format_lines (record { name = codes "F"; width = 64; number = 0; slots = [] } ∷ []) ≡ codes "format F 64 0\n"
unfolding printed.digits
format = refl
