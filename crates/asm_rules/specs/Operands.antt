-- What operands stand for, by what their places want.
use Rattle.std.specs.Prelude.{ℕ, ◌+◌, ◌-◌, ◌/◌, ◌%◌, ◌^◌, Bool, true, false, not, ◌&&◌, ◌||◌, ◌==◌, nat_eq, nat_lt, ℤ, pos, negsuc, ◌-ℤ◌, unsigned_abs, int_le, List, [], ◌∷◌, length, drop, Option, Some, None, is_some, unwrap_or, slice_get, slice_index, codes, if◌then◌else◌}
use Rattle.std.specs.List.{list_all, list_any, starts_with}
use Rattle.std.specs.Char.{is_ascii_digit}
use Rattle.xt_mnemonics.specs.declared.shape.Way.{Way}
use Rattle.xt_mnemonics.specs.declared.shape.Shape.TheVariants as shape
use Rattle.xt_mnemonics.specs.Shapes.{fits_shape, is_between, is_signed, in_reach, distance}
use Rattle.tie_desc.specs.Description.{Description}
use Rattle.tie_desc.specs.declared.declarations.FileDecl.{FileDecl}
use Rattle.tie_desc.specs.declared.declarations.RangeDecl.{RangeDecl}
use Rattle.asm_lines.specs.Tokens.{value}
use Rattle.asm_lines.specs.declared.line.Operand.{Operand}
use Rattle.asm_lines.specs.declared.line.Operand.TheVariants as written
use Rattle.asm_rules.specs.declared.expected.Expected.{Expected}
use Rattle.asm_rules.specs.declared.expected.Expected.TheVariants as expect

-- ---- registers

-- a decimal number without leading zeros
abbrev pub is_plain : List ℕ → Bool
is_plain digits = (nat_lt 0 (length digits) && list_all is_ascii_digit digits) && (not (slice_index digits 0 == 48) || length digits == 1)

-- the number of a register: what stands behind the letters of its file
abbrev pub register : List ℕ → List ℕ → Option ℤ
register short word =
    if starts_with nat_eq word short && is_plain (drop (length short) word) then Some (pos (value 10 (drop (length short) word))) else None

abbrev pub file_register : Option FileDecl → List ℕ → Option ℤ
file_register None word = None
file_register (Some f) word = register f.short word

-- ---- what an operand stands for

-- the number of a register, or a number; a target stands for a place, of which more below
unfoldable pub meant : Description → Expected → Operand → Option ℤ
meant d (expect.Core shape.Register) (written.Word column word) = register (codes "a") word
meant d (expect.Core shape.Register) (written.Number column z) = None
meant d (expect.Core (shape.Target way)) o = None
meant d (expect.File f) (written.Word column word) = file_register (slice_get d.files f) word
meant d (expect.File f) (written.Number column z) = None
meant d _ (written.Word column word) = None
meant d _ (written.Number column z) = Some z

-- ---- which numbers a place accepts

-- the number of a value in its range
abbrev pub place_in : RangeDecl → ℤ → ℕ
place_in r z = unsigned_abs (z -ℤ r.low) / r.step

abbrev pub in_values : Option RangeDecl → ℤ → Bool
in_values None z = false
in_values (Some r) z = (int_le r.low z && unsigned_abs (z -ℤ r.low) % r.step == 0) && nat_lt (place_in r z) r.count

abbrev pub in_file : Option FileDecl → ℤ → Bool
in_file None z = false
in_file (Some f) (pos n) = nat_lt n f.depth
in_file (Some f) (negsuc n) = false

-- 1, 2, 4 or 8
abbrev pub is_alignment : ℤ → Bool
is_alignment (pos n) = list_any (λ a. a == n) (1 ∷ 2 ∷ 4 ∷ 8 ∷ [])
is_alignment (negsuc n) = false

-- -2 ^ 31 to 2 ^ 32 - 1
abbrev pub is_word_value : ℤ → Bool
is_word_value (pos n) = nat_lt n (2 ^ 32)
is_word_value (negsuc n) = nat_lt n (2 ^ 31)

abbrev pub accepts : Description → Expected → ℤ → Bool
accepts d (expect.Core s) z = fits_shape s z
accepts d (expect.File f) z = in_file (slice_get d.files f) z
accepts d (expect.Immediate r) z = in_values (slice_get d.ranges r) z
accepts d expect.Byte z = is_between 0 255 z
accepts d expect.Word z = is_word_value z
accepts d expect.Alignment z = is_alignment z

-- ---- targets

-- where a label stands
abbrev pub Find : Type 0
Find = List ℕ → Option ℕ

-- an address is below 2 ^ 32
abbrev pub address : ℤ → Option ℕ
address (pos n) = if nat_lt n (2 ^ 32) then Some n else None
address (negsuc n) = None

-- the address of a label, or as it is written
abbrev pub target : Find → Operand → Option ℕ
target find (written.Word column word) = find word
target find (written.Number column z) = address z

abbrev pub reached : Way → ℕ → Option ℕ → Bool
reached way at None = false
reached way at (Some t) = in_reach way (distance way at t)

-- ---- the tests of an operand

abbrev pub column_of : Operand → ℕ
column_of (written.Word column word) = column
column_of (written.Number column z) = column

abbrev pub Judge : Type 0
Judge = Expected → Operand → Bool

abbrev pub is_target : Expected → Bool
is_target (expect.Core (shape.Target way)) = true
is_target _ = false

-- it has the form that its place wants
abbrev pub is_kind : Description → Judge
is_kind d e o = is_target e || is_some (meant d e o)

abbrev pub accepted : Description → Expected → Option ℤ → Bool
accepted d e None = true
accepted d e (Some z) = accepts d e z

-- its number is one that its place accepts
abbrev pub in_range : Description → Judge
in_range d e o = accepted d e (meant d e o)

-- its label stands somewhere
abbrev pub is_known : Find → Judge
is_known labels (expect.Core (shape.Target way)) (written.Word column word) = is_some (labels word)
is_known labels _ o = true

-- the instruction at an address reaches it
abbrev pub reaches : Find → ℕ → Judge
reaches find at (expect.Core (shape.Target way)) o = reached way at (target find o)
reaches find at _ o = true
