-- The definitions on worked rows.
use Rattle.std.proofs.Common.{◌≡◌, codes, [], ◌∷◌, refl}
use Rattle.std.specs.Fmt as printed
use Rattle.tie_expr.specs.Word.{Word}
use Rattle.tie_desc.specs.Description.{Description}
use Rattle.tie_desc.specs.declared.declarations.StateDecl.{StateDecl}
use Rattle.tie_desc.specs.declared.declarations.FileDecl.{FileDecl}
use Rattle.xt_core.specs.declared.ending.Ending.TheVariants.{Halted}
use Rattle.xt_state.specs.State.{State, File}
use Rattle.core_text.specs.Digits.{hex_digits, digit_count}
use Rattle.core_text.specs.Core.{state_lines, file_lines, core_lines}
use Rattle.core_text.specs.Memory.{memory_lines}

abbrev bare : Description
bare = record { states = []; files = []; ranges = []; ops = []; formats = []; ins = []; outs = [] }

halted : core_lines (codes "main") bare (codes "halted") 2 (record { pc = 6; registers = 0 ∷ 0 ∷ 5 ∷ 0 ∷ []; sar = 0; states = []; files = []; memory = []; text_end = 6; ending = Halted })
    ≡ codes "core main retired 2 halted pc 00000006\n  sar 0\n  a2 00000005\n"
unfolding hex_digits printed.digits
halted = refl

-- 18 bytes from address 254 on
memory : memory_lines 254 (0 ∷ 1 ∷ 2 ∷ 3 ∷ 4 ∷ 5 ∷ 6 ∷ 7 ∷ 8 ∷ 9 ∷ 10 ∷ 11 ∷ 12 ∷ 13 ∷ 14 ∷ 15 ∷ 171 ∷ 255 ∷ [])
    ≡ codes "  mem 000000FE 00 01 02 03 04 05 06 07 08 09 0A 0B 0C 0D 0E 0F\n  mem 0000010E AB FF\n"
unfolding hex_digits
memory = refl

no_memory : memory_lines 0 [] ≡ []
no_memory = refl

-- a state has its line also where it is 0
wide_state : state_lines (record { name = codes "ACC"; width = 128; reset = 0 } ∷ []) (record { width = 128; value = 0 } ∷ []) ≡ codes "  ACC 00000000000000000000000000000000\n"
unfolding hex_digits
wide_state = refl

narrow_state : state_lines (record { name = codes "S"; width = 5; reset = 0 } ∷ []) (record { width = 5; value = 18 } ∷ []) ≡ codes "  S 12\n"
unfolding hex_digits
narrow_state = refl

-- registers are numbered from 0, and those that are 0 have no line
registers : file_lines (record { name = codes "F"; short = codes "f"; width = 9; depth = 3 } ∷ []) (record { width = 9; values = 0 ∷ 255 ∷ 0 ∷ [] } ∷ []) ≡ codes "  f1 0FF\n"
unfolding hex_digits printed.digits
registers = refl
