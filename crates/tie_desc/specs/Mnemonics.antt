-- The mnemonics of the core: the words of its 24-bit instructions.
use Rattle.std.specs.Prelude.{ℕ, Bool, List, [], ◌∷◌, map, codes}
use Rattle.std.specs.List.{list_any}
use Rattle.std.specs.Str.{bytes_eq}
use Rattle.std.specs.Char.{to_ascii_uppercase}

-- the words, in upper case
unfoldable pub core_mnemonics : List (List ℕ)
core_mnemonics =
    codes "AND" ∷ codes "OR" ∷ codes "XOR" ∷ codes "ADD" ∷ codes "SUB" ∷ codes "ADDX2" ∷ codes "ADDX4" ∷ codes "ADDX8" ∷ codes "SUBX2" ∷ codes "SUBX4" ∷ codes "SUBX8" ∷
    codes "NEG" ∷ codes "ABS" ∷ codes "SSR" ∷ codes "SSL" ∷ codes "SSAI" ∷ codes "RET" ∷ codes "JX" ∷ codes "CALLX0" ∷ codes "NOP" ∷ codes "SIMCALL" ∷
    codes "SLLI" ∷ codes "SRAI" ∷ codes "SRLI" ∷ codes "SRC" ∷ codes "SRL" ∷ codes "SLL" ∷ codes "SRA" ∷ codes "MUL16U" ∷ codes "MUL16S" ∷ codes "MULL" ∷
    codes "SEXT" ∷ codes "MIN" ∷ codes "MAX" ∷ codes "MINU" ∷ codes "MAXU" ∷ codes "MOVEQZ" ∷ codes "MOVNEZ" ∷ codes "MOVLTZ" ∷ codes "MOVGEZ" ∷ codes "EXTUI" ∷
    codes "L32R" ∷ codes "L8UI" ∷ codes "L16UI" ∷ codes "L16SI" ∷ codes "L32I" ∷ codes "S8I" ∷ codes "S16I" ∷ codes "S32I" ∷ codes "MOVI" ∷ codes "ADDI" ∷ codes "ADDMI" ∷
    codes "CALL0" ∷ codes "J" ∷ codes "BEQZ" ∷ codes "BNEZ" ∷ codes "BLTZ" ∷ codes "BGEZ" ∷ codes "BEQI" ∷ codes "BNEI" ∷ codes "BLTI" ∷ codes "BGEI" ∷ codes "BLTUI" ∷ codes "BGEUI" ∷
    codes "BNONE" ∷ codes "BEQ" ∷ codes "BLT" ∷ codes "BLTU" ∷ codes "BALL" ∷ codes "BBC" ∷ codes "BANY" ∷ codes "BNE" ∷ codes "BGE" ∷ codes "BGEU" ∷ codes "BNALL" ∷ codes "BBS" ∷ codes "BBCI" ∷ codes "BBSI" ∷
    []

-- a core mnemonic in any case
unfoldable pub is_core_mnemonic : List ℕ → Bool
unfolding core_mnemonics
is_core_mnemonic name = list_any (bytes_eq (map to_ascii_uppercase name)) core_mnemonics
