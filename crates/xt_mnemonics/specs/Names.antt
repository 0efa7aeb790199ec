-- The words of the mnemonics.
use Rattle.std.specs.Prelude.{ℕ, List, [], ◌∷◌, map, Option, Some, None, codes, if◌then◌else◌}
use Rattle.std.specs.Char.{to_ascii_uppercase}
use Rattle.std.specs.Str.{bytes_eq}
use Rattle.xt_mnemonics.specs.declared.mnemonic.Mnemonic.{Mnemonic}
use Rattle.xt_mnemonics.specs.declared.mnemonic.Mnemonic.TheVariants as mnemonic

-- in upper case
abbrev pub name_of : Mnemonic → List ℕ
name_of mnemonic.And = codes "AND"
name_of mnemonic.Or = codes "OR"
name_of mnemonic.Xor = codes "XOR"
name_of mnemonic.Add = codes "ADD"
name_of mnemonic.Addx2 = codes "ADDX2"
name_of mnemonic.Addx4 = codes "ADDX4"
name_of mnemonic.Addx8 = codes "ADDX8"
name_of mnemonic.Sub = codes "SUB"
name_of mnemonic.Subx2 = codes "SUBX2"
name_of mnemonic.Subx4 = codes "SUBX4"
name_of mnemonic.Subx8 = codes "SUBX8"
name_of mnemonic.Neg = codes "NEG"
name_of mnemonic.Abs = codes "ABS"
name_of mnemonic.Ssr = codes "SSR"
name_of mnemonic.Ssl = codes "SSL"
name_of mnemonic.Ssai = codes "SSAI"
name_of mnemonic.Ret = codes "RET"
name_of mnemonic.Jx = codes "JX"
name_of mnemonic.Callx0 = codes "CALLX0"
name_of mnemonic.Nop = codes "NOP"
name_of mnemonic.Simcall = codes "SIMCALL"
name_of mnemonic.Slli = codes "SLLI"
name_of mnemonic.Srai = codes "SRAI"
name_of mnemonic.Srli = codes "SRLI"
name_of mnemonic.Src = codes "SRC"
name_of mnemonic.Srl = codes "SRL"
name_of mnemonic.Sll = codes "SLL"
name_of mnemonic.Sra = codes "SRA"
name_of mnemonic.Mul16u = codes "MUL16U"
name_of mnemonic.Mul16s = codes "MUL16S"
name_of mnemonic.Mull = codes "MULL"
name_of mnemonic.Sext = codes "SEXT"
name_of mnemonic.Min = codes "MIN"
name_of mnemonic.Max = codes "MAX"
name_of mnemonic.Minu = codes "MINU"
name_of mnemonic.Maxu = codes "MAXU"
name_of mnemonic.Moveqz = codes "MOVEQZ"
name_of mnemonic.Movnez = codes "MOVNEZ"
name_of mnemonic.Movltz = codes "MOVLTZ"
name_of mnemonic.Movgez = codes "MOVGEZ"
name_of mnemonic.Extui = codes "EXTUI"
name_of mnemonic.L32r = codes "L32R"
name_of mnemonic.L8ui = codes "L8UI"
name_of mnemonic.L16ui = codes "L16UI"
name_of mnemonic.L32i = codes "L32I"
name_of mnemonic.L16si = codes "L16SI"
name_of mnemonic.S8i = codes "S8I"
name_of mnemonic.S16i = codes "S16I"
name_of mnemonic.S32i = codes "S32I"
name_of mnemonic.Movi = codes "MOVI"
name_of mnemonic.Addi = codes "ADDI"
name_of mnemonic.Addmi = codes "ADDMI"
name_of mnemonic.Call0 = codes "CALL0"
name_of mnemonic.J = codes "J"
name_of mnemonic.Beqz = codes "BEQZ"
name_of mnemonic.Bnez = codes "BNEZ"
name_of mnemonic.Bltz = codes "BLTZ"
name_of mnemonic.Bgez = codes "BGEZ"
name_of mnemonic.Beqi = codes "BEQI"
name_of mnemonic.Bnei = codes "BNEI"
name_of mnemonic.Blti = codes "BLTI"
name_of mnemonic.Bgei = codes "BGEI"
name_of mnemonic.Bltui = codes "BLTUI"
name_of mnemonic.Bgeui = codes "BGEUI"
name_of mnemonic.Bnone = codes "BNONE"
name_of mnemonic.Beq = codes "BEQ"
name_of mnemonic.Blt = codes "BLT"
name_of mnemonic.Bltu = codes "BLTU"
name_of mnemonic.Ball = codes "BALL"
name_of mnemonic.Bbc = codes "BBC"
name_of mnemonic.Bany = codes "BANY"
name_of mnemonic.Bne = codes "BNE"
name_of mnemonic.Bge = codes "BGE"
name_of mnemonic.Bgeu = codes "BGEU"
name_of mnemonic.Bnall = codes "BNALL"
name_of mnemonic.Bbs = codes "BBS"
name_of mnemonic.Bbci = codes "BBCI"
name_of mnemonic.Bbsi = codes "BBSI"

abbrev pub every : List Mnemonic
every =
    mnemonic.And ∷ mnemonic.Or ∷ mnemonic.Xor ∷ mnemonic.Add ∷ mnemonic.Addx2 ∷ mnemonic.Addx4 ∷ mnemonic.Addx8 ∷ mnemonic.Sub ∷ mnemonic.Subx2 ∷ mnemonic.Subx4 ∷ mnemonic.Subx8 ∷ mnemonic.Neg ∷ mnemonic.Abs ∷ mnemonic.Ssr ∷ mnemonic.Ssl ∷ mnemonic.Ssai ∷ mnemonic.Ret ∷ mnemonic.Jx ∷ mnemonic.Callx0 ∷ mnemonic.Nop ∷ mnemonic.Simcall ∷ mnemonic.Slli ∷ mnemonic.Srai ∷ mnemonic.Srli ∷ mnemonic.Src ∷ mnemonic.Srl ∷ mnemonic.Sll ∷ mnemonic.Sra ∷ mnemonic.Mul16u ∷ mnemonic.Mul16s ∷ mnemonic.Mull ∷ mnemonic.Sext ∷ mnemonic.Min ∷ mnemonic.Max ∷ mnemonic.Minu ∷ mnemonic.Maxu ∷ mnemonic.Moveqz ∷ mnemonic.Movnez ∷ mnemonic.Movltz ∷ mnemonic.Movgez ∷ mnemonic.Extui ∷ mnemonic.L32r ∷ mnemonic.L8ui ∷ mnemonic.L16ui ∷ mnemonic.L32i ∷ mnemonic.L16si ∷ mnemonic.S8i ∷ mnemonic.S16i ∷ mnemonic.S32i ∷ mnemonic.Movi ∷ mnemonic.Addi ∷ mnemonic.Addmi ∷ mnemonic.Call0 ∷ mnemonic.J ∷ mnemonic.Beqz ∷ mnemonic.Bnez ∷ mnemonic.Bltz ∷ mnemonic.Bgez ∷ mnemonic.Beqi ∷ mnemonic.Bnei ∷ mnemonic.Blti ∷ mnemonic.Bgei ∷ mnemonic.Bltui ∷ mnemonic.Bgeui ∷ mnemonic.Bnone ∷ mnemonic.Beq ∷ mnemonic.Blt ∷ mnemonic.Bltu ∷ mnemonic.Ball ∷ mnemonic.Bbc ∷ mnemonic.Bany ∷ mnemonic.Bne ∷ mnemonic.Bge ∷ mnemonic.Bgeu ∷ mnemonic.Bnall ∷ mnemonic.Bbs ∷ mnemonic.Bbci ∷ mnemonic.Bbsi ∷ []

-- the first of these whose name a word is in upper case
abbrev pub named_in : List ℕ → List Mnemonic → Option Mnemonic
named_in word [] = None
named_in word (m ∷ ms) = if bytes_eq (map to_ascii_uppercase word) (name_of m) then Some m else named_in word ms

-- the mnemonic that a word is, in any case
unfoldable pub mnemonic_named : List ℕ → Option Mnemonic
mnemonic_named word = named_in word every
