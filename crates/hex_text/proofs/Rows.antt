-- The definition on worked rows.
use Rattle.std.proofs.Common.{◌≡◌, codes, [], ◌∷◌, Ok, Err, refl}
use Rattle.hex_text.specs.declared.hexadecimal.HexRule.TheVariants.{BadHex, OddHex, LongHex}
use Rattle.hex_text.specs.Hexadecimal.{hex_bytes}

image : hex_bytes 65536 (codes "22 A0 05 00 51 00") ≡ Ok (34 ∷ 160 ∷ 5 ∷ 0 ∷ 81 ∷ 0 ∷ [])
image = refl

spread : hex_bytes 65536 (codes "2\n2 a005\t0051 00\n") ≡ Ok (34 ∷ 160 ∷ 5 ∷ 0 ∷ 81 ∷ 0 ∷ [])
spread = refl

odd : hex_bytes 65536 (codes "2") ≡ Err (OddHex, 1)
odd = refl

foreign : hex_bytes 65536 (codes "22 G0 0") ≡ Err (BadHex, 3)
foreign = refl

long : hex_bytes 1 (codes "0001") ≡ Err (LongHex, 4)
long = refl

empty : hex_bytes 65536 [] ≡ Ok []
empty = refl
