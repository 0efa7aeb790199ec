-- Literals that are too long.
use Rattle.std.proofs.Common.{◌≡◌, ℕ, ◌+◌, ◌<◌, true, List, refl, inl, arith}
use Rattle.tie_lexer.specs.declared.TokenKind.TheVariants as kind
use Rattle.tie_lexer.specs.Pieces.{opens_hexadecimal, hexadecimal_len, IsTooLong}

pub too_many_digits : (rest : List ℕ) → opens_hexadecimal rest ≡ true → 32 < hexadecimal_len rest → IsTooLong rest
too_many_digits rest opens long =
    (kind.Number, 2 + hexadecimal_len rest, inl (opens, omega arith, refl), rw opens (omega arith))
