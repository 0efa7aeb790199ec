-- A piece stands within the bytes that are left.
use Rattle.std.specs.Prelude.{ℕ, ◌<◌, ◌≤◌}
use Rattle.asm_lines.specs.declared.piece.Piece.{Piece}
use Rattle.asm_lines.specs.declared.piece.Piece.TheVariants as piece

abbrev pub IsWithin : ℕ → Piece → Type 0
IsWithin left (piece.Gap n) = (0 < n) × (n ≤ left)
IsWithin left (piece.Token k n) = (0 < n) × (n ≤ left)
IsWithin left piece.LineFeed = 0 < left
IsWithin left piece.Bad = Unit {0}
