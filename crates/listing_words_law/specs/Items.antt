-- Operands, operations and lines as they are printed and as they are read.
use Rattle.std.specs.Prelude.{ℕ, ◌<◌, ℤ, List, [], ◌∷◌, ◌++◌, length}
use Rattle.tie_desc.specs.Description.{Description}
use Rattle.asm_lines.specs.declared.token.TokenKind.{TokenKind}
use Rattle.asm_lines.specs.declared.token.TokenKind.TheVariants as kind
use Rattle.asm_lines.specs.declared.token.Mark.TheVariants as mark
use Rattle.asm_lines.specs.declared.token.Spot.{Spot}
use Rattle.asm_lines.specs.declared.line.Operand.{Operand}
use Rattle.asm_lines.specs.declared.line.Operand.TheVariants as written
use Rattle.asm_lines.specs.declared.line.Operation.{Operation}
use Rattle.asm_lines.specs.Tokens.{moved, past}
use Rattle.asm_lines.specs.Naming.{named}
use Rattle.listing_words_law.specs.Ends.{Ends}
use Rattle.listing_words_law.specs.Chunks.{Chunk, space, shown, spot_after, Reads}

-- ---- operands

-- an operand with its bytes: a word, or a number
pub data Item : Type 0 where
  word : (bytes : List ℕ) → Item
  number : (value : ℤ) (bytes : List ℕ) → Item

abbrev pub bytes_of : Item → List ℕ
bytes_of (word w) = w
bytes_of (number z w) = w

abbrev pub kind_of : Item → TokenKind
kind_of (word w) = kind.Name w
kind_of (number z w) = kind.Number z

abbrev pub written_at : Spot → Item → Operand
written_at s (word w) = written.Word s.column w
written_at s (number z w) = written.Number s.column z

-- it has bytes, and they are read as it
pub record IsRead (i : Item) : Type 0 where
  pub some : 0 < length (bytes_of i)
  pub reads : (rest : List ℕ) → Ends rest → Reads (kind_of i) (bytes_of i) rest

abbrev pub AreRead : List Item → Type 0
AreRead [] = Unit {0}
AreRead (i ∷ is) = IsRead i × AreRead is

-- ---- operands behind commas, and behind a space

abbrev pub more_chunks : List Item → List Chunk
more_chunks [] = []
more_chunks (i ∷ is) = shown (kind.Mark mark.Comma) (44 ∷ []) ∷ space ∷ shown (kind_of i) (bytes_of i) ∷ more_chunks is

abbrev pub item_chunks : List Item → List Chunk
item_chunks [] = []
item_chunks (i ∷ is) = space ∷ shown (kind_of i) (bytes_of i) ∷ more_chunks is

-- behind a comma and a space
abbrev pub next_spot : Spot → Spot
next_spot s = moved 1 (past 1 s)

abbrev pub behind_item : Spot → Item → Spot
behind_item s i = past (length (bytes_of i)) s

abbrev pub more_at : Spot → List Item → List Operand
more_at s [] = []
more_at s (i ∷ is) = written_at (next_spot s) i ∷ more_at (behind_item (next_spot s) i) is

abbrev pub operands_at : Spot → List Item → List Operand
operands_at s [] = []
operands_at s (i ∷ is) = written_at (moved 1 s) i ∷ more_at (behind_item (moved 1 s) i) is

-- ---- operations

-- a name and its operands
pub record Said : Type 0 where
  pub name : List ℕ
  pub items : List Item

abbrev pub said_chunks : Said → List Chunk
said_chunks p = shown (kind.Name p.name) p.name ∷ item_chunks p.items

abbrev pub operation_at : Description → Spot → Said → Operation
operation_at d s p = record { column = s.column; operator = named d p.name; operands = operands_at (past (length p.name) s) p.items }

pub record IsSaid (p : Said) : Type 0 where
  pub some : 0 < length p.name
  pub reads : (rest : List ℕ) → Ends rest → Reads (kind.Name p.name) p.name rest
  pub items : AreRead p.items

abbrev pub AreSaid : List Said → Type 0
AreSaid [] = Unit {0}
AreSaid (p ∷ ps) = IsSaid p × AreSaid ps

-- ---- operations behind semicolons

abbrev pub more_said_chunks : List Said → List Chunk
more_said_chunks [] = []
more_said_chunks (p ∷ ps) = space ∷ shown (kind.Mark mark.Semicolon) (59 ∷ []) ∷ space ∷ (said_chunks p ++ more_said_chunks ps)

-- behind a space, a semicolon or a brace, and a space
abbrev pub said_spot : Spot → Spot
said_spot s = moved 1 (past 1 (moved 1 s))

abbrev pub more_operations_at : Description → Spot → List Said → List Operation
more_operations_at d s [] = []
more_operations_at d s (p ∷ ps) = operation_at d (said_spot s) p ∷ more_operations_at d (spot_after (said_spot s) (said_chunks p)) ps

-- ---- formats

abbrev pub closing : List Chunk
closing = space ∷ shown (kind.Mark mark.CloseBrace) (125 ∷ []) ∷ []

abbrev pub wide_chunks : List ℕ → Said → List Said → List Chunk
wide_chunks name p ps =
    shown (kind.Name name) name ∷ space ∷ shown (kind.Mark mark.OpenBrace) (123 ∷ []) ∷ space ∷ (said_chunks p ++ (more_said_chunks ps ++ closing))

abbrev pub operations_at : Description → Spot → Said → List Said → List Operation
operations_at d s p ps = operation_at d (said_spot s) p ∷ more_operations_at d (spot_after (said_spot s) (said_chunks p)) ps
