-- A printed line, read.
use Rattle.std.proofs.Common.{◌≡◌, ℕ, ◌<◌, ℤ, List, [], ◌∷◌, ◌++◌, length, Ok, refl, ap, ◌∙◌, arith, inl, inr}
use Rattle.std.specs.Fmt.{signed_decimal}
use Rattle.tie_desc.specs.Description.{Description}
use Rattle.asm_lines.specs.declared.token.Token.{Token}
use Rattle.asm_lines.specs.declared.token.TokenKind.{TokenKind}
use Rattle.asm_lines.specs.declared.token.TokenKind.TheVariants as kind
use Rattle.asm_lines.specs.declared.token.Mark.TheVariants as mark
use Rattle.asm_lines.specs.declared.token.Spot.{Spot}
use Rattle.asm_lines.specs.declared.line.Operand.TheVariants as written
use Rattle.asm_lines.specs.declared.line.Statement.{Statement}
use Rattle.asm_lines.specs.declared.line.Statement.TheVariants as stated
use Rattle.asm_lines.specs.Tokens.{moved, past, next_line, scan}
use Rattle.asm_lines.specs.Naming.{format_named}
use Rattle.asm_lines.specs.Lines.{line}
use Rattle.listing_words_law.specs.Chunks.{Chunk, space, shown, text_of, tokens_at, spot_after}
use Rattle.listing_words_law.specs.Items.{Said, IsSaid, AreSaid, said_chunks, item_chunks, operation_at, wide_chunks, operations_at, more_said_chunks, closing}
use Rattle.listing_words_law.proofs.Fronts.{IsLettered}
use Rattle.listing_words_law.proofs.Scanned.{end_at, PassedLine, pass_line}
use Rattle.listing_words_law.proofs.Parsed.{line_at, alone_read, wide_line_read, value_read}
use Rattle.listing_words_law.proofs.Readable.{said_reads, wide_reads, small_read, IsSmall}

-- a line, what is left behind it, and that this is less
pub record ReadLine (d : Description) (others : List ℕ) (ts : List Token) (st : Statement) : Type 0 where
  pub end : Spot
  pub more : List Token
  pub scanned : scan others 0 (next_line end) ≡ Ok more
  pub parsed : line d ts ≡ Ok (line_at end st, more)
  pub less : length more < length ts

shorter : (a : List Token) (t : Token) (b : List Token) → length b < length (a ++ t ∷ b)
shorter [] t b = omega arith
shorter (x ∷ a) t b = let h = shorter a t b in omega (arith, h)

read_line : (d : Description) (s : Spot) (k : TokenKind) (w : List ℕ) (cs : List Chunk) (others : List ℕ) (ts : List Token) (st : Statement)
    → PassedLine s (shown k w ∷ cs) others ts
    → ((e : Spot) (more : List Token) → line d (tokens_at s (shown k w ∷ cs) ++ end_at e ∷ more) ≡ Ok (line_at e st, more))
    → ReadLine d others ts st
read_line d s k w cs others ts st p parse =
    let all = shown k w ∷ cs in
    let e = spot_after s all in
    let h = shorter (tokens_at s all) (end_at e) p.more in
    record {
      end = e;
      more = p.more;
      scanned = p.scanned;
      parsed = ap (line d) p.is ∙ parse e p.more;
      less = omega (arith, h, ap length p.is);
    }

pub alone_line : (d : Description) (p : Said) (s : Spot) (others : List ℕ) (ts : List Token) → IsSaid p
    → scan ((text_of (said_chunks p) ++ 10 ∷ []) ++ others) 0 s ≡ Ok ts → ReadLine d others ts (stated.Alone (operation_at d s p))
alone_line d p s others ts is h =
    read_line d s (kind.Name p.name) p.name (item_chunks p.items) others ts (stated.Alone (operation_at d s p))
    (pass_line (kind.Name p.name) p.name (item_chunks p.items) s others ts (said_reads p (10 ∷ others) is (inr (inr refl))) h)
    (λ e more. alone_read d p s e more)

-- what stands behind the name of a format
abbrev wide_tail : Said → List Said → List Chunk
wide_tail p ps = space ∷ shown (kind.Mark mark.OpenBrace) (123 ∷ []) ∷ space ∷ (said_chunks p ++ (more_said_chunks ps ++ closing))

pub wide_line : (d : Description) (name : List ℕ) (p : Said) (ps : List Said) (s : Spot) (others : List ℕ) (ts : List Token) → IsLettered name → IsSaid p → AreSaid ps
    → scan ((text_of (wide_chunks name p ps) ++ 10 ∷ []) ++ others) 0 s ≡ Ok ts
    → ReadLine d others ts (stated.Wide s.column (format_named d name) (operations_at d (past (length name) s) p ps))
wide_line d name p ps s others ts n is more_are h =
    read_line d s (kind.Name name) name (wide_tail p ps) others ts (stated.Wide s.column (format_named d name) (operations_at d (past (length name) s) p ps))
    (pass_line (kind.Name name) name (wide_tail p ps) s others ts (wide_reads name p ps (10 ∷ others) n is more_are) h)
    (λ e more. wide_line_read d name p ps s e more)

-- `.byte` and a value
abbrev dot_byte : List ℕ
dot_byte = 46 ∷ 98 ∷ 121 ∷ 116 ∷ 101 ∷ []

abbrev byte_tail : ℤ → List Chunk
byte_tail z = space ∷ shown (kind.Number z) (signed_decimal z) ∷ []

pub byte_line : (d : Description) (z : ℤ) (s : Spot) (others : List ℕ) (ts : List Token) → IsSmall z
    → scan ((text_of (shown kind.ByteDirective dot_byte ∷ space ∷ shown (kind.Number z) (signed_decimal z) ∷ []) ++ 10 ∷ []) ++ others) 0 s ≡ Ok ts
    → ReadLine d others ts (stated.Values s.column 1 (written.Number (moved 1 (past 5 s)).column z ∷ []))
byte_line d z s others ts h e =
    let is = small_read z h in
    read_line d s kind.ByteDirective dot_byte (byte_tail z) others ts (stated.Values s.column 1 (written.Number (moved 1 (past 5 s)).column z ∷ []))
    (pass_line kind.ByteDirective dot_byte (byte_tail z) s others ts (omega arith, inl refl, (is.some, is.reads (10 ∷ others) (inr (inr refl)), tt)) e)
    (λ e more. value_read d z (signed_decimal z) s e dot_byte more)
