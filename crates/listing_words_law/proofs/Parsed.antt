-- The tokens of a printed line are read as its statement.
use Rattle.std.proofs.Common.{◌≡◌, ℕ, zero, suc, ◌+◌, ◌<◌, ◌≤◌, false, ℤ, List, [], ◌∷◌, ◌++◌, length, Some, None, Ok, refl, ap, sym, ◌∙◌, arith, append_assoc}
use Rattle.std.specs.Prelude.{if◌then◌else◌}
use Rattle.std.proofs.lemmas.List.{append-nil}
use Rattle.tie_desc.specs.Description.{Description}
use Rattle.asm_lines.specs.declared.token.Token.{Token}
use Rattle.asm_lines.specs.declared.token.TokenKind.TheVariants as kind
use Rattle.asm_lines.specs.declared.token.Mark.{Mark}
use Rattle.asm_lines.specs.declared.token.Mark.TheVariants as mark
use Rattle.asm_lines.specs.declared.token.Spot.{Spot}
use Rattle.asm_lines.specs.declared.line.Operand.{Operand}
use Rattle.asm_lines.specs.declared.line.Operand.TheVariants as written
use Rattle.asm_lines.specs.declared.line.Operation.{Operation}
use Rattle.asm_lines.specs.declared.line.Label.{Label}
use Rattle.asm_lines.specs.declared.line.Statement.{Statement}
use Rattle.asm_lines.specs.declared.line.Statement.TheVariants as stated
use Rattle.asm_lines.specs.declared.line.Line.{Line}
use Rattle.asm_lines.specs.Tokens.{moved, past, token_at}
use Rattle.asm_lines.specs.Naming.{named, format_named}
use Rattle.asm_lines.specs.Reading.{and_then, pure, list_from, list_turn, ◌>>=◌, ◌>>◌}
use Rattle.asm_lines.specs.Lines.{same, sees, sees_operand, expect, next_operand, more_operands, some_operands, operands, operation_of, operation, next_operation, more_operations, wide, named_statement, values_statement, statement, ended, named_line, line}
use Rattle.listing_words_law.specs.Chunks.{Chunk, space, shown, tokens_at, spot_after}
use Rattle.listing_words_law.specs.Items.{Item, word, number, kind_of, written_at, more_chunks, item_chunks, next_spot, behind_item, more_at, operands_at, Said, said_chunks, operation_at, more_said_chunks, said_spot, more_operations_at, closing, wide_chunks, operations_at}
use Rattle.listing_words_law.proofs.Scanned.{tokens_at-append, end_at}

-- ---- operands

next_read : (s : Spot) (i : Item) (after : List Token)
    → next_operand (token_at (kind.Mark mark.Comma) s ∷ token_at (kind_of i) (next_spot s) ∷ after) ≡ Ok (written_at (next_spot s) i, after)
unfolding same
next_read s (word w) after = refl
next_read s (number z w) after = refl

more_read : (is : List Item) (s : Spot) (n : ℕ) (found : List Operand) (rest : List Token) → sees mark.Comma rest ≡ false → length is < n
    → list_from (sees mark.Comma) next_operand n found (tokens_at s (more_chunks is) ++ rest) ≡ Ok (found ++ more_at s is, rest)
unfolding list_from list_turn same
more_read is s zero found rest c h = absurd (omega arith)
more_read [] s (suc n) found rest c h =
    ap (λ b. list_turn (list_from (sees mark.Comma) next_operand n) b next_operand found rest) c ∙ ap (λ z. Ok (z, rest)) (sym (append-nil found))
more_read (i ∷ is) s (suc n) found rest c h =
    let t = next_spot s in
    ap (λ r. and_then r (λ x. list_from (sees mark.Comma) next_operand n (found ++ x ∷ []))) (next_read s i (tokens_at (behind_item t i) (more_chunks is) ++ rest))
    ∙ more_read is (behind_item t i) n (found ++ written_at t i ∷ []) rest c (omega arith)
    ∙ ap (λ z. Ok (z, rest)) (append_assoc found (written_at t i ∷ []) (more_at (behind_item t i) is))

as_many : (is : List Item) (s : Spot) (rest : List Token) → length is ≤ length (tokens_at s (more_chunks is) ++ rest)
as_many [] s rest = omega arith
as_many (i ∷ is) s rest = let h = as_many is (behind_item (next_spot s) i) rest in omega (arith, h)

-- neither an operand nor a comma comes next
pub record Stops (ts : List Token) : Type 0 where
  pub no_operand : sees_operand ts ≡ false
  pub no_comma : sees mark.Comma ts ≡ false

pub operands_read : (is : List Item) (s : Spot) (rest : List Token) → Stops rest → operands (tokens_at s (item_chunks is) ++ rest) ≡ Ok (operands_at s is, rest)
unfolding operands some_operands more_operands
operands_read [] s rest st = ap (λ b. if b then some_operands rest else Ok ([], rest)) st.no_operand
operands_read (word w ∷ is) s rest st =
    let t = behind_item (moved 1 s) (word w) in
    let h = as_many is t rest in
    more_read is t (length (tokens_at t (more_chunks is) ++ rest) + 1) (written.Word (moved 1 s).column w ∷ []) rest st.no_comma (omega (arith, h))
operands_read (number z w ∷ is) s rest st =
    let t = behind_item (moved 1 s) (number z w) in
    let h = as_many is t rest in
    more_read is t (length (tokens_at t (more_chunks is) ++ rest) + 1) (written.Number (moved 1 s).column z ∷ []) rest st.no_comma (omega (arith, h))

-- ---- operations

abbrev operation_with : Description → Label → List Operand → Operation
operation_with d name os = record { column = name.column; operator = named d name.name; operands = os }

operation_of_read : (d : Description) (name : Label) (is : List Item) (s : Spot) (rest : List Token) → Stops rest
    → operation_of d name (tokens_at s (item_chunks is) ++ rest) ≡ Ok (operation_with d name (operands_at s is), rest)
unfolding operation_of
operation_of_read d name is s rest st = ap (λ r. and_then r (λ os. pure (operation_with d name os))) (operands_read is s rest st)

abbrev label_at : Spot → List ℕ → Label
label_at s name = record { column = s.column; name = name }

operation_read : (d : Description) (p : Said) (s : Spot) (rest : List Token) → Stops rest → operation d (tokens_at s (said_chunks p) ++ rest) ≡ Ok (operation_at d s p, rest)
unfolding operation
operation_read d p s rest st = operation_of_read d (label_at s p.name) p.items (past (length p.name) s) rest st

stops_more : (ps : List Said) (s : Spot) (rest : List Token) → Stops rest → Stops (tokens_at s (more_said_chunks ps) ++ rest)
unfolding same
stops_more [] s rest st = st
stops_more (p ∷ ps) s rest st = record { no_operand = refl; no_comma = refl }

-- the tokens of an operation and of what stands behind it
said_first : (p : Said) (cs : List Chunk) (s : Spot) (rest : List Token)
    → tokens_at s (said_chunks p ++ cs) ++ rest ≡ tokens_at s (said_chunks p) ++ (tokens_at (spot_after s (said_chunks p)) cs ++ rest)
said_first p cs s rest =
    ap (λ z. z ++ rest) (tokens_at-append s (said_chunks p) cs) ∙ append_assoc (tokens_at s (said_chunks p)) (tokens_at (spot_after s (said_chunks p)) cs) rest

next_operation_read : (d : Description) (p : Said) (cs : List Chunk) (s : Spot) (rest : List Token) → Stops (tokens_at (spot_after (said_spot s) (said_chunks p)) cs ++ rest)
    → next_operation d (token_at (kind.Mark mark.Semicolon) (moved 1 s) ∷ (tokens_at (said_spot s) (said_chunks p ++ cs) ++ rest))
    ≡ Ok (operation_at d (said_spot s) p, tokens_at (spot_after (said_spot s) (said_chunks p)) cs ++ rest)
unfolding next_operation same
next_operation_read d p cs s rest st =
    ap (operation d) (said_first p cs (said_spot s) rest)
    ∙ operation_read d p (said_spot s) (tokens_at (spot_after (said_spot s) (said_chunks p)) cs ++ rest) st

operations_read : (d : Description) (ps : List Said) (s : Spot) (n : ℕ) (found : List Operation) (rest : List Token) → Stops rest → sees mark.Semicolon rest ≡ false → length ps < n
    → list_from (sees mark.Semicolon) (next_operation d) n found (tokens_at s (more_said_chunks ps) ++ rest) ≡ Ok (found ++ more_operations_at d s ps, rest)
unfolding list_from list_turn same
operations_read d ps s zero found rest st c h = absurd (omega arith)
operations_read d [] s (suc n) found rest st c h =
    ap (λ b. list_turn (list_from (sees mark.Semicolon) (next_operation d) n) b (next_operation d) found rest) c ∙ ap (λ z. Ok (z, rest)) (sym (append-nil found))
operations_read d (p ∷ ps) s (suc n) found rest st c h =
    let t = said_spot s in
    let u = spot_after t (said_chunks p) in
    ap (λ r. and_then r (λ x. list_from (sees mark.Semicolon) (next_operation d) n (found ++ x ∷ []))) (next_operation_read d p (more_said_chunks ps) s rest (stops_more ps u rest st))
    ∙ operations_read d ps u n (found ++ operation_at d t p ∷ []) rest st c (omega arith)
    ∙ ap (λ z. Ok (z, rest)) (append_assoc found (operation_at d t p ∷ []) (more_operations_at d u ps))

as_many_said : (ps : List Said) (s : Spot) (rest : List Token) → length ps ≤ length (tokens_at s (more_said_chunks ps) ++ rest)
as_many_said [] s rest = omega arith
as_many_said (p ∷ ps) s rest =
    let h = as_many_said ps (spot_after (said_spot s) (said_chunks p)) rest in
    let e = ap length (said_first p (more_said_chunks ps) (said_spot s) rest) in
    let k = longer (tokens_at (said_spot s) (said_chunks p)) (tokens_at (spot_after (said_spot s) (said_chunks p)) (more_said_chunks ps) ++ rest) in
    omega (arith, h, e, k)
  where
    longer : (a b : List Token) → length b ≤ length (a ++ b)
    longer [] b = omega arith
    longer (x ∷ a) b = let h = longer a b in omega (arith, h)

-- ---- statements

-- what begins with the operands and ends with the line's end begins with no mark but a comma
no_mark : (m : Mark) (is : List Item) (s e : Spot) (more : List Token) → sees m (tokens_at s (item_chunks is) ++ end_at e ∷ more) ≡ false
no_mark m [] s e more = refl
no_mark m (word w ∷ is) s e more = refl
no_mark m (number z w ∷ is) s e more = refl

abbrev pub line_at : Spot → Statement → Line
line_at e st = record { number = e.line; label = None; statement = st }

-- an operation alone
pub alone_read : (d : Description) (p : Said) (s e : Spot) (more : List Token)
    → line d (tokens_at s (said_chunks p) ++ end_at e ∷ more) ≡ Ok (line_at e (stated.Alone (operation_at d s p)), more)
unfolding line named_line named_statement ended
alone_read d p s e more =
    let name = label_at s p.name in
    let after = tokens_at (past (length p.name) s) (item_chunks p.items) ++ end_at e ∷ more in
    let st : Stops (end_at e ∷ more) = record { no_operand = refl; no_comma = refl } in
    ap (λ b. (if b then (expect mark.Colon >> statement d >>= ended (Some name)) after else (named_statement d name >>= ended None) after)) (no_mark mark.Colon p.items (past (length p.name) s) e more)
    ∙ ap (λ b. and_then (if b then wide d name after else (operation_of d name >>= (λ o. pure (stated.Alone o))) after) (ended None)) (no_mark mark.OpenBrace p.items (past (length p.name) s) e more)
    ∙ ap (λ r. and_then (and_then r (λ o. pure (stated.Alone o))) (ended None)) (operation_of_read d name p.items (past (length p.name) s) (end_at e ∷ more) st)

-- a format
wide_read : (d : Description) (name : Label) (p : Said) (ps : List Said) (s : Spot) (rest : List Token)
    → wide d name (token_at (kind.Mark mark.OpenBrace) (moved 1 s) ∷ (tokens_at (said_spot s) (said_chunks p ++ (more_said_chunks ps ++ closing)) ++ rest))
    ≡ Ok (stated.Wide name.column (format_named d name.name) (operations_at d s p ps), rest)
unfolding wide more_operations same
wide_read d name p ps s rest =
    let t = said_spot s in
    let u = spot_after t (said_chunks p) in
    let v = spot_after u (more_said_chunks ps) in
    let last = token_at (kind.Mark mark.CloseBrace) (moved 1 v) ∷ rest in
    let st : Stops last = record { no_operand = refl; no_comma = refl } in
    let split : tokens_at u (more_said_chunks ps ++ closing) ++ rest ≡ tokens_at u (more_said_chunks ps) ++ last =
    ap (λ z. z ++ rest) (tokens_at-append u (more_said_chunks ps) closing) ∙ append_assoc (tokens_at u (more_said_chunks ps)) (tokens_at v closing) rest in
    let first = operation_at d t p in
    let h = as_many_said ps u last in
    ap (λ ts. and_then (and_then (operation d ts) (more_operations d)) (λ os. expect mark.CloseBrace >> pure (stated.Wide name.column (format_named d name.name) os)))
    (said_first p (more_said_chunks ps ++ closing) t rest ∙ ap (λ z. tokens_at t (said_chunks p) ++ z) split)
    ∙ ap (λ r. and_then (and_then r (more_operations d)) (λ os. expect mark.CloseBrace >> pure (stated.Wide name.column (format_named d name.name) os)))
    (operation_read d p t (tokens_at u (more_said_chunks ps) ++ last) (stops_more ps u last st))
    ∙ ap (λ r. and_then r (λ os. expect mark.CloseBrace >> pure (stated.Wide name.column (format_named d name.name) os)))
    (operations_read d ps u (length (tokens_at u (more_said_chunks ps) ++ last) + 1) (first ∷ []) last st refl (omega (arith, h)))

pub wide_line_read : (d : Description) (name : List ℕ) (p : Said) (ps : List Said) (s e : Spot) (more : List Token)
    → line d (tokens_at s (wide_chunks name p ps) ++ end_at e ∷ more)
    ≡ Ok (line_at e (stated.Wide s.column (format_named d name) (operations_at d (past (length name) s) p ps)), more)
unfolding line named_line named_statement ended same
wide_line_read d name p ps s e more =
    ap (λ r. and_then r (ended None)) (wide_read d (label_at s name) p ps (past (length name) s) (end_at e ∷ more))

-- a byte
pub value_read : (d : Description) (z : ℤ) (w : List ℕ) (s e : Spot) (dot : List ℕ) (more : List Token)
    → line d (tokens_at s (shown kind.ByteDirective dot ∷ space ∷ shown (kind.Number z) w ∷ []) ++ end_at e ∷ more)
    ≡ Ok (line_at e (stated.Values s.column 1 (written.Number (moved 1 (past (length dot) s)).column z ∷ [])), more)
unfolding line statement values_statement some_operands more_operands ended
value_read d z w s e dot more =
    ap (λ r. and_then (and_then r (λ vs. pure (stated.Values s.column 1 vs))) (ended None))
    (more_read [] s (length (end_at e ∷ more) + 1) (written.Number (moved 1 (past (length dot) s)).column z ∷ []) (end_at e ∷ more) refl (omega arith))
