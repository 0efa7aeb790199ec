-- Assembling a listing gives the bytes that were listed.
use Rattle.std.proofs.Common.{◌≡◌, ℕ, zero, suc, ◌+◌, ◌<◌, true, pos, List, [], ◌∷◌, ◌++◌, length, drop, Option, Some, None, Ok, Err, refl, ap, sym, subst, ◌∙◌, arith, map, All, append_assoc}
use Rattle.std.specs.Fmt.{decimal}
use Rattle.std.specs.Prelude.{codes, slice_get, if◌then◌else◌, Result, ◌==◌}
use Rattle.std.proofs.Math.Seq.{drop-append_seam}
use Rattle.std.proofs.lemmas.List.{append-nil}
use Rattle.std.proofs.lemmas.List.Elements.{All-drop}
use Rattle.tie_desc.specs.Description.{Description}
use Rattle.tie_desc.specs.Spelling.{spell, wide_bytes, slots_fit, HasSpelling, HasWide, IsOp}
use Rattle.tie_desc.specs.Invariant.{IsDescription, IsFormat, IsCode}
use Rattle.tie_desc.specs.Names.{is_word}
use Rattle.tie_desc.specs.declared.formats.FormatDecl.{FormatDecl}
use Rattle.tie_desc.specs.declared.formats.SlotDecl.{SlotDecl}
use Rattle.tie_desc.specs.declared.formats.Code.{Code}
use Rattle.tie_desc.specs.declared.formats.Code.TheVariants as code
use Rattle.tie_desc.specs.declared.bundle.Part.{Part}
use Rattle.tie_desc.specs.declared.bundle.Bundle.{Bundle}
use Rattle.tie_desc.specs.declared.bundle.Bundle.TheVariants as bundle
use Rattle.tie_desc.proofs.Lists.{All-tail, All-slice_get}
use Rattle.asm_lines.specs.declared.token.Token.{Token}
use Rattle.asm_lines.specs.declared.token.TokenKind.TheVariants as kind
use Rattle.asm_lines.specs.declared.token.Spot.{Spot}
use Rattle.asm_lines.specs.declared.line.Statement.{Statement}
use Rattle.asm_lines.specs.declared.line.Line.{Line}
use Rattle.asm_lines.specs.Tokens.{Fault, past, scan, tokens, first_spot, next_line}
use Rattle.asm_lines.specs.Reading.{and_then, list_from, list_turn}
use Rattle.asm_lines.specs.Lines.{some_left, line, lines}
use Rattle.xt_asm.specs.asm_rules.Operands.{Find}
use Rattle.xt_asm.specs.asm_rules.Labels.{size, addresses, find_of}
use Rattle.xt_asm.specs.asm_rules.Rules.{fault_in}
use Rattle.xt_asm.specs.Bytes.{bytes, image_in}
use Rattle.xt_asm.specs.Assembly.{assembly, of_tokens, of_lines, assembled, image}
use Rattle.listing_words_law.specs.xt_dis.Listing as listing
use Rattle.listing_words_law.specs.xt_dis.Listing.{Lists, end, whole, single, bundle_text, byte_text, code_name, op_name}
use Rattle.listing_words_law.specs.HasWords.{HasWords}
use Rattle.listing_words_law.specs.Items.{IsSaid, AreSaid}
use Rattle.listing_words_law.specs.Printed.{core_said, part_said}
use Rattle.listing_words_law.proofs.Fronts.{word_lettered}
use Rattle.listing_words_law.proofs.Named.{all_get}
use Rattle.listing_words_law.proofs.Texts.{core_line_text, part_line_text, wide_line_text}
use Rattle.listing_words_law.proofs.Readable.{core_is_said, part_is_said}
use Rattle.listing_words_law.proofs.Parsed.{line_at}
use Rattle.listing_words_law.proofs.Lines.{ReadLine, alone_line, wide_line, byte_line}
use Rattle.listing_law.proofs.Statements.{StandsFor, Table, byte_stands, core_stands, one_stands, wide_stands, AreParts, parts_known}
use Rattle.listing_law.proofs.Statements as parts

-- ---- the image of lines

-- lines that stand for bytes one behind the other
pub data AreLines (d : Description) : ℕ → List ℕ → List Line → Type 0 where
  none : (at : ℕ) → AreLines d at [] []
  more : (at : ℕ) (front rest : List ℕ) (l : Line) (ls : List Line) → StandsFor d at l.statement front → AreLines d (at + length front) rest ls
      → AreLines d at (front ++ rest) (l ∷ ls)

image_again : (d : Description) (find : Find) (at : ℕ) (front : List ℕ) (ls : List Line) → AreLines d at front ls → image_in d find (addresses d at ls) ls ≡ front
image_again d find at front ls (none _) = refl
image_again d find at front ls (more _ first rest l more_lines stands r) =
    ap (λ z. z ++ image_in d find (addresses d (at + size d at l.statement) more_lines) more_lines) (stands.bytes_are find)
    ∙ ap (λ n. first ++ image_in d find (addresses d (at + n) more_lines) more_lines) stands.size_is
    ∙ ap (λ z. first ++ z) (image_again d find (at + length first) rest more_lines r)

-- ---- one bundle

-- a line that is read as a statement of these bytes
record IsLine (d : Description) (at : ℕ) (others : List ℕ) (ts : List Token) (front : List ℕ) : Type 0 where
  statement : Statement
  read : ReadLine d others ts statement
  stands : StandsFor d at statement front

module _ (t : Table) (d : Description) (is_d : IsDescription d) (words : HasWords d) where
  all_said : (ps : List Part) → AreParts d ps → AreSaid (map (part_said d) ps)
  all_said [] parts.none = tt
  all_said (p ∷ ps) (parts.more _ _ c f rest) = (part_is_said d p is_d words c f, all_said ps rest)

  said_part : (p : Part) (ps : List Part) → AreParts d (p ∷ ps) → IsSaid (part_said d p) × AreSaid (map (part_said d) ps)
  said_part p ps r = all_said (p ∷ ps) r

  no_parts : (ss : List SlotDecl) → 0 < length ss → slots_fit d ss [] ≡ true → ⊥
  no_parts [] h e = omega arith
  no_parts (x ∷ ss) h e = cc

  core_line : (at : ℕ) (s : Spot) (others : List ℕ) (ts : List Token) → (i : _) → HasSpelling d (bundle.Core i)
      → scan (listing.line (listing.core_text at i) ++ others) 0 s ≡ Ok ts → IsLine d at others ts (spell d (bundle.Core i))
  core_line at s others ts i has h = record {
    statement = _;
    read = alone_line d (core_said at i) s others ts (core_is_said at i (t.fit i has)) (ap (λ z. scan ((z ++ 10 ∷ []) ++ others) 0 s) (sym (core_line_text at i)) ∙ h);
    stands = core_stands t d at s i has;
  }

  is_code : (c : Code) → IsOp d c → IsCode d c
  is_code (code.Core c) h = absurd h
  is_code (code.Op i) h = h

  part_line : (at : ℕ) (s : Spot) (others : List ℕ) (ts : List Token) (p : Part) → HasSpelling d (bundle.One p)
      → scan (listing.line (listing.part_text d p) ++ others) 0 s ≡ Ok ts → IsLine d at others ts (spell d (bundle.One p))
  part_line at s others ts p has h = record {
    statement = _;
    read = alone_line d (part_said d p) s others ts (part_is_said d p is_d words (is_code p.code has.0) has.1) (ap (λ z. scan ((z ++ 10 ∷ []) ++ others) 0 s) (sym (part_line_text d p)) ∙ h);
    stands = one_stands t d at s p is_d has;
  }

  wide_bundle_line : (at : ℕ) (s : Spot) (others : List ℕ) (ts : List Token) (f : ℕ) (ps : List Part) → f < length d.formats → HasWide d (slice_get d.formats f) ps
      → scan (listing.line (listing.wide_text d (slice_get d.formats f) ps) ++ others) 0 s ≡ Ok ts → IsLine d at others ts (wide_bytes d (slice_get d.formats f) ps)
  wide_bundle_line at s others ts f ps lt has h = by (slice_get d.formats f) refl has h
    where
      listed : (x : FormatDecl) (qs : List Part) → slice_get d.formats f ≡ Some x → HasWide d (Some x) qs → scan (listing.line (listing.wide_text d (Some x) qs) ++ others) 0 s ≡ Ok ts
          → IsLine d at others ts (wide_bytes d (Some x) qs)
      listed x [] here k e = absurd (no_parts x.slots (All-slice_get (IsFormat d) d.formats f x is_d.formats here).some k.0)
      listed x (p ∷ qs) here k e =
          let known = parts_known d x.slots (p ∷ qs) (All-slice_get (IsFormat d) d.formats f x is_d.formats here).slots k.0 in
          let first = said_part p qs known in
          record {
            statement = _;
            read = wide_line d x.name (part_said d p) (map (part_said d) qs) s others ts (word_lettered x.name (all_get (λ y. is_word y.name) d.formats f x words.formats here)) first.0 first.1
                (ap (λ z. scan ((z ++ 10 ∷ []) ++ others) 0 s) (sym (wide_line_text d x p qs)) ∙ e);
            stands = wide_stands t d at s (past (length x.name) s) f x p qs is_d here (All-slice_get (IsFormat d) d.formats f x is_d.formats here) known;
          }

      by : (o : Option FormatDecl) → slice_get d.formats f ≡ o → HasWide d o ps → scan (listing.line (listing.wide_text d o ps) ++ others) 0 s ≡ Ok ts → IsLine d at others ts (wide_bytes d o ps)
      by None here k e = absurd k
      by (Some x) here k e = listed x ps here k e

  bundle_line : (at : ℕ) (s : Spot) (others : List ℕ) (ts : List Token) (b : Bundle) → HasSpelling d b
      → scan (listing.line (bundle_text d at b) ++ others) 0 s ≡ Ok ts → IsLine d at others ts (spell d b)
  bundle_line at s others ts (bundle.Core i) has h = core_line at s others ts i has h
  bundle_line at s others ts (bundle.One p) has h = part_line at s others ts p has h
  bundle_line at s others ts (bundle.Wide f ps) has h = wide_bundle_line at s others ts f ps.items has.0 has.1 h

  -- ---- all bytes

  -- what a listing is read as, behind what was found
  record IsRead (at : ℕ) (front : List ℕ) (n : ℕ) (found : List Line) (ts : List Token) : Type 0 where
    ls : List Line
    read : list_from some_left (line d) n found ts ≡ Ok (found ++ ls, [])
    lines_are : AreLines d at front ls

  abbrev line_end_with : ℕ → Spot → List Token
  line_end_with n s = if n == 0 then [] else record { kind = kind.LineEnd; line = s.line; column = s.behind } ∷ []

  read_end : (at : ℕ) (s : Spot) (n : ℕ) (found : List Line) (ts : List Token) → s.behind ≡ 0 → scan [] 0 s ≡ Ok ts → length ts < n → IsRead at [] n found ts
  unfolding list_from list_turn
  read_end at s n found ts b h k = by n k (none_left b h)
    where
      none_left : s.behind ≡ 0 → scan [] 0 s ≡ Ok ts → ts ≡ []
      none_left c e = let f = ap (λ z. line_end_with z s) c in cc

      by : (m : ℕ) → length ts < m → ts ≡ [] → IsRead at [] m found ts
      by zero lt e = absurd (omega (arith, lt))
      by (suc m) lt e = record { ls = []; read = ap (λ z. list_from some_left (line d) (suc m) found z) e ∙ ap (λ z. Ok (z, [])) (sym (append-nil found)); lines_are = none at }

  some_tokens : (ts : List Token) → 0 < length ts → some_left ts ≡ true
  some_tokens [] h = absurd (omega arith)
  some_tokens (x ∷ ts) h = refl

  one_more : (at : ℕ) (others : List ℕ) (front rest : List ℕ) (n : ℕ) (found : List Line) (ts : List Token) → (r : IsLine d at others ts front) → length ts < n
      → ((m : ℕ) → length r.read.more < m → IsRead (at + length front) rest m (found ++ line_at r.read.end r.statement ∷ []) r.read.more) → IsRead at (front ++ rest) n found ts
  unfolding list_from list_turn
  one_more at others front rest zero found ts r lt again = absurd (omega (arith, lt))
  one_more at others front rest (suc n) found ts r lt again =
      let l = line_at r.read.end r.statement in
      let left : 0 < length ts = omega (arith, r.read.less) in
      let x = again n (omega (arith, lt, r.read.less)) in
      record {
        ls = l ∷ x.ls;
        read = ap (λ b. list_turn (list_from some_left (line d) n) b (line d) found ts) (some_tokens ts left)
            ∙ ap (λ q. and_then q (λ y. list_from some_left (line d) n (found ++ y ∷ []))) r.read.parsed
            ∙ x.read ∙ ap (λ z. Ok (z, [])) (append_assoc found (l ∷ []) x.ls);
        lines_are = more at front rest l x.ls r.stands x.lines_are;
      }

  byte_is_line : (at : ℕ) (s : Spot) (b : ℕ) (others : List ℕ) (ts : List Token) → b < 256 → scan (listing.line (byte_text b) ++ others) 0 s ≡ Ok ts → IsLine d at others ts (b ∷ [])
  byte_is_line at s b others ts h e = record {
    statement = _;
    read = byte_line d (pos b) s others ts (omega arith) (ap (λ z. scan (((codes ".byte " ++ z) ++ 10 ∷ []) ++ others) 0 s) (append-nil (decimal b)) ∙ e);
    stands = byte_stands d at s.column _ b;
  }

  listing_read : (at : ℕ) (front text : List ℕ) (s : Spot) (n : ℕ) (found : List Line) (ts : List Token) → Lists d at front text → All (λ b. b < 256) front
      → s.behind ≡ 0 → scan text 0 s ≡ Ok ts → length ts < n → IsRead at front n found ts
  listing_read at front text s n found ts (end _) small b h lt = read_end at s n found ts b h lt
  listing_read at front text s n found ts (whole _ _ f others is l) small b h lt =
      let r = bundle_line at s others ts f.bundle is.has h in
      let rest = is.begins.0 in
      let cut : drop f.length front ≡ rest = ap (λ k. drop k front) is.length_is ∙ ap (λ z. drop (length (spell d f.bundle)) z) is.begins.1 ∙ drop-append_seam (spell d f.bundle) rest in
      let x = one_more at others (spell d f.bundle) (drop f.length front) n found ts r lt
      (λ m k. subst (λ j. IsRead (at + j) (drop f.length front) m (found ++ line_at r.read.end r.statement ∷ []) r.read.more) is.length_is
      (listing_read (at + f.length) (drop f.length front) others (next_line r.read.end) m (found ++ line_at r.read.end r.statement ∷ []) r.read.more l (All-drop (λ b. b < 256) f.length front small) refl r.read.scanned k)) in
      subst (λ z. IsRead at z n found ts) (ap (λ z. spell d f.bundle ++ z) cut ∙ sym is.begins.1) x
  listing_read at front text s n found ts (single _ x bytes others none_begins l) small b h lt =
      let r = byte_is_line at s x others ts (small 0 x (omega arith)) h in
      one_more at others (x ∷ []) bytes n found ts r lt
      (λ m k. listing_read (at + 1) bytes others (next_line r.read.end) m (found ++ line_at r.read.end r.statement ∷ []) r.read.more l (All-tail (λ b. b < 256) x bytes small) refl r.read.scanned k)

  -- ---- the whole

  of_image : (ls : List Line) (o : Option Fault) (out : List ℕ) → assembled d ls o ≡ Ok out → out ≡ image d ls
  of_image ls None out e = cc
  of_image ls (Some f) out e = absurd cc

  pub same_bytes : (front text out : List ℕ) → All (λ b. b < 256) front → Lists d 0 front text → assembly d text ≡ Ok out → out ≡ front
  unfolding assembly tokens lines
  same_bytes front text out small l h = by (scan text 0 first_spot) refl h
    where
      by : (r : Result (List Token) Fault) → scan text 0 first_spot ≡ r → of_tokens d r ≡ Ok out → out ≡ front
      by (Err f) e k = absurd cc
      by (Ok ts) e k =
          let x = listing_read 0 front text first_spot (length ts + 1) [] ts l small refl e (omega arith) in
          let got : assembled d x.ls (fault_in d x.ls) ≡ Ok out = ap (of_lines d) (sym x.read) ∙ k in
          of_image x.ls (fault_in d x.ls) out got ∙ image_again d (find_of d x.ls) 0 front x.ls x.lines_are
