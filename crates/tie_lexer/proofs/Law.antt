-- At each place stands one piece at most, so a text has one list of tokens or one fault.
use Rattle.std.proofs.Common.{◌≡◌, ℕ, ◌+◌, ◌-◌, ◌≤◌, ◌<◌, ◌⊎◌, inl, inr, true, List, length, drop, refl, sym, ◌∙◌, ap, subst, arith}
use Rattle.tie_lexer.specs.Bytes.{first, is_digit}
use Rattle.tie_lexer.specs.declared.TokenKind.{TokenKind}
use Rattle.tie_lexer.specs.declared.TokenKind.TheVariants as kind
use Rattle.tie_lexer.specs.declared.Token.{Token}
use Rattle.tie_lexer.specs.declared.LexRule.{LexRule}
use Rattle.tie_lexer.specs.declared.LexRule.TheVariants as rule
use Rattle.tie_lexer.specs.Pieces.{opens_line, opens_block, clean_len, IsClosed, IsOpen, IsComment, IsGap, IsMark, Spells, IsToken, BeginsNone, IsTooLong, IsBroken, IsBad, limit}
use Rattle.tie_lexer.specs.Tokens.{Lexed, done, gap, token, AreTokens, IsFault}
use Rattle.tie_lexer.proofs.Told.{stands}
use Rattle.tie_lexer.proofs.Fronts.{front_of, blank_front, comment_front, hexadecimal_front, digit_front, kind_front, spelled_front, no_quote}

order : (m n : ℕ) → ((m < n) ⊎ (n < m)) ⊎ (m ≡ n)
order m n = grind arith

-- Comments

closed_before : (rest : List ℕ) (m n : ℕ) → IsClosed rest m → IsClosed rest n → m < n → ⊥
closed_before rest m n a b lt =
    let room = a.room in
    let none = b.none_before (m - 2) (omega arith) (omega arith) in
    let ends = a.ends in
    cc

closed_one : (rest : List ℕ) (m n : ℕ) → IsClosed rest m → IsClosed rest n → m ≡ n
closed_one rest m n a b =
    elim (order m n) [ inl h ↦ elim h [ inl lt ↦ absurd (closed_before rest m n a b lt) | inr gt ↦ absurd (closed_before rest n m b a gt) ] | inr e ↦ e ]

closed_or_open : (rest : List ℕ) (n : ℕ) → IsClosed rest n → IsOpen rest → ⊥
closed_or_open rest n closed none =
    let room = closed.room in
    let at = none (n - 2) (omega arith) in
    let ends = closed.ends in
    cc

line_or_block : (rest : List ℕ) → opens_line rest ≡ true → opens_block rest ≡ true → ⊥
line_or_block rest a b =
    let slash = (stands rest 0 47 47 a).1 in
    let star = (stands rest 0 47 42 b).1 in
    omega arith

comment_one : (rest : List ℕ) (m n : ℕ) → IsComment rest m → IsComment rest n → m ≡ n
comment_one rest m n (inl a) (inl b) = a.1 ∙ sym b.1
comment_one rest m n (inl a) (inr b) = absurd (line_or_block rest a.0 b.0)
comment_one rest m n (inr a) (inl b) = absurd (line_or_block rest b.0 a.0)
comment_one rest m n (inr a) (inr b) = closed_one rest m n a.1 b.1

comment_or_open : (rest : List ℕ) (n : ℕ) → IsComment rest n → opens_block rest ≡ true → IsOpen rest → ⊥
comment_or_open rest n (inl a) opens none = line_or_block rest a.0 opens
comment_or_open rest n (inr a) opens none = closed_or_open rest n a.1 none

comment_or_none : (rest : List ℕ) (n : ℕ) → IsComment rest n → BeginsNone rest → ⊥
comment_or_none rest n (inl a) none = let f = none.3 in let t = a.0 in cc
comment_or_none rest n (inr a) none = let f = none.4 in let t = a.0 in cc

-- Tokens

mark_before : (rest : List ℕ) (m n : ℕ) → IsMark rest m → IsMark rest n → m < n → ⊥
mark_before rest m n a b lt = let no_longer = a.longest n lt b.within in let mark = b.mark in cc

mark_one : (rest : List ℕ) (m n : ℕ) → IsMark rest m → IsMark rest n → m ≡ n
mark_one rest m n a b =
    elim (order m n) [ inl h ↦ elim h [ inl lt ↦ absurd (mark_before rest m n a b lt) | inr gt ↦ absurd (mark_before rest n m b a gt) ] | inr e ↦ e ]

number_one : (rest : List ℕ) (m n : ℕ) → Spells rest kind.Number m → Spells rest kind.Number n → m ≡ n
number_one rest m n (inl a) (inl b) = a.2 ∙ sym b.2
number_one rest m n (inl a) (inr b) = let t = a.0 in let f = b.1 in cc
number_one rest m n (inr a) (inl b) = let f = a.1 in let t = b.0 in cc
number_one rest m n (inr a) (inr b) = a.3 ∙ sym b.3

number_or_sized : (rest : List ℕ) (m n : ℕ) → Spells rest kind.Number m → Spells rest kind.Sized n → ⊥
number_or_sized rest m n (inl a) b = let f = no_quote rest a.0 in let t = b.1 in cc
number_or_sized rest m n (inr a) b = let f = a.2 in let t = b.1 in cc

fronts : (rest : List ℕ) (k l : TokenKind) (m n : ℕ) → Spells rest k m → Spells rest l n → kind_front k ≡ kind_front l
fronts rest k l m n a b = sym (spelled_front rest k m a) ∙ spelled_front rest l n b

spelled_one : (rest : List ℕ) (k l : TokenKind) (m n : ℕ) → Spells rest k m → Spells rest l n → (k ≡ l) × (m ≡ n)
spelled_one rest kind.Word kind.Word m n a b = (refl, a.1 ∙ sym b.1)
spelled_one rest kind.Word kind.Number m n a b = absurd (omega (arith, fronts rest kind.Word kind.Number m n a b))
spelled_one rest kind.Word kind.Sized m n a b = absurd (omega (arith, fronts rest kind.Word kind.Sized m n a b))
spelled_one rest kind.Word kind.Mark m n a b = absurd (omega (arith, fronts rest kind.Word kind.Mark m n a b))
spelled_one rest kind.Number kind.Word m n a b = absurd (omega (arith, fronts rest kind.Number kind.Word m n a b))
spelled_one rest kind.Number kind.Number m n a b = (refl, number_one rest m n a b)
spelled_one rest kind.Number kind.Sized m n a b = absurd (number_or_sized rest m n a b)
spelled_one rest kind.Number kind.Mark m n a b = absurd (omega (arith, fronts rest kind.Number kind.Mark m n a b))
spelled_one rest kind.Sized kind.Word m n a b = absurd (omega (arith, fronts rest kind.Sized kind.Word m n a b))
spelled_one rest kind.Sized kind.Number m n a b = absurd (number_or_sized rest n m b a)
spelled_one rest kind.Sized kind.Sized m n a b = (refl, a.3 ∙ sym b.3)
spelled_one rest kind.Sized kind.Mark m n a b = absurd (omega (arith, fronts rest kind.Sized kind.Mark m n a b))
spelled_one rest kind.Mark kind.Word m n a b = absurd (omega (arith, fronts rest kind.Mark kind.Word m n a b))
spelled_one rest kind.Mark kind.Number m n a b = absurd (omega (arith, fronts rest kind.Mark kind.Number m n a b))
spelled_one rest kind.Mark kind.Sized m n a b = absurd (omega (arith, fronts rest kind.Mark kind.Sized m n a b))
spelled_one rest kind.Mark kind.Mark m n a b = (refl, mark_one rest m n a b)

spelled_or_none : (rest : List ℕ) (k : TokenKind) (n : ℕ) → Spells rest k n → BeginsNone rest → ⊥
spelled_or_none rest kind.Word n h none = let t = h.0 in let f = none.1 in cc
spelled_or_none rest kind.Number n (inl h) none = let t = ap is_digit (stands rest 0 48 120 h.0).0 in let f = none.2 in cc
spelled_or_none rest kind.Number n (inr h) none = let t = h.0 in let f = none.2 in cc
spelled_or_none rest kind.Sized n h none = let t = h.0 in let f = none.2 in cc
spelled_or_none rest kind.Mark n h none = let t = h.mark in let f = none.5 n h.within in cc

broken_or_none : (rest : List ℕ) → IsBroken rest → BeginsNone rest → ⊥
broken_or_none rest (inl h) none = let t = ap is_digit (stands rest 0 48 120 h.0).0 in let f = none.2 in cc
broken_or_none rest (inr h) none = let t = h.0 in let f = none.2 in cc

broken_front : (rest : List ℕ) → IsBroken rest → front_of (first rest) ≡ 3
broken_front rest (inl h) = hexadecimal_front rest h.0
broken_front rest (inr h) = digit_front (first rest) h.0

broken_or_spelled : (rest : List ℕ) (k : TokenKind) (n : ℕ) → IsBroken rest → Spells rest k n → ⊥
broken_or_spelled rest kind.Word n b h = omega (arith, broken_front rest b, spelled_front rest kind.Word n h)
broken_or_spelled rest kind.Number n (inl b) (inl h) = let zero_len = b.1 in let some = h.1 in omega arith
broken_or_spelled rest kind.Number n (inl b) (inr h) = let t = b.0 in let f = h.1 in cc
broken_or_spelled rest kind.Number n (inr b) (inl h) = let t = b.1 in let f = no_quote rest h.0 in cc
broken_or_spelled rest kind.Number n (inr b) (inr h) = let t = b.1 in let f = h.2 in cc
broken_or_spelled rest kind.Sized n (inl b) h = let t = h.1 in let f = no_quote rest b.0 in cc
broken_or_spelled rest kind.Sized n (inr b) h = let t = h.2 in let f = b.2 in cc
broken_or_spelled rest kind.Mark n b h = omega (arith, broken_front rest b, spelled_front rest kind.Mark n h)

-- Pieces

low_kind : (k : TokenKind) → 2 ≤ kind_front k
low_kind kind.Word = omega arith
low_kind kind.Number = omega arith
low_kind kind.Sized = omega arith
low_kind kind.Mark = omega arith

literal_front : (rest : List ℕ) → IsTooLong rest ⊎ IsBroken rest → 2 ≤ front_of (first rest)
literal_front rest (inl h) = omega (arith, spelled_front rest h.0 h.1 h.2, low_kind h.0)
literal_front rest (inr h) = omega (arith, broken_front rest h)

gap_front : (rest : List ℕ) (n : ℕ) → IsGap rest n → front_of (first rest) ≤ 1
gap_front rest n (inl h) = omega (arith, blank_front (first rest) h.0)
gap_front rest n (inr h) = omega (arith, comment_front rest n h.0)

gap_one : (rest : List ℕ) (m n : ℕ) → IsGap rest m → IsGap rest n → m ≡ n
gap_one rest m n (inl a) (inl b) = a.1 ∙ sym b.1
gap_one rest m n (inl a) (inr b) = absurd (omega (arith, blank_front (first rest) a.0, comment_front rest n b.0))
gap_one rest m n (inr a) (inl b) = absurd (omega (arith, blank_front (first rest) b.0, comment_front rest m a.0))
gap_one rest m n (inr a) (inr b) = comment_one rest m n a.0 b.0

gap_or_token : (rest : List ℕ) (k : TokenKind) (m n : ℕ) → IsGap rest m → IsToken rest k n → ⊥
gap_or_token rest k m n a b = omega (arith, gap_front rest m a, spelled_front rest k n b.0, low_kind k)

gap_or_literal : (rest : List ℕ) (n : ℕ) → IsGap rest n → IsTooLong rest ⊎ IsBroken rest → ⊥
gap_or_literal rest n a b = omega (arith, gap_front rest n a, literal_front rest b)

comment_or_literal : (rest : List ℕ) (n : ℕ) → IsComment rest n → IsTooLong rest ⊎ IsBroken rest → ⊥
comment_or_literal rest n a b = omega (arith, comment_front rest n a, literal_front rest b)

open_or_literal : (rest : List ℕ) → opens_block rest ≡ true → IsTooLong rest ⊎ IsBroken rest → ⊥
open_or_literal rest a b = omega (arith, ap front_of (stands rest 0 47 42 a).0, literal_front rest b)

none_or_literal : (rest : List ℕ) → BeginsNone rest → IsTooLong rest ⊎ IsBroken rest → ⊥
none_or_literal rest none (inl h) = spelled_or_none rest h.0 h.1 h.2 none
none_or_literal rest none (inr h) = broken_or_none rest h none

none_or_open : (rest : List ℕ) → BeginsNone rest → opens_block rest ≡ true → ⊥
none_or_open rest none t = let f = none.4 in cc

gap_or_bad : (rest : List ℕ) (r : LexRule) (m n : ℕ) → IsGap rest m → IsBad rest r n → ⊥
gap_or_bad rest rule.BadByte m n (inl a) (inl b) = let t = a.0 in let f = b.1.0 in cc
gap_or_bad rest rule.BadByte m n (inr a) (inl b) = comment_or_none rest m a.0 b.1
gap_or_bad rest rule.BadByte m n (inl a) (inr b) = omega (arith, blank_front (first rest) a.0, comment_front rest b.0 b.1)
gap_or_bad rest rule.BadByte m n (inr a) (inr b) =
    let same = comment_one rest m b.0 a.0 b.1 in
    let less = b.2 in
    let clean = a.1 in
    let at = b.3 ∙ ap (clean_len rest) (sym same) in
    omega arith
gap_or_bad rest rule.OpenComment m n (inl a) b =
    omega (arith, blank_front (first rest) a.0, ap front_of (stands rest 0 47 42 b.1).0)
gap_or_bad rest rule.OpenComment m n (inr a) b = comment_or_open rest m a.0 b.1 b.2
gap_or_bad rest rule.BadLiteral m n a b = gap_or_literal rest m a b.1

token_or_comment : (rest : List ℕ) (k : TokenKind) (m n : ℕ) → IsToken rest k m → IsComment rest n → ⊥
token_or_comment rest k m n a b = omega (arith, spelled_front rest k m a.0, low_kind k, comment_front rest n b)

token_or_literal : (rest : List ℕ) (k : TokenKind) (m : ℕ) → IsToken rest k m → IsTooLong rest ⊎ IsBroken rest → ⊥
token_or_literal rest k m a (inl b) =
    let same = spelled_one rest k b.0 m b.1 a.0 b.2 in
    let limits = ap (limit rest) same.0 in
    let sizes = same.1 in
    let fits = a.1 in
    let long = b.3 in
    omega arith
token_or_literal rest k m a (inr b) = broken_or_spelled rest k m b a.0

token_or_bad : (rest : List ℕ) (k : TokenKind) (r : LexRule) (m n : ℕ) → IsToken rest k m → IsBad rest r n → ⊥
token_or_bad rest k rule.BadByte m n a (inl b) = spelled_or_none rest k m a.0 b.1
token_or_bad rest k rule.BadByte m n a (inr b) = token_or_comment rest k m b.0 a b.1
token_or_bad rest k rule.OpenComment m n a b =
    omega (arith, spelled_front rest k m a.0, low_kind k, ap front_of (stands rest 0 47 42 b.1).0)
token_or_bad rest k rule.BadLiteral m n a b = token_or_literal rest k m a b.1

bad_one : (rest : List ℕ) (r s : LexRule) (m n : ℕ) → IsBad rest r m → IsBad rest s n → (r ≡ s) × (m ≡ n)
bad_one rest rule.BadByte rule.BadByte m n (inl a) (inl b) = (refl, a.0 ∙ sym b.0)
bad_one rest rule.BadByte rule.BadByte m n (inl a) (inr b) = absurd (comment_or_none rest b.0 b.1 a.1)
bad_one rest rule.BadByte rule.BadByte m n (inr a) (inl b) = absurd (comment_or_none rest a.0 a.1 b.1)
bad_one rest rule.BadByte rule.BadByte m n (inr a) (inr b) = (refl, a.3 ∙ ap (clean_len rest) (comment_one rest a.0 b.0 a.1 b.1) ∙ sym b.3)
bad_one rest rule.BadByte rule.OpenComment m n (inl a) b = absurd (none_or_open rest a.1 b.1)
bad_one rest rule.BadByte rule.OpenComment m n (inr a) b = absurd (comment_or_open rest a.0 a.1 b.1 b.2)
bad_one rest rule.BadByte rule.BadLiteral m n (inl a) b = absurd (none_or_literal rest a.1 b.1)
bad_one rest rule.BadByte rule.BadLiteral m n (inr a) b = absurd (comment_or_literal rest a.0 a.1 b.1)
bad_one rest rule.OpenComment rule.BadByte m n a (inl b) = absurd (none_or_open rest b.1 a.1)
bad_one rest rule.OpenComment rule.BadByte m n a (inr b) = absurd (comment_or_open rest b.0 b.1 a.1 a.2)
bad_one rest rule.OpenComment rule.OpenComment m n a b = (refl, a.0 ∙ sym b.0)
bad_one rest rule.OpenComment rule.BadLiteral m n a b = absurd (open_or_literal rest a.1 b.1)
bad_one rest rule.BadLiteral rule.BadByte m n a (inl b) = absurd (none_or_literal rest b.1 a.1)
bad_one rest rule.BadLiteral rule.BadByte m n a (inr b) = absurd (comment_or_literal rest b.0 b.1 a.1)
bad_one rest rule.BadLiteral rule.OpenComment m n a b = absurd (open_or_literal rest b.1 a.1)
bad_one rest rule.BadLiteral rule.BadLiteral m n a b = (refl, a.0 ∙ sym b.0)

-- Texts

-- no blank, comment or token begins here
abbrev pub Ends : List ℕ → ℕ → Type 0
Ends text at = (length text ≤ at) ⊎ ((r : LexRule) × (n : ℕ) × IsBad (drop at text) r n)

ends_or_gap : (text : List ℕ) (at n : ℕ) → Ends text at → at < length text → IsGap (drop at text) n → ⊥
ends_or_gap text at n (inl past) more g = omega arith
ends_or_gap text at n (inr bad) more g = gap_or_bad (drop at text) bad.0 n bad.1 g bad.2

ends_or_token : (text : List ℕ) (at n : ℕ) (k : TokenKind) → Ends text at → at < length text → IsToken (drop at text) k n → ⊥
ends_or_token text at n k (inl past) more t = omega arith
ends_or_token text at n k (inr bad) more t = token_or_bad (drop at text) k bad.0 n bad.1 t bad.2

token_at : TokenKind → ℕ → ℕ → Token
token_at k at n = record { kind = k; start = at; end = at + n }

-- the tokens up to where no more begins, and that place, are determined
pub lexed_one : (text : List ℕ) (at a b : ℕ) (ts us : List Token) → Lexed text at ts a → Lexed text at us b → Ends text a → Ends text b → (ts ≡ us) × (a ≡ b)
lexed_one text at a b ts us done done x y = (refl, refl)
lexed_one text at a b ts us done (gap n more g rest) x y = absurd (ends_or_gap text at n x more g)
lexed_one text at a b ts us done (token k n more t rest) x y = absurd (ends_or_token text at n k x more t)
lexed_one text at a b ts us (gap n more g rest) done x y = absurd (ends_or_gap text at n y more g)
lexed_one text at a b ts us (gap n more g rest) (gap m _ h other) x y =
    lexed_one text (at + n) a b ts us rest (subst (λ (k : ℕ). Lexed text (at + k) us b) (gap_one (drop at text) m n h g) other) x y
lexed_one text at a b ts us (gap n more g rest) (token k m _ t other) x y = absurd (gap_or_token (drop at text) k n m g t)
lexed_one text at a b ts us (token k n more t rest) done x y = absurd (ends_or_token text at n k y more t)
lexed_one text at a b ts us (token k n more t rest) (gap m _ g other) x y = absurd (gap_or_token (drop at text) k m n g t)
lexed_one text at a b ts us (token {ts = vs} k n more t rest) (token {ts = ws} l m _ u other) x y =
    let same = spelled_one (drop at text) l k m n u.0 t.0 in
    let tail = lexed_one text (at + n) a b vs ws rest (subst (λ (i : ℕ). Lexed text (at + i) ws b) same.1 other) x y in
    (cc, tail.1)

pub one_list : (text : List ℕ) (a b : List Token) → AreTokens text a → AreTokens text b → a ≡ b
one_list text a b x y = (lexed_one text 0 (length text) (length text) a b x y (inl (omega arith)) (inl (omega arith))).0

fault_ends : (text : List ℕ) (r : LexRule) (p : ℕ) (f : IsFault text r p) → Ends text f.at
fault_ends text r p f = inr (r, f.offset, f.bad)

pub fault_or_tokens : (text : List ℕ) (ts : List Token) (r : LexRule) (p : ℕ) → AreTokens text ts → IsFault text r p → ⊥
fault_or_tokens text ts r p x f =
    let same = (lexed_one text 0 (length text) f.at ts f.tokens x f.before (inl (omega arith)) (fault_ends text r p f)).1 in
    let more = f.more in
    omega arith

pub fault_one : (text : List ℕ) (r s : LexRule) (p q : ℕ) → IsFault text r p → IsFault text s q → (r ≡ s) × (p ≡ q)
fault_one text r s p q f g =
    let at = (lexed_one text 0 f.at g.at f.tokens g.tokens f.before g.before (fault_ends text r p f) (fault_ends text s q g)).1 in
    let bad = subst (λ (i : ℕ). IsBad (drop i text) s g.offset) (sym at) g.bad in
    let same = bad_one (drop f.at text) r s f.offset g.offset f.bad bad in
    let left = f.place_is in
    let right = g.place_is in
    (same.0, cc)
