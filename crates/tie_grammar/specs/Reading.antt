-- Reading from left to right, with the first fault that is met.
use Rattle.std.specs.Prelude.{ℕ, zero, suc, ◌+◌, List, [], ◌∷◌, ◌++◌, length, Bool, true, false, Option, Some, None, Result, Ok, Err, codes, if◌then◌else◌}
use Rattle.std.specs.Str.{bytes_eq}
use denote.Enum.Bare.{sameb}
use Rattle.tie_grammar.specs.declared.symbol.Leaf.{Leaf}
use Rattle.tie_grammar.specs.declared.symbol.Mark.{Mark}
use Rattle.tie_grammar.specs.declared.symbol.Mark.TheVariants as m
use Rattle.tie_grammar.specs.contracts.symbol.Mark.{the_type}
use Rattle.tie_grammar.specs.declared.symbol.Direction.{Direction}
use Rattle.tie_grammar.specs.declared.symbol.StageWord.{StageWord}
use Rattle.tie_grammar.specs.declared.symbol.Symbol.{Symbol}
use Rattle.tie_grammar.specs.declared.symbol.Symbol.TheVariants as s
use Rattle.tie_grammar.specs.declared.tree.Literal.{Literal}
use Rattle.tie_grammar.specs.declared.tree.Literal.TheVariants as l

-- a value and the symbols after it, or how many symbols are left at the fault
abbrev pub Read : Type 0 → Type 0
Read A = Result (A × List Symbol) ℕ

abbrev pub Parser : Type 0 → Type 0
Parser A = List Symbol → Read A

abbrev pub and_then : {A B : Type 0} → Read A → (A → Parser B) → Read B
and_then (Ok p) f = f p.0 p.1
and_then (Err k) f = Err k

infixl 10 ◌>>=◌
abbrev pub ◌>>=◌ : {A B : Type 0} → Parser A → (A → Parser B) → Parser B
p >>= f = λ ts. and_then (p ts) f

infixl 10 ◌>>◌
abbrev pub ◌>>◌ : {A B : Type 0} → Parser A → Parser B → Parser B
p >> q = p >>= (λ _. q)

abbrev pub pure : {A : Type 0} → A → Parser A
pure a = λ ts. Ok (a, ts)

abbrev pub refuse : {A : Type 0} → Parser A
refuse = λ ts. Err (length ts)

unfoldable pub same : Mark → Mark → Bool
same = sameb the_type

-- the next symbol
abbrev pub first : List Symbol → Option Symbol
first [] = None
first (x ∷ after) = Some x

-- takes the symbol if it is one that is wanted
abbrev pub taken : {A : Type 0} → Option A → List Symbol → Read A
taken None after = Err (length after + 1)
taken (Some a) after = Ok (a, after)

abbrev pub one : {A : Type 0} → (Symbol → Option A) → Parser A
one pick [] = Err 0
one pick (x ∷ after) = taken (pick x) after

-- takes the symbol and goes on as it says
abbrev pub gone : {A : Type 0} → Option (Parser A) → List Symbol → Read A
gone None after = Err (length after + 1)
gone (Some p) after = p after

abbrev pub branch : {A : Type 0} → (Symbol → Option (Parser A)) → Parser A
branch pick [] = Err 0
branch pick (x ∷ after) = gone (pick x) after

-- ---- single symbols

abbrev pub is_mark : Mark → Symbol → Bool
is_mark mark (s.Mark x) = same x mark
is_mark mark _ = false

abbrev pub mark_of : Mark → Symbol → Option (Unit {0})
mark_of mark x = if is_mark mark x then Some tt else None

abbrev pub sees_first : Mark → Option Symbol → Bool
sees_first mark None = false
sees_first mark (Some x) = is_mark mark x

abbrev pub sees : Mark → List Symbol → Bool
sees mark ts = sees_first mark (first ts)

abbrev pub expect : Mark → Parser (Unit {0})
expect mark = one (mark_of mark)

abbrev pub name_of : Symbol → Option Leaf
name_of (s.Name leaf) = Some leaf
name_of _ = None

abbrev pub name : Parser Leaf
name = one name_of

abbrev pub number_of : Symbol → Option Leaf
number_of (s.Number leaf) = Some leaf
number_of _ = None

abbrev pub number : Parser Leaf
number = one number_of

abbrev pub literal_of : Symbol → Option Literal
literal_of (s.Number leaf) = Some (l.Number leaf)
literal_of (s.Sized leaf) = Some (l.Sized leaf)
literal_of _ = None

abbrev pub literal : Parser Literal
literal = one literal_of

abbrev pub nought_of : Symbol → Option Leaf
nought_of (s.Number leaf) = if bytes_eq leaf.bytes (codes "0") then Some leaf else None
nought_of _ = None

abbrev pub nought : Parser Leaf
nought = one nought_of

abbrev pub paren_of : Symbol → Option ℕ
paren_of (s.Paren place) = Some place
paren_of _ = None

abbrev pub paren : Parser ℕ
paren = one paren_of

abbrev pub brace_of : Symbol → Option ℕ
brace_of (s.Brace place) = Some place
brace_of _ = None

abbrev pub brace : Parser ℕ
brace = one brace_of

abbrev pub direction_of : Symbol → Option Direction
direction_of (s.Direction direction) = Some direction
direction_of _ = None

abbrev pub direction : Parser Direction
direction = one direction_of

abbrev pub stage_of : Symbol → Option StageWord
stage_of (s.Stage word) = Some word
stage_of _ = None

abbrev pub stage : Parser StageWord
stage = one stage_of

abbrev pub sees_paren : Option Symbol → Bool
sees_paren (Some (s.Paren place)) = true
sees_paren _ = false

abbrev pub sees_brace : Option Symbol → Bool
sees_brace (Some (s.Brace place)) = true
sees_brace _ = false

-- ---- lists. The number bounds the turns.

unfoldable pub list_turn : {A : Type 0} → (List A → Parser (List A)) → List A → Option (Parser A) → Parser (List A)
list_turn again found None = pure found
list_turn again found (Some p) = p >>= (λ x. again (found ++ x ∷ []))

-- as long as the next symbol says how to go on
unfoldable pub list_from : {A : Type 0} → (Option Symbol → Option (Parser A)) → ℕ → List A → Parser (List A)
list_from next zero found = refuse
list_from next (suc n) found = λ ts. list_turn (list_from next n) found (next (first ts)) ts

abbrev pub until : {A : Type 0} → Mark → Parser A → Option Symbol → Option (Parser A)
until mark p o = if sees_first mark o then None else Some p

abbrev pub after_comma : {A : Type 0} → Parser A → Option Symbol → Option (Parser A)
after_comma p o = if sees_first m.Comma o then Some (expect m.Comma >> p) else None

abbrev pub to_end : {A : Type 0} → Parser A → Option Symbol → Option (Parser A)
to_end p None = None
to_end p (Some x) = Some p

-- up to the mark
unfoldable pub many : {A : Type 0} → Mark → Parser A → Parser (List A)
many mark p = λ ts. list_from (until mark p) (length ts + 1) [] ts

-- what follows a first one, each behind a comma
unfoldable pub more_of : {A : Type 0} → Parser A → A → Parser (List A)
more_of p x = λ ts. list_from (after_comma p) (length ts + 1) (x ∷ []) ts

-- one or more with commas
unfoldable pub some_of : {A : Type 0} → Parser A → Parser (List A)
some_of p = p >>= more_of p

-- with commas, or none before the mark
unfoldable pub any_of : {A : Type 0} → Mark → Parser A → Parser (List A)
any_of mark p = λ ts. if sees mark ts then Ok ([], ts) else some_of p ts
