-- Reading declarations and texts.
use Rattle.std.specs.Prelude.{ℕ, ◌+◌, List, [], length, Bool, true, false, Option, Some, None, Ok, if◌then◌else◌}
use Rattle.tie_grammar.specs.declared.symbol.Leaf.{Leaf}
use Rattle.tie_grammar.specs.declared.symbol.Mark.{Mark}
use Rattle.tie_grammar.specs.declared.symbol.Mark.TheVariants as m
use Rattle.tie_grammar.specs.declared.symbol.Sign.TheVariants as sign
use Rattle.tie_grammar.specs.declared.symbol.Direction.TheVariants as way
use Rattle.tie_grammar.specs.declared.symbol.Symbol.{Symbol}
use Rattle.tie_grammar.specs.declared.symbol.Symbol.TheVariants as s
use Rattle.tie_grammar.specs.declared.tree.Literal.{Literal}
use Rattle.tie_grammar.specs.declared.tree.Int.{Int}
use Rattle.tie_grammar.specs.declared.tree.Parameter.{Parameter}
use Rattle.tie_grammar.specs.declared.tree.Argument.{Argument}
use Rattle.tie_grammar.specs.declared.tree.Link.{Link}
use Rattle.tie_grammar.specs.declared.tree.Decl.{Decl}
use Rattle.tie_grammar.specs.declared.tree.Decl.TheVariants as d
use Rattle.tie_grammar.specs.declared.tree.Tree.{Tree}
use Rattle.tie_grammar.specs.Reading.{Parser, ◌>>=◌, ◌>>◌, pure, first, one, branch, expect, name, number, literal, paren, brace, direction, list_from, to_end, many, some_of, any_of}
use Rattle.tie_grammar.specs.Items.{maybe_range, item, schedule_item}

abbrev pub sees_literal : Option Symbol → Bool
sees_literal (Some (s.Number leaf)) = true
sees_literal (Some (s.Sized leaf)) = true
sees_literal _ = false

unfoldable pub some_literal : Parser (Option Literal)
some_literal = do
  x ← literal
  pure (Some x)

unfoldable pub maybe_literal : Parser (Option Literal)
maybe_literal = λ ts. if sees_literal (first ts) then some_literal ts else Ok (None, ts)

abbrev pub minus_of : Symbol → Option ℕ
minus_of (s.Sign sign.Minus place) = Some place
minus_of _ = None

abbrev pub sees_minus : Option Symbol → Bool
sees_minus (Some (s.Sign sign.Minus place)) = true
sees_minus _ = false

unfoldable pub some_minus : Parser (Option ℕ)
some_minus = do
  p ← one minus_of
  pure (Some p)

unfoldable pub maybe_minus : Parser (Option ℕ)
maybe_minus = λ ts. if sees_minus (first ts) then some_minus ts else Ok (None, ts)

unfoldable pub int : Parser Int
int = do
  p ← maybe_minus
  n ← number
  pure (record { minus = p; number = n })

unfoldable pub parameter : Parser Parameter
parameter = do
  r ← maybe_range
  n ← name
  pure (record { range = r; name = n })

unfoldable pub argument : Parser Argument
argument = do
  w ← direction
  k ← name
  n ← name
  pure (record { direction = w; kind = k; name = n })

unfoldable pub link : Parser Link
link = do
  w ← direction
  n ← name
  pure (record { direction = w; name = n })

unfoldable pub state : Parser Decl
state = do
  n ← name
  w ← number
  r ← maybe_literal
  pure (d.State (record { name = n; width = w; reset = r }))

unfoldable pub regfile : Parser Decl
regfile = do
  n ← name
  w ← number
  depth ← number
  short ← name
  pure (d.Regfile (record { name = n; width = w; depth = depth; short = short }))

abbrev pub queue_of : Leaf → Leaf → Symbol → Option (Parser Decl)
queue_of n w (s.Direction way.In) = Some (pure (d.QueueIn (record { name = n; width = w })))
queue_of n w (s.Direction way.Out) = Some (pure (d.QueueOut (record { name = n; width = w })))
queue_of n w _ = None

unfoldable pub queue : Parser Decl
queue = do
  n ← name
  w ← number
  branch (queue_of n w)

unfoldable pub table : Parser Decl
table = do
  n ← name
  w ← number
  depth ← number
  p ← brace
  xs ← some_of literal
  expect m.EndBrace
  pure (d.Table (record { name = n; width = w; depth = depth; brace = p; entries = xs }))

unfoldable pub immediate_range : Parser Decl
immediate_range = do
  n ← name
  low ← int
  high ← int
  step ← number
  pure (d.ImmediateRange (record { name = n; low = low; high = high; step = step }))

unfoldable pub function : ℕ → Parser Decl
function depth = do
  r ← maybe_range
  n ← name
  p ← paren
  xs ← any_of m.EndParen parameter
  expect m.EndParen
  q ← brace
  body ← many m.EndBrace (item depth)
  expect m.EndBrace
  pure (d.Function (record { range = r; name = n; paren = p; parameters = xs; brace = q; items = body }))

unfoldable pub operation : ℕ → Parser Decl
operation depth = do
  n ← name
  p ← brace
  xs ← any_of m.EndBrace argument
  expect m.EndBrace
  q ← brace
  ys ← any_of m.EndBrace link
  expect m.EndBrace
  r ← brace
  body ← many m.EndBrace (item depth)
  expect m.EndBrace
  pure (d.Operation (record { name = n; arguments_brace = p; arguments = xs; links_brace = q; links = ys; items_brace = r; items = body }))

unfoldable pub schedule : Parser Decl
schedule = do
  n ← name
  p ← brace
  xs ← some_of name
  expect m.EndBrace
  q ← brace
  body ← many m.EndBrace schedule_item
  expect m.EndBrace
  pure (d.Schedule (record { name = n; operations_brace = p; operations = xs; items_brace = q; items = body }))

unfoldable pub format : Parser Decl
format = do
  n ← name
  w ← number
  p ← brace
  xs ← some_of name
  expect m.EndBrace
  pure (d.Format (record { name = n; width = w; brace = p; slots = xs }))

unfoldable pub slot_opcodes : Parser Decl
slot_opcodes = do
  n ← name
  p ← brace
  xs ← some_of name
  expect m.EndBrace
  pure (d.SlotOpcodes (record { slot = n; brace = p; opcodes = xs }))

abbrev pub decl_by : ℕ → Mark → Option (Parser Decl)
decl_by depth m.State = Some state
decl_by depth m.Regfile = Some regfile
decl_by depth m.Queue = Some queue
decl_by depth m.Table = Some table
decl_by depth m.ImmediateRange = Some immediate_range
decl_by depth m.Function = Some (function depth)
decl_by depth m.Operation = Some (operation depth)
decl_by depth m.Schedule = Some schedule
decl_by depth m.Format = Some format
decl_by depth m.SlotOpcodes = Some slot_opcodes
decl_by depth _ = None

abbrev pub decl_of : ℕ → Symbol → Option (Parser Decl)
decl_of depth (s.Mark mark) = decl_by depth mark
decl_of depth _ = None

abbrev pub decl : ℕ → Parser Decl
decl depth = branch (decl_of depth)

unfoldable pub decls : ℕ → Parser (List Decl)
decls depth = λ ts. list_from (to_end (decl depth)) (length ts + 1) [] ts

unfoldable pub text : ℕ → Parser Tree
text depth = do
  xs ← decls depth
  pure (record { declarations = xs })
