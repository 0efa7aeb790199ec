-- Reading items.
use Rattle.std.specs.Prelude.{ℕ, Option, Some, None, Ok, if◌then◌else◌}
use Rattle.tie_grammar.specs.declared.symbol.Leaf.{Leaf}
use Rattle.tie_grammar.specs.declared.symbol.Mark.TheVariants as m
use Rattle.tie_grammar.specs.declared.symbol.Symbol.{Symbol}
use Rattle.tie_grammar.specs.declared.symbol.Symbol.TheVariants as s
use Rattle.tie_grammar.specs.declared.tree.Range.{Range}
use Rattle.tie_grammar.specs.declared.tree.Item.{Item}
use Rattle.tie_grammar.specs.declared.tree.Item.TheVariants as i
use Rattle.tie_grammar.specs.declared.tree.ScheduleItem.{ScheduleItem}
use Rattle.tie_grammar.specs.declared.tree.ScheduleItem.TheVariants as si
use Rattle.tie_grammar.specs.Reading.{Parser, ◌>>=◌, ◌>>◌, pure, sees, branch, expect, name, number, nought, stage, some_of}
use Rattle.tie_grammar.specs.Exprs.{expr}

unfoldable pub range : Parser (Option Range)
range = do
  expect m.Bracket
  high ← number
  expect m.Colon
  zero ← nought
  expect m.EndBracket
  pure (Some (record { high = high; zero = zero }))

unfoldable pub maybe_range : Parser (Option Range)
maybe_range = λ ts. if sees m.Bracket ts then range ts else Ok (None, ts)

unfoldable pub wire_set : ℕ → Option Range → Leaf → Parser Item
wire_set depth r n = do
  x ← expr depth 0
  expect m.Semicolon
  pure (i.WireSet r n x)

abbrev pub wire_of : ℕ → Option Range → Leaf → Symbol → Option (Parser Item)
wire_of depth r n (s.Mark m.Semicolon) = Some (pure (i.Wire r n))
wire_of depth r n (s.Mark m.Equals) = Some (wire_set depth r n)
wire_of depth r n _ = None

unfoldable pub wire : ℕ → Parser Item
wire depth = do
  r ← maybe_range
  n ← name
  branch (wire_of depth r n)

unfoldable pub assign : ℕ → Parser Item
assign depth = do
  n ← name
  expect m.Equals
  x ← expr depth 0
  expect m.Semicolon
  pure (i.Assign n x)

abbrev pub item_of : ℕ → Symbol → Option (Parser Item)
item_of depth (s.Mark m.Wire) = Some (wire depth)
item_of depth (s.Mark m.Assign) = Some (assign depth)
item_of depth _ = None

abbrev pub item : ℕ → Parser Item
item depth = branch (item_of depth)

unfoldable pub used : Parser ScheduleItem
used = do
  names ← some_of name
  at ← stage
  expect m.Semicolon
  pure (si.Use names at)

unfoldable pub defined : Parser ScheduleItem
defined = do
  names ← some_of name
  at ← stage
  expect m.Semicolon
  pure (si.Def names at)

abbrev pub schedule_item_of : Symbol → Option (Parser ScheduleItem)
schedule_item_of (s.Mark m.Use) = Some used
schedule_item_of (s.Mark m.Def) = Some defined
schedule_item_of _ = None

abbrev pub schedule_item : Parser ScheduleItem
schedule_item = branch schedule_item_of
