-- What a tree spells, and which trees the grammar has.
use Rattle.std.specs.Prelude.{◌≡◌, ℕ, ◌≤◌, ◌<◌, List, [], ◌∷◌, ◌++◌, Option, Some, None, IfSome, codes}
use Rattle.std.specs.List.{flat_map, AllByRecursion}
use Rattle.tie_grammar.specs.declared.symbol.Leaf.{Leaf}
use Rattle.tie_grammar.specs.declared.symbol.Mark.TheVariants as m
use Rattle.tie_grammar.specs.declared.symbol.Sign.{Sign}
use Rattle.tie_grammar.specs.declared.symbol.Sign.TheVariants as sign
use Rattle.tie_grammar.specs.declared.symbol.Direction.TheVariants as way
use Rattle.tie_grammar.specs.declared.symbol.Symbol.{Symbol}
use Rattle.tie_grammar.specs.declared.symbol.Symbol.TheVariants as s
use Rattle.tie_grammar.specs.declared.tree.Literal.{Literal}
use Rattle.tie_grammar.specs.declared.tree.Literal.TheVariants as l
use Rattle.tie_grammar.specs.declared.tree.UnaryOp.{UnaryOp}
use Rattle.tie_grammar.specs.declared.tree.UnaryOp.TheVariants as unary
use Rattle.tie_grammar.specs.declared.tree.BinaryOp.{BinaryOp}
use Rattle.tie_grammar.specs.declared.tree.BinaryOp.TheVariants as op
use Rattle.tie_grammar.specs.declared.tree.Expr.{Expr, Literal as Lit, Name, Select, Index', Call', Tie', Paren', Concat', Repeat', Unary', Binary', Conditional', Row_of-Expr, more_of-Expr, end_of-Expr}
use Rattle.tie_grammar.specs.declared.tree.Range.{Range}
use Rattle.tie_grammar.specs.declared.tree.Int.{Int}
use Rattle.tie_grammar.specs.declared.tree.Item.{Item}
use Rattle.tie_grammar.specs.declared.tree.Item.TheVariants as i
use Rattle.tie_grammar.specs.declared.tree.ScheduleItem.{ScheduleItem}
use Rattle.tie_grammar.specs.declared.tree.ScheduleItem.TheVariants as si
use Rattle.tie_grammar.specs.declared.tree.Parameter.{Parameter}
use Rattle.tie_grammar.specs.declared.tree.Argument.{Argument}
use Rattle.tie_grammar.specs.declared.tree.Link.{Link}
use Rattle.tie_grammar.specs.declared.tree.Function.{Function}
use Rattle.tie_grammar.specs.declared.tree.Operation.{Operation}
use Rattle.tie_grammar.specs.declared.tree.Schedule.{Schedule}
use Rattle.tie_grammar.specs.declared.tree.Decl.{Decl}
use Rattle.tie_grammar.specs.declared.tree.Decl.TheVariants as d
use Rattle.tie_grammar.specs.declared.tree.Tree.{Tree}

-- ---- parts

abbrev pub name : Leaf → List Symbol
name leaf = s.Name leaf ∷ []

abbrev pub literal : Literal → List Symbol
literal (l.Number leaf) = s.Number leaf ∷ []
literal (l.Sized leaf) = s.Sized leaf ∷ []

-- nothing, or what the part spells
abbrev pub optional : {A : Type 0} → (A → List Symbol) → Option A → List Symbol
optional f None = []
optional f (Some x) = f x

-- the parts of a list, each behind a comma
abbrev pub behind_comma : {A : Type 0} → (A → List Symbol) → A → List Symbol
behind_comma f x = s.Mark m.Comma ∷ f x

-- a list with commas, which may be empty
abbrev pub commas : {A : Type 0} → (A → List Symbol) → List A → List Symbol
commas f [] = []
commas f (x ∷ xs) = f x ++ flat_map (behind_comma f) xs

-- a list that is not empty
abbrev pub IsFilled : {A : Type 0} → List A → Type 0
IsFilled [] = ⊥
IsFilled (x ∷ xs) = Unit {0}

-- ---- expressions

abbrev pub unary_sign : UnaryOp → Sign
unary_sign unary.Not = sign.Tilde
unary_sign unary.LogicalNot = sign.Bang
unary_sign unary.ReduceAnd = sign.Amp
unary_sign unary.ReduceOr = sign.Bar
unary_sign unary.ReduceXor = sign.Caret

abbrev pub binary_sign : BinaryOp → Sign
binary_sign op.LogicalOr = sign.BarBar
binary_sign op.LogicalAnd = sign.AmpAmp
binary_sign op.Or = sign.Bar
binary_sign op.Xor = sign.Caret
binary_sign op.And = sign.Amp
binary_sign op.Equal = sign.EqualEqual
binary_sign op.NotEqual = sign.BangEqual
binary_sign op.Less = sign.Less
binary_sign op.LessEqual = sign.LessEqual
binary_sign op.Greater = sign.Greater
binary_sign op.GreaterEqual = sign.GreaterEqual
binary_sign op.ShiftLeft = sign.LessLess
binary_sign op.ShiftRight = sign.GreaterGreater
binary_sign op.Add = sign.Plus
binary_sign op.Subtract = sign.Minus
binary_sign op.Multiply = sign.Star

-- how tightly an operator binds
abbrev pub level : BinaryOp → ℕ
level op.LogicalOr = 1
level op.LogicalAnd = 2
level op.Or = 3
level op.Xor = 4
level op.And = 5
level op.Equal = 6
level op.NotEqual = 6
level op.Less = 7
level op.LessEqual = 7
level op.Greater = 7
level op.GreaterEqual = 7
level op.ShiftLeft = 8
level op.ShiftRight = 8
level op.Add = 9
level op.Subtract = 9
level op.Multiply = 10

abbrev mutual
  pub expr : Expr → List Symbol
  expr (Lit x) = literal x
  expr (Name n) = name n
  expr (Select n high low) = s.Name n ∷ s.Mark m.Bracket ∷ s.Number high ∷ s.Mark m.Colon ∷ s.Number low ∷ s.Mark m.EndBracket ∷ []
  expr (Index' n _ (more_of-Expr x end_of-Expr)) = s.Name n ∷ s.Mark m.Bracket ∷ (expr x ++ s.Mark m.EndBracket ∷ [])
  expr (Call' n p _ row) = s.Name n ∷ s.Paren p ∷ (exprs row ++ s.Mark m.EndParen ∷ [])
  expr (Tie' w p _ row) = s.Tie w ∷ s.Paren p ∷ (exprs row ++ s.Mark m.EndParen ∷ [])
  expr (Paren' p _ (more_of-Expr x end_of-Expr)) = s.Paren p ∷ (expr x ++ s.Mark m.EndParen ∷ [])
  expr (Concat' p _ row) = s.Brace p ∷ (exprs row ++ s.Mark m.EndBrace ∷ [])
  expr (Repeat' p n q _ (more_of-Expr x end_of-Expr)) = s.Brace p ∷ s.Number n ∷ s.Brace q ∷ (expr x ++ s.Mark m.EndBrace ∷ s.Mark m.EndBrace ∷ [])
  expr (Unary' o p _ (more_of-Expr x end_of-Expr)) = s.Sign (unary_sign o) p ∷ expr x
  expr (Binary' o _ (more_of-Expr a end_of-Expr) _ (more_of-Expr b end_of-Expr)) = expr a ++ s.Sign (binary_sign o.op) o.place ∷ expr b
  expr (Conditional' _ (more_of-Expr c end_of-Expr) _ (more_of-Expr a end_of-Expr) _ (more_of-Expr b end_of-Expr)) =
      expr c ++ s.Mark m.Question ∷ (expr a ++ s.Mark m.Colon ∷ expr b)

  -- with commas between
  pub exprs : {n : _} → Row_of-Expr n → List Symbol
  exprs end_of-Expr = []
  exprs (more_of-Expr x row) = expr x ++ more_exprs row

  -- each behind a comma
  pub more_exprs : {n : _} → Row_of-Expr n → List Symbol
  more_exprs end_of-Expr = []
  more_exprs (more_of-Expr x row) = s.Mark m.Comma ∷ (expr x ++ more_exprs row)

-- how tightly an expression holds together: an operator of its own level or below splits no part of it
abbrev pub tightness : Expr → ℕ
tightness (Conditional' _ _ _ _ _ _) = 0
tightness (Binary' o _ _ _ _) = level o.op
tightness _ = 11

-- some expression
abbrev pub SomeExpr : {n : _} → Row_of-Expr n → Type 0
SomeExpr end_of-Expr = ⊥
SomeExpr (more_of-Expr x row) = Unit {0}

-- round brackets stand wherever operators group otherwise than by their levels and to the left
abbrev mutual
  pub Groups : Expr → Type 0
  Groups (Lit x) = Unit {0}
  Groups (Name n) = Unit {0}
  Groups (Select n high low) = Unit {0}
  Groups (Index' n _ (more_of-Expr x end_of-Expr)) = Groups x
  Groups (Call' n p _ row) = AllGroup row
  Groups (Tie' w p _ row) = SomeExpr row × AllGroup row
  Groups (Paren' p _ (more_of-Expr x end_of-Expr)) = Groups x
  Groups (Concat' p _ row) = SomeExpr row × AllGroup row
  Groups (Repeat' p n q _ (more_of-Expr x end_of-Expr)) = Groups x
  Groups (Unary' o p _ (more_of-Expr x end_of-Expr)) = (11 ≤ tightness x) × Groups x
  Groups (Binary' o _ (more_of-Expr a end_of-Expr) _ (more_of-Expr b end_of-Expr)) =
      (level o.op ≤ tightness a) × (level o.op < tightness b) × Groups a × Groups b
  Groups (Conditional' _ (more_of-Expr c end_of-Expr) _ (more_of-Expr a end_of-Expr) _ (more_of-Expr b end_of-Expr)) =
      (1 ≤ tightness c) × Groups c × Groups a × Groups b

  pub AllGroup : {n : _} → Row_of-Expr n → Type 0
  AllGroup end_of-Expr = Unit {0}
  AllGroup (more_of-Expr x row) = Groups x × AllGroup row

-- ---- items

abbrev pub range : Range → List Symbol
range r = s.Mark m.Bracket ∷ s.Number r.high ∷ s.Mark m.Colon ∷ s.Number r.zero ∷ s.Mark m.EndBracket ∷ []

abbrev pub maybe_range : Option Range → List Symbol
maybe_range r = optional range r

-- the low end of a range is the token `0`
abbrev pub IsRange : Option Range → Type 0
IsRange r = IfSome r (λ r. r.zero.bytes ≡ codes "0")

abbrev pub item : Item → List Symbol
item (i.Wire r n) = s.Mark m.Wire ∷ (maybe_range r ++ s.Name n ∷ s.Mark m.Semicolon ∷ [])
item (i.WireSet r n x) = s.Mark m.Wire ∷ (maybe_range r ++ s.Name n ∷ s.Mark m.Equals ∷ (expr x ++ s.Mark m.Semicolon ∷ []))
item (i.Assign n x) = s.Mark m.Assign ∷ s.Name n ∷ s.Mark m.Equals ∷ (expr x ++ s.Mark m.Semicolon ∷ [])

abbrev pub IsItem : Item → Type 0
IsItem (i.Wire r n) = IsRange r
IsItem (i.WireSet r n x) = IsRange r × Groups x
IsItem (i.Assign n x) = Groups x

abbrev pub schedule_item : ScheduleItem → List Symbol
schedule_item (si.Use names stage) = s.Mark m.Use ∷ (commas name names ++ s.Stage stage ∷ s.Mark m.Semicolon ∷ [])
schedule_item (si.Def names stage) = s.Mark m.Def ∷ (commas name names ++ s.Stage stage ∷ s.Mark m.Semicolon ∷ [])

abbrev pub IsScheduleItem : ScheduleItem → Type 0
IsScheduleItem (si.Use names stage) = IsFilled names
IsScheduleItem (si.Def names stage) = IsFilled names

-- ---- declarations

abbrev pub minus : ℕ → List Symbol
minus place = s.Sign sign.Minus place ∷ []

abbrev pub int : Int → List Symbol
int x = optional minus x.minus ++ s.Number x.number ∷ []

abbrev pub parameter : Parameter → List Symbol
parameter x = maybe_range x.range ++ s.Name x.name ∷ []

abbrev pub IsParameter : Parameter → Type 0
IsParameter x = IsRange x.range

abbrev pub argument : Argument → List Symbol
argument x = s.Direction x.direction ∷ s.Name x.kind ∷ s.Name x.name ∷ []

abbrev pub link : Link → List Symbol
link x = s.Direction x.direction ∷ s.Name x.name ∷ []

abbrev pub function : Function → List Symbol
function f =
    s.Mark m.Function ∷ (maybe_range f.range ++ s.Name f.name ∷ s.Paren f.paren ∷ (commas parameter f.parameters ++ s.Mark m.EndParen ∷ s.Brace f.brace
    ∷ (flat_map item f.items ++ s.Mark m.EndBrace ∷ [])))

abbrev pub operation : Operation → List Symbol
operation o =
    s.Mark m.Operation ∷ s.Name o.name ∷ s.Brace o.arguments_brace ∷ (commas argument o.arguments ++ s.Mark m.EndBrace ∷ s.Brace o.links_brace
    ∷ (commas link o.links ++ s.Mark m.EndBrace ∷ s.Brace o.items_brace ∷ (flat_map item o.items ++ s.Mark m.EndBrace ∷ [])))

abbrev pub schedule : Schedule → List Symbol
schedule x =
    s.Mark m.Schedule ∷ s.Name x.name ∷ s.Brace x.operations_brace ∷ (commas name x.operations ++ s.Mark m.EndBrace ∷ s.Brace x.items_brace
    ∷ (flat_map schedule_item x.items ++ s.Mark m.EndBrace ∷ []))

abbrev pub decl : Decl → List Symbol
decl (d.State x) = s.Mark m.State ∷ s.Name x.name ∷ s.Number x.width ∷ optional literal x.reset
decl (d.Regfile x) = s.Mark m.Regfile ∷ s.Name x.name ∷ s.Number x.width ∷ s.Number x.depth ∷ s.Name x.short ∷ []
decl (d.QueueIn x) = s.Mark m.Queue ∷ s.Name x.name ∷ s.Number x.width ∷ s.Direction way.In ∷ []
decl (d.QueueOut x) = s.Mark m.Queue ∷ s.Name x.name ∷ s.Number x.width ∷ s.Direction way.Out ∷ []
decl (d.Table x) = s.Mark m.Table ∷ s.Name x.name ∷ s.Number x.width ∷ s.Number x.depth ∷ s.Brace x.brace ∷ (commas literal x.entries ++ s.Mark m.EndBrace ∷ [])
decl (d.ImmediateRange x) = s.Mark m.ImmediateRange ∷ s.Name x.name ∷ (int x.low ++ int x.high ++ s.Number x.step ∷ [])
decl (d.Function x) = function x
decl (d.Operation x) = operation x
decl (d.Schedule x) = schedule x
decl (d.Format x) = s.Mark m.Format ∷ s.Name x.name ∷ s.Number x.width ∷ s.Brace x.brace ∷ (commas name x.slots ++ s.Mark m.EndBrace ∷ [])
decl (d.SlotOpcodes x) = s.Mark m.SlotOpcodes ∷ s.Name x.slot ∷ s.Brace x.brace ∷ (commas name x.opcodes ++ s.Mark m.EndBrace ∷ [])

abbrev pub IsDecl : Decl → Type 0
IsDecl (d.Table x) = IsFilled x.entries
IsDecl (d.Function x) = IsRange x.range × AllByRecursion IsParameter x.parameters × AllByRecursion IsItem x.items
IsDecl (d.Operation x) = AllByRecursion IsItem x.items
IsDecl (d.Schedule x) = IsFilled x.operations × AllByRecursion IsScheduleItem x.items
IsDecl (d.Format x) = IsFilled x.slots
IsDecl (d.SlotOpcodes x) = IsFilled x.opcodes
IsDecl _ = Unit {0}

abbrev pub tree : Tree → List Symbol
tree t = flat_map decl t.declarations

abbrev pub IsText : Tree → Type 0
IsText t = AllByRecursion IsDecl t.declarations

-- ---- places

-- the place that a symbol keeps
abbrev pub place_of : Symbol → Option ℕ
place_of (s.Name leaf) = Some leaf.place
place_of (s.Number leaf) = Some leaf.place
place_of (s.Sized leaf) = Some leaf.place
place_of (s.Paren place) = Some place
place_of (s.Brace place) = Some place
place_of (s.Sign sign place) = Some place
place_of (s.Tie word) = Some word.place
place_of (s.Stage word) = Some word.place
place_of (s.Direction way) = None
place_of (s.Mark mark) = None

-- the place of the first one
abbrev pub begins_at : List Symbol → Option ℕ
begins_at [] = None
begins_at (x ∷ xs) = place_of x
