-- Trees that were read from a text, and that their names are words.
use Rattle.std.specs.Prelude.{ℕ, List, [], ◌∷◌, ◌++◌, map, All, IsTrue}
use Rattle.tie_lexer.specs.declared.Token.{Token}
use Rattle.tie_lexer.specs.Tokens.{AreTokens}
use Rattle.tie_ast.specs.Parsing.{IsTreeOf}
use Rattle.tie_desc.specs.Names.{is_word}
use Rattle.tie_grammar.specs.declared.symbol.Leaf.{Leaf}
use Rattle.tie_grammar.specs.declared.tree.Decl.{Decl}
use Rattle.tie_grammar.specs.declared.tree.Decl.TheVariants as d
use Rattle.tie_grammar.specs.declared.tree.Tree.{Tree}

-- the tree of the tokens of some text
abbrev pub IsRead : Tree → Type 0
IsRead t = (text : List ℕ) × (tokens : List Token) × AreTokens text tokens × IsTreeOf text tokens t

-- the names in a declaration that a description keeps: its own, short names, those of operands, slots and opcodes
abbrev pub kept_names : Decl → List Leaf
kept_names (d.State x) = x.name ∷ []
kept_names (d.Regfile x) = x.name ∷ x.short ∷ []
kept_names (d.QueueIn x) = x.name ∷ []
kept_names (d.QueueOut x) = x.name ∷ []
kept_names (d.Table x) = x.name ∷ []
kept_names (d.ImmediateRange x) = x.name ∷ []
kept_names (d.Function x) = x.name ∷ []
kept_names (d.Operation x) = x.name ∷ map (λ a. a.name) x.arguments ++ map (λ l. l.name) x.links
kept_names (d.Schedule x) = x.name ∷ []
kept_names (d.Format x) = x.name ∷ x.slots
kept_names (d.SlotOpcodes x) = x.slot ∷ x.opcodes

-- each of them is a letter, then letters, digits and `_`, at most 32 bytes
abbrev pub NamesAreWords : Tree → Type 0
NamesAreWords t = All (λ decl. All (λ n. IsTrue (is_word n.bytes)) (kept_names decl)) t.declarations
