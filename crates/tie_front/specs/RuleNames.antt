-- The names of the rules of TIE texts.
use Rattle.std.specs.Prelude.{ℕ, ◌-◌, zero, suc, List, [], ◌∷◌, codes}
use Rattle.tie_lexer.specs.declared.LexRule.{LexRule}
use Rattle.tie_lexer.specs.declared.LexRule.TheVariants.{BadByte, OpenComment, BadLiteral}
use Rattle.tie_front.specs.declared.refusal.TieRule.{TieRule}
use Rattle.tie_front.specs.declared.refusal.TieRule.TheVariants.{Lex, Parse, Rule}

abbrev pub lex_name : LexRule → List ℕ
lex_name BadByte = codes "BadByte"
lex_name OpenComment = codes "OpenComment"
lex_name BadLiteral = codes "BadLiteral"

-- rules 1 to 31, in their order
abbrev pub names : List (List ℕ)
names =
    codes "Doubled" ∷ codes "ShortName" ∷ codes "TooMany" ∷ codes "TooManyOpcodes" ∷ codes "TooManyArgs"
    ∷ codes "WidthRange" ∷ codes "DepthRange" ∷ codes "LiteralRange" ∷ codes "TableCount" ∷ codes "ImmRange"
    ∷ codes "FormatWidth" ∷ codes "SlotCount" ∷ codes "SlotList" ∷ codes "SlotOpcode" ∷ codes "LocalDoubled"
    ∷ codes "UnknownName" ∷ codes "Direction" ∷ codes "Recursion" ∷ codes "ArgCount" ∷ codes "UsedBefore"
    ∷ codes "AssignedTwice" ∷ codes "NotAssigned" ∷ codes "SelectRange" ∷ codes "ArgSize" ∷ codes "SizeRange"
    ∷ codes "ScheduleTwice" ∷ codes "ScheduleOrder" ∷ codes "FormatTooWide" ∷ codes "StateTwice" ∷ codes "QueueTwice"
    ∷ codes "TooLarge" ∷ []

-- the name at a place of some, and none behind the last one
abbrev pub name_at : ℕ → List (List ℕ) → List ℕ
name_at n [] = []
name_at zero (name ∷ rest) = name
name_at (suc n) (name ∷ rest) = name_at n rest

abbrev pub rule_name : TieRule → List ℕ
rule_name (Lex rule) = lex_name rule
rule_name Parse = codes "Parse"
rule_name (Rule number) = name_at (number - 1) names
