-- How words are read.
use Rattle.std.specs.Prelude.{ℕ, ◌+◌, ◌||◌, ◌==◌, nat_lt, if◌then◌else◌, List, [], ◌∷◌, length, Option, Some, None}
use Rattle.tie_words.specs.declared.command.Command.{Command}
use Rattle.tie_words.specs.declared.command.Command.TheVariants as commands
use Rattle.tie_words.specs.Words.{Meant, Check, Asm, Dis, Exec, ExecTie, Ref, Strict}

-- a command by the words in it
abbrev pub seen : Command → Meant
seen (commands.Check tie) = Check tie.now
seen (commands.Asm tie source) = Asm tie.now source.now
seen (commands.Dis tie hex) = Dis tie.now hex.now
seen (commands.Exec hex) = Exec hex.now
seen (commands.ExecTie hex tie) = ExecTie hex.now tie.now
seen (commands.Ref net) = Ref net.now
seen (commands.Strict net) = Strict net.now

-- of names numbered from here on, the number of the first one that is empty or one too many, or that is missing
abbrev pub wrong_from : ℕ → ℕ → ℕ → List (List ℕ) → Option ℕ
wrong_from least most number [] = if nat_lt number least then Some number else None
wrong_from least most number (name ∷ names) = if number == most || length name == 0 then Some number else wrong_from least most (number + 1) names
