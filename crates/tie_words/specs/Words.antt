-- The words that are accepted.
use Rattle.std.specs.Prelude.{◌≡◌, ◌≢◌, ℕ, ◌+◌, ◌<◌, ◌≤◌, codes, List, [], ◌∷◌, ◌++◌, length, take}

-- a command, with the words in it that aren't fixed
pub data Meant : Type 0 where
  Check : (tie : List ℕ) → Meant
  Asm : (tie source : List ℕ) → Meant
  Dis : (tie hex : List ℕ) → Meant
  Exec : (hex : List ℕ) → Meant
  ExecTie : (hex tie : List ℕ) → Meant
  Ref : (net : List ℕ) → Meant
  Strict : (net : List ℕ) → Meant

-- the words of a command
abbrev pub spelled : Meant → List (List ℕ)
spelled (Check tie) = codes "check" ∷ tie ∷ []
spelled (Asm tie source) = codes "asm" ∷ tie ∷ source ∷ []
spelled (Dis tie hex) = codes "dis" ∷ tie ∷ hex ∷ []
spelled (Exec hex) = codes "exec" ∷ hex ∷ []
spelled (ExecTie hex tie) = codes "exec" ∷ hex ∷ tie ∷ []
spelled (Ref net) = codes "ref" ∷ net ∷ []
spelled (Strict net) = codes "strict" ∷ net ∷ []

-- each is a word that isn't empty
abbrev pub AreNames : List (List ℕ) → Type 0
AreNames [] = Unit {0}
AreNames (word ∷ words) = (word ≢ []) × AreNames words

-- the words are those of this command, and none is empty
pub record Accepts (words : List (List ℕ)) (command : Meant) : Type 0 where
  pub spells : words ≡ spelled command
  pub named : AreNames words

-- words of an accepted list from its first one on, up to the whole list
abbrev pub Begins : List (List ℕ) → Type 0
Begins words = (rest : List (List ℕ)) × (command : Meant) × Accepts (words ++ rest) command

-- the words aren't accepted, and this is the number of the first word at which they stop beginning an accepted list, or the count of words where one is missing
pub record WrongAt (words : List (List ℕ)) (place : ℕ) : Type 0 where
  pub refused : (command : Meant) → ¬ Accepts words command
  pub within : place ≤ length words
  pub begins : Begins (take place words)
  pub wrong : place < length words → ¬ Begins (take (place + 1) words)
