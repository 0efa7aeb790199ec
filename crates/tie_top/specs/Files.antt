-- The files of a command: in which order they are read, what each one must be, and the first one that is wrong.
use Rattle.std.specs.Prelude.{◌⊎◌, ℕ, List, [], ◌∷◌}
use Rattle.tie_desc.specs.Description.{Description}
use Rattle.tie_report.specs.net_parts.declared.parts.Net.{Net}
use Rattle.tie_words.specs.Words.{Meant, Check, Asm, Dis, Exec, ExecTie, Ref, Strict}
use Rattle.load_law.specs.tie_files.declared.refusal.Refusal.{Refusal}
use Rattle.load_law.specs.tie_files.Files.{Shelved, IsTie, IsHex, IsSource, IsWrong, RefusesTie, RefusesHex, RefusesSource}
use Rattle.load_law.specs.net_load.Loaded.{IsNetOf}
use Rattle.load_law.specs.net_load.Steps.{IsRefusedNet}

-- a file, and what it must be: a TIE text, an image, a source for the TIE text of a name, or a network with the files that it names
pub data File : Type 0 where
  Tie : (name : List ℕ) → File
  Hex : (name : List ℕ) → File
  Source : (tie name : List ℕ) → File
  Network : (name : List ℕ) → File

-- the files of a command in the order in which they are read
abbrev pub files : Meant → List File
files (Check tie) = Tie tie ∷ []
files (Asm tie source) = Tie tie ∷ Source tie source ∷ []
files (Dis tie hex) = Tie tie ∷ Hex hex ∷ []
files (Exec hex) = Hex hex ∷ []
files (ExecTie hex tie) = Hex hex ∷ Tie tie ∷ []
files (Ref net) = Network net ∷ []
files (Strict net) = Network net ∷ []

-- the file is what it must be; a source has an image by the description of its TIE text
abbrev pub IsAccepted : Shelved → File → Type 0
IsAccepted s (Tie name) = (d : Description) × IsTie s name d
IsAccepted s (Hex name) = (image : List ℕ) × IsHex s name image
IsAccepted s (Source tie name) = (d : Description) × (image : List ℕ) × IsTie s tie d × IsSource s d name image
IsAccepted s (Network name) = (net : Net) × IsNetOf s name net

-- the text of a source is refused by the description of its TIE text
abbrev pub RefusesBy : Shelved → List ℕ → List ℕ → List ℕ → Refusal → Type 0
RefusesBy s tie name text refusal = (d : Description) × IsTie s tie d × RefusesSource d name text refusal

-- the file is wrong, or of a network a file that it names
abbrev pub IsWrongFile : Shelved → File → Refusal → Type 0
IsWrongFile s (Tie name) refusal = IsWrong s name (RefusesTie name) refusal
IsWrongFile s (Hex name) refusal = IsWrong s name (RefusesHex name) refusal
IsWrongFile s (Source tie name) refusal = IsWrong s name (RefusesBy s tie name) refusal
IsWrongFile s (Network name) refusal = IsRefusedNet s name refusal

-- the refusal is that of the first file that is wrong: all before it are accepted
abbrev pub FirstWrong : Shelved → List File → Refusal → Type 0
FirstWrong s [] refusal = ⊥
FirstWrong s (file ∷ rest) refusal = IsWrongFile s file refusal ⊎ (IsAccepted s file × FirstWrong s rest refusal)
