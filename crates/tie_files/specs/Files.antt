-- Files of a shelf: what a file is, and how it is refused.
use Rattle.std.specs.Prelude.{◌≡◌, ℕ, ◌≤◌, List, length, Option, Ok, Err}
use Rattle.tie_io.specs.Counts.{Rose}
use Rattle.tie_io.specs.Reading.{IsFile, IsLonger}
use Rattle.hex_text.specs.declared.hexadecimal.HexRule.{HexRule}
use Rattle.hex_text.specs.Hexadecimal.{hex_bytes}
use Rattle.tie_desc.specs.Description.{Description}
use Rattle.tie_front.specs.declared.refusal.TieRule.{TieRule}
use Rattle.tie_front.specs.Front.{IsDescriptionOf, IsRefused}
use Rattle.asm_lines.specs.declared.refusal.AsmRule.{AsmRule}
use Rattle.xt_asm.specs.Assembly.{assembly}
use Rattle.tie_files.specs.declared.refusal.Refusal.{Refusal}
use Rattle.tie_files.specs.declared.refusal.Refusal.TheVariants.{ReadFault, TooLong, TieRefused, AsmRefused, HexRefused}

-- a shelf over a call: what it holds, where it tells it, and its counts of faults before the call and after it
pub record Shelved : Type 0 where
  pub holds : List ℕ → Option (List ℕ)
  pub before : List ℕ → ℕ
  pub after : List ℕ → ℕ

abbrev pub shelved : {D : Type 0} → (D → List ℕ → Option (List ℕ)) → (D → List ℕ → ℕ) → D → D → Shelved
shelved holds faults old new = record { holds = holds old; before = faults old; after = faults new }

-- ---- what a file is

-- a file of at most 1,048,576 bytes has this text
abbrev pub IsTextOf : Shelved → List ℕ → List ℕ → Type 0
IsTextOf s name text = (length text ≤ 1048576) × IsFile (s.holds name) text

-- the file is a TIE text with this description
pub record IsTie (s : Shelved) (name : List ℕ) (d : Description) : Type 0 where
  pub text : List ℕ
  pub read : IsTextOf s name text
  pub is : IsDescriptionOf text d

-- the file is hexadecimal text of this image, of at most 65,536 bytes
pub record IsHex (s : Shelved) (name : List ℕ) (image : List ℕ) : Type 0 where
  pub text : List ℕ
  pub read : IsTextOf s name text
  pub is : hex_bytes 65536 text ≡ Ok image

-- the file is a source, and this is its image by a description
pub record IsSource (s : Shelved) (d : Description) (name : List ℕ) (image : List ℕ) : Type 0 where
  pub text : List ℕ
  pub read : IsTextOf s name text
  pub is : assembly d text ≡ Ok image

-- ---- how a text is refused

abbrev pub RefusesTie : List ℕ → List ℕ → Refusal → Type 0
RefusesTie name text refusal = (rule : TieRule) × (place : ℕ) × IsRefused text rule place × (refusal ≡ TieRefused name rule place)

abbrev pub RefusesHex : List ℕ → List ℕ → Refusal → Type 0
RefusesHex name text refusal = (rule : HexRule) × (place : ℕ) × (hex_bytes 65536 text ≡ Err (rule, place)) × (refusal ≡ HexRefused name rule place)

abbrev pub RefusesSource : Description → List ℕ → List ℕ → Refusal → Type 0
RefusesSource d name text refusal =
    (rule : AsmRule) × (line : ℕ) × (column : ℕ) × (assembly d text ≡ Err (rule, line, column)) × (refusal ≡ AsmRefused name rule line column)

-- a file is refused: its count of faults rose, or it has more than 1,048,576 bytes, or its text is refused
pub data IsWrong (s : Shelved) (name : List ℕ) (Refuses : List ℕ → Refusal → Type 0) (refusal : Refusal) : Type 0 where
  ReadFails : refusal ≡ ReadFault name → Rose (s.before name) (s.after name) → IsWrong s name Refuses refusal
  IsTooLong : refusal ≡ TooLong name → (front : List ℕ) → IsLonger (s.holds name) 1048576 front → IsWrong s name Refuses refusal
  TextIsWrong : (text : List ℕ) → IsTextOf s name text → Refuses text refusal → IsWrong s name Refuses refusal
