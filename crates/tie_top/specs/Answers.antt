-- The meaning of a call in one fact, and the cause of each status.
use Rattle.std.specs.Prelude.{◌≡◌, ◌⊎◌, ℕ, List, [], ◌∷◌, map, string_bytes, Option, Ok, Err}
use Rattle.std.specs.declared.string.String.{String}
use Rattle.tie_io.specs.Counts.{Rose}
use Rattle.hex_text.specs.declared.hexadecimal.HexRule.{HexRule}
use Rattle.asm_law.specs.tie_front.declared.refusal.TieRule.{TieRule}
use Rattle.asm_lines.specs.declared.refusal.AsmRule.{AsmRule}
use Rattle.tie_words.specs.Words.{Meant, Accepts, WrongAt}
use Rattle.tie_top.specs.declared.status.Status.{Status}
use Rattle.tie_top.specs.declared.status.Status.TheVariants as statuses
use Rattle.load_law.specs.tie_files.declared.refusal.Refusal.{Refusal}
use Rattle.load_law.specs.tie_files.declared.refusal.Refusal.TheVariants.{Usage, ReadFault, TooLong, TieRefused, AsmRefused, HexRefused, NetRefused}
use Rattle.tie_top.specs.declared.report.Report.{Report}
use Rattle.tie_top.specs.Printing.{line_of}
use Rattle.load_law.specs.net_toml.declared.refusal.NetRule.{NetRule}
use Rattle.load_law.specs.tie_files.Files.{Shelved, shelved}
use Rattle.load_law.specs.net_load.Told.{IsTold, IsSteady, IsToldNet, IsSteadyNet}
use Rattle.tie_top.specs.Files.{File, Tie, Hex, Source, Network, files, IsAccepted, FirstWrong}
use Rattle.tie_top.specs.Meaning.{Verdict, Yields, Means, UnlessMemory}
use Rattle.tie_top.specs.Delivery.{Sunk, sunk, Delivered, Whole, Faulted}

-- a call: its words, the shelf and the two sinks over it, and its status
pub record Call : Type 0 where
  pub words : List (List ℕ)
  pub shelf : Shelved
  pub out : Sunk
  pub err : Sunk
  pub status : Status

-- the call of a shelf of type D and two sinks of type E, by their meanings
abbrev pub called : {D E Y : Type 0} → (D → List ℕ → Option (List ℕ)) → (D → List ℕ → ℕ) → (E → Option (List ℕ)) → (E → ℕ)
    → List (String Y) → D → D → E → E → E → E → Status → Call
called holds reading written writing words shelf shelf' out out' err err' status = record {
  words = map string_bytes words;
  shelf = shelved holds reading shelf shelf';
  out = sunk written writing out out';
  err = sunk written writing err err';
  status = status;
}

-- the verdict is what the words mean over the shelf, or want of memory, and it was written
abbrev pub IsRight : Call → Type 0
IsRight c = (verdict : Verdict) × UnlessMemory (Means c.shelf c.words) verdict × Delivered c.out c.err verdict c.status

-- the line of a refusal is on err, and nothing on out
abbrev pub Says : Call → Refusal → Type 0
Says c refusal = Whole c.err c.out (line_of refusal)

-- Usage: exactly where the words aren't accepted
abbrev pub UsageIsRight : Call → Type 0
UsageIsRight c =
    (c.status ≡ statuses.Usage → (place : ℕ) × WrongAt c.words place × Says c (Usage place))
    × ((place : ℕ) → WrongAt c.words place → Delivered c.out c.err (Err (Usage place)) c.status)

-- ---- refusals of files

-- the words are those of a command, the first of whose files that is wrong is refused so, and its line is on err
abbrev pub IsRefusedSo : Call → Refusal → Type 0
IsRefusedSo c refusal = (command : Meant) × Accepts c.words command × FirstWrong c.shelf (files command) refusal × Says c refusal

-- ReadFault: only where the count of the file rose
abbrev pub ReadFaultIsRight : Call → Type 0
ReadFaultIsRight c =
    c.status ≡ statuses.ReadFault → (name : List ℕ) × Rose (c.shelf.before name) (c.shelf.after name) × IsRefusedSo c (ReadFault name)

-- the shelf tells a file, and of a network the files that it names
abbrev pub IsToldFile : Shelved → File → Type 0
IsToldFile s (Tie name) = IsTold s name
IsToldFile s (Hex name) = IsTold s name
IsToldFile s (Source tie name) = IsTold s name
IsToldFile s (Network name) = IsToldNet s name

abbrev pub AreTold : Shelved → List File → Type 0
AreTold s [] = Unit {0}
AreTold s (file ∷ rest) = IsToldFile s file × AreTold s rest

-- reading a file of the command failed, and its count rose; all files before it are accepted
abbrev pub FailsToRead : Call → Meant → Type 0
FailsToRead c command = (name : List ℕ) × FirstWrong c.shelf (files command) (ReadFault name) × Delivered c.out c.err (Err (ReadFault name)) c.status

-- the files of the command are told, and the first wrong one is refused so: then this verdict was written, or a read failed
abbrev pub MustRefuse : Call → Refusal → Type 0
MustRefuse c refusal =
    (command : Meant) → Accepts c.words command → AreTold c.shelf (files command) → FirstWrong c.shelf (files command) refusal
    → Delivered c.out c.err (Err refusal) c.status ⊎ FailsToRead c command

-- TooLong: exactly where a file has more than 1,048,576 bytes
abbrev pub TooLongIsRight : Call → Type 0
TooLongIsRight c =
    (c.status ≡ statuses.TooLong → (name : List ℕ) × IsRefusedSo c (TooLong name))
    × ((name : List ℕ) → MustRefuse c (TooLong name))

-- TieRefused: exactly where a TIE text isn't lexed, isn't parsed or breaks a rule
abbrev pub TieRefusedIsRight : Call → Type 0
TieRefusedIsRight c =
    (c.status ≡ statuses.TieRefused → (name : List ℕ) × (rule : TieRule) × (place : ℕ) × IsRefusedSo c (TieRefused name rule place))
    × ((name : List ℕ) (rule : TieRule) (place : ℕ) → MustRefuse c (TieRefused name rule place))

-- NetRefused: exactly where a network file is refused, or a file that it names breaks a rule of networks
abbrev pub NetRefusedIsRight : Call → Type 0
NetRefusedIsRight c =
    (c.status ≡ statuses.NetRefused → (name : List ℕ) × (rule : NetRule) × (key : List ℕ) × IsRefusedSo c (NetRefused name rule key))
    × ((name : List ℕ) (rule : NetRule) (key : List ℕ) → MustRefuse c (NetRefused name rule key))

-- TextRefused: exactly where a text isn't hexadecimal text of at most 65,536 bytes
abbrev pub TextRefusedIsRight : Call → Type 0
TextRefusedIsRight c =
    (c.status ≡ statuses.TextRefused → (name : List ℕ) × (rule : HexRule) × (place : ℕ) × IsRefusedSo c (HexRefused name rule place))
    × ((name : List ℕ) (rule : HexRule) (place : ℕ) → MustRefuse c (HexRefused name rule place))

-- AsmRefused: exactly where a source has no image by the description of its TIE text
abbrev pub AsmRefusedIsRight : Call → Type 0
AsmRefusedIsRight c =
    (c.status ≡ statuses.AsmRefused → (name : List ℕ) × (rule : AsmRule) × (line : ℕ) × (column : ℕ) × IsRefusedSo c (AsmRefused name rule line column))
    × ((name : List ℕ) (rule : AsmRule) (line column : ℕ) → MustRefuse c (AsmRefused name rule line column))

-- ---- reports

-- all files are accepted
abbrev pub AreAccepted : Shelved → List File → Type 0
AreAccepted s [] = Unit {0}
AreAccepted s (file ∷ rest) = IsAccepted s file × AreAccepted s rest

-- the report of the command is whole on out, with its status
abbrev pub Shows : Call → Meant → Report → Type 0
Shows c command report = Yields c.shelf command report × (c.status ≡ report.status) × Whole c.out c.err report.text

-- a status of reports: exactly where the report of the command has it
abbrev pub ReportIsRight : Call → Status → Type 0
ReportIsRight c status =
    (c.status ≡ status → (command : Meant) × (report : Report) × Accepts c.words command × (report.status ≡ status) × Shows c command report)
    × ((command : Meant) → Accepts c.words command → AreTold c.shelf (files command) → AreAccepted c.shelf (files command)
    → ((report : Report) → Yields c.shelf command report → report.status ≡ status)
    → ((report : Report) × (report.status ≡ status) × Yields c.shelf command report × Delivered c.out c.err (Ok report) c.status)
    ⊎ FailsToRead c command ⊎ (c.status ≡ statuses.NoMemory))

-- Done: exactly where the report is no network's, or all processors have halted
abbrev pub DoneIsRight : Call → Type 0
DoneIsRight c = ReportIsRight c statuses.Done

-- Trapped: exactly where a processor of the report has trapped
abbrev pub TrappedIsRight : Call → Type 0
TrappedIsRight c = ReportIsRight c statuses.Trapped

-- Unfinished: exactly where none has trapped, and one has used up its budget
abbrev pub UnfinishedIsRight : Call → Type 0
UnfinishedIsRight c = ReportIsRight c statuses.Unfinished

-- Blocked: exactly where none has trapped or used up its budget, and one waits at a queue
abbrev pub BlockedIsRight : Call → Type 0
BlockedIsRight c = ReportIsRight c statuses.Blocked

-- ---- what else may come

-- WriteFault: only where the count of the sink rose that the text goes to
abbrev pub WriteFaultIsRight : Call → Type 0
WriteFaultIsRight c =
    c.status ≡ statuses.WriteFault →
    ((report : Report) × Means c.shelf c.words (Ok report) × Faulted c.out c.err report.text)
    ⊎ ((refusal : Refusal) × Means c.shelf c.words (Err refusal) × Faulted c.err c.out (line_of refusal))

-- no read of a file failed, and of a network none of the files that it names
abbrev pub IsSteadyFile : Shelved → File → Type 0
IsSteadyFile s (Tie name) = IsSteady s name
IsSteadyFile s (Hex name) = IsSteady s name
IsSteadyFile s (Source tie name) = IsSteady s name
IsSteadyFile s (Network name) = IsSteadyNet s name

abbrev pub NoneRose : Shelved → List File → Type 0
NoneRose s [] = Unit {0}
NoneRose s (file ∷ rest) = IsSteadyFile s file × NoneRose s rest

-- completeness: files that are told and accepted, no fault of theirs and none of out give the command's report, or want of memory
abbrev pub IsComplete : Call → Type 0
IsComplete c =
    (command : Meant) → Accepts c.words command → AreTold c.shelf (files command) → AreAccepted c.shelf (files command)
    → NoneRose c.shelf (files command) → ¬ Rose c.out.faults c.out.faults_after
    → ((report : Report) × Shows c command report) ⊎ (c.status ≡ statuses.NoMemory)
