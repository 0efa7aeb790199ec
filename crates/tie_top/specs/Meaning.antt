-- What each command means: a report of its files, or the refusal of the first one that is wrong.
use Rattle.std.specs.Prelude.{◌≡◌, ◌⊎◌, ℕ, false, List, Result, Ok, Err}
use Rattle.tie_desc.specs.Description.{Description}
use Rattle.tie_desc.specs.Fetching.{IsImage}
use Rattle.tie_report.specs.net_parts.declared.parts.Net.{Net}
use Rattle.tie_report.specs.net_parts.declared.ends.RunEnd.{RunEnd}
use Rattle.load_law.specs.net_desc.Workers.{Loaded}
use Rattle.load_law.specs.net_desc.Alone.{IsAlone}
use Rattle.tie_report.specs.net_ref.Reference.{IsReference, IsStrict}
use Rattle.load_law.specs.net_load.Loaded.{IsNetOf, bare}
use Rattle.xt_dis.specs.Listing.{Lists}
use Rattle.tie_report.specs.Standing.{word}
use Rattle.tie_report.specs.Report.{report_text}
use Rattle.tie_lines.specs.Lines.{check_text, image_text}
use Rattle.tie_words.specs.Words.{Meant, Check, Asm, Dis, Exec, ExecTie, Ref, Strict, Accepts, WrongAt}
use Rattle.load_law.specs.tie_files.declared.refusal.Refusal.{Refusal}
use Rattle.load_law.specs.tie_files.declared.refusal.Refusal.TheVariants.{Usage, NoMemory}
use Rattle.load_law.specs.tie_files.Files.{Shelved, IsTie, IsHex, IsSource}
use Rattle.tie_top.specs.declared.status.Status.TheVariants.{Done}
use Rattle.tie_top.specs.declared.report.Report.{Report}
use Rattle.tie_top.specs.Printing.{outcome_status}
use Rattle.tie_top.specs.Files.{files, FirstWrong}

-- a verdict: the report, or the refusal
abbrev pub Verdict : Type 0
Verdict = Result Report Refusal

-- ---- reports

abbrev pub done : List ℕ → Report
done text = record { status = Done; text = text }

-- the report of a network at an end
abbrev pub reported : Net → RunEnd → Report
reported net end = record { status = outcome_status (word net end); text = report_text net end false }

-- the report of a network where a reference stops: the one without bounds, or the strict one
abbrev pub ReportsAt : (Net → RunEnd → Type 0) → Net → Report → Type 0
ReportsAt Stops net report = (end : RunEnd) × Stops net end × (report ≡ reported net end)

-- the report of the one processor that runs an image with this description
abbrev pub Reports : Description → List ℕ → Report → Type 0
Reports d image report =
    (k : Loaded) × (k.0.desc ≡ d) × (k.1.items ≡ image) × IsImage d image k.0.image.at × (net : Net) × IsAlone k net × ReportsAt IsReference net report

-- the report of a command all of whose files are accepted
abbrev pub Yields : Shelved → Meant → Report → Type 0
Yields s (Check tie) report = (d : Description) × IsTie s tie d × (report ≡ done (check_text d))
Yields s (Asm tie source) report = (d : Description) × (image : List ℕ) × IsTie s tie d × IsSource s d source image × (report ≡ done (image_text image))
Yields s (Dis tie hex) report =
    (d : Description) × (image : List ℕ) × IsTie s tie d × IsHex s hex image × (text : List ℕ) × Lists d 0 image text × (report ≡ done text)
Yields s (Exec hex) report = (image : List ℕ) × IsHex s hex image × Reports bare image report
Yields s (ExecTie hex tie) report = (image : List ℕ) × (d : Description) × IsHex s hex image × IsTie s tie d × Reports d image report
Yields s (Ref net) report = (n : Net) × IsNetOf s net n × ReportsAt IsReference n report
Yields s (Strict net) report = (n : Net) × IsNetOf s net n × ReportsAt IsStrict n report

-- ---- commands

-- what a command means
abbrev pub CommandMeans : Shelved → Meant → Verdict → Type 0
CommandMeans s command (Ok report) = Yields s command report
CommandMeans s command (Err refusal) = FirstWrong s (files command) refusal

-- what the words mean
abbrev pub Means : Shelved → List (List ℕ) → Verdict → Type 0
Means s words verdict =
    ((command : Meant) × Accepts words command × CommandMeans s command verdict)
    ⊎ ((place : ℕ) × WrongAt words place × (verdict ≡ Err (Usage place)))

-- the right verdict, or want of memory
abbrev pub UnlessMemory : {A : Type 0} → (Result A Refusal → Type 0) → Result A Refusal → Type 0
UnlessMemory right verdict = (verdict ≡ Err NoMemory) ⊎ right verdict
