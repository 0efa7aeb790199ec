-- What is written of a verdict, and the status.
use Rattle.std.specs.Prelude.{◌≡◌, ◌≢◌, ◌⊎◌, ℕ, List, [], Option, Ok, Err}
use Rattle.tie_io.specs.Counts.{Rose}
use Rattle.tie_io.specs.Writing.{Grew, GrewWithin}
use Rattle.tie_top.specs.declared.status.Status.{Status}
use Rattle.tie_top.specs.declared.status.Status.TheVariants.{WriteFault, NoMemory}
use Rattle.load_law.specs.tie_files.declared.refusal.Refusal.{Refusal}
use Rattle.load_law.specs.tie_files.declared.refusal.Refusal.TheVariants as refusals
use Rattle.tie_top.specs.declared.report.Report.{Report}
use Rattle.tie_top.specs.Meaning.{Verdict}
use Rattle.tie_top.specs.Printing.{line_of, status_of}

-- a sink over a call: what was written before and after, where it tells it, and its counts of faults
pub record Sunk : Type 0 where
  pub before : Option (List ℕ)
  pub after : Option (List ℕ)
  pub faults : ℕ
  pub faults_after : ℕ

abbrev pub sunk : {D : Type 0} → (D → Option (List ℕ)) → (D → ℕ) → D → D → Sunk
sunk written faults old new = record { before = written old; after = written new; faults = faults old; faults_after = faults new }

abbrev pub Untouched : Sunk → Type 0
Untouched sink = sink.after ≡ sink.before

-- the text was written whole to one sink, and nothing to the other
abbrev pub Whole : Sunk → Sunk → List ℕ → Type 0
Whole to other text = Grew to.before to.after text × Untouched other

-- the count of the sink that the text goes to rose: the sink has a first part of the text, and the other one nothing
abbrev pub Faulted : Sunk → Sunk → List ℕ → Type 0
Faulted to other text = Rose to.faults to.faults_after × GrewWithin to.before to.after text × Untouched other

-- memory ran out: out has a first part of the report, and err one of the line that says so
abbrev pub Wanted : Sunk → Sunk → List ℕ → Type 0
Wanted out err report = GrewWithin out.before out.after report × GrewWithin err.before err.after (line_of refusals.NoMemory)

-- the line of a refusal goes to err
abbrev pub Refused : Sunk → Sunk → Refusal → Status → Type 0
Refused out err refusal status =
    ((status ≡ status_of refusal) × Whole err out (line_of refusal))
    ⊎ ((status ≡ WriteFault) × (refusal ≢ refusals.NoMemory) × Faulted err out (line_of refusal))
    ⊎ ((status ≡ NoMemory) × Wanted out err [])

-- the report goes to out
abbrev pub Reported : Sunk → Sunk → Report → Status → Type 0
Reported out err report status =
    ((status ≡ report.status) × Whole out err report.text)
    ⊎ ((status ≡ WriteFault) × Faulted out err report.text)
    ⊎ ((status ≡ NoMemory) × Wanted out err report.text)

-- the verdict was written
abbrev pub Delivered : Sunk → Sunk → Verdict → Status → Type 0
Delivered out err (Ok report) status = Reported out err report status
Delivered out err (Err refusal) status = Refused out err refusal status
