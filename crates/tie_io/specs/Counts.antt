-- Counts of faults.
use Rattle.std.specs.Prelude.{ℕ, ◌≤◌, ◌+◌, ◌-◌, ◌^◌, min, Result, Ok, Err}
use Rattle.tie_io.specs.declared.shelf.ReadFault.{ReadFault}
use Rattle.tie_io.specs.declared.shelf.ReadFault.TheVariants as reads
use Rattle.tie_io.specs.declared.sink.PutFault.{PutFault}
use Rattle.tie_io.specs.declared.sink.PutFault.TheVariants as puts

-- a count with one more, which stands still at the last value of a 64-bit counter
abbrev pub raised : ℕ → ℕ
raised count = min (count + 1) (2 ^ 64 - 1)

-- a count rose, or stands at the last value of a 64-bit counter
abbrev pub Rose : ℕ → ℕ → Type 0
Rose before after = raised before ≤ after

-- the count of faults after a read: one more where the read failed
abbrev pub faults_after_read : ℕ → Result (Unit {0}) ReadFault → ℕ
faults_after_read faults (Ok u) = faults
faults_after_read faults (Err reads.Failed) = raised faults
faults_after_read faults (Err reads.TooLong) = faults
faults_after_read faults (Err reads.NoMemory) = faults

-- the count of faults after a put: one more where the put failed
abbrev pub faults_after_put : ℕ → Result (Unit {0}) PutFault → ℕ
faults_after_put faults (Ok u) = faults
faults_after_put faults (Err puts.Failed) = raised faults
faults_after_put faults (Err puts.NoMemory) = faults
