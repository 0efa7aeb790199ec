-- A shelf and a sink in memory, as plain data.
use Rattle.std.specs.Prelude.{ℕ, List, ◌++◌, ◌||◌, ◌==◌, Bool, Option, is_none, Result, Ok, Err}
use Rattle.std.specs.List.{list_any}
use Rattle.std.specs.Map.{lookup}
use Rattle.std.specs.Str.{bytes_eq}
use Rattle.tie_io.specs.declared.shelf.ReadFault.{ReadFault}
use Rattle.tie_io.specs.declared.sink.PutFault.{PutFault}
use Rattle.tie_io.specs.declared.sink.PutFault.TheVariants.{Failed, NoMemory}
use Rattle.tie_io.specs.Counts.{raised, faults_after_read, faults_after_put}

-- a shelf: its files by name, the numbers of the calls that are to fail, the number of the next call, and how many calls failed
pub record ShelfState : Type 0 where
  pub files : List (List ℕ × List ℕ)
  pub fail : List ℕ
  pub calls : ℕ
  pub faults : ℕ

-- a sink: all that it took, and the same three
pub record SinkState : Type 0 where
  pub written : List ℕ
  pub fail : List ℕ
  pub calls : ℕ
  pub faults : ℕ

-- the bytes under a name
abbrev pub held : List (List ℕ × List ℕ) → List ℕ → Option (List ℕ)
held files name = lookup (bytes_eq name) files

-- the call of this number is to fail
abbrev pub is_planned : List ℕ → ℕ → Bool
is_planned fail call = list_any (λ number. number == call) fail

-- the next read fails if it has this name: its number is among those that are to fail, or the name was not added
abbrev pub read_fails : ShelfState → List ℕ → Bool
read_fails s name = is_planned s.fail s.calls || is_none (held s.files name)

-- the shelf after a read
abbrev pub after_read : ShelfState → Result (Unit {0}) ReadFault → ShelfState
after_read s answer = record s { calls = raised s.calls; faults = faults_after_read s.faults answer }

-- all that was taken after a put
abbrev pub written_after : List ℕ → List ℕ → Result (Unit {0}) PutFault → List ℕ
written_after written piece (Ok u) = written ++ piece
written_after written piece (Err Failed) = written
written_after written piece (Err NoMemory) = written

-- the sink after a put
abbrev pub after_put : SinkState → List ℕ → Result (Unit {0}) PutFault → SinkState
after_put s piece answer = record s { written = written_after s.written piece answer; calls = raised s.calls; faults = faults_after_put s.faults answer }
