-- What a put leaves written.
use Rattle.std.specs.Prelude.{◌≡◌, ℕ, List, ◌++◌, Option, Some, None, Result, Ok, Err}
use Rattle.tie_io.specs.declared.sink.PutFault.{PutFault}
use Rattle.tie_io.specs.declared.sink.PutFault.TheVariants.{Failed, NoMemory}

-- a first part of a text, the empty one and the whole included
abbrev pub IsFront : List ℕ → List ℕ → Type 0
IsFront front text = (rest : List ℕ) × (text ≡ front ++ rest)

-- what is written grew by exactly this text, where the sink tells it
abbrev pub Grew : Option (List ℕ) → Option (List ℕ) → List ℕ → Type 0
Grew None after text = Unit {0}
Grew (Some before) after text = after ≡ Some (before ++ text)

-- what is written grew by some first part of this text, where the sink tells it
abbrev pub GrewWithin : Option (List ℕ) → Option (List ℕ) → List ℕ → Type 0
GrewWithin before after text = (front : List ℕ) × IsFront front text × Grew before after front

-- what is written after a put, by its answer
abbrev pub IsPut : Option (List ℕ) → Option (List ℕ) → List ℕ → Result (Unit {0}) PutFault → Type 0
IsPut before after piece (Ok u) = Grew before after piece
IsPut before after piece (Err Failed) = GrewWithin before after piece
IsPut before after piece (Err NoMemory) = after ≡ before
