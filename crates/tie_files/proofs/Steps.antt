-- A call within another: what it reads and how it fails are the other's.
use Rattle.std.proofs.Common.{◌≡◌, ℕ, ◌≤◌, List, Option, refl, subst, arith}
use Rattle.tie_io.specs.Counts.{Rose}
use Rattle.tie_io.specs.Reading.{IsFile, IsLonger}
use Rattle.tie_desc.specs.Description.{Description}
use Rattle.tie_files.specs.declared.refusal.Refusal.{Refusal}
use Rattle.tie_files.specs.Files.{Shelved, shelved, IsTextOf, IsTie, IsHex, IsSource, IsWrong, ReadFails, IsTooLong, TextIsWrong}

-- a call within another: it sees the same files, and its counts lie between
pub record Within (small big : Shelved) : Type 0 where
  pub holds : (n : List ℕ) → small.holds n ≡ big.holds n
  pub before : (n : List ℕ) → big.before n ≤ small.before n
  pub after : (n : List ℕ) → small.after n ≤ big.after n

-- a call is within itself
pub whole : (s : Shelved) → Within s s
whole s = record { holds = λ n. refl; before = λ n. omega arith; after = λ n. omega arith }

-- a call that begins with the larger one
pub early : {D : Type 0} (holds : D → List ℕ → Option (List ℕ)) (faults : D → List ℕ → ℕ) (a b c : D)
    → ((n : List ℕ) → faults b n ≤ faults c n) → Within (shelved holds faults a b) (shelved holds faults a c)
early holds faults a b c later = record { holds = λ n. refl; before = λ n. omega arith; after = later }

-- a call that ends with the larger one
pub late : {D : Type 0} (holds : D → List ℕ → Option (List ℕ)) (faults : D → List ℕ → ℕ) (a b c : D)
    → ((n : List ℕ) → holds b n ≡ holds a n) → ((n : List ℕ) → faults a n ≤ faults b n) → Within (shelved holds faults b c) (shelved holds faults a c)
late holds faults a b c same later = record { holds = same; before = later; after = λ n. omega arith }

Rose-wider : (a b c d : ℕ) → a ≤ b → Rose b c → c ≤ d → Rose a d
Rose-wider a b c d h r k = grind arith

pub text_within : (small big : Shelved) → Within small big → (name text : List ℕ) → IsTextOf small name text → IsTextOf big name text
text_within small big w name text (short, told) = (short, subst (λ held. IsFile held text) (w.holds name) told)

pub tie_within : (small big : Shelved) → Within small big → (name : List ℕ) (d : Description) → IsTie small name d → IsTie big name d
tie_within small big w name d h = record { text = h.text; read = text_within small big w name h.text h.read; is = h.is }

pub hex_within : (small big : Shelved) → Within small big → (name image : List ℕ) → IsHex small name image → IsHex big name image
hex_within small big w name image h = record { text = h.text; read = text_within small big w name h.text h.read; is = h.is }

pub source_within : (small big : Shelved) → Within small big → (d : Description) (name image : List ℕ) → IsSource small d name image → IsSource big d name image
source_within small big w d name image h = record { text = h.text; read = text_within small big w name h.text h.read; is = h.is }

-- a wrong file, by what refuses its text
pub wrong_as : (s : Shelved) (name : List ℕ) (P Q : List ℕ → Refusal → Type 0) (e : Refusal) → ((text : List ℕ) → P text e → Q text e) → IsWrong s name P e → IsWrong s name Q e
wrong_as s name P Q e of (ReadFails p rose) = ReadFails p rose
wrong_as s name P Q e of (IsTooLong p front longer) = IsTooLong p front longer
wrong_as s name P Q e of (TextIsWrong text read because) = TextIsWrong text read (of text because)

pub wrong_within : (small big : Shelved) → Within small big → (name : List ℕ) (P : List ℕ → Refusal → Type 0) (e : Refusal) → IsWrong small name P e → IsWrong big name P e
wrong_within small big w name P e (ReadFails p rose) = ReadFails p (Rose-wider _ _ _ _ (w.before name) rose (w.after name))
wrong_within small big w name P e (IsTooLong p front longer) = IsTooLong p front (subst (λ held. IsLonger held 1048576 front) (w.holds name) longer)
wrong_within small big w name P e (TextIsWrong text read because) = TextIsWrong text (text_within small big w name text read) because
