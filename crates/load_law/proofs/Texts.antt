-- A file that a shelf tells has one text, and is wrong in one way but for faults of reading.
use Rattle.std.proofs.Common.{◌≡◌, ◌⊎◌, ℕ, ◌≤◌, ◌<◌, List, length, Some, sym, subst, ◌∙◌, inl, inr, arith}
use Rattle.tie_io.specs.Reading.{IsFile, IsLonger}
use Rattle.net_load.specs.tie_files.declared.refusal.Refusal.{Refusal}
use Rattle.net_load.specs.tie_files.Files.{Shelved, IsTextOf, IsWrong, ReadFails, IsTooLong, TextIsWrong}
use Rattle.net_load.specs.Told.{IsTold}
use Rattle.load_law.specs.Faults.{IsReadFault}

-- its text is what the shelf holds
pub text_told : (s : Shelved) (name : List ℕ) (told : IsTold s name) (text : List ℕ) → IsTextOf s name text → told.0 ≡ text
text_told s name told text read = subst (λ held. IsFile held text) told.1 read.1

pub one_text : (s : Shelved) (name : List ℕ) → IsTold s name → (text other : List ℕ) → IsTextOf s name text → IsTextOf s name other → text ≡ other
one_text s name told text other p q = sym (text_told s name told text p) ∙ text_told s name told other q

not_longer : (s : Shelved) (name : List ℕ) → IsTold s name → (text front : List ℕ) → IsTextOf s name text → IsLonger (s.holds name) 1048576 front → ⊥
not_longer s name told text front read longer =
    let held : IsLonger (Some told.0) 1048576 front = subst (λ z. IsLonger z 1048576 front) told.1 longer in
    let long : 1048576 < length told.0 = held.1.0 in
    let short : length told.0 ≤ 1048576 = subst (λ z. length z ≤ 1048576) (sym (text_told s name told text read)) read.0 in
    absurd (omega arith)

-- a file that has a right text isn't wrong
pub wrong_text : (s : Shelved) (name : List ℕ) → IsTold s name → (text : List ℕ) → IsTextOf s name text
    → (P : List ℕ → Refusal → Type 0) (e : Refusal) → (P text e → ⊥) → IsWrong s name P e → IsReadFault e
wrong_text s name told text read P e right (ReadFails p rose) = (name, p)
wrong_text s name told text read P e right (IsTooLong p front longer) = absurd (not_longer s name told text front read longer)
wrong_text s name told text read P e right (TextIsWrong other seen bad) = absurd (right (subst (λ z. P z e) (one_text s name told other text seen read) bad))

-- refusals are one, or a read failed
abbrev pub AreOne : Refusal → Refusal → Type 0
AreOne e f = (e ≡ f) ⊎ IsReadFault e ⊎ IsReadFault f

pub wrong_once : (s : Shelved) (name : List ℕ) → IsTold s name → (P Q : List ℕ → Refusal → Type 0) (e f : Refusal)
    → ((text : List ℕ) → P text e → Q text f → e ≡ f) → IsWrong s name P e → IsWrong s name Q f → AreOne e f
wrong_once s name told P Q e f one (ReadFails p rose) b = inr (inl (name, p))
wrong_once s name told P Q e f one (IsTooLong p front longer) (ReadFails q rose) = inr (inr (name, q))
wrong_once s name told P Q e f one (IsTooLong p front longer) (IsTooLong q last long) = inl (p ∙ sym q)
wrong_once s name told P Q e f one (IsTooLong p front longer) (TextIsWrong text read bad) = absurd (not_longer s name told text front read longer)
wrong_once s name told P Q e f one (TextIsWrong text read bad) (ReadFails q rose) = inr (inr (name, q))
wrong_once s name told P Q e f one (TextIsWrong text read bad) (IsTooLong q last long) = absurd (not_longer s name told text last read long)
wrong_once s name told P Q e f one (TextIsWrong text read bad) (TextIsWrong other seen worse) =
    inl (one other (subst (λ z. P z e) (one_text s name told text other read seen) bad) worse)
