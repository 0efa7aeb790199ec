-- From the text of a file to the file.
use Rattle.std.proofs.Common.{◌≡◌, ◌⊎◌, List, ℕ, Result, Ok, Err, Vec, Global, inl, inr}
use Rattle.tie_desc.specs.Description.{Description}
use Rattle.tie_front.specs.Front.{IsDescriptionOf}
use Rattle.hex_text.specs.Hexadecimal.{hex_bytes}
use Rattle.xt_asm.specs.Assembly.{assembly}
use Rattle.tie_files.specs.declared.refusal.Refusal.{Refusal}
use Rattle.tie_files.specs.declared.refusal.Refusal.TheVariants.{NoMemory}
use Rattle.tie_files.specs.Files.{Shelved, IsTextOf, IsTie, IsHex, IsSource, RefusesTie, RefusesHex, RefusesSource, IsWrong, ReadFails, IsTooLong, TextIsWrong}
use Rattle.tie_files.specs.Parts.{Judges}

-- what is said of the text of a file is said of the file
file_of : {V : Type 0} (s : Shelved) (name text : List ℕ) (Has Is : V → Type 0) (P : List ℕ → Refusal → Type 0) (r : Result V Refusal)
    → IsTextOf s name text → ((v : V) → Has v → Is v) → Judges Has (P text) r → Judges Is (IsWrong s name P) r
file_of s name text Has Is P (Ok v) read of h = of v h
file_of s name text Has Is P (Err e) read of (inl p) = inl p
file_of s name text Has Is P (Err e) read of (inr bad) = inr (TextIsWrong text read bad)

pub tie_file : (s : Shelved) (name text : List ℕ) (r : Result Description Refusal)
    → IsTextOf s name text → Judges (IsDescriptionOf text) (RefusesTie name text) r → Judges (IsTie s name) (IsWrong s name (RefusesTie name)) r
tie_file s name text r read h =
    file_of s name text (IsDescriptionOf text) (IsTie s name) (RefusesTie name) r read (λ d is. record { text = text; read = read; is = is }) h

pub hex_file : (s : Shelved) (name text : List ℕ) (r : Result (Vec ℕ Global) Refusal)
    → IsTextOf s name text → Judges (λ image. hex_bytes 65536 text ≡ Ok image.items) (RefusesHex name text) r
    → Judges (λ image. IsHex s name image.items) (IsWrong s name (RefusesHex name)) r
hex_file s name text r read h =
    file_of s name text (λ image. hex_bytes 65536 text ≡ Ok image.items) (λ image. IsHex s name image.items) (RefusesHex name) r read
    (λ image is. record { text = text; read = read; is = is }) h

pub source_file : (s : Shelved) (d : Description) (name text : List ℕ) (r : Result (Vec ℕ Global) Refusal)
    → IsTextOf s name text → Judges (λ image. assembly d text ≡ Ok image.items) (RefusesSource d name text) r
    → Judges (λ image. IsSource s d name image.items) (IsWrong s name (RefusesSource d name)) r
source_file s d name text r read h =
    file_of s name text (λ image. assembly d text ≡ Ok image.items) (λ image. IsSource s d name image.items) (RefusesSource d name) r read
    (λ image is. record { text = text; read = read; is = is }) h

-- a file that isn't read is wrong, whatever it must be
pub unread : (s : Shelved) (name : List ℕ) (P : List ℕ → Refusal → Type 0) (e : Refusal) → (e ≡ NoMemory) ⊎ IsWrong s name (λ text refusal. ⊥) e → (e ≡ NoMemory) ⊎ IsWrong s name P e
unread s name P e (inl p) = inl p
unread s name P e (inr (ReadFails p rose)) = inr (ReadFails p rose)
unread s name P e (inr (IsTooLong p front longer)) = inr (IsTooLong p front longer)
unread s name P e (inr (TextIsWrong text read bad)) = absurd bad
