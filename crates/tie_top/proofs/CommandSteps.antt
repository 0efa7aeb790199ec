-- From what a command means to what the words mean.
use Rattle.std.proofs.Common.{◌≡◌, ◌⊎◌, ℕ, List, Ok, Err, refl, ap, inl, inr}
use Rattle.tie_desc.specs.Description.{Description}
use Rattle.tie_words.specs.Words.{Meant, Check, Asm, Dis, Exec, ExecTie, Ref, Strict, Accepts, WrongAt}
use Rattle.load_law.specs.tie_files.declared.refusal.Refusal.{Refusal}
use Rattle.load_law.specs.tie_files.declared.refusal.Refusal.TheVariants.{Usage, NoMemory}
use Rattle.xt_dis.specs.Listing.{Lists}
use Rattle.tie_lines.specs.Lines.{image_text}
use Rattle.tie_top.specs.declared.report.Report.{Report}
use Rattle.tie_report.specs.net_parts.declared.parts.Net.{Net}
use Rattle.tie_report.specs.net_parts.declared.ends.RunEnd.{RunEnd}
use Rattle.tie_report.specs.net_ref.Reference.{IsReference, IsStrict}
use Rattle.load_law.specs.net_load.Loaded.{IsNetOf, bare}
use Rattle.load_law.specs.net_load.Steps.{IsRefusedNet}
use Rattle.load_law.specs.tie_files.Files.{Shelved, IsTie, IsHex, IsSource, RefusesTie, RefusesHex, RefusesSource, IsWrong}
use Rattle.tie_top.specs.Files.{RefusesBy}
use Rattle.tie_desc.specs.Fetching.{IsImage}
use Rattle.load_law.specs.net_desc.Workers.{Loaded}
use Rattle.load_law.specs.net_desc.Alone.{IsAlone}
use Rattle.tie_top.specs.Meaning.{Verdict, Reports, ReportsAt, reported, done, CommandMeans, Means, UnlessMemory}
use Rattle.load_law.specs.tie_files.Parts.{Judges}
use Rattle.load_law.proofs.tie_files_proofs.Steps.{Within, wrong_within, tie_within, hex_within, source_within, wrong_as}

-- the verdict of a command is that of its words
pub accepted : (s : Shelved) (words : List (List ℕ)) (command : Meant) (v : Verdict)
    → Accepts words command → UnlessMemory (CommandMeans s command) v → UnlessMemory (Means s words) v
accepted s words command v a (inl p) = inl p
accepted s words command v a (inr h) = inr (inl (command, a, h))

-- words of no command are refused at their wrong place
pub refused : (s : Shelved) (words : List (List ℕ)) (place : ℕ) → WrongAt words place → UnlessMemory (Means s words) (Err (Usage place))
refused s words place w = inr (inr (place, w, refl))

-- ---- one command after the other

-- the one file of a command is wrong, or memory ran out
pub check_err : (s : Shelved) (tie : List ℕ) (e : Refusal) → (e ≡ NoMemory) ⊎ IsWrong s tie (RefusesTie tie) e → UnlessMemory (CommandMeans s (Check tie)) (Err e)
check_err s tie e (inl p) = inl (ap Err p)
check_err s tie e (inr h) = inr (inl h)

pub exec_err : (s : Shelved) (hex : List ℕ) (e : Refusal) → (e ≡ NoMemory) ⊎ IsWrong s hex (RefusesHex hex) e → UnlessMemory (CommandMeans s (Exec hex)) (Err e)
exec_err s hex e (inl p) = inl (ap Err p)
exec_err s hex e (inr h) = inr (inl h)

-- the first file of two, and the second one
pub first_err : (small s : Shelved) (hex tie : List ℕ) (e : Refusal) → Within small s → (e ≡ NoMemory) ⊎ IsWrong small hex (RefusesHex hex) e
    → UnlessMemory (CommandMeans s (ExecTie hex tie)) (Err e)
first_err small s hex tie e w (inl p) = inl (ap Err p)
first_err small s hex tie e w (inr h) = inr (inl (wrong_within small s w hex (RefusesHex hex) e h))

pub second_err : (one two s : Shelved) (hex tie image : List ℕ) (e : Refusal) → Within one s → Within two s → IsHex one hex image
    → (e ≡ NoMemory) ⊎ IsWrong two tie (RefusesTie tie) e → UnlessMemory (CommandMeans s (ExecTie hex tie)) (Err e)
second_err one two s hex tie image e v w h (inl p) = inl (ap Err p)
second_err one two s hex tie image e v w h (inr k) = inr (inr ((image, hex_within one s v hex image h), inl (wrong_within two s w tie (RefusesTie tie) e k)))

-- the report of a run, or want of memory
pub exec_ok : (s : Shelved) (hex image : List ℕ) (r : Verdict) → IsHex s hex image → Judges (Reports bare image) (λ refusal. ⊥) r → UnlessMemory (CommandMeans s (Exec hex)) r
exec_ok s hex image (Ok report) h runs = inr (image, h, runs)
exec_ok s hex image (Err e) h (inl p) = inl (ap Err p)
exec_ok s hex image (Err e) h (inr none) = absurd none

pub exec_tie_ok : (one two s : Shelved) (hex tie image : List ℕ) (d : Description) (r : Verdict) → Within one s → Within two s → IsHex one hex image → IsTie two tie d
    → Judges (Reports d image) (λ refusal. ⊥) r → UnlessMemory (CommandMeans s (ExecTie hex tie)) r
exec_tie_ok one two s hex tie image d (Ok report) v w h k runs = inr (image, d, hex_within one s v hex image h, tie_within two s w tie d k, runs)
exec_tie_ok one two s hex tie image d (Err e) v w h k (inl p) = inl (ap Err p)
exec_tie_ok one two s hex tie image d (Err e) v w h k (inr none) = absurd none

-- ---- two files of which the first is a TIE text

-- the TIE text is wrong
pub asm_first : (small s : Shelved) (tie source : List ℕ) (e : Refusal) → Within small s → (e ≡ NoMemory) ⊎ IsWrong small tie (RefusesTie tie) e
    → UnlessMemory (CommandMeans s (Asm tie source)) (Err e)
asm_first small s tie source e w (inl p) = inl (ap Err p)
asm_first small s tie source e w (inr h) = inr (inl (wrong_within small s w tie (RefusesTie tie) e h))

pub dis_first : (small s : Shelved) (tie hex : List ℕ) (e : Refusal) → Within small s → (e ≡ NoMemory) ⊎ IsWrong small tie (RefusesTie tie) e
    → UnlessMemory (CommandMeans s (Dis tie hex)) (Err e)
dis_first small s tie hex e w (inl p) = inl (ap Err p)
dis_first small s tie hex e w (inr h) = inr (inl (wrong_within small s w tie (RefusesTie tie) e h))

-- the second file is wrong
pub asm_second : (one two s : Shelved) (tie source : List ℕ) (d : Description) (e : Refusal) → Within one s → Within two s → IsTie one tie d
    → (e ≡ NoMemory) ⊎ IsWrong two source (RefusesSource d source) e → UnlessMemory (CommandMeans s (Asm tie source)) (Err e)
asm_second one two s tie source d e v w h (inl p) = inl (ap Err p)
asm_second one two s tie source d e v w h (inr k) =
    let is_tie : IsTie s tie d = tie_within one s v tie d h in
    let wrong = wrong_within two s w source (RefusesSource d source) e k in
    inr (inr ((d, is_tie), inl (wrong_as s source (RefusesSource d source) (RefusesBy s tie source) e (λ text bad. (d, is_tie, bad)) wrong)))

pub dis_second : (one two s : Shelved) (tie hex : List ℕ) (d : Description) (e : Refusal) → Within one s → Within two s → IsTie one tie d
    → (e ≡ NoMemory) ⊎ IsWrong two hex (RefusesHex hex) e → UnlessMemory (CommandMeans s (Dis tie hex)) (Err e)
dis_second one two s tie hex d e v w h (inl p) = inl (ap Err p)
dis_second one two s tie hex d e v w h (inr k) = inr (inr ((d, tie_within one s v tie d h), inl (wrong_within two s w hex (RefusesHex hex) e k)))

-- the report, or want of memory
pub asm_ok : (one two s : Shelved) (tie source image : List ℕ) (d : Description) (r : Verdict) → Within one s → Within two s → IsTie one tie d → IsSource two d source image
    → Judges (λ (report : Report). report ≡ done (image_text image)) (λ refusal. ⊥) r → UnlessMemory (CommandMeans s (Asm tie source)) r
asm_ok one two s tie source image d (Ok report) v w h k printed = inr (d, image, tie_within one s v tie d h, source_within two s w d source image k, printed)
asm_ok one two s tie source image d (Err e) v w h k (inl p) = inl (ap Err p)
asm_ok one two s tie source image d (Err e) v w h k (inr none) = absurd none

pub dis_ok : (one two s : Shelved) (tie hex image : List ℕ) (d : Description) (r : Verdict) → Within one s → Within two s → IsTie one tie d → IsHex two hex image
    → Judges (λ (report : Report). (text : List ℕ) × Lists d 0 image text × (report ≡ done text)) (λ refusal. ⊥) r → UnlessMemory (CommandMeans s (Dis tie hex)) r
dis_ok one two s tie hex image d (Ok report) v w h k (text, lists, p) = inr (d, image, tie_within one s v tie d h, hex_within two s w hex image k, text, lists, p)
dis_ok one two s tie hex image d (Err e) v w h k (inl p) = inl (ap Err p)
dis_ok one two s tie hex image d (Err e) v w h k (inr none) = absurd none

-- ---- networks

-- the network is refused, or memory ran out
pub ref_err : (s : Shelved) (net : List ℕ) (e : Refusal) → (e ≡ NoMemory) ⊎ IsRefusedNet s net e → UnlessMemory (CommandMeans s (Ref net)) (Err e)
ref_err s net e (inl p) = inl (ap Err p)
ref_err s net e (inr h) = inr (inl h)

pub strict_err : (s : Shelved) (net : List ℕ) (e : Refusal) → (e ≡ NoMemory) ⊎ IsRefusedNet s net e → UnlessMemory (CommandMeans s (Strict net)) (Err e)
strict_err s net e (inl p) = inl (ap Err p)
strict_err s net e (inr h) = inr (inl h)

-- the report where a reference stops, or want of memory
pub ref_ok : (s : Shelved) (net : List ℕ) (n : Net) (r : Verdict) → IsNetOf s net n → Judges (ReportsAt IsReference n) (λ refusal. ⊥) r → UnlessMemory (CommandMeans s (Ref net)) r
ref_ok s net n (Ok report) h runs = inr (n, h, runs)
ref_ok s net n (Err e) h (inl p) = inl (ap Err p)
ref_ok s net n (Err e) h (inr none) = absurd none

pub strict_ok : (s : Shelved) (net : List ℕ) (n : Net) (r : Verdict) → IsNetOf s net n → Judges (ReportsAt IsStrict n) (λ refusal. ⊥) r → UnlessMemory (CommandMeans s (Strict net)) r
strict_ok s net n (Ok report) h runs = inr (n, h, runs)
strict_ok s net n (Err e) h (inl p) = inl (ap Err p)
strict_ok s net n (Err e) h (inr none) = absurd none

-- the report at an end at which a run stops
pub at_stop : (Stops : Net → RunEnd → Type 0) (net : Net) (end : RunEnd) (r : Verdict) → Stops net end → Judges (λ report. report ≡ reported net end) (λ refusal. ⊥) r
    → Judges (ReportsAt Stops net) (λ refusal. ⊥) r
at_stop Stops net end (Ok report) stops p = (end, stops, p)
at_stop Stops net end (Err e) stops h = h

-- that of the processor that stands alone
pub of_alone : (k : Loaded) (net : Net) (r : Verdict) → IsImage k.0.desc k.1.items k.0.image.at → IsAlone k net → Judges (ReportsAt IsReference net) (λ refusal. ⊥) r
    → Judges (Reports k.0.desc k.1.items) (λ refusal. ⊥) r
of_alone k net (Ok report) image alone runs = (k, refl, refl, image, net, alone, runs)
of_alone k net (Err e) image alone h = h
