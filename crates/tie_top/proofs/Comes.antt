-- What a call comes to, and that each status comes only by its cause.
use Rattle.std.proofs.Common.{◌≡◌, ◌≢◌, ◌⊎◌, ℕ, Bool, true, false, List, [], ◌∷◌, Ok, Err, refl, sym, ap, subst, inl, inr, ◌∙◌}
use Rattle.tie_io.specs.Counts.{Rose}
use Rattle.hex_text.specs.declared.hexadecimal.HexRule.{HexRule}
use Rattle.asm_law.specs.tie_front.declared.refusal.TieRule.{TieRule}
use Rattle.asm_lines.specs.declared.refusal.AsmRule.{AsmRule}
use Rattle.load_law.specs.net_toml.declared.refusal.NetRule.{NetRule}
use Rattle.tie_report.specs.net_parts.declared.parts.Net.{Net}
use Rattle.tie_report.specs.net_parts.declared.ends.RunEnd.{RunEnd}
use Rattle.tie_report.specs.net_parts.declared.outcome.Outcome.{Outcome}
use Rattle.tie_report.specs.net_parts.declared.outcome.Outcome.TheVariants as outcomes
use Rattle.tie_report.specs.net_ref.Reference.{IsReference, IsStrict}
use Rattle.tie_report.specs.Standing.{word}
use Rattle.load_law.specs.Kinds.{IsNetKind}
use Rattle.load_law.proofs.Laws.{rose_net, kind_net}
use Rattle.tie_words.specs.Words.{Meant, Check, Asm, Dis, Exec, ExecTie, Ref, Strict, Accepts, WrongAt}
use Rattle.load_law.specs.tie_files.declared.refusal.Refusal.{Refusal}
use Rattle.load_law.specs.tie_files.declared.refusal.Refusal.TheVariants.{Usage, ReadFault, TooLong, TieRefused, AsmRefused, HexRefused, NetRefused, NoMemory}
use Rattle.load_law.specs.tie_files.Files.{Shelved, IsWrong, ReadFails, IsTooLong, TextIsWrong}
use Rattle.tie_top.specs.declared.status.Status.{Status}
use Rattle.tie_top.specs.declared.status.Status.TheVariants as statuses
use Rattle.tie_top.specs.declared.report.Report.{Report}
use Rattle.tie_top.specs.Printing.{line_of, status_of, outcome_status}
use Rattle.tie_top.specs.Files.{File, Tie, Hex, Source, Network, files, IsWrongFile, FirstWrong}
use Rattle.tie_top.specs.Meaning.{ReportsAt, Yields, Means}
use Rattle.tie_top.specs.Delivery.{Delivered, Whole, Faulted}
use Rattle.tie_top.specs.Answers.{Call, IsRight, Says, IsRefusedSo, Shows, ReadFaultIsRight, WriteFaultIsRight}

-- ---- which refusals files have, and which statuses reports

abbrev pub IsOfFile : Refusal → Type 0
IsOfFile (Usage word) = ⊥
IsOfFile NoMemory = ⊥
IsOfFile other = Unit {0}

net_kind : (e : Refusal) → IsNetKind e → IsOfFile e
net_kind (Usage word) h = absurd h
net_kind (ReadFault n) h = tt
net_kind (TooLong n) h = tt
net_kind (TieRefused n rule place) h = tt
net_kind (AsmRefused n rule line column) h = tt
net_kind (HexRefused n rule place) h = tt
net_kind (NetRefused n rule key) h = tt
net_kind NoMemory h = absurd h

wrong_of : (s : Shelved) (file : File) (e : Refusal) → IsWrongFile s file e → IsOfFile e
wrong_of s (Tie name) e (ReadFails p rose) = rw p tt
wrong_of s (Tie name) e (IsTooLong p front longer) = rw p tt
wrong_of s (Tie name) e (TextIsWrong text read (rule, place, h, p)) = rw p tt
wrong_of s (Hex name) e (ReadFails p rose) = rw p tt
wrong_of s (Hex name) e (IsTooLong p front longer) = rw p tt
wrong_of s (Hex name) e (TextIsWrong text read (rule, place, h, p)) = rw p tt
wrong_of s (Source tie name) e (ReadFails p rose) = rw p tt
wrong_of s (Source tie name) e (IsTooLong p front longer) = rw p tt
wrong_of s (Source tie name) e (TextIsWrong text read (d, h, (rule, line, column, k, p))) = rw p tt
wrong_of s (Network name) e h = net_kind e (kind_net s name e h)

pub first_of : (s : Shelved) (fs : List File) (e : Refusal) → FirstWrong s fs e → IsOfFile e
first_of s [] e h = absurd h
first_of s (file ∷ fs) e (inl h) = wrong_of s file e h
first_of s (file ∷ fs) e (inr h) = first_of s fs e h.1

-- the statuses of reports
abbrev pub is_end : Status → Bool
is_end statuses.Done = true
is_end statuses.Trapped = true
is_end statuses.Unfinished = true
is_end statuses.Blocked = true
is_end other = false

abbrev pub IsEnd : Status → Type 0
IsEnd status = is_end status ≡ true

outcome_end : (outcome : Outcome) → IsEnd (outcome_status outcome)
outcome_end outcomes.Halted = refl
outcome_end outcomes.Trapped = refl
outcome_end outcomes.Unfinished = refl
outcome_end outcomes.Blocked = refl

done_end : (text : List ℕ) (report : Report) → report ≡ record { status = statuses.Done; text = text } → IsEnd report.status
done_end text report p = rw p refl

stop_end : (Stops : Net → RunEnd → Type 0) (net : Net) (report : Report) → ReportsAt Stops net report → IsEnd report.status
stop_end Stops net report (end, stops, p) = rw p (outcome_end (word net end))

pub yields_end : (s : Shelved) (command : Meant) (report : Report) → Yields s command report → IsEnd report.status
yields_end s (Check tie) report (d, h, p) = done_end _ report p
yields_end s (Asm tie source) report (d, image, h, k, p) = done_end _ report p
yields_end s (Dis tie hex) report (d, image, h, k, text, l, p) = done_end _ report p
yields_end s (Exec hex) report (image, h, (k, d, t, i, net, alone, stops)) = stop_end IsReference net report stops
yields_end s (ExecTie hex tie) report (image, d, h, j, (k, e, t, i, net, alone, stops)) = stop_end IsReference net report stops
yields_end s (Ref net) report (n, h, stops) = stop_end IsReference n report stops
yields_end s (Strict net) report (n, h, stops) = stop_end IsStrict n report stops

-- ---- what a call comes to

pub data Comes (c : Call) : Type 0 where
  Reports : (command : Meant) (report : Report) → Accepts c.words command → Yields c.shelf command report → c.status ≡ report.status → Whole c.out c.err report.text → Comes c
  Refusing : (command : Meant) (refusal : Refusal) → Accepts c.words command → FirstWrong c.shelf (files command) refusal → c.status ≡ status_of refusal → Says c refusal → Comes c
  Misused : (place : ℕ) → WrongAt c.words place → c.status ≡ statuses.Usage → Says c (Usage place) → Comes c
  Faults : c.status ≡ statuses.WriteFault
      → ((report : Report) × Means c.shelf c.words (Ok report) × Faulted c.out c.err report.text)
      ⊎ ((refusal : Refusal) × Means c.shelf c.words (Err refusal) × Faulted c.err c.out (line_of refusal)) → Comes c
  Wants : c.status ≡ statuses.NoMemory → Comes c

report_comes : (c : Call) (report : Report) → Means c.shelf c.words (Ok report) → Delivered c.out c.err (Ok report) c.status → Comes c
report_comes c report (inl (command, accepts, yields)) (inl (p, w)) = Reports command report accepts yields p w
report_comes c report (inr (place, wrong, p)) (inl q) = absurd cc
report_comes c report m (inr (inl (p, f))) = Faults p (inl (report, m, f))
report_comes c report m (inr (inr (p, w))) = Wants p

refusal_comes : (c : Call) (refusal : Refusal) → Means c.shelf c.words (Err refusal) → Delivered c.out c.err (Err refusal) c.status → Comes c
refusal_comes c refusal (inl (command, accepts, first)) (inl (p, w)) = Refusing command refusal accepts first p w
refusal_comes c refusal (inr (place, wrong, p)) (inl (q, w)) =
    let e : refusal ≡ Usage place = cc in
    Misused place wrong (q ∙ ap status_of e) (subst (λ r. Says c r) e w)
refusal_comes c refusal m (inr (inl (p, ne, f))) = Faults p (inr (refusal, m, f))
refusal_comes c refusal m (inr (inr (p, w))) = Wants p

no_memory_comes : (c : Call) → Delivered c.out c.err (Err NoMemory) c.status → Comes c
no_memory_comes c (inl (p, w)) = Wants p
no_memory_comes c (inr (inl (p, ne, f))) = absurd (ne refl)
no_memory_comes c (inr (inr (p, w))) = Wants p

pub comes : (c : Call) → IsRight c → Comes c
comes c (v, inl p, d) = no_memory_comes c (subst (λ w. Delivered c.out c.err w c.status) p d)
comes c (Ok report, inr m, d) = report_comes c report m d
comes c (Err refusal, inr m, d) = refusal_comes c refusal m d

-- ---- each status comes only by its cause

-- a status that isn't one of reports
not_end : (s x : Status) → IsEnd s → is_end x ≡ false → s ≢ x
not_end s x p q e = let same : is_end s ≡ is_end x = ap is_end e in absurd cc

no_report : (c : Call) (command : Meant) (report : Report) → Yields c.shelf command report → c.status ≡ report.status → (x : Status) → is_end x ≡ false → c.status ≢ x
no_report c command report y p x q = not_end c.status x (rw p (yields_end c.shelf command report y)) q

-- the statuses of refused files
abbrev IsOfFiles : Status → Type 0
IsOfFiles statuses.ReadFault = Unit {0}
IsOfFiles statuses.TooLong = Unit {0}
IsOfFiles statuses.TieRefused = Unit {0}
IsOfFiles statuses.AsmRefused = Unit {0}
IsOfFiles statuses.NetRefused = Unit {0}
IsOfFiles statuses.TextRefused = Unit {0}
IsOfFiles other = ⊥

files_end : (x : Status) → IsOfFiles x → IsEnd x → ⊥
files_end statuses.Done f e = f
files_end statuses.Trapped f e = f
files_end statuses.Unfinished f e = f
files_end statuses.Blocked f e = f
files_end other f e = absurd cc

-- a file of a command was refused
record Refusing_of (c : Call) (status : Status) : Type 0 where
  pub command : Meant
  pub refusal : Refusal
  pub accepts : Accepts c.words command
  pub first : FirstWrong c.shelf (files command) refusal
  pub is : status_of refusal ≡ status
  pub says : Says c refusal

refused_by : (c : Call) → IsRight c → (x : Status) → IsOfFiles x → c.status ≡ x → Refusing_of c x
refused_by c r x f e = at (comes c r)
  where
    at : Comes c → Refusing_of c x
    at (Reports command report a y p w) = absurd (files_end x f (rw (sym e) (rw p (yields_end c.shelf command report y))))
    at (Refusing command refusal a first p w) = record { command = command; refusal = refusal; accepts = a; first = first; is = sym p ∙ e; says = w }
    at (Misused place wrong p w) = absurd (subst IsOfFiles (sym e ∙ p) f)
    at (Faults p g) = absurd (subst IsOfFiles (sym e ∙ p) f)
    at (Wants p) = absurd (subst IsOfFiles (sym e ∙ p) f)

pub usage_only : (c : Call) → IsRight c → c.status ≡ statuses.Usage → (place : ℕ) × WrongAt c.words place × Says c (Usage place)
usage_only c r e = at (comes c r)
  where
    of : (refusal : Refusal) → IsOfFile refusal → c.status ≡ status_of refusal → (place : ℕ) × WrongAt c.words place × Says c (Usage place)
    of (Usage n) o p = absurd o
    of (ReadFault n) o p = absurd cc
    of (TooLong n) o p = absurd cc
    of (TieRefused n rule place) o p = absurd cc
    of (AsmRefused n rule line column) o p = absurd cc
    of (HexRefused n rule place) o p = absurd cc
    of (NetRefused n rule key) o p = absurd cc
    of NoMemory o p = absurd o

    at : Comes c → (place : ℕ) × WrongAt c.words place × Says c (Usage place)
    at (Reports command report a y p w) = absurd (no_report c command report y p statuses.Usage refl e)
    at (Refusing command refusal a first p w) = of refusal (first_of c.shelf (files command) refusal first) p
    at (Misused place wrong p w) = (place, wrong, w)
    at (Faults p f) = absurd cc
    at (Wants p) = absurd cc

-- the rose count of a read that failed
wrong_rose : (s : Shelved) (file name : List ℕ) (Refuses : List ℕ → Refusal → Type 0) → ((text : List ℕ) → ¬ Refuses text (ReadFault name)) → IsWrong s file Refuses (ReadFault name)
    → Rose (s.before name) (s.after name)
wrong_rose s file name Refuses none (ReadFails p rose) = let e : file ≡ name = cc in subst (λ n. Rose (s.before n) (s.after n)) e rose
wrong_rose s file name Refuses none (IsTooLong p front longer) = absurd cc
wrong_rose s file name Refuses none (TextIsWrong text read bad) = absurd (none text bad)

file_rose : (s : Shelved) (file : File) (name : List ℕ) → IsWrongFile s file (ReadFault name) → Rose (s.before name) (s.after name)
file_rose s (Tie n) name h = wrong_rose s n name _ (λ text. λ (rule, place, h, p). absurd cc) h
file_rose s (Hex n) name h = wrong_rose s n name _ (λ text. λ (rule, place, h, p). absurd cc) h
file_rose s (Source tie n) name h = wrong_rose s n name _ (λ text. λ (d, h, (rule, line, column, k, p)). absurd cc) h
file_rose s (Network n) name h = rose_net s n name h

pub rose_of : (s : Shelved) (fs : List File) (name : List ℕ) → FirstWrong s fs (ReadFault name) → Rose (s.before name) (s.after name)
rose_of s [] name h = absurd h
rose_of s (file ∷ fs) name (inl h) = file_rose s file name h
rose_of s (file ∷ fs) name (inr h) = rose_of s fs name h.1

pub read_fault_only : (c : Call) → IsRight c → ReadFaultIsRight c
read_fault_only c r e = let h = refused_by c r statuses.ReadFault tt e in of h.refusal h.command h.accepts h.first h.is h.says
  where
    of : (refusal : Refusal) (command : Meant) → Accepts c.words command → FirstWrong c.shelf (files command) refusal → status_of refusal ≡ statuses.ReadFault → Says c refusal
        → (name : List ℕ) × Rose (c.shelf.before name) (c.shelf.after name) × IsRefusedSo c (ReadFault name)
    of (Usage n) command a first p w = absurd cc
    of (ReadFault n) command a first p w = (n, rose_of c.shelf (files command) n first, (command, a, first, w))
    of (TooLong n) command a first p w = absurd cc
    of (TieRefused n rule place) command a first p w = absurd cc
    of (AsmRefused n rule line column) command a first p w = absurd cc
    of (HexRefused n rule place) command a first p w = absurd cc
    of (NetRefused n rule key) command a first p w = absurd cc
    of NoMemory command a first p w = absurd cc

pub too_long_only : (c : Call) → IsRight c → c.status ≡ statuses.TooLong → (name : List ℕ) × IsRefusedSo c (TooLong name)
too_long_only c r e = let h = refused_by c r statuses.TooLong tt e in of h.refusal h.command h.accepts h.first h.is h.says
  where
    of : (refusal : Refusal) (command : Meant) → Accepts c.words command → FirstWrong c.shelf (files command) refusal → status_of refusal ≡ statuses.TooLong → Says c refusal
        → (name : List ℕ) × IsRefusedSo c (TooLong name)
    of (Usage n) command a first p w = absurd cc
    of (ReadFault n) command a first p w = absurd cc
    of (TooLong n) command a first p w = (n, (command, a, first, w))
    of (TieRefused n rule place) command a first p w = absurd cc
    of (AsmRefused n rule line column) command a first p w = absurd cc
    of (HexRefused n rule place) command a first p w = absurd cc
    of (NetRefused n rule key) command a first p w = absurd cc
    of NoMemory command a first p w = absurd cc

pub tie_refused_only : (c : Call) → IsRight c → c.status ≡ statuses.TieRefused → (name : List ℕ) × (rule : TieRule) × (place : ℕ) × IsRefusedSo c (TieRefused name rule place)
tie_refused_only c r e = let h = refused_by c r statuses.TieRefused tt e in of h.refusal h.command h.accepts h.first h.is h.says
  where
    of : (refusal : Refusal) (command : Meant) → Accepts c.words command → FirstWrong c.shelf (files command) refusal → status_of refusal ≡ statuses.TieRefused → Says c refusal
        → (name : List ℕ) × (rule : TieRule) × (place : ℕ) × IsRefusedSo c (TieRefused name rule place)
    of (Usage n) command a first p w = absurd cc
    of (ReadFault n) command a first p w = absurd cc
    of (TooLong n) command a first p w = absurd cc
    of (TieRefused n rule place) command a first p w = (n, rule, place, (command, a, first, w))
    of (AsmRefused n rule line column) command a first p w = absurd cc
    of (HexRefused n rule place) command a first p w = absurd cc
    of (NetRefused n rule key) command a first p w = absurd cc
    of NoMemory command a first p w = absurd cc

pub text_refused_only : (c : Call) → IsRight c → c.status ≡ statuses.TextRefused → (name : List ℕ) × (rule : HexRule) × (place : ℕ) × IsRefusedSo c (HexRefused name rule place)
text_refused_only c r e = let h = refused_by c r statuses.TextRefused tt e in of h.refusal h.command h.accepts h.first h.is h.says
  where
    of : (refusal : Refusal) (command : Meant) → Accepts c.words command → FirstWrong c.shelf (files command) refusal → status_of refusal ≡ statuses.TextRefused → Says c refusal
        → (name : List ℕ) × (rule : HexRule) × (place : ℕ) × IsRefusedSo c (HexRefused name rule place)
    of (Usage n) command a first p w = absurd cc
    of (ReadFault n) command a first p w = absurd cc
    of (TooLong n) command a first p w = absurd cc
    of (TieRefused n rule place) command a first p w = absurd cc
    of (AsmRefused n rule line column) command a first p w = absurd cc
    of (HexRefused n rule place) command a first p w = (n, rule, place, (command, a, first, w))
    of (NetRefused n rule key) command a first p w = absurd cc
    of NoMemory command a first p w = absurd cc

pub asm_refused_only : (c : Call) → IsRight c → c.status ≡ statuses.AsmRefused → (name : List ℕ) × (rule : AsmRule) × (line : ℕ) × (column : ℕ) × IsRefusedSo c (AsmRefused name rule line column)
asm_refused_only c r e = let h = refused_by c r statuses.AsmRefused tt e in of h.refusal h.command h.accepts h.first h.is h.says
  where
    of : (refusal : Refusal) (command : Meant) → Accepts c.words command → FirstWrong c.shelf (files command) refusal → status_of refusal ≡ statuses.AsmRefused → Says c refusal
        → (name : List ℕ) × (rule : AsmRule) × (line : ℕ) × (column : ℕ) × IsRefusedSo c (AsmRefused name rule line column)
    of (Usage n) command a first p w = absurd cc
    of (ReadFault n) command a first p w = absurd cc
    of (TooLong n) command a first p w = absurd cc
    of (TieRefused n rule place) command a first p w = absurd cc
    of (AsmRefused n rule line column) command a first p w = (n, rule, line, column, (command, a, first, w))
    of (HexRefused n rule place) command a first p w = absurd cc
    of (NetRefused n rule key) command a first p w = absurd cc
    of NoMemory command a first p w = absurd cc

pub net_refused_only : (c : Call) → IsRight c → c.status ≡ statuses.NetRefused → (name : List ℕ) × (rule : NetRule) × (key : List ℕ) × IsRefusedSo c (NetRefused name rule key)
net_refused_only c r e = let h = refused_by c r statuses.NetRefused tt e in of h.refusal h.command h.accepts h.first h.is h.says
  where
    of : (refusal : Refusal) (command : Meant) → Accepts c.words command → FirstWrong c.shelf (files command) refusal → status_of refusal ≡ statuses.NetRefused → Says c refusal
        → (name : List ℕ) × (rule : NetRule) × (key : List ℕ) × IsRefusedSo c (NetRefused name rule key)
    of (Usage n) command a first p w = absurd cc
    of (ReadFault n) command a first p w = absurd cc
    of (TooLong n) command a first p w = absurd cc
    of (TieRefused n rule place) command a first p w = absurd cc
    of (AsmRefused n rule line column) command a first p w = absurd cc
    of (HexRefused n rule place) command a first p w = absurd cc
    of (NetRefused n rule key) command a first p w = (n, rule, key, (command, a, first, w))
    of NoMemory command a first p w = absurd cc

-- a status of reports is that of a report
no_refusal : (refusal : Refusal) → IsEnd (status_of refusal) → ⊥
no_refusal (Usage n) e = absurd cc
no_refusal (ReadFault n) e = absurd cc
no_refusal (TooLong n) e = absurd cc
no_refusal (TieRefused n rule place) e = absurd cc
no_refusal (AsmRefused n rule line column) e = absurd cc
no_refusal (HexRefused n rule place) e = absurd cc
no_refusal (NetRefused n rule key) e = absurd cc
no_refusal NoMemory e = absurd cc

pub report_only : (c : Call) (status : Status) → IsRight c → IsEnd status → c.status ≡ status
    → (command : Meant) × (report : Report) × Accepts c.words command × (report.status ≡ status) × Shows c command report
report_only c status r end e = at (comes c r)
  where
    ends : (s : Status) → c.status ≡ s → IsEnd s
    ends s p = subst IsEnd (sym e ∙ p) end

    no_fault : IsEnd statuses.WriteFault → ⊥
    no_fault p = absurd cc

    at : Comes c → (command : Meant) × (report : Report) × Accepts c.words command × (report.status ≡ status) × Shows c command report
    at (Reports command report a y p w) = (command, report, a, sym p ∙ e, (y, p, w))
    at (Refusing command refusal a first p w) = absurd (no_refusal refusal (ends (status_of refusal) p))
    at (Misused place wrong p w) = absurd (no_refusal (Usage place) (ends statuses.Usage p))
    at (Faults p f) = absurd (no_fault (ends statuses.WriteFault p))
    at (Wants p) = absurd (no_refusal NoMemory (ends statuses.NoMemory p))

not_write_fault : (refusal : Refusal) → status_of refusal ≢ statuses.WriteFault
not_write_fault (Usage n) = λ p. absurd cc
not_write_fault (ReadFault n) = λ p. absurd cc
not_write_fault (TooLong n) = λ p. absurd cc
not_write_fault (TieRefused n rule place) = λ p. absurd cc
not_write_fault (AsmRefused n rule line column) = λ p. absurd cc
not_write_fault (HexRefused n rule place) = λ p. absurd cc
not_write_fault (NetRefused n rule key) = λ p. absurd cc
not_write_fault NoMemory = λ p. absurd cc

pub write_fault_only : (c : Call) → IsRight c → WriteFaultIsRight c
write_fault_only c r e = at (comes c r)
  where
    at : Comes c → ((report : Report) × Means c.shelf c.words (Ok report) × Faulted c.out c.err report.text)
        ⊎ ((refusal : Refusal) × Means c.shelf c.words (Err refusal) × Faulted c.err c.out (line_of refusal))
    at (Reports command report a y p w) = absurd (no_report c command report y p statuses.WriteFault refl e)
    at (Refusing command refusal a first p w) = absurd (not_write_fault refusal (sym p ∙ e))
    at (Misused place wrong p w) = absurd cc
    at (Faults p f) = f
    at (Wants p) = absurd cc
