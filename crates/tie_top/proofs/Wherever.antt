-- Each status comes wherever its cause holds.
use Rattle.std.proofs.Common.{◌≡◌, ◌⊎◌, ℕ, ◌≤◌, ◌<◌, List, [], ◌∷◌, length, Option, Some, Result, Ok, Err, refl, sym, ap, subst, inl, inr, ◌∙◌, arith}
use Rattle.std.proofs.lemmas.List.{append-nil}
use Rattle.tie_io.specs.Reading.{IsLonger}
use Rattle.tie_io.specs.Writing.{Grew, GrewWithin}
use Rattle.hex_text.specs.declared.hexadecimal.HexRule.{HexRule}
use Rattle.hex_text.specs.Hexadecimal.{hex_bytes}
use Rattle.tie_desc.specs.Description.{Description}
use Rattle.asm_law.specs.tie_front.declared.refusal.TieRule.{TieRule}
use Rattle.asm_law.specs.tie_front.Front.{IsDescriptionOf}
use Rattle.asm_lines.specs.declared.refusal.AsmRule.{AsmRule}
use Rattle.asm_lines.specs.Tokens.{Fault}
use Rattle.asm_law.specs.xt_asm.Assembly.{assembly}
use Rattle.asm_law.proofs.SameDescription.{one_image}
use Rattle.asm_law.proofs.tie_front_proofs.Laws.{one_refusal, not_refused}
use Rattle.load_law.proofs.Laws.{loaded_refused, one_refused, steady_net}
use Rattle.tie_words.specs.Words.{Meant, Check, Asm, Dis, Exec, ExecTie, Ref, Strict, Accepts, WrongAt}
use Rattle.tie_words.proofs.WordLemmas.{one_command, one_place}
use Rattle.tie_top.specs.declared.status.Status.{Status}
use Rattle.tie_top.specs.declared.status.Status.TheVariants as statuses
use Rattle.load_law.specs.tie_files.declared.refusal.Refusal.{Refusal}
use Rattle.load_law.specs.tie_files.declared.refusal.Refusal.TheVariants.{Usage, ReadFault, TooLong, TieRefused, AsmRefused, HexRefused, NetRefused, NoMemory}
use Rattle.tie_top.specs.declared.report.Report.{Report}
use Rattle.load_law.specs.net_toml.declared.refusal.NetRule.{NetRule}
use Rattle.load_law.specs.net_load.Told.{IsTold, IsSteady, IsToldNet}
use Rattle.load_law.specs.tie_files.Files.{Shelved, IsTextOf, IsTie, IsWrong, ReadFails, IsTooLong, TextIsWrong, RefusesTie, RefusesHex}
use Rattle.tie_top.specs.Files.{File, Tie, Hex, Source, Network, files, IsAccepted, RefusesBy, IsWrongFile, FirstWrong}
use Rattle.tie_top.specs.Meaning.{Yields}
use Rattle.tie_top.specs.Delivery.{Sunk, Delivered, Reported, Wanted}
use Rattle.tie_top.specs.Answers.{Call, IsRight, AreTold, FailsToRead, MustRefuse, AreAccepted, Shows, IsSteadyFile, NoneRose, IsComplete}
use Rattle.tie_top.proofs.Writing.{Grew-nothing}

-- ---- want of memory

-- memory ran out, with nothing written but a first part of its line
pub record RanOut (c : Call) : Type 0 where
  pub status : c.status ≡ statuses.NoMemory
  pub wanted : Wanted c.out c.err []

untouched_within : (sink : Sunk) → sink.after ≡ sink.before → GrewWithin sink.before sink.after []
untouched_within sink same = ([], ([], refl), subst (λ z. Grew sink.before z []) (sym same) (Grew-nothing sink.before))

whole_within : (before after : Option (List ℕ)) (text : List ℕ) → Grew before after text → GrewWithin before after text
whole_within before after text grew = (text, ([], sym (append-nil text)), grew)

ran_out : (c : Call) → Delivered c.out c.err (Err NoMemory) c.status → RanOut c
ran_out c (inl (p, (grew, same))) = record { status = p; wanted = (untouched_within c.out same, whole_within _ _ _ grew) }
ran_out c (inr (inl (p, ne, f))) = absurd (ne refl)
ran_out c (inr (inr (p, w))) = record { status = p; wanted = w }

-- then any refusal was delivered so
ran_out_delivers : (c : Call) (refusal : Refusal) → RanOut c → Delivered c.out c.err (Err refusal) c.status
ran_out_delivers c refusal r = inr (inr (r.status, r.wanted))

-- ---- words

pub usage_where : (c : Call) → IsRight c → (place : ℕ) → WrongAt c.words place → Delivered c.out c.err (Err (Usage place)) c.status
usage_where c (v, inl p, d) place wrong = ran_out_delivers c (Usage place) (ran_out c (subst (λ w. Delivered c.out c.err w c.status) p d))
usage_where c (v, inr (inl (command, accepts, h)), d) place wrong = absurd (wrong.refused command accepts)
usage_where c (v, inr (inr (other, is_wrong, p)), d) place wrong =
    let e : v ≡ Err (Usage place) = p ∙ ap (λ n. Err (Usage n)) (one_place c.words other place is_wrong wrong) in
    subst (λ w. Delivered c.out c.err w c.status) e d

-- what becomes of a command
data Answered (c : Call) (command : Meant) : Type 0 where
  Reports : (report : Report) → Yields c.shelf command report → Delivered c.out c.err (Ok report) c.status → Answered c command
  Refusing : (refusal : Refusal) → FirstWrong c.shelf (files command) refusal → Delivered c.out c.err (Err refusal) c.status → Answered c command
  Wants : RanOut c → Answered c command

answered : (c : Call) → IsRight c → (command : Meant) → Accepts c.words command → Answered c command
answered c (v, inl p, d) command a = Wants (ran_out c (subst (λ w. Delivered c.out c.err w c.status) p d))
answered c (Ok report, inr (inl (other, accepts, h)), d) command a = Reports report (subst (λ m. Yields c.shelf m report) (one_command c.words other command accepts a) h) d
answered c (Err refusal, inr (inl (other, accepts, h)), d) command a = Refusing refusal (subst (λ m. FirstWrong c.shelf (files m) refusal) (one_command c.words other command accepts a) h) d
answered c (v, inr (inr (place, wrong, p)), d) command a = absurd (wrong.refused command a)

-- ---- one file

-- the refusal is a fault of reading
abbrev IsReadFault : Refusal → Type 0
IsReadFault refusal = (name : List ℕ) × (refusal ≡ ReadFault name)

same_text : (s : Shelved) (name told a b : List ℕ) → s.holds name ≡ Some told → IsTextOf s name a → IsTextOf s name b → a ≡ b
same_text s name told a b e p q = sym (rw e at p.1) ∙ (rw e at q.1)

not_longer : (s : Shelved) (name told a front : List ℕ) → s.holds name ≡ Some told → IsTextOf s name a → IsLonger (s.holds name) 1048576 front → ⊥
not_longer s name told a front e p q =
    let same : told ≡ a = rw e at p.1 in
    let long : 1048576 < length told = (rw e at q.1).0 in
    let short : length told ≤ 1048576 = rw same p.0 in
    omega arith

-- a told file whose text isn't refused is wrong only where its read fails
kept_wrong : (s : Shelved) (name : List ℕ) (Refuses : List ℕ → Refusal → Type 0) (text : List ℕ) (e : Refusal)
    → IsTold s name → IsTextOf s name text → ¬ Refuses text e → IsWrong s name Refuses e → IsReadFault e
kept_wrong s name Refuses text e told read fine (ReadFails p rose) = (name, p)
kept_wrong s name Refuses text e told read fine (IsTooLong p front longer) = absurd (not_longer s name told.0 text front told.1 read longer)
kept_wrong s name Refuses text e told read fine (TextIsWrong other also bad) =
    absurd (fine (subst (λ t. Refuses t e) (same_text s name told.0 other text told.1 also read) bad))

-- two refusals of a told file are one, or one is a fault of reading, where a text is refused in one way
one_of : (s : Shelved) (name : List ℕ) (Refuses : List ℕ → Refusal → Type 0) (e f : Refusal)
    → IsTold s name → ((text : List ℕ) → Refuses text e → Refuses text f → e ≡ f) → IsWrong s name Refuses e → IsWrong s name Refuses f
    → (e ≡ f) ⊎ IsReadFault e ⊎ IsReadFault f
one_of s name Refuses e f told one (ReadFails p rose) b = inr (inl (name, p))
one_of s name Refuses e f told one (IsTooLong p front longer) (ReadFails q rose) = inr (inr (name, q))
one_of s name Refuses e f told one (IsTooLong p front longer) (IsTooLong q other also) = inl (p ∙ sym q)
one_of s name Refuses e f told one (IsTooLong p front longer) (TextIsWrong text read bad) = absurd (not_longer s name told.0 text front told.1 read longer)
one_of s name Refuses e f told one (TextIsWrong text read bad) (ReadFails q rose) = inr (inr (name, q))
one_of s name Refuses e f told one (TextIsWrong text read bad) (IsTooLong q other also) = absurd (not_longer s name told.0 text other told.1 read also)
one_of s name Refuses e f told one (TextIsWrong a read bad) (TextIsWrong b also nor) =
    inl (one a bad (subst (λ t. Refuses t f) (same_text s name told.0 b a told.1 also read) nor))

-- a file is told, of a source its TIE text too, and of a network the files that it names
abbrev IsReady : Shelved → File → Type 0
IsReady s (Tie name) = IsTold s name
IsReady s (Hex name) = IsTold s name
IsReady s (Source tie name) = IsTold s tie × IsTold s name
IsReady s (Network name) = IsToldNet s name

-- a source has one image, or one fault, by the description of its TIE text
one_source : (s : Shelved) (tie : List ℕ) (d e : Description) (source : List ℕ) → IsTold s tie → IsTie s tie d → IsTie s tie e → assembly d source ≡ assembly e source
one_source s tie d e source told h k =
    let same : h.text ≡ k.text = same_text s tie told.0 h.text k.text told.1 h.read k.read in
    one_image k.text d e (subst (λ t. IsDescriptionOf t d) same h.is) k.is source

not_both : (image : List ℕ) (fault : Fault) (x : Result (List ℕ) Fault) → x ≡ Ok image → x ≡ Err fault → ⊥
not_both image fault x p q = let both : Ok image ≡ Err fault = sym p ∙ q in absurd cc

-- a file that is told and accepted is wrong only where its read fails
accepted_wrong : (s : Shelved) (file : File) (e : Refusal) → IsReady s file → IsAccepted s file → IsWrongFile s file e → IsReadFault e
accepted_wrong s (Tie name) e ready (d, h) wrong = kept_wrong s name (RefusesTie name) h.text e ready h.read (λ (rule, place, bad, p). not_refused h.text d rule place h.is bad) wrong
accepted_wrong s (Hex name) e ready (image, h) wrong =
    kept_wrong s name (RefusesHex name) h.text e ready h.read (λ (rule, place, bad, p). let both : Ok image ≡ Err (rule, place) = sym h.is ∙ bad in absurd cc) wrong
accepted_wrong s (Source tie name) e ready (d, image, h, k) wrong =
    kept_wrong s name (RefusesBy s tie name) k.text e ready.1 k.read
    (λ (f, g, (rule, line, column, bad, p)). not_both image (rule, line, column) (assembly d k.text) k.is (one_source s tie d f k.text ready.0 h g ∙ bad)) wrong
accepted_wrong s (Network name) e ready (net, h) wrong = loaded_refused s name net e ready h wrong

-- a text is refused in one way
same_fault : (a b : HexRule × ℕ) (x : Result (List ℕ) (HexRule × ℕ)) → x ≡ Err a → x ≡ Err b → a ≡ b
same_fault a b x p q = cc

same_asm : (a b : Fault) (x : Result (List ℕ) Fault) → x ≡ Err a → x ≡ Err b → a ≡ b
same_asm a b x p q = cc

one_tie : (name text : List ℕ) (e f : Refusal) → RefusesTie name text e → RefusesTie name text f → e ≡ f
one_tie name text e f (r, p, a, is) (s, q, b, also) =
    let one = one_refusal text r s p q a b in is ∙ ap (λ z. TieRefused name z p) one.rule ∙ ap (λ z. TieRefused name s z) one.place ∙ sym also

one_hex : (name text : List ℕ) (e f : Refusal) → RefusesHex name text e → RefusesHex name text f → e ≡ f
one_hex name text e f (r, p, a, is) (s, q, b, also) =
    let one : (r, p) ≡ (s, q) = same_fault (r, p) (s, q) (hex_bytes 65536 text) a b in
    is ∙ ap (λ (z : HexRule × ℕ). HexRefused name z.0 z.1) one ∙ sym also

one_asm : (s : Shelved) (tie name text : List ℕ) (e f : Refusal) → IsTold s tie → RefusesBy s tie name text e → RefusesBy s tie name text f → e ≡ f
one_asm s tie name text e f told (d, h, (r, l, k, a, is)) (d2, h2, (r2, l2, k2, b, also)) =
    let one : (r, l, k) ≡ (r2, l2, k2) = same_asm (r, l, k) (r2, l2, k2) (assembly d text) a (one_source s tie d d2 text told h h2 ∙ b) in
    is ∙ ap (λ (z : Fault). AsmRefused name z.0 z.1 z.2) one ∙ sym also

-- two refusals of a told file are one, or one is a fault of reading
one_wrong : (s : Shelved) (file : File) (e f : Refusal) → IsReady s file → IsWrongFile s file e → IsWrongFile s file f → (e ≡ f) ⊎ IsReadFault e ⊎ IsReadFault f
one_wrong s (Tie name) e f ready a b = one_of s name (RefusesTie name) e f ready (λ text. one_tie name text e f) a b
one_wrong s (Hex name) e f ready a b = one_of s name (RefusesHex name) e f ready (λ text. one_hex name text e f) a b
one_wrong s (Source tie name) e f ready a b = one_of s name (RefusesBy s tie name) e f ready.1 (λ text. one_asm s tie name text e f ready.0) a b
one_wrong s (Network name) e f ready a b = one_refused s name e f ready a b

-- ---- all files

-- a refusal that is no fault of reading
abbrev IsSettled : Refusal → Type 0
IsSettled refusal = IsReadFault refusal → ⊥

abbrev AreReady : Shelved → List File → Type 0
AreReady s [] = Unit {0}
AreReady s (file ∷ fs) = IsReady s file × AreReady s fs

ready_of : (s : Shelved) (command : Meant) → AreTold s (files command) → AreReady s (files command)
ready_of s (Check tie) told = told
ready_of s (Asm tie source) told = (told.0, ((told.0, told.1.0), tt))
ready_of s (Dis tie hex) told = told
ready_of s (Exec hex) told = told
ready_of s (ExecTie hex tie) told = told
ready_of s (Ref net) told = told
ready_of s (Strict net) told = told

one_first : (s : Shelved) (fs : List File) (e f : Refusal) → AreReady s fs → IsSettled e → FirstWrong s fs e → FirstWrong s fs f → (e ≡ f) ⊎ IsReadFault f
one_first s [] e f told settled a b = absurd a
one_first s (file ∷ fs) e f told settled (inl a) (inl b) = settle (one_wrong s file e f told.0 a b)
  where
    settle : (e ≡ f) ⊎ IsReadFault e ⊎ IsReadFault f → (e ≡ f) ⊎ IsReadFault f
    settle (inl p) = inl p
    settle (inr (inl p)) = absurd (settled p)
    settle (inr (inr p)) = inr p
one_first s (file ∷ fs) e f told settled (inl a) (inr b) = absurd (settled (accepted_wrong s file e told.0 b.0 a))
one_first s (file ∷ fs) e f told settled (inr a) (inl b) = inr (accepted_wrong s file f told.0 a.0 b)
one_first s (file ∷ fs) e f told settled (inr a) (inr b) = one_first s fs e f told.1 settled a.1 b.1

-- accepted files have no refusal but faults of reading
none_first : (s : Shelved) (fs : List File) (e : Refusal) → AreReady s fs → AreAccepted s fs → FirstWrong s fs e → IsReadFault e
none_first s [] e told a h = absurd h
none_first s (file ∷ fs) e told a (inl h) = accepted_wrong s file e told.0 a.0 h
none_first s (file ∷ fs) e told a (inr h) = none_first s fs e told.1 a.1 h.1

-- where there is a report, all files are accepted
yields_accepted : (s : Shelved) (command : Meant) (report : Report) → Yields s command report → AreAccepted s (files command)
yields_accepted s (Check tie) report (d, h, p) = ((d, h), tt)
yields_accepted s (Asm tie source) report (d, image, h, k, p) = ((d, h), ((d, image, h, k), tt))
yields_accepted s (Dis tie hex) report (d, image, h, k, text, l, p) = ((d, h), ((image, k), tt))
yields_accepted s (Exec hex) report (image, h, r) = ((image, h), tt)
yields_accepted s (ExecTie hex tie) report (image, d, h, k, r) = ((image, h), ((d, k), tt))
yields_accepted s (Ref net) report (n, h, r) = ((n, h), tt)
yields_accepted s (Strict net) report (n, h, r) = ((n, h), tt)

-- a fault of reading that was answered
fails : (c : Call) (command : Meant) (refusal : Refusal) → IsReadFault refusal → FirstWrong c.shelf (files command) refusal → Delivered c.out c.err (Err refusal) c.status → FailsToRead c command
fails c command refusal (name, p) first d = (name, subst (FirstWrong c.shelf (files command)) p first, subst (λ r. Delivered c.out c.err (Err r) c.status) p d)

pub must_refuse : (c : Call) → IsRight c → (refusal : Refusal) → (IsReadFault refusal → ⊥) → MustRefuse c refusal
must_refuse c r refusal settled command a told first = at (answered c r command a)
  where
    by : (other : Refusal) → FirstWrong c.shelf (files command) other → Delivered c.out c.err (Err other) c.status → (refusal ≡ other) ⊎ IsReadFault other
        → Delivered c.out c.err (Err refusal) c.status ⊎ FailsToRead c command
    by other h d (inl p) = inl (subst (λ z. Delivered c.out c.err (Err z) c.status) (sym p) d)
    by other h d (inr p) = inr (fails c command other p h d)

    at : Answered c command → Delivered c.out c.err (Err refusal) c.status ⊎ FailsToRead c command
    at (Reports report y d) = absurd (settled (none_first c.shelf (files command) refusal (ready_of c.shelf command told) (yields_accepted c.shelf command report y) first))
    at (Refusing other h d) = by other h d (one_first c.shelf (files command) refusal other (ready_of c.shelf command told) settled first h)
    at (Wants out) = inl (ran_out_delivers c refusal out)

pub too_long_where : (c : Call) → IsRight c → (name : List ℕ) → MustRefuse c (TooLong name)
too_long_where c r name = must_refuse c r (TooLong name) (λ (n, p). absurd cc)

pub tie_refused_where : (c : Call) → IsRight c → (name : List ℕ) (rule : TieRule) (place : ℕ) → MustRefuse c (TieRefused name rule place)
tie_refused_where c r name rule place = must_refuse c r (TieRefused name rule place) (λ (n, p). absurd cc)

pub text_refused_where : (c : Call) → IsRight c → (name : List ℕ) (rule : HexRule) (place : ℕ) → MustRefuse c (HexRefused name rule place)
text_refused_where c r name rule place = must_refuse c r (HexRefused name rule place) (λ (n, p). absurd cc)

pub asm_refused_where : (c : Call) → IsRight c → (name : List ℕ) (rule : AsmRule) (line column : ℕ) → MustRefuse c (AsmRefused name rule line column)
asm_refused_where c r name rule line column = must_refuse c r (AsmRefused name rule line column) (λ (n, p). absurd cc)

pub net_refused_where : (c : Call) → IsRight c → (name : List ℕ) (rule : NetRule) (key : List ℕ) → MustRefuse c (NetRefused name rule key)
net_refused_where c r name rule key = must_refuse c r (NetRefused name rule key) (λ (n, p). absurd cc)

pub report_where : (c : Call) (status : Status) → IsRight c → (command : Meant) → Accepts c.words command → AreTold c.shelf (files command) → AreAccepted c.shelf (files command)
    → ((report : Report) → Yields c.shelf command report → report.status ≡ status)
    → ((report : Report) × (report.status ≡ status) × Yields c.shelf command report × Delivered c.out c.err (Ok report) c.status)
    ⊎ FailsToRead c command ⊎ (c.status ≡ statuses.NoMemory)
report_where c status r command a told fine all = at (answered c r command a)
  where
    at : Answered c command
        → ((report : Report) × (report.status ≡ status) × Yields c.shelf command report × Delivered c.out c.err (Ok report) c.status)
        ⊎ FailsToRead c command ⊎ (c.status ≡ statuses.NoMemory)
    at (Reports report y d) = inl (report, all report y, y, d)
    at (Refusing other h d) = inr (inl (fails c command other (none_first c.shelf (files command) other (ready_of c.shelf command told) fine h) h d))
    at (Wants out) = inr (inr out.status)

-- no read failed, so no fault of reading is the answer
wrong_steady : (s : Shelved) (file name : List ℕ) (Refuses : List ℕ → Refusal → Type 0) → ((text : List ℕ) → ¬ Refuses text (ReadFault name)) → IsSteady s file
    → IsWrong s file Refuses (ReadFault name) → ⊥
wrong_steady s file name Refuses none steady (ReadFails p rose) = steady rose
wrong_steady s file name Refuses none steady (IsTooLong p front longer) = absurd cc
wrong_steady s file name Refuses none steady (TextIsWrong text read bad) = none text bad

file_steady : (s : Shelved) (file : File) (name : List ℕ) → IsReady s file → IsSteadyFile s file → IsWrongFile s file (ReadFault name) → ⊥
file_steady s (Tie n) name ready steady h = wrong_steady s n name _ (λ text. λ (rule, place, h, p). absurd cc) steady h
file_steady s (Hex n) name ready steady h = wrong_steady s n name _ (λ text. λ (rule, place, h, p). absurd cc) steady h
file_steady s (Source tie n) name ready steady h = wrong_steady s n name _ (λ text. λ (d, h, (rule, line, column, k, p)). absurd cc) steady h
file_steady s (Network n) name ready steady h = steady_net s n name ready steady h

none_failed : (s : Shelved) (fs : List File) (name : List ℕ) → AreReady s fs → NoneRose s fs → FirstWrong s fs (ReadFault name) → ⊥
none_failed s [] name ready none h = h
none_failed s (file ∷ fs) name ready none (inl h) = file_steady s file name ready.0 none.0 h
none_failed s (file ∷ fs) name ready none (inr h) = none_failed s fs name ready.1 none.1 h.1

pub complete : (c : Call) → IsRight c → IsComplete c
complete c r command a told fine steady sound = at (answered c r command a)
  where
    reports : (report : Report) → Yields c.shelf command report → Reported c.out c.err report c.status → ((report : Report) × Shows c command report) ⊎ (c.status ≡ statuses.NoMemory)
    reports report y (inl (p, w)) = inl (report, (y, p, w))
    reports report y (inr (inl (p, f))) = absurd (sound f.0)
    reports report y (inr (inr (p, w))) = inr p

    at : Answered c command → ((report : Report) × Shows c command report) ⊎ (c.status ≡ statuses.NoMemory)
    at (Reports report y d) = reports report y d
    at (Refusing other h d) =
        let fault = none_first c.shelf (files command) other (ready_of c.shelf command told) fine h in
        absurd (none_failed c.shelf (files command) fault.0 (ready_of c.shelf command told) steady (subst (FirstWrong c.shelf (files command)) fault.1 h))
    at (Wants out) = inr out.status
