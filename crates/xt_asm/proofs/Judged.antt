-- What the checks of all rules say together.
use Rattle.std.proofs.Common.{◌≡◌, ℕ, List, refl, sym, ap, Option, Some, None, ◌∙◌}
use Rattle.std.specs.Prelude.{Result, Ok, Err, IfOk, IfErr}
use Rattle.tie_desc.specs.Description.{Description}
use Rattle.tie_desc.specs.Invariant.{IsDescription}
use Rattle.asm_lines.specs.Tokens.{Fault}
use Rattle.asm_lines.specs.Answers.{Fails, Gives}
use Rattle.asm_lines.specs.declared.refusal.AsmRefusal.{AsmRefusal}
use Rattle.asm_lines.specs.declared.refusal.AsmRefusal.TheVariants as refusal
use Rattle.asm_lines.specs.declared.line.Line.{Line}
use Rattle.asm_rules.specs.Operands.{Find}
use Rattle.asm_rules.specs.Labels.{addresses, find_in, labels_of}
use Rattle.asm_rules.specs.Judge.{refused, laid, laid_by}
use Rattle.asm_rules.specs.Rules.{or_else, breach_by, line_rules, long_from, unreached_in, fault_in}
use Rattle.xt_asm.specs.Bytes.{image_in}
use Rattle.xt_asm.specs.Assembly.{assembled}
use Rattle.xt_asm.specs.Known.{AreKnown}
use Rattle.xt_asm.specs.Spelled.{HaveBytes}
use Rattle.xt_asm.proofs.Unbroken.{have_bytes}

pub not_refused : (o : Option Fault) → refused o ≡ Ok tt → o ≡ None
not_refused None h = refl
not_refused (Some f) h = absurd cc

refused_by : (o : Option Fault) (f : Fault) → refused o ≡ Err f → o ≡ Some f
refused_by None f h = absurd cc
refused_by (Some g) f h = cc

not_long : (o : Option Fault) (at found : List ℕ) → laid_by o at ≡ Ok found → (o ≡ None) × (at ≡ found)
not_long None at found h = (refl, cc)
not_long (Some g) at found h = absurd cc

long_by : (o : Option Fault) (at : List ℕ) (f : Fault) → laid_by o at ≡ Err f → o ≡ Some f
long_by None at f h = absurd cc
long_by (Some g) at f h = cc

-- all rules as they are checked, with the labels of the lines
all_rules : Description → Find → List Line → Option Fault
all_rules d labels ls = or_else (breach_by d labels line_rules ls) (or_else (long_from d 0 ls) (unreached_in d (find_in (addresses d 0 ls) labels) (addresses d 0 ls) ls))

same_rules : (d : Description) (labels : Find) (ls : List Line) → ((q : List ℕ) → labels q ≡ labels_of ls q) → all_rules d labels ls ≡ fault_in d ls
unfolding all_rules
same_rules d labels ls h = let same : labels ≡ labels_of ls = λ i q. h q i in ap (λ f. all_rules d f ls) same

-- the answer of each check
pub line_fault : (d : Description) (labels : Find) (ls : List Line) (f : Fault) → ((q : List ℕ) → labels q ≡ labels_of ls q) → refused (breach_by d labels line_rules ls) ≡ Err f
    → assembled d ls (fault_in d ls) ≡ Err f
unfolding all_rules
line_fault d labels ls f h e =
    let b = refused_by (breach_by d labels line_rules ls) f e in
    let rest = or_else (long_from d 0 ls) (unreached_in d (find_in (addresses d 0 ls) labels) (addresses d 0 ls) ls) in
    ap (assembled d ls) (sym (same_rules d labels ls h) ∙ ap (λ o. or_else o rest) b)

pub long_fault : (d : Description) (labels : Find) (ls : List Line) (f : Fault) → ((q : List ℕ) → labels q ≡ labels_of ls q) → refused (breach_by d labels line_rules ls) ≡ Ok tt
    → laid d ls ≡ Err f → assembled d ls (fault_in d ls) ≡ Err f
unfolding all_rules
long_fault d labels ls f h e l =
    let b = not_refused (breach_by d labels line_rules ls) e in
    let c = long_by (long_from d 0 ls) (addresses d 0 ls) f l in
    let reach = unreached_in d (find_in (addresses d 0 ls) labels) (addresses d 0 ls) ls in
    ap (assembled d ls) (sym (same_rules d labels ls h) ∙ ap (λ o. or_else o (or_else (long_from d 0 ls) reach)) b ∙ ap (λ o. or_else o reach) c)

last_rule : (d : Description) (labels : Find) (at : List ℕ) (ls : List Line) → ((q : List ℕ) → labels q ≡ labels_of ls q) → refused (breach_by d labels line_rules ls) ≡ Ok tt → laid d ls ≡ Ok at
    → fault_in d ls ≡ unreached_in d (find_in at labels) at ls
unfolding all_rules
last_rule d labels at ls h e l =
    let b = not_refused (breach_by d labels line_rules ls) e in
    let c = not_long (long_from d 0 ls) (addresses d 0 ls) at l in
    let reach = unreached_in d (find_in (addresses d 0 ls) labels) (addresses d 0 ls) ls in
    sym (same_rules d labels ls h) ∙ ap (λ o. or_else o (or_else (long_from d 0 ls) reach)) b ∙ ap (λ o. or_else o reach) c.0
    ∙ ap (λ a. unreached_in d (find_in a labels) a ls) c.1

pub reach_fault : (d : Description) (labels : Find) (at : List ℕ) (ls : List Line) (f : Fault) → ((q : List ℕ) → labels q ≡ labels_of ls q) → refused (breach_by d labels line_rules ls) ≡ Ok tt
    → laid d ls ≡ Ok at → refused (unreached_in d (find_in at labels) at ls) ≡ Err f → assembled d ls (fault_in d ls) ≡ Err f
reach_fault d labels at ls f h e l r =
    ap (assembled d ls) (last_rule d labels at ls h e l ∙ refused_by (unreached_in d (find_in at labels) at ls) f r)

-- no fault: an image
pub no_fault : (d : Description) (labels : Find) (at : List ℕ) (ls : List Line) → ((q : List ℕ) → labels q ≡ labels_of ls q) → refused (breach_by d labels line_rules ls) ≡ Ok tt
    → laid d ls ≡ Ok at → refused (unreached_in d (find_in at labels) at ls) ≡ Ok tt → assembled d ls (fault_in d ls) ≡ Ok (image_in d (find_in at labels) at ls)
no_fault d labels at ls h e l r =
    let c = not_long (long_from d 0 ls) (addresses d 0 ls) at l in
    let same : labels ≡ labels_of ls = λ i q. h q i in
    ap (assembled d ls) (last_rule d labels at ls h e l ∙ not_refused (unreached_in d (find_in at labels) at ls) r)
    ∙ ap (λ a. Ok (image_in d (find_in a (labels_of ls)) a ls)) c.1 ∙ ap (λ f. Ok (image_in d (find_in at f) at ls)) (sym same)

pub checked_bytes : (d : Description) (labels : Find) (at : List ℕ) (ls : List Line) → IsDescription d → AreKnown d ls → refused (breach_by d labels line_rules ls) ≡ Ok tt
    → refused (unreached_in d (find_in at labels) at ls) ≡ Ok tt → HaveBytes d (find_in at labels) at ls
checked_bytes d labels at ls h k e r =
    have_bytes d labels (find_in at labels) at ls h k (not_refused (breach_by d labels line_rules ls) e) (not_refused (unreached_in d (find_in at labels) at ls) r)

-- a fault of one answer is that of another
pub hands_on : {X Y : Type 0} (e : AsmRefusal) (a : Result X Fault) (b : Result Y Fault) → Fails e a → ((f : Fault) → a ≡ Err f → b ≡ Err f) → Fails e b
hands_on refusal.NoMemory a b h k = tt
hands_on (refusal.Fault r l c) a b h k = k (r, l, c) h

-- both sides of an answer
pub answered : {X Y : Type 0} (view : X → Y) (r : Result X AsmRefusal) (answer : Result Y Fault) → Gives view r answer → IfOk r (λ x. answer ≡ Ok (view x)) × IfErr r (λ e. Fails e answer)
answered view (Ok x) answer h = (h, tt)
answered view (Err e) answer h = (tt, h)
