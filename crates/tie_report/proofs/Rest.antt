-- What is left of a report's lines.
use Rattle.std.proofs.Common.{◌≡◌, ℕ, ◌+◌, ◌<◌, Bool, List, ◌∷◌, ◌++◌, length, drop, get_or, Some, refl, sym, ap, ◌∙◌, arith}
use Rattle.std.specs.Prelude.{slice_get}
use Rattle.std.proofs.lemmas.List.{append_assoc, drop_more}
use Rattle.std.proofs.lemmas.Option.{slice_get_read}
use Rattle.net_ref.specs.net_parts.declared.parts.Net.{Net}
use Rattle.net_ref.specs.net_parts.declared.parts.NetCore.{NetCore}
use Rattle.net_ref.specs.net_parts.declared.ends.CoreEnd.{CoreEnd}
use Rattle.net_ref.specs.net_parts.declared.ends.RunEnd.{RunEnd}
use Rattle.net_ref.specs.xt_exec.Made.{IsFor}
use Rattle.net_ref.specs.Reference.{IsWhole}
use Rattle.tie_report.specs.Report.{core_text, cores_text}

got : {X : Type 0} (xs : List X) (i : ℕ) (x : X) → i < length xs → x ≡ get_or xs i x → slice_get xs i ≡ Some x
got xs i x h e = slice_get_read xs (length xs) i x refl h e

-- a processor's state is made for its kit
pub made_at : (net : Net) (end : RunEnd) (c : ℕ) (here : NetCore) (e : CoreEnd) → IsWhole net end → c < length net.cores.items
    → here ≡ get_or net.cores.items c here → e ≡ get_or end.cores.items c e → IsFor here.kit e.arch
made_at net end c here e whole h is-here is-e =
    whole.made c here e (got net.cores.items c here h is-here) (got end.cores.items c e (omega (arith, whole.core_count)) is-e)

-- the lines of one more processor
pub cores_more : (net : Net) (end : RunEnd) (stepped : Bool) (c : ℕ) (heres : List NetCore) (es : List CoreEnd) (here : NetCore) (e : CoreEnd) (text text' whole : List ℕ)
    → c < length heres → c < length es → here ≡ get_or heres c here → e ≡ get_or es c e → text' ≡ text ++ core_text net end stepped c here e
    → text ++ cores_text net end stepped c (drop c heres) (drop c es) ≡ whole
    → text' ++ cores_text net end stepped (c + 1) (drop (c + 1) heres) (drop (c + 1) es) ≡ whole
cores_more net end stepped c heres es here e text text' whole h k is-here is-e more so_far =
    let rest : List ℕ = cores_text net end stepped (c + 1) (drop (c + 1) heres) (drop (c + 1) es) in
    let one : List ℕ = core_text net end stepped c here e in
    let first : drop c heres ≡ here ∷ drop (c + 1) heres = drop_more heres c here h ∙ ap (λ x. x ∷ drop (c + 1) heres) (sym is-here) in
    let second : drop c es ≡ e ∷ drop (c + 1) es = drop_more es c e k ∙ ap (λ x. x ∷ drop (c + 1) es) (sym is-e) in
    let both : cores_text net end stepped c (drop c heres) (drop c es) ≡ one ++ rest =
    ap (λ xs. cores_text net end stepped c xs (drop c es)) first ∙ ap (λ ys. cores_text net end stepped c (here ∷ drop (c + 1) heres) ys) second in
    ap (λ t. t ++ rest) more ∙ append_assoc text one rest ∙ ap (λ t. text ++ t) (sym both) ∙ so_far
