-- Counts of functions that are kept as they are made.
use Rattle.std.proofs.Common.{◌≡◌, ℕ, zero, suc, ◌+◌, ◌<◌, Bool, true, false, if◌then◌else◌, List, [], ◌∷◌, ◌++◌, length, map, Option, Some, None, slice_get, unwrap_or, get_or, add-one, refl, ap, sym, subst, ◌∙◌}
use Rattle.std.proofs.lemmas.Option.{slice_get_read}
use Rattle.tie_mean.specs.Names.{is_named, function_at, declared_function}
use Rattle.tie_mean.specs.Counts.{Seen, seen_behind, seen_with, reads_at, body_count, limited}
use Rattle.tie_mean.specs.CountScope.{call_in, times_in, times_of, AreFunctions, IsFunction}
use Rattle.tie_mean.specs.declared.scope.FunctionCount.{FunctionCount}
use Rattle.tie_grammar.specs.declared.tree.Decl.{Decl}
use Rattle.tie_grammar.specs.declared.tree.Parameter.{Parameter}
use Rattle.tie_grammar.specs.declared.tree.Function.{Function}

call_pushed : (fs : List FunctionCount) (m : FunctionCount) (name : List ℕ) (found : ℕ)
    → call_in (fs ++ m ∷ []) name found ≡ (if is_named name m.name.now then m.call else call_in fs name found)
call_pushed [] m name found = refl
call_pushed (f ∷ fs) m name found = call_pushed fs m name (if is_named name f.name.now then f.call else found)

times_pushed : (fs : List FunctionCount) (m : FunctionCount) (name : List ℕ) (i found : ℕ)
    → times_in (fs ++ m ∷ []) name i found ≡ (if is_named name m.name.now then unwrap_or (slice_get m.times.items i) 1 else times_in fs name i found)
times_pushed [] m name i found = refl
times_pushed (f ∷ fs) m name i found = times_pushed fs m name i (if is_named name f.name.now then unwrap_or (slice_get f.times.items i) 1 else found)

times_at : (seen : Seen) (f : Function) (ps : List Parameter) (i : ℕ) → unwrap_or (slice_get (map (times_of seen f) ps) i) 1 ≡ limited (1 + reads_at seen f ps i)
times_at seen f [] i = refl
times_at seen f (p ∷ ps) zero = refl
times_at seen f (p ∷ ps) (suc i) = times_at seen f ps i

chosen : (b c : Bool) (x y u v : ℕ) → b ≡ c → x ≡ limited u → y ≡ limited v → (if b then x else y) ≡ limited (if c then u else v)
chosen b true x y u v same e f = ap (λ w. if w then x else y) same ∙ e
chosen b false x y u v same e f = ap (λ w. if w then x else y) same ∙ f

-- one function more
pub function_pushed : (fs : List FunctionCount) (m : FunctionCount) (seen : Seen) (f : Function) → AreFunctions fs seen → IsFunction m seen f → AreFunctions (fs ++ m ∷ []) (seen_with seen (Some f))
function_pushed fs m seen f so is = record {
  calls = λ name. call_pushed fs m name 1
      ∙ chosen (is_named name m.name.now) (is_named name f.name) m.call (call_in fs name 1) (1 + body_count None seen f) (seen.call name) (ap (is_named name) is.name) is.call (so.calls name);
  times = λ name i. times_pushed fs m name i 1
      ∙ chosen (is_named name m.name.now) (is_named name f.name) (unwrap_or (slice_get m.times.items i) 1) (times_in fs name i 1) (1 + reads_at seen f f.parameters i) (seen.times name i)
      (ap (is_named name) is.name) (ap (λ (ts : List ℕ). unwrap_or (slice_get ts i) 1) is.times ∙ times_at seen f f.parameters i) (so.times name i);
}

function_read : (decls : List Decl) (k : ℕ) (d : Decl) (o : Option Function) → k < length decls → d ≡ get_or decls k d → o ≡ declared_function (Some d) → o ≡ function_at decls k
function_read decls k d o within e is = is ∙ sym (ap declared_function (slice_get_read decls (length decls) k d refl within e))

pub functions_more : (is_table : List ℕ → Bool) (decls : List Decl) (k : ℕ) (d : Decl) (f g : Function) (fs more : List FunctionCount) (m : FunctionCount)
    → k < length decls → d ≡ get_or decls k d → Some f ≡ declared_function (Some d) → more ≡ fs ++ m ∷ [] → AreFunctions fs (seen_behind is_table decls k) → g ≡ f → IsFunction m (seen_behind is_table decls k) g
    → AreFunctions more (seen_behind is_table decls (k + 1))
functions_more is_table decls k d f g fs more m within e is pushed so same one =
    let seen = seen_behind is_table decls k in
    let P : Option Function → Type 0 = λ o. AreFunctions more (seen_with seen o) in
    let Q : List FunctionCount → Type 0 = λ xs. AreFunctions xs (seen_with seen (Some f)) in
    let R : Function → Type 0 = λ h. IsFunction m seen h in
    let whole : AreFunctions more (seen_with seen (function_at decls k)) =
    subst P (function_read decls k d (Some f) within e is) (subst Q (sym pushed) (function_pushed fs m seen f so (subst R same one))) in
    rw add-one whole

pub functions_same : (is_table : List ℕ → Bool) (decls : List Decl) (k : ℕ) (d : Decl) (fs : List FunctionCount)
    → k < length decls → d ≡ get_or decls k d → None ≡ declared_function (Some d) → AreFunctions fs (seen_behind is_table decls k)
    → AreFunctions fs (seen_behind is_table decls (k + 1))
functions_same is_table decls k d fs within e is so =
    let seen = seen_behind is_table decls k in
    let P : Option Function → Type 0 = λ o. AreFunctions fs (seen_with seen o) in
    let whole : AreFunctions fs (seen_with seen (function_at decls k)) =
    subst P (function_read decls k d None within e is) (record { calls = so.calls; times = so.times }) in
    rw add-one whole
