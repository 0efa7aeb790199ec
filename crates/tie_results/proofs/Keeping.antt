-- What is kept of the functions of a text.
use Rattle.std.proofs.Common.{◌≡◌, ◌⊎◌, ℕ, zero, suc, ◌+◌, ◌-◌, ◌*◌, ◌%◌, ◌^◌, ◌≤◌, ◌<◌, Bool, true, false, if◌then◌else◌, List, [], ◌∷◌, ◌++◌, map, length, get_or, Option, Some, None, slice_get, inl, inr, add-one, refl, ap, sym, subst, ◌∙◌, arith}
use Rattle.std.specs.Borrow.{Bor}
use Rattle.std.specs.List.{All, count_by, slice_index_or}
use Rattle.std.specs.Bool.{nat_eq}
use Rattle.std.proofs.lemmas.Bool.{cases_lt, cases_Bool}
use Rattle.std.proofs.lemmas.List.{length-map}
use Rattle.std.proofs.lemmas.Option.{slice_get_read}
use Rattle.tie_expr.specs.Word.{Word}
use Rattle.tie_expr.specs.Meaning.{Meaning as Typed}
use Rattle.tie_expr.specs.Tree as typed
use Rattle.tie_expr.specs.Tree.{Input}
use Rattle.tie_expr.specs.Substitute.{IsOver}
use Rattle.tie_expr.specs.declared.node.Node.{Node}
use Rattle.tie_mean.specs.Names.{is_named, width_in, widths_of, functions, tables, function_names, parameter_names, function_at, declared_function, table_named}
use Rattle.tie_mean.specs.Counts.{Counted, Seen, seen_behind, seen_with, call_with, times_with, reads_at, body_count, limited, operation_seen}
use Rattle.tie_mean.specs.Operations.{function_value, last_value, calls_behind}
use Rattle.tie_mean.specs.Operations as operations
use Rattle.tie_translate.specs.Bounds.{occurrences}
use Rattle.tie_grammar.specs.declared.symbol.Leaf.{Leaf}
use Rattle.tie_grammar.specs.declared.tree.Decl.{Decl}
use Rattle.tie_grammar.specs.declared.tree.Parameter.{Parameter}
use Rattle.tie_grammar.specs.declared.tree.Function.{Function}
use Rattle.tie_grammar.specs.declared.tree.Tree.{Tree}
use Rattle.tie_results.specs.Sound.{SoundText, SoundFunction}
use Rattle.tie_results.specs.Bodies.{Calls, Body, seen_of, input_widths, input_name, inputs_of, last_typed, last_count, IsResult, AreResultsOf, IsCallee, IsUnknown, IsKept}
use Rattle.tie_results.specs.Callees.{callee_in, IsCalleeOf, AreCallees}
use Rattle.tie_results.specs.Translated.{function_body, body_nodes}
use Rattle.tie_results.specs.Translated as translated
use Rattle.tie_results.specs.declared.frame.Callee.{Callee}
use Rattle.tie_results.proofs.Inputs.{same_bytes, bytes_same}
use Rattle.tie_results.proofs.Masks.{values_as_given, none_beyond}

-- ---- calls behind one declaration more

behind_function : (t : Tree) (f : Function) (k : ℕ) (name args : List ℕ) → function_at t.declarations k ≡ Some f → is_named name f.name ≡ true
    → (translated.calls_behind t (suc k)).gives name args ≡ function_value t (calls_behind t t.declarations k) f args
behind_function t f k name args at named =
    ap (λ o. operations.call_with t (calls_behind t t.declarations k) o name args) at ∙ ap (λ b. if b then function_value t (calls_behind t t.declarations k) f args else calls_behind t t.declarations k name args) named

call_behind : (t : Tree) (f : Function) (k : ℕ) (name : List ℕ) → function_at t.declarations k ≡ Some f → is_named name f.name ≡ true
    → (translated.calls_behind t (suc k)).counts.call name ≡ 1 + body_nodes t f k
call_behind t f k name at named =
    ap (λ o. call_with (translated.calls_behind t k).counts o name) at ∙ ap (λ b. if b then 1 + body_nodes t f k else (translated.calls_behind t k).counts.call name) named

times_behind : (t : Tree) (f : Function) (k : ℕ) (name : List ℕ) (i : ℕ) → function_at t.declarations k ≡ Some f → is_named name f.name ≡ true
    → (translated.calls_behind t (suc k)).counts.times name i ≡ 1 + reads_at (translated.calls_behind t k).counts f f.parameters i
times_behind t f k name i at named =
    ap (λ o. times_with (translated.calls_behind t k).counts o name i) at
    ∙ ap (λ b. if b then 1 + reads_at (translated.calls_behind t k).counts f f.parameters i else (translated.calls_behind t k).counts.times name i) named

-- ---- the expression of a function

reads_within : (seen : Seen) (f : Function) (ps : List Parameter) (i : ℕ) → i < length ps → body_count (Some (slice_index_or (map (λ x. x.name.bytes) ps) i [])) seen f ≡ reads_at seen f ps i
reads_within seen f [] i h = absurd (omega (arith, h))
reads_within seen f (p ∷ ps) zero h = refl
reads_within seen f (p ∷ ps) (suc i) h = reads_within seen f ps i (omega (arith, h))

result_often : (t : Tree) (f : Function) (k : ℕ) (e : Node) (i : ℕ) → IsResult (function_body t f k) f.name.bytes e → occurrences i e ≤ reads_at (translated.calls_behind t k).counts f f.parameters i
result_often t f k e i is = by_place (cases_lt i (length f.parameters))
  where
    by_place : (i < length f.parameters) ⊎ (length f.parameters ≤ i) → occurrences i e ≤ reads_at (translated.calls_behind t k).counts f f.parameters i
    by_place (inl low) =
        let often = is.bounds.often i in
        let reads = reads_within (translated.calls_behind t k).counts f f.parameters i low in
        omega (arith, often, reads)
    by_place (inr beyond) =
        let many : length (input_widths (function_body t f k)) ≡ length f.parameters =
        length-map (parameter_names f) (width_in (function_names f)) ∙ length-map f.parameters (λ (x : Parameter). x.name.bytes) in
        let none = none_beyond (input_widths (function_body t f k)) (typed.inputs e) i (omega (arith, many, beyond)) is.bounds.over in
        omega (arith, none)

pub callee_is : (t : Tree) (f : Function) (k : ℕ) (e : Node) → SoundFunction t f → function_at t.declarations k ≡ Some f → IsResult (function_body t f k) f.name.bytes e
    → IsCallee (translated.calls_behind t (k + 1)) f.name.bytes e
callee_is t f k e sound at is = rw add-one (record {
  width = ap (λ (m : Typed). m.width) is.means ∙ sound.width;
  over = subst (λ (ws : List ℕ). IsOver ws (typed.inputs e)) sound.parameters is.bounds.over;
  values = λ words fit below.
      let given : inputs_of (function_body t f k) words ≡ map (λ (w : Word). w.value) words =
      values_as_given (input_widths (function_body t f k)) words (fit ∙ sym sound.parameters) below in
      ap (λ (m : Typed). m.at words) is.means
      ∙ ap (λ (args : List ℕ). last_value (seen_of (function_body t f k)) (parameter_names f) args f.items f.name.bytes) given
      ∙ sym (behind_function t f k f.name.bytes (map (λ (w : Word). w.value) words) at (bytes_same f.name.bytes));
  small = let small = is.bounds.small in let call = call_behind t f k f.name.bytes at (bytes_same f.name.bytes) in omega (arith, small, call);
  often = λ i. let often = result_often t f k e i is in let times = times_behind t f k f.name.bytes i at (bytes_same f.name.bytes) in omega (arith, often, times);
})

-- the one result
pub one_result : (b : Body) (n : List ℕ) (es : List Node) → AreResultsOf b (n ∷ []) es → (e : Node) × (es ≡ e ∷ []) × IsResult b n e
one_result b n [] h = absurd h
one_result b n (e ∷ []) h = (e, refl, h.0)
one_result b n (e ∷ f ∷ fs) h = absurd h.1

-- ---- counts of calls, in the whole text

same_behind : (is_table : List ℕ → Bool) (decls : List Decl) (name : List ℕ) (k n : ℕ) → suc k ≤ n
    → ((j : ℕ) (g : Function) → suc k ≤ j → function_at decls j ≡ Some g → is_named name g.name ≡ false)
    → (seen_behind is_table decls n).call name ≡ (seen_behind is_table decls (suc k)).call name
same_behind is_table decls name k zero h none = absurd (omega (arith, h))
same_behind is_table decls name k (suc n) h none = by_place (cases_lt k n)
    (λ l. same_behind is_table decls name k n l none)
  where
    step : (o : Option Function) → function_at decls n ≡ o → suc k ≤ n → call_with (seen_behind is_table decls n) o name ≡ (seen_behind is_table decls n).call name
    step None at l = refl
    step (Some g) at l = ap (λ b. if b then 1 + body_count None (seen_behind is_table decls n) g else (seen_behind is_table decls n).call name) (none n g l at)

    by_place : (k < n) ⊎ (n ≤ k) → (suc k ≤ n → (seen_behind is_table decls n).call name ≡ (seen_behind is_table decls (suc k)).call name)
        → (seen_behind is_table decls (suc n)).call name ≡ (seen_behind is_table decls (suc k)).call name
    by_place (inl low) before = step (function_at decls n) refl (omega (arith, low)) ∙ before (omega (arith, low))
    by_place (inr above) before = let same : n ≡ k = omega (arith, h, above) in ap (λ m. (seen_behind is_table decls (suc m)).call name) same

not_named : (b : Bool) → (b ≡ true → ⊥) → b ≡ false
not_named true h = absurd (h refl)
not_named false h = refl

-- what a call of a function counts in the whole text
pub call_nodes : (t : Tree) (f : Function) (k : ℕ) → SoundText t → k < length t.declarations → function_at t.declarations k ≡ Some f → (operation_seen t).call f.name.bytes ≡ 1 + body_nodes t f k
call_nodes t f k sound within at =
    same_behind (table_named t) t.declarations f.name.bytes k (length t.declarations) within
    (λ j g above at_j. not_named (is_named f.name.bytes g.name) (λ same. let e = sound.differ k j f g at at_j same in absurd (omega (arith, above, e))))
    ∙ call_behind t f k f.name.bytes at (bytes_same f.name.bytes)

pub too_many : (t : Tree) (f : Function) (k n : ℕ) → SoundText t → k < length t.declarations → function_at t.declarations k ≡ Some f → n ≡ limited ((operation_seen t).call f.name.bytes) → 4096 < n
    → IsKept (translated.calls_behind t (k + 1)) f.name.bytes None
too_many t f k n sound within at is many =
    let nodes = call_nodes t f k sound within at in
    let call = call_behind t f k f.name.bytes at (bytes_same f.name.bytes) in
    rw add-one (omega (arith, nodes, call, is, many))

pub few_nodes : (t : Tree) (f : Function) (k n : ℕ) → SoundText t → k < length t.declarations → function_at t.declarations k ≡ Some f → n ≡ limited ((operation_seen t).call f.name.bytes) → n ≤ 4096
    → body_nodes t f k ≤ 4095
few_nodes t f k n sound within at is few = let nodes = call_nodes t f k sound within at in omega (arith, nodes, is, few)

-- ---- one function more

callee_pushed : (cs : List Callee) (m : Callee) (name : List ℕ) (found : Option Callee) → callee_in (cs ++ m ∷ []) name found ≡ (if is_named name m.name.now then Some m else callee_in cs name found)
callee_pushed [] m name found = refl
callee_pushed (c ∷ cs) m name found = callee_pushed cs m name (if is_named name c.name.now then Some c else found)

-- what is known of a name stays where its calls stay
kept_same : (c d : Calls) (name : List ℕ) (o : Option Callee) → c.width name ≡ d.width name → c.parameters name ≡ d.parameters name → c.gives name ≡ d.gives name
    → c.counts.call name ≡ d.counts.call name → ((i : ℕ) → c.counts.times name i ≡ d.counts.times name i) → IsCalleeOf c name o → IsCalleeOf d name o
kept_same c d name None width parameters gives call times so = record {
  gives = λ args. ap (λ (g : List ℕ → ℕ). g args) (sym gives) ∙ so.gives args;
  call = sym call ∙ so.call;
  times = λ i. sym (times i) ∙ so.times i;
}
kept_same c d name (Some f) width parameters gives call times so = kept_body f.body so
  where
    kept_body : (o : Option Node) → IsKept c name o → IsKept d name o
    kept_body None many = let e = call in omega (arith, e, many)
    kept_body (Some e) is = record {
      width = is.width ∙ width;
      over = subst (λ (ws : List ℕ). IsOver ws (typed.inputs e)) parameters is.over;
      values = λ words fit below. is.values words (fit ∙ sym parameters) below ∙ ap (λ (g : List ℕ → ℕ). g (map (λ (w : Word). w.value) words)) gives;
      small = let small = is.small in let same = call in omega (arith, small, same);
      often = λ i. let often = is.often i in let same = times i in omega (arith, often, same);
    }

-- a declaration that is no function of this name changes nothing
stays : (t : Tree) (k : ℕ) (name : List ℕ) (o : Option Function) → function_at t.declarations k ≡ o → ((f : Function) → o ≡ Some f → is_named name f.name ≡ false) → (c : Option Callee)
    → IsCalleeOf (translated.calls_behind t k) name c → IsCalleeOf (translated.calls_behind t (suc k)) name c
stays t k name None at other c so =
    kept_same (translated.calls_behind t k) (translated.calls_behind t (suc k)) name c refl refl
    (sym (ap (λ o. operations.call_with t (calls_behind t t.declarations k) o name) at))
    (sym (ap (λ o. call_with (translated.calls_behind t k).counts o name) at))
    (λ i. sym (ap (λ o. times_with (translated.calls_behind t k).counts o name i) at)) so
stays t k name (Some f) at other c so =
    let no = other f refl in
    kept_same (translated.calls_behind t k) (translated.calls_behind t (suc k)) name c refl refl
    (sym (ap (λ o. operations.call_with t (calls_behind t t.declarations k) o name) at
    ∙ (λ i args. (ap (λ b. if b then function_value t (calls_behind t t.declarations k) f args else calls_behind t t.declarations k name args) no) i)))
    (sym (ap (λ o. call_with (translated.calls_behind t k).counts o name) at ∙ ap (λ b. if b then 1 + body_nodes t f k else (translated.calls_behind t k).counts.call name) no))
    (λ i. sym (ap (λ o. times_with (translated.calls_behind t k).counts o name i) at
    ∙ ap (λ b. if b then 1 + reads_at (translated.calls_behind t k).counts f f.parameters i else (translated.calls_behind t k).counts.times name i) no)) so

some_same : (f g : Function) → Some f ≡ Some g → f ≡ g
some_same f g e = cc

pub callees_more : (t : Tree) (k : ℕ) (f : Function) (cs more : List Callee) (m : Callee) → function_at t.declarations k ≡ Some f → AreCallees (translated.calls_behind t k) cs → m.name.now ≡ f.name
    → IsKept (translated.calls_behind t (k + 1)) f.name.bytes m.body → more ≡ cs ++ m ∷ [] → AreCallees (translated.calls_behind t (k + 1)) more
callees_more t k f cs more m at so named kept pushed =
    rw add-one (λ name.
    subst (λ (o : Option Callee). IsCalleeOf (translated.calls_behind t (suc k)) name o) (sym (ap (λ (xs : List Callee). callee_in xs name None) pushed ∙ callee_pushed cs m name None)) (by_name name (is_named name m.name.now) refl))
  where
    kept_here : IsKept (translated.calls_behind t (suc k)) f.name.bytes m.body
    kept_here = rw add-one at kept

    by_name : (name : List ℕ) (b : Bool) → is_named name m.name.now ≡ b → IsCalleeOf (translated.calls_behind t (suc k)) name (if b then Some m else callee_in cs name None)
    by_name name true is =
        let same : f.name.bytes ≡ name = same_bytes f.name.bytes name (ap (is_named name) (sym named) ∙ is) in
        subst (λ (n : List ℕ). IsKept (translated.calls_behind t (suc k)) n m.body) same kept_here
    by_name name false is =
        stays t k name (Some f) at (λ g e. ap (λ (h : Function). is_named name h.name) (sym (some_same f g e)) ∙ ap (is_named name) (sym named) ∙ is) (callee_in cs name None) (so name)

pub callees_same : (t : Tree) (k : ℕ) (cs : List Callee) → function_at t.declarations k ≡ None → AreCallees (translated.calls_behind t k) cs → AreCallees (translated.calls_behind t (k + 1)) cs
callees_same t k cs at so = rw add-one (λ name. stays t k name None at (λ f e. absurd cc) (callee_in cs name None) (so name))

pub function_read : (decls : List Decl) (k : ℕ) (d : Decl) (o : Option Function) → k < length decls → d ≡ get_or decls k d → o ≡ declared_function (Some d) → function_at decls k ≡ o
function_read decls k d o within e is = sym (is ∙ sym (ap declared_function (slice_get_read decls (length decls) k d refl within e)))

pub function_within : (decls : List Decl) (k : ℕ) (f : Function) → function_at decls k ≡ Some f → k < length decls
function_within [] k f e = absurd cc
function_within (d ∷ ds) zero f e = omega arith
function_within (d ∷ ds) (suc k) f e = let h = function_within ds k f e in omega (arith, h)
