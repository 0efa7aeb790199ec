-- The arms of a TIEmux, in the greatest of their widths.
use Rattle.std.proofs.Common.{◌≡◌, ℕ, zero, suc, ◌+◌, ◌*◌, ◌≤◌, ◌<◌, List, [], ◌∷◌, ◌++◌, length, map, max, drop, get_or, slice_index_or, refl, sym, ap, subst, ◌∙◌, arith}
use Rattle.std.specs.List.{flat_map, sum_by}
use Rattle.std.proofs.lemmas.List.{drop_more, map-append, length-append}
use Rattle.std.proofs.lemmas.Grind.{flat_map-append}
use Rattle.std.proofs.lemmas.List.Sums.{sum_by_push}
use Rattle.tie_expr.specs.Word.{Word}
use Rattle.tie_expr.specs.Meaning.{Meaning as Typed, select_meaning, arm, OneWidth}
use Rattle.tie_expr.specs.Tree as typed
use Rattle.tie_expr.specs.declared.node.Node.{Node}
use Rattle.tie_mean.specs.Sizes.{greatest_size}
use Rattle.tie_translate.specs.Translation.{widths_of, widened, mux_typed}
use Rattle.tie_translate.proofs.Built.{same_at}

abbrev pub widen_each : ℕ → List Typed → List Typed
widen_each n ts = map (λ t. widened t n) ts

-- an arm gives the same in another width, and 0 beyond them
arm_at : (n : ℕ) (ts : List Typed) (k : ℕ) (i : List Word) → (arm (widen_each n ts) k).at i ≡ (arm ts k).at i
arm_at n [] k i = refl
arm_at n (t ∷ ts) zero i = refl
arm_at n (t ∷ ts) (suc k) i = arm_at n ts k i

first_width : (n : ℕ) (ts : List Typed) → 0 < length ts → (arm (widen_each n ts) 0).width ≡ n
first_width n [] h = absurd (omega arith)
first_width n (t ∷ ts) h = refl

each_width : (n : ℕ) (ts : List Typed) (k : ℕ) (d : Typed) → k < length (widen_each n ts) → (slice_index_or (widen_each n ts) k d).width ≡ n
each_width n [] k d h = absurd (omega arith)
each_width n (t ∷ ts) zero d h = refl
each_width n (t ∷ ts) (suc k) d h = each_width n ts k d (omega arith)

pub one_width : (n : ℕ) (ts us : List Typed) → us ≡ widen_each n ts → 0 < length ts → OneWidth us
one_width n ts us is some =
    let P : List Typed → Type 0 = λ vs. OneWidth vs in
    subst P (sym is) (λ k d h. each_width n ts k d h ∙ sym (first_width n ts some))

pub mux_is : (s : Typed) (ts us : List Typed) (n : ℕ) → us ≡ widen_each n ts → 0 < length ts → n ≡ greatest_size (widths_of ts) → select_meaning s us ≡ mux_typed s ts
mux_is s ts us n is some is_n =
    let f : List Word → ℕ = λ i. (arm ts (s.at i)).at i in
    let make : ℕ → Typed = λ w. record { width = w; at = f } in
    ap (select_meaning s) is
    ∙ same_at (arm (widen_each n ts) 0).width (λ i. (arm (widen_each n ts) (s.at i)).at i) f (λ i. arm_at n ts (s.at i) i)
    ∙ ap make (first_width n ts some ∙ is_n)

-- no arm is wider than the greatest
pub below_greatest : (es : List Node) (k : ℕ) (d : Node) → k < length es → (typed.meaning (slice_index_or es k d)).width ≤ greatest_size (widths_of (map typed.meaning es))
below_greatest [] k d h = absurd (omega arith)
below_greatest (e ∷ es) zero d h = omega arith
below_greatest (e ∷ es) (suc k) d h = let below = below_greatest es k d (omega arith) in omega (arith, below)

pub length_meanings : (es : List Node) → length (map typed.meaning es) ≡ length es
length_meanings [] = refl
length_meanings (e ∷ es) = ap suc (length_meanings es)

abbrev pub greatest_of : List Node → ℕ
greatest_of es = greatest_size (widths_of (map typed.meaning es))

pub greatest_step : (es : List Node) (i : ℕ) (e : Node) (g h all : ℕ) → i < length es → e ≡ get_or es i e → h ≡ max (typed.meaning e).width g → max g (greatest_of (drop i es)) ≡ all → max h (greatest_of (drop (i + 1) es)) ≡ all
greatest_step es i e g h all within is_e is_h is_all =
    let opened : greatest_of (drop i es) ≡ max (typed.meaning e).width (greatest_of (drop (i + 1) es)) =
    ap greatest_of (drop_more es i e within) ∙ ap (λ (x : Node). max (typed.meaning x).width (greatest_of (drop (i + 1) es))) (sym is_e) in
    omega (arith, opened, is_h, is_all)

-- ---- one more expression in a width

pub meanings_more : (n : ℕ) (ws es : List Node) (w e : Node) → map typed.meaning ws ≡ widen_each n (map typed.meaning es) → typed.meaning w ≡ widened (typed.meaning e) n
    → map typed.meaning (ws ++ w ∷ []) ≡ widen_each n (map typed.meaning (es ++ e ∷ []))
meanings_more n ws es w e before is =
    let f : Typed → Typed = λ t. widened t n in
    map-append typed.meaning ws (w ∷ []) ∙ ap (λ ts. ts ++ typed.meaning w ∷ []) before ∙ ap (λ (t : Typed). widen_each n (map typed.meaning es) ++ t ∷ []) is
    ∙ sym (map-append f (map typed.meaning es) (typed.meaning e ∷ [])) ∙ sym (ap (widen_each n) (map-append typed.meaning es (e ∷ [])))

pub inputs_more : (ws es : List Node) (w e : Node) → flat_map typed.inputs ws ≡ flat_map typed.inputs es → typed.inputs w ≡ typed.inputs e
    → flat_map typed.inputs (ws ++ w ∷ []) ≡ flat_map typed.inputs (es ++ e ∷ [])
inputs_more ws es w e before is =
    flat_map-append typed.inputs ws (w ∷ []) ∙ ap (λ is. is ++ (typed.inputs w ++ [])) before ∙ ap (λ is. flat_map typed.inputs es ++ (is ++ [])) is ∙ sym (flat_map-append typed.inputs es (e ∷ []))

pub sizes_more : (ws es : List Node) (w e : Node) → sum_by typed.size ws ≡ sum_by typed.size es + 4 * length es → typed.size w ≡ 4 + typed.size e
    → sum_by typed.size (ws ++ w ∷ []) ≡ sum_by typed.size (es ++ e ∷ []) + 4 * length (es ++ e ∷ [])
sizes_more ws es w e before is =
    let a = sum_by_push typed.size ws w in
    let b = sum_by_push typed.size es e in
    let c = length-append es (e ∷ []) in
    omega (arith, a, b, c, before, is)
