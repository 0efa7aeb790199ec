-- Lists of typed expressions: concatenations and the arms of a TIEmux.
use Rattle.std.proofs.Common.{◌≡◌, ℕ, ◌+◌, ◌*◌, ◌^◌, ◌≤◌, List, [], ◌∷◌, ◌++◌, length, map, sum, refl, sym, ap, subst, ◌∙◌, append_assoc, arith}
use Rattle.std.specs.List.{flat_map, sum_by}
use Rattle.std.proofs.lemmas.List.{map-append, length-append, append-nil}
use Rattle.std.proofs.lemmas.Grind.{flat_map-append}
use Rattle.std.proofs.lemmas.List.Sums.{sum-map, sum_by-append, sum_by-cons, sum_by_push}
use Rattle.tie_expr.specs.Word.{Word}
use Rattle.tie_expr.specs.Meaning.{Meaning as Typed, join_meaning}
use Rattle.tie_expr.specs.Tree as typed
use Rattle.tie_expr.specs.declared.node.Node.{Node}
use Rattle.tie_translate.specs.Bounds.{IsMadeOf}
use Rattle.tie_translate.specs.Translation.{widths_of, concat_at, concat_typed}
use Rattle.tie_translate.proofs.Built.{same_at}

-- ---- concatenations

abbrev pub total : List Typed → ℕ
total ts = sum (widths_of ts)

width_of : Typed → ℕ
width_of t = t.width

total_is : (ts : List Typed) → total ts ≡ sum_by (λ t. t.width) ts
total_is ts = sum-map (λ (t : Typed). t.width) ts

total_append : (ts us : List Typed) → total (ts ++ us) ≡ total ts + total us
total_append ts us =
    let w : Typed → ℕ = λ t. t.width in
    sum-map w (ts ++ us) ∙ sum_by-append w ts us ∙ ap (λ n. n + sum_by w us) (sym (sum-map w ts)) ∙ ap (λ n. total ts + n) (sym (sum-map w us))

total_one : (t : Typed) → total (t ∷ []) ≡ t.width
total_one t = omega arith

total_joined : (ts : List Typed) (a b : Typed) → total ((ts ++ a ∷ []) ++ b ∷ []) ≡ total (ts ++ join_meaning a b ∷ [])
total_joined ts a b =
    let p = total_append (ts ++ a ∷ []) (b ∷ []) in
    let q = total_append ts (a ∷ []) in
    let r = total_append ts (join_meaning a b ∷ []) in
    let x = total_one a in
    let y = total_one b in
    let z = total_one (join_meaning a b) in
    omega (arith, p, q, r, x, y, z)

two_joined : (i : List Word) (a b : Typed) → concat_at i (a ∷ b ∷ []) ≡ concat_at i (join_meaning a b ∷ [])
two_joined i a b =
    let y = total_one b in
    let e = ap (λ w. a.at i * 2 ^ w + (b.at i * 1 + 0)) y in
    omega (arith, e)

at_joined : (i : List Word) (ts : List Typed) (a b : Typed) → concat_at i ((ts ++ a ∷ []) ++ b ∷ []) ≡ concat_at i (ts ++ join_meaning a b ∷ [])
at_joined i [] a b = two_joined i a b
at_joined i (t ∷ ts) a b =
    ap (λ w. t.at i * 2 ^ w + concat_at i ((ts ++ a ∷ []) ++ b ∷ [])) (total_joined ts a b) ∙ ap (λ v. t.at i * 2 ^ total (ts ++ join_meaning a b ∷ []) + v) (at_joined i ts a b)

concat_joined : (ts : List Typed) (a b : Typed) → concat_typed ((ts ++ a ∷ []) ++ b ∷ []) ≡ concat_typed (ts ++ join_meaning a b ∷ [])
concat_joined ts a b =
    let us = (ts ++ a ∷ []) ++ b ∷ [] in
    let vs = ts ++ join_meaning a b ∷ [] in
    ap (λ w. let m : Typed = record { width = w; at = λ i. concat_at i us } in m) (total_joined ts a b) ∙ same_at (total vs) (λ i. concat_at i us) (λ i. concat_at i vs) (λ i. at_joined i ts a b)

concat_one : (t : Typed) → concat_typed (t ∷ []) ≡ t
concat_one t =
    ap (λ w. let m : Typed = record { width = w; at = λ i. concat_at i (t ∷ []) } in m) (total_one t) ∙ same_at t.width (λ i. concat_at i (t ∷ [])) t.at (λ i. omega arith)

-- the last of some parts joined into one
pub record IsJoined (all left : List Node) : Type 0 where
  pub means : concat_typed (map typed.meaning left) ≡ concat_typed (map typed.meaning all)
  pub reads : flat_map typed.inputs left ≡ flat_map typed.inputs all
  pub small : sum_by typed.size left + 4 * length left ≡ sum_by typed.size all + 4 * length all

pub joined_start : (all rest : List Node) (low : Node) → all ≡ rest ++ low ∷ [] → IsJoined all (rest ++ low ∷ [])
joined_start all rest low e =
    let P : List Node → Type 0 = λ left. IsJoined all left in
    subst P e (record { means = refl; reads = refl; small = refl })

flat_last : (rest : List Node) (x : Node) → flat_map typed.inputs (rest ++ x ∷ []) ≡ flat_map typed.inputs rest ++ typed.inputs x
flat_last rest x = flat_map-append typed.inputs rest (x ∷ []) ∙ ap (λ is. flat_map typed.inputs rest ++ is) (append-nil (typed.inputs x))

size_last : (rest : List Node) (x : Node) → sum_by typed.size (rest ++ x ∷ []) ≡ sum_by typed.size rest + typed.size x
size_last rest x = sum_by_push typed.size rest x

length_last : (rest : List Node) (x : Node) → length (rest ++ x ∷ []) ≡ length rest + 1
length_last rest x = length-append rest (x ∷ [])

meanings_last : (rest : List Node) (x : Node) → map typed.meaning (rest ++ x ∷ []) ≡ map typed.meaning rest ++ typed.meaning x ∷ []
meanings_last rest x = map-append typed.meaning rest (x ∷ [])

step_means : (rest : List Node) (high low e : Node) → typed.meaning e ≡ join_meaning (typed.meaning high) (typed.meaning low)
    → concat_typed (map typed.meaning (rest ++ e ∷ [])) ≡ concat_typed (map typed.meaning ((rest ++ high ∷ []) ++ low ∷ []))
step_means rest high low e is =
    let m = map typed.meaning rest in
    let built = ap concat_typed (meanings_last rest e) ∙ ap (λ (t : Typed). concat_typed (m ++ t ∷ [])) is in
    let parts = ap concat_typed (meanings_last (rest ++ high ∷ []) low) ∙ ap (λ (ts : List Typed). concat_typed (ts ++ typed.meaning low ∷ [])) (meanings_last rest high) in
    built ∙ sym (concat_joined m (typed.meaning high) (typed.meaning low)) ∙ sym parts

step_reads : (rest : List Node) (high low e : Node) → typed.inputs e ≡ typed.inputs high ++ typed.inputs low
    → flat_map typed.inputs (rest ++ e ∷ []) ≡ flat_map typed.inputs ((rest ++ high ∷ []) ++ low ∷ [])
step_reads rest high low e is =
    let f = flat_map typed.inputs rest in
    flat_last rest e ∙ ap (λ is. f ++ is) is ∙ sym (append_assoc f (typed.inputs high) (typed.inputs low)) ∙ ap (λ is. is ++ typed.inputs low) (sym (flat_last rest high)) ∙ sym (flat_last (rest ++ high ∷ []) low)

step_small : (rest : List Node) (high low e : Node) → typed.size e ≡ 4 + typed.size high + typed.size low
    → sum_by typed.size (rest ++ e ∷ []) + 4 * length (rest ++ e ∷ []) ≡ sum_by typed.size ((rest ++ high ∷ []) ++ low ∷ []) + 4 * length ((rest ++ high ∷ []) ++ low ∷ [])
step_small rest high low e is =
    let a = size_last rest e in
    let b = length_last rest e in
    let c = size_last (rest ++ high ∷ []) low in
    let d = length_last (rest ++ high ∷ []) low in
    let x = size_last rest high in
    let y = length_last rest high in
    omega (arith, a, b, c, d, x, y, is)

pub joined_step : (all rest : List Node) (high low e : Node) → typed.meaning e ≡ join_meaning (typed.meaning high) (typed.meaning low) → typed.inputs e ≡ typed.inputs high ++ typed.inputs low
    → typed.size e ≡ 4 + typed.size high + typed.size low → IsJoined all ((rest ++ high ∷ []) ++ low ∷ []) → IsJoined all (rest ++ e ∷ [])
joined_step all rest high low e means reads small j = record {
  means = step_means rest high low e means ∙ j.means;
  reads = step_reads rest high low e reads ∙ j.reads;
  small = step_small rest high low e small ∙ j.small;
}

-- the widths of the last two are no more than all
pub joined_widths : (all rest : List Node) (high low : Node) → IsJoined all ((rest ++ high ∷ []) ++ low ∷ []) → total (map typed.meaning all) ≤ 128 → (typed.meaning high).width + (typed.meaning low).width ≤ 128
joined_widths all rest high low j most =
    let same : total (map typed.meaning ((rest ++ high ∷ []) ++ low ∷ [])) ≡ total (map typed.meaning all) = ap (λ (t : Typed). t.width) j.means in
    let a = ap total (meanings_last (rest ++ high ∷ []) low) ∙ total_append (map typed.meaning (rest ++ high ∷ [])) (typed.meaning low ∷ []) in
    let b = ap total (meanings_last rest high) ∙ total_append (map typed.meaning rest) (typed.meaning high ∷ []) in
    let x = total_one (typed.meaning high) in
    let y = total_one (typed.meaning low) in
    omega (arith, same, a, b, x, y, most)

pub joined_sizes : (all rest : List Node) (high low : Node) → IsJoined all ((rest ++ high ∷ []) ++ low ∷ []) → typed.size high + typed.size low ≤ sum_by typed.size all + 4 * length all
joined_sizes all rest high low j =
    let s = j.small in
    let c = size_last (rest ++ high ∷ []) low in
    let x = size_last rest high in
    omega (arith, s, c, x)

pub joined_means : (all : List Node) (low : Node) → IsJoined all (low ∷ []) → typed.meaning low ≡ concat_typed (map typed.meaning all)
joined_means all low j = sym (concat_one (typed.meaning low)) ∙ j.means

pub joined_made : (all : List Node) (low : Node) → IsJoined all (low ∷ []) → IsMadeOf all low
joined_made all low j = record {
  reads = sym (append-nil (typed.inputs low)) ∙ j.reads;
  small = let s = j.small in let e = sum_by-cons typed.size low [] in omega (arith, s, e);
}
