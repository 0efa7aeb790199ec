-- A source after k moves has pushed k items, and a collector has collected k.
use Rattle.std.proofs.Common.{◌≡◌, ℕ, zero, suc, ◌+◌, ◌<◌, ◌≤◌, Bool, true, List, [], ◌∷◌, ◌++◌, length, Option, Some, refl, sym, ap, ◌∙◌, arith, length-append}
use Rattle.std.specs.Prelude.{slice_get, ◌==◌, if◌then◌else◌}
use Rattle.std.specs.Option.{option_to_list}
use Rattle.std.proofs.lemmas.Bool.{eq-eqb, le-ltb, lt-ltb}
use Rattle.std.proofs.lemmas.Option.{same_Some}
use Rattle.kahn_law.specs.Worker.{Local, loc, start}
use Rattle.kahn_law.proofs.Lists.{item_at}
use Rattle.kahn_law.proofs.Runs.{heads_length, loc_parts, move_parts}
use Rattle.tie_report.specs.net_parts.declared.parts.Net.{Net}
use Rattle.tie_report.specs.net_parts.declared.parts.NetCollector.{NetCollector}
use Rattle.tie_report.specs.net_parts.declared.parts.NetSource.{NetSource}
use Rattle.tie_report.specs.net_ref.Place.{CollectorAt, Place, SourceAt}
use Rattle.tie_report.specs.net_ref.Workers.{collector_rule, collector_worker, core_count, first_at, source_count, source_queue, source_rule, source_worker}

pub source_begins : (net : Net) (s : ℕ) → s < source_count net → first_at net (source_worker net s) ≡ SourceAt 0
source_begins net s lt =
    let a = le-ltb (core_count net + s) (core_count net) (omega arith) in
    let b = lt-ltb (core_count net + s) (core_count net + source_count net) (omega arith) in
    rw (a, b) refl

pub collector_begins : (net : Net) (k : ℕ) → first_at net (collector_worker net k) ≡ CollectorAt []
collector_begins net k =
    let a = le-ltb (core_count net + source_count net + k) (core_count net) (omega arith) in
    let b = le-ltb (core_count net + source_count net + k) (core_count net + source_count net) (omega arith) in
    rw (a, b) refl

pub source_run : (net : Net) (s : ℕ) (here : NetSource) (k : ℕ) (ins : ℕ → List ℕ) (l : Local Place ℕ) → loc (source_rule net s here) (SourceAt 0) k ins ≡ Some l
    → k ≤ length here.items.items → (l.state ≡ SourceAt k) × (length (l.pushed (source_queue net s)) ≡ k)
source_run net s here zero ins l run le =
    let e : start (SourceAt 0) ≡ l = same_Some (start (SourceAt 0)) l run in
    (ap (λ (z : Local Place ℕ). z.state) (sym e), ap (λ (z : Local Place ℕ). length (z.pushed (source_queue net s))) (sym e))
source_run net s here (suc k) ins l run le =
    let r = source_rule net s here in
    let q = source_queue net s in
    let p = loc_parts r (SourceAt 0) k ins l run in
    let m = move_parts r ins p.0 l p.2 in
    let h = source_run net s here k ins p.0 p.1 (omega arith) in
    let v = item_at here.items.items k (omega arith) in
    let there : (q == q) ≡ true = eq-eqb q q refl in
    let one : r.puts p.0.state m.0 q ≡ v.0 ∷ [] =
    ap (λ (x : Place). r.puts x m.0 q) h.0
    ∙ (ap (λ (b : Bool). if b then option_to_list (slice_get here.items.items k) else []) there ∙ ap (λ (o : Option ℕ). option_to_list o) v.1) in
    let long : length (l.pushed q) ≡ length (p.0.pushed q ++ v.0 ∷ []) = ap (λ (z : Local Place ℕ). length (z.pushed q)) (sym m.3) ∙ ap (λ (xs : List ℕ). length (p.0.pushed q ++ xs)) one in
    let sum : length (p.0.pushed q ++ v.0 ∷ []) ≡ length (p.0.pushed q) + 1 = length-append (p.0.pushed q) (v.0 ∷ []) in
    let had = h.1 in
    (ap (λ (z : Local Place ℕ). z.state) (sym m.3) ∙ ap (λ (x : Place). r.act x m.0) h.0, omega arith)

pub collector_run : (net : Net) (k : ℕ) (here : NetCollector) (n : ℕ) (ins : ℕ → List ℕ) (l : Local Place ℕ) → loc (collector_rule net k here) (CollectorAt []) n ins ≡ Some l
    → (vs : List ℕ) × (l.state ≡ CollectorAt vs) × (length vs ≡ n)
collector_run net k here zero ins l run =
    let e : start (CollectorAt []) ≡ l = same_Some (start (CollectorAt [])) l run in
    ([], ap (λ (z : Local Place ℕ). z.state) (sym e), refl)
collector_run net k here (suc n) ins l run =
    let r = collector_rule net k here in
    let p = loc_parts r (CollectorAt []) n ins l run in
    let m = move_parts r ins p.0 l p.2 in
    let h = collector_run net k here n ins p.0 p.1 in
    let one : length m.0 ≡ 1 = heads_length ins p.0.consumed (r.pops p.0.state) m.0 m.2 in
    let sum : length (h.0 ++ m.0) ≡ length h.0 + length m.0 = length-append h.0 m.0 in
    let had = h.2 in
    (h.0 ++ m.0, ap (λ (z : Local Place ℕ). z.state) (sym m.3) ∙ ap (λ (x : Place). r.act x m.0) h.1, omega arith)
