use Rattle.std.proofs.Common.{◌≡◌, ℕ, ◌+◌, ◌-◌, ◌<◌, ◌||◌, Bool, true, List, length, map, get_or, sym, ap, ◌∙◌, arith}
use Rattle.std.proofs.lemmas.List.{length-map}
use Rattle.tie_results.specs.Reads.{is_among, is_marked, used_at}
use Rattle.tie_results.proofs.Marks.{marked_down, marked_read, rows_at}
use Rattle.tie_results.proofs.needed.needed.Goals as goal

pub mark-requires-then-index : goal.mark-requires-then-index
mark-requires-then-index c = λ j h.
    let many = c.loop-k.invariant.many in
    let within = c.loop-k.invariant.within in
    let long = length-map c.args.uses.now (λ ks. ks.items) in
    let some = c.loop-k-test.true in
    let row : used_at (map (λ ks. ks.items) c.args.uses.now) (c.loop-k.k - 1) ≡ c.deref.result.now =
    rows_at c.args.uses.now (c.loop-k.k - 1) c.index-uses-k.result (omega (arith, within, long, some)) c.index-uses-k.is ∙ sym c.deref.ensures.value in
    let low = c.requires.earlier (c.loop-k.k - 1) j (ap (λ (ks : List ℕ). is_among ks j) row ∙ h) in
    omega (arith, low, many, within)

pub loop-k-preserved-then-index : goal.loop-k-preserved-then-index
loop-k-preserved-then-index c =
    let many = c.loop-k.invariant.many in
    let within = c.loop-k.invariant.within in
    let long = length-map c.args.uses.now (λ ks. ks.items) in
    let some = c.loop-k-test.true in
    let row : used_at (map (λ ks. ks.items) c.args.uses.now) (c.loop-k.k - 1) ≡ c.deref.result.now =
    rows_at c.args.uses.now (c.loop-k.k - 1) c.index-uses-k.result (omega (arith, within, long, some)) c.index-uses-k.is ∙ sym c.deref.ensures.value in
    let on : is_marked c.loop-k.marks.items (c.loop-k.k - 1) ≡ true =
    marked_read c.loop-k.marks.items (c.loop-k.k - 1) c.index.result.now (omega (arith, many, within, some)) c.index.ensures c.if-index.true in
    marked_down (map (λ ks. ks.items) c.args.uses.now) c.args.last.now c.loop-k.marks.items c.mark-then-index.new.marks.items c.loop-k.k (c.loop-k.k - 1) c.requires.earlier c.loop-k.invariant (omega (arith, some)) on
    c.mark-then-index.ensures.many
    (λ i. c.mark-then-index.ensures.marked i ∙ ap (λ (ks : List ℕ). is_marked c.loop-k.marks.items i || is_among ks i) (sym row))
