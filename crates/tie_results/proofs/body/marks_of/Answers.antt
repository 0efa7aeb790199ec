use Rattle.std.proofs.Common.{◌≡◌, ℕ, ◌<◌, Bool, true, List, Vec, Global, Some, None, length, map, nat_le, sym, subst, ap, ◌∙◌, arith}
use Rattle.std.specs.List.{list_all}
use Rattle.tie_mean.specs.Kept.{kept}
use Rattle.tie_mean.specs.Setters.{setter, leaf_names}
use Rattle.tie_results.specs.Reads.{is_among, UseEarlier, AreNeeded}
use Rattle.tie_results.specs.Bodies.{widths_of}
use Rattle.tie_results.specs.Callees.{body_of}
use Rattle.tie_results.specs.Plans.{IsPlan, is_ready}
use Rattle.tie_results.proofs.Outcomes.{if_ok}
use Rattle.tie_results.proofs.Framed.{frame_counted}
use Rattle.tie_results.proofs.Planned.{rows, rows_earlier, last_low, plan_of, outputs_ready}
use Rattle.tie_results.proofs.body.marks_of.Goals as goal

pub needed-requires-clause-earlier : goal.needed-requires-clause-earlier
needed-requires-clause-earlier c =
    subst (λ (rs : List (Vec ℕ Global)). UseEarlier (map (λ ks. ks.items) rs)) (sym c.deref.ensures.value)
    (rows_earlier (widths_of (body_of c.args.frame.now)).is_table (leaf_names c.args.frame.now.inputs.now) c.args.frame.now.items.now c.args.uses.now c.requires.uses)

pub needed-requires-clause-last : goal.needed-requires-clause-last
needed-requires-clause-last c = λ k h.
    let low = last_low c.args.frame.now.items.now c.args.uses.now.setters c.in_ok-last.last.items (leaf_names c.args.outputs.now) c.requires.uses.setters c.in_ok-last.ensures k
    (ap (λ (ks : List ℕ). is_among ks k) (sym c.deref-2.ensures.value) ∙ h) in
    let many = c.requires.uses.many in
    let same = ap (λ (rs : List (Vec ℕ Global)). length rs) c.deref.ensures.value in
    omega (arith, low, many, same)

pub returns-clause-plan : goal.returns-clause-plan
returns-clause-plan c =
    if_ok c.needed.result (λ marks. AreNeeded (map (λ ks. ks.items) c.deref.result.now) c.deref-2.result.now marks.items) (λ marks. IsPlan (body_of c.args.frame.now) marks.items)
    (λ marks h. plan_of (body_of c.args.frame.now) c.args.uses.now c.in_ok-last.last.items marks.items (leaf_names c.args.outputs.now) (frame_counted c.args.frame.now) c.requires.uses
    (subst (λ (rs : List (Vec ℕ Global)). AreNeeded (map (λ ks. ks.items) rs) c.in_ok-last.last.items marks.items) c.deref.ensures.value
    (subst (λ (ks : List ℕ). AreNeeded (map (λ js. js.items) c.deref.result.now) ks marks.items) c.deref-2.ensures.value h))
    c.in_ok-last.ensures c.requires.small)
    c.needed.ensures

pub returns-clause-marked : goal.returns-clause-marked
returns-clause-marked c =
    if_ok c.needed.result (λ marks. AreNeeded (map (λ ks. ks.items) c.deref.result.now) c.deref-2.result.now marks.items)
    (λ marks. list_all (λ name. is_ready marks.items (setter c.args.frame.now.items.now (length c.args.frame.now.items.now) name)) (leaf_names c.args.outputs.now) ≡ true)
    (λ marks h. outputs_ready c.args.frame.now.items.now c.args.uses.now c.in_ok-last.last.items marks.items (leaf_names c.args.outputs.now) c.requires.uses.setters
    (subst (λ (rs : List (Vec ℕ Global)). AreNeeded (map (λ ks. ks.items) rs) c.in_ok-last.last.items marks.items) c.deref.ensures.value
    (subst (λ (ks : List ℕ). AreNeeded (map (λ js. js.items) c.deref.result.now) ks marks.items) c.deref-2.ensures.value h))
    c.in_ok-last.ensures)
    c.needed.ensures
