use Rattle.std.proofs.Common.{◌≡◌, ◌∷◌, [], ◌++◌, List, Vec, Global, Some, length, refl, ap, ◌∙◌}
use Rattle.std.proofs.lemmas.Option.{slice_get_read}
use Rattle.tie_check.proofs.Fit.{more, same}
use Rattle.tie_check.proofs.operations.results_among.Goals as goal
use Rattle.tie_check.proofs.operations.results_among.Goals.{in-Some+in_ok-own-in-Some+in_ok-push-in-Some, in-None}

pub results-requires-clause-operation : goal.results-requires-clause-operation
results-requires-clause-operation c =
    c.requires.operations c.loop-k.k c.in-Some.operation.now
    (slice_get_read c.args.declarations.now (length c.args.declarations.now) c.loop-k.k c.index-declarations-k.result refl c.loop-k-test.true c.index-declarations-k.is
    ∙ ap Some c.in-Some.ensures.some)

pub loop-k-preserved : goal.loop-k-preserved
loop-k-preserved c =
    elim c.match-operation_in.branch [
      | in-Some+in_ok-own-in-Some+in_ok-push-in-Some w ↦
          more (λ r. r.items) c.args.tree.now c.args.declarations.now c.loop-k.k c.index-declarations-k.result w.in-Some.operation.now c.loop-k.all.items c.match-operation_in.all.items
          w.in_ok-own-in-Some.own c.loop-k-test.true c.index-declarations-k.is w.in-Some.ensures.some (ap (λ v. v.items) w.all-is ∙ w.in_ok-push-in-Some.ensures.items) c.loop-k.invariant
          w.in_ok-own-in-Some.ensures
      | in-None w ↦
          same (λ r. r.items) c.args.tree.now c.args.declarations.now c.loop-k.k c.index-declarations-k.result c.loop-k.all.items c.match-operation_in.all.items
          c.loop-k-test.true c.index-declarations-k.is w.in-None.ensures.none (ap (λ v. v.items) w.all-is) c.loop-k.invariant
    ]
