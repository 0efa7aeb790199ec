use Rattle.std.proofs.Common.{Bool, [], ◌∷◌, ◌<◌, length, get_or, sym, ap, subst}
use Rattle.std.specs.Prelude.{slice_set, if◌then◌else◌}
use Rattle.std.proofs.lemmas.Option.{slice_get-get_or}
use Rattle.net_ref.specs.Shown.{AreConsumed}
use Rattle.net_ref.proofs.Channels.{consumed_none, consumed_more}
use Rattle.net_ref.proofs.moves.take_if.Goals as goal

pub returns-then-not-popped : goal.returns-then-not-popped
returns-then-not-popped c =
    let xs = c.args.channels.now in
    subst (λ (b : Bool). AreConsumed (if b then c.args.q ∷ [] else []) xs xs) (sym c.if-not-popped.true) (consumed_none xs (λ q x at. x.within))

pub returns : goal.returns
returns c =
    let xs = c.args.channels.now in
    let lt : c.args.q < length xs = c.requires in
    let d = c.index-channels-q.result in
    subst (λ (b : Bool). AreConsumed (if b then c.args.q ∷ [] else []) xs (slice_set xs c.args.q c.take.new.self)) (sym c.if-not-popped.false)
    (consumed_more [] xs xs c.args.q c.take.new.self (get_or xs c.args.q d) (consumed_none xs (λ q x at. x.within))
    (slice_get-get_or xs c.args.q d lt) (ap (λ v. v.items) c.take.ensures.history) c.take.ensures.consumed)
