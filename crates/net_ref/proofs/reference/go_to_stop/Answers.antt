use Rattle.std.proofs.Common.{ℕ, Bool, true, ◌+◌, refl, subst, ⊎_elim, arith}
use Rattle.std.proofs.lemmas.Bool.{cases_eq}
use Rattle.net_ref.specs.Workers.{network}
use Rattle.net_ref.specs.Reference.{rounds_of}
use Rattle.net_ref.specs.Shown.{ArePart}
use Rattle.kahn_law.specs.Network as law
use Rattle.net_ref.specs.Reference.{gate_of}
use Rattle.net_ref.proofs.RoundLemmas.{next_round, not_stopped, stop_reached, stops_soon}
use Rattle.net_ref.proofs.reference.go_to_stop.Goals as goal

pub loop-init : goal.loop-init
loop-init c = record { whole = c.requires.whole; shows = c.requires.first; going = λ m lt. absurd (omega arith) }

pub returns-then-not-branch-clause-stop : goal.returns-then-not-branch-clause-stop
returns-then-not-branch-clause-stop c =
    let net = c.args.net.now in
    let bounded = c.args.bounded in
    let n = c.loop.counter in
    stop_reached bounded net n c.round.new.run
    (subst (λ (b : Bool). ArePart bounded net (rounds_of bounded net n) (network net).workers b c.round.new.run) c.if-not-branch.true (c.in_ok-round.ensures.round (rounds_of bounded net n) c.loop.invariant.shows))

pub loop-preserved : goal.loop-preserved
loop-preserved c =
    let net = c.args.net.now in
    let bounded = c.args.bounded in
    let n = c.loop.counter in
    let part : ArePart bounded net (rounds_of bounded net n) (network net).workers true c.round.new.run =
    subst (λ (b : Bool). ArePart bounded net (rounds_of bounded net n) (network net).workers b c.round.new.run) c.if-not-branch.false (c.in_ok-round.ensures.round (rounds_of bounded net n) c.loop.invariant.shows) in
    record {
      whole = c.in_ok-round.ensures.whole;
      shows = next_round bounded net n (n + 1) c.round.new.run refl part;
      going = λ m lt stops. ⊎_elim
          (λ same. not_stopped bounded net n c.round.new.run part (subst (λ (k : ℕ). law.StopsAt (network net) (gate_of bounded net) k) same stops))
          (λ ne. c.loop.invariant.going m (omega arith) stops)
          (cases_eq m n);
    }

pub unreachable-requires : goal.unreachable-requires
unreachable-requires c = stops_soon c.args.bounded c.args.net.now c.requires.net (λ m lt. c.loop.invariant.going m (omega arith))
