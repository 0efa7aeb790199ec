use Rattle.std.proofs.Common.{arith}
use Rattle.tie_mean.proofs.Digits.{spelled_through}
use Rattle.tie_mean.proofs.literal.spelled.Goals as goal

pub returns-in-None : goal.returns-in-None
returns-in-None c = λ h.
    let more = spelled_through c.args.base c.loop-b.value c.args.digits.now c.loop-b.b-index _ c.requires c.loop-b-test.true c.loop-b.invariant.0 in
    c.in-None.ensures (omega (arith, more, h))
