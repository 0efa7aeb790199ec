use Rattle.std.proofs.Common.{◌≡◌, ◌++◌, [], ◌∷◌, ◌<◌, take, drop, length, ap, ◌∙◌, arith}
use Rattle.net_desc.specs.Items.{number_in}
use Rattle.net_desc.proofs.Pieces.{pieces-step, room-step}
use Rattle.net_desc.proofs.numbers.numbers_in.Goals as goal

pub loop-left-preserved : goal.loop-left-preserved
loop-left-preserved c =
    let left = c.loop-left.left in
    let size = c.args.size in
    let xs = c.loop-left.numbers.items in
    let rest = c.loop-left.rest.now in
    let some : 0 < left = omega arith in
    let front : c.number_in.result ≡ number_in (take size rest) = c.number_in.ensures ∙ ap number_in c.split_at.ensures.front in
    let made : c.push.new.self.items ≡ xs ++ number_in (take size rest) ∷ [] = c.in_ok-push.ensures.items ∙ ap (λ n. xs ++ n ∷ []) front in
    let behind : c.split_at.result.1.now ≡ drop size rest = c.split_at.ensures.back in
    record {
      value = rw (made, behind) (pieces-step left size xs rest some ∙ c.loop-left.invariant.value);
      room = room-step left size (length rest) (length c.split_at.result.1.now) some c.loop-left.invariant.room (omega arith);
      count = omega (arith, c.in_ok-push.ensures.len);
    }
