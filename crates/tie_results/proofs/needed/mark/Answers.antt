use Rattle.std.proofs.Common.{◌≡◌, length, take, get_or, ◌∙◌, rules, arith, length-set}
use Rattle.std.specs.Vec.{vec_len}
use Rattle.tie_results.proofs.Marks.{among_there, mark_more}
use Rattle.tie_results.proofs.needed.mark.Goals as goal

pub index_mut-requires : goal.index_mut-requires
index_mut-requires c =
    let low = c.requires (get_or c.args.numbers.now c.loop-number.number-index 0) (among_there c.args.numbers.now c.loop-number.number-index c.loop-number-test.true) in
    let same = c.loop-number.invariant.1 in
    let many : length c.loop-number.marks.items ≡ vec_len c.loop-number.marks = search rules in
    omega (arith, low, same, many)

pub loop-number-preserved : goal.loop-number-preserved
loop-number-preserved c =
    let low = c.requires (get_or c.args.numbers.now c.loop-number.number-index 0) (among_there c.args.numbers.now c.loop-number.number-index c.loop-number-test.true) in
    let same = c.loop-number.invariant.1 in (
      mark_more c.args.marks.now.items c.loop-number.marks.items c.args.numbers.now c.loop-number.number-index c.loop-number-test.true (omega (arith, low, same)) c.loop-number.invariant.0,
      length-set _ _ _ ∙ same,
    )
