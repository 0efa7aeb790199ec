use Rattle.std.proofs.Common.{◌+◌, ◌*◌, ◌^◌, ◌<◌, slice_index_or, arith}
use Rattle.net_desc.proofs.Pieces.{one_byte, few_bytes}
use Rattle.net_desc.proofs.numbers.number_in.Goals as goal

pub overflow_mul-n : goal.overflow_mul-n
overflow_mul-n c =
    let i = c.loop-b.b-index in
    let more = one_byte c.loop-b.n 0 i c.loop-b.invariant.below (omega arith) in
    let few : 256 * c.loop-b.n + 0 < 2 ^ 128 = few_bytes (256 * c.loop-b.n + 0) (i + 1) more (omega arith) in
    omega arith

pub overflow_add-n : goal.overflow_add-n
overflow_add-n c =
    let i = c.loop-b.b-index in
    let b = slice_index_or c.args.bytes.now i 0 in
    let byte : b < 256 = omega (arith, c.type_inv.bytes i) in
    let more = one_byte c.loop-b.n b i c.loop-b.invariant.below byte in
    let few : 256 * c.loop-b.n + b < 2 ^ 128 = few_bytes (256 * c.loop-b.n + b) (i + 1) more (omega arith) in
    omega arith
