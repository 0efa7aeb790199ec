use Rattle.std.proofs.Common.{◌≡◌, ◌/◌, length, append-nil, arith}
use Rattle.hex_text.proofs.Digits.{paired-end}
use Rattle.hex_text.proofs.hexadecimal.paired.Goals as goal

pub returns-clause-bytes : goal.returns-clause-bytes
returns-clause-bytes c =
    let e : c.loop-i.i ≡ length c.args.digits.now / 2 = omega arith in
    rw (e, paired-end, append-nil) at c.loop-i.invariant.read
