use Rattle.hex_text.proofs.Digits.{digits_small}
use Rattle.hex_text.proofs.hexadecimal.read_hex.Goals as goal

pub paired-requires : goal.paired-requires
paired-requires c = λ k. rw (c.deref.ensures.value, c.in-Ok.ensures) (digits_small c.args.text.now k)
