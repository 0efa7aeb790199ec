use Rattle.std.proofs.Common.{ap, ◌∙◌, take}
use Rattle.std.specs.List.{list_all}
use Rattle.tie_desc.specs.Names.{is_word_byte}
use Rattle.asm_lines.proofs.Words.{front_passes}
use Rattle.asm_lines.proofs.piece.word.Goals as goal

pub new-requires-clause-word : goal.new-requires-clause-word
new-requires-clause-word c = ap (λ n. list_all is_word_byte (take n c.args.bytes.now)) c.word_len-n.ensures ∙ front_passes is_word_byte c.args.bytes.now
