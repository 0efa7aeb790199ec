use Rattle.tie_words.proofs.WordLemmas.{no_words, no_command_of}
use Rattle.tie_words.proofs.command.command_of.Goals as goal

pub returns-in_default : goal.returns-in_default
returns-in_default c = no_words c.args.words.now c.in_default.ensures.cases

pub returns-in_default-as_str : goal.returns-in_default-as_str
returns-in_default-as_str c =
    let none = c.in_default-as_str in
    no_command_of c.args.words.now c.in-Some.names.now c.in-Some.word.now c.as_str.result.now c.in-Some.ensures.cases.0 c.as_str.ensures.value none.not-check none.not-asm none.not-dis none.not-exec none.not-ref none.not-strict
