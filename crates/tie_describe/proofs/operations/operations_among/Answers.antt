use Rattle.tie_grammar.specs.declared.tree.Decl.TheVariants as d
use Rattle.tie_describe.proofs.Words.{words_at}
use Rattle.tie_describe.proofs.operations.operations_among.Goals as goal

pub operation-requires-clause-words : goal.operation-requires-clause-words
operation-requires-clause-words c =
    words_at c.args.decls.now c.loop-decl.decl-index c.decl-item.result (d.Operation c.in-Operation.o) c.requires.words c.loop-decl-test.true c.decl-item.is c.in-Operation.is
