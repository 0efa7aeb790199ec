use Rattle.tie_grammar.specs.declared.tree.Decl.TheVariants as d
use Rattle.tie_describe.proofs.Words.{words_at}
use Rattle.tie_describe.proofs.formats.formats_among.Goals as goal

pub format-requires : goal.format-requires
format-requires c = words_at c.args.decls.now c.loop-decl.decl-index c.decl-item.result (d.Format c.in-Format.x) c.requires c.loop-decl-test.true c.decl-item.is c.in-Format.is
