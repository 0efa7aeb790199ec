use Rattle.std.proofs.Common.{lit<}
use Rattle.tie_grammar.specs.declared.tree.Decl.TheVariants as d
use Rattle.tie_describe.proofs.Words.{words_of}
use Rattle.tie_describe.proofs.declarations.PickFilePickDeclFileDecl.pick.Goals as goal

pub name_of-requires-in-Regfile : goal.name_of-requires-in-Regfile
name_of-requires-in-Regfile c =
    words_of c.args.decl.now (d.Regfile c.in-Regfile.x) c.requires c.in-Regfile.is 1 c.in-Regfile.x.short (lit< tt)
