use Rattle.tie_grammar.specs.Spelling.{IsDecl}
use Rattle.tie_grammar.specs.declared.tree.Decl.TheVariants as d
use Rattle.tie_sizes_law.proofs.At.{of_each}
use Rattle.tie_sizes_law.proofs.Rules.{unbroken}
use Rattle.tie_sizes_law.proofs.Text.{operation_sound}
use Rattle.tie_sizes_law.proofs.sound_operation.Goals as goal

pub returns : goal.returns
returns c = λ t o g h at. operation_sound t (unbroken t h) at.0 o at.1 (of_each IsDecl t.declarations at.0 (d.Operation o) g at.1)
