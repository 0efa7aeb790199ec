use Rattle.std.proofs.Common.{Some, ap, ◌∙◌}
use Rattle.tie_io.specs.Memory.{held}
use Rattle.tie_io.proofs.Lookup.{held-inserted_same, held-inserted_other}
use Rattle.tie_io.proofs.memory.MemShelf.add.Goals as goal

pub returns-in-Ok-insert-clause-added : goal.returns-in-Ok-insert-clause-added
returns-in-Ok-insert-clause-added c =
    held-inserted_same c.self.inside.entries c.insert.new.self c.in-Ok.key c.in-Ok-from_slice.copy c.args.name.now c.in-Ok.ensures.ok c.in-Ok-insert.ensures.updates
    ∙ ap Some c.in-Ok-from_slice.ensures.items

pub returns-in-Ok-insert-clause-others : goal.returns-in-Ok-insert-clause-others
returns-in-Ok-insert-clause-others c = λ other ne.
    held-inserted_other c.self.inside.entries c.insert.new.self c.in-Ok.key c.in-Ok-from_slice.copy c.args.name.now c.in-Ok.ensures.ok c.in-Ok-insert.ensures.updates other ne
    ∙ ap (λ s. held s.files other) c.self.view_is
