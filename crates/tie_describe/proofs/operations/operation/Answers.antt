use Rattle.std.proofs.Common.{refl, ap, ◌∙◌}
use Rattle.tie_describe.specs.Operations.{operation}
use Rattle.tie_describe.proofs.Words.{argument_words, link_words}
use Rattle.tie_describe.proofs.Made.{operation_made}
use Rattle.tie_describe.proofs.operations.operation.Goals as goal

pub make_all-requires : goal.make_all-requires
make_all-requires c = argument_words c.args.o.now c.as_slice.result.now c.as_slice.ensures c.requires.words

pub make_all-requires-2 : goal.make_all-requires-2
make_all-requires-2 c = link_words c.args.o.now c.as_slice-2.result.now c.as_slice-2.ensures c.requires.words

pub returns : goal.returns
returns c =
    operation_made c.args.tree.now c.args.o.now c.args.scope.now c.requires.scope c.schedule_of-items.result.now c.schedule_of-items.ensures c.uses_late.result c.uses_late.ensures
    c.as_slice.result.now c.as_slice.ensures c.as_slice-2.result.now c.as_slice-2.ensures
    c.from_vec.result c.from_vec-2.result (c.from_vec.ensures ∙ c.in_ok-args.ensures) (c.from_vec-2.ensures ∙ c.in_ok-links.ensures)
    c.name_of.result c.from_vec-3.result c.name_of.ensures _ refl
    ∙ ap (operation c.args.tree.now c.args.o.now) c.from_vec-3.ensures
