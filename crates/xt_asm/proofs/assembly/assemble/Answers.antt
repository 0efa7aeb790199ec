use Rattle.std.proofs.Common.{[], subst, sym}
use Rattle.xt_asm.specs.Known.{AreKnown}
use Rattle.xt_asm.proofs.Named.{lines_known}
use Rattle.xt_asm.proofs.assembly.assemble.Goals as goal

pub assemble_lines-requires : goal.assemble_lines-requires
assemble_lines-requires c =
    subst (AreKnown c.args.desc.now) (sym c.as_slice-2.ensures.value) (lines_known c.args.desc.now c.as_slice.result.now c.in_ok-read.read.items [] c.in_ok-read.ensures)
