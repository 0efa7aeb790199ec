use Rattle.std.proofs.Common.{subst, sym}
use Rattle.tie_desc.specs.declared.bundle.Spot.TheVariants as spot
use Rattle.xt_exec.specs.Made.{HasShape}
use Rattle.xt_exec.proofs.Shapes.{shape_put}
use Rattle.xt_exec.proofs.places.put.Goals as goal

pub returns-in-State-clause-shape : goal.returns-in-State-clause-shape
returns-in-State-clause-shape c =
    subst (HasShape c.args.desc.now) (sym c.put_state.ensures) (shape_put c.args.desc.now c.args.arch.now (spot.State c.in-State.i) c.args.value c.requires.shape)

pub returns-in-File-clause-shape : goal.returns-in-File-clause-shape
returns-in-File-clause-shape c =
    subst (HasShape c.args.desc.now) (sym c.put_register.ensures)
    (shape_put c.args.desc.now c.args.arch.now (spot.File c.in-File.f c.in-File.n) c.args.value c.requires.shape)
