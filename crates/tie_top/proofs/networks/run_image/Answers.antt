use Rattle.load_law.specs.net_desc.Workers.{Loaded}
use Rattle.tie_top.proofs.CommandSteps.{of_alone}
use Rattle.tie_top.proofs.networks.run_image.Goals as goal

pub returns : goal.returns
returns c =
    let k : Loaded = (record { desc = c.args.desc; image = c.in-Ok.image }, c.args.bytes) in
    of_alone k c.in_ok-net.net c.run_unbounded.result (rw c.deref.ensures.value at c.in-Ok.ensures) c.in_ok-net.ensures.alone c.run_unbounded.ensures
