use Rattle.std.proofs.Common.{◌∙◌, sym}
use Rattle.tie_flix.proofs.Firsts.{whole_fits}
use Rattle.tie_flix.proofs.encode.fits_in.Goals as goal

pub returns : goal.returns
returns c = c.part_fits.ensures.fits ∙ sym (whole_fits c.args.desc.now c.args.part.now c.part_fits.ensures.three)
