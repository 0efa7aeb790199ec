use Rattle.tie_desc.proofs.FormatLemmas.{number_fits}
use Rattle.tie_desc.proofs.laws.format_number_fits.Goals as goal

pub returns : goal.returns
returns c = number_fits
