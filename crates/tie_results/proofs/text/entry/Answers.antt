use Rattle.std.proofs.Common.{sym, ◌∙◌}
use Rattle.tie_mean.specs.Literals.{literal_value}
use Rattle.tie_results.proofs.Fits.{fits_value}
use Rattle.tie_results.proofs.text.entry.Goals as goal

pub returns-clause-is : goal.returns-clause-is
returns-clause-is c = c.unwrap_or.ensures ∙ sym (fits_value (literal_value c.args.x.now) c.args.width c.literal_value.result c.requires.high c.requires.fits c.literal_value.ensures)
