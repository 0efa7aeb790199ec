use Rattle.listing_law.proofs.Round.{same_bytes}
use Rattle.listing_law.proofs.laws.assembled_listing.Goals as goal

pub returns : goal.returns
returns c = λ d bytes text image is words small l h.
    same_bytes (record { again = c.named_again.ensures; same = c.rebuilt.ensures.same; fit = c.rebuilt.ensures.fit }) d is words bytes text image small l h
