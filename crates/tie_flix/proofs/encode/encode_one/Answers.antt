use Rattle.std.proofs.Common.{◌≡◌, ◌<◌, length, true, get_or, sym}
use Rattle.tie_desc.proofs.SlotLemmas.{limit-le}
use Rattle.tie_desc.specs.Description.{Description}
use Rattle.tie_desc.specs.Invariant.{IsDescription}
use Rattle.tie_desc.specs.Slots.{args_of}
use Rattle.tie_desc.specs.declared.bundle.Part.{Part}
use Rattle.tie_flix.specs.Reading.{fits}
use Rattle.tie_flix.proofs.FieldLemmas.{fields-small}
use Rattle.tie_flix.proofs.encode.encode_one.Goals as goal

small : (d : Description) (p : Part) → IsDescription d → length p.fields ≡ 3 → fits d p ≡ true → (get_or p.fields 0 0 < 16) × (get_or p.fields 1 0 < 16) × (get_or p.fields 2 0 < 16)
small d p is three ok = fields-small d (args_of d p.code) p.fields (λ k. limit-le d k is) three ok

pub op_bytes-requires-clause-r : goal.op_bytes-requires-clause-r
op_bytes-requires-clause-r c = (small c.args.desc.now c.args.part.now c.facts.ensures c.part_fits.ensures.three (sym c.if-not-part_fits.ensures.fits)).0

pub op_bytes-requires-clause-s : goal.op_bytes-requires-clause-s
op_bytes-requires-clause-s c = (small c.args.desc.now c.args.part.now c.facts.ensures c.part_fits.ensures.three (sym c.if-not-part_fits.ensures.fits)).1

pub op_bytes-requires-clause-t : goal.op_bytes-requires-clause-t
op_bytes-requires-clause-t c = (small c.args.desc.now c.args.part.now c.facts.ensures c.part_fits.ensures.three (sym c.if-not-part_fits.ensures.fits)).2
