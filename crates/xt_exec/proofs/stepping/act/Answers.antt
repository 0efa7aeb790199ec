use Rattle.std.proofs.Common.{◌≡◌, All, List, subst, sym, slice_get}
use Rattle.std.specs.Prelude.{IsTrue}
use Rattle.tie_desc.specs.Spelling.{HasSpelling, part_fits}
use Rattle.tie_desc.specs.declared.bundle.Part.{Part}
use Rattle.tie_desc.specs.declared.bundle.Bundle.{Bundle}
use Rattle.xt_operate.proofs.SlotLemmas.{wide_fit}
use Rattle.xt_exec.proofs.stepping.act.Goals as goal

pub act_parts-requires-in-Wide-clause-fits : goal.act_parts-requires-in-Wide-clause-fits
act_parts-requires-in-Wide-clause-fits c =
    let d = c.args.desc.now in
    let P : List Part → Type 0 = λ ps. All (λ p. IsTrue (part_fits d p)) ps in
    let Q : Bundle → Type 0 = λ b. HasSpelling d b in
    let spelled = subst Q c.in-Wide.is c.requires.spelled in
    subst P (sym c.as_slice.ensures.value) (wide_fit d (slice_get d.formats c.in-Wide.format) c.in-Wide.parts.items spelled.1)
