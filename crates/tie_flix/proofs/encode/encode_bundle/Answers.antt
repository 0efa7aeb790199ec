use Rattle.std.proofs.Common.{◌≡◌, ◌<◌, ◌≤◌, ◌^◌, ◌-◌, ℕ, length, List, Some, None, slice_get, sym, ap, subst, ◌∙◌}
use Rattle.std.specs.Option.{option_copied}
use Rattle.tie_desc.proofs.FormatLemmas.{number_fits}
use Rattle.tie_flix.proofs.Refetched.{space_of}
use Rattle.tie_desc.proofs.Lists.{All-slice_get}
use Rattle.tie_desc.specs.Slots.{slots_space}
use Rattle.tie_flix.specs.Faults.{IsKnown}
use Rattle.tie_flix.proofs.Decided.{get_some}
use Rattle.tie_flix.proofs.encode.encode_bundle.Goals as goal

pub encode_wide-requires-clause-number : goal.encode_wide-requires-clause-number
encode_wide-requires-clause-number c =
    All-slice_get (λ f. f.number < 16) c.desc.inside.formats c.in-Wide.format c.in-Some.format.now (number_fits _ c.desc.invariant) (sym c.get.ensures ∙ ap option_copied c.in-Some.is)

pub encode_wide-requires-clause-room : goal.encode_wide-requires-clause-room
encode_wide-requires-clause-room c =
    subst (λ d. slots_space d c.in-Some.format.now.slots ≤ 2 ^ (c.in-Some.format.now.width - 8)) c.desc.view_is
    (space_of _ c.in-Wide.format c.in-Some.format.now c.desc.invariant (sym c.get.ensures ∙ ap option_copied c.in-Some.is))

none_there : {A : Type 0} (xs : List A) (i : ℕ) → i < length xs → slice_get xs i ≡ None → ⊥
none_there xs i lt none = let g = get_some xs i lt in clash g.0 (sym g.1 ∙ none)
  where
    clash : {A : Type 0} (x : A) → Some x ≡ None → ⊥
    clash x h = cc

pub returns-in-None : goal.returns-in-None
returns-in-None c =
    let there = subst (λ d. c.in-Wide.format < length d.formats) (sym c.desc.view_is) (subst (IsKnown c.args.desc.now) c.in-Wide.is c.requires) in
    absurd (none_there c.desc.inside.formats c.in-Wide.format there (sym c.get.ensures ∙ ap option_copied c.in-None.is))
