use Rattle.std.proofs.Common.{◌≡◌, ℕ, ◌+◌, ◌*◌, ◌<◌, ◌≤◌, length, arith, ap, ◌∙◌}
use Rattle.std.proofs.Math.Nat.{mul-le-mul_left}
use Rattle.tie_desc.specs.Slots.{code_space, place_of, longest}
use Rattle.tie_desc.specs.Spelling.{fields_below}
use Rattle.tie_flix.proofs.FieldLemmas.{code_space-some}
use Rattle.tie_flix.proofs.spell.slot_below.Goals as goal

-- what stands above is smaller
under : (x space place n : ℕ) → 0 < space → x * space + place < n → x < n
under x space place n some h = let k : 1 ≤ space = omega (arith, some) in omega (arith, h, mul-le-mul_left x k)

pub fields_below-fields-requires : goal.fields_below-fields-requires
fields_below-fields-requires c =
    let codes = c.args.slot.now.codes in
    let same : fields_below c.longest.result 0 c.args.part.now.fields c.args.above ≡ fields_below (longest c.args.desc.now codes) 0 c.args.part.now.fields c.args.above =
    ap (λ n. fields_below n 0 c.args.part.now.fields c.args.above) (c.longest.ensures ∙ ap (longest c.args.desc.now) c.as_slice-codes.ensures) in
    let h = under (fields_below (longest c.args.desc.now codes) 0 c.args.part.now.fields c.args.above) (code_space (length codes)) (place_of c.args.part.now.code codes) 18446744073709551616 (code_space-some (length codes)) c.requires in
    omega (arith, same, h)
