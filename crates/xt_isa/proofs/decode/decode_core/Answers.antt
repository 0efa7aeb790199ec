use Rattle.std.proofs.Common.{◌≡◌, ℕ, ◌%◌, ◌/◌, List, get_or, arith, sym, subst, ◌∙◌}
use Rattle.xt_isa.specs.Formats.{number}
use Rattle.xt_isa.proofs.Fields.{AreSmall, Fields, IsSoundAt, fields, word_of}
use Rattle.xt_isa.proofs.SoundLemmas.{sound}
use Rattle.xt_isa.proofs.TableLemmas.{complete}
use Rattle.xt_isa.proofs.decode.decode_core.Goals as goal

-- the fields of three bytes
abbrev split : List ℕ → Fields
split bytes =
    let a : ℕ = get_or bytes 0 0 in
    let b : ℕ = get_or bytes 1 0 in
    let d : ℕ = get_or bytes 2 0 in
    fields (a % 16) (a / 16) (b % 16) (b / 16) (d % 16) (d / 16)

pub returns-clause-found : goal.returns-clause-found
returns-clause-found c =
    let small : AreSmall (split c.args.bytes) = record { op0 = omega arith; t = omega arith; s = omega arith; r = omega arith; op1 = omega arith; op2 = omega arith } in
    let whole : word_of (split c.args.bytes) ≡ number c.args.bytes = omega arith in
    subst (IsSoundAt (number c.args.bytes)) (sym c.read_fields.ensures) (rw whole at (sound (split c.args.bytes) small))

pub returns-clause-only : goal.returns-clause-only
returns-clause-only c = λ inst fits spells.
    let small : AreSmall (split c.args.bytes) = record { op0 = omega arith; t = omega arith; s = omega arith; r = omega arith; op1 = omega arith; op2 = omega arith } in
    let whole : word_of (split c.args.bytes) ≡ number c.args.bytes = omega arith in
    c.read_fields.ensures ∙ complete (split c.args.bytes) small inst fits (whole ∙ spells)
