use Rattle.std.proofs.Common.{◌≡◌, ℕ, ◌/◌, ◌%◌, ◌<◌, [], ◌∷◌, Option, Some, None, sym, ◌∙◌, arith, refl, IfSome}
use Rattle.xt_isa.specs.declared.instruction.Inst.{Inst}
use Rattle.xt_isa.specs.Formats.{number}
use Rattle.xt_isa.specs.Table.{Fits, Spells}
use Rattle.xt_isa.proofs.Fields.{AreSmall, Fields, IsSoundAt, fields, word_of}
use Rattle.xt_isa.proofs.SoundLemmas.{sound}
use Rattle.xt_isa.proofs.TableLemmas.{complete}
use Rattle.tie_flix.specs.Reading.{read_core}
use Rattle.tie_flix.proofs.words.read_core.Goals as goal

abbrev split : ℕ → ℕ → ℕ → Fields
split a b c = fields (a % 16) (a / 16) (b % 16) (b / 16) (c % 16) (c / 16)

-- an answer that is sound and misses nothing is the reading
by : (a b c : ℕ) → a < 256 → b < 256 → c < 256 → (answer : Option Inst)
    → IfSome answer (λ inst. Fits inst × Spells inst (a ∷ b ∷ c ∷ []))
    → ((inst : Inst) → Fits inst → Spells inst (a ∷ b ∷ c ∷ []) → answer ≡ Some inst)
    → answer ≡ read_core a b c
by a b c ha hb hc answer found only =
    at (read_core a b c) refl (sound (split a b c) small) answer found only
  where
    small : AreSmall (split a b c)
    small = record { op0 = omega (arith, ha); t = omega (arith, ha); s = omega (arith, hb); r = omega (arith, hb); op1 = omega (arith, hc); op2 = omega (arith, hc) }

    whole : word_of (split a b c) ≡ number (a ∷ b ∷ c ∷ [])
    whole = omega arith

    at : (o : Option Inst) → read_core a b c ≡ o → IsSoundAt (word_of (split a b c)) o → (answer : Option Inst)
        → IfSome answer (λ inst. Fits inst × Spells inst (a ∷ b ∷ c ∷ []))
        → ((inst : Inst) → Fits inst → Spells inst (a ∷ b ∷ c ∷ []) → answer ≡ Some inst)
        → answer ≡ o
    at None e good None found only = refl
    at None e good (Some inst) found only = sym (complete (split a b c) small inst found.0 (whole ∙ found.1)) ∙ e
    at (Some inst) e good answer found only = only inst good.0 (sym whole ∙ good.1)

pub returns : goal.returns
returns c = by c.args.a c.args.b c.args.c (omega (arith, c.ranges.a)) (omega (arith, c.ranges.b)) (omega (arith, c.ranges.c)) c.decode_core.result c.decode_core.ensures.found c.decode_core.ensures.only
