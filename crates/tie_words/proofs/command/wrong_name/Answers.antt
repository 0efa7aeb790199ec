use Rattle.std.proofs.Common.{◌≡◌, true, false, sym, ◌∙◌, arith, ap, length}
use Rattle.std.specs.Prelude.{◌==◌}
use Rattle.tie_words.proofs.NameSteps.{at_name, choose_true, choose_second, choose_neither}
use Rattle.tie_words.proofs.command.wrong_name.Goals.{then-number-most-via-then-number-most, then-number-most-via-else-number-most+then-is_empty}
use Rattle.tie_words.proofs.command.wrong_name.Goals as goal

pub returns-then-number-most-clause-found : goal.returns-then-number-most-clause-found
returns-then-number-most-clause-found c =
    let step = at_name c.args.names.now c.loop-name.name-index c.args.least c.args.most c.loop-name.number c.name-item.result c.loop-name-test.true c.name-item.is in
    elim c.then-number-most.branch [
      | then-number-most-via-then-number-most w ↦
          let most : (c.loop-name.number == c.args.most) ≡ true = grind (arith, w.if-number-most) in
          sym (sym c.loop-name.invariant.read ∙ step ∙ choose_true _ _ _ _ most)
      | then-number-most-via-else-number-most+then-is_empty w ↦
          sym (sym c.loop-name.invariant.read ∙ step ∙ choose_second _ _ _ _ (ap (λ z. length z == 0) (sym w.as_str.ensures.value) ∙ sym w.is_empty.ensures ∙ w.if-is_empty.true))
    ]

pub loop-name-preserved : goal.loop-name-preserved
loop-name-preserved c =
    let step = at_name c.args.names.now c.loop-name.name-index c.args.least c.args.most c.loop-name.number c.name-item.result c.loop-name-test.true c.name-item.is in
    let less : (c.loop-name.number == c.args.most) ≡ false = grind (arith, c.if-number-most.false) in
    record {
      counts = omega (arith, c.loop-name.invariant.counts);
      within = omega (arith, c.loop-name.invariant.within, c.if-number-most.false);
      read = sym (choose_neither _ _ _ _ less (ap (λ z. length z == 0) (sym c.as_str.ensures.value) ∙ sym c.is_empty.ensures ∙ c.if-is_empty.false)) ∙ sym step ∙ c.loop-name.invariant.read;
    }
