use Rattle.std.proofs.Common.{◌≡◌, true, false, sym, subst, ◌∙◌}
use Rattle.tie_io.specs.Memory.{is_planned, SinkState}
use Rattle.tie_io.proofs.memory.MemSinkSink.put.Goals as goal

pub returns-then-is_err-clause-fails : goal.returns-then-is_err-clause-fails
returns-then-is_err-clause-fails c =
    let unplanned = subst (λ (s : SinkState). is_planned s.fail s.calls ≡ false) c.self.view_is (sym (rw c.deref.ensures.value at c.if-is_planned.ensures.value)) in
    ((λ h. absurd cc), (λ h. let no : false ≡ true = sym unplanned ∙ h in absurd cc))

pub returns-clause-fails : goal.returns-clause-fails
returns-clause-fails c =
    let unplanned = subst (λ (s : SinkState). is_planned s.fail s.calls ≡ false) c.self.view_is (sym (rw c.deref.ensures.value at c.if-is_planned.ensures.value)) in
    ((λ h. absurd cc), (λ h. let no : false ≡ true = sym unplanned ∙ h in absurd cc))
