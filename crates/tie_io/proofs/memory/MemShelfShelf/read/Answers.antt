use Rattle.std.proofs.Common.{◌≡◌, true, false, Some, None, refl, sym, subst, ◌∙◌}
use Rattle.tie_io.specs.Memory.{held, is_planned, ShelfState}
use Rattle.tie_io.proofs.Lookup.{is_held, absent_fails, present_reads}
use Rattle.tie_io.proofs.memory.MemShelfShelf.read.Goals as goal

pub returns-in_default-clause-fails : goal.returns-in_default-clause-fails
returns-in_default-clause-fails c =
    let absent = subst (λ (s : ShelfState). held s.files c.args.name.now ≡ None) c.self.view_is (is_held c.self.inside.entries c.args.name.now None c.in_default.ensures.value) in
    ((λ h. absent_fails c.args.self.now c.args.name.now absent), (λ h. refl))

pub returns-clause-bytes : goal.returns-clause-bytes
returns-clause-bytes c =
    let present = subst (λ (s : ShelfState). held s.files c.args.name.now ≡ Some c.in-Some.file.now.items) c.self.view_is (is_held c.self.inside.entries c.args.name.now (Some c.in-Some.file.now) c.in-Some.ensures.value) in
    rw present (rw c.deref-2.ensures.value at c.copy_up_to.ensures.read)

pub returns-clause-fails : goal.returns-clause-fails
returns-clause-fails c =
    let present = subst (λ (s : ShelfState). held s.files c.args.name.now ≡ Some c.in-Some.file.now.items) c.self.view_is (is_held c.self.inside.entries c.args.name.now (Some c.in-Some.file.now) c.in-Some.ensures.value) in
    let unplanned = subst (λ (s : ShelfState). is_planned s.fail s.calls ≡ false) c.self.view_is (sym (rw c.deref.ensures.value at c.if-is_planned.ensures.value)) in (
      (λ h. absurd (c.copy_up_to.ensures.failed h)),
      (λ h. let no : false ≡ true = sym (present_reads c.args.self.now c.args.name.now c.in-Some.file.now.items unplanned present) ∙ h in absurd cc),
    )
