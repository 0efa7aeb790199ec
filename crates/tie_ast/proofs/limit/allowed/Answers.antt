use Rattle.std.proofs.Common.{◌≡◌, ◌+◌, Some, slice_get, sym, ap, subst, ◌∙◌, arith}
use Rattle.std.proofs.lemmas.Option.{slice_get-get_or}
use Rattle.tie_ast.proofs.Scan.{IsScanned, at_semicolon, at_inside, at_equals, at_outside, at_beyond, start_below}
use Rattle.tie_ast.proofs.limit.allowed.Goals as goal
use Rattle.tie_ast.proofs.limit.allowed.Goals.{then-is_mark, else-is_mark+in-Some+else-at-start-gt-LIMIT, else-is_mark+in_default+then-is_mark-2, else-is_mark+in_default+else-is_mark-2}

pub overflow_sub-at : goal.overflow_sub-at
overflow_sub-at c =
    let below = start_below c.args.symbols.now c.loop-at.at c.in-Some.start (subst (IsScanned c.args.symbols.now c.loop-at.at) c.in-Some.is c.loop-at.invariant) in
    omega arith

pub returns-then-at-start-gt-LIMIT-clause-there : goal.returns-then-at-start-gt-LIMIT-clause-there
returns-then-at-start-gt-LIMIT-clause-there c lt =
    let ts = c.args.symbols.now in
    let at = c.loop-at.at in
    let x = c.index-symbols-at.result in
    let is : slice_get ts at ≡ Some x = slice_get-get_or ts at x (omega arith) ∙ ap Some (sym c.index-symbols-at.is) in
    at_beyond ts at c.in-Some.start x is lt (sym c.is_mark.ensures ∙ c.if-is_mark.false) c.if-at-start-gt-LIMIT.true (subst (IsScanned ts at) c.in-Some.is c.loop-at.invariant)

pub loop-at-preserved : goal.loop-at-preserved
loop-at-preserved c =
    let ts = c.args.symbols.now in
    let at = c.loop-at.at in
    let x = c.index-symbols-at.result in
    let is : slice_get ts at ≡ Some x = slice_get-get_or ts at x (omega arith) ∙ ap Some (sym c.index-symbols-at.is) in
    elim c.if-is_mark.branch [
      | then-is_mark w ↦ subst (IsScanned ts (at + 1)) (sym w.opened-is) (at_semicolon ts at c.loop-at.opened x is (sym c.is_mark.ensures ∙ w.if-is_mark.true) c.loop-at.invariant)
      | else-is_mark+in-Some+else-at-start-gt-LIMIT w ↦ subst (IsScanned ts (at + 1)) (sym w.opened-is)
          (at_inside ts at w.in-Some.start x is (sym c.is_mark.ensures ∙ w.if-is_mark.false) w.if-at-start-gt-LIMIT.false (subst (IsScanned ts at) w.in-Some.is c.loop-at.invariant))
      | else-is_mark+in_default+then-is_mark-2 w ↦ subst (IsScanned ts (at + 1)) (sym w.opened-is)
          (at_equals ts at x is (sym w.is_mark-in_default.ensures ∙ w.if-is_mark-2.true) (subst (IsScanned ts at) w.in_default.is c.loop-at.invariant))
      | else-is_mark+in_default+else-is_mark-2 w ↦ subst (IsScanned ts (at + 1)) (sym (w.opened-is ∙ w.in_default.is))
          (at_outside ts at x is (sym w.is_mark-in_default.ensures ∙ w.if-is_mark-2.false) (subst (IsScanned ts at) w.in_default.is c.loop-at.invariant))
    ]

pub returns-clause-before : goal.returns-clause-before
returns-clause-before c k lt = c.loop-at.invariant.before k (omega arith)
