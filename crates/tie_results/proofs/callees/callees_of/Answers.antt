use Rattle.std.proofs.Common.{◌≡◌, ℕ, ◌+◌, List, Vec, Global, Some, None, length, sym, subst, ap, ◌∙◌, arith}
use Rattle.tie_mean.specs.Names.{function_at}
use Rattle.tie_grammar.specs.declared.tree.Decl.{Decl}
use Rattle.tie_results.specs.Callees.{AreCallees}
use Rattle.tie_results.specs.Translated.{calls_behind}
use Rattle.tie_results.specs.declared.frame.Callee.{Callee}
use Rattle.tie_results.proofs.Keeping.{callees_more, callees_same, function_read}
use Rattle.tie_results.proofs.callees.callees_of.Goals as goal
use Rattle.tie_results.proofs.callees.callees_of.Goals.{in-Some+in_ok-callee-in-Some+in_ok-push-in-Some, in-None}

pub loop-k-preserved : goal.loop-k-preserved
loop-k-preserved c =
    elim c.match-function_of.branch [
      | in-Some+in_ok-callee-in-Some+in_ok-push-in-Some w ↦
          callees_more c.args.tree.now c.loop-k.k w.in-Some.function.now c.loop-k.callees.items c.match-function_of.callees.items w.in_ok-callee-in-Some.callee
          (ap (λ (ds : List Decl). function_at ds c.loop-k.k) (sym c.as_slice-declarations.ensures)
          ∙ function_read c.as_slice-declarations.result.now c.loop-k.k c.index-declarations-k.result (Some w.in-Some.function.now) c.loop-k-test.true c.index-declarations-k.is w.in-Some.ensures)
          c.loop-k.invariant w.in_ok-callee-in-Some.ensures.name w.in_ok-callee-in-Some.ensures.kept
          (ap (λ (v : Vec Callee Global). v.items) w.callees-is ∙ w.in_ok-push-in-Some.ensures.items)
      | in-None w ↦
          subst (λ (cs : List Callee). AreCallees (calls_behind c.args.tree.now (c.loop-k.k + 1)) cs) (sym (ap (λ (v : Vec Callee Global). v.items) w.callees-is))
          (callees_same c.args.tree.now c.loop-k.k c.loop-k.callees.items
          (ap (λ (ds : List Decl). function_at ds c.loop-k.k) (sym c.as_slice-declarations.ensures)
          ∙ function_read c.as_slice-declarations.result.now c.loop-k.k c.index-declarations-k.result None c.loop-k-test.true c.index-declarations-k.is w.in-None.ensures)
          c.loop-k.invariant)
    ]

pub returns : goal.returns
returns c =
    let long = ap (λ (ds : List Decl). length ds) c.as_slice-declarations.ensures in
    let most = c.loop-k.auto.k-end in
    let least = c.loop-k-test.false in
    let end : c.loop-k.k ≡ length c.args.tree.now.declarations = omega (arith, long, most, least) in
    subst (λ (n : ℕ). AreCallees (calls_behind c.args.tree.now n) c.loop-k.callees.items) end c.loop-k.invariant
