use Rattle.std.proofs.Common.{◌≡◌, ◌∙◌, ◌<◌, ◌+◌, List, Vec, Global, length, get_or, refl, sym, ap, subst}
use Rattle.tie_mean.specs.Names as names
use Rattle.tie_mean.specs.Counts.{seen_behind}
use Rattle.tie_mean.specs.CountScope.{AreFunctions}
use Rattle.tie_mean.specs.declared.scope.FunctionCount.{FunctionCount}
use Rattle.tie_grammar.specs.declared.tree.Decl.{Decl}
use Rattle.tie_mean.proofs.KeptFunctions.{functions_more, functions_same}
use Rattle.tie_mean.proofs.body.function_counts.Goals as goal
use Rattle.tie_mean.proofs.body.function_counts.Goals.{in-Some+in_ok-count-in-Some+in_ok-push-in-Some, in-None}

pub loop-k-preserved : goal.loop-k-preserved
loop-k-preserved c =
    let is_table = names.table_named c.args.tree.now in
    let decls = c.args.tree.now.declarations in
    let k = c.loop-k.k in
    let d = c.index-declarations-k.result in
    let within : k < length decls = subst (λ (xs : List Decl). k < length xs) c.as_slice-declarations.ensures c.loop-k-test.true in
    let read : d ≡ get_or decls k d = c.index-declarations-k.is ∙ ap (λ (xs : List Decl). get_or xs k d) c.as_slice-declarations.ensures in
    let P : Vec FunctionCount Global → Type 0 = λ v. AreFunctions v.items (seen_behind is_table decls (k + 1)) in
    elim c.match-function_of.branch [
      | in-Some+in_ok-count-in-Some+in_ok-push-in-Some w ↦
          subst P (sym w.functions-is) (functions_more is_table decls k d w.in-Some.function.now w.in-Some.function.now c.loop-k.functions.items w.push.new.self.items w.in_ok-count-in-Some.count
          within read w.in-Some.ensures w.in_ok-push-in-Some.ensures.items c.loop-k.invariant refl w.in_ok-count-in-Some.ensures)
      | in-None w ↦ subst P (sym w.functions-is) (functions_same is_table decls k d c.loop-k.functions.items within read w.in-None.ensures c.loop-k.invariant)
    ]
