use Rattle.std.proofs.Common.{◌≡◌, All, List, ℕ, map, subst, sym, arith}
use Rattle.std.proofs.lemmas.Grind.{common_steps}
use Rattle.xt_exec.specs.First.{file_shape}
use Rattle.xt_exec.proofs.StartLemmas.{IsShape, files_fine}
use Rattle.xt_exec.proofs.starting.file_shapes.Goals as goal

pub returns-clause-widths : goal.returns-clause-widths
returns-clause-widths c =
    let P : List (ℕ × ℕ) → Type 0 = λ xs. All IsShape xs in
    let same : c.loop-file.shapes.items ≡ map file_shape c.args.files.now = grind (arith, common_steps) in
    subst P (sym same) (files_fine c.args.files.now c.requires)
