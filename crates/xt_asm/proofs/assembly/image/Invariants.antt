use Rattle.std.proofs.Common.{◌≡◌, ◌++◌, drop, ℕ, List}
use Rattle.std.specs.HashMap.{get_by_text}
use Rattle.asm_rules.specs.Labels.{find_in}
use Rattle.xt_asm.specs.Bytes.{image_in}
use Rattle.xt_asm.specs.Spelled.{HaveBytes}
use Rattle.xt_asm.proofs.assembly.image.Given as goal

abbrev pub invariant-loop-i : goal.invariant-loop-i
invariant-loop-i l =
    let find = find_in l.addresses (λ (q : List ℕ). get_by_text l.labels q) in
    record {
      spelled : HaveBytes l.desc find (drop l.i l.addresses) (drop l.i l.lines);
      bytes : l.out.items ++ image_in l.desc find (drop l.i l.addresses) (drop l.i l.lines) ≡ image_in l.desc find l.addresses l.lines;
    }
