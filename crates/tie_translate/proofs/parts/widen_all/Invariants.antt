use Rattle.std.proofs.Common.{◌≡◌, ◌+◌, ◌*◌, length, map}
use Rattle.std.specs.List.{flat_map, sum_by}
use Rattle.tie_expr.specs.Tree as typed
use Rattle.tie_translate.proofs.Arms.{widen_each}
use Rattle.tie_translate.proofs.parts.widen_all.Given as goal

abbrev pub invariant-loop-part : goal.invariant-loop-part
invariant-loop-part l = record {
  means : map typed.meaning l.wide.items ≡ widen_each l.width (map typed.meaning l.yielded);
  inputs : flat_map typed.inputs l.wide.items ≡ flat_map typed.inputs l.yielded;
  size : sum_by typed.size l.wide.items ≡ sum_by typed.size l.yielded + 4 * length l.yielded;
}
