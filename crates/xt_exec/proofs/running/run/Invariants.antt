use Rattle.std.proofs.Common.{◌≡◌}
use Rattle.xt_core.specs.declared.ending.Ending.TheVariants.{Running}
use Rattle.xt_exec.specs.Made.{IsFor}
use Rattle.xt_exec.specs.Run.{Retired}
use Rattle.xt_exec.proofs.running.run.Given as goal

-- it runs, and the bundles so far have retired
abbrev pub invariant-loop-retired : goal.invariant-loop-retired
invariant-loop-retired l = record {
  running : l.arch.ending ≡ Running;
  retired : Retired l.kit l.retired l.fn.arch l.arch;
  made : IsFor l.kit l.arch;
}
