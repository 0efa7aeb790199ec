use Rattle.std.proofs.Common.{◌≡◌, length}
use Rattle.net_desc.specs.Workers.{cores_with}
use Rattle.net_desc.proofs.workers.cores_of.Given as goal

abbrev pub invariant-loop-kit : goal.invariant-loop-kit
invariant-loop-kit l = record {
  made : l.made.items ≡ cores_with l.cores l.yielded;
  count : length l.made.items ≡ length l.yielded;
}
