use Rattle.std.proofs.Common.{◌≡◌, drop}
use Rattle.std.specs.List.{find}
use Rattle.tie_rules.specs.Schedules.{schedules}
use Rattle.tie_describe.proofs.stages.schedule_among.Given as goal

abbrev pub invariant-loop-decl : goal.invariant-loop-decl
invariant-loop-decl l = find (schedules l.name.bytes) (drop l.decl-index l.decls) ≡ find (schedules l.name.bytes) l.decls
