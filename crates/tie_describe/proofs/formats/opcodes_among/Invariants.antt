use Rattle.std.proofs.Common.{◌≡◌, drop}
use Rattle.std.specs.List.{find}
use Rattle.tie_rules.specs.Declarations.{gives_opcodes}
use Rattle.tie_describe.proofs.formats.opcodes_among.Given as goal

abbrev pub invariant-loop-decl : goal.invariant-loop-decl
invariant-loop-decl l = find (gives_opcodes l.slot.bytes) (drop l.decl-index l.decls) ≡ find (gives_opcodes l.slot.bytes) l.decls
