use Rattle.std.proofs.Common.{◌≡◌, drop, slice_get}
use Rattle.kahn_law.specs.Machines.{sent_to}
use Rattle.kahn_law.proofs.plain.Place.item.Given as goal

abbrev pub invariant-loop-s : goal.invariant-loop-s
invariant-loop-s l = slice_get (sent_to l.queue l.self.sent.items) l.index ≡ slice_get (sent_to l.queue (drop l.s-index l.self.sent.items)) l.left
