-- Core instructions use no queue.
use Rattle.std.proofs.Common.{◌≡◌, ℕ, Option, Some, None, List, ◌++◌, refl}
use Rattle.xt_isa.specs.declared.instruction.Inst.{Inst}
use Rattle.xt_core.specs.declared.action.Action.{Action}
use Rattle.tie_desc.specs.Description.{Description}
use Rattle.tie_desc.specs.declared.bundle.Bundle.TheVariants as bundle
use Rattle.xt_operate.specs.Operate.{action_values, register_write, sar_write}
use Rattle.xt_exec.specs.Queues.{HasItems, all_sent, no_heads}

pub core_items : (d : Description) (i : Inst) (heads : List (Option ℕ)) → HasItems d (bundle.Core i) heads
core_items d i heads q lacks = let no = lacks.1 in cc

sends : (w : Option (ℕ × ℕ)) (n : Option ℕ) → all_sent (register_write w ++ sar_write n) ≡ no_heads
sends None None = refl
sends None (Some n) = refl
sends (Some w) None = refl
sends (Some w) (Some n) = refl

pub core_sends : (a : Action) → all_sent (action_values a) ≡ no_heads
core_sends a = sends a.write a.sar
