-- How the processors of a network stand at an end, and how the run ended.
use Rattle.std.specs.Prelude.{ℕ, ◌+◌, ◌==◌, ◌&&◌, Bool, true, false, if◌then◌else◌, map, find, Option, Some, None, slice_get}
use Rattle.std.specs.List.{list_all, list_any, zip}
use Rattle.xt_core.specs.declared.ending.Ending.{Ending}
use Rattle.xt_core.specs.declared.ending.Ending.TheVariants as endings
use Rattle.xt_state.specs.State.{State}
use Rattle.net_ref.specs.net_parts.declared.parts.Net.{Net}
use Rattle.net_ref.specs.net_parts.declared.parts.NetCore.{NetCore}
use Rattle.net_ref.specs.net_parts.declared.ends.CoreEnd.{CoreEnd}
use Rattle.net_ref.specs.net_parts.declared.ends.QueueEnd.{QueueEnd}
use Rattle.net_ref.specs.net_parts.declared.ends.RunEnd.{RunEnd}
use Rattle.net_ref.specs.net_parts.declared.outcome.Outcome.{Outcome}
use Rattle.net_ref.specs.net_parts.declared.outcome.Outcome.TheVariants as outcomes
use Rattle.net_ref.specs.Processor.{is_running, next_pops, next_pushes}
use Rattle.net_ref.specs.Workers.{input_queue, output_queue, capacity_of}
use Rattle.tie_report.specs.declared.standing.Standing.{Standing}
use Rattle.tie_report.specs.declared.standing.Standing.TheVariants.{Halted, Trapped, Spent, Empty, Full, Running}

-- ---- queues

-- as many items were consumed as were pushed
abbrev pub is_empty : Option QueueEnd → Bool
is_empty None = false
is_empty (Some e) = e.pushed == e.consumed

-- as many more were pushed than taken, consumed or held, as there is room for
abbrev pub is_full : ℕ → Option QueueEnd → Bool
is_full capacity None = false
is_full capacity (Some e) = e.pushed == e.consumed + e.held + capacity

-- of the input queues that the next bundle pops, in declared order, the first that is empty
abbrev pub first_empty : Net → RunEnd → ℕ → NetCore → State → Option ℕ
first_empty net end c here s = find (λ q. is_empty (slice_get end.queues.items q)) (map (input_queue net c) (next_pops here.kit s))

-- of the output queues that it pushes, in declared order, the first that is full
abbrev pub first_full : Net → RunEnd → ℕ → NetCore → State → Option ℕ
first_full net end c here s =
    find (λ q. is_full (capacity_of (slice_get net.queues.items q)) (slice_get end.queues.items q)) (map (output_queue net c) (next_pushes here.kit s))

-- ---- processors

abbrev pub is_halted : Ending → Bool
is_halted endings.Running = false
is_halted endings.Halted = true
is_halted (endings.Trapped trap) = false

abbrev pub is_trapped : Ending → Bool
is_trapped endings.Running = false
is_trapped endings.Halted = false
is_trapped (endings.Trapped trap) = true

-- it still runs, and has used up its budget
abbrev pub is_spent : NetCore → CoreEnd → Bool
is_spent here e = is_running e.arch.ending && e.retired == here.budget

-- at an empty queue, else at a full one; by number in the network
abbrev pub waiting : Option ℕ → Option ℕ → Standing
waiting (Some q) full = Empty q
waiting None (Some q) = Full q
waiting None None = Running

abbrev pub standing_by : Ending → Bool → Standing → Standing
standing_by endings.Halted spent otherwise = Halted
standing_by (endings.Trapped trap) spent otherwise = Trapped trap
standing_by endings.Running spent otherwise = if spent then Spent else otherwise

-- how processor c stands
abbrev pub standing : Net → RunEnd → ℕ → NetCore → CoreEnd → Standing
standing net end c here e =
    standing_by e.arch.ending (e.retired == here.budget) (waiting (first_empty net end c here e.arch) (first_full net end c here e.arch))

-- ---- the run

-- a processor has trapped; else one has used up its budget; else all have halted; else one waits
abbrev pub word : Net → RunEnd → Outcome
word net end =
    if list_any (λ (e : CoreEnd). is_trapped e.arch.ending) end.cores.items then outcomes.Trapped else (
    if list_any (λ (x : NetCore × CoreEnd). is_spent x.0 x.1) (zip net.cores.items end.cores.items) then outcomes.Unfinished else (
    if list_all (λ (e : CoreEnd). is_halted e.arch.ending) end.cores.items then outcomes.Halted else outcomes.Blocked))
