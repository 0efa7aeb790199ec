-- The report of a network at an end of a run, as one list of bytes.
use Rattle.std.specs.Prelude.{ℕ, ◌+◌, Bool, if◌then◌else◌, List, [], ◌∷◌, ◌++◌, Vec, length, take, drop, codes, Option, Some, None, slice_get}
use Rattle.std.specs.Global.{Global}
use Rattle.std.specs.Fmt.{decimal}
use Rattle.xt_core.specs.declared.ending.Trap.{Trap}
use Rattle.xt_core.specs.declared.ending.Trap.TheVariants as traps
use Rattle.net_ref.specs.net_parts.declared.parts.Net.{Net}
use Rattle.net_ref.specs.net_parts.declared.parts.NetCore.{NetCore}
use Rattle.net_ref.specs.net_parts.declared.parts.NetCollector.{NetCollector}
use Rattle.net_ref.specs.net_parts.declared.parts.NetQueue.{NetQueue}
use Rattle.net_ref.specs.net_parts.declared.parts.FromEnd.{FromEnd}
use Rattle.net_ref.specs.net_parts.declared.parts.FromEnd.TheVariants as from
use Rattle.net_ref.specs.net_parts.declared.ends.CoreEnd.{CoreEnd}
use Rattle.net_ref.specs.net_parts.declared.ends.QueueEnd.{QueueEnd}
use Rattle.net_ref.specs.net_parts.declared.ends.RunEnd.{RunEnd}
use Rattle.net_ref.specs.net_parts.declared.outcome.Outcome.{Outcome}
use Rattle.net_ref.specs.net_parts.declared.outcome.Outcome.TheVariants as outcomes
use Rattle.net_ref.specs.net_parts.Ends.{output_bits}
use Rattle.net_ref.specs.Workers.{collector_queue}
use Rattle.core_text.specs.Digits.{hex_digits, digit_count}
use Rattle.core_text.specs.Core.{core_lines}
use Rattle.core_text.specs.Memory.{memory_lines}
use Rattle.tie_report.specs.declared.standing.Standing.{Standing}
use Rattle.tie_report.specs.declared.standing.Standing.TheVariants as standings
use Rattle.tie_report.specs.Standing.{standing, word}

-- ---- how a processor stands, in words

abbrev pub trap_word : Trap → List ℕ
trap_word traps.Illegal = codes "Illegal"
trap_word traps.Unaligned = codes "Unaligned"
trap_word traps.BadAddress = codes "BadAddress"
trap_word traps.StoreText = codes "StoreText"

-- a processor waits at a queue that is so, with two counts of it
abbrev pub blocked_words : Option NetQueue → List ℕ → ℕ → ℕ → List ℕ
blocked_words None so pushed other = []
blocked_words (Some queue) so pushed other = codes "blocked " ++ queue.name ++ so ++ decimal pushed ++ codes " " ++ decimal other

-- the items pushed, and those consumed
abbrev pub empty_words : Option NetQueue → Option QueueEnd → List ℕ
empty_words queue None = []
empty_words queue (Some e) = blocked_words queue (codes " empty ") e.pushed e.consumed

-- the items pushed, and those taken, which are the ones consumed or held
abbrev pub full_words : Option NetQueue → Option QueueEnd → List ℕ
full_words queue None = []
full_words queue (Some e) = blocked_words queue (codes " full ") e.pushed (e.consumed + e.held)

-- where a run was stepped, a processor that waits is one that runs
abbrev pub standing_words : Net → RunEnd → Bool → ℕ → Standing → List ℕ
standing_words net end stepped budget standings.Halted = codes "halted"
standing_words net end stepped budget (standings.Trapped trap) = codes "trapped " ++ trap_word trap
standing_words net end stepped budget standings.Spent = codes "spent budget " ++ decimal budget
standing_words net end stepped budget (standings.Empty q) =
    if stepped then codes "running" else empty_words (slice_get net.queues.items q) (slice_get end.queues.items q)
standing_words net end stepped budget (standings.Full q) =
    if stepped then codes "running" else full_words (slice_get net.queues.items q) (slice_get end.queues.items q)
standing_words net end stepped budget standings.Running = codes "running"

-- ---- processors

-- the part of a memory that is shown: where it begins, and how long it is
abbrev pub dump_lines : Option (ℕ × ℕ) → List ℕ → List ℕ
dump_lines None memory = []
dump_lines (Some d) memory = memory_lines d.0 (take d.1 (drop d.0 memory))

abbrev pub core_text : Net → RunEnd → Bool → ℕ → NetCore → CoreEnd → List ℕ
core_text net end stepped c here e =
    core_lines here.name here.kit.desc (standing_words net end stepped here.budget (standing net end c here e)) e.retired e.arch
    ++ dump_lines here.dump e.arch.memory

-- those of all processors, numbered from here on
abbrev pub cores_text : Net → RunEnd → Bool → ℕ → List NetCore → List CoreEnd → List ℕ
cores_text net end stepped c (here ∷ heres) (e ∷ es) = core_text net end stepped c here e ++ cores_text net end stepped (c + 1) heres es
cores_text net end stepped c _ _ = []

-- ---- queues

-- how far a source runs ahead isn't fixed, so of its queue the items consumed are told alone
abbrev pub counts_words : FromEnd → QueueEnd → List ℕ
counts_words (from.Core core out) e = codes " pushed " ++ decimal e.pushed ++ codes " consumed " ++ decimal e.consumed
counts_words (from.Source source) e = codes " consumed " ++ decimal e.consumed

abbrev pub stepped_words : QueueEnd → List ℕ
stepped_words e = codes " pushed " ++ decimal e.pushed ++ codes " consumed " ++ decimal e.consumed ++ codes " held " ++ decimal e.held

abbrev pub queue_line : Bool → NetQueue → QueueEnd → List ℕ
queue_line stepped queue e = codes "queue " ++ queue.name ++ (if stepped then stepped_words e else counts_words queue.from e) ++ codes "\n"

abbrev pub queue_lines : Bool → List NetQueue → List QueueEnd → List ℕ
queue_lines stepped (queue ∷ queues) (e ∷ es) = queue_line stepped queue e ++ queue_lines stepped queues es
queue_lines stepped _ _ = []

-- ---- collectors

-- how many bits an end has at which a queue is written
abbrev pub from_bits : Net → FromEnd → ℕ
from_bits net (from.Core core out) = output_bits (slice_get net.cores.items core) out
from_bits net (from.Source source) = 0

abbrev pub queue_bits : Net → Option NetQueue → ℕ
queue_bits net None = 0
queue_bits net (Some queue) = from_bits net queue.from

-- the width of the values that a collector collects
abbrev pub collector_bits : Net → ℕ → ℕ
collector_bits net k = queue_bits net (slice_get net.queues.items (collector_queue net k))

-- values of so many digits
abbrev pub value_lines : ℕ → List ℕ → List ℕ
value_lines count [] = []
value_lines count (value ∷ values) = (codes "  " ++ hex_digits count value ++ codes "\n") ++ value_lines count values

abbrev pub collector_text : Net → ℕ → NetCollector → List ℕ → List ℕ
collector_text net k collector values =
    codes "collector " ++ collector.name ++ codes " items " ++ decimal (length values) ++ codes "\n" ++ value_lines (digit_count (collector_bits net k)) values

-- those of all collectors, numbered from here on
abbrev pub collectors_text : Net → ℕ → List NetCollector → List (Vec ℕ Global) → List ℕ
collectors_text net k (collector ∷ collectors) (values ∷ rest) = collector_text net k collector values.items ++ collectors_text net (k + 1) collectors rest
collectors_text net k _ _ = []

-- ---- the whole

abbrev pub outcome_word : Outcome → List ℕ
outcome_word outcomes.Halted = codes "halted"
outcome_word outcomes.Trapped = codes "trapped"
outcome_word outcomes.Unfinished = codes "unfinished"
outcome_word outcomes.Blocked = codes "blocked"

abbrev pub end_line : Bool → Outcome → List ℕ
end_line stepped outcome = codes "end " ++ (if stepped then codes "stepped" else outcome_word outcome) ++ codes "\n"

abbrev pub report_text : Net → RunEnd → Bool → List ℕ
report_text net end stepped =
    cores_text net end stepped 0 net.cores.items end.cores.items ++ queue_lines stepped net.queues.items end.queues.items
    ++ collectors_text net 0 net.collectors.items end.collected.items ++ end_line stepped (word net end)
