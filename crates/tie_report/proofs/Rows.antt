-- The definitions on worked rows.
use Rattle.std.proofs.Common.{◌≡◌, ℕ, true, false, Some, None, codes, [], ◌∷◌, refl}
use Rattle.std.specs.Fmt as printed
use Rattle.xt_core.specs.declared.ending.Ending.TheVariants as endings
use Rattle.xt_core.specs.declared.ending.Trap.TheVariants as traps
use Rattle.net_ref.specs.net_parts.declared.parts.Net.{Net}
use Rattle.net_ref.specs.net_parts.declared.parts.NetQueue.{NetQueue}
use Rattle.net_ref.specs.net_parts.declared.parts.FromEnd.TheVariants as from
use Rattle.net_ref.specs.net_parts.declared.parts.ToEnd.TheVariants as to
use Rattle.net_ref.specs.net_parts.declared.ends.QueueEnd.{QueueEnd}
use Rattle.net_ref.specs.net_parts.declared.ends.RunEnd.{RunEnd}
use Rattle.net_ref.specs.net_parts.declared.outcome.Outcome.TheVariants as outcomes
use Rattle.core_text.specs.Digits.{hex_digits, digit_count}
use Rattle.tie_report.specs.declared.standing.Standing.TheVariants as standings
use Rattle.tie_report.specs.Standing.{is_empty, is_full, standing_by, waiting}
use Rattle.tie_report.specs.Report.{collector_text, dump_lines, empty_words, end_line, full_words, queue_line, standing_words, value_lines}

-- a queue between two processors with room for one item, and one of a source
abbrev between : NetQueue
between = record { name = codes "Q"; capacity = 1; from = from.Core 0 0; to = to.Core 1 0 }

abbrev sourced : NetQueue
sourced = record { name = codes "S"; capacity = 4096; from = from.Source 0; to = to.Core 1 0 }

abbrev counts : ℕ → ℕ → ℕ → QueueEnd
counts pushed consumed held = record { pushed = pushed; consumed = consumed; held = held }

-- ---- standing

empty_queue : is_empty (Some (counts 3 3 0)) ≡ true
empty_queue = refl

queue_with_items : is_empty (Some (counts 3 1 2)) ≡ false
queue_with_items = refl

full_queue : is_full 1 (Some (counts 1 0 0)) ≡ true
full_queue = refl

-- what a reader holds was taken, and makes room
full_beside_held : is_full 2 (Some (counts 7 3 2)) ≡ true
full_beside_held = refl

held_made_room : is_full 2 (Some (counts 7 3 3)) ≡ false
held_made_room = refl

item_before_room : waiting (Some 2) (Some 1) ≡ standings.Empty 2
item_before_room = refl

room_alone : waiting None (Some 1) ≡ standings.Full 1
room_alone = refl

spent_before_waiting : standing_by endings.Running true (standings.Empty 2) ≡ standings.Spent
spent_before_waiting = refl

halted_at_the_budget : standing_by endings.Halted true (standings.Empty 2) ≡ standings.Halted
halted_at_the_budget = refl

-- ---- how a processor stands, in words

waits_for_room : full_words (Some between) (Some (counts 1 0 0)) ≡ codes "blocked Q full 1 0"
unfolding printed.digits
waits_for_room = refl

-- taken are 3 consumed items and 2 held ones
waits_beside_held : full_words (Some between) (Some (counts 6 3 2)) ≡ codes "blocked Q full 6 5"
unfolding printed.digits
waits_beside_held = refl

waits_for_item : empty_words (Some sourced) (Some (counts 12 12 0)) ≡ codes "blocked S empty 12 12"
unfolding printed.digits
waits_for_item = refl

spent : (net : Net) (end : RunEnd) → standing_words net end false 20 standings.Spent ≡ codes "spent budget 20"
unfolding printed.digits
spent net end = refl

trapped : (net : Net) (end : RunEnd) → standing_words net end true 20 (standings.Trapped traps.BadAddress) ≡ codes "trapped BadAddress"
trapped net end = refl

-- in a run that was stopped by a schedule
stepped_waits : (net : Net) (end : RunEnd) → standing_words net end true 20 (standings.Empty 3) ≡ codes "running"
stepped_waits net end = refl

-- ---- lines

-- 3 bytes from address 2 on
dump : dump_lines (Some (2, 3)) (0 ∷ 17 ∷ 34 ∷ 171 ∷ 255 ∷ 85 ∷ []) ≡ codes "  mem 00000002 22 AB FF\n"
unfolding hex_digits
dump = refl

no_dump : dump_lines None (0 ∷ 17 ∷ []) ≡ []
no_dump = refl

queue_between : queue_line false between (counts 1 0 0) ≡ codes "queue Q pushed 1 consumed 0\n"
unfolding printed.digits
queue_between = refl

queue_of_source : queue_line false sourced (counts 5000 4096 0) ≡ codes "queue S consumed 4096\n"
unfolding printed.digits
queue_of_source = refl

queue_stepped : queue_line true sourced (counts 6 3 2) ≡ codes "queue S pushed 6 consumed 3 held 2\n"
unfolding printed.digits
queue_stepped = refl

-- of 32 bits, of 9 and of 5
word_line : value_lines (digit_count 32) (12 ∷ []) ≡ codes "  0000000C\n"
unfolding hex_digits
word_line = refl

narrow_lines : value_lines (digit_count 9) (256 ∷ 0 ∷ []) ≡ codes "  100\n  000\n"
unfolding hex_digits
narrow_lines = refl

narrowest_line : value_lines (digit_count 5) (31 ∷ []) ≡ codes "  1F\n"
unfolding hex_digits
narrowest_line = refl

collected_nothing : (net : Net) → collector_text net 2 (record { name = codes "OUT"; limit = 8 }) [] ≡ codes "collector OUT items 0\n"
unfolding printed.digits
collected_nothing net = refl

blocked : end_line false outcomes.Blocked ≡ codes "end blocked\n"
blocked = refl

unfinished : end_line false outcomes.Unfinished ≡ codes "end unfinished\n"
unfinished = refl

stepped : end_line true outcomes.Trapped ≡ codes "end stepped\n"
stepped = refl
