-- The walk over a network file.
use Rattle.std.specs.Prelude.{ℕ, ◌+◌, ◌-◌, ◌==◌, nat_le, if◌then◌else◌, List, [], ◌∷◌, ◌++◌, length, map, codes, Option, Some, None, Result, Ok, Err}
use Rattle.std.specs.Str.{is_utf8}
use Rattle.toml.specs.Data.{Data, Members, get_member}
use Rattle.toml.specs.Parse.{parse_document}
use Rattle.net_toml.specs.declared.refusal.NetRule.TheVariants.{Toml, Key, Version, TooMany}
use Rattle.net_toml.specs.declared.plan.PlanCore.{PlanCore}
use Rattle.net_toml.specs.declared.plan.PlanSource.{PlanSource}
use Rattle.net_parts.specs.declared.parts.NetCollector.{NetCollector}
use Rattle.net_toml.specs.declared.plan.PlanQueue.{PlanQueue}
use Rattle.net_toml.specs.declared.plan.NetPlan.{NetPlan}
use Rattle.net_toml.specs.Broken.{Broken, ◌>>=◌, check}
use Rattle.net_toml.specs.Values.{integer_at, natural_or, passing, tables_at}
use Rattle.net_toml.specs.Limits.{is_kill}
use Rattle.net_toml.specs.Names.{keys_in, no_other}
use Rattle.net_toml.specs.Tables.{core_at, source_at, collector_at, queue_at}

-- each in order, behind those before it
abbrev pub each : {A B : Type 0} → (List A → B → Result A Broken) → List A → List B → Result (List A) Broken
each one before [] = Ok before
each one before (x ∷ xs) = do
  next ← one before x
  each one (before ++ next ∷ []) xs

abbrev pub core_names : List PlanCore → List (List ℕ)
core_names = map (λ (c : PlanCore). c.name)

abbrev pub source_names : List PlanSource → List (List ℕ)
source_names = map (λ (s : PlanSource). s.name)

abbrev pub collector_names : List NetCollector → List (List ℕ)
collector_names = map (λ (c : NetCollector). c.name)

abbrev pub queue_names : List PlanQueue → List (List ℕ)
queue_names = map (λ (q : PlanQueue). q.name)

abbrev pub core_of : List PlanCore → Members → Result PlanCore Broken
core_of before = core_at (core_names before) (length before)

abbrev pub source_of : List (List ℕ) → List PlanSource → Members → Result PlanSource Broken
source_of cores before = source_at (cores ++ source_names before) (length before)

abbrev pub collector_of : List (List ℕ) → List NetCollector → Members → Result NetCollector Broken
collector_of others before = collector_at (others ++ collector_names before) (length before)

abbrev pub queue_of : List PlanQueue → Members → Result PlanQueue Broken
queue_of before = queue_at (queue_names before) (length before)

-- so many tables at most, which is judged before any of them
abbrev pub few_tables : List ℕ → ℕ → Option Data → Result (List Members) Broken
few_tables key most found = do
  tables ← tables_at key found
  few ← check TooMany key (nat_le (length tables) most)
  Ok tables

-- one processor at least
unfoldable pub cores_of : Option Data → Result (List PlanCore) Broken
cores_of found = do
  tables ← few_tables (codes "core") 16 found
  some ← check Key (codes "core") (nat_le 1 (length tables))
  each core_of [] tables

unfoldable pub sources_of : List PlanCore → Option Data → Result (List PlanSource) Broken
sources_of cores found = do
  tables ← few_tables (codes "source") (32 - length cores) found
  each (source_of (core_names cores)) [] tables

unfoldable pub collectors_of : List PlanCore → List PlanSource → Option Data → Result (List NetCollector) Broken
collectors_of cores sources found = do
  tables ← few_tables (codes "collector") (32 - (length cores + length sources)) found
  each (collector_of (core_names cores ++ source_names sources)) [] tables

unfoldable pub queues_of : Option Data → Result (List PlanQueue) Broken
queues_of found = do
  tables ← few_tables (codes "queue") 64 found
  each queue_of [] tables

unfoldable pub version_of : Option Data → Result ℕ Broken
version_of found = do
  version ← integer_at (codes "version") found
  passing Version (λ n. n == 1) (codes "version") version

-- the keys of a file
unfoldable pub plan_of : Members → Result NetPlan Broken
plan_of t = do
  version ← version_of (get_member (codes "version") t)
  kill ← natural_or 0 is_kill (codes "kill") (get_member (codes "kill") t)
  cores ← cores_of (get_member (codes "core") t)
  sources ← sources_of cores (get_member (codes "source") t)
  collectors ← collectors_of cores sources (get_member (codes "collector") t)
  queues ← queues_of (get_member (codes "queue") t)
  rest ← no_other (codes "version" ∷ codes "kill" ∷ codes "core" ∷ codes "source" ∷ codes "collector" ∷ codes "queue" ∷ []) [] (keys_in t)
  Ok (record { kill = kill; cores = cores; sources = sources; collectors = collectors; queues = queues })

abbrev pub read_table : Option Members → Result NetPlan Broken
read_table None = Err (Toml, codes "text")
read_table (Some t) = plan_of t

-- the plan that the bytes of a file describe, or the first rule that is broken and its key
unfoldable pub plan_in : List ℕ → Result NetPlan Broken
plan_in bytes = if is_utf8 bytes then read_table (parse_document bytes) else Err (Toml, codes "text")
