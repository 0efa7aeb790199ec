-- The limits of the quantities of a network, and the plans that keep them.
use Rattle.std.specs.Prelude.{◌≡◌, ◌⊎◌, ℕ, ◌+◌, ◌%◌, ◌≤◌, ◌==◌, nat_le, ◌&&◌, ◌||◌, Bool, length, All}
use Rattle.net_parts.specs.Network.{IsDump}
use Rattle.net_toml.specs.declared.plan.NetPlan.{NetPlan}
use Rattle.net_toml.specs.declared.plan.PlanCore.{PlanCore}

-- ---- as tests of the walk

abbrev pub between : ℕ → ℕ → ℕ → Bool
between low high n = nat_le low n && nat_le n high

-- in cycles of a processor: 0, which is never, or 16 to 65,536
abbrev pub is_kill : ℕ → Bool
is_kill n = n == 0 || between 16 65536 n

-- in bytes
abbrev pub is_memory : ℕ → Bool
is_memory n = between 64 1048576 n && n % 4 == 0

-- in bundles
abbrev pub is_budget : ℕ → Bool
is_budget n = between 1 1073741824 n

-- of a collector and of a queue, in items
abbrev pub is_limit : ℕ → Bool
is_limit n = between 1 262144 n

abbrev pub is_capacity : ℕ → Bool
is_capacity n = between 1 4096 n

-- ---- as facts of a plan

abbrev pub Between : ℕ → ℕ → ℕ → Type 0
Between low high n = (low ≤ n) × (n ≤ high)

abbrev pub IsKill : ℕ → Type 0
IsKill n = (n ≡ 0) ⊎ Between 16 65536 n

abbrev pub IsMemory : ℕ → Type 0
IsMemory n = (64 ≤ n) × (n ≤ 1048576) × (n % 4 ≡ 0)

pub record IsCorePlan (c : PlanCore) : Type 0 where
  pub memory : IsMemory c.memory
  pub budget : Between 1 1073741824 c.budget
  pub dump : IsDump c.memory c.dump

-- so many processors, sources, collectors and queues
pub record CountsWithin (c s k q : ℕ) : Type 0 where
  pub some : 1 ≤ c
  pub cores : c ≤ 16
  pub workers : c + s + k ≤ 32
  pub queues : q ≤ 64

-- what every plan keeps that was read from a file
pub record IsPlan (p : NetPlan) : Type 0 where
  pub kill : IsKill p.kill
  pub counts : CountsWithin (length p.cores) (length p.sources) (length p.collectors) (length p.queues)
  pub cores : All IsCorePlan p.cores
  pub collectors : All (λ c. Between 1 262144 c.limit) p.collectors
  pub queues : All (λ q. Between 1 4096 q.capacity) p.queues
