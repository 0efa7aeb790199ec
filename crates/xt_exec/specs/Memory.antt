-- Accesses to memory: what is loaded and stored, and their traps.
use Rattle.std.specs.Prelude.{ℕ, ◌+◌, ◌-◌, ◌*◌, ◌/◌, ◌%◌, ◌^◌, zero, suc, Bool, true, false, ◌==◌, nat_lt, not, if◌then◌else◌, List, [], ◌∷◌, ◌++◌, length, take, drop, slice_set, Option, Some, None}
use Rattle.xt_isa.specs.Numbers.{signed_value}
use Rattle.xt_core.specs.declared.ending.Trap.{Trap}
use Rattle.xt_core.specs.declared.ending.Trap.TheVariants.{Unaligned, BadAddress, StoreText}
use Rattle.xt_core.specs.declared.action.Access.{Access}
use Rattle.xt_core.specs.declared.action.Access.TheVariants.{Nothing, Load, Store}
use Rattle.xt_core.specs.Words.{word32}
use Rattle.xt_state.specs.State.{State}

-- bytes as a number, the lowest first
abbrev pub little_endian : List ℕ → ℕ
little_endian [] = 0
little_endian (b ∷ bs) = b + 256 * little_endian bs

-- the low bytes of a number, the lowest first
unfoldable pub low_bytes : ℕ → ℕ → List ℕ
low_bytes zero value = []
low_bytes (suc n) value = value % 256 ∷ low_bytes n (value / 256)

-- so many bytes from an address on
abbrev pub bytes_at : State → ℕ → ℕ → List ℕ
bytes_at s address bytes = take bytes (drop address s.memory)

-- a loaded number, filled with its sign or with zeros
abbrev pub filled : ℕ → Bool → ℕ → ℕ
filled bytes signed value = if signed then word32 (signed_value (2 ^ (8 * bytes - 1)) value) else value

abbrev pub loaded_value : State → ℕ → ℕ → Bool → ℕ
loaded_value s address bytes signed = filled bytes signed (little_endian (bytes_at s address bytes))

-- the memory with bytes written from an address on
abbrev pub overwritten : List ℕ → ℕ → List ℕ → List ℕ
overwritten memory address bytes = take address memory ++ bytes ++ drop (address + length bytes) memory

-- the trap of an access, the first that holds
abbrev pub place_trap : State → ℕ → ℕ → Bool → Option Trap
place_trap s address bytes writes =
    if not (address % bytes == 0) then Some Unaligned else (
    if nat_lt (length s.memory) (address + bytes) then Some BadAddress else (
    if writes then (if nat_lt address s.text_end then Some StoreText else None) else None))

abbrev pub access_trap : State → Access → Option Trap
access_trap s Nothing = None
access_trap s (Load address bytes signed to) = place_trap s address bytes false
access_trap s (Store address bytes value) = place_trap s address bytes true

-- the state behind an access that doesn't trap; a load reads the memory of the state before
abbrev pub with_access : State → Access → State → State
with_access old Nothing s = s
with_access old (Load address bytes signed to) s = record s { registers = slice_set s.registers to (loaded_value old address bytes signed) }
with_access old (Store address bytes value) s = record s { memory = overwritten s.memory address (low_bytes bytes value) }
