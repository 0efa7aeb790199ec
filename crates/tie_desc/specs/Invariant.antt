-- What every description keeps.
use Rattle.std.specs.Prelude.{◌≡◌, ℕ, ◌+◌, ◌-◌, ◌*◌, ◌^◌, ◌<◌, ◌≤◌, Bool, true, false, not, ◌&&◌, ◌||◌, ◌==◌, List, [], ◌∷◌, length, map, All, IsTrue, Option, Some, None, slice_get, FitsSigned, pos, ◌+ℤ◌, codes, sum_by, count_by, if◌then◌else◌}
use Rattle.std.specs.List.{list_all, list_any, flat_map}
use Rattle.std.specs.Option.{option_map}
use Rattle.std.specs.Int.{w32}
use Rattle.std.specs.Str.{bytes_eq}
use Rattle.std.specs.Char.{is_ascii_alphabetic}
use Rattle.tie_expr.specs.Tree.{inputs, meaning}
use Rattle.tie_expr.specs.Substitute.{IsOver}
use Rattle.tie_desc.specs.Names.{all_differ}
use Rattle.tie_desc.specs.Mnemonics.{is_core_mnemonic}
use Rattle.tie_desc.specs.Description.{Description, declared_names}
use Rattle.tie_desc.specs.Operands.{operands, read_operands, written_operands, widths}
use Rattle.tie_desc.specs.Slots.{links_of, same_code, slot_bits}
use Rattle.tie_desc.specs.declared.declarations.StateDecl.{StateDecl}
use Rattle.tie_desc.specs.declared.declarations.FileDecl.{FileDecl}
use Rattle.tie_desc.specs.declared.declarations.RangeDecl.{RangeDecl}
use Rattle.tie_desc.specs.declared.declarations.QueueDecl.{QueueDecl}
use Rattle.tie_desc.specs.declared.declarations.Kind.{Kind}
use Rattle.tie_desc.specs.declared.declarations.Kind.TheVariants as kind
use Rattle.tie_desc.specs.declared.declarations.Operand.{Operand}
use Rattle.tie_desc.specs.declared.declarations.OpDecl.{OpDecl}
use Rattle.tie_desc.specs.declared.formats.Code.{Code}
use Rattle.tie_desc.specs.declared.formats.Code.TheVariants as code
use Rattle.tie_desc.specs.declared.formats.SlotDecl.{SlotDecl}
use Rattle.tie_desc.specs.declared.formats.FormatDecl.{FormatDecl}

-- ---- names

-- the name of the core's registers
abbrev pub is_core_file : List ℕ → Bool
is_core_file name = bytes_eq (codes "AR") name

-- a short name has letters alone, and isn't that of the core's registers
abbrev pub is_short : List ℕ → Bool
is_short name = list_all is_ascii_alphabetic name && not (bytes_eq (codes "a") name)

abbrev pub slot_names : Description → List (List ℕ)
slot_names d = flat_map (λ f. map (λ s. s.name) f.slots) d.formats

pub record NamesDiffer (d : Description) : Type 0 where
  pub declared : IsTrue (all_differ bytes_eq (declared_names d))
  pub core_file : IsTrue (list_all (λ n. not (is_core_file n)) (declared_names d))
  pub mnemonics : IsTrue (list_all (λ o. not (is_core_mnemonic o.name)) d.ops)
  pub shorts : IsTrue (list_all (λ f. is_short f.short) d.files)
  pub shorts_differ : IsTrue (all_differ bytes_eq (map (λ f. f.short) d.files))
  pub slots : IsTrue (all_differ bytes_eq (slot_names d))

-- ---- counts

-- how many of these formats have a width
abbrev pub formats_of_width : ℕ → List FormatDecl → ℕ
formats_of_width w formats = count_by (λ f. f.width == w) formats

pub record CountsWithin (d : Description) : Type 0 where
  pub states : length d.states ≤ 32
  pub files : length d.files ≤ 8
  pub ranges : length d.ranges ≤ 32
  pub ops : length d.ops ≤ 32
  pub short_formats : formats_of_width 32 d.formats ≤ 16
  pub long_formats : formats_of_width 64 d.formats ≤ 16
  pub ins : length d.ins ≤ 8
  pub outs : length d.outs ≤ 8

-- ---- single declarations

-- 1 to 128 bits
pub record IsWidth (w : ℕ) : Type 0 where
  pub some : 0 < w
  pub most : w ≤ 128

pub record IsState (s : StateDecl) : Type 0 where
  pub width : IsWidth s.width
  pub reset : s.reset < 2 ^ s.width

pub record IsFile (f : FileDecl) : Type 0 where
  pub width : IsWidth f.width
  pub some : 0 < f.depth
  pub most : f.depth ≤ 16

-- 1 to 16 values, of which the first and the last are 32-bit integers
pub record IsRange (r : RangeDecl) : Type 0 where
  pub some : 0 < r.count
  pub most : r.count ≤ 16
  pub step : 0 < r.step
  pub first : FitsSigned w32 r.low
  pub last : FitsSigned w32 (r.low +ℤ pos (r.step * (r.count - 1)))

abbrev pub IsQueue : QueueDecl → Type 0
IsQueue q = IsWidth q.width

-- ---- operations

-- the declaration that an operand speaks of is there
abbrev pub HasPlace : Description → Kind → Type 0
HasPlace d kind.Ar = Unit {0}
HasPlace d (kind.File f) = f < length d.files
HasPlace d (kind.Range r) = r < length d.ranges
HasPlace d (kind.State s) = s < length d.states
HasPlace d (kind.InQueue q) = q < length d.ins
HasPlace d (kind.OutQueue q) = q < length d.outs

-- immediates and input queues are only read, output queues only written, all else is read, written or both
abbrev pub is_direction : Kind → Bool → Bool → Bool
is_direction (kind.Range r) reads writes = reads && not writes
is_direction (kind.InQueue q) reads writes = reads && not writes
is_direction (kind.OutQueue q) reads writes = not reads && writes
is_direction _ reads writes = reads || writes

-- an argument is a register or an immediate, a link a state or a queue
abbrev pub is_argument : Kind → Bool
is_argument kind.Ar = true
is_argument (kind.File f) = true
is_argument (kind.Range r) = true
is_argument _ = false

-- the name of the state or queue that a link speaks of
abbrev pub link_name : Description → Kind → Option (List ℕ)
link_name d (kind.State s) = option_map (λ x. x.name) (slice_get d.states s)
link_name d (kind.InQueue q) = option_map (λ x. x.name) (slice_get d.ins q)
link_name d (kind.OutQueue q) = option_map (λ x. x.name) (slice_get d.outs q)
link_name d _ = None

pub record IsArgument (d : Description) (p : Operand) : Type 0 where
  pub kind : IsTrue (is_argument p.kind)
  pub place : HasPlace d p.kind
  pub direction : IsTrue (is_direction p.kind p.reads p.writes)
  pub own_name : IsTrue (not (list_any (bytes_eq p.name) (declared_names d)))

pub record IsLink (d : Description) (p : Operand) : Type 0 where
  pub kind : IsTrue (not (is_argument p.kind))
  pub place : HasPlace d p.kind
  pub direction : IsTrue (is_direction p.kind p.reads p.writes)
  pub named : link_name d p.kind ≡ Some p.name

-- where a read operand is used late, every written one is defined late
abbrev pub stages_agree : OpDecl → Bool
stages_agree o = not (list_any (λ p. p.use_m) (read_operands o)) || list_all (λ p. p.def_m) (written_operands o)

pub record IsOperation (d : Description) (o : OpDecl) : Type 0 where
  pub few_args : length o.args ≤ 3
  pub few_links : length o.links ≤ 8
  pub args : All (IsArgument d) o.args
  pub links : All (IsLink d) o.links
  pub names : IsTrue (all_differ bytes_eq (map (λ p. p.name) (operands o)))
  pub stages : IsTrue (stages_agree o)
  -- one result per written operand, of its width, over the read operands at theirs
  pub results : map (λ e. (meaning e).width) o.results ≡ widths d (written_operands o)
  pub over : All (λ e. IsOver (widths d (read_operands o)) (inputs e)) o.results

-- ---- formats

abbrev pub IsCode : Description → Code → Type 0
IsCode d (code.Core c) = Unit {0}
IsCode d (code.Op i) = i < length d.ops

pub record IsSlot (d : Description) (s : SlotDecl) : Type 0 where
  pub some : 0 < length s.codes
  pub few : length s.codes ≤ 16
  pub codes : All (IsCode d) s.codes
  pub once : IsTrue (all_differ same_code s.codes)

-- the states that a code writes, and the queues of one direction that it uses
abbrev pub written_state : Operand → List ℕ
written_state p = if p.writes then state_place p.kind else []
  where
    state_place : Kind → List ℕ
    state_place (kind.State s) = s ∷ []
    state_place _ = []

abbrev pub popped_queue : Operand → List ℕ
popped_queue p = in_place p.kind
  where
    in_place : Kind → List ℕ
    in_place (kind.InQueue q) = q ∷ []
    in_place _ = []

abbrev pub pushed_queue : Operand → List ℕ
pushed_queue p = out_place p.kind
  where
    out_place : Kind → List ℕ
    out_place (kind.OutQueue q) = q ∷ []
    out_place _ = []

-- what the operations of a slot claim by their links
abbrev pub claims : Description → (Operand → List ℕ) → SlotDecl → List ℕ
claims d claim s = flat_map (λ c. flat_map claim (links_of d c)) s.codes

-- no number stands in both lists
abbrev pub apart : List ℕ → List ℕ → Bool
apart xs ys = list_all (λ x. not (list_any (λ y. x == y) ys)) xs

-- no two slots claim the same
abbrev pub slots_apart : Description → (Operand → List ℕ) → List SlotDecl → Bool
slots_apart d claim [] = true
slots_apart d claim (s ∷ ss) = list_all (λ t. apart (claims d claim s) (claims d claim t)) ss && slots_apart d claim ss

pub record IsFormat (d : Description) (f : FormatDecl) : Type 0 where
  pub width : IsTrue (f.width == 32 || f.width == 64)
  pub some : 0 < length f.slots
  pub few : length f.slots ≤ 4
  pub slots : All (IsSlot d) f.slots
  pub room : sum_by (slot_bits d) f.slots + 8 ≤ f.width
  pub states_apart : IsTrue (slots_apart d written_state f.slots)
  pub ins_apart : IsTrue (slots_apart d popped_queue f.slots)
  pub outs_apart : IsTrue (slots_apart d pushed_queue f.slots)

-- the number of a format is how many of its width stand before it
abbrev pub numbered : List FormatDecl → List FormatDecl → Bool
numbered before [] = true
numbered before (f ∷ fs) = f.number == formats_of_width f.width before && numbered (f ∷ before) fs

-- ---- the whole

pub record IsDescription (d : Description) : Type 0 where
  pub names : NamesDiffer d
  pub counts : CountsWithin d
  pub states : All IsState d.states
  pub files : All IsFile d.files
  pub ranges : All IsRange d.ranges
  pub ops : All (IsOperation d) d.ops
  pub formats : All (IsFormat d) d.formats
  pub numbers : IsTrue (numbered [] d.formats)
  pub ins : All IsQueue d.ins
  pub outs : All IsQueue d.outs
