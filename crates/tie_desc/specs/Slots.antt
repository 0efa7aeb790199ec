-- What a slot lists, and how many bits it takes.
use Rattle.std.specs.Prelude.{ℕ, ◌+◌, ◌*◌, ◌^◌, Bool, true, false, ◌&&◌, ◌==◌, nat_le, List, [], ◌∷◌, length, map, max, Option, Some, None, slice_get, if◌then◌else◌}
use Rattle.std.specs.List.{position_or_len}
use Rattle.tie_desc.specs.Description.{Description}
use Rattle.tie_desc.specs.declared.declarations.Kind.TheVariants as kind
use Rattle.tie_desc.specs.declared.declarations.Operand.{Operand}
use Rattle.tie_desc.specs.declared.declarations.Access.{Access}
use Rattle.tie_desc.specs.declared.declarations.OpDecl.{OpDecl}
use Rattle.tie_desc.specs.declared.formats.SlotCore.{SlotCore}
use Rattle.tie_desc.specs.declared.formats.SlotCore.TheVariants as core
use Rattle.tie_desc.specs.declared.formats.Code.{Code}
use Rattle.tie_desc.specs.declared.formats.Code.TheVariants as code
use Rattle.tie_desc.specs.declared.formats.SlotDecl.{SlotDecl}
use Rattle.tie_desc.specs.declared.formats.FormatDecl.{FormatDecl}

-- an operand without its name
abbrev pub access : Operand → Access
access p = record { kind = p.kind; reads = p.reads; writes = p.writes; use_m = p.use_m; def_m = p.def_m }

-- a register of the core that is written, late or not, and one that is read
abbrev pub core_written : Bool → Access
core_written late = record { kind = kind.Ar; reads = false; writes = true; use_m = false; def_m = late }

abbrev pub core_read : Access
core_read = record { kind = kind.Ar; reads = true; writes = false; use_m = false; def_m = false }

-- fields r, s, t: r is written, s and t are read; a product is defined late
abbrev pub core_args : SlotCore → List Access
core_args core.Nop = []
core_args core.Mull = core_written true ∷ core_read ∷ core_read ∷ []
core_args _ = core_written false ∷ core_read ∷ core_read ∷ []

abbrev pub op_args : Option OpDecl → List Access
op_args None = []
op_args (Some o) = map access o.args

-- the arguments of a code
abbrev pub args_of : Description → Code → List Access
args_of d (code.Core c) = core_args c
args_of d (code.Op i) = op_args (slice_get d.ops i)

abbrev pub op_links : Option OpDecl → List Operand
op_links None = []
op_links (Some o) = o.links

-- the states and queues of a code
abbrev pub links_of : Description → Code → List Operand
links_of d (code.Core c) = []
links_of d (code.Op i) = op_links (slice_get d.ops i)

-- the number of a core name, in the order of their declaration
abbrev pub core_number : SlotCore → ℕ
core_number core.Add = 0
core_number core.Addx2 = 1
core_number core.Addx4 = 2
core_number core.Addx8 = 3
core_number core.Sub = 4
core_number core.Subx2 = 5
core_number core.Subx4 = 6
core_number core.Subx8 = 7
core_number core.And = 8
core_number core.Or = 9
core_number core.Xor = 10
core_number core.Min = 11
core_number core.Max = 12
core_number core.Minu = 13
core_number core.Maxu = 14
core_number core.Mull = 15
core_number core.Nop = 16

abbrev pub same_code : Code → Code → Bool
same_code (code.Core a) (code.Core b) = core_number a == core_number b
same_code (code.Op a) (code.Op b) = a == b
same_code _ _ = false

-- the place of a code in a list, the list's length where it isn't there
abbrev pub place_of : Code → List Code → ℕ
place_of c codes = position_or_len (λ x. same_code x c) codes

-- the longest list of arguments
unfoldable pub longest : Description → List Code → ℕ
longest d [] = 0
longest d (c ∷ cs) = max (length (args_of d c)) (longest d cs)

-- the least w with 2 ^ w at least n, for n of at most 16
unfoldable pub code_bits : ℕ → ℕ
code_bits n = if nat_le n 1 then 0 else (if nat_le n 2 then 1 else (if nat_le n 4 then 2 else (if nat_le n 8 then 3 else 4)))

-- how many numbers of codes these bits hold
unfoldable pub code_space : ℕ → ℕ
code_space n = 2 ^ code_bits n

-- the bits of a slot: the number of a code in its list, and four bits for each field
abbrev pub slot_bits : Description → SlotDecl → ℕ
slot_bits d s = code_bits (length s.codes) + 4 * longest d s.codes

-- how many values the slots have together
abbrev pub slots_space : Description → List SlotDecl → ℕ
slots_space d [] = 1
slots_space d (s ∷ ss) = code_space (length s.codes) * 16 ^ longest d s.codes * slots_space d ss

abbrev pub is_format : ℕ → ℕ → FormatDecl → Bool
is_format width number f = f.width == width && f.number == number

-- the place of the first format of this width and number, their count where there is none
abbrev pub format_place : ℕ → ℕ → List FormatDecl → ℕ
format_place width number formats = position_or_len (is_format width number) formats
