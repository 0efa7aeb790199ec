-- The listing of some bytes.
use Rattle.std.specs.Prelude.{ℕ, ◌+◌, List, [], ◌∷◌, ◌++◌, map, drop, codes, Option, Some, None, slice_get}
use Rattle.std.specs.Fmt.{decimal}
use Rattle.xt_isa.specs.declared.instruction.Inst.{Inst}
use Rattle.xt_mnemonics.specs.declared.mnemonic.Mnemonic.{Mnemonic}
use Rattle.xt_mnemonics.specs.declared.mnemonic.Mnemonic.TheVariants as mnemonic
use Rattle.xt_mnemonics.specs.Names.{name_of}
use Rattle.xt_mnemonics.specs.Shapes.{shapes}
use Rattle.xt_mnemonics.specs.Build.{mnemonic_of, values_of}
use Rattle.tie_desc.specs.Description.{Description}
use Rattle.tie_desc.specs.Slots.{args_of}
use Rattle.tie_desc.specs.Fetching.{IsFetched, BeginsNone}
use Rattle.tie_desc.specs.declared.declarations.OpDecl.{OpDecl}
use Rattle.tie_desc.specs.declared.formats.SlotCore.{SlotCore}
use Rattle.tie_desc.specs.declared.formats.SlotCore.TheVariants as core
use Rattle.tie_desc.specs.declared.formats.Code.{Code}
use Rattle.tie_desc.specs.declared.formats.Code.TheVariants as code
use Rattle.tie_desc.specs.declared.formats.FormatDecl.{FormatDecl}
use Rattle.tie_desc.specs.declared.bundle.Part.{Part}
use Rattle.tie_desc.specs.declared.bundle.Bundle.{Bundle}
use Rattle.tie_desc.specs.declared.bundle.Bundle.TheVariants as bundle
use Rattle.tie_desc.specs.declared.bundle.Fetched.{Fetched}
use Rattle.xt_dis.specs.Words.{joined, operands}
use Rattle.xt_dis.specs.Operands.{core_operands, arguments}

-- ---- names

-- the mnemonic of a core operation that slots may list
abbrev pub slot_mnemonic : SlotCore → Mnemonic
slot_mnemonic core.Add = mnemonic.Add
slot_mnemonic core.Addx2 = mnemonic.Addx2
slot_mnemonic core.Addx4 = mnemonic.Addx4
slot_mnemonic core.Addx8 = mnemonic.Addx8
slot_mnemonic core.Sub = mnemonic.Sub
slot_mnemonic core.Subx2 = mnemonic.Subx2
slot_mnemonic core.Subx4 = mnemonic.Subx4
slot_mnemonic core.Subx8 = mnemonic.Subx8
slot_mnemonic core.And = mnemonic.And
slot_mnemonic core.Or = mnemonic.Or
slot_mnemonic core.Xor = mnemonic.Xor
slot_mnemonic core.Min = mnemonic.Min
slot_mnemonic core.Max = mnemonic.Max
slot_mnemonic core.Minu = mnemonic.Minu
slot_mnemonic core.Maxu = mnemonic.Maxu
slot_mnemonic core.Mull = mnemonic.Mull
slot_mnemonic core.Nop = mnemonic.Nop

abbrev pub op_name : Option OpDecl → List ℕ
op_name None = []
op_name (Some op) = op.name

abbrev pub format_name : Option FormatDecl → List ℕ
format_name None = []
format_name (Some format) = format.name

abbrev pub code_name : Description → Code → List ℕ
code_name d (code.Core c) = name_of (slot_mnemonic c)
code_name d (code.Op op) = op_name (slice_get d.ops op)

-- ---- bundles

-- a core instruction at an address
abbrev pub core_text : ℕ → Inst → List ℕ
core_text at i = name_of (mnemonic_of i) ++ operands (core_operands at (shapes (mnemonic_of i)) (values_of i))

-- an operation, alone or in a slot
abbrev pub part_text : Description → Part → List ℕ
part_text d p = code_name d p.code ++ operands (arguments d (args_of d p.code) p.fields)

-- a format: its parts in braces, with semicolons
abbrev pub wide_text : Description → Option FormatDecl → List Part → List ℕ
wide_text d format parts = format_name format ++ joined (codes " { ") (codes " ; ") (map (part_text d) parts) ++ codes " }"

-- the bundle at an address
abbrev pub bundle_text : Description → ℕ → Bundle → List ℕ
bundle_text d at (bundle.Core i) = core_text at i
bundle_text d at (bundle.One p) = part_text d p
bundle_text d at (bundle.Wide f ps) = wide_text d (slice_get d.formats f) ps.items

-- a byte that begins no bundle
abbrev pub byte_text : ℕ → List ℕ
byte_text b = codes ".byte " ++ decimal b

-- ---- lines

abbrev pub line : List ℕ → List ℕ
line text = text ++ 10 ∷ []

-- The listing of bytes that stand at an address: a line for each bundle, one behind the other, and one for a byte that
-- begins none.
pub data Lists (d : Description) : ℕ → List ℕ → List ℕ → Type 0 where
  end : (at : ℕ) → Lists d at [] []
  whole : (at : ℕ) (bytes : List ℕ) (f : Fetched) (others : List ℕ) → IsFetched d bytes f → Lists d (at + f.length) (drop f.length bytes) others
      → Lists d at bytes (line (bundle_text d at f.bundle) ++ others)
  single : (at b : ℕ) (bytes : List ℕ) (others : List ℕ) → BeginsNone d (b ∷ bytes) → Lists d (at + 1) bytes others
      → Lists d at (b ∷ bytes) (line (byte_text b) ++ others)
