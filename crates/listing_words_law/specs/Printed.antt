-- What a listing prints, as items and operations.
use Rattle.std.specs.Prelude.{ℕ, ℤ, pos, List, [], ◌∷◌, ◌++◌, codes, slice_get}
use Rattle.std.specs.Fmt.{signed_decimal}
use Rattle.xt_isa.specs.declared.instruction.Inst.{Inst}
use Rattle.xt_mnemonics.specs.declared.shape.Shape.{Shape}
use Rattle.xt_mnemonics.specs.declared.shape.Shape.TheVariants as shape
use Rattle.xt_mnemonics.specs.Names.{name_of}
use Rattle.xt_mnemonics.specs.Shapes.{shapes}
use Rattle.xt_mnemonics.specs.Build.{mnemonic_of, values_of}
use Rattle.tie_desc.specs.Description.{Description}
use Rattle.tie_desc.specs.Operands.{range_value}
use Rattle.tie_desc.specs.Slots.{args_of}
use Rattle.tie_desc.specs.declared.declarations.Access.{Access}
use Rattle.tie_desc.specs.declared.declarations.Kind.{Kind}
use Rattle.tie_desc.specs.declared.declarations.Kind.TheVariants as kind
use Rattle.tie_desc.specs.declared.bundle.Part.{Part}
use Rattle.xt_dis.specs.Words.{register, address}
use Rattle.xt_dis.specs.Operands.{target, short_of}
use Rattle.xt_dis.specs.Listing.{code_name}
use Rattle.listing_words_law.specs.Items.{Item, word, number, Said}

abbrev pub decimal_item : ℤ → Item
decimal_item z = number z (signed_decimal z)

abbrev pub core_item : ℕ → Shape → ℤ → Item
core_item at shape.Register z = word (codes "a" ++ signed_decimal z)
core_item at (shape.Target way) z = number (pos (target way at z)) (address (target way at z))
core_item at (shape.Between low high c) z = decimal_item z
core_item at (shape.Signed half c) z = decimal_item z
core_item at shape.Constant z = decimal_item z
core_item at shape.UnsignedConstant z = decimal_item z

abbrev pub core_items : ℕ → List Shape → List ℤ → List Item
core_items at (s ∷ ss) (z ∷ zs) = core_item at s z ∷ core_items at ss zs
core_items at _ _ = []

abbrev pub core_said : ℕ → Inst → Said
core_said at i = record { name = name_of (mnemonic_of i); items = core_items at (shapes (mnemonic_of i)) (values_of i) }

abbrev pub arg_item : Description → Kind → ℕ → Item
arg_item d kind.Ar n = word (register (codes "a") n)
arg_item d (kind.File f) n = word (register (short_of (slice_get d.files f)) n)
arg_item d (kind.Range r) n = decimal_item (range_value (slice_get d.ranges r) n)
arg_item d (kind.State s) n = word []
arg_item d (kind.InQueue q) n = word []
arg_item d (kind.OutQueue q) n = word []

abbrev pub arg_items : Description → List Access → List ℕ → List Item
arg_items d (a ∷ as') (n ∷ ns) = arg_item d a.kind n ∷ arg_items d as' ns
arg_items d _ _ = []

abbrev pub part_said : Description → Part → Said
part_said d p = record { name = code_name d p.code; items = arg_items d (args_of d p.code) p.fields }
