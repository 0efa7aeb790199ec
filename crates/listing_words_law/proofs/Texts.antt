-- Printed lines are the texts of their pieces.
use Rattle.std.proofs.Common.{◌≡◌, ℕ, ℤ, List, [], ◌∷◌, ◌++◌, refl, ap, sym, ◌∙◌, map, append_assoc}
use Rattle.std.specs.Prelude.{codes, Some}
use Rattle.xt_isa.specs.declared.instruction.Inst.{Inst}
use Rattle.xt_mnemonics.specs.declared.shape.Shape.{Shape}
use Rattle.xt_mnemonics.specs.declared.shape.Shape.TheVariants as shape
use Rattle.xt_mnemonics.specs.Names.{name_of}
use Rattle.xt_mnemonics.specs.Shapes.{shapes}
use Rattle.xt_mnemonics.specs.Build.{mnemonic_of, values_of}
use Rattle.tie_desc.specs.Description.{Description}
use Rattle.tie_desc.specs.Slots.{args_of}
use Rattle.tie_desc.specs.declared.declarations.Access.{Access}
use Rattle.tie_desc.specs.declared.declarations.Kind.{Kind}
use Rattle.tie_desc.specs.declared.declarations.Kind.TheVariants as kind
use Rattle.tie_desc.specs.declared.formats.FormatDecl.{FormatDecl}
use Rattle.tie_desc.specs.declared.bundle.Part.{Part}
use Rattle.xt_dis.specs.Words.{joined}
use Rattle.xt_dis.specs.Words as words
use Rattle.xt_dis.specs.Operands.{operand, core_operands, argument, arguments}
use Rattle.xt_dis.specs.Listing.{core_text, part_text, wide_text, code_name}
use Rattle.listing_words_law.specs.Chunks.{text_of}
use Rattle.listing_words_law.specs.Items.{Item, bytes_of, more_chunks, item_chunks, said_chunks, more_said_chunks, closing, wide_chunks}
use Rattle.listing_words_law.specs.Printed.{core_item, core_items, core_said, arg_item, arg_items, part_said}
use Rattle.listing_words_law.proofs.Scanned.{text_of-append}

-- ---- operands

more_text : (is : List Item) → joined (codes ", ") (codes ", ") (map bytes_of is) ≡ text_of (more_chunks is)
more_text [] = refl
more_text (i ∷ is) = ap (λ z. 44 ∷ 32 ∷ (bytes_of i ++ z)) (more_text is)

items_text : (is : List Item) → words.operands (map bytes_of is) ≡ text_of (item_chunks is)
items_text [] = refl
items_text (i ∷ is) = ap (λ z. 32 ∷ (bytes_of i ++ z)) (more_text is)

-- ---- core instructions

core_bytes : (at : ℕ) (s : Shape) (z : ℤ) → operand at s z ≡ bytes_of (core_item at s z)
core_bytes at shape.Register z = refl
core_bytes at (shape.Target way) z = refl
core_bytes at (shape.Between low high c) z = refl
core_bytes at (shape.Signed half c) z = refl
core_bytes at shape.Constant z = refl
core_bytes at shape.UnsignedConstant z = refl

all_core_bytes : (at : ℕ) (ss : List Shape) (zs : List ℤ) → core_operands at ss zs ≡ map bytes_of (core_items at ss zs)
all_core_bytes at [] zs = refl
all_core_bytes at (s ∷ ss) [] = refl
all_core_bytes at (s ∷ ss) (z ∷ zs) = ap (λ w. w ∷ core_operands at ss zs) (core_bytes at s z) ∙ ap (λ ws. bytes_of (core_item at s z) ∷ ws) (all_core_bytes at ss zs)

pub core_line_text : (at : ℕ) (i : Inst) → core_text at i ≡ text_of (said_chunks (core_said at i))
core_line_text at i =
    let m = mnemonic_of i in
    ap (λ ws. name_of m ++ words.operands ws) (all_core_bytes at (shapes m) (values_of i)) ∙ ap (λ z. name_of m ++ z) (items_text (core_items at (shapes m) (values_of i)))

-- ---- operations

arg_bytes : (d : Description) (k : Kind) (n : ℕ) → argument d k n ≡ bytes_of (arg_item d k n)
arg_bytes d kind.Ar n = refl
arg_bytes d (kind.File f) n = refl
arg_bytes d (kind.Range r) n = refl
arg_bytes d (kind.State s) n = refl
arg_bytes d (kind.InQueue q) n = refl
arg_bytes d (kind.OutQueue q) n = refl

all_arg_bytes : (d : Description) (as' : List Access) (ns : List ℕ) → arguments d as' ns ≡ map bytes_of (arg_items d as' ns)
all_arg_bytes d [] ns = refl
all_arg_bytes d (a ∷ as') [] = refl
all_arg_bytes d (a ∷ as') (n ∷ ns) =
    ap (λ w. w ∷ arguments d as' ns) (arg_bytes d a.kind n) ∙ ap (λ ws. bytes_of (arg_item d a.kind n) ∷ ws) (all_arg_bytes d as' ns)

pub part_line_text : (d : Description) (p : Part) → part_text d p ≡ text_of (said_chunks (part_said d p))
part_line_text d p =
    ap (λ ws. code_name d p.code ++ words.operands ws) (all_arg_bytes d (args_of d p.code) p.fields)
    ∙ ap (λ z. code_name d p.code ++ z) (items_text (arg_items d (args_of d p.code) p.fields))

-- ---- formats

more_parts_text : (d : Description) (ps : List Part) → joined (codes " ; ") (codes " ; ") (map (part_text d) ps) ≡ text_of (more_said_chunks (map (part_said d) ps))
more_parts_text d [] = refl
more_parts_text d (p ∷ ps) =
    let others = joined (codes " ; ") (codes " ; ") (map (part_text d) ps) in
    ap (λ z. 32 ∷ 59 ∷ 32 ∷ (z ++ others)) (part_line_text d p)
    ∙ ap (λ z. 32 ∷ 59 ∷ 32 ∷ (text_of (said_chunks (part_said d p)) ++ z)) (more_parts_text d ps)
    ∙ ap (λ z. 32 ∷ 59 ∷ 32 ∷ z) (sym (text_of-append (said_chunks (part_said d p)) (more_said_chunks (map (part_said d) ps))))

pub wide_line_text : (d : Description) (f : FormatDecl) (p : Part) (ps : List Part)
    → wide_text d (Some f) (p ∷ ps) ≡ text_of (wide_chunks f.name (part_said d p) (map (part_said d) ps))
wide_line_text d f p ps =
    let first = said_chunks (part_said d p) in
    let more = more_said_chunks (map (part_said d) ps) in
    let others = joined (codes " ; ") (codes " ; ") (map (part_text d) ps) in
    ap (λ z. (f.name ++ (32 ∷ 123 ∷ 32 ∷ (z ++ others))) ++ (32 ∷ 125 ∷ [])) (part_line_text d p)
    ∙ ap (λ z. (f.name ++ (32 ∷ 123 ∷ 32 ∷ (text_of first ++ z))) ++ (32 ∷ 125 ∷ [])) (more_parts_text d ps)
    ∙ append_assoc f.name (32 ∷ 123 ∷ 32 ∷ (text_of first ++ text_of more)) (32 ∷ 125 ∷ [])
    ∙ ap (λ z. f.name ++ (32 ∷ 123 ∷ 32 ∷ z)) (append_assoc (text_of first) (text_of more) (32 ∷ 125 ∷ []))
    ∙ ap (λ z. f.name ++ (32 ∷ 123 ∷ 32 ∷ (text_of first ++ z))) (sym (text_of-append more closing))
    ∙ ap (λ z. f.name ++ (32 ∷ 123 ∷ 32 ∷ z)) (sym (text_of-append first (more ++ closing)))
