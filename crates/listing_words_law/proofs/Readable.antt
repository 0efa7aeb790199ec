-- What a listing prints is read as it was meant.
use Rattle.std.proofs.Common.{◌≡◌, ℕ, ◌-◌, ◌*◌, ◌^◌, ◌<◌, ◌≤◌, Bool, true, false, ℤ, pos, negsuc, List, [], ◌∷◌, ◌++◌, length, Option, Some, None, refl, ap, ◌∙◌, inl, inr, arith}
use Rattle.std.specs.Prelude.{◌&&◌, ◌||◌, ◌==◌, nat_le, nat_lt, slice_get, codes, ◌+ℤ◌, FitsSigned}
use Rattle.std.specs.Int.{w32}
use Rattle.std.specs.List.{list_all, list_any}
use Rattle.std.specs.Ordering.{int_eq}
use Rattle.std.specs.Char.{is_ascii_digit}
use Rattle.std.specs.Fmt.{decimal, signed_decimal}
use Rattle.std.proofs.Math.Nat.{mul-le-mul_left}
use Rattle.std.proofs.lemmas.Fmt.{decimal_nonempty}
use Rattle.std.proofs.lemmas.Int.{ints}
use Rattle.std.proofs.lemmas.Bool.Decides.{nat_tests}
use Rattle.xt_isa.specs.Constants.{constants, unsigned_constants}
use Rattle.xt_isa.specs.declared.instruction.Inst.{Inst}
use Rattle.xt_mnemonics.specs.declared.mnemonic.Mnemonic.{Mnemonic}
use Rattle.xt_mnemonics.specs.declared.mnemonic.Mnemonic.TheVariants as mnemonic
use Rattle.xt_mnemonics.specs.declared.shape.Shape.{Shape}
use Rattle.xt_mnemonics.specs.declared.shape.Shape.TheVariants as shape
use Rattle.xt_mnemonics.specs.Names.{name_of}
use Rattle.xt_mnemonics.specs.Shapes.{shapes, step, is_multiple, is_between, is_signed, is_constant, is_unsigned_constant, fits_shape, EachFits, AllFit}
use Rattle.xt_mnemonics.specs.Build.{mnemonic_of, values_of}
use Rattle.tie_desc.specs.Names.{is_word, is_word_byte}
use Rattle.tie_desc.specs.Description.{Description}
use Rattle.tie_desc.specs.Operands.{limit, file_depth, range_count, range_value}
use Rattle.tie_desc.specs.Slots.{args_of}
use Rattle.tie_desc.specs.Spelling.{fields_fit, part_fits}
use Rattle.tie_desc.specs.Invariant.{IsDescription, IsRange, IsCode}
use Rattle.tie_desc.specs.declared.declarations.Access.{Access}
use Rattle.tie_desc.specs.declared.declarations.FileDecl.{FileDecl}
use Rattle.tie_desc.specs.declared.declarations.RangeDecl.{RangeDecl}
use Rattle.tie_desc.specs.declared.declarations.Kind.{Kind}
use Rattle.tie_desc.specs.declared.declarations.Kind.TheVariants as kind
use Rattle.tie_desc.specs.declared.formats.Code.{Code}
use Rattle.tie_desc.specs.declared.formats.Code.TheVariants as code
use Rattle.tie_desc.specs.declared.bundle.Part.{Part}
use Rattle.tie_flix.proofs.Decided.{get_some}
use Rattle.tie_desc.proofs.Lists.{both_left, both_right, All-slice_get}
use Rattle.tie_desc.proofs.SlotLemmas.{limit-le}
use Rattle.asm_lines.specs.declared.token.TokenKind.TheVariants as kinds
use Rattle.xt_dis.specs.Words.{register, address}
use Rattle.xt_dis.specs.Operands.{target, short_of}
use Rattle.xt_dis.specs.Listing.{slot_mnemonic, code_name, op_name}
use Rattle.listing_words_law.specs.HasWords.{HasWords}
use Rattle.listing_words_law.specs.Ends.{Ends}
use Rattle.listing_words_law.specs.Chunks.{text_of, Reads, AllRead}
use Rattle.listing_words_law.specs.Items.{Item, word, number, IsRead, AreRead, more_chunks, item_chunks, Said, said_chunks, IsSaid, AreSaid, more_said_chunks, closing, wide_chunks}
use Rattle.listing_words_law.specs.Printed.{decimal_item, core_item, core_items, core_said, arg_item, arg_items, part_said}
use Rattle.listing_words_law.proofs.Scanned.{AllRead-append}
use Rattle.listing_words_law.proofs.Named.{name_word, all_get}
use Rattle.listing_words_law.proofs.Fronts.{IsLettered, word_lettered, lettered_some, word_reads, all_digits, decimal_front, negative_front, address_front}

-- ---- pieces

ends_more : (is : List Item) (rest : List ℕ) → Ends rest → Ends (text_of (more_chunks is) ++ rest)
ends_more [] rest e = e
ends_more (i ∷ is) rest e = inr (inl refl)

more_reads : (is : List Item) (rest : List ℕ) → AreRead is → Ends rest → AllRead (more_chunks is) rest
more_reads [] rest r e = tt
more_reads (i ∷ is) rest r e =
    (omega arith, inl refl, (r.0.some, r.0.reads (text_of (more_chunks is) ++ rest) (ends_more is rest e), more_reads is rest r.1 e))

ends_items : (is : List Item) (rest : List ℕ) → Ends rest → Ends (text_of (item_chunks is) ++ rest)
ends_items [] rest e = e
ends_items (i ∷ is) rest e = inl refl

items_read : (is : List Item) (rest : List ℕ) → AreRead is → Ends rest → AllRead (item_chunks is) rest
items_read [] rest r e = tt
items_read (i ∷ is) rest r e = (r.0.some, r.0.reads (text_of (more_chunks is) ++ rest) (ends_more is rest e), more_reads is rest r.1 e)

pub said_reads : (p : Said) (rest : List ℕ) → IsSaid p → Ends rest → AllRead (said_chunks p) rest
said_reads p rest is e = (is.some, is.reads (text_of (item_chunks p.items) ++ rest) (ends_items p.items rest e), items_read p.items rest is.items e)

ends_said : (ps : List Said) (rest : List ℕ) → Ends rest → Ends (text_of (more_said_chunks ps) ++ rest)
ends_said [] rest e = e
ends_said (p ∷ ps) rest e = inl refl

more_said_reads : (ps : List Said) (rest : List ℕ) → AreSaid ps → Ends rest → AllRead (more_said_chunks ps) rest
more_said_reads [] rest r e = tt
more_said_reads (p ∷ ps) rest r e = (
  omega arith,
  inl refl,
  AllRead-append (said_chunks p) (more_said_chunks ps) rest (said_reads p (text_of (more_said_chunks ps) ++ rest) r.0 (ends_said ps rest e)) (more_said_reads ps rest r.1 e),
)

closing_reads : (rest : List ℕ) → AllRead closing rest
closing_reads rest = (omega arith, inl refl, tt)

ends_closing : (ps : List Said) (rest : List ℕ) → Ends (text_of (more_said_chunks ps ++ closing) ++ rest)
ends_closing [] rest = inl refl
ends_closing (p ∷ ps) rest = inl refl

pub wide_reads : (name : List ℕ) (p : Said) (ps : List Said) (rest : List ℕ) → IsLettered name → IsSaid p → AreSaid ps → AllRead (wide_chunks name p ps) rest
wide_reads name p ps rest is r rs =
    let last : AllRead (more_said_chunks ps ++ closing) rest =
    AllRead-append (more_said_chunks ps) closing rest (more_said_reads ps (text_of closing ++ rest) rs (inl refl)) (closing_reads rest) in (
      lettered_some name is,
      word_reads name _ is (inl refl),
      (
        omega arith,
        inl refl,
        AllRead-append (said_chunks p) (more_said_chunks ps ++ closing) rest (said_reads p (text_of (more_said_chunks ps ++ closing) ++ rest) r (ends_closing ps rest)) last,
      ),
    )

-- ---- names and registers

word_read : (w : List ℕ) → IsLettered w → IsRead (word w)
word_read w is = record { some = lettered_some w is; reads = λ rest e. word_reads w rest is e }

all_append : (p : ℕ → Bool) (a b : List ℕ) → list_all p a ≡ true → list_all p b ≡ true → list_all p (a ++ b) ≡ true
all_append p [] b f g = g
all_append p (x ∷ a) b f g =
    ap (λ c. c && list_all p (a ++ b)) (both_left (p x) (list_all p a) f) ∙ all_append p a b (both_right (p x) (list_all p a) f) g

digit_byte : (b : ℕ) → is_ascii_digit b ≡ true → is_word_byte b ≡ true
digit_byte b h = grind (arith, nat_tests)

digits_bytes : (ds : List ℕ) → list_all is_ascii_digit ds ≡ true → list_all is_word_byte ds ≡ true
digits_bytes [] h = refl
digits_bytes (x ∷ ds) h =
    ap (λ c. c && list_all is_word_byte ds) (digit_byte x (both_left (is_ascii_digit x) (list_all is_ascii_digit ds) h)) ∙ digits_bytes ds (both_right (is_ascii_digit x) (list_all is_ascii_digit ds) h)

register_lettered : (short : List ℕ) (n : ℕ) → is_word short ≡ true → n < 2 ^ 64 → IsLettered (register short n)
register_lettered [] n h b = absurd cc
register_lettered (x ∷ short) n h b =
    let is = word_lettered (x ∷ short) h in
    record { letter = is.letter; all = all_append is_word_byte (x ∷ short) (decimal n) is.all (digits_bytes (decimal n) (all_digits n b)) }

-- ---- numbers

-- of 32 bits, signed or not
abbrev pub IsSmall : ℤ → Type 0
IsSmall (pos n) = n < 2 ^ 32
IsSmall (negsuc n) = n < 2 ^ 31

small_reads : (z : ℤ) → IsSmall z → (rest : List ℕ) → Ends rest → Reads (kinds.Number z) (signed_decimal z) rest
small_reads (pos n) h rest e = inl (decimal_front n rest h e)
small_reads (negsuc n) h rest e = inl (negative_front n rest h e)

small_some : (z : ℤ) → IsSmall z → 0 < length (signed_decimal z)
small_some (pos n) h = decimal_nonempty n (omega arith)
small_some (negsuc n) h = omega arith

pub small_read : (z : ℤ) → IsSmall z → IsRead (decimal_item z)
small_read z h = record { some = small_some z h; reads = small_reads z h }

-- ---- operands of core instructions

below : (a b : ℕ) → nat_lt a b ≡ true → a < b
below a b h = grind (arith, nat_tests)

within : (a b : ℕ) → nat_le a b ≡ true → a ≤ b
within a b h = grind (arith, nat_tests)

-- a shape whose numbers have 32 bits
abbrev is_small_shape : Shape → Bool
is_small_shape (shape.Between low high c) = nat_lt high (2 ^ 31)
is_small_shape (shape.Signed half c) = nat_lt half (2 ^ 31)
is_small_shape _ = true

between_small : (low high : ℕ) (z : ℤ) → high < 2 ^ 31 → is_between low high z ≡ true → IsSmall z
between_small low high (pos n) h e = let k = within n high (both_right (nat_le low n) (nat_le n high) e) in omega (arith, k)
between_small low high (negsuc n) h e = absurd cc

signed_small : (half : ℕ) (z : ℤ) → half < 2 ^ 31 → is_signed half z ≡ true → IsSmall z
signed_small half (pos n) h e = let k = below n half e in omega (arith, k)
signed_small half (negsuc n) h e = let k = below n half e in omega (arith, k)

abbrev is_small_number : ℤ → Bool
is_small_number (pos n) = nat_lt n (2 ^ 31)
is_small_number (negsuc n) = nat_lt n (2 ^ 31)

same_small : (a z : ℤ) → int_eq a z ≡ true → is_small_number a ≡ true → IsSmall z
same_small (pos a) (pos b) e h = let s : a ≡ b = grind (arith, nat_tests) in let k = below a (2 ^ 31) h in omega (arith, k, s)
same_small (pos a) (negsuc b) e h = absurd cc
same_small (negsuc a) (pos b) e h = absurd cc
same_small (negsuc a) (negsuc b) e h = let s : a ≡ b = grind (arith, nat_tests) in let k = below a (2 ^ 31) h in omega (arith, k, s)

listed_small : (z : ℤ) (cs : List ℤ) → list_all is_small_number cs ≡ true → list_any (λ c. int_eq c z) cs ≡ true → IsSmall z
listed_small z [] h e = absurd cc
listed_small z (c ∷ cs) h e =
    by (int_eq c z) refl (listed_small z cs (both_right (is_small_number c) (list_all is_small_number cs) h)) e
  where
    by : (b : Bool) → int_eq c z ≡ b → (list_any (λ x. int_eq x z) cs ≡ true → IsSmall z) → (b || list_any (λ x. int_eq x z) cs) ≡ true → IsSmall z
    by true i again k = same_small c z i (both_left (is_small_number c) (list_all is_small_number cs) h)
    by false i again k = again k

register_number : (z : ℤ) → is_between 0 15 z ≡ true → IsRead (word (codes "a" ++ signed_decimal z))
register_number (pos n) h =
    let k = within n 15 (both_right (nat_le 0 n) (nat_le n 15) h) in
    word_read (register (codes "a") n) (register_lettered (codes "a") n refl (omega (arith, k)))
register_number (negsuc n) h = absurd cc

address_read : (n : ℕ) → n < 2 ^ 32 → IsRead (number (pos n) (address n))
unfolding address
address_read n h = record { some = omega arith; reads = λ rest e. inl (address_front n rest h e) }

core_read : (at : ℕ) (s : Shape) (z : ℤ) → is_small_shape s ≡ true → fits_shape s z ≡ true → IsRead (core_item at s z)
unfolding is_constant is_unsigned_constant
core_read at shape.Register z h f = register_number z f
core_read at (shape.Target way) z h f = address_read (target way at z) (omega arith)
core_read at (shape.Between low high c) z h f = small_read z (between_small low high z (below high (2 ^ 31) h) (both_left (is_between low high z) (is_multiple (step c) z) f))
core_read at (shape.Signed half c) z h f = small_read z (signed_small half z (below half (2 ^ 31) h) (both_left (is_signed half z) (is_multiple (step c) z) f))
core_read at shape.Constant z h f = small_read z (listed_small z constants refl f)
core_read at shape.UnsignedConstant z h f = small_read z (listed_small z unsigned_constants refl f)

core_reads : (at : ℕ) (ss : List Shape) (zs : List ℤ) → list_all is_small_shape ss ≡ true → EachFits ss zs → AreRead (core_items at ss zs)
core_reads at [] zs h f = tt
core_reads at (s ∷ ss) [] h f = tt
core_reads at (s ∷ ss) (z ∷ zs) h f =
    (core_read at s z (both_left (is_small_shape s) (list_all is_small_shape ss) h) f.0, core_reads at ss zs (both_right (is_small_shape s) (list_all is_small_shape ss) h) f.1)

small_shapes : (m : Mnemonic) → list_all is_small_shape (shapes m) ≡ true
small_shapes mnemonic.And = refl
small_shapes mnemonic.Or = refl
small_shapes mnemonic.Xor = refl
small_shapes mnemonic.Add = refl
small_shapes mnemonic.Addx2 = refl
small_shapes mnemonic.Addx4 = refl
small_shapes mnemonic.Addx8 = refl
small_shapes mnemonic.Sub = refl
small_shapes mnemonic.Subx2 = refl
small_shapes mnemonic.Subx4 = refl
small_shapes mnemonic.Subx8 = refl
small_shapes mnemonic.Neg = refl
small_shapes mnemonic.Abs = refl
small_shapes mnemonic.Ssr = refl
small_shapes mnemonic.Ssl = refl
small_shapes mnemonic.Ssai = refl
small_shapes mnemonic.Ret = refl
small_shapes mnemonic.Jx = refl
small_shapes mnemonic.Callx0 = refl
small_shapes mnemonic.Nop = refl
small_shapes mnemonic.Simcall = refl
small_shapes mnemonic.Slli = refl
small_shapes mnemonic.Srai = refl
small_shapes mnemonic.Srli = refl
small_shapes mnemonic.Src = refl
small_shapes mnemonic.Srl = refl
small_shapes mnemonic.Sll = refl
small_shapes mnemonic.Sra = refl
small_shapes mnemonic.Mul16u = refl
small_shapes mnemonic.Mul16s = refl
small_shapes mnemonic.Mull = refl
small_shapes mnemonic.Sext = refl
small_shapes mnemonic.Min = refl
small_shapes mnemonic.Max = refl
small_shapes mnemonic.Minu = refl
small_shapes mnemonic.Maxu = refl
small_shapes mnemonic.Moveqz = refl
small_shapes mnemonic.Movnez = refl
small_shapes mnemonic.Movltz = refl
small_shapes mnemonic.Movgez = refl
small_shapes mnemonic.Extui = refl
small_shapes mnemonic.L32r = refl
small_shapes mnemonic.L8ui = refl
small_shapes mnemonic.L16ui = refl
small_shapes mnemonic.L32i = refl
small_shapes mnemonic.L16si = refl
small_shapes mnemonic.S8i = refl
small_shapes mnemonic.S16i = refl
small_shapes mnemonic.S32i = refl
small_shapes mnemonic.Movi = refl
small_shapes mnemonic.Addi = refl
small_shapes mnemonic.Addmi = refl
small_shapes mnemonic.Call0 = refl
small_shapes mnemonic.J = refl
small_shapes mnemonic.Beqz = refl
small_shapes mnemonic.Bnez = refl
small_shapes mnemonic.Bltz = refl
small_shapes mnemonic.Bgez = refl
small_shapes mnemonic.Beqi = refl
small_shapes mnemonic.Bnei = refl
small_shapes mnemonic.Blti = refl
small_shapes mnemonic.Bgei = refl
small_shapes mnemonic.Bltui = refl
small_shapes mnemonic.Bgeui = refl
small_shapes mnemonic.Bnone = refl
small_shapes mnemonic.Beq = refl
small_shapes mnemonic.Blt = refl
small_shapes mnemonic.Bltu = refl
small_shapes mnemonic.Ball = refl
small_shapes mnemonic.Bbc = refl
small_shapes mnemonic.Bany = refl
small_shapes mnemonic.Bne = refl
small_shapes mnemonic.Bge = refl
small_shapes mnemonic.Bgeu = refl
small_shapes mnemonic.Bnall = refl
small_shapes mnemonic.Bbs = refl
small_shapes mnemonic.Bbci = refl
small_shapes mnemonic.Bbsi = refl

pub core_is_said : (at : ℕ) (i : Inst) → AllFit (shapes (mnemonic_of i)) (values_of i) → IsSaid (core_said at i)
core_is_said at i f =
    let m = mnemonic_of i in
    let is = word_lettered (name_of m) (name_word m) in
    record { some = lettered_some (name_of m) is; reads = λ rest e. word_reads (name_of m) rest is e; items = core_reads at (shapes m) (values_of i) (small_shapes m) f.1 }

-- ---- arguments of operations

fits_small : (z : ℤ) → FitsSigned w32 z → IsSmall z
fits_small (pos n) h = omega (arith, h.sfits)
fits_small (negsuc n) h = omega (arith, h.sfits)

range_fits : (low : ℤ) (k m : ℕ) → FitsSigned w32 low → FitsSigned w32 (low +ℤ pos m) → k ≤ m → FitsSigned w32 (low +ℤ pos k)
range_fits low k m f g le = omega (arith, ints)

abbrev last : ℕ → ℕ
last count = count - 1

below_last : (n count : ℕ) → n < count → n ≤ last count
below_last n count h = omega arith

range_small : (r : RangeDecl) (n : ℕ) → IsRange r → n < r.count → IsSmall (range_value (Some r) n)
range_small r n is lt =
    let le = mul-le-mul_left r.step (below_last n r.count lt) in
    fits_small (range_value (Some r) n) (range_fits r.low (r.step * n) (r.step * last r.count) is.first is.last le)

file_read : (d : Description) (f n : ℕ) → HasWords d → n < file_depth (slice_get d.files f) → n < 2 ^ 64 → IsRead (word (register (short_of (slice_get d.files f)) n))
file_read d f n h lt b = by (slice_get d.files f) refl lt
  where
    by : (o : Option FileDecl) → slice_get d.files f ≡ o → n < file_depth o → IsRead (word (register (short_of o) n))
    by None e k = absurd (omega (arith, k))
    by (Some x) e k = word_read (register x.short n) (register_lettered x.short n (all_get (λ y. is_word y.short) d.files f x h.shorts e) b)

range_read : (d : Description) (r n : ℕ) → IsDescription d → n < range_count (slice_get d.ranges r) → IsRead (decimal_item (range_value (slice_get d.ranges r) n))
range_read d r n is lt = by (slice_get d.ranges r) refl lt
  where
    by : (o : Option RangeDecl) → slice_get d.ranges r ≡ o → n < range_count o → IsRead (decimal_item (range_value o n))
    by None e k = absurd (omega (arith, k))
    by (Some x) e k = small_read (range_value (Some x) n) (range_small x n (All-slice_get IsRange d.ranges r x is.ranges e) k)

arg_read : (d : Description) (k : Kind) (n : ℕ) → IsDescription d → HasWords d → n < limit d k → n < 2 ^ 64 → IsRead (arg_item d k n)
arg_read d kind.Ar n is h lt b = word_read (register (codes "a") n) (register_lettered (codes "a") n refl b)
arg_read d (kind.File f) n is h lt b = file_read d f n h lt b
arg_read d (kind.Range r) n is h lt b = range_read d r n is lt
arg_read d (kind.State s) n is h lt b = absurd (omega (arith, lt))
arg_read d (kind.InQueue q) n is h lt b = absurd (omega (arith, lt))
arg_read d (kind.OutQueue q) n is h lt b = absurd (omega (arith, lt))

pub args_read : (d : Description) (as' : List Access) (ns : List ℕ) → IsDescription d → HasWords d → fields_fit d as' ns ≡ true → AreRead (arg_items d as' ns)
args_read d [] ns is h f = tt
args_read d (a ∷ as') [] is h f = tt
args_read d (a ∷ as') (n ∷ ns) is h f =
    let lt = below n (limit d a.kind) (both_left (nat_lt n (limit d a.kind)) (fields_fit d as' ns) f) in
    let few = limit-le d a.kind is in
    (arg_read d a.kind n is h lt (omega (arith, lt, few)), args_read d as' ns is h (both_right (nat_lt n (limit d a.kind)) (fields_fit d as' ns) f))

-- ---- operations

code_word : (d : Description) (c : Code) → HasWords d → IsCode d c → is_word (code_name d c) ≡ true
code_word d (code.Core c) h k = name_word (slot_mnemonic c)
code_word d (code.Op i) h k = let g = get_some d.ops i k in ap (λ o. is_word (op_name o)) g.1 ∙ all_get (λ o. is_word o.name) d.ops i g.0 h.ops g.1

pub part_is_said : (d : Description) (p : Part) → IsDescription d → HasWords d → IsCode d p.code → part_fits d p ≡ true → IsSaid (part_said d p)
part_is_said d p is h k f =
    let n = code_name d p.code in
    let w = word_lettered n (code_word d p.code h k) in
    record {
      some = lettered_some n w;
      reads = λ rest e. word_reads n rest w e;
      items = args_read d (args_of d p.code) p.fields is h (both_right (length p.fields == 3) (fields_fit d (args_of d p.code) p.fields) f);
    }
