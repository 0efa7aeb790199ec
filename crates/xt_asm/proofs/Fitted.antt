-- Operands that no rule refuses fit: the numbers of instructions, the fields of operations.
use Rattle.std.proofs.Common.{◌≡◌, ℕ, suc, ◌%◌, ◌≤◌, ◌<◌, true, ℤ, pos, negsuc, List, [], ◌∷◌, length, refl, arith, ap, Option, Some, None, IsTrue}
use Rattle.std.specs.Prelude.{◌==◌, ◌&&◌, unwrap_or, slice_get, map, nat_lt, nat_le, int_le, unsigned_abs, ◌-ℤ◌}
use Rattle.std.proofs.lemmas.Bool.Decides.{nat_tests}
use Rattle.xt_mnemonics.specs.declared.shape.Shape.{Shape}
use Rattle.xt_mnemonics.specs.declared.shape.Shape.TheVariants as shape
use Rattle.xt_mnemonics.specs.Shapes.{is_between, EachFits, AllFit}
use Rattle.tie_desc.specs.Description.{Description}
use Rattle.tie_desc.specs.Operands.{limit, file_depth, range_count}
use Rattle.tie_desc.specs.Invariant.{is_argument}
use Rattle.tie_desc.specs.declared.declarations.FileDecl.{FileDecl}
use Rattle.tie_desc.specs.declared.declarations.RangeDecl.{RangeDecl}
use Rattle.tie_desc.specs.declared.declarations.Kind.{Kind}
use Rattle.tie_desc.specs.declared.declarations.Kind.TheVariants as kind
use Rattle.asm_lines.specs.declared.line.Operand.{Operand}
use Rattle.asm_rules.specs.declared.expected.Expected.TheVariants as expect
use Rattle.asm_rules.specs.Expected.{of_kind}
use Rattle.asm_rules.specs.Operands.{Find, meant, in_file, in_values, place_in}
use Rattle.asm_rules.specs.Slots.{number_in, field_of, range_place}
use Rattle.xt_asm.specs.Bytes.{values}
use Rattle.xt_asm.proofs.Fine.{IsFine, AreFine, shape_fits, has_number, both}

-- ---- core instructions

as_many : (d : Description) (find : Find) (at : ℕ) (ss : List Shape) (os : List Operand) → length ss ≡ length os → length ss ≡ length (values d find at (map expect.Core ss) os)
as_many d find at [] [] n = refl
as_many d find at [] (o ∷ os) n = absurd (omega arith)
as_many d find at (s ∷ ss) [] n = absurd (omega arith)
as_many d find at (s ∷ ss) (o ∷ os) n = ap suc (as_many d find at ss os (omega arith))

each_fits : (d : Description) (find : Find) (at : ℕ) (ss : List Shape) (os : List Operand) → AreFine d find at (map expect.Core ss) os → EachFits ss (values d find at (map expect.Core ss) os)
each_fits d find at [] os f = tt
each_fits d find at (s ∷ ss) [] f = tt
each_fits d find at (s ∷ ss) (o ∷ os) f = (shape_fits d find at s o f.0, each_fits d find at ss os f.1)

pub all_fit : (d : Description) (find : Find) (at : ℕ) (ss : List Shape) (os : List Operand) → length ss ≡ length os → AreFine d find at (map expect.Core ss) os
    → AllFit ss (values d find at (map expect.Core ss) os)
all_fit d find at ss os n f = (as_many d find at ss os n, each_fits d find at ss os f)

-- ---- fields

below : (a b : ℕ) → nat_lt a b ≡ true → a < b
below a b h = grind (arith, nat_tests)

within : (a b : ℕ) → nat_le a b ≡ true → a ≤ b
within a b h = grind (arith, nat_tests)

low_bits : (n m : ℕ) → n < m → n % 16 < m
low_bits n m h = omega arith

core_below : (z : ℤ) → is_between 0 15 z ≡ true → unsigned_abs z < 16
core_below (pos n) h = let k = within n 15 (both (nat_le 0 n) (nat_le n 15) h).1 in omega arith
core_below (negsuc n) h = absurd cc

file_below : (f : Option FileDecl) (z : ℤ) → in_file f z ≡ true → unsigned_abs z < file_depth f
file_below None z h = absurd cc
file_below (Some f) (pos n) h = below n f.depth h
file_below (Some f) (negsuc n) h = absurd cc

range_below : (r : Option RangeDecl) (z : ℤ) → in_values r z ≡ true → range_place r z < range_count r
range_below None z h = absurd cc
range_below (Some r) z h = below (place_in r z) r.count (both (int_le r.low z && unsigned_abs (z -ℤ r.low) % r.step == 0) (nat_lt (place_in r z) r.count) h).1

-- the field of an argument that no rule refuses is a number of its kind
pub field_below : (d : Description) (find : Find) (at : ℕ) (k : Kind) (o : Operand) → IsTrue (is_argument k) → IsFine d find at (of_kind k) o → field_of d (of_kind k) o < limit d k
field_below d find at kind.Ar o a f =
    let e = expect.Core shape.Register in
    low_bits (number_in d e o) 16 (core_below (unwrap_or (meant d e o) (pos 0)) (has_number d e (meant d e o) f.kind f.range))
field_below d find at (kind.File i) o a f =
    let e = expect.File i in
    low_bits (number_in d e o) (file_depth (slice_get d.files i)) (file_below (slice_get d.files i) (unwrap_or (meant d e o) (pos 0)) (has_number d e (meant d e o) f.kind f.range))
field_below d find at (kind.Range i) o a f =
    let e = expect.Immediate i in
    low_bits (number_in d e o) (range_count (slice_get d.ranges i)) (range_below (slice_get d.ranges i) (unwrap_or (meant d e o) (pos 0)) (has_number d e (meant d e o) f.kind f.range))
field_below d find at (kind.State i) o a f = absurd cc
field_below d find at (kind.InQueue i) o a f = absurd cc
field_below d find at (kind.OutQueue i) o a f = absurd cc
