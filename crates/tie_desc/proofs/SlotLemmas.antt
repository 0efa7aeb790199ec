-- Codes, fields and bits of slots.
use Rattle.std.proofs.Common.{◌≡◌, ℕ, zero, suc, ◌+◌, ◌-◌, ◌*◌, ◌^◌, ◌≤◌, List, [], ◌∷◌, length, Option, Some, None, slice_get, get_or, arith, refl, sym, subst, ap, ◌∙◌, All, true, ◌==◌}
use Rattle.std.specs.Prelude.{sum_by, slice_get}
use Rattle.std.proofs.lemmas.List.{length-map}
use Rattle.std.proofs.lemmas.List.Sums.{sum_by-cons}
use Rattle.std.proofs.lemmas.Nat.{pow-add}
use Rattle.std.proofs.Math.Nat.{pow-suc}
use Rattle.std.proofs.Math.Pow.{pow_mono}
use Rattle.std.proofs.lemmas.Bool.Decides.{nat_tests}
use Rattle.tie_desc.proofs.Lists.{All-slice_get, position_or_len-same}
use Rattle.tie_desc.specs.Description.{Description}
use Rattle.tie_desc.specs.Operands.{limit, file_depth, range_count}
use Rattle.tie_desc.specs.Slots.{access, args_of, core_args, op_args, core_number, same_code, place_of, longest, code_bits, code_space, slot_bits, slots_space}
use Rattle.tie_desc.specs.Invariant.{IsDescription, IsOperation, IsFile, IsRange, IsSlot, IsFormat}
use Rattle.tie_desc.specs.declared.declarations.Kind.{Kind}
use Rattle.tie_desc.specs.declared.declarations.Kind.TheVariants as kind
use Rattle.tie_desc.specs.declared.declarations.FileDecl.{FileDecl}
use Rattle.tie_desc.specs.declared.declarations.RangeDecl.{RangeDecl}
use Rattle.tie_desc.specs.declared.declarations.OpDecl.{OpDecl}
use Rattle.tie_desc.specs.declared.formats.SlotCore.{SlotCore}
use Rattle.tie_desc.specs.declared.formats.SlotCore.TheVariants as core
use Rattle.tie_desc.specs.declared.formats.Code.{Code}
use Rattle.tie_desc.specs.declared.formats.Code.TheVariants as code
use Rattle.tie_desc.specs.declared.formats.SlotDecl.{SlotDecl}
use Rattle.tie_desc.specs.declared.formats.FormatDecl.{FormatDecl}

equal_test : (n : ℕ) → (n == n) ≡ true
equal_test n = grind (arith, nat_tests)

pub same_code-own : (c : Code) → same_code c c ≡ true
same_code-own (code.Core c) = equal_test (core_number c)
same_code-own (code.Op i) = equal_test i

pub place_of-own : (d : Description) (s : SlotDecl) (k : ℕ) (c : Code) → IsSlot d s → slice_get s.codes k ≡ Some c → place_of c s.codes ≡ k
place_of-own d s k c fine here = position_or_len-same same_code same_code-own s.codes k c fine.once here

-- ---- fields

core_args-le : (c : SlotCore) → length (core_args c) ≤ 3
core_args-le core.Nop = omega arith
core_args-le core.Add = omega arith
core_args-le core.Addx2 = omega arith
core_args-le core.Addx4 = omega arith
core_args-le core.Addx8 = omega arith
core_args-le core.Sub = omega arith
core_args-le core.Subx2 = omega arith
core_args-le core.Subx4 = omega arith
core_args-le core.Subx8 = omega arith
core_args-le core.And = omega arith
core_args-le core.Or = omega arith
core_args-le core.Xor = omega arith
core_args-le core.Min = omega arith
core_args-le core.Max = omega arith
core_args-le core.Minu = omega arith
core_args-le core.Maxu = omega arith
core_args-le core.Mull = omega arith

op_args-le : (d : Description) (ops : List OpDecl) (i : ℕ) (o : Option OpDecl) → All (IsOperation d) ops → slice_get ops i ≡ o → length (op_args o) ≤ 3
op_args-le d ops i None all here = omega arith
op_args-le d ops i (Some o) all here = omega (arith, length-map o.args access, (All-slice_get (IsOperation d) ops i o all here).few_args)

pub args_of-le : (d : Description) (c : Code) → IsDescription d → length (args_of d c) ≤ 3
args_of-le d (code.Core c) ok = core_args-le c
args_of-le d (code.Op i) ok = op_args-le d d.ops i (slice_get d.ops i) ok.ops refl

pub longest-le : (d : Description) (codes : List Code) → IsDescription d → longest d codes ≤ 3
unfolding longest
longest-le d [] ok = omega arith
longest-le d (c ∷ cs) ok = omega (arith, args_of-le d c ok, longest-le d cs ok)

file_depth-le : (files : List FileDecl) (i : ℕ) (f : Option FileDecl) → All IsFile files → slice_get files i ≡ f → file_depth f ≤ 16
file_depth-le files i None all here = omega arith
file_depth-le files i (Some f) all here = (All-slice_get IsFile files i f all here).most

range_count-le : (ranges : List RangeDecl) (i : ℕ) (r : Option RangeDecl) → All IsRange ranges → slice_get ranges i ≡ r → range_count r ≤ 16
range_count-le ranges i None all here = omega arith
range_count-le ranges i (Some r) all here = (All-slice_get IsRange ranges i r all here).most

pub limit-le : (d : Description) (k : Kind) → IsDescription d → limit d k ≤ 16
limit-le d kind.Ar ok = omega arith
limit-le d (kind.File f) ok = file_depth-le d.files f (slice_get d.files f) ok.files refl
limit-le d (kind.Range r) ok = range_count-le d.ranges r (slice_get d.ranges r) ok.ranges refl
limit-le d (kind.State s) ok = omega arith
limit-le d (kind.InQueue q) ok = omega arith
limit-le d (kind.OutQueue q) ok = omega arith

-- ---- bits

sixteen : (n : ℕ) → 16 ^ n ≡ 2 ^ (4 * n)
sixteen zero = refl
sixteen (suc n) =
    pow-suc 16 n ∙ ap (λ m. m * 16) (sixteen n) ∙ sym (pow-add 2 (4 * n) 4) ∙ ap (λ m. 2 ^ m) (let e : 4 * n + 4 ≡ 4 * suc n = omega arith in e)

pub slots_space-pow : (d : Description) (ss : List SlotDecl) → slots_space d ss ≡ 2 ^ sum_by (slot_bits d) ss
unfolding code_space
slots_space-pow d [] = refl
slots_space-pow d (s ∷ ss) =
    ap (λ n. 2 ^ code_bits (length s.codes) * 16 ^ longest d s.codes * n) (slots_space-pow d ss)
    ∙ ap (λ n. 2 ^ code_bits (length s.codes) * n * 2 ^ sum_by (slot_bits d) ss) (sixteen (longest d s.codes))
    ∙ ap (λ n. n * 2 ^ sum_by (slot_bits d) ss) (sym (pow-add 2 (code_bits (length s.codes)) (4 * longest d s.codes)))
    ∙ sym (pow-add 2 (slot_bits d s) (sum_by (slot_bits d) ss))
    ∙ ap (λ n. 2 ^ n) (sym (sum_by-cons (slot_bits d) s ss))

pub slots_space-le : (d : Description) → IsDescription d → All (λ f. slots_space d f.slots ≤ 2 ^ (f.width - 8)) d.formats
slots_space-le d ok k e lt = fits (get_or d.formats k e) (ok.formats k e lt)
  where
    fits : (f : FormatDecl) → IsFormat d f → slots_space d f.slots ≤ 2 ^ (f.width - 8)
    fits f fine = subst (λ n. n ≤ 2 ^ (f.width - 8)) (sym (slots_space-pow d f.slots)) (pow_mono (omega (arith, fine.room)))
