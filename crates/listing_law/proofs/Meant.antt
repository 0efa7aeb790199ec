-- What the operands of a listing stand for.
use Rattle.std.proofs.Common.{◌≡◌, ℕ, zero, suc, ◌+◌, ◌-◌, ◌*◌, ◌/◌, ◌%◌, ◌^◌, ◌<◌, ◌≤◌, Bool, true, false, ℤ, pos, negsuc, List, [], ◌∷◌, ◌++◌, length, drop, Option, Some, None, refl, ap, ◌∙◌, arith, map, min}
use Rattle.std.specs.Prelude.{◌&&◌, ◌||◌, ◌==◌, not, nat_le, nat_lt, unsigned_abs, unwrap_or, slice_get, slice_index, codes, ◌+ℤ◌, ◌-ℤ◌, if◌then◌else◌}
use Rattle.std.specs.List.{list_all}
use Rattle.std.specs.Char.{is_ascii_digit}
use Rattle.std.specs.Str.{bytes_eq}
use Rattle.std.specs.Fmt.{decimal}
use Rattle.std.proofs.Math.Seq.{take-append_seam, drop-append_seam}
use Rattle.std.proofs.Math.Nat.{mul-div_cancel_left}
use Rattle.std.proofs.lemmas.Fmt.{decimal_digit, decimal_nonempty, first_decimal, decimal_is_IsNumeral}
use Rattle.std.proofs.lemmas.Int.{ints}
use Rattle.std.proofs.lemmas.Bool.Decides.{nat_tests}
use Rattle.xt_isa.specs.Numbers.{twos_complement, signed_value, IsSigned}
use Rattle.xt_isa.proofs.NumberLemmas.{signed_value-twos_complement, twos_complement_small}
use Rattle.xt_mnemonics.specs.declared.shape.Shape.{Shape}
use Rattle.xt_mnemonics.specs.declared.shape.Shape.TheVariants as shape
use Rattle.xt_mnemonics.specs.declared.shape.Way.{Way}
use Rattle.xt_mnemonics.specs.declared.shape.Way.TheVariants as way
use Rattle.xt_mnemonics.specs.Shapes.{is_between, is_signed, is_backward, is_multiple, in_reach, fits_shape, EachFits, AllFit, base, distance}
use Rattle.tie_desc.specs.Description.{Description}
use Rattle.tie_desc.specs.Operands.{limit, file_depth, range_count, range_value}
use Rattle.tie_desc.specs.Spelling.{fields_fit}
use Rattle.tie_desc.specs.Invariant.{IsDescription, IsRange}
use Rattle.tie_desc.specs.declared.declarations.Access.{Access}
use Rattle.tie_desc.specs.declared.declarations.FileDecl.{FileDecl}
use Rattle.tie_desc.specs.declared.declarations.RangeDecl.{RangeDecl}
use Rattle.tie_desc.specs.declared.declarations.Kind.{Kind}
use Rattle.tie_desc.specs.declared.declarations.Kind.TheVariants as kind
use Rattle.tie_desc.proofs.NameLemmas.{bytes_eq-own}
use Rattle.tie_desc.proofs.SlotLemmas.{limit-le}
use Rattle.tie_desc.proofs.Lists.{both_left, both_right, All-slice_get}
use Rattle.asm_lines.specs.declared.token.Spot.{Spot}
use Rattle.asm_lines.specs.Tokens.{moved, most, value}
use Rattle.xt_asm.specs.asm_rules.declared.expected.Expected.TheVariants as expect
use Rattle.xt_asm.specs.asm_rules.Expected.{of_kind}
use Rattle.xt_asm.specs.asm_rules.Operands.{Find, is_plain, register, file_register, meant, place_in, address}
use Rattle.xt_asm.specs.asm_rules.Slots.{range_place, number_in, field_of, field_at}
use Rattle.xt_asm.specs.Bytes.{value_of, values}
use Rattle.listing_words_law.specs.xt_dis.Words as printed
use Rattle.listing_words_law.specs.xt_dis.Operands.{target, short_of}
use Rattle.listing_words_law.specs.Items.{written_at, next_spot, behind_item, more_at, operands_at}
use Rattle.listing_words_law.specs.Printed.{core_item, core_items, arg_item, arg_items}
use Rattle.listing_words_law.proofs.Fronts.{all_digits}

-- ---- targets

-- from the place that a distance leads to, back to the distance, modulo 2 ^ 32
back : (b t : ℕ) → t < 2 ^ 32 → ((b + t) % 2 ^ 32 + (2 ^ 32 - b % 2 ^ 32)) % 2 ^ 32 ≡ t
back b t h = omega arith

way_back : (b : ℕ) (z : ℤ) → IsSigned (2 ^ 31) z → signed_value (2 ^ 31) (((b + twos_complement (2 ^ 31) z) % 2 ^ 32 + (2 ^ 32 - b % 2 ^ 32)) % 2 ^ 32) ≡ z
way_back b z h = ap (signed_value (2 ^ 31)) (back b (twos_complement (2 ^ 31) z) (twos_complement_small (2 ^ 31) z h)) ∙ signed_value-twos_complement (2 ^ 31) z h

below : (a b : ℕ) → nat_lt a b ≡ true → a < b
below a b h = grind (arith, nat_tests)

above : (a b : ℕ) → a < b → nat_lt a b ≡ true
above a b h = grind (arith, nat_tests)

signed_in : (half : ℕ) (z : ℤ) → half ≤ 2 ^ 31 → is_signed half z ≡ true → IsSigned (2 ^ 31) z
signed_in half (pos n) h e = let k = below n half e in omega (arith, k)
signed_in half (negsuc n) h e = let k = below n half e in omega (arith, k)

backward_in : (far : ℕ) (z : ℤ) → far ≤ 2 ^ 31 → is_backward far z ≡ true → IsSigned (2 ^ 31) z
backward_in far (pos n) h e = absurd cc
backward_in far (negsuc n) h e = let k = below n far e in omega (arith, k)

reach_in : (w : Way) (z : ℤ) → in_reach w z ≡ true → IsSigned (2 ^ 31) z
reach_in way.Near z e = signed_in 128 z (omega arith) e
reach_in way.Far z e = signed_in 2048 z (omega arith) e
reach_in way.Jump z e = signed_in 131072 z (omega arith) e
reach_in way.Call z e = signed_in 524288 z (omega arith) (both_left (is_signed 524288 z) (is_multiple 4 z) e)
reach_in way.Load z e = backward_in 262144 z (omega arith) (both_left (is_backward 262144 z) (is_multiple 4 z) e)

kept_address : (n : ℕ) → n < 2 ^ 32 → unwrap_or (address (pos n)) 0 ≡ n
kept_address n h = ap (λ b. unwrap_or (if b then Some n else None) 0) (above n (2 ^ 32) h)

small_target : (w : Way) (at : ℕ) (z : ℤ) → target w at z < 2 ^ 32
small_target w at z = omega arith

target_back : (w : Way) (at : ℕ) (z : ℤ) → in_reach w z ≡ true → distance w at (unwrap_or (address (pos (target w at z))) 0) ≡ z
target_back w at z h = ap (distance w at) (kept_address (target w at z) (small_target w at z)) ∙ way_back (base w at) z (reach_in w z h)

-- ---- registers

plain_with : (ds : List ℕ) → list_all is_ascii_digit ds ≡ true → 0 < length ds → (not (slice_index ds 0 == 48) || length ds == 1) ≡ true → is_plain ds ≡ true
plain_with ds all some first =
    ap (λ c. (c && list_all is_ascii_digit ds) && (not (slice_index ds 0 == 48) || length ds == 1)) (above 0 (length ds) some)
    ∙ ap (λ c. c && (not (slice_index ds 0 == 48) || length ds == 1)) all ∙ first

first_plain : (n : ℕ) → n < 2 ^ 64 → (not (slice_index (decimal n) 0 == 48) || length (decimal n) == 1) ≡ true
first_plain zero h = ap (λ ds. not (slice_index ds 0 == 48) || length ds == 1) (decimal_digit 0 (omega arith))
first_plain (suc n) h =
    ap (λ c. not c || length (decimal (suc n)) == 1) (other (slice_index (decimal (suc n)) 0) (first_decimal (suc n) (omega arith) h))
  where
    other : (b : ℕ) → 48 < b → (b == 48) ≡ false
    other b k = grind (arith, nat_tests)

plain : (n : ℕ) → n < 2 ^ 64 → is_plain (decimal n) ≡ true
plain n h = plain_with (decimal n) (all_digits n h) (decimal_nonempty n h) (first_plain n h)

kept_value : (n : ℕ) → n < 2 ^ 40 → value 10 (decimal n) ≡ n
kept_value n h = ap (λ v. min v most) (decimal_is_IsNumeral n (omega arith)).1 ∙ least
  where
    least : min n most ≡ n
    least = omega arith

register_back : (short : List ℕ) (n : ℕ) → n < 2 ^ 40 → register short (printed.register short n) ≡ Some (pos n)
register_back short n h =
    let ds = decimal n in
    let answer = λ (b : Bool) (w : List ℕ). if b then Some (pos (value 10 w)) else None in
    ap (λ w. answer (bytes_eq short w && is_plain (drop (length short) (short ++ ds))) (drop (length short) (short ++ ds))) (take-append_seam short ds)
    ∙ ap (λ b. answer (b && is_plain (drop (length short) (short ++ ds))) (drop (length short) (short ++ ds))) (bytes_eq-own short)
    ∙ ap (λ w. answer (is_plain w) w) (drop-append_seam short ds)
    ∙ ap (λ b. answer b ds) (plain n (omega arith))
    ∙ ap (λ v. Some (pos v)) (kept_value n h)

-- ---- operands of core instructions

module _ (d : Description) (find : Find) (at : ℕ) where
  register_value : (s : Spot) (z : ℤ) → is_between 0 15 z ≡ true → value_of d find at (expect.Core shape.Register) (written_at s (core_item at shape.Register z)) ≡ z
  unfolding meant
  register_value s (pos n) h =
      let k = few n (both_right (nat_le 0 n) (nat_le n 15) h) in
      ap (λ o. unwrap_or o (pos 0)) (register_back (codes "a") n (omega (arith, k)))
    where
      few : (a : ℕ) → nat_le a 15 ≡ true → a ≤ 15
      few a e = grind (arith, nat_tests)
  register_value s (negsuc n) h = absurd cc

  item_value : (s : Spot) (sh : Shape) (z : ℤ) → fits_shape sh z ≡ true → value_of d find at (expect.Core sh) (written_at s (core_item at sh z)) ≡ z
  unfolding meant
  item_value s shape.Register z h = register_value s z h
  item_value s (shape.Target w) z h = target_back w at z h
  item_value s (shape.Between low high c) z h = refl
  item_value s (shape.Signed half c) z h = refl
  item_value s shape.Constant z h = refl
  item_value s shape.UnsignedConstant z h = refl

  more_values : (s : Spot) (ss : List Shape) (zs : List ℤ) → length ss ≡ length zs → EachFits ss zs → values d find at (map expect.Core ss) (more_at s (core_items at ss zs)) ≡ zs
  more_values s [] [] n f = refl
  more_values s [] (z ∷ zs) n f = absurd (omega arith)
  more_values s (sh ∷ ss) [] n f = absurd (omega arith)
  more_values s (sh ∷ ss) (z ∷ zs) n f =
      let t = next_spot s in
      ap (λ y. y ∷ values d find at (map expect.Core ss) (more_at (behind_item t (core_item at sh z)) (core_items at ss zs))) (item_value t sh z f.0)
      ∙ ap (λ ys. z ∷ ys) (more_values (behind_item t (core_item at sh z)) ss zs (omega arith) f.1)

  pub all_values : (s : Spot) (ss : List Shape) (zs : List ℤ) → AllFit ss zs → values d find at (map expect.Core ss) (operands_at s (core_items at ss zs)) ≡ zs
  all_values s [] [] f = refl
  all_values s [] (z ∷ zs) f = absurd (omega (arith, f.0))
  all_values s (sh ∷ ss) [] f = absurd (omega (arith, f.0))
  all_values s (sh ∷ ss) (z ∷ zs) f =
      let t = moved 1 s in
      ap (λ y. y ∷ values d find at (map expect.Core ss) (more_at (behind_item t (core_item at sh z)) (core_items at ss zs))) (item_value t sh z f.1.0)
      ∙ ap (λ ys. z ∷ ys) (more_values (behind_item t (core_item at sh z)) ss zs (omega (arith, f.0)) f.1.1)

-- ---- arguments of operations

kept_field : (n : ℕ) → n < 16 → n % 16 ≡ n
kept_field n h = omega arith

less_low : (low : ℤ) (k : ℕ) → (low +ℤ pos k) -ℤ low ≡ pos k
less_low low k = omega (arith, ints)

place_back : (r : RangeDecl) (n : ℕ) → IsRange r → place_in r (range_value (Some r) n) ≡ n
place_back r n is = ap (λ z. unsigned_abs z / r.step) (less_low r.low (r.step * n)) ∙ mul-div_cancel_left n is.step

module _ (d : Description) (is_d : IsDescription d) where
  core_number : (s : Spot) (n : ℕ) → n < 16 → number_in d (expect.Core shape.Register) (written_at s (arg_item d kind.Ar n)) ≡ n
  unfolding meant
  core_number s n h = ap (λ o. unsigned_abs (unwrap_or o (pos 0))) (register_back (codes "a") n (omega arith))

  file_number : (s : Spot) (f n : ℕ) → n < limit d (kind.File f) → n < 16 → number_in d (expect.File f) (written_at s (arg_item d (kind.File f) n)) ≡ n
  unfolding meant
  file_number s f n h few = by (slice_get d.files f) h
    where
      by : (o : Option FileDecl) → n < file_depth o → unsigned_abs (unwrap_or (file_register o (printed.register (short_of o) n)) (pos 0)) ≡ n
      by None k = absurd (omega (arith, k))
      by (Some x) k = ap (λ o. unsigned_abs (unwrap_or o (pos 0))) (register_back x.short n (omega arith))

  range_number : (s : Spot) (r n : ℕ) → n < limit d (kind.Range r) → number_in d (expect.Immediate r) (written_at s (arg_item d (kind.Range r) n)) ≡ n
  unfolding meant
  range_number s r n h = by (slice_get d.ranges r) refl h
    where
      by : (o : Option RangeDecl) → slice_get d.ranges r ≡ o → n < range_count o → range_place o (range_value o n) ≡ n
      by None e k = absurd (omega (arith, k))
      by (Some x) e k = place_back x n (All-slice_get IsRange d.ranges r x is_d.ranges e)

  arg_field : (s : Spot) (k : Kind) (n : ℕ) → n < limit d k → field_of d (of_kind k) (written_at s (arg_item d k n)) ≡ n
  arg_field s k n h = by k h (few (limit-le d k is_d))
    where
      few : limit d k ≤ 16 → n < 16
      few le = omega (arith, h, le)

      by : (j : Kind) → n < limit d j → n < 16 → field_of d (of_kind j) (written_at s (arg_item d j n)) ≡ n
      by kind.Ar lt b = ap (λ x. x % 16) (core_number s n b) ∙ kept_field n b
      by (kind.File f) lt b = ap (λ x. x % 16) (file_number s f n lt b) ∙ kept_field n b
      by (kind.Range r) lt b = ap (λ x. x % 16) (range_number s r n lt) ∙ kept_field n b
      by (kind.State i) lt b = absurd (omega (arith, lt))
      by (kind.InQueue i) lt b = absurd (omega (arith, lt))
      by (kind.OutQueue i) lt b = absurd (omega (arith, lt))

  same_zero : (n : ℕ) → (n == 0) ≡ true → 0 ≡ n
  same_zero n h = grind (arith, nat_tests)

  more_fields : (s : Spot) (as' : List Access) (ns : List ℕ) (k : ℕ) → fields_fit d as' ns ≡ true
      → field_at d (slice_get as' k) (slice_get (more_at s (arg_items d as' ns)) k) ≡ slice_index ns k
  more_fields s [] [] k f = refl
  more_fields s [] (n ∷ ns) zero f = same_zero n (both_left (n == 0) (fields_fit d [] ns) f)
  more_fields s [] (n ∷ ns) (suc k) f = more_fields s [] ns k (both_right (n == 0) (fields_fit d [] ns) f)
  more_fields s (a ∷ as') [] k f = absurd cc
  more_fields s (a ∷ as') (n ∷ ns) zero f = arg_field (next_spot s) a.kind n (below n (limit d a.kind) (both_left (nat_lt n (limit d a.kind)) (fields_fit d as' ns) f))
  more_fields s (a ∷ as') (n ∷ ns) (suc k) f =
      more_fields (behind_item (next_spot s) (arg_item d a.kind n)) as' ns k (both_right (nat_lt n (limit d a.kind)) (fields_fit d as' ns) f)

  each_field : (s : Spot) (as' : List Access) (ns : List ℕ) (k : ℕ) → fields_fit d as' ns ≡ true
      → field_at d (slice_get as' k) (slice_get (operands_at s (arg_items d as' ns)) k) ≡ slice_index ns k
  each_field s [] ns k f = more_fields s [] ns k f
  each_field s (a ∷ as') [] k f = absurd cc
  each_field s (a ∷ as') (n ∷ ns) zero f = arg_field (moved 1 s) a.kind n (below n (limit d a.kind) (both_left (nat_lt n (limit d a.kind)) (fields_fit d as' ns) f))
  each_field s (a ∷ as') (n ∷ ns) (suc k) f =
      more_fields (behind_item (moved 1 s) (arg_item d a.kind n)) as' ns k (both_right (nat_lt n (limit d a.kind)) (fields_fit d as' ns) f)

  three : (xs : List ℕ) → length xs ≡ 3 → slice_index xs 0 ∷ slice_index xs 1 ∷ slice_index xs 2 ∷ [] ≡ xs
  three [] h = absurd (omega arith)
  three (a ∷ []) h = absurd (omega arith)
  three (a ∷ b ∷ []) h = absurd (omega arith)
  three (a ∷ b ∷ c ∷ []) h = refl
  three (a ∷ b ∷ c ∷ e ∷ xs) h = absurd (omega arith)

  pub all_fields : (s : Spot) (as' : List Access) (ns : List ℕ) → length ns ≡ 3 → fields_fit d as' ns ≡ true
      → field_at d (slice_get as' 0) (slice_get (operands_at s (arg_items d as' ns)) 0) ∷ field_at d (slice_get as' 1) (slice_get (operands_at s (arg_items d as' ns)) 1)
      ∷ field_at d (slice_get as' 2) (slice_get (operands_at s (arg_items d as' ns)) 2) ∷ [] ≡ ns
  all_fields s as' ns n f =
      let os = operands_at s (arg_items d as' ns) in
      ap (λ x. x ∷ field_at d (slice_get as' 1) (slice_get os 1) ∷ field_at d (slice_get as' 2) (slice_get os 2) ∷ []) (each_field s as' ns 0 f)
      ∙ ap (λ x. slice_index ns 0 ∷ x ∷ field_at d (slice_get as' 2) (slice_get os 2) ∷ []) (each_field s as' ns 1 f)
      ∙ ap (λ x. slice_index ns 0 ∷ slice_index ns 1 ∷ x ∷ []) (each_field s as' ns 2 f)
      ∙ three ns n
