-- Fields of four bits, written and read.
use Rattle.std.proofs.Common.{◌≡◌, ℕ, suc, zero, ◌^◌, ◌<◌, ◌≤◌, Bool, true, false, List, [], ◌∷◌, length, refl, sym, arith, Some, get_or, nat_le, lit<, if◌then◌else◌}
use Rattle.std.specs.Prelude.{◌==◌, nat_lt, ◌&&◌, slice_get}
use Rattle.std.proofs.lemmas.Bool.Decides.{nat_tests}
use Rattle.tie_desc.specs.Description.{Description}
use Rattle.tie_desc.specs.Operands.{limit}
use Rattle.tie_desc.specs.Slots.{args_of, longest, code_bits, code_space}
use Rattle.tie_desc.specs.Spelling.{fields_fit, put}
use Rattle.tie_desc.specs.declared.declarations.Kind.{Kind}
use Rattle.tie_desc.specs.declared.declarations.Access.{Access}
use Rattle.tie_desc.specs.declared.formats.Code.{Code}
use Rattle.tie_flix.specs.Reading.{field, above}
use Rattle.tie_flix.proofs.Decided.{both, lt_of, le_of, eq_of}

-- ---- the numbers of codes

pub code_space-some : (n : ℕ) → 0 < code_space n
unfolding code_space code_bits
code_space-some n = at (nat_le n 1) (nat_le n 2) (nat_le n 4) (nat_le n 8)
  where
    at : (a b c e : Bool) → 0 < 2 ^ (if a then 0 else (if b then 1 else (if c then 2 else (if e then 3 else 4))))
    at true b c e = lit< tt
    at false true c e = lit< tt
    at false false true e = lit< tt
    at false false false true = lit< tt
    at false false false false = lit< tt

pub code_space-room : (n : ℕ) → n ≤ 16 → n ≤ code_space n
unfolding code_space code_bits
code_space-room n h = at (nat_le n 1) (nat_le n 2) (nat_le n 4) (nat_le n 8) refl refl refl refl
  where
    at : (a b c e : Bool) → nat_le n 1 ≡ a → nat_le n 2 ≡ b → nat_le n 4 ≡ c → nat_le n 8 ≡ e → n ≤ 2 ^ (if a then 0 else (if b then 1 else (if c then 2 else (if e then 3 else 4))))
    at true b c e p q r s = le_of n 1 p
    at false true c e p q r s = le_of n 2 q
    at false false true e p q r s = le_of n 4 r
    at false false false true p q r s = le_of n 8 s
    at false false false false p q r s = h

-- ---- one field

-- a field has four bits, and is 0 where the slot hasn't it
abbrev pub IsField : Bool → ℕ → Type 0
IsField u n = (n < 16) × (u ≡ false → n ≡ 0)

pub field-put : (u : Bool) (n up : ℕ) → IsField u n → field u (put u n up) ≡ n
field-put true n up h = omega (arith, h.0)
field-put false n up h = sym (h.1 refl)

pub above-put : (u : Bool) (n up : ℕ) → IsField u n → above u (put u n up) ≡ up
above-put true n up h = omega (arith, h.0)
above-put false n up h = refl

pub put-field : (u : Bool) (n : ℕ) → put u (field u n) (above u n) ≡ n
put-field true n = omega arith
put-field false n = refl

-- ---- three fields

pub record AreFields (n a b c : ℕ) : Type 0 where
  pub first : IsField (nat_lt 0 n) a
  pub second : IsField (nat_lt 1 n) b
  pub third : IsField (nat_lt 2 n) c

has_it : (i k n v : ℕ) → i < k → k ≤ n → nat_lt i n ≡ false → v ≡ 0
has_it i k n v lt le h = absurd (grind (arith, nat_tests))

abbrev pub Limited : Description → Type 0
Limited d = (k : Kind) → limit d k ≤ 16

pub fits-fields : (d : Description) (as' : List Access) (n a b c : ℕ) → Limited d → length as' ≤ n → fields_fit d as' (a ∷ b ∷ c ∷ []) ≡ true → AreFields n a b c
fits-fields d [] n a b c lim len h =
    let p = both (a == 0) _ h in let q = both (b == 0) _ p.1 in let r = both (c == 0) _ q.1 in
    let za = eq_of a 0 p.0 in let zb = eq_of b 0 q.0 in let zc = eq_of c 0 r.0 in
    record { first = (omega (arith, za), λ _. za); second = (omega (arith, zb), λ _. zb); third = (omega (arith, zc), λ _. zc) }
fits-fields d (x ∷ []) n a b c lim len h =
    let p = both (nat_lt a (limit d x.kind)) _ h in let q = both (b == 0) _ p.1 in let r = both (c == 0) _ q.1 in
    let la = lt_of a (limit d x.kind) p.0 in let zb = eq_of b 0 q.0 in let zc = eq_of c 0 r.0 in let lx = lim x.kind in
    record { first = (omega (arith, la, lx), has_it 0 1 n a (lit< tt) len); second = (omega (arith, zb), λ _. zb); third = (omega (arith, zc), λ _. zc) }
fits-fields d (x ∷ y ∷ []) n a b c lim len h =
    let p = both (nat_lt a (limit d x.kind)) _ h in let q = both (nat_lt b (limit d y.kind)) _ p.1 in let r = both (c == 0) _ q.1 in
    let la = lt_of a (limit d x.kind) p.0 in let lb = lt_of b (limit d y.kind) q.0 in let zc = eq_of c 0 r.0 in
    let lx = lim x.kind in let ly = lim y.kind in
    record { first = (omega (arith, la, lx), has_it 0 2 n a (lit< tt) len); second = (omega (arith, lb, ly), has_it 1 2 n b (lit< tt) len); third = (omega (arith, zc), λ _. zc) }
fits-fields d (x ∷ y ∷ z ∷ []) n a b c lim len h =
    let p = both (nat_lt a (limit d x.kind)) _ h in let q = both (nat_lt b (limit d y.kind)) _ p.1 in let r = both (nat_lt c (limit d z.kind)) _ q.1 in
    let la = lt_of a (limit d x.kind) p.0 in let lb = lt_of b (limit d y.kind) q.0 in let lc = lt_of c (limit d z.kind) r.0 in
    let lx = lim x.kind in let ly = lim y.kind in let lz = lim z.kind in
    record { first = (omega (arith, la, lx), has_it 0 3 n a (lit< tt) len); second = (omega (arith, lb, ly), has_it 1 3 n b (lit< tt) len); third = (omega (arith, lc, lz), has_it 2 3 n c (lit< tt) len) }
fits-fields d (x ∷ y ∷ z ∷ w ∷ ws) n a b c lim len h =
    let p = both (nat_lt a (limit d x.kind)) _ h in let q = both (nat_lt b (limit d y.kind)) _ p.1 in let r = both (nat_lt c (limit d z.kind)) _ q.1 in
    absurd (no r.1)
  where
    no : (false ≡ true) → ⊥
    no h = cc

-- the arguments of a code whose three fields fit
pub few_args : (d : Description) (as' : List Access) (a b c : ℕ) → fields_fit d as' (a ∷ b ∷ c ∷ []) ≡ true → length as' ≤ 3
few_args d [] a b c h = omega arith
few_args d (x ∷ []) a b c h = omega arith
few_args d (x ∷ y ∷ []) a b c h = omega arith
few_args d (x ∷ y ∷ z ∷ []) a b c h = omega arith
few_args d (x ∷ y ∷ z ∷ w ∷ ws) a b c h =
    let p = both (nat_lt a (limit d x.kind)) (nat_lt b (limit d y.kind) && (nat_lt c (limit d z.kind) && false)) h in
    let q = both (nat_lt b (limit d y.kind)) (nat_lt c (limit d z.kind) && false) p.1 in
    let r = both (nat_lt c (limit d z.kind)) false q.1 in absurd (no r.1)
  where
    no : (false ≡ true) → ⊥
    no h = cc

-- no listed code has more arguments than the slot has fields
pub longest-most : (d : Description) (cs : List Code) (k : ℕ) (c : Code) → slice_get cs k ≡ Some c → length (args_of d c) ≤ longest d cs
unfolding longest
longest-most d [] k c h = absurd cc
longest-most d (x ∷ cs) zero c h = let e : x ≡ c = cc in rw (← e) (omega arith)
longest-most d (x ∷ cs) (suc k) c h = let e = longest-most d cs k c h in omega (arith, e)

-- each of three fields that fit has four bits
pub fields-small : (d : Description) (as' : List Access) (fs : List ℕ) → Limited d → length fs ≡ 3 → fields_fit d as' fs ≡ true
    → (get_or fs 0 0 < 16) × (get_or fs 1 0 < 16) × (get_or fs 2 0 < 16)
fields-small d as' [] lim three ok = absurd (omega (arith, three))
fields-small d as' (a ∷ []) lim three ok = absurd (omega (arith, three))
fields-small d as' (a ∷ b ∷ []) lim three ok = absurd (omega (arith, three))
fields-small d as' (a ∷ b ∷ c ∷ []) lim three ok =
    let small = fits-fields d as' 3 a b c lim (few_args d as' a b c ok) ok in (small.first.0, small.second.0, small.third.0)
fields-small d as' (a ∷ b ∷ c ∷ e ∷ fs) lim three ok = absurd (omega (arith, three))
