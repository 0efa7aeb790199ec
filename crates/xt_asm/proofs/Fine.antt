-- Where a rule is not broken, its test holds of each operand.
use Rattle.std.proofs.Common.{◌≡◌, ℕ, Bool, true, false, ℤ, pos, List, [], ◌∷◌, refl, arith, Option, Some, None}
use Rattle.std.specs.Prelude.{◌==◌, ◌&&◌, is_some, unwrap_or}
use Rattle.std.specs.Option.{option_map}
use Rattle.std.proofs.lemmas.Bool.Decides.{nat_tests}
use Rattle.xt_mnemonics.specs.declared.shape.Way.{Way}
use Rattle.xt_mnemonics.specs.declared.shape.Shape.{Shape}
use Rattle.xt_mnemonics.specs.declared.shape.Shape.TheVariants as shape
use Rattle.xt_mnemonics.specs.Shapes.{fits_shape, in_reach, distance}
use Rattle.tie_desc.specs.Description.{Description}
use Rattle.asm_lines.specs.declared.line.Operand.{Operand}
use Rattle.asm_rules.specs.declared.expected.Expected.{Expected}
use Rattle.asm_rules.specs.declared.expected.Expected.TheVariants as expect
use Rattle.asm_rules.specs.Operands.{Find, column_of, meant, is_kind, in_range, accepted, accepts, reaches, reached, target}
use Rattle.asm_rules.specs.Rules.{or_else, unless, judged}
use Rattle.xt_asm.specs.Bytes.{value_of}

pub none_both : {A : Type 0} (a b : Option A) → or_else a b ≡ None → (a ≡ None) × (b ≡ None)
none_both None b h = (refl, h)
none_both (Some x) b h = absurd (no h)
  where
    no : Some x ≡ None → ⊥
    no h = cc

pub unless_none : (b : Bool) (c : ℕ) → unless b c ≡ None → b ≡ true
unless_none true c h = refl
unless_none false c h = absurd (no h)
  where
    no : Some c ≡ None → ⊥
    no h = cc

pub mapped_none : {A B : Type 0} (f : A → B) (o : Option A) → option_map f o ≡ None → o ≡ None
mapped_none f None h = refl
mapped_none f (Some x) h = absurd (no h)
  where
    no : Some (f x) ≡ None → ⊥
    no h = cc

pub both : (a b : Bool) → (a && b) ≡ true → (a ≡ true) × (b ≡ true)
both true b h = (refl, h)
both false b h = absurd (no h)
  where
    no : false ≡ true → ⊥
    no h = cc

pub join : (a b : Bool) → a ≡ true → b ≡ true → (a && b) ≡ true
join true b g h = h
join false b g h = absurd (no g)
  where
    no : false ≡ true → ⊥
    no h = cc

pub eq_of : (a b : ℕ) → (a == b) ≡ true → a ≡ b
eq_of a b h = grind (arith, nat_tests)

-- ---- one operand

-- an operand that three rules let pass
pub record IsFine (d : Description) (find : Find) (at : ℕ) (e : Expected) (o : Operand) : Type 0 where
  pub kind : is_kind d e o ≡ true
  pub range : in_range d e o ≡ true
  pub reach : reaches find at e o ≡ true

-- it has a number, which its place accepts
pub has_number : (d : Description) (e : Expected) (m : Option ℤ) → is_some m ≡ true → accepted d e m ≡ true → accepts d e (unwrap_or m (pos 0)) ≡ true
has_number d e None h k = absurd (no h)
  where
    no : false ≡ true → ⊥
    no h = cc
has_number d e (Some z) h k = k

reach_fits : (way : Way) (at : ℕ) (t : Option ℕ) → reached way at t ≡ true → in_reach way (distance way at (unwrap_or t 0)) ≡ true
reach_fits way at None h = absurd (no h)
  where
    no : false ≡ true → ⊥
    no h = cc
reach_fits way at (Some t) h = h

-- what it stands for fits the shape in its place
pub shape_fits : (d : Description) (find : Find) (at : ℕ) (s : Shape) (o : Operand) → IsFine d find at (expect.Core s) o → fits_shape s (value_of d find at (expect.Core s) o) ≡ true
shape_fits d find at shape.Register o f = has_number d (expect.Core shape.Register) (meant d (expect.Core shape.Register) o) f.kind f.range
shape_fits d find at (shape.Between low high c) o f = has_number d (expect.Core (shape.Between low high c)) (meant d (expect.Core (shape.Between low high c)) o) f.kind f.range
shape_fits d find at (shape.Signed half c) o f = has_number d (expect.Core (shape.Signed half c)) (meant d (expect.Core (shape.Signed half c)) o) f.kind f.range
shape_fits d find at shape.Constant o f = has_number d (expect.Core shape.Constant) (meant d (expect.Core shape.Constant) o) f.kind f.range
shape_fits d find at shape.UnsignedConstant o f = has_number d (expect.Core shape.UnsignedConstant) (meant d (expect.Core shape.UnsignedConstant) o) f.kind f.range
shape_fits d find at (shape.Target way) o f = reach_fits way at (target find o) f.reach

-- ---- all operands

abbrev pub AreFine : Description → Find → ℕ → List Expected → List Operand → Type 0
AreFine d find at (e ∷ es) (o ∷ os) = IsFine d find at e o × AreFine d find at es os
AreFine d find at _ _ = Unit {0}

pub are_fine : (d : Description) (find : Find) (at : ℕ) (es : List Expected) (os : List Operand)
    → judged (is_kind d) es os ≡ None → judged (in_range d) es os ≡ None → judged (reaches find at) es os ≡ None → AreFine d find at es os
are_fine d find at [] os k r t = tt
are_fine d find at (e ∷ es) [] k r t = tt
are_fine d find at (e ∷ es) (o ∷ os) k r t =
    let a = none_both (unless (is_kind d e o) (column_of o)) (judged (is_kind d) es os) k in
    let b = none_both (unless (in_range d e o) (column_of o)) (judged (in_range d) es os) r in
    let c = none_both (unless (reaches find at e o) (column_of o)) (judged (reaches find at) es os) t in (
      record {
        kind = unless_none (is_kind d e o) (column_of o) a.0;
        range = unless_none (in_range d e o) (column_of o) b.0;
        reach = unless_none (reaches find at e o) (column_of o) c.0;
      },
      are_fine d find at es os a.1 b.1 c.1,
    )
