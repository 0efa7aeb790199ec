-- The operands of core instructions one by one.
use Rattle.std.proofs.Common.{◌≡◌, ℕ, zero, suc, ◌≤◌, ◌<◌, ℤ, pos, List, [], ◌∷◌, length, get_or, refl, arith, sym, ap, Some, None, ◌∙◌}
use Rattle.std.specs.Prelude.{slice_get}
use Rattle.xt_mnemonics.specs.declared.mnemonic.Mnemonic.{Mnemonic}
use Rattle.xt_mnemonics.specs.declared.mnemonic.Mnemonic.TheVariants as mnemonic
use Rattle.xt_mnemonics.specs.Build.{number_at, build, filled}
use Rattle.tie_desc.specs.Description.{Description}
use Rattle.asm_lines.specs.declared.line.Operand.{Operand}
use Rattle.asm_rules.specs.declared.expected.Expected.{Expected}
use Rattle.asm_rules.specs.Operands.{Find}
use Rattle.xt_asm.specs.Bytes.{value_of, values}

pub value_here : (d : Description) (find : Find) (at : ℕ) (es : List Expected) (os : List Operand) (i : ℕ) (e : Expected) (o : Operand) → slice_get es i ≡ Some e → i < length os → o ≡ get_or os i o
    → number_at (values d find at es os) i ≡ value_of d find at e o
value_here d find at [] os i e o h lt is = absurd cc
value_here d find at (x ∷ es) [] i e o h lt is = absurd (omega arith)
value_here d find at (x ∷ es) (y ∷ os) zero e o h lt is =
    let a : x ≡ e = cc in
    ap (λ z. value_of d find at z y) a ∙ ap (value_of d find at e) (sym is)
value_here d find at (x ∷ es) (y ∷ os) (suc i) e o h lt is = value_here d find at es os i e o h (omega arith) is

pub no_value : (d : Description) (find : Find) (at : ℕ) (es : List Expected) (os : List Operand) (i : ℕ) → slice_get es i ≡ None → number_at (values d find at es os) i ≡ pos 0
no_value d find at [] os i h = refl
no_value d find at (x ∷ es) [] i h = refl
no_value d find at (x ∷ es) (y ∷ os) zero h = absurd cc
no_value d find at (x ∷ es) (y ∷ os) (suc i) h = no_value d find at es os i h

pub no_operand : (d : Description) (find : Find) (at : ℕ) (es : List Expected) (os : List Operand) (i : ℕ) → length os ≤ i → number_at (values d find at es os) i ≡ pos 0
no_operand d find at [] os i h = refl
no_operand d find at (x ∷ es) [] i h = refl
no_operand d find at (x ∷ es) (y ∷ os) zero h = absurd (omega arith)
no_operand d find at (x ∷ es) (y ∷ os) (suc i) h = no_operand d find at es os i (omega arith)

-- an instruction looks at no operand behind the fourth
pub same_built : (m : Mnemonic) (zs : List ℤ) → build m (filled zs) ≡ build m zs
same_built mnemonic.And zs = refl
same_built _ zs = refl
