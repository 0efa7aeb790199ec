-- What single symbols are, once they were taken.
use Rattle.std.proofs.Common.{◌≡◌, ◌∷◌, [], Bool, true, false, ℕ, Some, None, refl, ap, subst, codes, if◌then◌else◌}
use Rattle.std.specs.Str.{bytes_eq}
use Rattle.std.proofs.lemmas.Slice.Eq.{bytes_eq-Decides}
use Rattle.tie_grammar.specs.declared.symbol.Leaf.{Leaf}
use Rattle.tie_grammar.specs.declared.symbol.Sign.TheVariants as sign
use Rattle.tie_grammar.specs.declared.symbol.Direction.{Direction}
use Rattle.tie_grammar.specs.declared.symbol.StageWord.{StageWord}
use Rattle.tie_grammar.specs.declared.symbol.Symbol.{Symbol}
use Rattle.tie_grammar.specs.declared.symbol.Symbol.TheVariants as s
use Rattle.tie_grammar.specs.declared.tree.Literal.{Literal}
use Rattle.tie_grammar.specs.declared.tree.Literal.TheVariants as l
use Rattle.tie_grammar.specs.Spelling as spell
use Rattle.tie_grammar.specs.Reading.{name_of, number_of, literal_of, nought_of, paren_of, brace_of, direction_of, stage_of}
use Rattle.tie_grammar.specs.Decls.{minus_of}

abbrev pub Whatever : {A : Type 0} → A → Type 0
Whatever a = Unit {0}

abbrev pub no_leaf : Leaf
no_leaf = record { bytes = []; place = 0 }

pub is_name : (x : Symbol) (t : Leaf) → name_of x ≡ Some t → (x ≡ s.Name t) × Unit {0}
is_name (s.Name t) n e = let h : t ≡ n = cc in (ap s.Name h, tt)
is_name _ n e = absurd cc

pub is_number : (x : Symbol) (t : Leaf) → number_of x ≡ Some t → (x ≡ s.Number t) × Unit {0}
is_number (s.Number t) n e = let h : t ≡ n = cc in (ap s.Number h, tt)
is_number _ n e = absurd cc

pub is_literal : (x : Symbol) (t : Literal) → literal_of x ≡ Some t → spell.literal t ≡ x ∷ []
is_literal (s.Number t) n e = let h : l.Number t ≡ n = cc in subst (λ z. spell.literal z ≡ s.Number t ∷ []) h refl
is_literal (s.Sized t) n e = let h : l.Sized t ≡ n = cc in subst (λ z. spell.literal z ≡ s.Sized t ∷ []) h refl
is_literal _ n e = absurd cc

pub is_nought : (x : Symbol) (t : Leaf) → nought_of x ≡ Some t → (x ≡ s.Number t) × (t.bytes ≡ codes "0")
is_nought (s.Number t) n e = by_test (bytes_eq t.bytes (codes "0")) refl e
  where
    by_test : (b : Bool) → bytes_eq t.bytes (codes "0") ≡ b → (if b then Some t else None) ≡ Some n → (s.Number t ≡ s.Number n) × (n.bytes ≡ codes "0")
    by_test true z h = let same : t ≡ n = cc in let none : t.bytes ≡ codes "0" = (bytes_eq-Decides t.bytes (codes "0")).0 z in (ap s.Number same, subst (λ x. x.bytes ≡ codes "0") same none)
    by_test false z h = absurd cc
is_nought _ n e = absurd cc

pub is_paren : (x : Symbol) (p : ℕ) → paren_of x ≡ Some p → (x ≡ s.Paren p) × Unit {0}
is_paren (s.Paren p) n e = let h : p ≡ n = cc in (ap s.Paren h, tt)
is_paren _ n e = absurd cc

pub is_brace : (x : Symbol) (p : ℕ) → brace_of x ≡ Some p → (x ≡ s.Brace p) × Unit {0}
is_brace (s.Brace p) n e = let h : p ≡ n = cc in (ap s.Brace h, tt)
is_brace _ n e = absurd cc

pub is_direction : (x : Symbol) (d : Direction) → direction_of x ≡ Some d → (x ≡ s.Direction d) × Unit {0}
is_direction (s.Direction d) n e = let h : d ≡ n = cc in (ap s.Direction h, tt)
is_direction _ n e = absurd cc

pub is_stage : (x : Symbol) (w : StageWord) → stage_of x ≡ Some w → (x ≡ s.Stage w) × Unit {0}
is_stage (s.Stage w) n e = let h : w ≡ n = cc in (ap s.Stage h, tt)
is_stage _ n e = absurd cc

abbrev pub minus : ℕ → Symbol
minus p = s.Sign sign.Minus p

pub is_minus : (x : Symbol) (p : ℕ) → minus_of x ≡ Some p → (x ≡ minus p) × Unit {0}
is_minus (s.Sign sign.Minus p) n e = let h : p ≡ n = cc in (ap minus h, tt)
is_minus _ n e = absurd cc
