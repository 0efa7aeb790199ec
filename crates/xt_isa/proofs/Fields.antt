-- A word is six fields of four bits; what a word is read as, and from which fields an instruction is read.
use Rattle.std.proofs.Common.{◌≡◌, ℕ, ◌<◌, Option, Some, IfSome, refl, arith}
use Rattle.xt_isa.specs.declared.instruction.Inst.{Inst}
use Rattle.xt_isa.specs.Formats.{rrr}
use Rattle.xt_isa.specs.Reading.{read_fields}
use Rattle.xt_isa.specs.Table.{Fits, word}

pub record Fields : Type 0 where
  pub op0 : ℕ
  pub t : ℕ
  pub s : ℕ
  pub r : ℕ
  pub op1 : ℕ
  pub op2 : ℕ

-- each field has four bits
pub record AreSmall (f : Fields) : Type 0 where
  pub op0 : f.op0 < 16
  pub t : f.t < 16
  pub s : f.s < 16
  pub r : f.r < 16
  pub op1 : f.op1 < 16
  pub op2 : f.op2 < 16

abbrev pub fields : ℕ → ℕ → ℕ → ℕ → ℕ → ℕ → Fields
fields op0 t s r op1 op2 = record { op0 = op0; t = t; s = s; r = r; op1 = op1; op2 = op2 }

abbrev pub word_of : Fields → ℕ
word_of f = rrr f.op0 f.t f.s f.r f.op1 f.op2

abbrev pub read_of : Fields → Option Inst
read_of f = read_fields f.op0 f.t f.s f.r f.op1 f.op2

-- a reading is sound at a word: what is read fits, and has the word
abbrev pub IsSoundAt : ℕ → Option Inst → Type 0
IsSoundAt w reading = IfSome reading (λ inst. Fits inst × (w ≡ word inst))

-- an instruction is read from the fields of its word
abbrev pub IsRead : Inst → Type 0
IsRead inst = (f : Fields) × AreSmall f × (word_of f ≡ word inst) × (read_of f ≡ Some inst)

-- given the fields, the word and the reading
pub read_from : (inst : Inst) (op0 t s r op1 op2 : ℕ) → op0 < 16 → t < 16 → s < 16 → r < 16 → op1 < 16 → op2 < 16 → rrr op0 t s r op1 op2 ≡ word inst → read_fields op0 t s r op1 op2 ≡ Some inst → IsRead inst
read_from inst op0 t s r op1 op2 h0 ht hs hr h1 h2 w e =
    (fields op0 t s r op1 op2, record { op0 = h0; t = ht; s = hs; r = hr; op1 = h1; op2 = h2 }, w, e)

-- fields are told by their word
pub read_of-word : (f g : Fields) → AreSmall f → AreSmall g → word_of f ≡ word_of g → read_of f ≡ read_of g
read_of-word f g a b e =
    let e0 : f.op0 ≡ g.op0 = omega arith in
    let e1 : f.t ≡ g.t = omega arith in
    let e2 : f.s ≡ g.s = omega arith in
    let e3 : f.r ≡ g.r = omega arith in
    let e4 : f.op1 ≡ g.op1 = omega arith in
    let e5 : f.op2 ≡ g.op2 = omega arith in
    rw (e0, e1, e2, e3, e4, e5) refl
