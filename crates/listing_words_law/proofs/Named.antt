-- What the names of a listing name.
use Rattle.std.proofs.Common.{◌≡◌, ℕ, zero, suc, Bool, true, false, List, [], ◌∷◌, Some, None, refl, ap, sym, ◌∙◌, subst, map}
use Rattle.std.specs.Prelude.{not, slice_get, if◌then◌else◌}
use Rattle.std.specs.List.{list_all, list_any, position}
use Rattle.std.specs.Option.{option_map}
use Rattle.std.specs.Str.{bytes_eq}
use Rattle.std.specs.Char.{to_ascii_uppercase}
use Rattle.std.proofs.lemmas.Slice.Eq.{bytes_eq-Decides}
use Rattle.xt_mnemonics.specs.declared.mnemonic.Mnemonic.{Mnemonic}
use Rattle.xt_mnemonics.specs.declared.mnemonic.Mnemonic.TheVariants as mnemonic
use Rattle.xt_mnemonics.specs.Names.{name_of, named_in, every, mnemonic_named}
use Rattle.tie_desc.specs.Names.{is_word}
use Rattle.tie_desc.specs.Mnemonics.{core_mnemonics, is_core_mnemonic}
use Rattle.tie_desc.specs.Description.{Description}
use Rattle.tie_desc.specs.Invariant.{IsDescription}
use Rattle.tie_desc.specs.declared.declarations.OpDecl.{OpDecl}
use Rattle.tie_desc.specs.declared.formats.FormatDecl.{FormatDecl}
use Rattle.tie_desc.proofs.NameLemmas.{op_named-own, format_named-own}
use Rattle.tie_desc.proofs.Lists.{both_left, both_right}
use Rattle.asm_lines.specs.declared.line.Operator.TheVariants as operator
use Rattle.asm_lines.specs.Naming.{core_or, named, format_named}

-- a mnemonic is a word
pub name_word : (m : Mnemonic) → is_word (name_of m) ≡ true
name_word mnemonic.And = refl
name_word mnemonic.Or = refl
name_word mnemonic.Xor = refl
name_word mnemonic.Add = refl
name_word mnemonic.Addx2 = refl
name_word mnemonic.Addx4 = refl
name_word mnemonic.Addx8 = refl
name_word mnemonic.Sub = refl
name_word mnemonic.Subx2 = refl
name_word mnemonic.Subx4 = refl
name_word mnemonic.Subx8 = refl
name_word mnemonic.Neg = refl
name_word mnemonic.Abs = refl
name_word mnemonic.Ssr = refl
name_word mnemonic.Ssl = refl
name_word mnemonic.Ssai = refl
name_word mnemonic.Ret = refl
name_word mnemonic.Jx = refl
name_word mnemonic.Callx0 = refl
name_word mnemonic.Nop = refl
name_word mnemonic.Simcall = refl
name_word mnemonic.Slli = refl
name_word mnemonic.Srai = refl
name_word mnemonic.Srli = refl
name_word mnemonic.Src = refl
name_word mnemonic.Srl = refl
name_word mnemonic.Sll = refl
name_word mnemonic.Sra = refl
name_word mnemonic.Mul16u = refl
name_word mnemonic.Mul16s = refl
name_word mnemonic.Mull = refl
name_word mnemonic.Sext = refl
name_word mnemonic.Min = refl
name_word mnemonic.Max = refl
name_word mnemonic.Minu = refl
name_word mnemonic.Maxu = refl
name_word mnemonic.Moveqz = refl
name_word mnemonic.Movnez = refl
name_word mnemonic.Movltz = refl
name_word mnemonic.Movgez = refl
name_word mnemonic.Extui = refl
name_word mnemonic.L32r = refl
name_word mnemonic.L8ui = refl
name_word mnemonic.L16ui = refl
name_word mnemonic.L32i = refl
name_word mnemonic.L16si = refl
name_word mnemonic.S8i = refl
name_word mnemonic.S16i = refl
name_word mnemonic.S32i = refl
name_word mnemonic.Movi = refl
name_word mnemonic.Addi = refl
name_word mnemonic.Addmi = refl
name_word mnemonic.Call0 = refl
name_word mnemonic.J = refl
name_word mnemonic.Beqz = refl
name_word mnemonic.Bnez = refl
name_word mnemonic.Bltz = refl
name_word mnemonic.Bgez = refl
name_word mnemonic.Beqi = refl
name_word mnemonic.Bnei = refl
name_word mnemonic.Blti = refl
name_word mnemonic.Bgei = refl
name_word mnemonic.Bltui = refl
name_word mnemonic.Bgeui = refl
name_word mnemonic.Bnone = refl
name_word mnemonic.Beq = refl
name_word mnemonic.Blt = refl
name_word mnemonic.Bltu = refl
name_word mnemonic.Ball = refl
name_word mnemonic.Bbc = refl
name_word mnemonic.Bany = refl
name_word mnemonic.Bne = refl
name_word mnemonic.Bge = refl
name_word mnemonic.Bgeu = refl
name_word mnemonic.Bnall = refl
name_word mnemonic.Bbs = refl
name_word mnemonic.Bbci = refl
name_word mnemonic.Bbsi = refl

-- it is one of those that no operation may have
known : (m : Mnemonic) → list_any (bytes_eq (name_of m)) core_mnemonics ≡ true
unfolding core_mnemonics
known mnemonic.And = refl
known mnemonic.Or = refl
known mnemonic.Xor = refl
known mnemonic.Add = refl
known mnemonic.Addx2 = refl
known mnemonic.Addx4 = refl
known mnemonic.Addx8 = refl
known mnemonic.Sub = refl
known mnemonic.Subx2 = refl
known mnemonic.Subx4 = refl
known mnemonic.Subx8 = refl
known mnemonic.Neg = refl
known mnemonic.Abs = refl
known mnemonic.Ssr = refl
known mnemonic.Ssl = refl
known mnemonic.Ssai = refl
known mnemonic.Ret = refl
known mnemonic.Jx = refl
known mnemonic.Callx0 = refl
known mnemonic.Nop = refl
known mnemonic.Simcall = refl
known mnemonic.Slli = refl
known mnemonic.Srai = refl
known mnemonic.Srli = refl
known mnemonic.Src = refl
known mnemonic.Srl = refl
known mnemonic.Sll = refl
known mnemonic.Sra = refl
known mnemonic.Mul16u = refl
known mnemonic.Mul16s = refl
known mnemonic.Mull = refl
known mnemonic.Sext = refl
known mnemonic.Min = refl
known mnemonic.Max = refl
known mnemonic.Minu = refl
known mnemonic.Maxu = refl
known mnemonic.Moveqz = refl
known mnemonic.Movnez = refl
known mnemonic.Movltz = refl
known mnemonic.Movgez = refl
known mnemonic.Extui = refl
known mnemonic.L32r = refl
known mnemonic.L8ui = refl
known mnemonic.L16ui = refl
known mnemonic.L32i = refl
known mnemonic.L16si = refl
known mnemonic.S8i = refl
known mnemonic.S16i = refl
known mnemonic.S32i = refl
known mnemonic.Movi = refl
known mnemonic.Addi = refl
known mnemonic.Addmi = refl
known mnemonic.Call0 = refl
known mnemonic.J = refl
known mnemonic.Beqz = refl
known mnemonic.Bnez = refl
known mnemonic.Bltz = refl
known mnemonic.Bgez = refl
known mnemonic.Beqi = refl
known mnemonic.Bnei = refl
known mnemonic.Blti = refl
known mnemonic.Bgei = refl
known mnemonic.Bltui = refl
known mnemonic.Bgeui = refl
known mnemonic.Bnone = refl
known mnemonic.Beq = refl
known mnemonic.Blt = refl
known mnemonic.Bltu = refl
known mnemonic.Ball = refl
known mnemonic.Bbc = refl
known mnemonic.Bany = refl
known mnemonic.Bne = refl
known mnemonic.Bge = refl
known mnemonic.Bgeu = refl
known mnemonic.Bnall = refl
known mnemonic.Bbs = refl
known mnemonic.Bbci = refl
known mnemonic.Bbsi = refl

differs : (u : List ℕ) (m : Mnemonic) → list_any (bytes_eq u) core_mnemonics ≡ false → bytes_eq u (name_of m) ≡ false
differs u m h = by (bytes_eq u (name_of m)) refl
  where
    by : (b : Bool) → bytes_eq u (name_of m) ≡ b → bytes_eq u (name_of m) ≡ false
    by false e = e
    by true e =
        let same : name_of m ≡ u = sym ((bytes_eq-Decides u (name_of m)).0 e) in
        let k : list_any (bytes_eq u) core_mnemonics ≡ true = subst (λ z. list_any (bytes_eq z) core_mnemonics ≡ true) same (known m) in
        absurd cc

none_named : (word : List ℕ) (ms : List Mnemonic) → list_any (bytes_eq (map to_ascii_uppercase word)) core_mnemonics ≡ false → named_in word ms ≡ None
none_named word [] h = refl
none_named word (m ∷ ms) h = ap (λ b. if b then Some m else named_in word ms) (differs (map to_ascii_uppercase word) m h) ∙ none_named word ms h

not_core : (word : List ℕ) → is_core_mnemonic word ≡ false → mnemonic_named word ≡ None
unfolding is_core_mnemonic mnemonic_named
not_core word h = none_named word every h

-- a test that all pass
pub all_get : {A : Type 0} (p : A → Bool) (xs : List A) (k : ℕ) (x : A) → list_all p xs ≡ true → slice_get xs k ≡ Some x → p x ≡ true
all_get p [] k x all here = cc
all_get p (y ∷ ys) zero x all here = subst (λ z. p z ≡ true) (some_same y x here) (both_left (p y) (list_all p ys) all)
  where
    some_same : {A : Type 0} (a b : A) → Some a ≡ Some b → a ≡ b
    some_same a b e = cc
all_get p (y ∷ ys) (suc k) x all here = all_get p ys k x (both_right (p y) (list_all p ys) all) here

not_true : (b : Bool) → not b ≡ true → b ≡ false
not_true true h = absurd cc
not_true false h = refl

pub core_named : ((m : Mnemonic) → mnemonic_named (name_of m) ≡ Some m) → (d : Description) (m : Mnemonic) → named d (name_of m) ≡ Some (operator.Core m)
unfolding named
core_named again d m = ap (λ o. core_or o (option_map operator.Op (position (λ op. bytes_eq op.name (name_of m)) d.ops))) (again m)

pub op_named : (d : Description) (i : ℕ) (op : OpDecl) → IsDescription d → slice_get d.ops i ≡ Some op → named d op.name ≡ Some (operator.Op i)
unfolding named
op_named d i op is h =
    let other = not_true (is_core_mnemonic op.name) (all_get (λ o. not (is_core_mnemonic o.name)) d.ops i op is.names.mnemonics h) in
    ap (λ o. core_or o (option_map operator.Op (position (λ p. bytes_eq p.name op.name) d.ops))) (not_core op.name other)
    ∙ ap (λ o. option_map operator.Op o) (op_named-own d i op is h)

pub format_is_named : (d : Description) (i : ℕ) (f : FormatDecl) → IsDescription d → slice_get d.formats i ≡ Some f → format_named d f.name ≡ Some i
format_is_named d i f is h = format_named-own d i f is h
