-- A sound literal is a constant.
use Rattle.std.proofs.Common.{◌≡◌, ℕ, ◌%◌, ◌^◌, ◌≤◌, ◌<◌, IsTrue, Option, Some, None, SomeIff, unwrap_or, ap, ◌∙◌, arith}
use Rattle.std.proofs.lemmas.Bool.{and_parts, ltb-true}
use Rattle.std.proofs.Math.Nat.{pow-le-pow_right, mod-eq_of_lt}
use Rattle.tie_expr.specs.Word.{Word}
use Rattle.tie_expr.specs.Meaning.{Meaning as Typed, constant_meaning}
use Rattle.tie_grammar.specs.declared.tree.Literal.{Literal}
use Rattle.tie_mean.specs.Literals.{literal_sound, literal_value, literal_width, literal_fits, is_width, capped}
use Rattle.tie_translate.specs.Translation.{widened, constant_typed}
use Rattle.tie_translate.proofs.Own.{has_width}

exact : (r : Option ℕ) (n : ℕ) → n < 2 ^ 128 → SomeIff r (n < 2 ^ 128) n → unwrap_or r 0 ≡ n
exact None n below h = absurd (h below)
exact (Some y) n below h = h.1

pub constant_is : (x : Literal) (r : Option ℕ) (v w n : ℕ) (b : Word) (c : Typed) → IsTrue (literal_sound x) → SomeIff r (literal_value x < 2 ^ 128) (literal_value x) → v ≡ unwrap_or r 0
    → w ≡ capped (literal_width x) → b ≡ (let word : Word = record { width = w; value = v % 2 ^ w } in word) → c ≡ constant_meaning b → widened c n ≡ constant_typed n (literal_value x)
constant_is x r v w n b c sound is_r is_v is_w is_b is_c =
    let p = and_parts (is_width (literal_width x)) (literal_fits (literal_width x) x) sound in
    let width = has_width (literal_width x) p.0 in
    let high : literal_width x ≤ 128 = width.high in
    let same : w ≡ literal_width x = omega (arith, is_w, high) in
    let fits : literal_value x < 2 ^ literal_width x = ltb-true (literal_value x) (2 ^ literal_width x) p.1 in
    let powers : 2 ^ literal_width x ≤ 2 ^ 128 = pow-le-pow_right {n = 2} (omega arith) {i = literal_width x} {j = 128} high in
    let below : literal_value x < 2 ^ 128 = omega arith in
    let value : v ≡ literal_value x = is_v ∙ exact r (literal_value x) below is_r in
    let cut : v % 2 ^ w ≡ literal_value x = ap (λ k. v % 2 ^ k) same ∙ ap (λ k. k % 2 ^ literal_width x) value ∙ mod-eq_of_lt fits in
    ap (λ (m : Typed). widened m n) (is_c ∙ ap constant_meaning is_b) ∙ ap (constant_typed n) cut
