-- The sum of two expressions and a carry.
use Rattle.std.proofs.Common.{◌≡◌, ℕ, ◌+◌, ◌%◌, ◌^◌, [], ◌∷◌, ◌++◌, max, Result, Ok, Err, sym, ap, ◌∙◌, append_assoc, arith}
use Rattle.std.specs.Result.{IfOk}
use Rattle.std.specs.List.{sum_by}
use Rattle.std.proofs.lemmas.Result.{IfOk-weaker}
use Rattle.std.proofs.lemmas.List.{append-nil}
use Rattle.std.proofs.lemmas.List.Sums.{sum_by-cons}
use Rattle.std.proofs.Math.Nat.{mod-add-mod}
use Rattle.tie_expr.specs.Meaning.{Meaning as Typed, two_meaning}
use Rattle.tie_expr.specs.Tree as typed
use Rattle.tie_expr.specs.declared.node.Node.{Node}
use Rattle.tie_expr.specs.declared.ops.Op2.TheVariants as two
use Rattle.tie_translate.specs.Bounds.{IsMadeOf}
use Rattle.tie_translate.specs.Translation.{add_typed, widened}
use Rattle.tie_translate.proofs.Built.{same_at}

add_is : (a b c : Typed) (n : ℕ) → n ≡ max a.width b.width → two_meaning two.Add (two_meaning two.Add (widened a n) (widened b n)) (widened c n) ≡ add_typed a b c
add_is a b c n is =
    let make : ℕ → Typed = λ w. record { width = w; at = λ i. (a.at i + b.at i + c.at i) % 2 ^ w } in
    same_at n (λ i. ((a.at i + b.at i) % 2 ^ n + c.at i) % 2 ^ n) (λ i. (a.at i + b.at i + c.at i) % 2 ^ n) (λ i. mod-add-mod (a.at i + b.at i) (2 ^ n) (c.at i)) ∙ ap make is

pub add_means : {E : Type 0} (r : Result Node E) (a b c p q s t : Typed) (n : ℕ) → n ≡ max a.width b.width → p ≡ widened a n → q ≡ widened b n → s ≡ two_meaning two.Add p q → t ≡ widened c n
    → IfOk r (λ e. typed.meaning e ≡ two_meaning two.Add s t) → IfOk r (λ e. typed.meaning e ≡ add_typed a b c)
add_means r a b c p q s t n is_n is_p is_q is_s is_t h =
    let parts : two_meaning two.Add s t ≡ add_typed a b c =
    ap (λ (m : Typed). two_meaning two.Add m t) (is_s ∙ ap (λ (m : Typed). two_meaning two.Add m q) is_p ∙ ap (λ (m : Typed). two_meaning two.Add (widened a n) m) is_q)
    ∙ ap (λ (m : Typed). two_meaning two.Add (two_meaning two.Add (widened a n) (widened b n)) m) is_t ∙ add_is a b c n is_n in
    IfOk-weaker r (λ e. typed.meaning e ≡ two_meaning two.Add s t) (λ e. typed.meaning e ≡ add_typed a b c) (λ e is. is ∙ parts) h

three_sizes : (a b c : Node) → sum_by typed.size (a ∷ b ∷ c ∷ []) ≡ typed.size a + typed.size b + typed.size c
three_sizes a b c = omega (arith, sum_by-cons typed.size a (b ∷ c ∷ []), sum_by-cons typed.size b (c ∷ []), sum_by-cons typed.size c [])

pub add_made : {E : Type 0} (r : Result Node E) (a b c p q s t : Node) → typed.inputs p ≡ typed.inputs a → typed.inputs q ≡ typed.inputs b → typed.inputs s ≡ typed.inputs p ++ typed.inputs q → typed.inputs t ≡ typed.inputs c
    → typed.size p ≡ 4 + typed.size a → typed.size q ≡ 4 + typed.size b → typed.size s ≡ 4 + typed.size p + typed.size q → typed.size t ≡ 4 + typed.size c
    → IfOk r (λ e. typed.inputs e ≡ typed.inputs s ++ typed.inputs t) → IfOk r (λ e. typed.size e ≡ 4 + typed.size s + typed.size t) → IfOk r (IsMadeOf (a ∷ b ∷ c ∷ []))
add_made (Ok e) a b c p q s t ip iq is it np nq ns nt reads small = record {
  reads = reads ∙ ap (λ x. x ++ typed.inputs t) (is ∙ ap (λ x. x ++ typed.inputs q) ip ∙ ap (λ x. typed.inputs a ++ x) iq) ∙ ap (λ x. (typed.inputs a ++ typed.inputs b) ++ x) it
      ∙ append_assoc (typed.inputs a) (typed.inputs b) (typed.inputs c) ∙ ap (λ x. typed.inputs a ++ (typed.inputs b ++ x)) (sym (append-nil (typed.inputs c)));
  small = let sizes = three_sizes a b c in omega (arith, sizes, np, nq, ns, nt, small);
}
add_made (Err x) a b c p q s t ip iq is it np nq ns nt reads small = tt

pub mul_made : {E : Type 0} (r : Result Node E) (a b c : Node) → IfOk r (λ e. typed.inputs e ≡ typed.inputs a ++ typed.inputs b ++ typed.inputs c) → IfOk r (λ e. typed.size e ≡ 60 + typed.size a + typed.size b + typed.size c)
    → IfOk r (IsMadeOf (a ∷ b ∷ c ∷ []))
mul_made (Ok e) a b c reads small = record {
  reads = reads ∙ append_assoc (typed.inputs a) (typed.inputs b) (typed.inputs c) ∙ ap (λ x. typed.inputs a ++ (typed.inputs b ++ x)) (sym (append-nil (typed.inputs c)));
  small = let sizes = three_sizes a b c in omega (arith, sizes, small);
}
mul_made (Err x) a b c reads small = tt
