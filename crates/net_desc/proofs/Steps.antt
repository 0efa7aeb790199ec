-- What a walk that ends well says of its steps.
use Rattle.std.proofs.Common.{◌≡◌, ℕ, zero, suc, ◌+◌, ◌<◌, Bool, true, false, not, List, [], ◌∷◌, ◌++◌, length, Option, Some, None, Result, Ok, Err, All, slice_get, refl, subst, sym, ap, arith, length-append}
use Rattle.std.specs.Option.{ok_or}
use Rattle.std.proofs.lemmas.List.Elements.{All-head, All-tail}
use Rattle.net_toml.specs.declared.refusal.NetRule.{NetRule}
use Rattle.net_toml.specs.Broken.{Broken, ◌>>=◌, check}
use Rattle.net_toml.specs.Walk.{each}
use Rattle.net_desc.specs.Wiring.{each_number}

pub bind_ok : {A B : Type 0} (r : Result A Broken) (f : A → Result B Broken) (y : B) → (r >>= f) ≡ Ok y → (x : A) × (r ≡ Ok x) × (f x ≡ Ok y)
bind_ok (Ok x) f y e = (x, refl, e)
bind_ok (Err b) f y e = absurd cc

pub check_ok : (rule : NetRule) (key : List ℕ) (b : Bool) (u : Unit {0}) → check rule key b ≡ Ok u → b ≡ true
check_ok rule key true u e = refl
check_ok rule key false u e = absurd cc

pub not_true : (b : Bool) → not b ≡ true → b ≡ false
not_true true e = absurd cc
not_true false e = refl

pub ok_or_ok : {A : Type 0} (o : Option A) (b : Broken) (x : A) → ok_or o b ≡ Ok x → o ≡ Some x
ok_or_ok (Some y) b x e = let same : y ≡ x = cc in subst (λ z. Some y ≡ Some z) same refl
ok_or_ok None b x e = absurd cc

-- what each step keeps holds at the end
pub each-keeps : {A B : Type 0} (one : List A → B → Result A Broken) (Q : B → Type 0) (I : List A → Type 0)
    → ((before : List A) (x : B) (y : A) → Q x → one before x ≡ Ok y → I before → I (before ++ y ∷ []))
    → (xs : List B) (before ys : List A) → All Q xs → each one before xs ≡ Ok ys → I before → I ys
each-keeps one Q I step [] before ys q e i = let same : before ≡ ys = cc in subst I same i
each-keeps one Q I step (x ∷ xs) before ys q e i =
    let (y, is, rest) = bind_ok (one before x) (λ next. each one (before ++ next ∷ []) xs) ys e in
    each-keeps one Q I step xs (before ++ y ∷ []) ys (All-tail Q x xs q) rest (step before x y (All-head Q x xs q) is i)

-- there are as many
pub each-count : {A B : Type 0} (one : List A → B → Result A Broken) (xs : List B) (before ys : List A) → each one before xs ≡ Ok ys → length ys ≡ length before + length xs
each-count one [] before ys e = let same : before ≡ ys = cc in omega (arith, ap length (sym same))
each-count one (x ∷ xs) before ys e =
    let (y, is, rest) = bind_ok (one before x) (λ next. each one (before ++ next ∷ []) xs) ys e in
    let more : length ys ≡ length (before ++ y ∷ []) + length xs = each-count one xs (before ++ y ∷ []) ys rest in
    omega (arith, more, length-append before (y ∷ []))

-- each one was right
pub each_number-at : {A : Type 0} (one : ℕ → A → Result (Unit {0}) Broken) (xs : List A) (i k : ℕ) (x : A) (u : Unit {0})
    → each_number one i xs ≡ Ok u → slice_get xs k ≡ Some x → (j : ℕ) → j ≡ i + k → one j x ≡ Ok tt
each_number-at one [] i k x u e stands j is = absurd cc
each_number-at one (y ∷ ys) i zero x u e stands j is =
    let (v, here, rest) = bind_ok (one i y) (λ this. each_number one (i + 1) ys) u e in
    let same : y ≡ x = cc in
    let place : i ≡ j = omega (arith, is) in
    subst (λ n. one n x ≡ Ok tt) place (subst (λ z. one i z ≡ Ok tt) same here)
each_number-at one (y ∷ ys) i (suc k) x u e stands j is =
    let (v, here, rest) = bind_ok (one i y) (λ this. each_number one (i + 1) ys) u e in
    each_number-at one ys (i + 1) k x u rest stands j (omega (arith, is))

-- what stands at a place of a list
pub some_at : {A : Type 0} (xs : List A) (k : ℕ) → k < length xs → (x : A) × (slice_get xs k ≡ Some x)
some_at [] k h = absurd (omega (arith, h))
some_at (x ∷ xs) zero h = (x, refl)
some_at (x ∷ xs) (suc k) h = some_at xs k (omega (arith, h))
