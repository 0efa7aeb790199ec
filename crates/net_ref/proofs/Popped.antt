-- Items that are popped of chosen ports.
use Rattle.std.proofs.Common.{◌≡◌, ℕ, zero, suc, ◌+◌, ◌<◌, ◌≤◌, Bool, true, false, cond, List, [], ◌∷◌, map, Option, Some, None, refl, sym, ap, ◌∙◌, subst, ⊎_elim, inl, inr, ◌⊎◌, arith}
use Rattle.std.specs.Prelude.{slice_get, if◌then◌else◌}
use Rattle.std.specs.Option.{option_map, option_and_then}
use Rattle.std.specs.List.{filter, range_with_len}
use Rattle.std.proofs.lemmas.Bool.{cases_eq, eq-eqb, ne_eqb}
use Rattle.kahn_law.specs.Worker.{heads, times}
use Rattle.net_ref.specs.Processor.{popped_of}

-- these ports, chosen of those from i to i + n - 1, each had an item
pub record Popped (ins : ℕ → List ℕ) (at : ℕ → ℕ) (f : ℕ → ℕ) (test : ℕ → Bool) (ps : List ℕ) (i n : ℕ) : Type 0 where
  pub vs : List ℕ
  pub popped : heads ins at (map f ps) ≡ Some vs
  pub here : (j : ℕ) → i ≤ j → j < i + n → popped_of ps vs j ≡ (if test j then slice_get (ins (f j)) (at (f j)) else None)
  pub before : (j : ℕ) → j < i → popped_of ps vs j ≡ None
  pub behind : (j : ℕ) → i + n ≤ j → popped_of ps vs j ≡ None

pub popped_all : (ins : ℕ → List ℕ) (at f : ℕ → ℕ) (test : ℕ → Bool) (n i : ℕ)
    → ((j : ℕ) → i ≤ j → j < i + n → test j ≡ true → (v : ℕ) × (slice_get (ins (f j)) (at (f j)) ≡ Some v))
    → Popped ins at f test (filter test (range_with_len i n)) i n
popped_all ins at f test zero i has = record {
  vs = [];
  popped = refl;
  here = λ j le lt. absurd (omega arith);
  before = λ j lt. refl;
  behind = λ j le. refl;
}
popped_all ins at f test (suc n) i has = one (test i) refl (popped_all ins at f test n (i + 1) (λ j le lt t. has j (omega arith) (omega arith) t))
  where
    first : (o : Option ℕ) (hs : Option (List ℕ)) (v : ℕ) (vs : List ℕ) → o ≡ Some v → hs ≡ Some vs → option_and_then (λ x. option_map (λ xs. x ∷ xs) hs) o ≡ Some (v ∷ vs)
    first o hs v vs e h = rw (e, h) refl

    one : (b : Bool) → test i ≡ b → Popped ins at f test (filter test (range_with_len (i + 1) n)) (i + 1) n → Popped ins at f test (cond (test i) (i ∷ filter test (range_with_len (i + 1) n)) (filter test (range_with_len (i + 1) n))) i (suc n)
    one true is p =
        let v = has i (omega arith) (omega arith) is in
        let ps = filter test (range_with_len (i + 1) n) in
        let e : cond (test i) (i ∷ ps) ps ≡ i ∷ ps = ap (λ b. cond b (i ∷ ps) ps) is in
        subst (λ qs. Popped ins at f test qs i (suc n)) (sym e) (record {
          vs = v.0 ∷ p.vs;
          popped = first (slice_get (ins (f i)) (at (f i))) (heads ins at (map f ps)) v.0 p.vs v.1 p.popped;
          here = λ j le lt.
              ⊎_elim
              (λ same. let b = eq-eqb i j same in rw b (subst (λ (k : ℕ). Some v.0 ≡ (if test k then slice_get (ins (f k)) (at (f k)) else None)) same (rw is (sym v.1))))
              (λ ne. let b = ne_eqb i j ne in rw b (p.here j (omega arith) (omega arith)))
              (cases_eq i j);
          before = λ j lt. let b = ne_eqb i j (λ s. absurd (omega arith)) in rw b (p.before j (omega arith));
          behind = λ j le. let b = ne_eqb i j (λ s. absurd (omega arith)) in rw b (p.behind j (omega arith));
        })
    one false is p =
        let ps = filter test (range_with_len (i + 1) n) in
        let e : cond (test i) (i ∷ ps) ps ≡ ps = ap (λ b. cond b (i ∷ ps) ps) is in
        subst (λ qs. Popped ins at f test qs i (suc n)) (sym e) (record {
          vs = p.vs;
          popped = p.popped;
          here = λ j le lt.
              ⊎_elim
              (λ same. subst (λ (k : ℕ). popped_of ps p.vs k ≡ (if test k then slice_get (ins (f k)) (at (f k)) else None)) same (rw is (p.before i (omega arith))))
              (λ ne. p.here j (omega arith) (omega arith))
              (cases_eq i j);
          before = λ j lt. p.before j (omega arith);
          behind = λ j le. p.behind j (omega arith);
        })

nothing_behind : (o : Option ℕ) (hs : Option (List ℕ)) → hs ≡ None → option_and_then (λ x. option_map (λ xs. x ∷ xs) hs) o ≡ None
nothing_behind None hs e = refl
nothing_behind (Some v) hs e = rw e refl

-- a chosen port without an item
pub popped_none : (ins : ℕ → List ℕ) (at f : ℕ → ℕ) (test : ℕ → Bool) (n i j : ℕ) → i ≤ j → j < i + n → test j ≡ true → slice_get (ins (f j)) (at (f j)) ≡ None
    → heads ins at (map f (filter test (range_with_len i n))) ≡ None
popped_none ins at f test zero i j le lt t none = absurd (omega arith)
popped_none ins at f test (suc n) i j le lt t none = one (test i) refl (λ ne. popped_none ins at f test n (i + 1) j (omega arith) (omega arith) t none)
  where
    differ : (a b : Bool) → a ≡ b → a ≡ false → b ≡ true → ⊥
    differ a b e f t = cc

    one : (b : Bool) → test i ≡ b → ((i ≡ j → ⊥) → heads ins at (map f (filter test (range_with_len (i + 1) n))) ≡ None)
        → heads ins at (map f (cond (test i) (i ∷ filter test (range_with_len (i + 1) n)) (filter test (range_with_len (i + 1) n)))) ≡ None
    one true is rest =
        rw is (⊎_elim
        (λ same. let e : slice_get (ins (f i)) (at (f i)) ≡ None = subst (λ (k : ℕ). slice_get (ins (f k)) (at (f k)) ≡ None) (sym same) none in rw e refl)
        (λ ne. nothing_behind (slice_get (ins (f i)) (at (f i))) (heads ins at (map f (filter test (range_with_len (i + 1) n)))) (rest ne))
        (cases_eq i j))
    one false is rest =
        rw is (⊎_elim
        (λ same. absurd (differ (test i) (test j) (ap test same) is t))
        rest
        (cases_eq i j))

-- how often a queue is among those of chosen ports: never, or once, where the ports have different queues
pub record IsOnce (f : ℕ → ℕ) (test : ℕ → Bool) (q i n : ℕ) (ps : List ℕ) : Type 0 where
  pub port : ℕ
  pub from : i ≤ port
  pub below : port < i + n
  pub passes : test port ≡ true
  pub is : f port ≡ q
  pub once : times q (map f ps) ≡ 1

pub times_none : (f : ℕ → ℕ) (test : ℕ → Bool) (q n i : ℕ) → ((j : ℕ) → i ≤ j → j < i + n → test j ≡ true → f j ≡ q → ⊥)
    → times q (map f (filter test (range_with_len i n))) ≡ 0
times_none f test q zero i never = refl
times_none f test q (suc n) i never = one (test i) refl (times_none f test q n (i + 1) (λ j le lt. never j (omega arith) (omega arith)))
  where
    one : (b : Bool) → test i ≡ b → times q (map f (filter test (range_with_len (i + 1) n))) ≡ 0
        → times q (map f (cond (test i) (i ∷ filter test (range_with_len (i + 1) n)) (filter test (range_with_len (i + 1) n)))) ≡ 0
    one true is h = let b = ne_eqb q (f i) (λ e. never i (omega arith) (omega arith) is (sym e)) in rw (is, b) (omega arith)
    one false is h = rw is h

pub times_chosen : (f : ℕ → ℕ) (test : ℕ → Bool) (q n i : ℕ) → ((j k : ℕ) → i ≤ j → j < i + n → i ≤ k → k < i + n → f j ≡ f k → j ≡ k)
    → (times q (map f (filter test (range_with_len i n))) ≡ 0) ⊎ IsOnce f test q i n (filter test (range_with_len i n))
times_chosen f test q zero i differ = inl refl
times_chosen f test q (suc n) i differ = one (test i) refl (times_chosen f test q n (i + 1) (λ j k a b c d. differ j k (omega arith) (omega arith) (omega arith) (omega arith)))
  where
    wider : (ps : List ℕ) → IsOnce f test q (i + 1) n ps → IsOnce f test q i (suc n) ps
    wider ps h = let a = h.from in let b = h.below in record { port = h.port; from = omega arith; below = omega arith; passes = h.passes; is = h.is; once = h.once }

    one : (b : Bool) → test i ≡ b
        → (times q (map f (filter test (range_with_len (i + 1) n))) ≡ 0) ⊎ IsOnce f test q (i + 1) n (filter test (range_with_len (i + 1) n))
        → (times q (map f (cond (test i) (i ∷ filter test (range_with_len (i + 1) n)) (filter test (range_with_len (i + 1) n)))) ≡ 0)
        ⊎ IsOnce f test q i (suc n) (cond (test i) (i ∷ filter test (range_with_len (i + 1) n)) (filter test (range_with_len (i + 1) n)))
    one true is rest =
        rw is (⊎_elim
        (λ same.
        let b = eq-eqb q (f i) same in
        let none = times_none f test q n (i + 1) (λ j le lt t e. let s : i ≡ j = differ i j (omega arith) (omega arith) (omega arith) (omega arith) (sym same ∙ sym e) in absurd (omega arith)) in
        inr (record { port = i; from = omega arith; below = omega arith; passes = is; is = sym same; once = rw b (omega arith) }))
        (λ ne.
        let b = ne_eqb q (f i) ne in
        ⊎_elim
        (λ (h : times q (map f (filter test (range_with_len (i + 1) n))) ≡ 0). inl (rw b (omega arith)))
        (λ (h : IsOnce f test q (i + 1) n (filter test (range_with_len (i + 1) n))). let a = h.from in let k = h.below in let o = h.once in
        inr (record { port = h.port; from = omega arith; below = omega arith; passes = h.passes; is = h.is; once = rw b (omega arith) }))
        rest)
        (cases_eq q (f i)))
    one false is rest = rw is (⊎_elim (λ h. inl h) (λ h. inr (wider (filter test (range_with_len (i + 1) n)) h)) rest)
