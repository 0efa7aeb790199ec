-- Queues made one from each port, numbered on.
use Rattle.std.proofs.Common.{◌≡◌, ℕ, ◌+◌, ◌<◌, ◌≤◌, Bool, true, false, cond, ◌==◌, List, [], ◌∷◌, length, All, count_by, refl, sym, ◌∙◌, ap, subst, arith, zero-add}
use Rattle.std.proofs.lemmas.Bool.Decides.{nat_tests}
use Rattle.std.proofs.lemmas.List.Elements.{All-nil, All-cons}
use Rattle.tie_desc.specs.declared.declarations.QueueDecl.{QueueDecl}
use Rattle.net_toml.specs.net_parts.declared.parts.NetQueue.{NetQueue}
use Rattle.net_desc.proofs.Counting.{count_by-cons}

-- one queue of each port
pub record IsNumbered (one : ℕ → QueueDecl → NetQueue) (list : ℕ → List QueueDecl → List NetQueue) : Type 0 where
  pub none : (i : ℕ) → list i [] ≡ []
  pub more : (i : ℕ) (q : QueueDecl) (qs : List QueueDecl) → list i (q ∷ qs) ≡ one i q ∷ list (i + 1) qs

module _ (one : ℕ → QueueDecl → NetQueue) (list : ℕ → List QueueDecl → List NetQueue) (made : IsNumbered one list) where
  pub numbered-length : (i : ℕ) (qs : List QueueDecl) → length (list i qs) ≡ length qs
  numbered-length i [] = ap length (made.none i)
  numbered-length i (q ∷ qs) =
      let first : length (list i (q ∷ qs)) ≡ length (one i q ∷ list (i + 1) qs) = ap length (made.more i q qs) in
      let rest : length (list (i + 1) qs) ≡ length qs = numbered-length (i + 1) qs in
      omega (arith, first, rest)

  -- what holds of each below the end
  pub numbered-all : (P : NetQueue → Type 0) (end : ℕ) → ((i : ℕ) (q : QueueDecl) → i < end → P (one i q))
      → (i : ℕ) (qs : List QueueDecl) → i + length qs ≡ end → All P (list i qs)
  numbered-all P end each i [] e = subst (All P) (sym (made.none i)) (All-nil P)
  numbered-all P end each i (q ∷ qs) e =
      subst (All P) (sym (made.more i q qs))
      (All-cons P (one i q) (list (i + 1) qs) (each i q (omega (arith, e))) (numbered-all P end each (i + 1) qs (omega (arith, e))))

  module _ (p : NetQueue → Bool) where
    count_more : (i : ℕ) (q : QueueDecl) (qs : List QueueDecl) (b : Bool) → p (one i q) ≡ b → count_by p (list i (q ∷ qs)) ≡ cond b 1 0 + count_by p (list (i + 1) qs)
    count_more i q qs b is =
        ap (count_by p) (made.more i q qs) ∙ count_by-cons p (one i q) (list (i + 1) qs)
        ∙ ap (λ (c : Bool). cond c 1 0 + count_by p (list (i + 1) qs)) is

    -- none passes that no port gives
    pub numbered-none : ((i : ℕ) (q : QueueDecl) → p (one i q) ≡ false) → (i : ℕ) (qs : List QueueDecl) → count_by p (list i qs) ≡ 0
    numbered-none never i [] = ap (count_by p) (made.none i)
    numbered-none never i (q ∷ qs) = count_more i q qs false (never i q) ∙ zero-add (count_by p (list (i + 1) qs)) ∙ numbered-none never (i + 1) qs

    module _ (n : ℕ) (numbered : (i : ℕ) (q : QueueDecl) → p (one i q) ≡ (i == n)) where
      behind : (i : ℕ) (qs : List QueueDecl) → n < i → count_by p (list i qs) ≡ 0
      behind i [] h = ap (count_by p) (made.none i)
      behind i (q ∷ qs) h =
          let other : (i == n) ≡ false = grind (arith, nat_tests) in
          count_more i q qs false (numbered i q ∙ other) ∙ zero-add (count_by p (list (i + 1) qs)) ∙ behind (i + 1) qs (omega arith)

      one_or_later : (i : ℕ) (q : QueueDecl) (qs : List QueueDecl) (b : Bool) → (i == n) ≡ b → i ≤ n → (i + 1 ≤ n → count_by p (list (i + 1) qs) ≡ 1)
          → cond b 1 0 + count_by p (list (i + 1) qs) ≡ 1
      one_or_later i q qs true is from later =
          let same : i ≡ n = grind (arith, nat_tests) in
          ap (λ (m : ℕ). 1 + m) (behind (i + 1) qs (omega arith))
      one_or_later i q qs false is from later =
          let other : i ≡ n → ⊥ = λ same. grind (arith, nat_tests) in
          zero-add (count_by p (list (i + 1) qs)) ∙ later (omega arith)

      -- one passes that has the number
      pub numbered-one : (i : ℕ) (qs : List QueueDecl) → i ≤ n → n < i + length qs → count_by p (list i qs) ≡ 1
      numbered-one i [] from below = absurd (omega arith)
      numbered-one i (q ∷ qs) from below =
          count_more i q qs (i == n) (numbered i q) ∙ one_or_later i q qs (i == n) refl from (λ later. numbered-one (i + 1) qs later (omega arith))
