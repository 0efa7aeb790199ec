-- The first broken rule and its least place, as predicates.
use Rattle.std.proofs.Common.{◌≡◌, ◌⊎◌, inl, inr, ℕ, ◌+◌, ◌≤◌, min, List, [], ◌∷◌, Option, Some, None, refl, ap, sym, subst, ◌∙◌, arith}
use Rattle.std.proofs.Common.{Result, Ok, Err}
use Rattle.std.specs.Result.{OnOk}
use Rattle.tie_rules.specs.declared.RuleRefusal.{RuleRefusal}
use Rattle.tie_rules.specs.declared.RuleRefusal.TheVariants as refusal
use Rattle.tie_rules.specs.Answers.{Judged}
use Rattle.tie_rules.specs.Least.{earlier, least, or_later, first_broken, Among, NoPlace, NoneBroken, IsFirst}

least_none : (ps : List ℕ) → least ps ≡ None → NoPlace ps
least_none [] e q h = h
least_none (p ∷ ps) e q h = some (least ps) e
  where
    some : (o : Option ℕ) → earlier (Some p) o ≡ None → ⊥
    some None e = cc
    some (Some a) e = cc

smaller : (a b : ℕ) → (min a b ≡ a) ⊎ (min a b ≡ b)
smaller a b = grind arith

same_in_some : (x y : ℕ × ℕ) → Some x ≡ Some y → x ≡ y
same_in_some x y e = cc

least_some : (ps : List ℕ) (p : ℕ) → least ps ≡ Some p → Among p ps × ((q : ℕ) → Among q ps → p ≤ q)
least_some [] p e = absurd cc
least_some (a ∷ ps) p e = by_rest (λ b r. least_some ps b r) (least ps) refl e
  where
    by_rest : ((b : ℕ) → least ps ≡ Some b → Among b ps × ((q : ℕ) → Among q ps → b ≤ q)) → (o : Option ℕ) → least ps ≡ o → earlier (Some a) o ≡ Some p → Among p (a ∷ ps) × ((q : ℕ) → Among q (a ∷ ps) → p ≤ q)
    by_rest again None r e =
        let is : a ≡ p = cc in
        (inl (sym is), λ q h. elim h [ inl x ↦ omega arith | inr y ↦ absurd (least_none ps r q y) ])
    by_rest again (Some b) r e =
        let is : min a b ≡ p = cc in
        let rest = again b r in (
          elim (smaller a b) [ inl x ↦ inl (omega arith) | inr y ↦ (let pb : p ≡ b = omega arith in inr (subst (λ z. Among z ps) (sym pb) rest.0)) ],
          λ q h. elim h [ inl x ↦ omega arith | inr y ↦ omega (arith, rest.1 q y) ],
        )

none_broken : (n : ℕ) (rules : List (List ℕ)) → first_broken n rules ≡ None → NoneBroken rules
none_broken n [] e = tt
none_broken n (ps ∷ rules) e = by_least (λ r. none_broken (n + 1) rules r) (least ps) refl e
  where
    by_least : (first_broken (n + 1) rules ≡ None → NoneBroken rules) → (o : Option ℕ) → least ps ≡ o → or_later n o (first_broken (n + 1) rules) ≡ None → NoneBroken (ps ∷ rules)
    by_least again None r e = (least_none ps r, again e)
    by_least again (Some p) r e = absurd cc

is_first : (n : ℕ) (rules : List (List ℕ)) (k p : ℕ) → first_broken n rules ≡ Some (k, p) → IsFirst n rules k p
is_first n [] k p e = absurd cc
is_first n (ps ∷ rules) k p e = by_least (λ r. is_first (n + 1) rules k p r) (least ps) refl e
  where
    by_least : (first_broken (n + 1) rules ≡ Some (k, p) → IsFirst (n + 1) rules k p) → (o : Option ℕ) → least ps ≡ o → or_later n o (first_broken (n + 1) rules) ≡ Some (k, p) → IsFirst n (ps ∷ rules) k p
    by_least again None r e = inr (least_none ps r, again e)
    by_least again (Some a) r e =
        let both : (n, a) ≡ (k, p) = same_in_some (n, a) (k, p) e in
        let kn : n ≡ k = ap (λ (x : ℕ × ℕ). x.0) both in
        let pa : a ≡ p = ap (λ (x : ℕ × ℕ). x.1) both in
        let l = least_some ps p (r ∙ ap Some pa) in
        inl (sym kn, l.0, l.1)

pub judged_none : (r : Result (Unit {0}) RuleRefusal) (rules : List (List ℕ)) → Judged r (first_broken 1 rules) → OnOk r (NoneBroken rules)
judged_none (Ok u) rules e = none_broken 1 rules e
judged_none (Err f) rules e = tt

pub judged_first : (r : Result (Unit {0}) RuleRefusal) (rules : List (List ℕ)) → Judged r (first_broken 1 rules) → (k p : ℕ) → r ≡ Err (refusal.Rule k p) → IsFirst 1 rules k p
judged_first r rules e k p is =
    is_first 1 rules k p (subst (λ (s : Result (Unit {0}) RuleRefusal). Judged s (first_broken 1 rules)) is e)

-- ---- there is one first

pub is_one : (n : ℕ) (rules : List (List ℕ)) (k p l q : ℕ) → IsFirst n rules k p → IsFirst n rules l q → (k ≡ l) × (p ≡ q)
is_one n [] k p l q a b = absurd a
is_one n (ps ∷ rules) k p l q (inl a) (inl b) = (a.0 ∙ sym b.0, omega (arith, a.2 q b.1, b.2 p a.1))
is_one n (ps ∷ rules) k p l q (inl a) (inr b) = absurd (b.0 p a.1)
is_one n (ps ∷ rules) k p l q (inr a) (inl b) = absurd (a.0 q b.1)
is_one n (ps ∷ rules) k p l q (inr a) (inr b) = is_one (n + 1) rules k p l q a.1 b.1

pub none_first : (n : ℕ) (rules : List (List ℕ)) (k p : ℕ) → NoneBroken rules → IsFirst n rules k p → ⊥
none_first n [] k p h a = a
none_first n (ps ∷ rules) k p h (inl a) = h.0 p a.1
none_first n (ps ∷ rules) k p h (inr a) = none_first (n + 1) rules k p h.1 a.1
