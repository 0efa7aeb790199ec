-- Reading stops at the first symbol after which no text goes on.
use Rattle.std.proofs.Common.{◌≡◌, ℕ, ◌+◌, ◌-◌, ◌≤◌, ◌<◌, List, [], ◌∷◌, ◌++◌, inl, inr, length, take, drop, Ok, Err, refl, sym, ap, subst, ◌∙◌, append_assoc, append-nil, arith, length-append, length-take}
use Rattle.std.proofs.Math.Seq.{take-append_seam, take-append-add, take-length}
use Rattle.std.proofs.lemmas.List.{take-append-drop, take-take}
use Rattle.std.proofs.lemmas.Bool.{cases_lt}
use Rattle.tie_grammar.specs.declared.symbol.Symbol.{Symbol}
use Rattle.tie_grammar.specs.declared.tree.Tree.{Tree}
use Rattle.tie_grammar.specs.Spelling as spell
use Rattle.tie_grammar.specs.Spelling.{IsText}
use Rattle.tie_grammar.specs.Grammar.{IsTree, GoesOn, IsBeyond, IsFault}
use Rattle.tie_grammar.specs.Reading.{Read, first}
use Rattle.tie_grammar.specs.Decls.{text}
use Rattle.tie_grammar.proofs.Readers.{Reads}
use Rattle.tie_grammar.proofs.CommaLists.{Spelled}
use Rattle.tie_grammar.proofs.ExprReads.{expr_reads}
use Rattle.tie_grammar.proofs.DeclReads.{text_reads}
use Rattle.tie_grammar.proofs.DeclAgain.{text_again}

-- ---- without the limit

abbrev Stopped : ℕ → List Symbol → Read Tree → Type 0
Stopped size ts r = Reads (λ us x. text size us ≡ x) (Spelled spell.tree IsText) (λ us. us ≡ []) ts r

stopped : (size : ℕ) (ts : List Symbol) → length ts ≤ size → Stopped size ts (text (length ts) ts)
stopped size ts h = text_reads (length ts) size (expr_reads (length ts) size h) ts (omega arith)

-- what is read is the text of all symbols
pub read_is : (ts : List Symbol) (t : Tree) (rest : List Symbol) → text (length ts) ts ≡ Ok (t, rest) → IsTree ts t
read_is ts t rest h = all (subst (Stopped (length ts) ts) h (stopped (length ts) ts (omega arith)))
  where
    all : Stopped (length ts) ts (Ok (t, rest)) → IsTree ts t
    all p = record { spelled = p.tells.0.is ∙ sym (append-nil p.front) ∙ ap (λ z. p.front ++ z) (sym p.tells.1) ∙ sym p.parts; fits = p.tells.0.fits }

-- a text goes on to this place, none goes on behind it, and all symbols are no text
pub record IsStuck (ts : List Symbol) (i : ℕ) : Type 0 where
  pub within : i ≤ length ts
  pub before : GoesOn (take i ts)
  pub here : i < length ts → GoesOn (take (i + 1) ts) → ⊥
  pub none : (t : Tree) → IsTree ts t → ⊥

module _ (ts : List Symbol) (k : ℕ) (faulty : text (length ts) ts ≡ Err k) where
  at : (size : ℕ) → length ts ≤ size → Stopped size ts (Err k)
  at size h = subst (Stopped size ts) faulty (stopped size ts h)

  left_is : (size : ℕ) (p : Stopped size ts (Err k)) → k ≡ length p.rest
  left_is size p = err_is k (length p.rest) p.is
    where
      err_is : (a b : ℕ) → (let x : Read Tree = Err a in x) ≡ Err b → a ≡ b
      err_is a b e = cc

  place_is : (size : ℕ) (p : Stopped size ts (Err k)) → length ts - k ≡ length p.front
  place_is size p = omega (arith, left_is size p, ap length p.parts, length-append p.front p.rest)

  clash : (a : Tree × List Symbol) (b : ℕ) → (let x : Read Tree = Ok a in x) ≡ Err b → ⊥
  clash a b e = cc

  goes_on : (p : Stopped (length ts) ts (Err k)) → GoesOn (take (length ts - k) ts)
  goes_on p =
      let front_is : take (length ts - k) ts ≡ p.front = ap (λ n. take n ts) (place_is (length ts) p) ∙ ap (take (length p.front)) p.parts ∙ take-append_seam p.front p.rest in
      (p.tells.0, p.tells.1, record { spelled = p.tells.2.is ∙ ap (λ z. z ++ p.tells.1) (sym front_is); fits = p.tells.2.fits })

  dead : (t : Tree) (more : List Symbol) → length ts - k < length ts → IsTree (take (length ts - k + 1) ts ++ more) t → ⊥
  dead t more lt tree = by_rest (at (length ts + length (spell.tree t)) (omega arith))
    where
      by_rest : Stopped (length ts + length (spell.tree t)) ts (Err k) → ⊥
      by_rest p = go p p.rest refl
        where
          go : (p : Stopped (length ts + length (spell.tree t)) ts (Err k)) (rest : List Symbol) → p.rest ≡ rest → ⊥
          go p [] e = absurd (omega (arith, left_is (length ts + length (spell.tree t)) p, ap length e))
          go p (x ∷ after) e =
              let d = length ts + length (spell.tree t) in
              let front_is : take (length ts - k + 1) ts ≡ p.front ++ x ∷ [] =
              ap (λ n. take (n + 1) ts) (place_is d p) ∙ ap (take (length p.front + 1)) (p.parts ∙ ap (λ z. p.front ++ z) e) ∙ take-append-add p.front (x ∷ after) 1 in
              let whole : spell.tree t ≡ p.front ++ (x ∷ more) = tree.spelled ∙ ap (λ z. z ++ more) front_is ∙ append_assoc p.front (x ∷ []) more in
              clash _ _ (sym (text_again d t tree.fits (omega arith)) ∙ ap (text d) whole ∙ p.again (x ∷ more) (ap first (sym e)))

  no_tree : (t : Tree) → IsTree ts t → ⊥
  no_tree t tree =
      clash _ _ (sym (text_again (length ts) t tree.fits (omega (arith, ap length tree.spelled))) ∙ ap (text (length ts)) tree.spelled ∙ faulty)

  pub left_le : k ≤ length ts
  left_le = let p = at (length ts) (omega arith) in omega (arith, left_is (length ts) p, ap length p.parts, length-append p.front p.rest)

  pub is_stuck : IsStuck ts (length ts - k)
  is_stuck = record {
    within = omega arith;
    before = goes_on (at (length ts) (omega arith));
    here = λ lt g. dead g.0 g.1 lt g.2;
    none = no_tree;
  }

abbrev value_of : Read Tree → Tree
value_of (Ok p) = p.0
value_of (Err k) = record { declarations = [] }

same_tree : (a b : Tree) → (let x : Read Tree = Ok (a, []) in x) ≡ Ok (b, []) → a ≡ b
same_tree a b e = ap value_of e

pub one_tree : (ts : List Symbol) (a b : Tree) → IsTree ts a → IsTree ts b → a ≡ b
one_tree ts a b p q =
    same_tree a b (sym (text_again (length ts) a p.fits (omega (arith, ap length p.spelled))) ∙ ap (text (length ts)) (p.spelled ∙ sym q.spelled) ∙ text_again (length ts) b q.fits (omega (arith, ap length q.spelled)))

-- ---- with the limit

-- a shorter front goes on where a longer one does
shorter_front : (ts : List Symbol) (i j : ℕ) → i ≤ j → GoesOn (take j ts) → GoesOn (take i ts)
shorter_front ts i j le g =
    let seam : take i ts ++ drop i (take j ts) ≡ take j ts = ap (λ z. z ++ drop i (take j ts)) (sym (take-take i j ts le)) ∙ take-append-drop i (take j ts) in
    (g.0, drop i (take j ts) ++ g.1, record { spelled = g.2.spelled ∙ ap (λ z. z ++ g.1) (sym seam) ∙ append_assoc (take i ts) (drop i (take j ts)) g.1; fits = g.2.fits })

tree_front : (ts : List Symbol) (t : Tree) (i : ℕ) → IsTree ts t → GoesOn (take i ts)
tree_front ts t i h = (t, drop i ts, record { spelled = h.spelled ∙ sym (take-append-drop i ts); fits = h.fits })

-- one place at most
pub one_place : (ts : List Symbol) (i j : ℕ) → IsFault ts i → IsFault ts j → i < j → ⊥
one_place ts i j p q lt =
    elim (p.here (omega (arith, q.within))) [ inl dead ↦ dead (shorter_front ts (i + 1) j (omega arith) q.before) | inr beyond ↦ q.allowed i lt beyond ]

pub one_fault : (ts : List Symbol) (i j : ℕ) → IsFault ts i → IsFault ts j → i ≡ j
one_fault ts i j p q = elim (cases_lt i j) [ inl h ↦ absurd (one_place ts i j p q h) | inr h ↦ elim (cases_lt j i) [ inl k ↦ absurd (one_place ts j i q p k) | inr k ↦ omega arith ] ]

-- no fault where there is a tree within the limit
pub not_both : (ts : List Symbol) (t : Tree) (i : ℕ) → IsTree ts t → ((k : ℕ) → IsBeyond ts k → ⊥) → IsFault ts i → ⊥
not_both ts t i h free p = elim (cases_lt i (length ts)) [
  | inl lt ↦ elim (p.here lt) [ inl dead ↦ dead (tree_front ts t (i + 1) h) | inr beyond ↦ free i beyond ]
  | inr ge ↦ p.ends (omega (arith, p.within)) t h
]

-- the symbols before a place that are within the limit
module _ (ts : List Symbol) (n : ℕ) (le : n ≤ length ts) (before : (k : ℕ) → k < n → IsBeyond ts k → ⊥) (there : n < length ts → IsBeyond ts n) where
  size_is : length (take n ts) ≡ n
  size_is = omega (arith, length-take n ts)

  sized : (r : Read Tree) → text n (take n ts) ≡ r → text (length (take n ts)) (take n ts) ≡ r
  sized r h = ap (λ k. text k (take n ts)) size_is ∙ h

  pub whole_tree : (t : Tree) (rest : List Symbol) → n ≡ length ts → text n (take n ts) ≡ Ok (t, rest) → IsTree ts t
  whole_tree t rest all h = subst (λ z. IsTree z t) (ap (λ k. take k ts) all ∙ take-length ts) (read_is (take n ts) t rest (sized _ h))

  pub whole_allowed : n ≡ length ts → (k : ℕ) → IsBeyond ts k → ⊥
  whole_allowed all k b = before k (omega (arith, b.within)) b

  -- a tree of the symbols before the first that is beyond the limit
  pub cut_fault : (t : Tree) (rest : List Symbol) → n < length ts → text n (take n ts) ≡ Ok (t, rest) → IsFault ts n
  cut_fault t rest lt h =
      let tree = read_is (take n ts) t rest (sized _ h) in
      record {
        within = le;
        before = (t, [], record { spelled = tree.spelled ∙ sym (append-nil (take n ts)); fits = tree.fits });
        allowed = before;
        here = λ _. inr (there lt);
        ends = λ e t2 p. omega arith;
      }

  pub stuck_fault : (left : ℕ) → text n (take n ts) ≡ Err left → IsFault ts (n - left)
  stuck_fault left h = by_place (subst (λ k. IsStuck (take n ts) (k - left)) size_is (is_stuck (take n ts) left (sized _ h)))
    where
      by_place : IsStuck (take n ts) (n - left) → IsFault ts (n - left)
      by_place p = record {
        within = omega arith;
        before = subst GoesOn (take-take (n - left) n ts (omega arith)) p.before;
        allowed = λ k lt. before k (omega arith);
        here = λ lt. elim (cases_lt (n - left) n) [
          | inl below ↦ inl (λ g. p.here (omega (arith, size_is)) (subst GoesOn (sym (take-take (n - left + 1) n ts (omega arith))) g))
          | inr past ↦ inr (let same : n - left ≡ n = omega arith in subst (IsBeyond ts) (sym same) (there (omega arith)))
        ];
        ends = λ e t tree. p.none t (subst (λ z. IsTree z t) (sym (let same : n ≡ length ts = omega arith in ap (λ k. take k ts) same ∙ take-length ts)) tree);
      }

  pub stuck_left : (left : ℕ) → text n (take n ts) ≡ Err left → left ≤ n
  stuck_left left h = omega (arith, left_le (take n ts) left (sized _ h), size_is)
