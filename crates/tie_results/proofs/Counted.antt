-- What an expression counts beside the names that it reads.
use Rattle.std.proofs.Common.{◌≡◌, ℕ, zero, suc, ◌+◌, ◌*◌, ◌≤◌, ◌<◌, Bool, true, false, if◌then◌else◌, List, [], ◌∷◌, ◌++◌, map, sum, refl, sym, ap, subst, ◌∙◌, arith, rules}
use Rattle.std.specs.List.{AllByRecursion}
use Rattle.std.proofs.lemmas.List.Sums.{sum_by-cons, sum-map}
use Rattle.tie_grammar.specs.declared.symbol.Leaf.{Leaf}
use Rattle.tie_grammar.specs.declared.tree.Expr.{Expr}
use Rattle.tie_grammar.specs.declared.tree.Expr.TheVariants as e
use Rattle.tie_mean.specs.Counts.{Counts, count, nodes, weighted}
use Rattle.tie_results.specs.Reads.{names_read, all_of}
use Rattle.tie_results.proofs.Induction.{Cases, everywhere}
use Rattle.tie_results.proofs.ReadForms as form

weaker : {A : Type 0} (P Q : A → Type 0) → ((x : A) → P x → Q x) → (xs : List A) → AllByRecursion P xs → AllByRecursion Q xs
weaker P Q f [] h = tt
weaker P Q f (x ∷ xs) h = (f x h.0, weaker P Q f xs h.1)

joined : {A : Type 0} (P : A → Type 0) (xs ys : List A) → AllByRecursion P xs → AllByRecursion P ys → AllByRecursion P (xs ++ ys)
joined P [] ys h k = k
joined P (x ∷ xs) ys h k = (h.0, joined P xs ys h.1 k)

front : {A : Type 0} (P : A → Type 0) (xs ys : List A) → AllByRecursion P (xs ++ ys) → AllByRecursion P xs
front P [] ys h = tt
front P (x ∷ xs) ys h = (h.0, front P xs ys h.1)

back : {A : Type 0} (P : A → Type 0) (xs ys : List A) → AllByRecursion P (xs ++ ys) → AllByRecursion P ys
back P [] ys h = h
back P (x ∷ xs) ys h = back P xs ys h.1

-- ---- a name counts no more than an expression that reads it

module _ (c : Counts) (once : (name : List ℕ) (i : ℕ) → 0 < c.times name i) where
  -- each of these names counts at most so much
  abbrev AtMost : ℕ → List ℕ → Type 0
  AtMost n name = c.name name ≤ n

  abbrev Fewer : Expr → Type 0
  Fewer x = AllByRecursion (AtMost (count c x)) (names_read c.is_table x)

  up : (m n : ℕ) → m ≤ n → (ns : List (List ℕ)) → AllByRecursion (AtMost m) ns → AllByRecursion (AtMost n) ns
  up m n h ns so = weaker (AtMost m) (AtMost n) (λ name k. omega arith) ns so

  together : (xs : List Expr) → AllByRecursion Fewer xs → AllByRecursion (AtMost (sum (map (count c) xs))) (all_of (map (names_read c.is_table) xs))
  together [] h = tt
  together (x ∷ xs) h =
      let both : sum (map (count c) (x ∷ xs)) ≡ count c x + sum (map (count c) xs) =
      sum-map (count c) (x ∷ xs) ∙ sum_by-cons (count c) x xs ∙ ap (λ n. count c x + n) (sym (sum-map (count c) xs)) in
      joined (AtMost (sum (map (count c) (x ∷ xs)))) (names_read c.is_table x) (all_of (map (names_read c.is_table) xs))
      (up (count c x) (sum (map (count c) (x ∷ xs))) (omega (arith, both)) (names_read c.is_table x) h.0)
      (up (sum (map (count c) xs)) (sum (map (count c) (x ∷ xs))) (omega (arith, both)) (all_of (map (names_read c.is_table) xs)) (together xs h.1))

  at_least_once : (t n : ℕ) → 0 < t → n ≤ t * n
  at_least_once t n h = grind arith

  as_counted : (name : List ℕ) (i : ℕ) (xs : List Expr) → AllByRecursion Fewer xs → AllByRecursion (AtMost (weighted (c.times name) i (map (count c) xs))) (all_of (map (names_read c.is_table) xs))
  as_counted name i [] h = tt
  as_counted name i (x ∷ xs) h =
      let all : ℕ = weighted (c.times name) i (map (count c) (x ∷ xs)) in
      let once_here : count c x ≤ c.times name i * count c x = at_least_once (c.times name i) (count c x) (once name i) in
      joined (AtMost all) (names_read c.is_table x) (all_of (map (names_read c.is_table) xs))
      (up (count c x) all (omega (arith, once_here)) (names_read c.is_table x) h.0)
      (up (weighted (c.times name) (i + 1) (map (count c) xs)) all (omega arith) (all_of (map (names_read c.is_table) xs)) (as_counted name (i + 1) xs h.1))

  -- by the names that a form reads and its count
  by_form : (x : Expr) (ns : List (List ℕ)) (n m : ℕ) → names_read c.is_table x ≡ ns → count c x ≡ n → m ≤ n → AllByRecursion (AtMost m) ns → Fewer x
  by_form x ns n m reads counts h so =
      subst (λ (k : ℕ). AllByRecursion (AtMost k) (names_read c.is_table x)) (sym counts)
      (subst (AllByRecursion (AtMost n)) (sym reads) (up m n h ns so))

  index_case : (n : Leaf) (x : Expr) → Fewer x → (b : Bool) → c.is_table n.bytes ≡ b → Fewer (e.Index n x)
  index_case n x h true is =
      by_form (e.Index n x) (names_read c.is_table x) (nodes c.counted 3 + count c x) (count c x)
      (form.reads-Index c.is_table n x ∙ ap (λ v. if v then names_read c.is_table x else n.bytes ∷ []) is)
      (form.count-Index c n x ∙ ap (λ v. if v then nodes c.counted 3 + count c x else nodes c.counted 1 + c.name n.bytes) is)
      (omega arith) h
  index_case n x h false is =
      by_form (e.Index n x) (n.bytes ∷ []) (nodes c.counted 1 + c.name n.bytes) (c.name n.bytes)
      (form.reads-Index c.is_table n x ∙ ap (λ v. if v then names_read c.is_table x else n.bytes ∷ []) is)
      (form.count-Index c n x ∙ ap (λ v. if v then nodes c.counted 3 + count c x else nodes c.counted 1 + c.name n.bytes) is)
      (omega arith) (omega arith, tt)

  cases : Cases Fewer
  cases = record {
    literal = λ x. by_form (e.Literal x) [] _ 0 (form.reads-Literal c.is_table x) (form.count-Literal c x) (omega arith) tt;
    name = λ n. by_form (e.Name n) (n.bytes ∷ []) _ (c.name n.bytes) (form.reads-Name c.is_table n) (form.count-Name c n) (omega arith) (omega arith, tt);
    select = λ n h l. by_form (e.Select n h l) (n.bytes ∷ []) (nodes c.counted 1 + c.name n.bytes) (c.name n.bytes) (form.reads-Select c.is_table n h l) (form.count-Select c n h l) (omega arith) (omega arith, tt);
    index = λ n x h. index_case n x h (c.is_table n.bytes) refl;
    call = λ n p xs h. by_form (e.Call n p xs) _ (c.call n.bytes + weighted (c.times n.bytes) 0 (map (count c) xs)) (weighted (c.times n.bytes) 0 (map (count c) xs)) (form.reads-Call c.is_table n p xs) (form.count-Call c n p xs) (omega arith) (as_counted n.bytes 0 xs h);
    tie = λ w p xs h. by_form (e.Tie w p xs) _ (nodes c.counted 1 + sum (map (count c) xs)) (sum (map (count c) xs)) (form.reads-Tie c.is_table w p xs) (form.count-Tie c w p xs) (omega arith) (together xs h);
    paren = λ p x h. by_form (e.Paren p x) _ _ (count c x) (form.reads-Paren c.is_table p x) (form.count-Paren c p x) (omega arith) h;
    concat = λ p xs h. by_form (e.Concat p xs) _ (nodes c.counted 1 + sum (map (count c) xs)) (sum (map (count c) xs)) (form.reads-Concat c.is_table p xs) (form.count-Concat c p xs) (omega arith) (together xs h);
    repeat = λ p n q x h. by_form (e.Repeat p n q x) _ (nodes c.counted 1 + count c x) (count c x) (form.reads-Repeat c.is_table p n q x) (form.count-Repeat c p n q x) (omega arith) h;
    unary = λ o p x h. by_form (e.Unary o p x) _ (nodes c.counted 1 + count c x) (count c x) (form.reads-Unary c.is_table o p x) (form.count-Unary c o p x) (omega arith) h;
    binary = λ o a b h k.
        let all : ℕ = nodes c.counted 1 + (count c a + count c b) in
        by_form (e.Binary o a b) _ all all (form.reads-Binary c.is_table o a b) (form.count-Binary c o a b) (omega arith)
        (joined (AtMost all) (names_read c.is_table a) (names_read c.is_table b)
        (up (count c a) all (omega arith) (names_read c.is_table a) h) (up (count c b) all (omega arith) (names_read c.is_table b) k));
    conditional = λ x a b g h k.
        let all : ℕ = nodes c.counted 1 + (count c x + (count c a + count c b)) in
        by_form (e.Conditional x a b) _ all all (form.reads-Conditional c.is_table x a b) (form.count-Conditional c x a b) (omega arith)
        (joined (AtMost all) (names_read c.is_table x) (names_read c.is_table a ++ names_read c.is_table b)
        (up (count c x) all (omega arith) (names_read c.is_table x) g)
        (joined (AtMost all) (names_read c.is_table a) (names_read c.is_table b)
        (up (count c a) all (omega arith) (names_read c.is_table a) h) (up (count c b) all (omega arith) (names_read c.is_table b) k)));
  }

  pub names_fewer : (x : Expr) → AllByRecursion (λ name. c.name name ≤ count c x) (names_read c.is_table x)
  names_fewer x = everywhere Fewer cases x

-- ---- counts see no other names than those that are read

module _ (c : Counts) (f : List ℕ → ℕ) where
  abbrev other : Counts
  other = record c { name = f }

  abbrev Agree : List ℕ → Type 0
  Agree name = c.name name ≡ f name

  abbrev Same : Expr → Type 0
  Same x = AllByRecursion Agree (names_read c.is_table x) → count c x ≡ count other x

  all_same : (xs : List Expr) → AllByRecursion Same xs → AllByRecursion Agree (all_of (map (names_read c.is_table) xs)) → map (count c) xs ≡ map (count other) xs
  all_same [] so h = refl
  all_same (x ∷ xs) so h =
      ap (λ n. n ∷ map (count c) xs) (so.0 (front Agree (names_read c.is_table x) (all_of (map (names_read c.is_table) xs)) h))
      ∙ ap (λ ns. count other x ∷ ns) (all_same xs so.1 (back Agree (names_read c.is_table x) (all_of (map (names_read c.is_table) xs)) h))

  same_index : (n : Leaf) (x : Expr) → Same x → (b : Bool) → c.is_table n.bytes ≡ b → Same (e.Index n x)
  same_index n x so true is h =
      let reads = form.reads-Index c.is_table n x ∙ ap (λ v. if v then names_read c.is_table x else n.bytes ∷ []) is in
      form.count-Index c n x ∙ ap (λ v. if v then nodes c.counted 3 + count c x else nodes c.counted 1 + c.name n.bytes) is
      ∙ ap (λ k. nodes c.counted 3 + k) (so (subst (AllByRecursion Agree) reads h))
      ∙ sym (form.count-Index other n x ∙ ap (λ v. if v then nodes c.counted 3 + count other x else nodes c.counted 1 + f n.bytes) is)
  same_index n x so false is h =
      let reads = form.reads-Index c.is_table n x ∙ ap (λ v. if v then names_read c.is_table x else n.bytes ∷ []) is in
      let one : AllByRecursion Agree (n.bytes ∷ []) = subst (AllByRecursion Agree) reads h in
      form.count-Index c n x ∙ ap (λ v. if v then nodes c.counted 3 + count c x else nodes c.counted 1 + c.name n.bytes) is
      ∙ ap (λ k. nodes c.counted 1 + k) one.0
      ∙ sym (form.count-Index other n x ∙ ap (λ v. if v then nodes c.counted 3 + count other x else nodes c.counted 1 + f n.bytes) is)

  same_cases : Cases Same
  same_cases = record {
    literal = λ x h. form.count-Literal c x ∙ sym (form.count-Literal other x);
    name = λ n h. let one : AllByRecursion Agree (n.bytes ∷ []) = subst (AllByRecursion Agree) (form.reads-Name c.is_table n) h in form.count-Name c n ∙ one.0 ∙ sym (form.count-Name other n);
    select = λ n high low h. let one : AllByRecursion Agree (n.bytes ∷ []) = subst (AllByRecursion Agree) (form.reads-Select c.is_table n high low) h in
        form.count-Select c n high low ∙ ap (λ k. nodes c.counted 1 + k) one.0 ∙ sym (form.count-Select other n high low);
    index = λ n x so. same_index n x so (c.is_table n.bytes) refl;
    call = λ n p xs so h. form.count-Call c n p xs ∙ ap (λ ks. c.call n.bytes + weighted (c.times n.bytes) 0 ks) (all_same xs so (subst (AllByRecursion Agree) (form.reads-Call c.is_table n p xs) h)) ∙ sym (form.count-Call other n p xs);
    tie = λ w p xs so h. form.count-Tie c w p xs ∙ ap (λ ks. nodes c.counted 1 + sum ks) (all_same xs so (subst (AllByRecursion Agree) (form.reads-Tie c.is_table w p xs) h)) ∙ sym (form.count-Tie other w p xs);
    paren = λ p x so h. form.count-Paren c p x ∙ so (subst (AllByRecursion Agree) (form.reads-Paren c.is_table p x) h) ∙ sym (form.count-Paren other p x);
    concat = λ p xs so h. form.count-Concat c p xs ∙ ap (λ ks. nodes c.counted 1 + sum ks) (all_same xs so (subst (AllByRecursion Agree) (form.reads-Concat c.is_table p xs) h)) ∙ sym (form.count-Concat other p xs);
    repeat = λ p n q x so h. form.count-Repeat c p n q x ∙ ap (λ k. nodes c.counted 1 + k) (so (subst (AllByRecursion Agree) (form.reads-Repeat c.is_table p n q x) h)) ∙ sym (form.count-Repeat other p n q x);
    unary = λ o p x so h. form.count-Unary c o p x ∙ ap (λ k. nodes c.counted 1 + k) (so (subst (AllByRecursion Agree) (form.reads-Unary c.is_table o p x) h)) ∙ sym (form.count-Unary other o p x);
    binary = λ o a b so_a so_b h.
        let all = subst (AllByRecursion Agree) (form.reads-Binary c.is_table o a b) h in
        form.count-Binary c o a b ∙ ap (λ k. nodes c.counted 1 + (k + count c b)) (so_a (front Agree (names_read c.is_table a) (names_read c.is_table b) all))
        ∙ ap (λ k. nodes c.counted 1 + (count other a + k)) (so_b (back Agree (names_read c.is_table a) (names_read c.is_table b) all)) ∙ sym (form.count-Binary other o a b);
    conditional = λ x a b so_x so_a so_b h.
        let all = subst (AllByRecursion Agree) (form.reads-Conditional c.is_table x a b) h in
        let arms = back Agree (names_read c.is_table x) (names_read c.is_table a ++ names_read c.is_table b) all in
        form.count-Conditional c x a b
        ∙ ap (λ k. nodes c.counted 1 + (k + (count c a + count c b))) (so_x (front Agree (names_read c.is_table x) (names_read c.is_table a ++ names_read c.is_table b) all))
        ∙ ap (λ k. nodes c.counted 1 + (count other x + (k + count c b))) (so_a (front Agree (names_read c.is_table a) (names_read c.is_table b) arms))
        ∙ ap (λ k. nodes c.counted 1 + (count other x + (count other a + k))) (so_b (back Agree (names_read c.is_table a) (names_read c.is_table b) arms))
        ∙ sym (form.count-Conditional other x a b);
  }

  pub count_same : (x : Expr) → AllByRecursion (λ name. c.name name ≡ f name) (names_read c.is_table x) → count c x ≡ count (record c { name = f }) x
  count_same x h = everywhere Same same_cases x h
