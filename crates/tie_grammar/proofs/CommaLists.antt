-- Lists are read as they are spelled, and what they spell is read as them.
use Rattle.std.proofs.Common.{◌≡◌, ℕ, zero, suc, ◌+◌, ◌-◌, ◌≤◌, ◌<◌, Bool, true, false, List, [], ◌∷◌, ◌++◌, length, Option, Some, None, Ok, refl, sym, ap, subst, ◌∙◌, append_assoc, append-nil, arith, length-append, if◌then◌else◌}
use Rattle.std.specs.List.{flat_map, AllByRecursion}
use Rattle.std.proofs.lemmas.Grind.{flat_map-append}
use Rattle.tie_grammar.specs.declared.symbol.Mark.{Mark}
use Rattle.tie_grammar.specs.declared.symbol.Mark.TheVariants as m
use Rattle.tie_grammar.specs.declared.symbol.Symbol.{Symbol}
use Rattle.tie_grammar.specs.declared.symbol.Symbol.TheVariants as s
use Rattle.tie_grammar.specs.Spelling.{commas, behind_comma, IsFilled}
use Rattle.tie_grammar.specs.Reading.{Read, Parser, and_then, first, sees, sees_first, same, expect, ◌>>◌, list_from, list_turn, until, after_comma, many, more_of, some_of, any_of}
use Rattle.tie_grammar.proofs.Readers.{Reads, Anywhere, reads_then, reads_bind, reads_pure, reads_if, reads_mark, reads_says, reads_again, reads_ends}

-- what stands at the front is what the value spells
pub record Spelled {A : Type 0} (print : A → List Symbol) (Fits : A → Type 0) (a : A) (front : List Symbol) : Type 0 where
  pub is : print a ≡ front
  pub fits : Fits a

pub list_from_suc : {A : Type 0} (next : Option Symbol → Option (Parser A)) (k : ℕ) (found : List A) (ts : List Symbol) → list_from next (suc k) found ts ≡ list_turn (list_from next k) found (next (first ts)) ts
unfolding list_from
list_from_suc next k found ts = refl

pub list_from_is : {A : Type 0} (next : Option Symbol → Option (Parser A)) (k : ℕ) (found : List A) (ts : List Symbol) (o : Option (Parser A)) → length ts < k → next (first ts) ≡ o
    → list_from next k found ts ≡ list_turn (list_from next (k - 1)) found o ts
list_from_is next k found ts o lt e =
    let h : k ≡ suc (k - 1) = omega arith in
    ap (λ j. list_from next j found ts) h ∙ list_from_suc next (k - 1) found ts ∙ ap (λ z. list_turn (list_from next (k - 1)) found z ts) e

pub turn_none : {A : Type 0} (again : List A → Parser (List A)) (found : List A) (ts : List Symbol) → list_turn again found None ts ≡ Ok (found, ts)
unfolding list_turn
turn_none again found ts = refl

pub turn_one : {A : Type 0} (again : List A → Parser (List A)) (found : List A) (p : Parser A) (ts : List Symbol) → list_turn again found (Some p) ts ≡ and_then (p ts) (λ x. again (found ++ x ∷ []))
unfolding list_turn
turn_one again found p ts = refl

pub all_push : {A : Type 0} (Fits : A → Type 0) (xs : List A) (x : A) → AllByRecursion Fits xs → Fits x → AllByRecursion Fits (xs ++ x ∷ [])
all_push Fits [] x h f = (f, tt)
all_push Fits (y ∷ xs) x h f = (h.0, all_push Fits xs x h.1 f)

module _ {A : Type 0} (print : A → List Symbol) (Fits : A → Type 0) where
  -- the list that was found, and what its tokens after the first ones are
  pub record Grown (found xs : List A) (front : List Symbol) : Type 0 where
    pub is : flat_map print xs ≡ flat_map print found ++ front
    pub fits : AllByRecursion Fits xs

  pub spells_push : (xs : List A) (x : A) → flat_map print (xs ++ x ∷ []) ≡ flat_map print xs ++ print x
  spells_push xs x = flat_map-append print xs (x ∷ []) ∙ ap (λ z. flat_map print xs ++ z) (append-nil (print x))

  abbrev pub Step : Option (Parser A) → Option (Parser A) → List Symbol → Type 0
  Step None None us = Unit {0}
  Step (Some p) (Some q) us = Reads (λ vs x. q vs ≡ x) (Spelled print Fits) Anywhere us (p us)
  Step None (Some q) us = ⊥
  Step (Some p) None us = ⊥

  module _ (next nextg : Option Symbol → Option (Parser A)) (n : ℕ) (each : (us : List Symbol) → length us ≤ n → Step (next (first us)) (nextg (first us)) us) (some : (a : A) → 0 < length (print a)) where
    abbrev pub Lists : List A → List Symbol → Read (List A) → Type 0
    Lists found us x = (j : ℕ) → length us < j → list_from nextg j found us ≡ x

    -- the list ends where the next token does not go on
    abbrev pub Over : List Symbol → Type 0
    Over us = next (first us) ≡ None

    abbrev Later : ℕ → Type 0
    Later k = (found : List A) (ts : List Symbol) → length ts < k → length ts ≤ n → AllByRecursion Fits found → Reads (Lists found) (Grown found) Over ts (list_from next k found ts)

    one_turn : (k : ℕ) → Later k → (found : List A) (ts : List Symbol) → length ts < suc k → length ts ≤ n → AllByRecursion Fits found
        → (o q : Option (Parser A)) → next (first ts) ≡ o → nextg (first ts) ≡ q → Step o q ts → Reads (Lists found) (Grown found) Over ts (list_turn (list_from next k) found o ts)
    one_turn k later found ts lt len all None None over e step =
        subst (λ r. Reads (Lists found) (Grown found) Over ts r) (sym (turn_none (list_from next k) found ts))
        (record {
          front = [];
          rest = ts;
          parts = refl;
          is = refl;
          again = λ other h j lj. list_from_is nextg j found other None lj (ap nextg h ∙ e) ∙ turn_none (list_from nextg (j - 1)) found other;
          tells = (record { is = sym (append-nil (flat_map print found)); fits = all }, over);
        })
    one_turn k later found ts lt len all (Some p) (Some q) over e step =
        let go : (us : List Symbol) (j : ℕ) → first us ≡ first ts → length us < j → list_from nextg j found us ≡ and_then (q us) (λ x. list_from nextg (j - 1) (found ++ x ∷ []))
        = λ us j h lj. list_from_is nextg j found us (Some q) lj (ap nextg h ∙ e) ∙ turn_one (list_from nextg (j - 1)) found q us in
        subst (λ r. Reads (Lists found) (Grown found) Over ts r) (sym (turn_one (list_from next k) found p ts))
        (reads_then (Spelled print Fits) Anywhere (Grown found) Over (λ x. Lists (found ++ x ∷ [])) (Lists found) q (λ x. list_from next k (found ++ x ∷ [])) ts (p ts) step
        (λ x front us parts sp _.
        let sizes : length front + length us ≡ length ts = omega (arith, ap length parts, length-append front us) in
        let full : 0 < length front = omega (arith, some x, ap length sp.is) in
        reads_says (Lists (found ++ x ∷ [])) (Grown (found ++ x ∷ [])) (λ b fr. Grown found b (front ++ fr)) Over us _
        (λ b fr g. record { is = g.is ∙ ap (λ z. z ++ fr) (spells_push found x ∙ ap (λ z. flat_map print found ++ z) sp.is) ∙ append_assoc (flat_map print found) front fr; fits = g.fits })
        (later (found ++ x ∷ []) us (omega arith) (omega arith) (all_push Fits found x all sp.fits)))
        (λ x front sp. (found ++ x ∷ [], [], record { is = spells_push found x ∙ ap (λ z. flat_map print found ++ z) (sp.is ∙ sym (append-nil front)); fits = all_push Fits found x all sp.fits }))
        (λ us m h e2 j lj. go us j h lj ∙ ap (λ y. and_then y (λ x. list_from nextg (j - 1) (found ++ x ∷ []))) e2)
        (λ us front vs x y h e2 parts sp t j lj. let full : 0 < length front = omega (arith, some x, ap length sp.is) in go us j h lj ∙ ap (λ y. and_then y (λ x. list_from nextg (j - 1) (found ++ x ∷ []))) e2 ∙ t (j - 1) (omega (arith, ap length parts, length-append front vs))))
    one_turn k later found ts lt len all None (Some q) over e step = absurd step
    one_turn k later found ts lt len all (Some p) None over e step = absurd step

    pub reads_list : (k : ℕ) → Later k
    reads_list zero found ts lt len all = absurd (omega arith)
    reads_list (suc k) found ts lt len all =
        subst (λ r. Reads (Lists found) (Grown found) Over ts r) (sym (list_from_suc next k found ts))
        (one_turn k (λ f t a b c. reads_list k f t a b c) found ts lt len all (next (first ts)) (nextg (first ts)) refl refl (each ts len))

-- ---- the forms of lists in the grammar

-- a list with commas
pub record Listed {A : Type 0} (print : A → List Symbol) (Fits : A → Type 0) (xs : List A) (front : List Symbol) : Type 0 where
  pub is : commas print xs ≡ front
  pub fits : AllByRecursion Fits xs

-- one that is not empty
pub record Filled {A : Type 0} (print : A → List Symbol) (Fits : A → Type 0) (xs : List A) (front : List Symbol) : Type 0 where
  pub is : commas print xs ≡ front
  pub fits : AllByRecursion Fits xs
  pub filled : IsFilled xs

filled_is : {A : Type 0} (print : A → List Symbol) (Fits : A → Type 0) (xs : List A) (w : List Symbol) → flat_map (behind_comma print) xs ≡ s.Mark m.Comma ∷ w → AllByRecursion Fits xs → Filled print Fits xs w
filled_is print Fits [] w e all = absurd cc
filled_is print Fits (x ∷ xs) w e all = record { is = cc; fits = all; filled = tt }

module _ {A : Type 0} (print : A → List Symbol) (Fits : A → Type 0) (p q : Parser A) (n : ℕ) (each : (us : List Symbol) → length us ≤ n → Reads (λ vs x. q vs ≡ x) (Spelled print Fits) Anywhere us (p us)) where
  each_behind : (us : List Symbol) → length us ≤ n → Reads (λ vs x. (expect m.Comma >> q) vs ≡ x) (Spelled (behind_comma print) Fits) Anywhere us ((expect m.Comma >> p) us)
  each_behind us len = reads_mark (Spelled (behind_comma print) Fits) Anywhere m.Comma p q us (λ vs le.
      reads_says (λ vs x. q vs ≡ x) (Spelled print Fits) (λ a fr. Spelled (behind_comma print) Fits a (s.Mark m.Comma ∷ fr)) Anywhere vs (p vs)
      (λ a fr sp. record { is = ap (λ z. s.Mark m.Comma ∷ z) sp.is; fits = sp.fits }) (each vs (omega arith)))

  comma_step : (us : List Symbol) → length us ≤ n → (b : Bool)
      → Step (behind_comma print) Fits (if b then Some (expect m.Comma >> p) else None) (if b then Some (expect m.Comma >> q) else None) us
  comma_step us len true = each_behind us len
  comma_step us len false = tt

  steps : (us : List Symbol) → length us ≤ n → Step (behind_comma print) Fits (after_comma p (first us)) (after_comma q (first us)) us
  steps us len = comma_step us len (sees_first m.Comma (first us))

  some_symbol : (a : A) → 0 < length (behind_comma print a)
  some_symbol a = omega arith

  pub more_reads : (x : A) (front us : List Symbol) → length us ≤ n → Spelled print Fits x front → Reads (λ vs y. more_of q x vs ≡ y) (λ b fr. Filled print Fits b (front ++ fr)) Anywhere us (more_of p x us)
  unfolding more_of
  more_reads x front us len sp =
      reads_ends _ _ (Over (behind_comma print) Fits (after_comma p) (after_comma q) n steps some_symbol) Anywhere us _ (λ _ _. tt)
      (reads_again (Lists (behind_comma print) Fits (after_comma p) (after_comma q) n steps some_symbol (x ∷ [])) _ _ _ us _ (λ vs y h. h (length vs + 1) (omega arith))
      (reads_says (Lists (behind_comma print) Fits (after_comma p) (after_comma q) n steps some_symbol (x ∷ [])) (Grown (behind_comma print) Fits (x ∷ [])) _ _ us _
      (λ b fr g. filled_is print Fits b (front ++ fr) (g.is ∙ ap (λ z. (s.Mark m.Comma ∷ z) ++ fr) (append-nil (print x) ∙ sp.is)) g.fits)
      (reads_list (behind_comma print) Fits (after_comma p) (after_comma q) n steps some_symbol (length us + 1) (x ∷ []) us (omega arith) len (sp.fits, tt))))

  pub some_reads : (ts : List Symbol) → length ts ≤ n → Reads (λ us x. some_of q us ≡ x) (Filled print Fits) Anywhere ts (some_of p ts)
  unfolding some_of
  some_reads ts len = reads_bind (Spelled print Fits) Anywhere (Filled print Fits) Anywhere q (more_of p) (more_of q) ts (p ts) (each ts len) tt (λ x front us le sp _. more_reads x front us (omega arith) sp)

  abbrev any_by : (f : Parser A) → Bool → Parser (List A)
  any_by f b ts = if b then Ok ([], ts) else some_of f ts

  pub any_reads : (mark : Mark) (ts : List Symbol) → length ts ≤ n → Reads (λ us x. any_of mark q us ≡ x) (Listed print Fits) Anywhere ts (any_of mark p ts)
  unfolding any_of
  any_reads mark ts len = reads_if (Listed print Fits) Anywhere (sees_first mark) (any_by p) (any_by q) ts by_test
    where
      by_test : (b : Bool) → sees_first mark (first ts) ≡ b → Reads (λ us x. any_by q b us ≡ x) (Listed print Fits) Anywhere ts (any_by p b ts)
      by_test true e = reads_pure (Listed print Fits) Anywhere [] ts (record { is = refl; fits = tt }) tt
      by_test false e = reads_says (λ us x. some_of q us ≡ x) (Filled print Fits) (Listed print Fits) Anywhere ts (some_of p ts) (λ a fr f. record { is = f.is; fits = f.fits }) (some_reads ts len)

  until_step : (us : List Symbol) → length us ≤ n → (b : Bool) → Step print Fits (if b then None else Some p) (if b then None else Some q) us
  until_step us len true = tt
  until_step us len false = each us len

  -- parts without commas, up to the mark
  pub many_reads : (mark : Mark) → ((a : A) → 0 < length (print a)) → (ts : List Symbol) → length ts ≤ n
      → Reads (λ us x. many mark q us ≡ x) (Spelled (flat_map print) (AllByRecursion Fits)) Anywhere ts (many mark p ts)
  unfolding many
  many_reads mark some ts len =
      let next = λ (us : List Symbol) (le : length us ≤ n). until_step us le (sees_first mark (first us)) in
      reads_ends _ _ (Over print Fits (until mark p) (until mark q) n next some) Anywhere ts _ (λ _ _. tt)
      (reads_again (Lists print Fits (until mark p) (until mark q) n next some []) _ _ _ ts _ (λ vs y h. h (length vs + 1) (omega arith))
      (reads_says (Lists print Fits (until mark p) (until mark q) n next some []) (Grown print Fits []) (Spelled (flat_map print) (AllByRecursion Fits)) _ ts _
      (λ b fr g. record { is = g.is; fits = g.fits })
      (reads_list print Fits (until mark p) (until mark q) n next some (length ts + 1) [] ts (omega arith) len tt)))

-- ---- what a list spells is read as that list

module _ {A : Type 0} (print : A → List Symbol) (Fits : A → Type 0) (Behind : List Symbol → Type 0) (next : Option Symbol → Option (Parser A)) (p : Parser A) (n : ℕ)
    (start : (x : A) (us : List Symbol) → next (first (print x ++ us)) ≡ Some p)
    (behind : (xs : List A) (us : List Symbol) → Behind us → Behind (flat_map print xs ++ us))
    (again : (x : A) (us : List Symbol) → Fits x → length (print x) ≤ n → Behind us → p (print x ++ us) ≡ Ok (x, us)) (some : (a : A) → 0 < length (print a)) where
  pub list_again : (xs found : List A) (k : ℕ) (rest : List Symbol) → length (flat_map print xs ++ rest) < k → AllByRecursion Fits xs → length (flat_map print xs) ≤ n → Behind rest → next (first rest) ≡ None
      → list_from next k found (flat_map print xs ++ rest) ≡ Ok (found ++ xs, rest)
  list_again [] found k rest lt all len be e = list_from_is next k found rest None lt e ∙ turn_none (list_from next (k - 1)) found rest ∙ ap (λ z. Ok (z, rest)) (sym (append-nil found))
  list_again (x ∷ xs) found k rest lt all len be e =
      let sizes = length-append (print x) (flat_map print xs) in
      let whole = length-append (print x) (flat_map print xs ++ rest) in
      let seam = append_assoc (print x) (flat_map print xs) rest in
      ap (list_from next k found) seam
      ∙ list_from_is next k found (print x ++ (flat_map print xs ++ rest)) (Some p) (omega (arith, ap length seam)) (start x (flat_map print xs ++ rest))
      ∙ turn_one (list_from next (k - 1)) found p (print x ++ (flat_map print xs ++ rest))
      ∙ ap (λ z. and_then z (λ y. list_from next (k - 1) (found ++ y ∷ []))) (again x (flat_map print xs ++ rest) all.0 (omega arith) (behind xs rest be))
      ∙ list_again xs (found ++ x ∷ []) (k - 1) rest (omega (arith, ap length seam, some x)) all.1 (omega arith) be e
      ∙ ap (λ z. Ok (z, rest)) (append_assoc found (x ∷ []) xs)

module _ {A : Type 0} (print : A → List Symbol) (Fits : A → Type 0) (Behind : List Symbol → Type 0) (p : Parser A) (n : ℕ)
    (again : (x : A) (us : List Symbol) → Fits x → length (print x) ≤ n → Behind us → p (print x ++ us) ≡ Ok (x, us)) where
  comma_again : (x : A) (us : List Symbol) → Fits x → length (behind_comma print x) ≤ n → Behind us → (expect m.Comma >> p) (behind_comma print x ++ us) ≡ Ok (x, us)
  unfolding same
  comma_again x us fits len be = again x us fits (omega arith) be

  comma_starts : (x : A) (us : List Symbol) → after_comma p (first (behind_comma print x ++ us)) ≡ Some (expect m.Comma >> p)
  unfolding same
  comma_starts x us = refl

  no_comma : (rest : List Symbol) → sees m.Comma rest ≡ false → after_comma p (first rest) ≡ None
  no_comma rest h = ap (λ b. if b then Some (expect m.Comma >> p) else None) h

  module _ (behind : (us : List Symbol) → Behind (s.Mark m.Comma ∷ us)) where
    behind_list : (xs : List A) (us : List Symbol) → Behind us → Behind (flat_map (behind_comma print) xs ++ us)
    behind_list [] us be = be
    behind_list (x ∷ xs) us be = behind _

    pub more_again : (x : A) (xs : List A) (rest : List Symbol) → AllByRecursion Fits xs → length (flat_map (behind_comma print) xs) ≤ n → Behind rest → sees m.Comma rest ≡ false
        → more_of p x (flat_map (behind_comma print) xs ++ rest) ≡ Ok (x ∷ xs, rest)
    unfolding more_of
    more_again x xs rest all len be apart =
        list_again (behind_comma print) Fits Behind (after_comma p) (expect m.Comma >> p) n comma_starts behind_list comma_again (λ a. omega arith) xs (x ∷ []) (length (flat_map (behind_comma print) xs ++ rest) + 1) rest
        (omega arith) all len be (no_comma rest apart)

    pub some_again : (xs : List A) (rest : List Symbol) → IsFilled xs → AllByRecursion Fits xs → length (commas print xs) ≤ n → Behind rest → sees m.Comma rest ≡ false
        → some_of p (commas print xs ++ rest) ≡ Ok (xs, rest)
    unfolding some_of
    some_again [] rest filled all len be apart = absurd filled
    some_again (x ∷ xs) rest filled all len be apart =
        let sizes = length-append (print x) (flat_map (behind_comma print) xs) in
        ap (λ z. and_then (p z) (more_of p)) (append_assoc (print x) (flat_map (behind_comma print) xs) rest)
        ∙ ap (λ z. and_then z (more_of p)) (again x (flat_map (behind_comma print) xs ++ rest) all.0 (omega arith) (behind_list xs rest be))
        ∙ more_again x xs rest all.1 (omega arith) be apart

    pub any_again : (mark : Mark) → ((x : A) (us : List Symbol) → sees mark (print x ++ us) ≡ false) → (xs : List A) (rest : List Symbol) → AllByRecursion Fits xs → length (commas print xs) ≤ n → Behind rest
        → sees m.Comma rest ≡ false → sees mark rest ≡ true → any_of mark p (commas print xs ++ rest) ≡ Ok (xs, rest)
    unfolding any_of
    any_again mark starts [] rest all len be apart is = ap (λ b. if b then Ok ([], rest) else some_of p rest) is
    any_again mark starts (x ∷ xs) rest all len be apart is =
        let ts : List Symbol = commas print (x ∷ xs) ++ rest in
        let start : sees mark ts ≡ false = ap (sees mark) (append_assoc (print x) (flat_map (behind_comma print) xs) rest) ∙ starts x (flat_map (behind_comma print) xs ++ rest) in
        ap (λ b. if b then Ok ([], ts) else some_of p ts) start ∙ some_again (x ∷ xs) rest tt all len be apart

  -- parts without commas, up to the mark
  pub many_again : (mark : Mark) → ((x : A) (us : List Symbol) → sees mark (print x ++ us) ≡ false) → ((a : A) → 0 < length (print a)) → ((us : List Symbol) → Behind us)
      → (xs : List A) (rest : List Symbol) → AllByRecursion Fits xs → length (flat_map print xs) ≤ n → sees mark rest ≡ true → many mark p (flat_map print xs ++ rest) ≡ Ok (xs, rest)
  unfolding many
  many_again mark starts some any xs rest all len is =
      list_again print Fits Behind (until mark p) p n (λ x us. ap (λ b. if b then None else Some p) (starts x us)) (λ ys us _. any (flat_map print ys ++ us)) again some xs [] (length (flat_map print xs ++ rest) + 1) rest
      (omega arith) all len (any rest) (ap (λ b. if b then None else Some p) is)
