-- What a parser does with a front of the symbols, whatever stands behind the next one.
use Rattle.std.proofs.Common.{◌≡◌, ℕ, ◌+◌, ◌≤◌, Bool, true, false, List, [], ◌∷◌, ◌++◌, length, Option, Some, None, Ok, Err, refl, sym, ap, subst, ◌∙◌, append_assoc, arith, rules, length-append, if◌then◌else◌}
use Rattle.tie_grammar.specs.declared.symbol.Mark.{Mark}
use Rattle.tie_grammar.specs.declared.symbol.Symbol.{Symbol}
use Rattle.tie_grammar.specs.declared.symbol.Symbol.TheVariants as s
use Rattle.tie_grammar.specs.contracts.symbol.Mark.{the_type}
use Rattle.tie_grammar.specs.Reading.{Read, Parser, and_then, first, taken, one, gone, branch, is_mark, mark_of, expect, same, ◌>>=◌, ◌>>◌}
use denote.Enum.Bare.{same_true}

-- the same with other symbols behind
abbrev pub with_rest : {A : Type 0} → Read A → List Symbol → Read A
with_rest (Ok p) other = Ok (p.0, other)
with_rest (Err k) other = Err (length other)

-- a value that was read says which symbols were taken, and where it ends; after a fault some value goes on
abbrev pub Tells : {A : Type 0} → (A → List Symbol → Type 0) → (List Symbol → Type 0) → List Symbol → List Symbol → Read A → Type 0
Tells Says Ends front rest (Ok p) = Says p.0 front × Ends rest
Tells {A} Says Ends front rest (Err k) = (a : A) × (more : List Symbol) × Says a (front ++ more)

pub record Reads {A : Type 0} (Again : List Symbol → Read A → Type 0) (Says : A → List Symbol → Type 0) (Ends : List Symbol → Type 0) (ts : List Symbol) (r : Read A) : Type 0 where
  pub front : List Symbol
  pub rest : List Symbol
  pub parts : ts ≡ front ++ rest
  pub is : r ≡ with_rest r rest
  pub again : (other : List Symbol) → first other ≡ first rest → Again (front ++ other) (with_rest r other)
  pub tells : Tells Says Ends front rest r

pub first_append : (f a b : List Symbol) → first a ≡ first b → first (f ++ a) ≡ first (f ++ b)
first_append [] a b e = e
first_append (x ∷ f) a b e = refl

abbrev rest_of : {A : Type 0} → Read A → List Symbol
rest_of (Ok p) = p.1
rest_of (Err k) = []

fault_is : {A B : Type 0} (k n : ℕ) → (let x : Read A = Err k in x) ≡ Err n → (let x : Read B = Err k in x) ≡ Err n
fault_is k n e = let h : k ≡ n = cc in ap Err h

pub shorter : (ts front rest : List Symbol) → ts ≡ front ++ rest → length rest ≤ length ts
shorter ts front rest e = omega (arith, length-append front rest, ap length e)

tells_front : {A : Type 0} (Says : A → List Symbol → Type 0) (Ends : List Symbol → Type 0) (front f rest : List Symbol) (r : Read A)
    → Tells (λ a fr. Says a (front ++ fr)) Ends f rest r → Tells Says Ends (front ++ f) rest r
tells_front Says Ends front f rest (Ok p) h = h
tells_front Says Ends front f rest (Err k) h = (h.0, h.1, subst (λ x. Says h.0 x) (sym (append_assoc front f h.1)) h.2)

-- Whatever a parser was given, there is a value that it reads from some symbols.
pub some_value : {A : Type 0} (Again : List Symbol → Read A → Type 0) (Says : A → List Symbol → Type 0) (Ends : List Symbol → Type 0) (ts : List Symbol) (r : Read A)
    → Reads Again Says Ends ts r → (a : A) × (front : List Symbol) × Says a front
some_value Again Says Ends ts (Ok v) p = (v.0, p.front, p.tells.0)
some_value Again Says Ends ts (Err k) p = (p.tells.0, p.front ++ p.tells.1, p.tells.2)

pub reads_says : {A : Type 0} (Again : List Symbol → Read A → Type 0) (Says More : A → List Symbol → Type 0) (Ends : List Symbol → Type 0) (ts : List Symbol) (r : Read A)
    → ((a : A) (fr : List Symbol) → Says a fr → More a fr) → Reads Again Says Ends ts r → Reads Again More Ends ts r
reads_says Again Says More Ends ts r h p = record { front = p.front; rest = p.rest; parts = p.parts; is = p.is; again = p.again; tells = more_tells r p.tells }
  where
    more_tells : (r : Read _) → Tells Says Ends p.front p.rest r → Tells More Ends p.front p.rest r
    more_tells (Ok v) s = (h v.0 p.front s.0, s.1)
    more_tells (Err k) s = (s.0, s.1, h s.0 (p.front ++ s.1) s.2)

pub reads_again : {A : Type 0} (Again More : List Symbol → Read A → Type 0) (Says : A → List Symbol → Type 0) (Ends : List Symbol → Type 0) (ts : List Symbol) (r : Read A)
    → ((us : List Symbol) (x : Read A) → Again us x → More us x) → Reads Again Says Ends ts r → Reads More Says Ends ts r
reads_again Again More Says Ends ts r h p = record { front = p.front; rest = p.rest; parts = p.parts; is = p.is; again = λ other e. h (p.front ++ other) _ (p.again other e); tells = p.tells }

pub reads_ends : {A : Type 0} (Again : List Symbol → Read A → Type 0) (Says : A → List Symbol → Type 0) (Ends More : List Symbol → Type 0) (ts : List Symbol) (r : Read A)
    → ((us : List Symbol) → Ends us → More us) → Reads Again Says Ends ts r → Reads Again Says More ts r
reads_ends Again Says Ends More ts r h p = record { front = p.front; rest = p.rest; parts = p.parts; is = p.is; again = p.again; tells = more_tells r p.tells }
  where
    more_tells : (r : Read _) → Tells Says Ends p.front p.rest r → Tells Says More p.front p.rest r
    more_tells (Ok v) s = (s.0, h p.rest s.1)
    more_tells (Err k) s = s

-- one parser and then another
module _ {A B : Type 0} (SaysA : A → List Symbol → Type 0) (EndsA : List Symbol → Type 0) (SaysB : B → List Symbol → Type 0) (EndsB : List Symbol → Type 0) where
  pub reads_then : (AgainB : A → List Symbol → Read B → Type 0) (Again : List Symbol → Read B → Type 0) (g : Parser A) (h : A → Parser B) (ts : List Symbol) (r : Read A)
      → Reads (λ us x. g us ≡ x) SaysA EndsA ts r
      → ((a : A) (front us : List Symbol) → ts ≡ front ++ us → SaysA a front → EndsA us → Reads (AgainB a) (λ b fr. SaysB b (front ++ fr)) EndsB us (h a us))
      → ((a : A) (front : List Symbol) → SaysA a front → (b : B) × (more : List Symbol) × SaysB b (front ++ more))
      → ((us : List Symbol) (n : ℕ) → first us ≡ first ts → g us ≡ Err n → Again us (Err n))
      → ((us front vs : List Symbol) (a : A) (x : Read B) → first us ≡ first ts → g us ≡ Ok (a, vs) → us ≡ front ++ vs → SaysA a front → AgainB a vs x → Again us x)
      → Reads Again SaysB EndsB ts (and_then r h)
  reads_then AgainB Again g h ts (Err n) p q w fails goes =
      let t = p.tells in
      let v = w t.0 (p.front ++ t.1) t.2 in
      record {
        front = p.front;
        rest = p.rest;
        parts = p.parts;
        is = fault_is _ _ p.is;
        again = λ other e. fails (p.front ++ other) (length other) (first_append p.front other p.rest e ∙ ap first (sym p.parts)) (p.again other e);
        tells = (v.0, t.1 ++ v.1, subst (λ x. SaysB v.0 x) (append_assoc p.front t.1 v.1) v.2);
      }
  reads_then AgainB Again g h ts (Ok m) p q w fails goes =
      let e1 : m.1 ≡ p.rest = ap rest_of p.is in
      let z = q m.0 p.front m.1 (p.parts ∙ ap (λ x. p.front ++ x) (sym e1)) p.tells.0 (subst EndsA (sym e1) p.tells.1) in
      record {
        front = p.front ++ z.front;
        rest = z.rest;
        parts = p.parts ∙ ap (λ x. p.front ++ x) (sym e1 ∙ z.parts) ∙ sym (append_assoc p.front z.front z.rest);
        is = z.is;
        again = λ other e.
            let e2 : first (z.front ++ other) ≡ first p.rest = first_append z.front other z.rest e ∙ ap first (sym z.parts ∙ e1) in
            subst (λ us. Again us (with_rest (h m.0 m.1) other)) (sym (append_assoc p.front z.front other))
            (goes (p.front ++ (z.front ++ other)) p.front (z.front ++ other) m.0 (with_rest (h m.0 m.1) other)
            (first_append p.front (z.front ++ other) p.rest e2 ∙ ap first (sym p.parts))
            (p.again (z.front ++ other) e2)
            refl
            p.tells.0
            (z.again other e));
        tells = tells_front SaysB EndsB p.front z.front z.rest (h m.0 m.1) z.tells;
      }

  -- where what follows the first part is no longer than so much
  pub reads_bind_to : (size : ℕ) (g : Parser A) (h k : A → Parser B) (ts : List Symbol) (r : Read A)
      → ((a : A) (front us : List Symbol) → ts ≡ front ++ us → SaysA a front → length us ≤ size)
      → Reads (λ us x. g us ≡ x) SaysA EndsA ts r
      → EndsA []
      → ((a : A) (front us : List Symbol) → length us ≤ size → SaysA a front → EndsA us → Reads (λ vs x. k a vs ≡ x) (λ b fr. SaysB b (front ++ fr)) EndsB us (h a us))
      → Reads (λ us x. and_then (g us) k ≡ x) SaysB EndsB ts (and_then r h)
  reads_bind_to size g h k ts r short p ends q =
      reads_then (λ a vs x. k a vs ≡ x) (λ us x. and_then (g us) k ≡ x) g h ts r p
      (λ a front us parts says e. q a front us (short a front us parts says) says e)
      (λ a front says. some_value (λ vs x. k a vs ≡ x) (λ b fr. SaysB b (front ++ fr)) EndsB [] (h a []) (q a front [] (omega arith) says ends))
      (λ us n _ e. ap (λ x. and_then x k) e) (λ us front vs a x _ e _ _ b. ap (λ y. and_then y k) e ∙ b)

  pub reads_bind : (g : Parser A) (h k : A → Parser B) (ts : List Symbol) (r : Read A)
      → Reads (λ us x. g us ≡ x) SaysA EndsA ts r
      → EndsA []
      → ((a : A) (front us : List Symbol) → length us ≤ length ts → SaysA a front → EndsA us → Reads (λ vs x. k a vs ≡ x) (λ b fr. SaysB b (front ++ fr)) EndsB us (h a us))
      → Reads (λ us x. and_then (g us) k ≡ x) SaysB EndsB ts (and_then r h)
  reads_bind g h k ts r p ends q = reads_bind_to (length ts) g h k ts r (λ a front us parts _. shorter ts front us parts) p ends q

pub reads_pure : {A : Type 0} (Says : A → List Symbol → Type 0) (Ends : List Symbol → Type 0) (a : A) (ts : List Symbol) → Says a [] → Ends ts
    → Reads (λ us x. Ok (a, us) ≡ x) Says Ends ts (Ok (a, ts))
reads_pure Says Ends a ts s e = record { front = []; rest = ts; parts = refl; is = refl; again = λ other h. refl; tells = (s, e) }

module _ {A : Type 0} (Says : A → List Symbol → Type 0) (Ends : List Symbol → Type 0) where
  -- where nothing is left, any value goes on
  pub reads_none : (g : Parser A) → g [] ≡ Err 0 → (a : A) (more : List Symbol) → Says a more → Reads (λ us x. g us ≡ x) Says Ends [] (Err 0)
  reads_none g none a more s = record { front = []; rest = []; parts = refl; is = refl; again = none_again g none; tells = (a, more, s) }
    where
      none_again : (g : Parser A) → g [] ≡ Err 0 → (other : List Symbol) → first other ≡ None → g other ≡ Err (length other)
      none_again g none [] e = none
      none_again g none (x ∷ other) e = absurd cc

  pub reads_refuse : (g : Parser A) (x : Symbol) (after : List Symbol) → ((other : List Symbol) → g (x ∷ other) ≡ Err (length other + 1)) → (a : A) (more : List Symbol) → Says a more
      → Reads (λ us y. g us ≡ y) Says Ends (x ∷ after) (Err (length after + 1))
  reads_refuse g x after refuses a more s = record {
    front = [];
    rest = x ∷ after;
    parts = refl;
    is = let n : length after + 1 ≡ length (x ∷ after) = omega arith in ap Err n;
    again = same_first;
    tells = (a, more, s);
  }
    where
      same_first : (other : List Symbol) → first other ≡ Some x → g other ≡ Err (length other)
      same_first [] e = absurd cc
      same_first (y ∷ other) e =
          let h : y ≡ x = cc in
          let n : length other + 1 ≡ length (y ∷ other) = omega arith in
          ap (λ z. g (z ∷ other)) h ∙ refuses other ∙ ap Err n

  -- the symbol is taken, and then the rest of the rule
  pub reads_after : (Again Then : List Symbol → Read A → Type 0) (x : Symbol) (after : List Symbol) (r : Read A)
      → ((other : List Symbol) (y : Read A) → Then other y → Again (x ∷ other) y)
      → Reads Then (λ a fr. Says a (x ∷ fr)) Ends after r
      → Reads Again Says Ends (x ∷ after) r
  reads_after Again Then x after r goes p = record {
    front = x ∷ p.front;
    rest = p.rest;
    parts = ap (λ z. x ∷ z) p.parts;
    is = p.is;
    again = λ other e. goes (p.front ++ other) (with_rest r other) (p.again other e);
    tells = again_tells r p.tells;
  }
    where
      again_tells : (r : Read A) → Tells (λ a fr. Says a (x ∷ fr)) Ends p.front p.rest r → Tells Says Ends (x ∷ p.front) p.rest r
      again_tells (Ok v) s = s
      again_tells (Err k) s = s

  pub reads_next : (g : Parser A) (x : Symbol) (after : List Symbol) (r : Read A) (h : Parser A) → ((other : List Symbol) → g (x ∷ other) ≡ h other)
      → Reads (λ us y. h us ≡ y) (λ a fr. Says a (x ∷ fr)) Ends after r
      → Reads (λ us y. g us ≡ y) Says Ends (x ∷ after) r
  reads_next g x after r h goes p = reads_after (λ us y. g us ≡ y) (λ us y. h us ≡ y) x after r (λ other y e. goes other ∙ e) p

  pub reads_one : (pick : Symbol → Option A) (ts : List Symbol)
      → ((x : Symbol) (after : List Symbol) (a : A) → ts ≡ x ∷ after → pick x ≡ Some a → Says a (x ∷ []) × Ends after)
      → (a : A) (more : List Symbol) → Says a more
      → Reads (λ us x. one pick us ≡ x) Says Ends ts (one pick ts)
  reads_one pick [] ok a more s = reads_none (one pick) refl a more s
  reads_one pick (x ∷ after) ok a more s = by_pick (pick x) refl
    where
      by_pick : (o : Option A) → pick x ≡ o → Reads (λ us y. one pick us ≡ y) Says Ends (x ∷ after) (taken o after)
      by_pick None e = reads_refuse (one pick) x after (λ other. ap (λ o. taken o other) e) a more s
      by_pick (Some v) e =
          let h = ok x after v refl e in
          reads_next (one pick) x after (Ok (v, after)) (λ us. Ok (v, us)) (λ other. ap (λ o. taken o other) e) (reads_pure (λ a fr. Says a (x ∷ fr)) Ends v after h.0 h.1)

  abbrev pub Pairs : Symbol → List Symbol → Option (Parser A) → Option (Parser A) → Type 0
  Pairs x after None None = Unit {0}
  Pairs x after (Some p) (Some q) = Reads (λ us y. q us ≡ y) (λ a fr. Says a (x ∷ fr)) Ends after (p after)
  Pairs x after None (Some q) = ⊥
  Pairs x after (Some p) None = ⊥

  pub reads_branch : (f g : Symbol → Option (Parser A)) (ts : List Symbol)
      → ((x : Symbol) (after : List Symbol) → ts ≡ x ∷ after → Pairs x after (f x) (g x))
      → (a : A) (more : List Symbol) → Says a more
      → Reads (λ us x. branch g us ≡ x) Says Ends ts (branch f ts)
  reads_branch f g [] pairs a more s = reads_none (branch g) refl a more s
  reads_branch f g (x ∷ after) pairs a more s = by_pick (f x) (g x) refl (pairs x after refl)
    where
      by_pick : (o q : Option (Parser A)) → g x ≡ q → Pairs x after o q → Reads (λ us y. branch g us ≡ y) Says Ends (x ∷ after) (gone o after)
      by_pick None None e h = reads_refuse (branch g) x after (λ other. ap (λ o. gone o other) e) a more s
      by_pick (Some p) (Some q) e h = reads_next (branch g) x after (p after) q (λ other. ap (λ o. gone o other) e) h
      by_pick None (Some q) e h = absurd h
      by_pick (Some p) None e h = absurd h

  pub reads_if : (test : Option Symbol → Bool) (f g : Bool → Parser A) (ts : List Symbol)
      → ((b : Bool) → test (first ts) ≡ b → Reads (λ us x. g b us ≡ x) Says Ends ts (f b ts))
      → Reads (λ us x. g (test (first us)) us ≡ x) Says Ends ts (f (test (first ts)) ts)
  reads_if test f g ts each =
      let p = each (test (first ts)) refl in
      record {
        front = p.front;
        rest = p.rest;
        parts = p.parts;
        is = p.is;
        again = λ other e.
            let same = first_append p.front other p.rest e ∙ ap first (sym p.parts) in
            ap (λ x. g (test x) (p.front ++ other)) same ∙ p.again other e;
        tells = p.tells;
      }

abbrev either : {A : Type 0} → Parser A → Parser A → Bool → Parser A
either p q b us = if b then p us else q us

-- one of two rules, by a test of the next symbol
pub reads_either : {A : Type 0} (Says : A → List Symbol → Type 0) (Ends : List Symbol → Type 0) (test : Option Symbol → Bool) (pf qf pg qg : Parser A) (ts : List Symbol)
    → (test (first ts) ≡ true → Reads (λ us x. pg us ≡ x) Says Ends ts (pf ts)) → (test (first ts) ≡ false → Reads (λ us x. qg us ≡ x) Says Ends ts (qf ts))
    → Reads (λ us x. (if test (first us) then pg us else qg us) ≡ x) Says Ends ts (if test (first ts) then pf ts else qf ts)
reads_either Says Ends test pf qf pg qg ts met unmet = reads_if Says Ends test (either pf qf) (either pg qg) ts each
  where
    each : (b : Bool) → test (first ts) ≡ b → Reads (λ us x. either pg qg b us ≡ x) Says Ends ts (either pf qf b ts)
    each true h = met h
    each false h = unmet h

abbrev pub Anywhere : List Symbol → Type 0
Anywhere ts = Unit {0}

-- ---- single symbols

same_marks : (x m : Mark) → same x m ≡ true → x ≡ m
unfolding same
same_marks x m e = same_true the_type (search rules) x m e

pub marked : (m : Mark) (x : Symbol) → is_mark m x ≡ true → x ≡ s.Mark m
marked m (s.Mark x) e = ap s.Mark (same_marks x m e)
marked m _ e = absurd cc

is_marked : (m : Mark) (x : Symbol) (u : Unit {0}) → mark_of m x ≡ Some u → (x ≡ s.Mark m) × Unit {0}
is_marked m (s.Mark x) u e = (ap s.Mark (same_marks x m (by_test (same x m) e)), tt)
  where
    by_test : (b : Bool) → (if b then Some tt else None) ≡ Some u → b ≡ true
    by_test true h = refl
    by_test false h = absurd cc
is_marked m _ u e = absurd cc

module _ {A : Type 0} (Says : A → List Symbol → Type 0) (Ends : List Symbol → Type 0) where
  -- a symbol that the tree keeps, and then the rest of the rule
  pub reads_token : {B : Type 0} (pick : Symbol → Option B) (back : B → Symbol) (Fit : B → Type 0)
      → ((x : Symbol) (b : B) → pick x ≡ Some b → (x ≡ back b) × Fit b)
      → (b0 : B) → Fit b0 → (h k : B → Parser A) (ts : List Symbol)
      → ((b : B) (us : List Symbol) → length us ≤ length ts → Fit b → Reads (λ vs x. k b vs ≡ x) (λ a fr. Says a (back b ∷ fr)) Ends us (h b us))
      → Reads (λ us x. (one pick >>= k) us ≡ x) Says Ends ts ((one pick >>= h) ts)
  reads_token {B} pick back Fit known b0 f0 h k ts q =
      let Is : B → List Symbol → Type 0 = λ b fr. (fr ≡ back b ∷ []) × Fit b in
      reads_bind Is Anywhere Says Ends (one pick) h k ts (one pick ts)
      (reads_one Is Anywhere pick ts (λ x after b _ e. ((ap (λ z. z ∷ []) (known x b e).0, (known x b e).1), tt)) b0 (back b0 ∷ []) (refl, f0))
      tt
      (λ b front us le fe _. subst (λ z. Reads (λ vs x. k b vs ≡ x) (λ a fr. Says a (z ++ fr)) Ends us (h b us)) (sym fe.0) (q b us le fe.1))

  pub reads_mark : (m : Mark) (h k : Parser A) (ts : List Symbol)
      → ((us : List Symbol) → length us ≤ length ts → Reads (λ vs x. k vs ≡ x) (λ a fr. Says a (s.Mark m ∷ fr)) Ends us (h us))
      → Reads (λ us x. (expect m >> k) us ≡ x) Says Ends ts ((expect m >> h) ts)
  reads_mark m h k ts q = reads_token (mark_of m) (λ _. s.Mark m) (λ _. Unit {0}) (is_marked m) tt tt (λ _. h) (λ _. k) ts (λ _ us le _. q us le)
