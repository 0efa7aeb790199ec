-- Local runs: longer inputs change nothing, inputs that agree give the same run, and what a run consumed suffices for it.
use Rattle.std.proofs.Common.{◌≡◌, ℕ, zero, suc, ◌+◌, ◌-◌, ◌<◌, ◌≤◌, Bool, true, false, List, [], ◌∷◌, length, take, Option, Some, None, refl, sym, ap, ◌∙◌, subst, inl, inr, ⊎_elim, arith}
use Rattle.std.specs.Prelude.{slice_get, if◌then◌else◌, ◌⊎◌, ◌==◌, ◌&&◌, not}
use Rattle.std.specs.Option.{option_map, option_and_then}
use Rattle.std.proofs.lemmas.Bool.{cases_lt, cases_eq, eq-eqb, ne_eqb, false≢true}
use Rattle.std.proofs.lemmas.Option.{none-some, same_Some, slice_get_within}
use Rattle.kahn_law.specs.Worker.{Rule, Local, IsRegular, may_move, times, heads, moved, move, start, loc}
use Rattle.kahn_law.specs.Laws.{Agree, OnlyGrows, LocalRuns}
use Rattle.kahn_law.proofs.Lists.{IsWithin, within_append, within_of_prefix, prefix_of_within, item_of_take}

-- the values at a worker's input ports
abbrev pub Inputs : Type 0 → Type 0
Inputs V = ℕ → List V

abbrev pub AllWithin : {V : Type 0} → Inputs V → Inputs V → Type 0
AllWithin ins more = (port : ℕ) → IsWithin (ins port) (more port)

abbrev pub AllAgree : {V : Type 0} → Inputs V → Inputs V → Type 0
AllAgree a b = (port : ℕ) → Agree (a port) (b port)

-- the heads of a first port and of the others, where all are there
pub both_heads : {V : Type 0} (o : Option V) (os : Option (List V)) (vs : List V) → option_and_then (λ v. option_map (λ us. v ∷ us) os) o ≡ Some vs → (v : V) × (us : List V) × (o ≡ Some v) × (os ≡ Some us) × (v ∷ us ≡ vs)
both_heads None os vs e = absurd (none-some vs e)
both_heads (Some v) None vs e = absurd (none-some vs e)
both_heads (Some v) (Some us) vs e = (v, us, refl, refl, same_Some (v ∷ us) vs e)

pub join_heads : {V : Type 0} (ins : Inputs V) (at : ℕ → ℕ) (p : ℕ) (ps : List ℕ) (v : V) (us : List V) → slice_get (ins p) (at p) ≡ Some v → heads ins at ps ≡ Some us → heads ins at (p ∷ ps) ≡ Some (v ∷ us)
join_heads ins at p ps v us e f = rw (e, f)

-- other inputs that have what stands at the heads have the same heads
pub heads_of_items : {V : Type 0} (a b : Inputs V) (at : ℕ → ℕ) (ps : List ℕ) → ((p : ℕ) (v : V) → 1 ≤ times p ps → slice_get (a p) (at p) ≡ Some v → slice_get (b p) (at p) ≡ Some v)
    → (vs : List V) → heads a at ps ≡ Some vs → heads b at ps ≡ Some vs
heads_of_items a b at [] h vs e = e
heads_of_items {V} a b at (p ∷ ps) h vs e =
    let m = both_heads (slice_get (a p) (at p)) (heads a at ps) vs e in
    let here : (p == p) ≡ true = eq-eqb p p refl in
    let once : 1 ≤ times p (p ∷ ps) = rw here (omega arith) in
    let rest : (q : ℕ) (v : V) → 1 ≤ times q ps → slice_get (a q) (at q) ≡ Some v → slice_get (b q) (at q) ≡ Some v = λ q v o. h q v (omega arith) in
    join_heads b at p ps m.0 m.1 (h p m.0 once m.2) (heads_of_items a b at ps rest m.1 m.3) ∙ ap Some m.4

pub heads_longer : {V : Type 0} (a b : Inputs V) (at : ℕ → ℕ) → AllWithin a b → (ps : List ℕ) (vs : List V) → heads a at ps ≡ Some vs → heads b at ps ≡ Some vs
heads_longer a b at g ps vs e = heads_of_items a b at ps (λ p v once s. g p (at p) v s) vs e

pub heads_agree : {V : Type 0} (a b : Inputs V) (at : ℕ → ℕ) → AllAgree a b → (ps : List ℕ) (vs us : List V) → heads a at ps ≡ Some vs → heads b at ps ≡ Some us → vs ≡ us
heads_agree a b at g [] vs us e f = same_Some vs us (sym e ∙ f)
heads_agree a b at g (p ∷ ps) vs us e f =
    let m = both_heads (slice_get (a p) (at p)) (heads a at ps) vs e in
    let n = both_heads (slice_get (b p) (at p)) (heads b at ps) us f in
    let first : m.0 ≡ n.0 = g p (at p) m.0 n.0 m.2 n.2 in
    let rest : m.1 ≡ n.1 = heads_agree a b at g ps m.1 n.1 m.3 n.3 in
    sym m.4 ∙ ap (λ v. v ∷ m.1) first ∙ ap (λ vs. n.0 ∷ vs) rest ∙ n.4

-- there is one head for each port
pub heads_length : {V : Type 0} (ins : Inputs V) (at : ℕ → ℕ) (ps : List ℕ) (vs : List V) → heads ins at ps ≡ Some vs → length vs ≡ length ps
heads_length ins at [] vs e = ap length (sym (same_Some [] vs e))
heads_length ins at (p ∷ ps) vs e =
    let m = both_heads (slice_get (ins p) (at p)) (heads ins at ps) vs e in
    let rest = heads_length ins at ps m.1 m.3 in
    let whole : length (m.0 ∷ m.1) ≡ length vs = ap length m.4 in omega arith

-- where the heads are there, each of them is
pub head_at : {V : Type 0} (ins : Inputs V) (at : ℕ → ℕ) (ps : List ℕ) (vs : List V) → heads ins at ps ≡ Some vs → (p : ℕ) → 1 ≤ times p ps → (v : V) × (slice_get (ins p) (at p) ≡ Some v)
head_at {V} ins at [] vs e p h = absurd (omega arith)
head_at {V} ins at (q ∷ ps) vs e p h =
    let m = both_heads (slice_get (ins q) (at q)) (heads ins at ps) vs e in
    ⊎_elim
    (λ same. subst (λ (x : ℕ). (v : V) × (slice_get (ins x) (at x) ≡ Some v)) (sym same) (m.0, m.2))
    (λ ne. let b = ne_eqb p q ne in let h' = rw b at h in let more : 1 ≤ times p ps = omega arith in head_at ins at ps m.1 m.3 p more)
    (cases_eq p q)

-- where one run has its heads, another one has them too, or lacks one of them
pub heads_or_lacks : {V : Type 0} (a b : Inputs V) (at : ℕ → ℕ) (ps : List ℕ) (vs : List V) → heads a at ps ≡ Some vs
    → ((us : List V) × (heads b at ps ≡ Some us)) ⊎ ((p : ℕ) × (v : V) × (1 ≤ times p ps) × (slice_get (a p) (at p) ≡ Some v) × (slice_get (b p) (at p) ≡ None))
heads_or_lacks {V} a b at [] vs e = inl ([], refl)
heads_or_lacks {V} a b at (p ∷ ps) vs e =
    let m = both_heads (slice_get (a p) (at p)) (heads a at ps) vs e in
    let here : (p == p) ≡ true = eq-eqb p p refl in
    let once : 1 ≤ times p (p ∷ ps) = rw here (omega arith) in
    ⊎_elim
    (λ r. option_cases (slice_get (b p) (at p)) _
    (λ n. inr (p, m.0, once, m.2, n))
    (λ u f. inl (u ∷ r.0, join_heads b at p ps u r.0 f r.1)))
    (λ l. let more : 1 ≤ times l.0 (p ∷ ps) = omega (arith, l.2) in inr (l.0, l.1, more, l.3, l.4))
    (heads_or_lacks a b at ps m.1 m.3)
  where
    option_cases : (o : Option V) (G : Type 0) → (o ≡ None → G) → ((u : V) → o ≡ Some u → G) → G
    option_cases None G n s = n refl
    option_cases (Some u) G n s = s u refl

mark_ends : (a b : Bool) → (a && b) ≡ true → (a && not b) ≡ false
mark_ends false b e = refl
mark_ends true false e = absurd (false≢true e)
mark_ends true true e = refl

end_marks : (a b : Bool) → a ≡ true → (a && not b) ≡ false → (a && b) ≡ true
end_marks false b e f = absurd (false≢true e)
end_marks true false e f = absurd (false≢true (sym f))
end_marks true true e f = refl

module _ {A V : Type 0} where
  gated_parts : (b : Bool) (f : List V → Local A V) (o : Option (List V)) (l : Local A V) → (if b then option_map f o else None) ≡ Some l → (vs : List V) × (b ≡ true) × (o ≡ Some vs) × (f vs ≡ l)
  gated_parts false f o l e = absurd (none-some l e)
  gated_parts true f None l e = absurd (none-some l e)
  gated_parts true f (Some vs) l e = (vs, refl, refl, same_Some (f vs) l e)

  -- a move that was made, in parts
  pub move_parts : (r : Rule A V) (ins : Inputs V) (l l' : Local A V) → move r ins l ≡ Some l' → (vs : List V) × (may_move r l.state ≡ true) × (heads ins l.consumed (r.pops l.state) ≡ Some vs) × (moved r l vs ≡ l')
  move_parts r ins l l' e = gated_parts (may_move r l.state) (moved r l) (heads ins l.consumed (r.pops l.state)) l' e

  pub join_move : (r : Rule A V) (ins : Inputs V) (l : Local A V) (vs : List V) → may_move r l.state ≡ true → heads ins l.consumed (r.pops l.state) ≡ Some vs → move r ins l ≡ Some (moved r l vs)
  join_move r ins l vs m h = rw (m, h)

  pub no_move : (r : Rule A V) (ins : Inputs V) (l : Local A V) → may_move r l.state ≡ false → move r ins l ≡ None
  no_move r ins l m = rw m

  pub move_longer : (r : Rule A V) (a b : Inputs V) (l l' : Local A V) → AllWithin a b → move r a l ≡ Some l' → move r b l ≡ Some l'
  move_longer r a b l l' g e =
      let m = move_parts r a l l' e in
      join_move r b l m.0 m.1 (heads_longer a b l.consumed g (r.pops l.state) m.0 m.2) ∙ ap Some m.3

  pub move_agree : (r : Rule A V) (a b : Inputs V) (l l₁ l₂ : Local A V) → AllAgree a b → move r a l ≡ Some l₁ → move r b l ≡ Some l₂ → l₁ ≡ l₂
  move_agree r a b l l₁ l₂ g e f =
      let m = move_parts r a l l₁ e in
      let n = move_parts r b l l₂ f in
      let same : m.0 ≡ n.0 = heads_agree a b l.consumed g (r.pops l.state) m.0 n.0 m.2 n.2 in
      sym m.3 ∙ ap (moved r l) same ∙ n.3

  -- a run of one more move, in parts
  pub loc_parts : (r : Rule A V) (first : A) (k : ℕ) (ins : Inputs V) (l : Local A V) → loc r first (suc k) ins ≡ Some l → (l₀ : Local A V) × (loc r first k ins ≡ Some l₀) × (move r ins l₀ ≡ Some l)
  loc_parts r first k ins l e = then_parts (loc r first k ins) e
    where
      then_parts : (o : Option (Local A V)) → option_and_then (move r ins) o ≡ Some l → (l₀ : Local A V) × (o ≡ Some l₀) × (move r ins l₀ ≡ Some l)
      then_parts None e = absurd (none-some l e)
      then_parts (Some l₀) e = (l₀, refl, e)

  pub join_loc : (r : Rule A V) (first : A) (k : ℕ) (ins : Inputs V) (l l' : Local A V) → loc r first k ins ≡ Some l → move r ins l ≡ Some l' → loc r first (suc k) ins ≡ Some l'
  join_loc r first k ins l l' e m = rw e m

  pub loc_longer : (r : Rule A V) (first : A) (k : ℕ) (a b : Inputs V) (l : Local A V) → AllWithin a b → loc r first k a ≡ Some l → loc r first k b ≡ Some l
  loc_longer r first zero a b l g e = e
  loc_longer r first (suc k) a b l g e =
      let p = loc_parts r first k a l e in
      join_loc r first k b p.0 l (loc_longer r first k a b p.0 g p.1) (move_longer r a b p.0 l g p.2)

  pub loc_agree : (r : Rule A V) (first : A) (k : ℕ) (a b : Inputs V) (l₁ l₂ : Local A V) → AllAgree a b → loc r first k a ≡ Some l₁ → loc r first k b ≡ Some l₂ → l₁ ≡ l₂
  loc_agree r first zero a b l₁ l₂ g e f = same_Some l₁ l₂ (sym e ∙ f)
  loc_agree r first (suc k) a b l₁ l₂ g e f =
      let p = loc_parts r first k a l₁ e in
      let q = loc_parts r first k b l₂ f in
      let same : p.0 ≡ q.0 = loc_agree r first k a b p.0 q.0 g p.1 q.1 in
      move_agree r a b q.0 l₁ l₂ g (subst (λ (l : Local A V). move r a l ≡ Some l₁) same p.2) q.2

  -- a later point of a run, item by item
  pub record IsLater (l l' : Local A V) : Type 0 where
    pub consumed : (port : ℕ) → l.consumed port ≤ l'.consumed port
    pub pushed : (out : ℕ) → IsWithin (l.pushed out) (l'.pushed out)

  pub later_same : (l : Local A V) → IsLater l l
  later_same l = record { consumed = λ port. omega arith; pushed = λ out i x e. e }

  pub later_later : (l₀ l₁ l₂ : Local A V) → IsLater l₀ l₁ → IsLater l₁ l₂ → IsLater l₀ l₂
  later_later l₀ l₁ l₂ a b = record {
    consumed = λ port. omega (arith, a.consumed port, b.consumed port);
    pushed = λ out i x e. b.pushed out i x (a.pushed out i x e);
  }

  pub only_grows : (l l' : Local A V) → IsLater l l' → OnlyGrows l l'
  only_grows l l' a = record { consumed = a.consumed; pushed = λ out. prefix_of_within (l.pushed out) (l'.pushed out) (a.pushed out) }

  pub move_later : (r : Rule A V) (ins : Inputs V) (l l' : Local A V) → move r ins l ≡ Some l' → IsLater l l'
  move_later r ins l l' e =
      let m = move_parts r ins l l' e in
      subst (IsLater l) m.3 (record {
        consumed = λ port. omega arith;
        pushed = λ out. within_append (l.pushed out) (r.puts l.state m.0 out);
      })

  -- the run up to an earlier count of moves
  loc_before : (r : Rule A V) (first : A) (d k : ℕ) (ins : Inputs V) (l : Local A V) → loc r first (d + k) ins ≡ Some l → (l₀ : Local A V) × (loc r first k ins ≡ Some l₀) × IsLater l₀ l
  loc_before r first zero k ins l e = let n : 0 + k ≡ k = omega arith in (l, subst (λ (j : ℕ). loc r first j ins ≡ Some l) n e, later_same l)
  loc_before r first (suc d) k ins l e =
      let n : suc d + k ≡ suc (d + k) = omega arith in
      let p = loc_parts r first (d + k) ins l (subst (λ (j : ℕ). loc r first j ins ≡ Some l) n e) in
      let q = loc_before r first d k ins p.0 p.1 in
      (q.0, q.1, later_later q.0 p.0 l q.2 (move_later r ins p.0 l p.2))

  pub loc_up_to : (r : Rule A V) (first : A) (k n : ℕ) (ins : Inputs V) (l : Local A V) → k ≤ n → loc r first n ins ≡ Some l → (l₀ : Local A V) × (loc r first k ins ≡ Some l₀) × IsLater l₀ l
  loc_up_to r first k n ins l h e =
      let s : n ≡ (n - k) + k = omega arith in
      loc_before r first (n - k) k ins l (subst (λ (j : ℕ). loc r first j ins ≡ Some l) s e)

  -- two runs on inputs that agree have pushed lists that agree
  pub runs_agree : (r : Rule A V) (first : A) (k n : ℕ) (a b : Inputs V) (l₁ l₂ : Local A V) → AllAgree a b → loc r first k a ≡ Some l₁ → loc r first n b ≡ Some l₂ → (out : ℕ) → Agree (l₁.pushed out) (l₂.pushed out)
  runs_agree r first k n a b l₁ l₂ g e f out i x y ex ey =
      ⊎_elim
      (λ lt. let h : k ≤ n = omega arith in
      let q = loc_up_to r first k n b l₂ h f in
      let same : l₁ ≡ q.0 = loc_agree r first k a b l₁ q.0 g e q.1 in
      let ex' : slice_get (l₂.pushed out) i ≡ Some x = q.2.pushed out i x (subst (λ (l : Local A V). slice_get (l.pushed out) i ≡ Some x) same ex) in
      same_Some x y (sym ex' ∙ ey))
      (λ h. let q = loc_up_to r first n k a l₁ h e in
      let same : q.0 ≡ l₂ = loc_agree r first n a b q.0 l₂ g q.1 f in
      let ey' : slice_get (l₁.pushed out) i ≡ Some y = q.2.pushed out i y (subst (λ (l : Local A V). slice_get (l.pushed out) i ≡ Some y) (sym same) ey) in
      same_Some x y (sym ex ∙ ey'))
      (cases_lt k n)

  -- other inputs that have all that the run consumes give the same run
  pub loc_of_consumed : (r : Rule A V) (first : A) (k : ℕ) (a b : Inputs V) (l : Local A V) → loc r first k a ≡ Some l
      → ((port i : ℕ) (v : V) → i < l.consumed port → slice_get (a port) i ≡ Some v → slice_get (b port) i ≡ Some v)
      → loc r first k b ≡ Some l
  loc_of_consumed r first zero a b l e h = e
  loc_of_consumed r first (suc k) a b l e h =
      let p = loc_parts r first k a l e in
      let m = move_parts r a p.0 l p.2 in
      let now : (port : ℕ) → p.0.consumed port + times port (r.pops p.0.state) ≡ l.consumed port = λ port. ap (λ (z : Local A V). z.consumed port) m.3 in
      let before = loc_of_consumed r first k a b p.0 p.1 (λ port i v lt g. h port i v (omega (arith, now port)) g) in
      let items = heads_of_items a b p.0.consumed (r.pops p.0.state) (λ port v once g. h port (p.0.consumed port) v (omega (arith, now port)) g) m.0 m.2 in
      join_loc r first k b p.0 l before (join_move r b p.0 m.0 m.1 items ∙ ap Some m.3)

  -- a regular worker consumes no more than there is
  pub consumed_there : (r : Rule A V) (first : A) → IsRegular r → (k : ℕ) (ins : Inputs V) (l : Local A V) → loc r first k ins ≡ Some l → (port : ℕ) → l.consumed port ≤ length (ins port)
  consumed_there r first reg zero ins l e port = let n : 0 ≡ l.consumed port = ap (λ (z : Local A V). z.consumed port) (same_Some (start first) l e) in omega arith
  consumed_there r first reg (suc k) ins l e port =
      let p = loc_parts r first k ins l e in
      let m = move_parts r ins p.0 l p.2 in
      let now : p.0.consumed port + times port (r.pops p.0.state) ≡ l.consumed port = ap (λ (z : Local A V). z.consumed port) m.3 in
      let before = consumed_there r first reg k ins p.0 p.1 port in
      let one = reg.pops_once p.0.state port in
      ⊎_elim
      (λ none. omega arith)
      (λ once. let g = head_at ins p.0.consumed (r.pops p.0.state) m.0 m.2 port once in
      let lt = slice_get_within (ins port) (p.0.consumed port) g.0 g.1 in omega arith)
      (cases_lt (times port (r.pops p.0.state)) 1)

  pub local_runs : (r : Rule A V) (first : A) → LocalRuns r first
  local_runs r first = record {
    determined = λ k ins more l l' g e f. loc_agree r first k ins more l l' g e f;
    longer = λ k ins more l g e. loc_longer r first k ins more l (λ port. within_of_prefix (ins port) (more port) (g port)) e;
    consumed_alone = λ k ins l e. loc_of_consumed r first k ins (λ port. take (l.consumed port) (ins port)) l e (λ port i v lt g. item_of_take (l.consumed port) (ins port) i v lt g);
    earlier = λ j k ins l le e. let q = loc_up_to r first j k ins l le e in (q.0, q.1, only_grows q.0 l q.2);
    trapped = λ k ins l mark e. ap (option_and_then (move r ins)) e ∙ no_move r ins l (mark_ends (r.is_running l.state) (r.traps l.state) mark);
    marked = λ s running over. end_marks (r.is_running s) (r.traps s) running over;
    ended = λ k ins l over e. ap (option_and_then (move r ins)) e ∙ no_move r ins l over;
  }
