-- A run whose worker keeps a clock is a local run with rising stamps.
use Rattle.std.proofs.Common.{◌≡◌, ℕ, zero, suc, ◌+◌, ◌-◌, ◌<◌, ◌≤◌, max, Bool, true, false, List, [], ◌∷◌, ◌++◌, length, Option, Some, None, refl, sym, ap, ◌∙◌, subst, ⊎_elim, arith}
use mathlib.Core.Path.{fun_ext}
use Rattle.std.specs.Prelude.{slice_get, if◌then◌else◌}
use Rattle.std.specs.Option.{option_map, option_and_then}
use Rattle.std.proofs.lemmas.Bool.{cases_lt, cases_eq, ne_eqb}
use Rattle.std.proofs.lemmas.List.{length-map, map-append}
use Rattle.std.proofs.lemmas.Option.{none-some, same_Some, slice_get-map, slice_get_within}
use Rattle.kahn_law.specs.Worker.{Rule, Local, IsRegular, may_move, times, heads, moved, move, loc}
use Rattle.kahn_law.specs.Causal.{Item, values, stamp_all, Kept, IsStamped, IsLocalRun}
use Rattle.kahn_law.specs.Clock.{greatest, next_clock, clocked, without_clock, IsClockedRun}
use Rattle.kahn_law.proofs.Lists.{joined_item}
use Rattle.kahn_law.proofs.Runs.{Inputs, both_heads, move_parts, loc_parts, loc_up_to}
use Rattle.kahn_law.proofs.Reached.{values_stamped, length_values}

module _ {V : Type 0} where
  both_values : (o : Option (Item V)) (os : Option (List (Item V)))
      → option_map values (option_and_then (λ x. option_map (λ xs. x ∷ xs) os) o) ≡ option_and_then (λ v. option_map (λ vs. v ∷ vs) (option_map values os)) (option_map (λ (x : Item V). x.value) o)
  both_values None os = refl
  both_values (Some x) None = refl
  both_values (Some x) (Some xs) = refl

  -- the heads of the values are the values of the heads
  pub heads_values : (ins : Inputs (Item V)) (at : ℕ → ℕ) (ps : List ℕ) → option_map values (heads ins at ps) ≡ heads (λ p. values (ins p)) at ps
  heads_values ins at [] = refl
  heads_values ins at (p ∷ ps) =
      let F : Option (List V) → Option V → Option (List V) = λ os o. option_and_then (λ v. option_map (λ vs. v ∷ vs) os) o in
      both_values (slice_get (ins p) (at p)) (heads ins at ps)
      ∙ (ap (λ os. F os (option_map (λ (x : Item V). x.value) (slice_get (ins p) (at p)))) (heads_values ins at ps)
      ∙ ap (F (heads (λ q. values (ins q)) at ps)) (sym (slice_get-map (λ (x : Item V). x.value) (ins p) (at p))))

  pub greatest_above : (c : ℕ) (xs : List (Item V)) → c ≤ greatest c xs
  greatest_above c [] = omega arith
  greatest_above c (x ∷ xs) = omega (arith, greatest_above (max c x.stamp) xs)

  -- the greatest is not below any head
  greatest_head : (ins : Inputs (Item V)) (at : ℕ → ℕ) (ps : List ℕ) (xs : List (Item V)) → heads ins at ps ≡ Some xs → (c p : ℕ) (x : Item V) → 1 ≤ times p ps → slice_get (ins p) (at p) ≡ Some x → x.stamp ≤ greatest c xs
  greatest_head ins at [] xs e c p x h g = absurd (omega arith)
  greatest_head ins at (q ∷ ps) xs e c p x h g =
      let m = both_heads (slice_get (ins q) (at q)) (heads ins at ps) xs e in
      ⊎_elim
      (λ same.
      let is : x ≡ m.0 = same_Some x m.0 (sym g ∙ (ap (λ (z : ℕ). slice_get (ins z) (at z)) same ∙ m.2)) in
      let s : x.stamp ≡ m.0.stamp = ap (λ (y : Item V). y.stamp) is in
      subst (λ (ys : List (Item V)). x.stamp ≤ greatest c ys) m.4 (omega (arith, greatest_above (max c m.0.stamp) m.1)))
      (λ ne. let b = ne_eqb p q ne in let h' = rw b at h in let more : 1 ≤ times p ps = omega arith in
      subst (λ (ys : List (Item V)). x.stamp ≤ greatest c ys) m.4 (greatest_head ins at ps m.1 m.3 (max c m.0.stamp) p x more g))
      (cases_eq p q)

  pub stamp_of : (c : ℕ) (vs : List V) (i : ℕ) (y : Item V) → slice_get (stamp_all c vs) i ≡ Some y → y.stamp ≡ c
  stamp_of c [] i y e = absurd (none-some y e)
  stamp_of c (v ∷ vs) zero y e = ap (λ (z : Item V). z.stamp) (sym (same_Some _ y e))
  stamp_of c (v ∷ vs) (suc i) y e = stamp_of c vs i y e

module _ {A V : Type 0} (r : Rule A V) where
  pub clocked_regular : IsRegular r → IsRegular (clocked r)
  clocked_regular reg = record {
    pops_once = λ s port. reg.pops_once s.0 port;
    outs_once = λ s out. reg.outs_once s.0 out;
    puts_named = λ s xs out len.
        let n : length (stamp_all (next_clock s.1 xs) (r.puts s.0 (values xs) out)) ≡ length (r.puts s.0 (values xs) out) = length-map (r.puts s.0 (values xs) out) (λ v. record { value = v; stamp = next_clock s.1 xs }) in
        omega (arith, reg.puts_named s.0 (values xs) out (length_values xs ∙ len));
  }

  -- a move with its clock, seen without it
  moved_without : (l : Local (A × ℕ) (Item V)) (xs : List (Item V)) → without_clock (moved (clocked r) l xs) ≡ moved r (without_clock l) (values xs)
  moved_without l xs =
      let new = stamp_all (next_clock l.state.1 xs) in
      let F : (ℕ → List V) → Local A V = λ f. record { state = r.act l.state.0 (values xs); consumed = λ port. l.consumed port + times port (r.pops l.state.0); pushed = f } in
      let pushed : (λ (out : ℕ). values (l.pushed out ++ new (r.puts l.state.0 (values xs) out))) ≡ (λ (out : ℕ). values (l.pushed out) ++ r.puts l.state.0 (values xs) out) =
      fun_ext (λ out. map-append _ (l.pushed out) _ ∙ ap (λ vs. values (l.pushed out) ++ vs) (values_stamped (next_clock l.state.1 xs) (r.puts l.state.0 (values xs) out))) in
      ap F pushed

  gated_without : (b : Bool) (l : Local (A × ℕ) (Item V)) (os : Option (List (Item V)))
      → option_map without_clock (if b then option_map (moved (clocked r) l) os else None) ≡ (if b then option_map (moved r (without_clock l)) (option_map values os) else None)
  gated_without false l os = refl
  gated_without true l None = refl
  gated_without true l (Some xs) = ap Some (moved_without l xs)

  pub move_without : (ins : Inputs (Item V)) (l : Local (A × ℕ) (Item V)) → option_map without_clock (move (clocked r) ins l) ≡ move r (λ p. values (ins p)) (without_clock l)
  move_without ins l =
      gated_without (may_move r l.state.0) l (heads ins l.consumed (r.pops l.state.0))
      ∙ ap (λ (os : Option (List V)). if may_move r l.state.0 then option_map (moved r (without_clock l)) os else None) (heads_values ins l.consumed (r.pops l.state.0))

module _ {A V : Type 0} (r : Rule A V) (first : A) (ins : Inputs (Item V)) where
  -- a run with its clock
  abbrev pub clock_run : ℕ → Local (A × ℕ) (Item V) → Type 0
  clock_run k l = loc (clocked r) (first, 0) k ins ≡ Some l

  then_without : (o : Option (Local (A × ℕ) (Item V))) → option_map without_clock (option_and_then (move (clocked r) ins) o) ≡ option_and_then (move r (λ p. values (ins p))) (option_map without_clock o)
  then_without None = refl
  then_without (Some l) = move_without r ins l

  -- the run with its clock, seen without it
  pub loc_without : (k : ℕ) → option_map without_clock (loc (clocked r) (first, 0) k ins) ≡ loc r first k (λ p. values (ins p))
  loc_without zero = refl
  loc_without (suc k) = then_without (loc (clocked r) (first, 0) k ins) ∙ ap (option_and_then (move r (λ p. values (ins p)))) (loc_without k)

  pub run_without : (k : ℕ) (l : Local (A × ℕ) (Item V)) → clock_run k l → loc r first k (λ p. values (ins p)) ≡ Some (without_clock l)
  run_without k l e = sym (loc_without k) ∙ ap (option_map without_clock) e

  -- all that was consumed has a stamp below the clock
  consumed_below : IsRegular r → (k : ℕ) (l : Local (A × ℕ) (Item V)) → clock_run k l → (port i : ℕ) (x : Item V) → i < l.consumed port → slice_get (ins port) i ≡ Some x → x.stamp < l.state.1 + 0
  consumed_below reg zero l e port i x h g =
      let n : 0 ≡ l.consumed port = ap (λ (z : Local (A × ℕ) (Item V)). z.consumed port) (same_Some _ l e) in absurd (omega arith)
  consumed_below reg (suc k) l e port i x h g =
      let p = loc_parts (clocked r) (first, 0) k ins l e in
      let m = move_parts (clocked r) ins p.0 l p.2 in
      let n : p.0.consumed port + times port (r.pops p.0.state.0) ≡ l.consumed port = ap (λ (z : Local (A × ℕ) (Item V)). z.consumed port) m.3 in
      let c : next_clock p.0.state.1 m.0 ≡ l.state.1 = ap (λ (z : Local (A × ℕ) (Item V)). z.state.1) m.3 in
      let o = reg.pops_once p.0.state.0 port in
      ⊎_elim
      (λ old. let b = consumed_below reg k p.0 p.1 port i x old g in let u = greatest_above p.0.state.1 m.0 in omega arith)
      (λ new.
      let at : i ≡ p.0.consumed port = omega arith in
      let popped : 1 ≤ times port (r.pops p.0.state.0) = omega arith in
      let top = greatest_head ins p.0.consumed (r.pops p.0.state.0) m.0 m.2 p.0.state.1 port x popped (ap (slice_get (ins port)) (sym at) ∙ g) in omega arith)
      (cases_lt i (p.0.consumed port))

  clock_grows : (d k : ℕ) (l₀ l : Local (A × ℕ) (Item V)) → clock_run k l₀ → clock_run (d + k) l → l₀.state.1 ≤ l.state.1
  clock_grows zero k l₀ l e f =
      let n : 0 + k ≡ k = omega arith in
      let same : l₀ ≡ l = same_Some l₀ l (sym e ∙ (ap (λ (j : ℕ). loc (clocked r) (first, 0) j ins) (sym n) ∙ f)) in
      let s : l₀.state.1 ≡ l.state.1 = ap (λ (z : Local (A × ℕ) (Item V)). z.state.1) same in omega arith
  clock_grows (suc d) k l₀ l e f =
      let n : suc d + k ≡ suc (d + k) = omega arith in
      let p = loc_parts (clocked r) (first, 0) (d + k) ins l (ap (λ (j : ℕ). loc (clocked r) (first, 0) j ins) (sym n) ∙ f) in
      let m = move_parts (clocked r) ins p.0 l p.2 in
      let c : next_clock p.0.state.1 m.0 ≡ l.state.1 = ap (λ (z : Local (A × ℕ) (Item V)). z.state.1) m.3 in
      let ih = clock_grows d k l₀ p.0 e p.1 in
      let u = greatest_above p.0.state.1 m.0 in omega arith

  -- what was pushed after some moves has a stamp of at least the clock one move later
  pushed_above : (d k : ℕ) (l₀ l₁ l : Local (A × ℕ) (Item V)) → clock_run k l₀ → clock_run (suc k) l₁ → clock_run (d + suc k) l
      → (out j : ℕ) (y : Item V) → length (l₀.pushed out) ≤ j → slice_get (l.pushed out) j ≡ Some y → l₁.state.1 ≤ y.stamp
  pushed_above zero k l₀ l₁ l e f g out j y le gy =
      let n : 0 + suc k ≡ suc k = omega arith in
      let p = loc_parts (clocked r) (first, 0) k ins l₁ f in
      let m = move_parts (clocked r) ins p.0 l₁ p.2 in
      let same : l ≡ l₁ = same_Some l l₁ (sym g ∙ (ap (λ (j : ℕ). loc (clocked r) (first, 0) j ins) n ∙ f)) in
      let start_is : p.0 ≡ l₀ = same_Some p.0 l₀ (sym p.1 ∙ e) in
      let len : length (p.0.pushed out) ≡ length (l₀.pushed out) = ap (λ (z : Local (A × ℕ) (Item V)). length (z.pushed out)) start_is in
      let c : next_clock p.0.state.1 m.0 ≡ l₁.state.1 = ap (λ (z : Local (A × ℕ) (Item V)). z.state.1) m.3 in
      let gy' = subst (λ (z : Local (A × ℕ) (Item V)). slice_get (z.pushed out) j ≡ Some y) (same ∙ sym m.3) gy in
      ⊎_elim
      (λ old. let lt = slice_get_within (p.0.pushed out) j y old in absurd (omega arith))
      (λ new. let s = stamp_of (next_clock p.0.state.1 m.0) (r.puts p.0.state.0 (values m.0) out) (j - length (p.0.pushed out)) y new.1 in omega arith)
      (joined_item (p.0.pushed out) (stamp_all (next_clock p.0.state.1 m.0) (r.puts p.0.state.0 (values m.0) out)) j y gy')
  pushed_above (suc d) k l₀ l₁ l e f g out j y le gy =
      let n : suc d + suc k ≡ suc (d + suc k) = omega arith in
      let p = loc_parts (clocked r) (first, 0) (d + suc k) ins l (ap (λ (j : ℕ). loc (clocked r) (first, 0) j ins) (sym n) ∙ g) in
      let m = move_parts (clocked r) ins p.0 l p.2 in
      let gy' = subst (λ (z : Local (A × ℕ) (Item V)). slice_get (z.pushed out) j ≡ Some y) (sym m.3) gy in
      let grew = clock_grows d (suc k) l₁ p.0 f p.1 in
      let u = greatest_above p.0.state.1 m.0 in
      ⊎_elim
      (λ old. pushed_above d k l₀ l₁ p.0 e f p.1 out j y le old)
      (λ new. let s = stamp_of (next_clock p.0.state.1 m.0) (r.puts p.0.state.0 (values m.0) out) (j - length (p.0.pushed out)) y new.1 in omega arith)
      (joined_item (p.0.pushed out) (stamp_all (next_clock p.0.state.1 m.0) (r.puts p.0.state.0 (values m.0) out)) j y gy')

  -- stamps rise: what is pushed in a move or later is above all that was consumed up to and with this move
  pub stamps_rise : IsRegular r → (n m : ℕ) (l₀ l₁ l : Local (A × ℕ) (Item V)) → m < n → clock_run m l₀ → clock_run (suc m) l₁ → clock_run n l
      → (out j : ℕ) (y : Item V) → length (l₀.pushed out) ≤ j → slice_get (l.pushed out) j ≡ Some y
      → (port i : ℕ) (x : Item V) → i < l₁.consumed port → slice_get (ins port) i ≡ Some x → x.stamp < y.stamp
  stamps_rise reg n m l₀ l₁ l lt e f g out j y le gy port i x below gx =
      let d : (n - suc m) + suc m ≡ n = omega arith in
      let low = consumed_below reg (suc m) l₁ f port i x below gx in
      let high = pushed_above (n - suc m) m l₀ l₁ l e f (ap (λ (k : ℕ). loc (clocked r) (first, 0) k ins) d ∙ g) out j y le gy in
      omega arith

module _ {A V : Type 0} (r : Rule A V) (first : A) where
  clocked_run_stamped : IsRegular r → (kept : Kept A V) (clock : ℕ) → IsClockedRun r first kept clock → IsStamped r first kept
  clocked_run_stamped reg kept clock c m before after lt e f out j y le gy port i x below gx =
      let ins = kept.consumed in
      let q = loc_up_to (clocked r) (first, 0) (suc m) kept.count ins c.now lt c.run in
      let p = loc_parts (clocked r) (first, 0) m ins q.0 q.1 in
      let same_after : without_clock q.0 ≡ after = same_Some _ after (sym (run_without r first ins (suc m) q.0 q.1) ∙ f) in
      let same_before : without_clock p.0 ≡ before = same_Some _ before (sym (run_without r first ins m p.0 p.1) ∙ e) in
      let consumed : q.0.consumed port ≡ after.consumed port = ap (λ (z : Local A V). z.consumed port) same_after in
      let pushed : length (values (p.0.pushed out)) ≡ length (before.pushed out) = ap (λ (z : Local A V). length (z.pushed out)) same_before in
      let n = length_values (p.0.pushed out) in
      stamps_rise r first ins reg kept.count m p.0 q.0 c.now lt p.1 q.1 c.run out j y (omega arith) (ap (λ (xs : List (Item V)). slice_get xs j) (c.sent out) ∙ gy) port i x (omega arith) gx

  pub clocked_run_local : IsRegular r → (kept : Kept A V) (clock : ℕ) → IsClockedRun r first kept clock → IsLocalRun r first kept
  clocked_run_local reg kept clock c = record {
    now = without_clock c.now;
    run = run_without r first kept.consumed kept.count c.now c.run;
    state = ap (λ (s : A × ℕ). s.0) c.state;
    consumed = c.consumed;
    pushed = λ out. ap values (c.sent out);
    stamped = clocked_run_stamped reg kept clock c;
  }
