-- A run with a clock begins with nothing, and goes on by one move.
use Rattle.std.proofs.Common.{◌≡◌, ℕ, ◌+◌, ◌++◌, true, List, length, Some, sym, ap, ◌∙◌, subst}
use mathlib.Core.Path.{fun_ext}
use Rattle.kahn_law.specs.Worker.{Rule, may_move, times, heads, moved, start, loc}
use Rattle.kahn_law.specs.Causal.{Item, values, stamp_all, Kept}
use Rattle.kahn_law.specs.Clock.{next_clock, clocked, IsClockedRun, HasNotMoved, IsNextMove}
use Rattle.kahn_law.proofs.Lists.{within_of_prefix}
use Rattle.kahn_law.proofs.Runs.{join_move, join_loc, loc_longer}

module _ {A V : Type 0} (r : Rule A V) (first : A) where
  pub run_begins : (kept : Kept A V) → HasNotMoved first kept → IsClockedRun r first kept 0
  run_begins kept h = record {
    now = start (first, 0);
    run = ap (λ (k : ℕ). loc (clocked r) (first, 0) k kept.consumed) h.count;
    state = ap (λ (s : A). (s, 0)) (sym h.state);
    consumed = λ port. sym (ap length (h.consumed port));
    sent = λ out. sym (h.sent out);
  }

  pub run_goes_on : (before after : Kept A V) (clock : ℕ) (xs : List (Item V)) → IsClockedRun r first before clock → IsNextMove r before after clock xs → IsClockedRun r first after (next_clock clock xs)
  run_goes_on before after clock xs c m =
      let old = c.now in
      let state_is : old.state ≡ (before.state, clock) = c.state in
      let inner : old.state.0 ≡ before.state = ap (λ (s : A × ℕ). s.0) state_is in
      let there = loc_longer (clocked r) (first, 0) before.count before.consumed after.consumed old (λ port. within_of_prefix (before.consumed port) (after.consumed port) (m.consumed port)) c.run in
      let may : may_move r old.state.0 ≡ true = ap (may_move r) inner ∙ m.may in
      let at : old.consumed ≡ (λ (port : ℕ). length (before.consumed port)) = fun_ext c.consumed in
      let items : heads after.consumed old.consumed (r.pops old.state.0) ≡ Some xs =
      ap (λ (f : ℕ → ℕ). heads after.consumed f (r.pops old.state.0)) at ∙ (ap (λ (s : A). heads after.consumed (λ port. length (before.consumed port)) (r.pops s)) inner ∙ m.items) in
      let run = join_loc (clocked r) (first, 0) before.count after.consumed old (moved (clocked r) old xs) there (join_move (clocked r) after.consumed old xs may items) in
      record {
        now = moved (clocked r) old xs;
        run = subst (λ (k : ℕ). loc (clocked r) (first, 0) k after.consumed ≡ Some (moved (clocked r) old xs)) (sym m.count) run;
        state = ap (λ (s : A × ℕ). (r.act s.0 (values xs), next_clock s.1 xs)) state_is ∙ ap (λ (s : A). (s, next_clock clock xs)) (sym m.state);
        consumed = λ port. ap (λ (s : A). old.consumed port + times port (r.pops s)) inner ∙ (ap (λ (n : ℕ). n + times port (r.pops before.state)) (c.consumed port) ∙ sym (m.consumed_count port));
        sent = λ out. ap (λ (s : A × ℕ). old.pushed out ++ stamp_all (next_clock s.1 xs) (r.puts s.0 (values xs) out)) state_is
            ∙ (ap (λ ys. ys ++ stamp_all (next_clock clock xs) (r.puts before.state (values xs) out)) (c.sent out) ∙ sym (m.sent out));
      }
