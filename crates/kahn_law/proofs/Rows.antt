-- The ring of two workers that copy, worked out: nothing moves, and stamps refuse an invented word.
use Rattle.std.proofs.Common.{◌≡◌, ℕ, zero, suc, ◌-◌, ◌<◌, ◌≤◌, true, false, List, [], ◌∷◌, length, refl, sym, ap, ◌∙◌, arith}
use Rattle.std.specs.Prelude.{◌==◌, if◌then◌else◌}
use Rattle.std.proofs.lemmas.Bool.{ne_eqb}
use Rattle.kahn_law.specs.Worker.{Rule, times}
use Rattle.kahn_law.specs.Network.{Net, Node, IsWired, open_gate, StopsAt}
use Rattle.kahn_law.specs.Causal.{Kept, IsCausal}
use Rattle.kahn_law.proofs.Rounds.{stop_stays}
use Rattle.kahn_law.proofs.Reached.{prefix_facts}

-- pops port 0 and pushes what it popped to port 0
pub copier : Rule ℕ ℕ
copier =
    record {
      budget = 10;
      is_running = λ s. true;
      traps = λ s. false;
      pops = λ s. 0 ∷ [];
      outs = λ s. 0 ∷ [];
      act = λ s vs. s;
      puts = λ s vs out. if out == 0 then vs else [];
    }

-- two of them, each reading what the other one writes, with room for two items
pub ring : Net ℕ ℕ
ring =
    record {
      workers = 2;
      rule = λ w. copier;
      first = λ w. 0;
      feeder = λ w port. record { worker = 1 - w; port = port };
      reader = λ w out. record { worker = 1 - w; port = out };
      capacity = λ w out. 2;
      starting = λ w out. [];
    }

one_port : (port : ℕ) → times port (0 ∷ []) ≤ 1
one_port zero = omega arith
one_port (suc port) = let b = ne_eqb (suc port) 0 (λ e. omega arith) in rw b (omega arith)

ring_wired : IsWired ring
unfolding ring copier
ring_wired = record {
  feeders = λ w port lt. omega arith;
  readers = λ w out lt. omega arith;
  regular = λ w. record {
    pops_once = λ s port. one_port port;
    outs_once = λ s out. one_port out;
    puts_named = λ s vs out len. puts out vs len;
  };
}
  where
    puts : (out : ℕ) (vs : List ℕ) → length vs ≡ 1 → length (if out == 0 then vs else []) ≤ times out (0 ∷ [])
    puts zero vs len = omega arith
    puts (suc out) vs len = let b = ne_eqb (suc out) 0 (λ e. omega arith) in rw b (omega arith)

-- the reference's first round moves nobody
ring_stops : StopsAt ring open_gate 0
unfolding ring copier
ring_stops zero lt = refl
ring_stops (suc zero) lt = refl
ring_stops (suc (suc w)) lt = absurd (omega arith)

-- so in a causal set nobody has moved, whatever word is invented
pub no_invented_word : (kept : ℕ → Kept ℕ ℕ) → IsCausal ring kept → (w : ℕ) → w < 2 → (kept w).count ≡ 0
unfolding ring
no_invented_word kept causal w lt =
    let at = (prefix_facts ring ring_wired kept causal).states w lt in
    sym at.2.count ∙ ap (λ (nodes : ℕ → Node ℕ ℕ). (nodes w).count) (stop_stays ring open_gate 0 at.0 (omega arith) ring_stops)
