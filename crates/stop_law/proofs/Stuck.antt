-- A worker whose turn changes nothing, and what held it up.
use Rattle.std.proofs.Common.{◌≡◌, ℕ, suc, ◌+◌, ◌<◌, ◌≤◌, Bool, true, false, List, [], ◌∷◌, length, Option, Some, None, refl, sym, ap, ◌∙◌, subst, inl, inr, arith}
use mathlib.Core.Path.{fun_ext}
use Rattle.std.specs.Prelude.{slice_get, nat_lt, ◌⊎◌, ◌&&◌, if◌then◌else◌}
use Rattle.std.specs.Option.{option_and_then, option_map}
use Rattle.std.proofs.lemmas.Bool.{ltb-false}
use Rattle.kahn_law.specs.Worker.{Rule, heads, may_move, moved}
use Rattle.kahn_law.specs.Network.{Gate, Net, Node, StopsAt, after_turn, has_room, history, inputs, rounds, turn, turns}
use Rattle.kahn_law.proofs.Rounds.{turns_here, turns_unchanged}

-- the turns of a round that moves nobody change nothing
pub idle_round : {A V : Type 0} (net : Net A V) (gate : Gate A V) (n : ℕ) → StopsAt net gate n → (w : ℕ) → w < net.workers
    → turn net gate (rounds net gate n) w ≡ rounds net gate n w
idle_round {A} {V} net gate n stop w lt =
    let nodes = rounds net gate n in
    let before : turns net gate nodes w ≡ nodes = fun_ext (turns_unchanged net gate nodes stop w (omega arith)) in
    ap (λ (f : ℕ → Node A V). turn net gate f w) (sym before) ∙ (sym (turns_here net gate nodes w) ∙ turns_unchanged net gate nodes stop (suc w) (omega arith) w)

-- it is spent, or doesn't pass the gate, or has ended, or lacks an item
abbrev pub HeldUp : {A V : Type 0} → Net A V → Gate A V → (ℕ → Node A V) → ℕ → Rule A V → Type 0
HeldUp net gate nodes w r =
    (r.budget ≤ (nodes w).count)
    ⊎ ((gate nodes w ≡ false)
    ⊎ ((may_move r (nodes w).now.state ≡ false)
    ⊎ (heads (inputs net nodes w) (nodes w).now.consumed (r.pops (nodes w).now.state) ≡ None)))

pub held_up : {A V : Type 0} (net : Net A V) (gate : Gate A V) (nodes : ℕ → Node A V) (w : ℕ) (r : Rule A V) → net.rule w ≡ r → turn net gate nodes w ≡ nodes w
    → HeldUp net gate nodes w r
held_up {A} {V} net gate nodes w r is kept =
    subst (λ (x : Rule A V). HeldUp net gate nodes w x) is
    (cases (nat_lt (nodes w).count (net.rule w).budget) (gate nodes w) (may_move (net.rule w) (nodes w).now.state)
    (heads (inputs net nodes w) (nodes w).now.consumed ((net.rule w).pops (nodes w).now.state)) refl kept)
  where
    cases : (a b c : Bool) (o : Option (List V)) → nat_lt (nodes w).count (net.rule w).budget ≡ a
        → (if a && b then after_turn (nodes w) (if c then option_map (moved (net.rule w) (nodes w).now) o else None) else nodes w) ≡ nodes w
        → ((net.rule w).budget ≤ (nodes w).count) ⊎ ((b ≡ false) ⊎ ((c ≡ false) ⊎ (o ≡ None)))
    cases false b c o below same = inl (ltb-false (nodes w).count (net.rule w).budget below)
    cases true false c o below same = inr (inl refl)
    cases true true false o below same = inr (inr (inl refl))
    cases true true true None below same = inr (inr (inr refl))
    cases true true true (Some vs) below same = let more : suc (nodes w).count ≡ (nodes w).count = ap (λ (node : Node A V). node.count) same in absurd (omega arith)

-- one of the popped ports has no item
pub lacking : {V : Type 0} (ins : ℕ → List V) (at : ℕ → ℕ) (ps : List ℕ) → heads ins at ps ≡ None
    → (j : ℕ) × (p : ℕ) × (slice_get ps j ≡ Some p) × (slice_get (ins p) (at p) ≡ None)
lacking {V} ins at [] e = absurd (never [] e)
  where
    never : (vs : List V) → Some vs ≡ None → ⊥
    never vs e = cc
lacking {V} ins at (p ∷ ps) e = one (slice_get (ins p) (at p)) (heads ins at ps) refl refl (λ rest. lacking ins at ps rest) e
  where
    one : (o : Option V) (os : Option (List V)) → slice_get (ins p) (at p) ≡ o → heads ins at ps ≡ os
        → (heads ins at ps ≡ None → (j : ℕ) × (q : ℕ) × (slice_get ps j ≡ Some q) × (slice_get (ins q) (at q) ≡ None))
        → option_and_then (λ v. option_map (λ vs. v ∷ vs) os) o ≡ None
        → (j : ℕ) × (q : ℕ) × (slice_get (p ∷ ps) j ≡ Some q) × (slice_get (ins q) (at q) ≡ None)
    one None os here is next e = (0, p, refl, here)
    one (Some v) None here is next e = let h = next is in (suc h.0, h.1, h.2, h.3)
    one (Some v) (Some vs) here is next e = cc

-- one of the ports that are pushed to has no room
pub crowded : {A V : Type 0} (net : Net A V) (nodes : ℕ → Node A V) (w : ℕ) (os : List ℕ) → has_room net nodes w os ≡ false
    → (j : ℕ) × (o : ℕ) × (slice_get os j ≡ Some o)
    × ((nodes (net.reader w o).worker).now.consumed (net.reader w o).port + net.capacity w o ≤ length (history net nodes w o))
crowded net nodes w [] e = absurd (never e)
  where
    never : true ≡ false → ⊥
    never e = cc
crowded net nodes w (o ∷ os) e =
    one (nat_lt (length (history net nodes w o)) ((nodes (net.reader w o).worker).now.consumed (net.reader w o).port + net.capacity w o)) refl (λ rest. crowded net nodes w os rest) e
  where
    one : (b : Bool) → nat_lt (length (history net nodes w o)) ((nodes (net.reader w o).worker).now.consumed (net.reader w o).port + net.capacity w o) ≡ b
        → (has_room net nodes w os ≡ false → (j : ℕ) × (q : ℕ) × (slice_get os j ≡ Some q)
        × ((nodes (net.reader w q).worker).now.consumed (net.reader w q).port + net.capacity w q ≤ length (history net nodes w q)))
        → (b && has_room net nodes w os) ≡ false
        → (j : ℕ) × (q : ℕ) × (slice_get (o ∷ os) j ≡ Some q)
        × ((nodes (net.reader w q).worker).now.consumed (net.reader w q).port + net.capacity w q ≤ length (history net nodes w q))
    one true here next e = let h = next e in (suc h.0, h.1, h.2, h.3)
    one false here next e = (0, o, refl, ltb-false (length (history net nodes w o)) ((nodes (net.reader w o).worker).now.consumed (net.reader w o).port + net.capacity w o) here)
