-- A turn in the law of networks, by a known rule.
use Rattle.std.proofs.Common.{◌≡◌, ℕ, suc, Bool, true, false, List, Option, Some, None, refl, sym, ap, ◌∙◌, ⊎_elim}
use mathlib.Core.Path.{fun_ext}
use Rattle.std.specs.Prelude.{◌==◌, ◌&&◌, nat_lt, if◌then◌else◌}
use Rattle.std.specs.Option.{option_map}
use Rattle.std.proofs.lemmas.Bool.{cases_eq, eq-eqb, ne_eqb}
use Rattle.kahn_law.specs.Worker.{Rule, Local, heads, may_move, move, moved}
use Rattle.kahn_law.specs.Network.{Net, Node, Gate, inputs, after_turn, turn}

abbrev turn_by : {A V : Type 0} → Rule A V → Net A V → Gate A V → (ℕ → Node A V) → ℕ → Node A V
turn_by r net gate nodes w =
    if nat_lt (nodes w).count r.budget && gate nodes w then after_turn (nodes w) (move r (inputs net nodes w) (nodes w).now) else nodes w

choose_second : {X : Type 0} (a b : Bool) (x y : X) → b ≡ false → (if a && b then x else y) ≡ y
choose_second true b x y e = rw e refl
choose_second false b x y e = refl

choose_either : {A V : Type 0} (a : Bool) (node : Node A V) (o : Option (Local A V)) → o ≡ None → (if a then after_turn node o else node) ≡ node
choose_either true node o e = rw e refl
choose_either false node o e = refl

-- a worker whose budget is used up
pub turn_spent : {A V : Type 0} (net : Net A V) (gate : Gate A V) (nodes : ℕ → Node A V) (w : ℕ) (r : Rule A V) → net.rule w ≡ r
    → nat_lt (nodes w).count r.budget ≡ false → turn net gate nodes w ≡ nodes w
turn_spent {A} {V} net gate nodes w r is spent =
    ap (λ (r : Rule A V). turn_by r net gate nodes w) is
    ∙ ap (λ (b : Bool). if b && gate nodes w then after_turn (nodes w) (move r (inputs net nodes w) (nodes w).now) else nodes w) spent

-- that doesn't pass the gate
pub turn_gated : {A V : Type 0} (net : Net A V) (gate : Gate A V) (nodes : ℕ → Node A V) (w : ℕ) → gate nodes w ≡ false → turn net gate nodes w ≡ nodes w
turn_gated net gate nodes w closed =
    choose_second (nat_lt (nodes w).count (net.rule w).budget) (gate nodes w) (after_turn (nodes w) (move (net.rule w) (inputs net nodes w) (nodes w).now)) (nodes w) closed

-- that makes no move
pub turn_stuck : {A V : Type 0} (net : Net A V) (gate : Gate A V) (nodes : ℕ → Node A V) (w : ℕ) (r : Rule A V) → net.rule w ≡ r
    → move r (inputs net nodes w) (nodes w).now ≡ None → turn net gate nodes w ≡ nodes w
turn_stuck {A} {V} net gate nodes w r is none =
    ap (λ (r : Rule A V). turn_by r net gate nodes w) is
    ∙ choose_either (nat_lt (nodes w).count r.budget && gate nodes w) (nodes w) (move r (inputs net nodes w) (nodes w).now) none

pub move_ended : {A V : Type 0} (r : Rule A V) (ins : ℕ → List V) (l : Local A V) → may_move r l.state ≡ false → move r ins l ≡ None
move_ended r ins l e = rw e refl

pub move_lacks : {A V : Type 0} (r : Rule A V) (ins : ℕ → List V) (l : Local A V) → heads ins l.consumed (r.pops l.state) ≡ None → move r ins l ≡ None
move_lacks r ins l e = one (may_move r l.state)
  where
    one : (b : Bool) → (if b then option_map (moved r l) (heads ins l.consumed (r.pops l.state)) else None) ≡ None
    one true = rw e refl
    one false = refl

pub move_made : {A V : Type 0} (r : Rule A V) (ins : ℕ → List V) (l : Local A V) (vs : List V) → may_move r l.state ≡ true
    → heads ins l.consumed (r.pops l.state) ≡ Some vs → move r ins l ≡ Some (moved r l vs)
move_made r ins l vs may e = rw (may, e) refl

-- that makes a move
pub turn_made : {A V : Type 0} (net : Net A V) (gate : Gate A V) (nodes : ℕ → Node A V) (w : ℕ) (r : Rule A V) (l : Local A V) → net.rule w ≡ r
    → nat_lt (nodes w).count r.budget ≡ true → gate nodes w ≡ true → move r (inputs net nodes w) (nodes w).now ≡ Some l
    → turn net gate nodes w ≡ record { count = suc (nodes w).count; now = l }
turn_made {A} {V} net gate nodes w r l is below opened made =
    ap (λ (r : Rule A V). turn_by r net gate nodes w) is
    ∙ (ap (λ (b : Bool). if b && gate nodes w then after_turn (nodes w) (move r (inputs net nodes w) (nodes w).now) else nodes w) below
    ∙ (ap (λ (b : Bool). if b then after_turn (nodes w) (move r (inputs net nodes w) (nodes w).now) else nodes w) opened
    ∙ ap (after_turn (nodes w)) made))

-- the nodes after a turn that changed nothing
pub kept_nodes : {A V : Type 0} (nodes : ℕ → Node A V) (w : ℕ) (node : Node A V) → node ≡ nodes w → (λ (v : ℕ). if v == w then node else nodes v) ≡ nodes
kept_nodes nodes w node e =
    fun_ext (λ v. ⊎_elim
    (λ same. let b = eq-eqb v w same in rw b (e ∙ ap nodes (sym same)))
    (λ ne. let b = ne_eqb v w ne in rw b refl)
    (cases_eq v w))
