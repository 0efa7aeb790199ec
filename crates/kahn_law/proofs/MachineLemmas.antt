-- The machines of the plain program as nodes of the law.
use Rattle.std.proofs.Common.{◌≡◌, ℕ, zero, suc, ◌+◌, ◌-◌, ◌<◌, ◌≤◌, Bool, true, false, List, [], ◌∷◌, ◌++◌, length, get_or, count_by, Option, Some, None, refl, sym, ap, ◌∙◌, subst, ⊎_elim, arith}
use mathlib.Core.Path.{fun_ext}
use Rattle.std.specs.Prelude.{◌^◌, slice_get, slice_set, ◌==◌, if◌then◌else◌}
use Rattle.std.specs.Option.{option_map, option_to_list}
use Rattle.std.proofs.lemmas.Bool.{cases_eq, eq-eqb, ne_eqb}
use Rattle.std.proofs.lemmas.List.Recursion.{is_count_by}
use Rattle.std.proofs.lemmas.Option.{slice_get-get_or}
use Rattle.kahn_law.specs.Worker.{times}
use Rattle.kahn_law.specs.Network.{history, rounds}
use Rattle.kahn_law.specs.Causal.{Item, stamp_all, total}
use Rattle.kahn_law.specs.Clock.{clocked_net, node_without_clock, blind}
use Rattle.kahn_law.specs.Machines.{item_of, sent_to, net_of, ClockNode, node_of, nodes_of, plain_nodes_of, starting_of, gate_of, node_after, IsMade, turn_of, turns_of, rounds_of, rule_of, budgets_to, all_budgets, HasSmallStamps}
use Rattle.kahn_law.specs.declared.plain.Stamped.{Stamped}
use Rattle.kahn_law.specs.declared.plain.Sent.{Sent}
use Rattle.kahn_law.specs.declared.plain.Machine.{Machine}
use Rattle.kahn_law.specs.declared.plain.Place.{Place}
use Rattle.kahn_law.specs.declared.plain.Move.{Move}
use Rattle.kahn_law.specs.declared.plain.Machines.{Machines}
use Rattle.kahn_law.proofs.Lists.{joined_item}
use Rattle.kahn_law.proofs.Clocks.{stamp_of}
use Rattle.kahn_law.proofs.Bound.{under_budgets}
use Rattle.kahn_law.proofs.Strict.{node_without}

pub times_count : (port : ℕ) (xs : List ℕ) → times port xs ≡ count_by (λ q. q == port) xs
times_count port xs = is_count_by (times port) (λ q. q == port) refl one xs
  where
    one : (x : ℕ) (ys : List ℕ) → times port (x ∷ ys) ≡ (if x == port then 1 + times port ys else times port ys)
    one x ys =
        ⊎_elim
        (λ e. let a = eq-eqb port x e in let b = eq-eqb x port (sym e) in rw (a, b) (omega arith))
        (λ ne. let a = ne_eqb port x ne in let b = ne_eqb x port (λ e. ne (sym e)) in rw (a, b) (omega arith))
        (cases_eq port x)

pub times-append : (port : ℕ) (xs ys : List ℕ) → times port (xs ++ ys) ≡ times port xs + times port ys
times-append port [] ys = omega arith
times-append port (x ∷ xs) ys = let h = times-append port xs ys in omega arith

pub sent_count : (out : ℕ) (xs : List Sent) → length (sent_to out xs) ≡ count_by (λ (s : Sent). s.queue == out) xs
sent_count out xs = is_count_by (λ ys. length (sent_to out ys)) (λ (s : Sent). s.queue == out) refl (λ x ys. one x ys (x.queue == out)) xs
  where
    one : (x : Sent) (ys : List Sent) (b : Bool) → length (if b then item_of x.item ∷ sent_to out ys else sent_to out ys) ≡ (if b then 1 + length (sent_to out ys) else length (sent_to out ys))
    one x ys true = omega arith
    one x ys false = refl

pub sent_to-append : (out : ℕ) (xs ys : List Sent) → sent_to out (xs ++ ys) ≡ sent_to out xs ++ sent_to out ys
sent_to-append out [] ys = refl
sent_to-append out (x ∷ xs) ys = one (x.queue == out) (sent_to-append out xs ys)
  where
    one : (b : Bool) → sent_to out (xs ++ ys) ≡ sent_to out xs ++ sent_to out ys
        → (if b then item_of x.item ∷ sent_to out (xs ++ ys) else sent_to out (xs ++ ys)) ≡ (if b then item_of x.item ∷ sent_to out xs else sent_to out xs) ++ sent_to out ys
    one true h = ap (λ zs. item_of x.item ∷ zs) h
    one false h = h

-- an item of a history has a small stamp where those of all nodes are small
pub item_small : (net : Machines) (places : List Place) (w out i : ℕ) (o : Option Stamped) (item : Stamped) → ((v : ℕ) → HasSmallStamps (nodes_of places v)) → o ≡ Some item
    → option_map item_of o ≡ slice_get (history (clocked_net (net_of net)) (nodes_of places) w out) i → item.stamp < 2 ^ 63
item_small net places w out i o item small is e =
    let front = starting_of (slice_get net.queues.items out) in
    let there : slice_get (history (clocked_net (net_of net)) (nodes_of places) w out) i ≡ Some (item_of item) = sym e ∙ ap (option_map item_of) is in
    ⊎_elim
    (λ old. let s : item.stamp ≡ 0 = stamp_of 0 front i (item_of item) old in omega arith)
    (λ new. (small w).stamps out (i - length (stamp_all 0 front)) (item_of item) new.1)
    (joined_item (stamp_all 0 front) ((nodes_of places w).now.pushed out) i (item_of item) there)

-- the clock of a place is small
pub clock_small : (places : List Place) (w : ℕ) (place : Place) → ((v : ℕ) → HasSmallStamps (nodes_of places v)) → slice_get places w ≡ Some place → place.clock < 2 ^ 63
clock_small places w place small at = subst (λ o. (node_of o).now.state.1 < 2 ^ 63) at (small w).clock

-- a place after a move is the node after it
pub made_node : (old new : Place) (m : Move) → IsMade old m new → node_of (Some new) ≡ node_after m (node_of (Some old))
made_node old new m made =
    let F : ℕ → ℕ → ℕ → ℕ → (ℕ → ℕ) → (ℕ → List (Item ℕ)) → ClockNode = λ count at sum clock consumed pushed. record { count = count; now = record { state = ((at, sum), clock); consumed = consumed; pushed = pushed } } in
    let consumed : (λ (port : ℕ). times port new.popped.items) ≡ (λ (port : ℕ). times port old.popped.items + times port (option_to_list m.popped)) =
    fun_ext (λ port. ap (times port) made.popped ∙ times-append port old.popped.items (option_to_list m.popped)) in
    let pushed : (λ (out : ℕ). sent_to out new.sent.items) ≡ (λ (out : ℕ). sent_to out old.sent.items ++ sent_to out (option_to_list m.sent)) =
    fun_ext (λ out. ap (sent_to out) made.sent ∙ sent_to-append out old.sent.items (option_to_list m.sent)) in
    ap (λ (count : ℕ). F count new.at new.sum new.clock (λ port. times port new.popped.items) (λ out. sent_to out new.sent.items)) made.count
    ∙ (ap (λ (at : ℕ). F m.count at new.sum new.clock (λ port. times port new.popped.items) (λ out. sent_to out new.sent.items)) made.at
    ∙ (ap (λ (sum : ℕ). F m.count m.at sum new.clock (λ port. times port new.popped.items) (λ out. sent_to out new.sent.items)) made.sum
    ∙ (ap (λ (clock : ℕ). F m.count m.at m.sum clock (λ port. times port new.popped.items) (λ out. sent_to out new.sent.items)) made.clock
    ∙ (ap (λ (c : ℕ → ℕ). F m.count m.at m.sum m.clock c (λ out. sent_to out new.sent.items)) consumed
    ∙ ap (F m.count m.at m.sum m.clock (λ port. times port old.popped.items + times port (option_to_list m.popped))) pushed))))

-- a slice after a write, at the place of the write and elsewhere
get_set_same : {X : Type 0} (xs : List X) (i : ℕ) (x : X) → i < length xs → slice_get (slice_set xs i x) i ≡ Some x
get_set_same [] i x lt = absurd (omega arith)
get_set_same (y ∷ ys) zero x lt = refl
get_set_same (y ∷ ys) (suc i) x lt = get_set_same ys i x (omega arith)

get_set_other : {X : Type 0} (xs : List X) (i j : ℕ) (x : X) → (j ≡ i → ⊥) → slice_get (slice_set xs i x) j ≡ slice_get xs j
get_set_other [] i j x ne = refl
get_set_other (y ∷ ys) zero zero x ne = absurd (ne refl)
get_set_other (y ∷ ys) zero (suc j) x ne = refl
get_set_other (y ∷ ys) (suc i) zero x ne = refl
get_set_other (y ∷ ys) (suc i) (suc j) x ne = get_set_other ys i j x (λ e. ne (omega arith))

-- the nodes after a turn that made a move
pub turn_made_node : (places : List Place) (w : ℕ) (old new : Place) (m : Move) (after : ClockNode) → w < length places → slice_get places w ≡ Some old → IsMade old m new → after ≡ node_after m (nodes_of places w)
    → (v : ℕ) → nodes_of (slice_set places w new) v ≡ (if v == w then after else nodes_of places v)
turn_made_node places w old new m after lt at made e v =
    ⊎_elim
    (λ same. let b = eq-eqb v w same in
    let here : slice_get (slice_set places w new) v ≡ Some new = ap (slice_get (slice_set places w new)) same ∙ get_set_same places w new lt in
    rw b (ap node_of here ∙ (made_node old new m made ∙ (ap (λ o. node_after m (node_of o)) (sym at) ∙ sym e))))
    (λ ne. let b = ne_eqb v w ne in rw b (ap node_of (get_set_other places w v new ne)))
    (cases_eq v w)

-- and after a turn that made none
pub turn_kept_node : (places : List Place) (w : ℕ) (after : ClockNode) → after ≡ nodes_of places w → (v : ℕ) → nodes_of places v ≡ (if v == w then after else nodes_of places v)
turn_kept_node places w after e v =
    ⊎_elim
    (λ same. let b = eq-eqb v w same in rw b (ap (nodes_of places) same ∙ sym e))
    (λ ne. let b = ne_eqb v w ne in rw b refl)
    (cases_eq v w)

-- one more turn of a round
pub next_turns : (net : Machines) (bounded : Bool) (before old new : ℕ → ClockNode) (w : ℕ) → ((v : ℕ) → old v ≡ turns_of net bounded before w v)
    → ((v : ℕ) → new v ≡ (if v == w then turn_of net bounded old w else old v)) → (v : ℕ) → new v ≡ turns_of net bounded before (w + 1) v
next_turns net bounded before old new w h g v =
    let F : (ℕ → ClockNode) → ClockNode = λ f. if v == w then turn_of net bounded f w else f v in
    let n : suc w ≡ w + 1 = omega arith in
    g v ∙ (ap F (fun_ext h) ∙ ap (λ (j : ℕ). turns_of net bounded before j v) n)

-- one more round
pub next_round : (net : Machines) (bounded : Bool) (old new : ℕ → ClockNode) (n : ℕ) → ((v : ℕ) → old v ≡ rounds_of net bounded n v)
    → ((v : ℕ) → new v ≡ turns_of net bounded old (length net.machines.items) v) → (v : ℕ) → new v ≡ rounds_of net bounded (n + 1) v
next_round net bounded old new n h g v =
    let m : suc n ≡ n + 1 = omega arith in
    g v ∙ (ap (λ (f : ℕ → ClockNode). turns_of net bounded f (length net.machines.items) v) (fun_ext h) ∙ ap (λ (j : ℕ). rounds_of net bounded j v) m)

-- where all budgets together are small, so are all clocks and stamps
pub small_in_round : (net : Machines) (bounded : Bool) (old : ℕ → ClockNode) (n : ℕ) → all_budgets net < 2 ^ 63 → ((v : ℕ) → old v ≡ rounds_of net bounded n v)
    → (m v : ℕ) → m ≤ length net.machines.items → HasSmallStamps (turns_of net bounded old m v)
small_in_round net bounded old n small h m v le =
    let u = under_budgets (net_of net) (blind (gate_of bounded (net_of net))) n m v le in
    let same : rounds_of net bounded n ≡ old = fun_ext (λ w. sym (h w)) in
    subst (λ (f : ℕ → ClockNode). HasSmallStamps (turns_of net bounded f m v)) same (record {
      clock = omega (arith, u.clock);
      stamps = λ out i x g. omega (arith, u.stamps out i x g);
    })

pub small_of : (a b : ℕ → ClockNode) → ((v : ℕ) → a v ≡ b v) → ((v : ℕ) → HasSmallStamps (b v)) → (v : ℕ) → HasSmallStamps (a v)
small_of a b h small v = subst HasSmallStamps (sym (h v)) (small v)

-- a place that hasn't moved, behind others that haven't
pub fresh_node : (places : List Place) (place : Place) → ((v : ℕ) → nodes_of places v ≡ node_of None) → node_of (Some place) ≡ node_of None → (v : ℕ) → nodes_of (places ++ place ∷ []) v ≡ node_of None
fresh_node [] place h e zero = e
fresh_node [] place h e (suc v) = refl
fresh_node (p ∷ ps) place h e zero = h 0
fresh_node (p ∷ ps) place h e (suc v) = fresh_node ps place (λ u. h (suc u)) e v

pub fresh_place : (place : Place) → place.count ≡ 0 → place.at ≡ 0 → place.sum ≡ 0 → place.clock ≡ 0 → place.popped.items ≡ [] → place.sent.items ≡ [] → node_of (Some place) ≡ node_of None
fresh_place place count at sum clock popped sent =
    let F : ℕ → ℕ → ℕ → ℕ → List ℕ → List Sent → ClockNode = λ n a s c ps ss. record { count = n; now = record { state = ((a, s), c); consumed = λ port. times port ps; pushed = λ out. sent_to out ss } } in
    ap (λ (n : ℕ). F n place.at place.sum place.clock place.popped.items place.sent.items) count
    ∙ (ap (λ (a : ℕ). F 0 a place.sum place.clock place.popped.items place.sent.items) at
    ∙ (ap (λ (s : ℕ). F 0 0 s place.clock place.popped.items place.sent.items) sum
    ∙ (ap (λ (c : ℕ). F 0 0 0 c place.popped.items place.sent.items) clock
    ∙ (ap (λ (ps : List ℕ). F 0 0 0 0 ps place.sent.items) popped
    ∙ ap (λ (ss : List Sent). F 0 0 0 0 [] ss) sent))))

-- more workers have no smaller sum
pub total_more : (d n : ℕ) (f : ℕ → ℕ) → total n f ≤ total (d + n) f
total_more zero n f = let m : n ≡ 0 + n = omega arith in let e : total n f ≡ total (0 + n) f = ap (λ (j : ℕ). total j f) m in omega arith
total_more (suc d) n f =
    let m : suc (d + n) ≡ suc d + n = omega arith in
    let e : total (suc (d + n)) f ≡ total (suc d + n) f = ap (λ (j : ℕ). total j f) m in
    let h = total_more d n f in omega arith

-- the places of a run, without clocks and stamps, are the reference's
pub without_clocks : (net : Machines) (bounded : Bool) (n : ℕ) (places : List Place) → ((w : ℕ) → nodes_of places w ≡ rounds_of net bounded n w)
    → (w : ℕ) → plain_nodes_of places w ≡ rounds (net_of net) (gate_of bounded (net_of net)) n w
without_clocks net bounded n places h w = ap node_without_clock (h w) ∙ node_without (net_of net) (gate_of bounded (net_of net)) n w

-- the budgets of one more machine
pub budgets_step : (net : Machines) (i : ℕ) (d : Machine) → i < length net.machines.items → budgets_to net (i + 1) ≡ budgets_to net i + (get_or net.machines.items i d).budget
budgets_step net i d lt =
    let n : i + 1 ≡ suc i = omega arith in
    let here : (rule_of (slice_get net.machines.items i)).budget ≡ (get_or net.machines.items i d).budget = ap (λ o. (rule_of o).budget) (slice_get-get_or net.machines.items i d lt) in
    ap (budgets_to net) n ∙ ap (λ (b : ℕ). budgets_to net i + b) here

pub budgets_at : (net : Machines) (xs : List Machine) (i : ℕ) (machine : Machine) → xs ≡ net.machines.items → i < length xs → machine ≡ get_or xs i machine → budgets_to net (i + 1) ≡ budgets_to net i + machine.budget
budgets_at net xs i machine e lt is =
    let lt' : i < length net.machines.items = subst (λ (ys : List Machine). i < length ys) e lt in
    let same : machine.budget ≡ (get_or net.machines.items i machine).budget = ap (λ (m : Machine). m.budget) (is ∙ ap (λ (ys : List Machine). get_or ys i machine) e) in
    let step = budgets_step net i machine lt' in omega arith

-- fewer machines have no larger budgets
pub budgets_more : (net : Machines) (i n : ℕ) → i ≤ n → budgets_to net i ≤ budgets_to net n
budgets_more net i n le =
    let m : (n - i) + i ≡ n = omega arith in
    subst (λ (j : ℕ). budgets_to net i ≤ budgets_to net j) m (total_more (n - i) i (λ w. (rule_of (slice_get net.machines.items w)).budget))
