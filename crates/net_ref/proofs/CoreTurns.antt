-- The turn of a processor.
use Rattle.std.proofs.Common.{◌≡◌, ℕ, suc, ◌+◌, ◌<◌, ◌≤◌, Bool, true, false, not, List, [], ◌∷◌, ◌++◌, length, map, Option, Some, None, refl, sym, ap, ◌∙◌, subst, ⊎_elim, ◌⊎◌, inl, inr, arith}
use Rattle.std.specs.Prelude.{slice_get, nat_lt, ◌&&◌}
use Rattle.std.specs.Option.{is_some}
use Rattle.std.proofs.lemmas.Bool.{lt-ltb}
use Rattle.std.proofs.lemmas.Option.{slice_get_within}
use Rattle.kahn_law.specs.Worker.{heads, may_move, moved, times}
use Rattle.kahn_law.specs.Network as law
use Rattle.xt_core.specs.declared.ending.Trap.{Trap}
use Rattle.xt_state.specs.State.{State}
use Rattle.xt_exec.specs.declared.answer.Step.TheVariants as steps
use Rattle.xt_exec.specs.Queues as queues
use Rattle.xt_exec.specs.Step.{BundleStep, bundle_at}
use Rattle.net_parts.specs.declared.parts.Net.{Net}
use Rattle.net_parts.specs.declared.parts.NetCore.{NetCore}
use Rattle.net_ref.specs.declared.channel.Channel.{Channel}
use Rattle.net_ref.specs.declared.ports.CorePorts.{CorePorts}
use Rattle.net_parts.specs.declared.ends.CoreEnd.{CoreEnd}
use Rattle.net_ref.specs.Place.{Place, CoreAt}
use Rattle.net_ref.specs.Processor.{is_running, next_trap, met, fetched_pops, fetched_pushes, chosen, next_pops, next_pushes, heads_of, fetched_state, fetched_writes, state_after, writes_after}
use Rattle.net_ref.specs.Workers.{Nodes, network, core_count, core_rule, rule_or_still, rule_at, input_queue, output_queue, reader, writer, values_to}
use Rattle.net_ref.specs.Reference.{gate_of}
use Rattle.net_ref.specs.Shown.{ShowsCore, IsAtTurn, IsCoreTurn, AreConsumed, AreExtended, queues_of, shown_head, shown_heads, turn_of}
use Rattle.net_ref.proofs.Popped.{Popped, popped_all, popped_none, times_none, times_chosen}
use Rattle.net_ref.proofs.Wiring.{input_below, input_reader, input_differ, output_below, output_writer}
use Rattle.net_ref.proofs.LawTurns.{turn_spent, turn_gated, turn_stuck, turn_made, move_ended, move_lacks, move_made}
use Rattle.net_ref.proofs.Steps.{step_trapped, step_needs, step_stepped, step_halted, chosen_none, met_trap, met_none, met_spent, met_ended, still_running}
use Rattle.net_ref.proofs.Tables.{table_length, head_in_table, at_eight, heads_are}
use Rattle.net_ref.proofs.Moved.{AreMovedBy, channels_after, channels_kept, values_nothing}

-- the rule of a processor's worker
pub core_rule_is : (net : Net) (c : ℕ) (here : NetCore) → slice_get net.cores.items c ≡ Some here → rule_at net c ≡ core_rule net c here
core_rule_is net c here there =
    let b = lt-ltb c (core_count net) (slice_get_within net.cores.items c here there) in
    rw b (ap (rule_or_still (core_rule net c)) there)

-- a running processor is in its node's state
pub at_state : (net : Net) (c : ℕ) (nodes : Nodes) (here : NetCore) (ports : CorePorts) (x : CoreEnd) (channels : List Channel) → IsAtTurn net c nodes here ports x channels
    → is_running x.arch.ending ≡ true → (nodes c).now.state ≡ CoreAt x.arch
at_state net c nodes here ports x channels t running =
    t.core.at ∙ ap CoreAt (sym (still_running here.kit here.budget (nodes c).count t.core.last x.arch t.core.arch running))

-- ---- turns without a move

not_moved : (bounded : Bool) (net : Net) (c : ℕ) (nodes : Nodes) (here : NetCore) (ports : CorePorts) (x y : CoreEnd) (channels : List Channel) (last : State)
    → IsAtTurn net c nodes here ports x channels → turn_of bounded net nodes c ≡ nodes c → (nodes c).now.state ≡ CoreAt last
    → y.retired ≡ x.retired → y.arch ≡ met here.kit here.budget (nodes c).count last → IsCoreTurn bounded net nodes c here false y channels
not_moved bounded net c nodes here ports x y channels last t kept at retired arch = record {
  core = subst (λ (n : law.Node Place ℕ). ShowsCore here n y) (sym kept) (record { last = last; at = at; retired = retired ∙ t.core.retired; arch = inr arch });
  queues = channels_kept bounded net nodes c channels t.queues kept;
  goes = λ e. absurd (never e);
  still = λ e. kept;
  met = λ e. record { last = last; at = at; arch = arch };
}
  where
    never : false ≡ true → ⊥
    never e = cc

may_at : (net : Net) (c : ℕ) (here : NetCore) (s : State) (p : Place) → p ≡ CoreAt s
    → may_move (core_rule net c here) p ≡ (is_running s.ending && not (is_some (next_trap here.kit s)))
may_at net c here s p e = ap (may_move (core_rule net c here)) e

stuck_ended : (bounded : Bool) (net : Net) (c : ℕ) (nodes : Nodes) (here : NetCore) (s : State) → slice_get net.cores.items c ≡ Some here → (nodes c).now.state ≡ CoreAt s
    → (is_running s.ending && not (is_some (next_trap here.kit s))) ≡ false → turn_of bounded net nodes c ≡ nodes c
stuck_ended bounded net c nodes here s there at ended =
    turn_stuck (network net) (gate_of bounded net) nodes c (core_rule net c here) (core_rule_is net c here there)
    (move_ended (core_rule net c here) (law.inputs (network net) nodes c) (nodes c).now (may_at net c here s (nodes c).now.state at ∙ ended))

-- a processor that is spent or doesn't run
pub idle : (bounded : Bool) (net : Net) (c : ℕ) (nodes : Nodes) (here : NetCore) (ports : CorePorts) (x : CoreEnd) (channels : List Channel) → IsAtTurn net c nodes here ports x channels
    → (nat_lt x.retired here.budget && is_running x.arch.ending) ≡ false → IsCoreTurn bounded net nodes c here false x channels
idle bounded net c nodes here ports x channels t never =
    by_case (nat_lt (nodes c).count here.budget) (is_running t.core.last.ending) (next_trap here.kit t.core.last) refl refl refl t.core.arch
  where
    done : turn_of bounded net nodes c ≡ nodes c → x.arch ≡ met here.kit here.budget (nodes c).count t.core.last → IsCoreTurn bounded net nodes c here false x channels
    done kept arch = not_moved bounded net c nodes here ports x x channels t.core.last t kept t.core.at refl arch

    either : (a : State) → a ≡ t.core.last → (x.arch ≡ t.core.last) ⊎ (x.arch ≡ a) → x.arch ≡ t.core.last
    either a e h = ⊎_elim (λ p. p) (λ p. p ∙ e) h

    clash : (b : Bool) → b ≡ true → b ≡ false → ⊥
    clash b p q = cc

    differ : (n m : ℕ) (a b : Bool) → n ≡ m → nat_lt m here.budget ≡ true → a ≡ true → (nat_lt n here.budget && a) ≡ false → ⊥
    differ n m a b e lt run never =
        let f : (nat_lt n here.budget && a) ≡ true = subst (λ (k : ℕ). (nat_lt k here.budget && a) ≡ true) (sym e) (rw (lt, run) refl) in clash (nat_lt n here.budget && a) f never

    by_case : (lt run : Bool) (trap : Option Trap) → nat_lt (nodes c).count here.budget ≡ lt → is_running t.core.last.ending ≡ run → next_trap here.kit t.core.last ≡ trap
        → (x.arch ≡ t.core.last) ⊎ (x.arch ≡ met here.kit here.budget (nodes c).count t.core.last) → IsCoreTurn bounded net nodes c here false x channels
    by_case false run trap e f g shown =
        let same = met_spent here.kit here.budget (nodes c).count t.core.last e in
        done (turn_spent (network net) (gate_of bounded net) nodes c (core_rule net c here) (core_rule_is net c here t.there) e)
        (either (met here.kit here.budget (nodes c).count t.core.last) same shown ∙ sym same)
    by_case true false trap e f g shown =
        let same = met_ended here.kit here.budget (nodes c).count t.core.last f in
        done (stuck_ended bounded net c nodes here t.core.last t.there t.core.at (rw f refl))
        (either (met here.kit here.budget (nodes c).count t.core.last) same shown ∙ sym same)
    by_case true true None e f g shown =
        let same = met_none here.kit here.budget (nodes c).count t.core.last g in
        let is = either (met here.kit here.budget (nodes c).count t.core.last) same shown in
        let run : is_running x.arch.ending ≡ true = subst (λ (y : State). is_running y.ending ≡ true) (sym is) f in
        absurd (differ x.retired (nodes c).count (is_running x.arch.ending) true t.core.retired e run never)
    by_case true true (Some trap) e f g shown =
        done (stuck_ended bounded net c nodes here t.core.last t.there t.core.at (rw (f, g) refl))
        (⊎_elim
        (λ p. let run : is_running x.arch.ending ≡ true = subst (λ (y : State). is_running y.ending ≡ true) (sym p) f in
        absurd (differ x.retired (nodes c).count (is_running x.arch.ending) true t.core.retired e run never))
        (λ p. p) shown)

-- a running processor below its budget that doesn't pass the gate, for it pushes to a queue that is full
pub full : (bounded : Bool) (net : Net) (c : ℕ) (nodes : Nodes) (here : NetCore) (ports : CorePorts) (x : CoreEnd) (channels : List Channel) → IsAtTurn net c nodes here ports x channels
    → is_running x.arch.ending ≡ true → gate_of bounded net nodes c ≡ false → next_trap here.kit x.arch ≡ None → IsCoreTurn bounded net nodes c here false x channels
full bounded net c nodes here ports x channels t running closed none =
    not_moved bounded net c nodes here ports x x channels x.arch t (turn_gated (network net) (gate_of bounded net) nodes c closed)
    (at_state net c nodes here ports x channels t running) refl (sym (met_none here.kit here.budget (nodes c).count x.arch none))

below_budget : (net : Net) (c : ℕ) (nodes : Nodes) (here : NetCore) (ports : CorePorts) (x : CoreEnd) (channels : List Channel) → IsAtTurn net c nodes here ports x channels
    → x.retired < here.budget → nat_lt (nodes c).count here.budget ≡ true
below_budget net c nodes here ports x channels t lt = lt-ltb (nodes c).count here.budget (subst (λ (n : ℕ). n < here.budget) t.core.retired lt)

-- one that meets a trap
pub traps : (bounded : Bool) (net : Net) (c : ℕ) (nodes : Nodes) (here : NetCore) (ports : CorePorts) (x y : CoreEnd) (channels : List Channel) (hs : List (Option ℕ)) (trap : Trap)
    → IsAtTurn net c nodes here ports x channels → is_running x.arch.ending ≡ true → x.retired < here.budget
    → BundleStep here.kit x.arch hs (steps.Trapped trap) y.arch → y.retired ≡ x.retired → IsCoreTurn bounded net nodes c here false y channels
traps bounded net c nodes here ports x y channels hs trap t running lt step retired =
    let n = step_trapped here.kit x.arch hs trap y.arch step in
    let at = at_state net c nodes here ports x channels t running in
    let ended : (is_running x.arch.ending && not (is_some (next_trap here.kit x.arch))) ≡ false = rw (running, n.next) refl in
    not_moved bounded net c nodes here ports x y channels x.arch t (stuck_ended bounded net c nodes here x.arch t.there at ended) at retired
    (n.behind ∙ sym (met_trap here.kit here.budget (nodes c).count x.arch trap (below_budget net c nodes here ports x channels t lt) running n.next))

-- ---- items

pops_at : (net : Net) (c : ℕ) (here : NetCore) (s : State) (p : Place) → p ≡ CoreAt s → (core_rule net c here).pops p ≡ map (input_queue net c) (next_pops here.kit s)
pops_at net c here s p e = ap (core_rule net c here).pops e

-- what the program saw as the head of an input queue
seen : (net : Net) (c : ℕ) (nodes : Nodes) (here : NetCore) (ports : CorePorts) (x : CoreEnd) (channels : List Channel) (hs : List (Option ℕ)) (test : ℕ → Bool)
    → IsAtTurn net c nodes here ports x channels → length ports.ins.items < 9 → hs ≡ shown_heads channels ports.ins.items test
    → (q : ℕ) → q < length here.kit.desc.ins → test q ≡ true
    → queues.head_of hs q ≡ slice_get (law.inputs (network net) nodes c (input_queue net c q)) ((nodes c).now.consumed (input_queue net c q))
seen net c nodes here ports x channels hs test t few e q lt is =
    let len = table_length (input_queue net c) (length here.kit.desc.ins) ports.ins.items t.table.ins in
    ap (λ (h : List (Option ℕ)). queues.head_of h q) e
    ∙ (at_eight (shown_head channels ports.ins.items test) q (omega arith)
    ∙ rw is (head_in_table net c nodes here ports x channels t q lt))

-- one that lacks an item
pub lacks : (bounded : Bool) (net : Net) (c : ℕ) (nodes : Nodes) (here : NetCore) (ports : CorePorts) (x y : CoreEnd) (channels : List Channel) (hs : List (Option ℕ)) (q : ℕ)
    → IsAtTurn net c nodes here ports x channels → is_running x.arch.ending ≡ true → length ports.ins.items < 9
    → hs ≡ shown_heads channels ports.ins.items (fetched_pops here.kit.desc (bundle_at here.kit x.arch))
    → BundleStep here.kit x.arch hs (steps.NeedsItem q) y.arch → y.retired ≡ x.retired → IsCoreTurn bounded net nodes c here false y channels
lacks bounded net c nodes here ports x y channels hs q t running few e step retired =
    let n = step_needs here.kit x.arch hs q y.arch step in
    let at = at_state net c nodes here ports x channels t running in
    let r = core_rule net c here in
    let f = input_queue net c in
    let test = fetched_pops here.kit.desc (bundle_at here.kit x.arch) in
    let none : slice_get (law.inputs (network net) nodes c (f q)) ((nodes c).now.consumed (f q)) ≡ None =
    sym (seen net c nodes here ports x channels hs test t few e q n.below n.popped) ∙ n.lacks in
    let never = popped_none (law.inputs (network net) nodes c) (nodes c).now.consumed f test (length here.kit.desc.ins) 0 q (omega arith) (let b = n.below in omega arith) n.popped none in
    let never' : heads (law.inputs (network net) nodes c) (nodes c).now.consumed (r.pops (nodes c).now.state) ≡ None =
    ap (heads (law.inputs (network net) nodes c) (nodes c).now.consumed) (pops_at net c here x.arch (nodes c).now.state at) ∙ never in
    not_moved bounded net c nodes here ports x y channels x.arch t
    (turn_stuck (network net) (gate_of bounded net) nodes c r (core_rule_is net c here t.there) (move_lacks r (law.inputs (network net) nodes c) (nodes c).now never'))
    at retired (n.behind ∙ sym (met_none here.kit here.budget (nodes c).count x.arch n.next))

-- ---- a move

-- the turn of a processor that moves and pops these values
made : (bounded : Bool) (net : Net) (c : ℕ) (nodes : Nodes) (here : NetCore) (ports : CorePorts) (x : CoreEnd) (channels : List Channel) (vs : List ℕ)
    → IsAtTurn net c nodes here ports x channels → gate_of bounded net nodes c ≡ true → is_running x.arch.ending ≡ true → x.retired < here.budget → next_trap here.kit x.arch ≡ None
    → heads (law.inputs (network net) nodes c) (nodes c).now.consumed (map (input_queue net c) (next_pops here.kit x.arch)) ≡ Some vs
    → turn_of bounded net nodes c ≡ record { count = suc (nodes c).count; now = moved (core_rule net c here) (nodes c).now vs }
made bounded net c nodes here ports x channels vs t opened running lt none hs =
    let at = at_state net c nodes here ports x channels t running in
    let r = core_rule net c here in
    let may : may_move r (nodes c).now.state ≡ true = may_at net c here x.arch (nodes c).now.state at ∙ rw (running, none) refl in
    let hs' : heads (law.inputs (network net) nodes c) (nodes c).now.consumed (r.pops (nodes c).now.state) ≡ Some vs =
    ap (heads (law.inputs (network net) nodes c) (nodes c).now.consumed) (pops_at net c here x.arch (nodes c).now.state at) ∙ hs in
    turn_made (network net) (gate_of bounded net) nodes c r (moved r (nodes c).now vs) (core_rule_is net c here t.there)
    (below_budget net c nodes here ports x channels t lt) opened (move_made r (law.inputs (network net) nodes c) (nodes c).now vs may hs')

-- what stands behind it
did : (bounded : Bool) (net : Net) (c : ℕ) (nodes : Nodes) (here : NetCore) (ports : CorePorts) (x y : CoreEnd) (channels new : List Channel) (vs : List ℕ)
    → IsAtTurn net c nodes here ports x channels → is_running x.arch.ending ≡ true
    → turn_of bounded net nodes c ≡ record { count = suc (nodes c).count; now = moved (core_rule net c here) (nodes c).now vs }
    → y.retired ≡ x.retired + 1 → y.arch ≡ state_after here.kit x.arch vs → length new ≡ length channels
    → AreMovedBy (map (input_queue net c) (next_pops here.kit x.arch)) (values_to (output_queue net c) (queues.all_sent (writes_after here.kit x.arch vs)) (next_pushes here.kit x.arch)) channels new
    → IsCoreTurn bounded net nodes c here true y new
did bounded net c nodes here ports x y channels new vs t running e retired arch len by = record {
  core = record {
    last = state_after here.kit x.arch vs;
    at = ap (λ (n : law.Node Place ℕ). n.now.state) e ∙ ap (λ (p : Place). (core_rule net c here).act p vs) at;
    retired = let n = t.core.retired in let m : (turn_of bounded net nodes c).count ≡ suc (nodes c).count = ap (λ (n : law.Node Place ℕ). n.count) e in omega arith;
    arch = inl arch;
  };
  queues = channels_after bounded net nodes c (map (input_queue net c) (next_pops here.kit x.arch))
      (values_to (output_queue net c) (queues.all_sent (writes_after here.kit x.arch vs)) (next_pushes here.kit x.arch)) channels new t.queues len by
      (λ q. ap (λ (n : law.Node Place ℕ). n.now.pushed q) e ∙ ap (λ (p : Place). (nodes c).now.pushed q ++ (core_rule net c here).puts p vs q) at)
      (λ q. ap (λ (n : law.Node Place ℕ). n.now.consumed q) e ∙ ap (λ (p : Place). (nodes c).now.consumed q + times q ((core_rule net c here).pops p)) at)
      (λ q lt ne. values_nothing (output_queue net c) (queues.all_sent (writes_after here.kit x.arch vs)) (fetched_pushes here.kit.desc (bundle_at here.kit x.arch)) q (length here.kit.desc.outs) 0
      (λ j le below same. ne (ap (writer net) (sym same) ∙ output_writer net c j (output_below net c j here t.sound t.there (omega arith)))))
      (λ q lt ne. times_none (input_queue net c) (fetched_pops here.kit.desc (bundle_at here.kit x.arch)) q (length here.kit.desc.ins) 0
      (λ j le below is same. ne (ap (reader net) (sym same) ∙ input_reader net c j (input_below net c j here t.sound t.there (omega arith)))));
  goes = λ _. ap (λ (n : law.Node Place ℕ). n.count) e;
  still = λ f. absurd (never f);
  met = λ f. absurd (never f);
}
  where
    at : (nodes c).now.state ≡ CoreAt x.arch
    at = at_state net c nodes here ports x channels t running

    never : true ≡ false → ⊥
    never e = cc

some_of : (o : Option ℕ) → (o ≡ None → ⊥) → (v : ℕ) × (o ≡ Some v)
some_of None never = absurd (never refl)
some_of (Some v) never = (v, refl)

-- ---- a bundle that retires and goes on

-- all popped queues had an item
pub popped_here : (net : Net) (c : ℕ) (nodes : Nodes) (here : NetCore) (ports : CorePorts) (x : CoreEnd) (channels : List Channel) (hs : List (Option ℕ)) (test : ℕ → Bool)
    → IsAtTurn net c nodes here ports x channels → length ports.ins.items < 9 → hs ≡ shown_heads channels ports.ins.items test
    → ((q : ℕ) → q < length here.kit.desc.ins → test q ≡ true → queues.head_of hs q ≡ None → ⊥)
    → Popped (law.inputs (network net) nodes c) (nodes c).now.consumed (input_queue net c) test (chosen test (length here.kit.desc.ins)) 0 (length here.kit.desc.ins)
popped_here net c nodes here ports x channels hs test t few e has =
    popped_all (law.inputs (network net) nodes c) (nodes c).now.consumed (input_queue net c) test (length here.kit.desc.ins) 0
    (λ j le lt is.
    let below : j < length here.kit.desc.ins = omega arith in
    some_of (slice_get (law.inputs (network net) nodes c (input_queue net c j)) ((nodes c).now.consumed (input_queue net c j)))
    (λ none. has j below is (seen net c nodes here ports x channels hs test t few e j below is ∙ none)))

-- a queue of which an item was consumed had one
consumed_all : (net : Net) (c : ℕ) (nodes : Nodes) (here : NetCore) (ports : CorePorts) (x : CoreEnd) (channels : List Channel) (hs : List (Option ℕ)) (test : ℕ → Bool) (q : ℕ) (y : Channel)
    → IsAtTurn net c nodes here ports x channels → length ports.ins.items < 9 → hs ≡ shown_heads channels ports.ins.items test
    → ((q : ℕ) → q < length here.kit.desc.ins → test q ≡ true → queues.head_of hs q ≡ None → ⊥)
    → slice_get channels q ≡ Some y → y.consumed ≤ length y.history.items
    → y.consumed + times q (queues_of (input_queue net c) test (length here.kit.desc.ins)) ≤ length y.history.items
consumed_all net c nodes here ports x channels hs test q y t few e has at within =
    ⊎_elim
    (λ none. omega arith)
    (λ once.
    let j = once.port in
    let below : j < length here.kit.desc.ins = let b = once.below in omega arith in
    let v = some_of (slice_get (law.inputs (network net) nodes c (input_queue net c j)) ((nodes c).now.consumed (input_queue net c j)))
    (λ none. has j below once.passes (seen net c nodes here ports x channels hs test t few e j below once.passes ∙ none)) in
    let there : slice_get (law.inputs (network net) nodes c q) ((nodes c).now.consumed q) ≡ Some v.0 =
    subst (λ (k : ℕ). slice_get (law.inputs (network net) nodes c k) ((nodes c).now.consumed k) ≡ Some v.0) once.is v.1 in
    let read : reader net q ≡ c = ap (reader net) (sym once.is) ∙ input_reader net c j (input_below net c j here t.sound t.there below) in
    let count : y.consumed ≡ (nodes c).now.consumed q = t.queues.consumed q y at ∙ ap (λ (w : ℕ). (nodes w).now.consumed q) read in
    let items : length y.history.items ≡ length (law.inputs (network net) nodes c q) = ap length (t.queues.histories q y at) in
    let more = slice_get_within (law.inputs (network net) nodes c q) ((nodes c).now.consumed q) v.0 there in
    let one = once.once in
    omega arith)
    (times_chosen (input_queue net c) test q (length here.kit.desc.ins) 0
    (λ j k a b c' d same. input_differ net c j k (input_below net c j here t.sound t.there (omega arith)) same))

pub stepped : (bounded : Bool) (net : Net) (c : ℕ) (nodes : Nodes) (here : NetCore) (ports : CorePorts) (x y : CoreEnd) (channels mid new : List Channel) (hs values : List (Option ℕ))
    → IsAtTurn net c nodes here ports x channels → gate_of bounded net nodes c ≡ true → is_running x.arch.ending ≡ true → x.retired < here.budget → length ports.ins.items < 9
    → ((q : ℕ) (z : Channel) → slice_get channels q ≡ Some z → z.consumed ≤ length z.history.items)
    → hs ≡ shown_heads channels ports.ins.items (fetched_pops here.kit.desc (bundle_at here.kit x.arch))
    → BundleStep here.kit x.arch hs (steps.Stepped values) y.arch
    → AreConsumed (queues_of (input_queue net c) (fetched_pops here.kit.desc (bundle_at here.kit x.arch)) (length here.kit.desc.ins)) channels mid
    → AreExtended (values_to (output_queue net c) values (chosen (fetched_pushes here.kit.desc (bundle_at here.kit x.arch)) (length here.kit.desc.outs))) mid new
    → length new ≡ length channels → y.retired ≡ x.retired + 1 → IsCoreTurn bounded net nodes c here true y new
stepped bounded net c nodes here ports x y channels mid new hs values t opened running lt few within e step cons ext len retired =
    let n = step_stepped here.kit x.arch hs values y.arch step in
    let test = fetched_pops here.kit.desc (bundle_at here.kit x.arch) in
    let p = popped_here net c nodes here ports x channels hs test t few e n.has in
    let same : hs ≡ heads_of (next_pops here.kit x.arch) p.vs = e ∙ heads_are net c nodes here ports x channels t test p in
    let arch : y.arch ≡ state_after here.kit x.arch p.vs = n.behind ∙ ap (fetched_state here.kit.desc (bundle_at here.kit x.arch) x.arch) same in
    let vals : values ≡ queues.all_sent (writes_after here.kit x.arch p.vs) =
    n.sent ∙ ap (λ (h : List (Option ℕ)). queues.all_sent (fetched_writes here.kit.desc (bundle_at here.kit x.arch) x.arch h)) same in
    let turn = made bounded net c nodes here ports x channels p.vs t opened running lt n.next p.popped in
    did bounded net c nodes here ports x y channels new p.vs t running turn retired arch len
    (λ q z at.
    let w = ext q z at in
    let v = cons q w.0 w.1 in
    let most = consumed_all net c nodes here ports x channels hs test q v.0 t few e n.has v.1 (within q v.0 v.1) in
    let a = w.3 in
    let b = v.3 in (
      v.0,
      v.1,
      w.2 ∙ (ap (λ (xs : List ℕ). xs ++ values_to (output_queue net c) values (next_pushes here.kit x.arch) q) v.2
          ∙ ap (λ (vs : List (Option ℕ)). v.0.history.items ++ values_to (output_queue net c) vs (next_pushes here.kit x.arch) q) vals),
      omega arith,
    ))

-- a bundle that halts uses no queue
pub halted : (bounded : Bool) (net : Net) (c : ℕ) (nodes : Nodes) (here : NetCore) (ports : CorePorts) (x y : CoreEnd) (channels : List Channel) (hs : List (Option ℕ))
    → IsAtTurn net c nodes here ports x channels → gate_of bounded net nodes c ≡ true → is_running x.arch.ending ≡ true → x.retired < here.budget → length ports.ins.items < 9
    → hs ≡ shown_heads channels ports.ins.items (fetched_pops here.kit.desc (bundle_at here.kit x.arch))
    → BundleStep here.kit x.arch hs steps.Halted y.arch → y.retired ≡ x.retired + 1 → IsCoreTurn bounded net nodes c here true y channels
halted bounded net c nodes here ports x y channels hs t opened running lt few e step retired =
    let n = step_halted here.kit x.arch hs y.arch step in
    let test = fetched_pops here.kit.desc (bundle_at here.kit x.arch) in
    let p = popped_here net c nodes here ports x channels hs test t few e (λ q below is none. clash (test q) is (n.no_pops q)) in
    let same : hs ≡ heads_of (next_pops here.kit x.arch) p.vs = e ∙ heads_are net c nodes here ports x channels t test p in
    let arch : y.arch ≡ state_after here.kit x.arch p.vs = n.behind ∙ ap (fetched_state here.kit.desc (bundle_at here.kit x.arch) x.arch) same in
    let turn = made bounded net c nodes here ports x channels p.vs t opened running lt n.next p.popped in
    let pops : next_pops here.kit x.arch ≡ [] = chosen_none test (length here.kit.desc.ins) n.no_pops in
    let pushes : next_pushes here.kit x.arch ≡ [] = chosen_none (fetched_pushes here.kit.desc (bundle_at here.kit x.arch)) (length here.kit.desc.outs) n.no_pushes in
    did bounded net c nodes here ports x y channels channels p.vs t running turn retired arch refl
    (λ q z at.
    let none : times q (map (input_queue net c) (next_pops here.kit x.arch)) ≡ 0 = ap (λ (ps : List ℕ). times q (map (input_queue net c) ps)) pops in
    let nothing : values_to (output_queue net c) (queues.all_sent (writes_after here.kit x.arch p.vs)) (next_pushes here.kit x.arch) q ≡ [] =
    ap (λ (os : List ℕ). values_to (output_queue net c) (queues.all_sent (writes_after here.kit x.arch p.vs)) os q) pushes in
    (z, at, sym (back z.history.items) ∙ ap (λ (vs : List ℕ). z.history.items ++ vs) (sym nothing), omega arith))
  where
    clash : (b : Bool) → b ≡ true → b ≡ false → ⊥
    clash b p q = cc

    back : (xs : List ℕ) → xs ++ [] ≡ xs
    back [] = refl
    back (x ∷ xs) = ap (λ (ys : List ℕ). x ∷ ys) (back xs)
