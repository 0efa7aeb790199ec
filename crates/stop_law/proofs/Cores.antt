-- A processor at a stop.
use Rattle.std.proofs.Common.{◌≡◌, ℕ, ◌+◌, ◌<◌, ◌≤◌, Bool, true, false, not, length, map, Option, Some, None, refl, sym, ap, ◌∙◌, subst, ⊎_elim, ◌⊎◌, inl, inr, arith}
use Rattle.std.specs.Prelude.{slice_get, ◌==◌, ◌&&◌}
use Rattle.std.specs.Option.{is_some}
use Rattle.std.proofs.lemmas.Bool.{eq-eqb, lt-ltb}
use Rattle.std.proofs.lemmas.Option.{slice_get_within}
use Rattle.kahn_law.specs.Network as law
use Rattle.kahn_law.specs.Worker.{Rule, heads, may_move}
use Rattle.kahn_law.proofs.Lists.{mapped_item}
use Rattle.kahn_law.proofs.Rounds.{in_budget}
use Rattle.xt_core.specs.declared.ending.Ending.{Ending}
use Rattle.xt_core.specs.declared.ending.Ending.TheVariants as endings
use Rattle.xt_core.specs.declared.ending.Trap.{Trap}
use Rattle.xt_state.specs.State.{State}
use Rattle.tie_report.specs.xt_exec.Step.{bundle_at, trapped}
use Rattle.tie_report.specs.net_parts.declared.ends.CoreEnd.{CoreEnd}
use Rattle.tie_report.specs.net_parts.declared.ends.RunEnd.{RunEnd}
use Rattle.tie_report.specs.net_parts.declared.parts.Net.{Net}
use Rattle.tie_report.specs.net_parts.declared.parts.NetCore.{NetCore}
use Rattle.tie_report.specs.net_parts.Network.{IsNet}
use Rattle.tie_report.specs.net_ref.Place.{CoreAt, Place}
use Rattle.tie_report.specs.net_ref.Processor.{fetched_pops, fetched_pushes, is_running, next_pops, next_pushes, next_trap}
use Rattle.tie_report.specs.net_ref.Reference.{IsCoreEnd, IsEnd, gate_of, rounds_of}
use Rattle.tie_report.specs.net_ref.Workers.{capacity_of, core_rule, input_queue, network, output_queue, reader, writer}
use Rattle.tie_report.proofs.net_ref_proofs.CoreTurns.{core_rule_is}
use Rattle.tie_report.proofs.net_ref_proofs.Places.{none_past}
use Rattle.tie_report.proofs.net_ref_proofs.Steps.{met_trap, still_running}
use Rattle.tie_report.proofs.net_ref_proofs.Wiring.{input_below, input_reader, output_below, output_writer}
use Rattle.tie_report.specs.Standing.{first_empty, first_full, is_empty, is_full, standing, standing_by, waiting}
use Rattle.stop_law.specs.Finished.{IsStill}
use Rattle.stop_law.proofs.Ports.{chosen_below, found}
use Rattle.stop_law.proofs.Queues.{consumed_within, empty_at, full_at, pushed_within}
use Rattle.stop_law.proofs.Stuck.{crowded, held_up, idle_round, lacking}

-- what stands at a stop
pub record IsAtStop (bounded : Bool) (net : Net) (n : ℕ) (end : RunEnd) : Type 0 where
  pub sound : IsNet net
  pub stops : law.StopsAt (network net) (gate_of bounded net) n
  pub ends : IsEnd net (rounds_of bounded net n) end

-- a running processor there that is below its budget
record IsGoing (bounded : Bool) (net : Net) (n : ℕ) (end : RunEnd) (c : ℕ) (here : NetCore) (e : CoreEnd) : Type 0 where
  there : slice_get net.cores.items c ≡ Some here
  state : (rounds_of bounded net n c).now.state ≡ CoreAt e.arch
  runs : is_running e.arch.ending ≡ true
  sane : next_trap here.kit e.arch ≡ None
  below : (rounds_of bounded net n c).count < here.budget

-- it lacks an item
lacks : (bounded : Bool) (net : Net) (n : ℕ) (end : RunEnd) (c : ℕ) (here : NetCore) (e : CoreEnd) → IsAtStop bounded net n end → IsGoing bounded net n end c here e
    → heads (law.inputs (network net) (rounds_of bounded net n) c) (rounds_of bounded net n c).now.consumed ((core_rule net c here).pops (rounds_of bounded net n c).now.state) ≡ None
    → (q : ℕ) × (first_empty net end c here e.arch ≡ Some q)
lacks bounded net n end c here e stop going none =
    let nodes = rounds_of bounded net n in
    let ins = law.inputs (network net) nodes c in
    let test = fetched_pops here.kit.desc (bundle_at here.kit e.arch) in
    let none' : heads ins (nodes c).now.consumed (map (input_queue net c) (next_pops here.kit e.arch)) ≡ None =
    ap (λ (p : Place). heads ins (nodes c).now.consumed ((core_rule net c here).pops p)) (sym going.state) ∙ none in
    let l = lacking ins (nodes c).now.consumed (map (input_queue net c) (next_pops here.kit e.arch)) none' in
    let i = mapped_item (input_queue net c) (next_pops here.kit e.arch) l.0 l.1 l.2 in
    let q = input_queue net c i.0 in
    let few = chosen_below test (length here.kit.desc.ins) 0 l.0 i.0 i.1 in
    let lt = input_below net c i.0 here stop.sound going.there (omega arith) in
    let past = none_past (ins q) ((nodes c).now.consumed q) (subst (λ (p : ℕ). slice_get (ins p) ((nodes c).now.consumed p) ≡ None) (sym i.2) l.3) in
    let within = consumed_within bounded net n c q stop.sound in
    let same : length ((nodes (writer net q)).now.pushed q) ≡ (nodes c).now.consumed q = omega arith in
    found (λ p. is_empty (slice_get end.queues.items p)) (map (input_queue net c) (next_pops here.kit e.arch)) l.0 q (l.2 ∙ ap Some (sym i.2))
    (empty_at net nodes end q (writer net q) c stop.ends lt refl (input_reader net c i.0 lt) same)

-- it lacks room
crowds : (net : Net) (n : ℕ) (end : RunEnd) (c : ℕ) (here : NetCore) (e : CoreEnd) → IsAtStop true net n end → IsGoing true net n end c here e
    → law.room_gate (network net) (rounds_of true net n) c ≡ false → (q : ℕ) × (first_full net end c here e.arch ≡ Some q)
crowds net n end c here e stop going closed =
    let nodes = rounds_of true net n in
    let test = fetched_pushes here.kit.desc (bundle_at here.kit e.arch) in
    let closed' : law.has_room (network net) nodes c (map (output_queue net c) (next_pushes here.kit e.arch)) ≡ false =
    ap (λ (p : Place). law.has_room (network net) nodes c ((core_rule net c here).outs p)) (sym going.state)
    ∙ (ap (λ (r : Rule Place ℕ). law.has_room (network net) nodes c (r.outs (nodes c).now.state)) (sym (core_rule_is net c here going.there)) ∙ closed) in
    let l = crowded (network net) nodes c (map (output_queue net c) (next_pushes here.kit e.arch)) closed' in
    let i = mapped_item (output_queue net c) (next_pushes here.kit e.arch) l.0 l.1 l.2 in
    let q = output_queue net c i.0 in
    let few = chosen_below test (length here.kit.desc.outs) 0 l.0 i.0 i.1 in
    let lt = output_below net c i.0 here stop.sound going.there (omega arith) in
    let capacity = capacity_of (slice_get net.queues.items q) in
    let most : (nodes (reader net q)).now.consumed q + capacity ≤ length ((nodes c).now.pushed q) =
    subst (λ (o : ℕ). (nodes (reader net o)).now.consumed o + capacity_of (slice_get net.queues.items o) ≤ length ((nodes c).now.pushed o)) (sym i.2) l.3 in
    let c_in = slice_get_within net.cores.items c here going.there in
    let within = pushed_within net n c q stop.sound (omega arith) in
    let same : length ((nodes c).now.pushed q) ≡ (nodes (reader net q)).now.consumed q + capacity = omega arith in
    found (λ p. is_full (capacity_of (slice_get net.queues.items p)) (slice_get end.queues.items p)) (map (output_queue net c) (next_pushes here.kit e.arch)) l.0 q (l.2 ∙ ap Some (sym i.2))
    (full_at net nodes end q c capacity stop.ends lt (output_writer net c i.0 lt) same)

-- it waits at an empty queue or, with capacities, at a full one
abbrev Waits : Bool → Option ℕ → Option ℕ → Type 0
Waits bounded empty full = ((q : ℕ) × (empty ≡ Some q)) ⊎ ((bounded ≡ true) × ((q : ℕ) × (full ≡ Some q)))

still_waiting : (bounded : Bool) (empty full : Option ℕ) → Waits bounded empty full → IsStill bounded (waiting empty full)
still_waiting bounded (Some q) full w = tt
still_waiting bounded None (Some q) w = ⊎_elim (λ h. absurd (never h.0 h.1)) (λ h. h.0) w
  where
    never : (q : ℕ) → None ≡ Some q → ⊥
    never q e = cc
still_waiting bounded None None w = ⊎_elim (λ h. absurd (never h.0 h.1)) (λ h. absurd (never h.1.0 h.1.1)) w
  where
    never : (q : ℕ) → None ≡ Some q → ⊥
    never q e = cc

clash : true ≡ false → ⊥
clash e = cc

waits : (bounded : Bool) (net : Net) (n : ℕ) (end : RunEnd) (c : ℕ) (here : NetCore) (e : CoreEnd) → IsAtStop bounded net n end → IsGoing bounded net n end c here e
    → Waits bounded (first_empty net end c here e.arch) (first_full net end c here e.arch)
waits bounded net n end c here e stop going =
    let nodes = rounds_of bounded net n in
    let lt = slice_get_within net.cores.items c here going.there in
    let idle = idle_round (network net) (gate_of bounded net) n stop.stops c (omega arith) in
    let r = core_rule net c here in
    let may : may_move r (nodes c).now.state ≡ true = ap (may_move r) going.state ∙ both (is_running e.arch.ending) (next_trap here.kit e.arch) going.runs going.sane in
    ⊎_elim
    (λ spent. let below = going.below in absurd (omega arith))
    (⊎_elim
    (λ closed. gated bounded stop going closed)
    (⊎_elim
    (λ ended. absurd (clash (sym may ∙ ended)))
    (λ none. inl (lacks bounded net n end c here e stop going none))))
    (held_up (network net) (gate_of bounded net) nodes c r (core_rule_is net c here going.there) idle)
  where
    both : (b : Bool) (o : Option Trap) → b ≡ true → o ≡ None → (b && not (is_some o)) ≡ true
    both b o x y = rw (x, y) refl

    gated : (b : Bool) → IsAtStop b net n end → IsGoing b net n end c here e → gate_of b net (rounds_of b net n) c ≡ false
        → Waits b (first_empty net end c here e.arch) (first_full net end c here e.arch)
    gated true stop going closed = inr (refl, crowds net n end c here e stop going closed)
    gated false stop going closed = absurd (clash closed)

-- a processor that is reported as running below its budget goes on
going_on : (bounded : Bool) (net : Net) (n : ℕ) (end : RunEnd) (c : ℕ) (here : NetCore) (e : CoreEnd) → IsAtStop bounded net n end
    → slice_get net.cores.items c ≡ Some here → IsCoreEnd here (rounds_of bounded net n c) e → is_running e.arch.ending ≡ true → (e.retired == here.budget) ≡ false
    → IsGoing bounded net n end c here e
going_on bounded net n end c here e stop there shown runs unspent =
    let node = rounds_of bounded net n c in
    let last : e.arch ≡ shown.last = still_running here.kit here.budget node.count shown.last e.arch (inr shown.arch) runs in
    let most : node.count ≤ here.budget = subst (λ (r : Rule Place ℕ). node.count ≤ r.budget) (core_rule_is net c here there) (in_budget (network net) (gate_of bounded net) n c) in
    let count = shown.retired in
    let differ : node.count ≡ here.budget → ⊥ = λ same. clash (sym (eq-eqb e.retired here.budget (shown.retired ∙ same)) ∙ unspent) in
    let below : node.count < here.budget = less node.count here.budget most differ in
    record {
      there = there;
      state = shown.at ∙ ap CoreAt (sym last);
      runs = runs;
      sane = sane (next_trap here.kit e.arch) refl last below;
      below = below;
    }
  where
    less : (a b : ℕ) → a ≤ b → (a ≡ b → ⊥) → a < b
    less a b le ne = omega arith

    never : (s : State) (trap : Trap) → is_running (trapped s trap).ending ≡ true → ⊥
    never s trap h = cc

    sane : (o : Option Trap) → next_trap here.kit e.arch ≡ o → e.arch ≡ shown.last → (rounds_of bounded net n c).count < here.budget → next_trap here.kit e.arch ≡ None
    sane None is last below = is
    sane (Some trap) is last below =
        let next : next_trap here.kit shown.last ≡ Some trap = ap (next_trap here.kit) (sym last) ∙ is in
        let runs' : is_running shown.last.ending ≡ true = ap (λ (s : State). is_running s.ending) (sym last) ∙ runs in
        let b = lt-ltb (rounds_of bounded net n c).count here.budget below in
        let met = met_trap here.kit here.budget (rounds_of bounded net n c).count shown.last trap b runs' next in
        absurd (never shown.last trap (ap (λ (s : State). is_running s.ending) (sym (shown.arch ∙ met)) ∙ runs))

pub core_still : (bounded : Bool) (net : Net) (n : ℕ) (end : RunEnd) (c : ℕ) (here : NetCore) (e : CoreEnd) → IsAtStop bounded net n end
    → slice_get net.cores.items c ≡ Some here → slice_get end.cores.items c ≡ Some e → IsStill bounded (standing net end c here e)
core_still bounded net n end c here e stop there at = by_ending e.arch.ending refl
  where
    by_count : (b : Bool) → (e.retired == here.budget) ≡ b → is_running e.arch.ending ≡ true
        → IsStill bounded (standing_by endings.Running b (waiting (first_empty net end c here e.arch) (first_full net end c here e.arch)))
    by_count true is runs = tt
    by_count false is runs =
        still_waiting bounded (first_empty net end c here e.arch) (first_full net end c here e.arch)
        (waits bounded net n end c here e stop (going_on bounded net n end c here e stop there (stop.ends.cores c here e there at) runs is))

    by_ending : (x : Ending) → e.arch.ending ≡ x
        → IsStill bounded (standing_by x (e.retired == here.budget) (waiting (first_empty net end c here e.arch) (first_full net end c here e.arch)))
    by_ending endings.Running is = by_count (e.retired == here.budget) refl (ap is_running is)
    by_ending endings.Halted is = tt
    by_ending (endings.Trapped trap) is = tt
