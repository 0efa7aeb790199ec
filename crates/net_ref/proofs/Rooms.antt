-- The room of queues, as the program and as the law see it.
use Rattle.std.proofs.Common.{◌≡◌, ℕ, zero, suc, ◌+◌, ◌<◌, ◌≤◌, ◌↔◌, Bool, true, false, cond, List, ◌∷◌, length, map, get_or, Option, Some, None, IsTrue, refl, sym, ap, ◌∙◌, arith}
use Rattle.std.specs.Prelude.{slice_get, nat_lt, ◌&&◌}
use Rattle.std.specs.List.{filter, list_all, range_with_len}
use Rattle.std.proofs.lemmas.Bool.{lt-ltb, ltb-true}
use Rattle.std.proofs.lemmas.Option.{slice_get-get_or}
use Rattle.kahn_law.specs.Network as law
use Rattle.kahn_law.proofs.Lists.{item_at}
use Rattle.xt_core.specs.declared.ending.Trap.{Trap}
use Rattle.xt_exec.specs.Step.{bundle_at}
use Rattle.net_parts.specs.declared.parts.Net.{Net}
use Rattle.net_parts.specs.declared.parts.NetCore.{NetCore}
use Rattle.net_parts.specs.declared.parts.NetQueue.{NetQueue}
use Rattle.net_ref.specs.declared.channel.Channel.{Channel}
use Rattle.net_ref.specs.declared.ports.CorePorts.{CorePorts}
use Rattle.net_parts.specs.declared.ends.CoreEnd.{CoreEnd}
use Rattle.net_ref.specs.Place.{Place, CoreAt}
use Rattle.net_ref.specs.Processor.{next_trap, fetched_pushes}
use Rattle.net_ref.specs.Workers.{Nodes, network, core_rule, writer, reader, output_queue, capacity_of}
use Rattle.net_ref.specs.Reference.{gate_of}
use Rattle.net_ref.specs.Shown.{ShowsChannels, IsAtTurn, room_at, has_room_for, or_unbounded, queues_of}
use Rattle.net_ref.proofs.Wiring.{output_below, output_writer}
use Rattle.net_ref.proofs.Steps.{trap_pushes_none, chosen_none}
use Rattle.net_ref.proofs.CoreTurns.{core_rule_is}

pub bool_of : (r : Bool) (a b : ℕ) → (IsTrue r ↔ (a < b)) → r ≡ nat_lt a b
bool_of true a b h = sym (lt-ltb a b (h.0 refl))
bool_of false a b h = sym (never (nat_lt a b) refl)
  where
    clash : false ≡ true → ⊥
    clash e = cc

    never : (t : Bool) → nat_lt a b ≡ t → nat_lt a b ≡ false
    never true e = absurd (clash (h.1 (ltb-true a b e)))
    never false e = e

-- the room that the program sees at a place
pub room_seen : (channels : List Channel) (queues : List NetQueue) (q : ℕ) (d : Channel) (e : NetQueue) (r : Bool) → q < length channels → q < length queues
    → (IsTrue r ↔ (length (get_or channels q d).history.items < (get_or channels q d).consumed + (get_or queues q e).capacity)) → r ≡ room_at channels queues q
room_seen channels queues q d e r lt lt' h =
    bool_of r (length (get_or channels q d).history.items) ((get_or channels q d).consumed + (get_or queues q e).capacity) h
    ∙ (ap (λ (o : Option NetQueue). nat_lt (length (get_or channels q d).history.items) ((get_or channels q d).consumed + capacity_of o)) (sym (slice_get-get_or queues q e lt'))
    ∙ ap (λ (o : Option Channel). has_room_for o (capacity_of (slice_get queues q))) (sym (slice_get-get_or channels q d lt)))

-- of a queue that worker w writes
pub room_one : (net : Net) (nodes : Nodes) (w : ℕ) (channels : List Channel) (q : ℕ) → ShowsChannels net nodes channels → q < length net.queues.items → writer net q ≡ w
    → room_at channels net.queues.items q ≡ nat_lt (length ((nodes w).now.pushed q)) ((nodes (reader net q)).now.consumed q + capacity_of (slice_get net.queues.items q))
room_one net nodes w channels q shows lt at =
    let count = shows.count in
    let below : q < length channels = omega arith in
    let y = item_at channels q below in
    let cap = capacity_of (slice_get net.queues.items q) in
    ap (λ (o : Option Channel). has_room_for o cap) y.1
    ∙ (ap (λ (xs : List ℕ). nat_lt (length xs) (y.0.consumed + cap)) (shows.histories q y.0 y.1 ∙ ap (λ (v : ℕ). (nodes v).now.pushed q) at)
    ∙ ap (λ (n : ℕ). nat_lt (length ((nodes w).now.pushed q)) (n + cap)) (shows.consumed q y.0 y.1))

-- of the queues of chosen ports
room_all : (net : Net) (nodes : Nodes) (w : ℕ) (channels : List Channel) (f : ℕ → ℕ) (test : ℕ → Bool) (n i : ℕ) → ShowsChannels net nodes channels
    → ((j : ℕ) → i ≤ j → j < i + n → (f j < length net.queues.items) × (writer net (f j) ≡ w))
    → list_all (room_at channels net.queues.items) (map f (filter test (range_with_len i n))) ≡ law.has_room (network net) nodes w (map f (filter test (range_with_len i n)))
room_all net nodes w channels f test zero i shows has = refl
room_all net nodes w channels f test (suc n) i shows has = one (test i) refl (room_all net nodes w channels f test n (i + 1) shows (λ j le lt. has j (omega arith) (omega arith)))
  where
    one : (b : Bool) → test i ≡ b
        → list_all (room_at channels net.queues.items) (map f (filter test (range_with_len (i + 1) n))) ≡ law.has_room (network net) nodes w (map f (filter test (range_with_len (i + 1) n)))
        → list_all (room_at channels net.queues.items) (map f (cond (test i) (i ∷ filter test (range_with_len (i + 1) n)) (filter test (range_with_len (i + 1) n))))
        ≡ law.has_room (network net) nodes w (map f (cond (test i) (i ∷ filter test (range_with_len (i + 1) n)) (filter test (range_with_len (i + 1) n))))
    one true is h =
        let here = has i (omega arith) (omega arith) in
        let e = room_one net nodes w channels (f i) shows here.0 here.1 in
        rw is (ap (λ (b : Bool). b && list_all (room_at channels net.queues.items) (map f (filter test (range_with_len (i + 1) n)))) e
        ∙ ap (λ (b : Bool). nat_lt (length ((nodes w).now.pushed (f i))) ((nodes (reader net (f i))).now.consumed (f i) + capacity_of (slice_get net.queues.items (f i))) && b) h)
    one false is h = rw is h

-- the gate of a processor
pub core_gate : (net : Net) (c : ℕ) (nodes : Nodes) (here : NetCore) (ports : CorePorts) (x : CoreEnd) (channels : List Channel) → IsAtTurn net c nodes here ports x channels
    → (nodes c).now.state ≡ CoreAt x.arch
    → list_all (room_at channels net.queues.items) (queues_of (output_queue net c) (fetched_pushes here.kit.desc (bundle_at here.kit x.arch)) (length here.kit.desc.outs))
    ≡ law.room_gate (network net) nodes c
core_gate net c nodes here ports x channels t at =
    let r = core_rule net c here in
    room_all net nodes c channels (output_queue net c) (fetched_pushes here.kit.desc (bundle_at here.kit x.arch)) (length here.kit.desc.outs) 0 t.queues
    (λ j le lt. let below = output_below net c j here t.sound t.there (omega arith) in (below, output_writer net c j below))
    ∙ (ap (λ (p : Place). law.has_room (network net) nodes c (r.outs p)) (sym at)
    ∙ ap (λ r. law.has_room (network net) nodes c (r.outs (nodes c).now.state)) (sym (core_rule_is net c here t.there)))

pub core_open : (bounded : Bool) (net : Net) (c : ℕ) (nodes : Nodes) (here : NetCore) (ports : CorePorts) (x : CoreEnd) (channels : List Channel) → IsAtTurn net c nodes here ports x channels
    → (nodes c).now.state ≡ CoreAt x.arch
    → or_unbounded bounded (list_all (room_at channels net.queues.items) (queues_of (output_queue net c) (fetched_pushes here.kit.desc (bundle_at here.kit x.arch)) (length here.kit.desc.outs)))
    ≡ gate_of bounded net nodes c
core_open true net c nodes here ports x channels t at = core_gate net c nodes here ports x channels t at
core_open false net c nodes here ports x channels t at = refl

-- a processor that doesn't pass the gate meets no trap
pub full_no_trap : (net : Net) (c : ℕ) (here : NetCore) (x : CoreEnd) (channels : List Channel)
    → list_all (room_at channels net.queues.items) (queues_of (output_queue net c) (fetched_pushes here.kit.desc (bundle_at here.kit x.arch)) (length here.kit.desc.outs)) ≡ false
    → next_trap here.kit x.arch ≡ None
full_no_trap net c here x channels closed = one (next_trap here.kit x.arch) refl
  where
    clash : true ≡ false → ⊥
    clash e = cc

    one : (o : Option Trap) → next_trap here.kit x.arch ≡ o → next_trap here.kit x.arch ≡ None
    one None e = e
    one (Some trap) e =
        let none = chosen_none (fetched_pushes here.kit.desc (bundle_at here.kit x.arch)) (length here.kit.desc.outs) (trap_pushes_none here.kit x.arch trap e) in
        absurd (clash (ap (λ (os : List ℕ). list_all (room_at channels net.queues.items) (map (output_queue net c) os)) (sym none) ∙ closed))

pub closed_list : (bounded room : Bool) → or_unbounded bounded room ≡ false → room ≡ false
closed_list true room e = e
closed_list false room e = cc
