-- The turn of a processor from what the program's calls ensure.
use Rattle.std.proofs.Common.{◌≡◌, ℕ, ◌+◌, ◌<◌, ◌≤◌, Bool, true, false, List, length, Option, Some, sym, ap, ◌∙◌, subst}
use Rattle.std.specs.Prelude.{slice_get}
use Rattle.std.specs.List.{list_all}
use Rattle.xt_core.specs.declared.ending.Trap.{Trap}
use Rattle.xt_exec.specs.declared.answer.Step.TheVariants as steps
use Rattle.xt_exec.specs.declared.queues.Needs.{Needs}
use Rattle.xt_exec.specs.Queues as queues
use Rattle.xt_exec.specs.Step.{BundleStep, bundle_at, needed}
use Rattle.net_parts.specs.declared.parts.Net.{Net}
use Rattle.net_parts.specs.declared.parts.NetCore.{NetCore}
use Rattle.net_parts.specs.declared.ends.CoreEnd.{CoreEnd}
use Rattle.net_ref.specs.declared.channel.Channel.{Channel}
use Rattle.net_ref.specs.declared.ports.CorePorts.{CorePorts}
use Rattle.net_ref.specs.Processor.{is_running, chosen, fetched_pops, fetched_pushes}
use Rattle.net_ref.specs.Workers.{Nodes, input_queue, output_queue, values_to}
use Rattle.net_ref.specs.Reference.{gate_of}
use Rattle.net_ref.specs.Shown.{IsAtTurn, IsCoreTurn, IsTable, AreConsumed, AreExtended, or_unbounded, queues_of, room_at, shown_heads}
use Rattle.net_ref.proofs.Steps.{needed_pops, needed_pushes}
use Rattle.net_ref.proofs.Tables.{table_is, table_length}
use Rattle.net_ref.proofs.CoreTurns.{at_state, full, traps, lacks, stepped, halted}
use Rattle.net_ref.proofs.Rooms.{core_open, full_no_trap, closed_list}

-- what the calls before a bundle's step ensure
pub record IsAtBundle (bounded : Bool) (net : Net) (c : ℕ) (nodes : Nodes) (here : NetCore) (ports : CorePorts) (x : CoreEnd) (channels : List Channel) (needs : Needs) (hs : List (Option ℕ)) : Type 0 where
  pub turn : IsAtTurn net c nodes here ports x channels
  pub gate : gate_of bounded net nodes c ≡ true
  pub running : is_running x.arch.ending ≡ true
  pub below : x.retired < here.budget
  pub few : length ports.ins.items < 9
  pub needed_is : needs ≡ needed here.kit x.arch
  pub heads_are : (test : ℕ → Bool) → needs.pops ≡ queues.mask test → hs ≡ shown_heads channels ports.ins.items test

pops_mask : (here : NetCore) (x : CoreEnd) (needs : Needs) → needs ≡ needed here.kit x.arch → needs.pops ≡ queues.mask (fetched_pops here.kit.desc (bundle_at here.kit x.arch))
pops_mask here x needs e = ap (λ (n : Needs). n.pops) e ∙ needed_pops here.kit x.arch

pushes_mask : (here : NetCore) (x : CoreEnd) (needs : Needs) → needs ≡ needed here.kit x.arch → needs.pushes ≡ queues.mask (fetched_pushes here.kit.desc (bundle_at here.kit x.arch))
pushes_mask here x needs e = ap (λ (n : Needs). n.pushes) e ∙ needed_pushes here.kit x.arch

pub bundle_traps : (bounded : Bool) (net : Net) (c : ℕ) (nodes : Nodes) (here : NetCore) (ports : CorePorts) (x y : CoreEnd) (channels : List Channel) (needs : Needs) (hs : List (Option ℕ)) (trap : Trap)
    → IsAtBundle bounded net c nodes here ports x channels needs hs → BundleStep here.kit x.arch hs (steps.Trapped trap) y.arch → y.retired ≡ x.retired
    → IsCoreTurn bounded net nodes c here false y channels
bundle_traps bounded net c nodes here ports x y channels needs hs trap b step retired =
    traps bounded net c nodes here ports x y channels hs trap b.turn b.running b.below step retired

pub bundle_lacks : (bounded : Bool) (net : Net) (c : ℕ) (nodes : Nodes) (here : NetCore) (ports : CorePorts) (x y : CoreEnd) (channels : List Channel) (needs : Needs) (hs : List (Option ℕ)) (q : ℕ)
    → IsAtBundle bounded net c nodes here ports x channels needs hs → BundleStep here.kit x.arch hs (steps.NeedsItem q) y.arch → y.retired ≡ x.retired
    → IsCoreTurn bounded net nodes c here false y channels
bundle_lacks bounded net c nodes here ports x y channels needs hs q b step retired =
    lacks bounded net c nodes here ports x y channels hs q b.turn b.running b.few (b.heads_are (fetched_pops here.kit.desc (bundle_at here.kit x.arch)) (pops_mask here x needs b.needed_is)) step retired

pub bundle_halts : (bounded : Bool) (net : Net) (c : ℕ) (nodes : Nodes) (here : NetCore) (ports : CorePorts) (x y : CoreEnd) (channels : List Channel) (needs : Needs) (hs : List (Option ℕ))
    → IsAtBundle bounded net c nodes here ports x channels needs hs → BundleStep here.kit x.arch hs steps.Halted y.arch → y.retired ≡ x.retired + 1
    → IsCoreTurn bounded net nodes c here true y channels
bundle_halts bounded net c nodes here ports x y channels needs hs b step retired =
    halted bounded net c nodes here ports x y channels hs b.turn b.gate b.running b.below b.few
    (b.heads_are (fetched_pops here.kit.desc (bundle_at here.kit x.arch)) (pops_mask here x needs b.needed_is)) step retired

pub bundle_retires : (bounded : Bool) (net : Net) (c : ℕ) (nodes : Nodes) (here : NetCore) (ports : CorePorts) (x y : CoreEnd) (channels mid new : List Channel) (needs : Needs) (hs values : List (Option ℕ))
    → IsAtBundle bounded net c nodes here ports x channels needs hs
    → ((q : ℕ) (z : Channel) → slice_get channels q ≡ Some z → z.consumed ≤ length z.history.items)
    → BundleStep here.kit x.arch hs (steps.Stepped values) y.arch
    → ((test : ℕ → Bool) (f : ℕ → ℕ) → needs.pops ≡ queues.mask test → IsTable f ports.ins.items → AreConsumed (queues_of f test (length ports.ins.items)) channels mid)
    → ((test : ℕ → Bool) (f : ℕ → ℕ) → needs.pushes ≡ queues.mask test → IsTable f ports.outs.items → AreExtended (values_to f values (chosen test (length ports.outs.items))) mid new)
    → length new ≡ length channels → y.retired ≡ x.retired + 1
    → IsCoreTurn bounded net nodes c here true y new
bundle_retires bounded net c nodes here ports x y channels mid new needs hs values b within step cons ext len retired =
    let pop = fetched_pops here.kit.desc (bundle_at here.kit x.arch) in
    let push = fetched_pushes here.kit.desc (bundle_at here.kit x.arch) in
    let f = input_queue net c in
    let g = output_queue net c in
    let n = length here.kit.desc.ins in
    let m = length here.kit.desc.outs in
    let ins = b.turn.table.ins in
    let outs = b.turn.table.outs in
    stepped bounded net c nodes here ports x y channels mid new hs values b.turn b.gate b.running b.below b.few within
    (b.heads_are pop (pops_mask here x needs b.needed_is)) step
    (subst (λ (k : ℕ). AreConsumed (queues_of f pop k) channels mid) (table_length f n ports.ins.items ins) (cons pop f (pops_mask here x needs b.needed_is) (table_is f n ports.ins.items ins)))
    (subst (λ (k : ℕ). AreExtended (values_to g values (chosen push k)) mid new) (table_length g m ports.outs.items outs) (ext push g (pushes_mask here x needs b.needed_is) (table_is g m ports.outs.items outs)))
    len retired

-- ---- the gate

pub gate_is : (bounded : Bool) (net : Net) (c : ℕ) (nodes : Nodes) (here : NetCore) (ports : CorePorts) (x : CoreEnd) (channels : List Channel) (needs : Needs) (r : Bool)
    → IsAtTurn net c nodes here ports x channels → is_running x.arch.ending ≡ true → needs ≡ needed here.kit x.arch
    → ((test : ℕ → Bool) (f : ℕ → ℕ) → needs.pushes ≡ queues.mask test → IsTable f ports.outs.items
    → r ≡ or_unbounded bounded (list_all (room_at channels net.queues.items) (queues_of f test (length ports.outs.items))))
    → r ≡ gate_of bounded net nodes c
gate_is bounded net c nodes here ports x channels needs r t running e h =
    let push = fetched_pushes here.kit.desc (bundle_at here.kit x.arch) in
    let g = output_queue net c in
    let m = length here.kit.desc.outs in
    h push g (pushes_mask here x needs e) (table_is g m ports.outs.items t.table.outs)
    ∙ (ap (λ (k : ℕ). or_unbounded bounded (list_all (room_at channels net.queues.items) (queues_of g push k))) (table_length g m ports.outs.items t.table.outs)
    ∙ core_open bounded net c nodes here ports x channels t (at_state net c nodes here ports x channels t running))

pub gate_closed : (bounded : Bool) (net : Net) (c : ℕ) (nodes : Nodes) (here : NetCore) (ports : CorePorts) (x : CoreEnd) (channels : List Channel) (needs : Needs)
    → IsAtTurn net c nodes here ports x channels → is_running x.arch.ending ≡ true → needs ≡ needed here.kit x.arch
    → ((test : ℕ → Bool) (f : ℕ → ℕ) → needs.pushes ≡ queues.mask test → IsTable f ports.outs.items
    → false ≡ or_unbounded bounded (list_all (room_at channels net.queues.items) (queues_of f test (length ports.outs.items))))
    → IsCoreTurn bounded net nodes c here false x channels
gate_closed bounded net c nodes here ports x channels needs t running e h =
    let push = fetched_pushes here.kit.desc (bundle_at here.kit x.arch) in
    let g = output_queue net c in
    let m = length here.kit.desc.outs in
    let closed = h push g (pushes_mask here x needs e) (table_is g m ports.outs.items t.table.outs)
    ∙ ap (λ (k : ℕ). or_unbounded bounded (list_all (room_at channels net.queues.items) (queues_of g push k))) (table_length g m ports.outs.items t.table.outs) in
    let all = list_all (room_at channels net.queues.items) (queues_of g push m) in
    full bounded net c nodes here ports x channels t running (sym (gate_is bounded net c nodes here ports x channels needs false t running e h))
    (full_no_trap net c here x channels (closed_list bounded all (sym closed)))
