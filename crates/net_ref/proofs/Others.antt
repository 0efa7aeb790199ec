-- The turns of sources and collectors.
use Rattle.std.proofs.Common.{◌≡◌, ℕ, suc, ◌+◌, ◌-◌, ◌<◌, ◌≤◌, Bool, true, false, List, Vec, Global, [], ◌∷◌, ◌++◌, length, Option, Some, None, refl, sym, ap, ◌∙◌, subst, ⊎_elim, arith}
use Rattle.std.specs.Prelude.{slice_get, slice_set, nat_lt, ◌==◌, ◌&&◌, if◌then◌else◌}
use Rattle.std.specs.Option.{option_to_list}
use Rattle.std.proofs.lemmas.Bool.{cases_eq, eq-eqb, ne_eqb, lt-ltb, le-ltb}
use Rattle.std.proofs.lemmas.Option.{slice_get_within}
use Rattle.kahn_law.specs.Worker.{heads, moved, times}
use Rattle.kahn_law.specs.Network as law
use Rattle.net_parts.specs.declared.parts.Net.{Net}
use Rattle.net_parts.specs.declared.parts.NetSource.{NetSource}
use Rattle.net_parts.specs.declared.parts.NetCollector.{NetCollector}
use Rattle.net_parts.specs.Network.{IsNet}
use Rattle.net_ref.specs.declared.channel.Channel.{Channel}
use Rattle.net_ref.specs.declared.running.Run.{Run}
use Rattle.net_ref.specs.Place.{Place, SourceAt, CollectorAt}
use Rattle.net_ref.specs.Workers.{Nodes, network, core_count, source_count, source_rule, collector_rule, rule_or_still, rule_at, source_queue, collector_queue, source_worker, collector_worker, reader, writer, capacity_of}
use Rattle.net_ref.specs.Reference.{gate_of}
use Rattle.net_ref.specs.Shown.{Shows, ShowsCore, ShowsSource, ShowsCollector, IsTurn, room_at, turn_of, turned}
use Rattle.net_ref.proofs.Lists.{some_same, get_set_same, get_set_other}
use Rattle.net_ref.proofs.Wiring.{source_below, source_writer, collector_below, collector_reader}
use Rattle.net_ref.proofs.LawTurns.{turn_spent, turn_gated, turn_stuck, turn_made, move_lacks, move_made, kept_nodes}
use Rattle.net_ref.proofs.Moved.{AreMovedBy, channels_after}
use Rattle.net_ref.proofs.Rooms.{room_one}

pub turned_other : (bounded : Bool) (net : Net) (nodes : Nodes) (w v : ℕ) → (v ≡ w → ⊥) → turned bounded net nodes w v ≡ nodes v
turned_other bounded net nodes w v ne = let b = ne_eqb v w ne in rw b refl

pub turned_same : (bounded : Bool) (net : Net) (nodes : Nodes) (w v : ℕ) → v ≡ w → turned bounded net nodes w v ≡ turn_of bounded net nodes w
turned_same bounded net nodes w v e = let b = eq-eqb v w e in rw b refl

-- a turn of a source or a collector that moves nobody
pub idle_turn : (bounded : Bool) (net : Net) (nodes : Nodes) (w : ℕ) (run : Run) → core_count net ≤ w → Shows net nodes run → turn_of bounded net nodes w ≡ nodes w
    → IsTurn bounded net nodes w run false run
idle_turn bounded net nodes w run le shows kept = record {
  shows = subst (λ (f : Nodes). Shows net f run) (sym (kept_nodes nodes w (turn_of bounded net nodes w) kept)) shows;
  goes = λ e. absurd (never e);
  still = λ e. kept;
  met = λ e here x at got. let lt = slice_get_within net.cores.items w here at in absurd (omega arith);
  kept = λ c ne. refl;
}
  where
    never : false ≡ true → ⊥
    never e = cc

-- ---- sources

pub source_rule_is : (net : Net) (s : ℕ) (here : NetSource) → slice_get net.sources.items s ≡ Some here → rule_at net (source_worker net s) ≡ source_rule net s here
source_rule_is net s here there =
    let lt = slice_get_within net.sources.items s here there in
    let a = le-ltb (core_count net + s) (core_count net) (omega arith) in
    let b = lt-ltb (core_count net + s) (core_count net + source_count net) (omega arith) in
    let d : (core_count net + s) - core_count net ≡ s = omega arith in
    rw (a, b) (ap (λ (k : ℕ). rule_or_still (source_rule net k) (slice_get net.sources.items k)) d ∙ ap (rule_or_still (source_rule net s)) there)

-- what stands before the turn of source s, which has pushed n items
pub record IsAtSource (net : Net) (nodes : Nodes) (s n : ℕ) (here : NetSource) (run : Run) : Type 0 where
  pub sound : IsNet net
  pub shown : Shows net nodes run
  pub there : slice_get net.sources.items s ≡ Some here
  pub pushed : slice_get run.sources.items s ≡ Some n

pub source_done : (bounded : Bool) (net : Net) (nodes : Nodes) (s n : ℕ) (here : NetSource) (run : Run) → IsAtSource net nodes s n here run
    → length here.items.items ≤ n → IsTurn bounded net nodes (source_worker net s) run false run
source_done bounded net nodes s n here run t le =
    let w = source_worker net s in
    let count = (t.shown.sources s n t.pushed).count in
    idle_turn bounded net nodes w run (omega arith) t.shown
    (turn_spent (network net) (gate_of bounded net) nodes w (source_rule net s here) (source_rule_is net s here t.there) (le-ltb (nodes w).count (length here.items.items) (omega arith)))

-- the gate of a source in the strict reference
pub source_gate : (net : Net) (nodes : Nodes) (s n : ℕ) (here : NetSource) (run : Run) → IsAtSource net nodes s n here run
    → law.room_gate (network net) nodes (source_worker net s) ≡ room_at run.channels.items net.queues.items (source_queue net s)
source_gate net nodes s n here run t =
    let w = source_worker net s in
    let lt = source_below net s t.sound (slice_get_within net.sources.items s here t.there) in
    ap (λ r. law.has_room (network net) nodes w (r.outs (nodes w).now.state)) (source_rule_is net s here t.there)
    ∙ (one (nat_lt (length ((nodes w).now.pushed (source_queue net s))) ((nodes (reader net (source_queue net s))).now.consumed (source_queue net s) + capacity_of (slice_get net.queues.items (source_queue net s))))
    ∙ sym (room_one net nodes w run.channels.items (source_queue net s) t.shown.channels lt (source_writer net s lt)))
  where
    one : (b : Bool) → (b && true) ≡ b
    one true = refl
    one false = refl

pub source_full : (net : Net) (nodes : Nodes) (s n : ℕ) (here : NetSource) (run : Run) → IsAtSource net nodes s n here run
    → room_at run.channels.items net.queues.items (source_queue net s) ≡ false → IsTurn true net nodes (source_worker net s) run false run
source_full net nodes s n here run t closed =
    idle_turn true net nodes (source_worker net s) run (omega arith) t.shown
    (turn_gated (network net) (gate_of true net) nodes (source_worker net s) (source_gate net nodes s n here run t ∙ closed))

-- the run after a source's push
pub record HasPushed (s n v q : ℕ) (old new : Run) : Type 0 where
  pub cores : new.cores.items ≡ old.cores.items
  pub collectors : new.collectors.items ≡ old.collectors.items
  pub sources : new.sources.items ≡ slice_set old.sources.items s (n + 1)
  pub count : length new.channels.items ≡ length old.channels.items
  pub channels : AreMovedBy [] (λ p. if q == p then v ∷ [] else []) old.channels.items new.channels.items

pub source_moved : (bounded : Bool) (net : Net) (nodes : Nodes) (s n v : ℕ) (here : NetSource) (old new : Run) → IsAtSource net nodes s n here old
    → slice_get here.items.items n ≡ Some v → gate_of bounded net nodes (source_worker net s) ≡ true → HasPushed s n v (source_queue net s) old new
    → IsTurn bounded net nodes (source_worker net s) old true new
source_moved bounded net nodes s n v here old new t item opened h = record {
  shows = record {
    cores = λ c core x at got.
        let lt = slice_get_within net.cores.items c core at in
        subst (λ (node : law.Node Place ℕ). ShowsCore core node x) (sym (turned_other bounded net nodes (source_worker net s) c (λ e. absurd (omega arith))))
        (t.shown.cores c core x at (ap (λ xs. slice_get xs c) (sym h.cores) ∙ got));
    sources = λ k m got. ⊎_elim
        (λ same.
        let e : m ≡ n + 1 = some_same m (n + 1) (sym got ∙ (ap (λ (xs : List ℕ). slice_get xs k) h.sources ∙ (ap (slice_get (slice_set old.sources.items s (n + 1))) same
        ∙ get_set_same old.sources.items s (n + 1) (slice_get_within old.sources.items s n t.pushed)))) in
        let there : turned bounded net nodes (source_worker net s) (source_worker net k) ≡ turn_of bounded net nodes (source_worker net s) =
        turned_same bounded net nodes (source_worker net s) (source_worker net k) (ap (source_worker net) same) in
        record {
          at = ap (λ (node : law.Node Place ℕ). node.now.state) there ∙ (state ∙ (let a : suc n ≡ m = omega arith in ap SourceAt a));
          count = ap (λ (node : law.Node Place ℕ). node.count) there ∙ (let a : (turn_of bounded net nodes (source_worker net s)).count ≡ suc (nodes (source_worker net s)).count = ap (λ (node : law.Node Place ℕ). node.count) made in let b = before.count in omega arith);
        })
        (λ ne. subst (λ (node : law.Node Place ℕ). ShowsSource node m) (sym (turned_other bounded net nodes (source_worker net s) (source_worker net k) (λ e. ne (omega arith))))
        (t.shown.sources k m (sym (get_set_other old.sources.items s k (n + 1) ne) ∙ (ap (λ (xs : List ℕ). slice_get xs k) (sym h.sources) ∙ got))))
        (cases_eq k s);
    collectors = λ k vs got.
        let lt = slice_get_within net.sources.items s here t.there in
        subst (λ (node : law.Node Place ℕ). ShowsCollector node vs.items) (sym (turned_other bounded net nodes (source_worker net s) (collector_worker net k) (λ e. absurd (omega arith))))
        (t.shown.collectors k vs (ap (λ (xs : List (Vec ℕ Global)). slice_get xs k) (sym h.collectors) ∙ got));
    channels = channels_after bounded net nodes (source_worker net s) [] (λ p. if source_queue net s == p then v ∷ [] else []) old.channels.items new.channels.items t.shown.channels h.count h.channels
        pushed
        (λ q. ap (λ (node : law.Node Place ℕ). node.now.consumed q) made)
        (λ q lt ne. nothing q (λ e. ne (ap (writer net) (sym e) ∙ source_writer net s below)))
        (λ q lt ne. refl);
  };
  goes = λ e. ap (λ (node : law.Node Place ℕ). node.count) made;
  still = λ e. absurd (never e);
  met = λ e. absurd (never e);
  kept = λ c ne. ap (λ xs. slice_get xs c) h.cores;
}
  where
    never : true ≡ false → ⊥
    never e = cc

    before : ShowsSource (nodes (source_worker net s)) n
    before = t.shown.sources s n t.pushed

    below : source_queue net s < length net.queues.items
    below = source_below net s t.sound (slice_get_within net.sources.items s here t.there)

    made : turn_of bounded net nodes (source_worker net s)
        ≡ record { count = suc (nodes (source_worker net s)).count; now = moved (source_rule net s here) (nodes (source_worker net s)).now [] }
    made = turn_made (network net) (gate_of bounded net) nodes (source_worker net s) (source_rule net s here) (moved (source_rule net s here) (nodes (source_worker net s)).now [])
        (source_rule_is net s here t.there)
        (let c = before.count in let lt = slice_get_within here.items.items n v item in lt-ltb (nodes (source_worker net s)).count (length here.items.items) (omega arith))
        opened (move_made (source_rule net s here) (law.inputs (network net) nodes (source_worker net s)) (nodes (source_worker net s)).now [] refl refl)

    state : (turn_of bounded net nodes (source_worker net s)).now.state ≡ SourceAt (suc n)
    state = ap (λ (node : law.Node Place ℕ). node.now.state) made ∙ ap (λ (p : Place). (source_rule net s here).act p []) before.at

    pushed : (q : ℕ) → (turn_of bounded net nodes (source_worker net s)).now.pushed q ≡ (nodes (source_worker net s)).now.pushed q ++ (if source_queue net s == q then v ∷ [] else [])
    pushed q =
        ap (λ (node : law.Node Place ℕ). node.now.pushed q) made
        ∙ (ap (λ (p : Place). (nodes (source_worker net s)).now.pushed q ++ (source_rule net s here).puts p [] q) before.at
        ∙ ap (λ (o : Option ℕ). (nodes (source_worker net s)).now.pushed q ++ (if source_queue net s == q then option_to_list o else [])) item)

    nothing : (q : ℕ) → (source_queue net s ≡ q → ⊥) → (if source_queue net s == q then v ∷ [] else []) ≡ []
    nothing q ne = let b = ne_eqb (source_queue net s) q ne in rw b refl

-- ---- collectors

pub collector_rule_is : (net : Net) (k : ℕ) (here : NetCollector) → slice_get net.collectors.items k ≡ Some here → rule_at net (collector_worker net k) ≡ collector_rule net k here
collector_rule_is net k here there =
    let a = le-ltb (core_count net + source_count net + k) (core_count net) (omega arith) in
    let b = le-ltb (core_count net + source_count net + k) (core_count net + source_count net) (omega arith) in
    let d : (core_count net + source_count net + k) - (core_count net + source_count net) ≡ k = omega arith in
    rw (a, b) (ap (λ (j : ℕ). rule_or_still (collector_rule net j) (slice_get net.collectors.items j)) d ∙ ap (rule_or_still (collector_rule net k)) there)

-- what stands before the turn of collector k, which has collected these
pub record IsAtCollector (net : Net) (nodes : Nodes) (k : ℕ) (had : Vec ℕ Global) (here : NetCollector) (run : Run) : Type 0 where
  pub sources : length run.sources.items ≡ length net.sources.items
  pub sound : IsNet net
  pub shown : Shows net nodes run
  pub there : slice_get net.collectors.items k ≡ Some here
  pub collected : slice_get run.collectors.items k ≡ Some had

pub collector_done : (bounded : Bool) (net : Net) (nodes : Nodes) (k : ℕ) (had : Vec ℕ Global) (here : NetCollector) (run : Run) → IsAtCollector net nodes k had here run
    → here.limit ≤ length had.items → IsTurn bounded net nodes (collector_worker net k) run false run
collector_done bounded net nodes k had here run t le =
    let w = collector_worker net k in
    let count = (t.shown.collectors k had t.collected).count in
    idle_turn bounded net nodes w run (omega arith) t.shown
    (turn_spent (network net) (gate_of bounded net) nodes w (collector_rule net k here) (collector_rule_is net k here t.there) (le-ltb (nodes w).count here.limit (omega arith)))

-- what the program sees as the head of the collector's queue
pub collector_head : (net : Net) (nodes : Nodes) (k : ℕ) (had : Vec ℕ Global) (here : NetCollector) (run : Run) (y : Channel) → IsAtCollector net nodes k had here run
    → slice_get run.channels.items (collector_queue net k) ≡ Some y
    → slice_get y.history.items y.consumed
    ≡ slice_get (law.inputs (network net) nodes (collector_worker net k) (collector_queue net k)) ((nodes (collector_worker net k)).now.consumed (collector_queue net k))
collector_head net nodes k had here run y t at =
    let q = collector_queue net k in
    let lt = collector_below net k t.sound (slice_get_within net.collectors.items k here t.there) in
    ap (λ (xs : List ℕ). slice_get xs y.consumed) (t.shown.channels.histories q y at)
    ∙ ap (slice_get ((nodes (writer net q)).now.pushed q)) (t.shown.channels.consumed q y at ∙ ap (λ (w : ℕ). (nodes w).now.consumed q) (collector_reader net k lt))

pub collector_lacks : (bounded : Bool) (net : Net) (nodes : Nodes) (k : ℕ) (had : Vec ℕ Global) (here : NetCollector) (run : Run) (y : Channel) → IsAtCollector net nodes k had here run
    → slice_get run.channels.items (collector_queue net k) ≡ Some y → slice_get y.history.items y.consumed ≡ None → IsTurn bounded net nodes (collector_worker net k) run false run
collector_lacks bounded net nodes k had here run y t at none =
    let w = collector_worker net k in
    let r = collector_rule net k here in
    let never = sym (collector_head net nodes k had here run y t at) ∙ none in
    let lacks : heads (law.inputs (network net) nodes w) (nodes w).now.consumed (r.pops (nodes w).now.state) ≡ None = rw never refl in
    idle_turn bounded net nodes w run (omega arith) t.shown
    (turn_stuck (network net) (gate_of bounded net) nodes w r (collector_rule_is net k here t.there) (move_lacks r (law.inputs (network net) nodes w) (nodes w).now lacks))

-- the run after a collector's consumption
pub record HasCollected (k q : ℕ) (had now : Vec ℕ Global) (v : ℕ) (old new : Run) : Type 0 where
  pub cores : new.cores.items ≡ old.cores.items
  pub sources : new.sources.items ≡ old.sources.items
  pub values : now.items ≡ had.items ++ v ∷ []
  pub collectors : new.collectors.items ≡ slice_set old.collectors.items k now
  pub count : length new.channels.items ≡ length old.channels.items
  pub channels : AreMovedBy (q ∷ []) (λ p. []) old.channels.items new.channels.items

pub collector_moved : (bounded : Bool) (net : Net) (nodes : Nodes) (k v : ℕ) (had now : Vec ℕ Global) (here : NetCollector) (old new : Run) (y : Channel) → IsAtCollector net nodes k had here old
    → slice_get old.channels.items (collector_queue net k) ≡ Some y → slice_get y.history.items y.consumed ≡ Some v → length had.items < here.limit
    → HasCollected k (collector_queue net k) had now v old new → IsTurn bounded net nodes (collector_worker net k) old true new
collector_moved bounded net nodes k v had now here old new y t at item lt h = record {
  shows = record {
    cores = λ c core x there got.
        let below = slice_get_within net.cores.items c core there in
        subst (λ (node : law.Node Place ℕ). ShowsCore core node x) (sym (turned_other bounded net nodes (collector_worker net k) c (λ e. absurd (omega arith))))
        (t.shown.cores c core x there (ap (λ xs. slice_get xs c) (sym h.cores) ∙ got));
    sources = λ s n got.
        let some = slice_get_within old.sources.items s n (ap (λ (xs : List ℕ). slice_get xs s) (sym h.sources) ∙ got) in
        let all = t.sources in
        subst (λ (node : law.Node Place ℕ). ShowsSource node n) (sym (turned_other bounded net nodes (collector_worker net k) (source_worker net s) (λ e. absurd (omega arith))))
        (t.shown.sources s n (ap (λ (xs : List ℕ). slice_get xs s) (sym h.sources) ∙ got));
    collectors = λ j vs got. ⊎_elim
        (λ same.
        let e : vs ≡ now = some_same vs now (sym got ∙ (ap (λ (xs : List (Vec ℕ Global)). slice_get xs j) h.collectors ∙ (ap (slice_get (slice_set old.collectors.items k now)) same
        ∙ get_set_same old.collectors.items k now (slice_get_within old.collectors.items k had t.collected)))) in
        let there : turned bounded net nodes (collector_worker net k) (collector_worker net j) ≡ turn_of bounded net nodes (collector_worker net k) =
        turned_same bounded net nodes (collector_worker net k) (collector_worker net j) (ap (collector_worker net) same) in
        let items : vs.items ≡ had.items ++ v ∷ [] = ap (λ (u : Vec ℕ Global). u.items) e ∙ h.values in
        record {
          at = ap (λ (node : law.Node Place ℕ). node.now.state) there ∙ (state ∙ ap CollectorAt (sym items));
          count = ap (λ (node : law.Node Place ℕ). node.count) there
              ∙ (let a : (turn_of bounded net nodes (collector_worker net k)).count ≡ suc (nodes (collector_worker net k)).count = ap (λ (node : law.Node Place ℕ). node.count) made in
              let b = before.count in let l = ap length items ∙ longer had.items in omega arith);
        })
        (λ ne. subst (λ (node : law.Node Place ℕ). ShowsCollector node vs.items) (sym (turned_other bounded net nodes (collector_worker net k) (collector_worker net j) (λ e. ne (omega arith))))
        (t.shown.collectors j vs (sym (get_set_other old.collectors.items k j now ne) ∙ (ap (λ (xs : List (Vec ℕ Global)). slice_get xs j) (sym h.collectors) ∙ got))))
        (cases_eq j k);
    channels = channels_after bounded net nodes (collector_worker net k) (collector_queue net k ∷ []) (λ p. []) old.channels.items new.channels.items t.shown.channels h.count h.channels
        (λ q. ap (λ (node : law.Node Place ℕ). node.now.pushed q) made)
        (λ q. ap (λ (node : law.Node Place ℕ). node.now.consumed q) made)
        (λ q below ne. refl)
        (λ q below ne. none q (λ e. ne (ap (reader net) e ∙ collector_reader net k queue)));
  };
  goes = λ e. ap (λ (node : law.Node Place ℕ). node.count) made;
  still = λ e. absurd (never e);
  met = λ e. absurd (never e);
  kept = λ c ne. ap (λ xs. slice_get xs c) h.cores;
}
  where
    never : true ≡ false → ⊥
    never e = cc

    longer : (xs : List ℕ) → length (xs ++ v ∷ []) ≡ length xs + 1
    longer [] = refl
    longer (x ∷ xs) = let h = longer xs in omega arith

    before : ShowsCollector (nodes (collector_worker net k)) had.items
    before = t.shown.collectors k had t.collected

    queue : collector_queue net k < length net.queues.items
    queue = collector_below net k t.sound (slice_get_within net.collectors.items k here t.there)

    opened : (b : Bool) → gate_of b net nodes (collector_worker net k) ≡ true
    opened true = ap (λ r. law.has_room (network net) nodes (collector_worker net k) (r.outs (nodes (collector_worker net k)).now.state)) (collector_rule_is net k here t.there)
    opened false = refl

    made : turn_of bounded net nodes (collector_worker net k)
        ≡ record { count = suc (nodes (collector_worker net k)).count; now = moved (collector_rule net k here) (nodes (collector_worker net k)).now (v ∷ []) }
    made =
        let there = sym (collector_head net nodes k had here old y t at) ∙ item in
        turn_made (network net) (gate_of bounded net) nodes (collector_worker net k) (collector_rule net k here) (moved (collector_rule net k here) (nodes (collector_worker net k)).now (v ∷ []))
        (collector_rule_is net k here t.there)
        (let c = before.count in lt-ltb (nodes (collector_worker net k)).count here.limit (omega arith))
        (opened bounded)
        (move_made (collector_rule net k here) (law.inputs (network net) nodes (collector_worker net k)) (nodes (collector_worker net k)).now (v ∷ []) refl (rw there refl))

    state : (turn_of bounded net nodes (collector_worker net k)).now.state ≡ CollectorAt (had.items ++ v ∷ [])
    state = ap (λ (node : law.Node Place ℕ). node.now.state) made ∙ ap (λ (p : Place). (collector_rule net k here).act p (v ∷ [])) before.at

    none : (q : ℕ) → (q ≡ collector_queue net k → ⊥) → times q (collector_queue net k ∷ []) ≡ 0
    none q ne = let b = ne_eqb q (collector_queue net k) ne in rw b refl
