-- A run after a turn: what changed, and that the rest stayed.
use Rattle.std.proofs.Common.{◌≡◌, ℕ, zero, suc, ◌+◌, Bool, true, false, List, Vec, Global, [], ◌∷◌, ◌++◌, length, Some, refl, sym, ap, ◌∙◌, subst, ⊎_elim, arith}
use Rattle.std.specs.Prelude.{slice_get, slice_set, min, ◌==◌, if◌then◌else◌}
use Rattle.std.proofs.lemmas.Bool.{cases_eq, eq-eqb, ne_eqb}
use Rattle.std.proofs.lemmas.List.{append-nil}
use Rattle.std.proofs.lemmas.Option.{slice_get_within}
use Rattle.kahn_law.specs.Worker.{times}
use Rattle.kahn_law.specs.Network as law
use Rattle.net_parts.specs.declared.parts.Net.{Net}
use Rattle.net_parts.specs.declared.parts.NetCore.{NetCore}
use Rattle.net_parts.specs.declared.ends.CoreEnd.{CoreEnd}
use Rattle.net_ref.specs.declared.channel.Channel.{Channel}
use Rattle.net_ref.specs.declared.running.Run.{Run}
use Rattle.net_ref.specs.Place.{Place}
use Rattle.net_ref.specs.Workers.{Nodes, source_worker, collector_worker}
use Rattle.net_ref.specs.Shown.{Shows, ShowsCore, ShowsSource, ShowsCollector, ShowsChannels, IsMade, IsMet, IsRun, IsCoreTurn, IsTurn, turn_of, turned}
use Rattle.net_ref.proofs.Lists.{some_same, get_set_same, get_set_other}
use Rattle.net_ref.proofs.Moved.{AreMovedBy}
use Rattle.net_ref.proofs.Others.{turned_other, turned_same, HasPushed, HasCollected}

pub length_set : {X : Type 0} (xs : List X) (i : ℕ) (x : X) → length (slice_set xs i x) ≡ length xs
length_set [] i x = refl
length_set (y ∷ ys) zero x = refl
length_set (y ∷ ys) (suc i) x = let h = length_set ys i x in omega arith

-- ---- processors

pub record HasTurned (c : ℕ) (x : CoreEnd) (channels : List Channel) (old new : Run) : Type 0 where
  pub cores : new.cores.items ≡ slice_set old.cores.items c x
  pub sources : new.sources.items ≡ old.sources.items
  pub collectors : new.collectors.items ≡ old.collectors.items
  pub queues : new.channels.items ≡ channels

-- what stands at a place after the turn
core_at : (c : ℕ) (x y z : CoreEnd) (channels : List Channel) (old new : Run) → slice_get old.cores.items c ≡ Some y → HasTurned c x channels old new
    → slice_get new.cores.items c ≡ Some z → z ≡ x
core_at c x y z channels old new at h got =
    some_same z x (sym got ∙ (ap (λ xs. slice_get xs c) h.cores ∙ get_set_same old.cores.items c x (slice_get_within old.cores.items c y at)))

pub core_turned : (bounded : Bool) (net : Net) (nodes : Nodes) (c : ℕ) (here : NetCore) (moved : Bool) (x y : CoreEnd) (channels : List Channel) (old new : Run)
    → slice_get net.cores.items c ≡ Some here → slice_get old.cores.items c ≡ Some y → Shows net nodes old
    → IsCoreTurn bounded net nodes c here moved x channels → HasTurned c x channels old new → IsTurn bounded net nodes c old moved new
core_turned bounded net nodes c here moved x y channels old new there at shows t h = record {
  shows = record {
    cores = λ k core z at' got. ⊎_elim
        (λ same.
        let z_is : z ≡ x = core_at c x y z channels old new at h (ap (slice_get new.cores.items) (sym same) ∙ got) in
        let core_is : core ≡ here = some_same core here (sym at' ∙ (ap (slice_get net.cores.items) same ∙ there)) in
        let node : turned bounded net nodes c k ≡ turn_of bounded net nodes c = turned_same bounded net nodes c k same in
        subst (λ (n : law.Node Place ℕ). ShowsCore core n z) (sym node)
        (subst (λ (a : NetCore). ShowsCore a (turn_of bounded net nodes c) z) (sym core_is)
        (subst (λ (b : CoreEnd). ShowsCore here (turn_of bounded net nodes c) b) (sym z_is) t.core)))
        (λ ne.
        subst (λ (n : law.Node Place ℕ). ShowsCore core n z) (sym (turned_other bounded net nodes c k ne))
        (shows.cores k core z at' (sym (get_set_other old.cores.items c k x ne) ∙ (ap (λ xs. slice_get xs k) (sym h.cores) ∙ got))))
        (cases_eq k c);
    sources = λ s n got.
        let lt = slice_get_within net.cores.items c here there in
        subst (λ (node : law.Node Place ℕ). ShowsSource node n) (sym (turned_other bounded net nodes c (source_worker net s) (λ e. absurd (omega arith))))
        (shows.sources s n (ap (λ (xs : List ℕ). slice_get xs s) (sym h.sources) ∙ got));
    collectors = λ k vs got.
        let lt = slice_get_within net.cores.items c here there in
        subst (λ (node : law.Node Place ℕ). ShowsCollector node vs.items) (sym (turned_other bounded net nodes c (collector_worker net k) (λ e. absurd (omega arith))))
        (shows.collectors k vs (ap (λ (xs : List (Vec ℕ Global)). slice_get xs k) (sym h.collectors) ∙ got));
    channels = subst (λ (xs : List Channel). ShowsChannels net (turned bounded net nodes c) xs) (sym h.queues) t.queues;
  };
  goes = t.goes;
  still = t.still;
  met = λ e core z at' got.
      let z_is : z ≡ x = core_at c x y z channels old new at h got in
      let core_is : core ≡ here = some_same core here (sym at' ∙ there) in
      subst (λ (a : NetCore). IsMet a (nodes c) z) (sym core_is) (subst (λ (b : CoreEnd). IsMet here (nodes c) b) (sym z_is) (t.met e));
  kept = λ k ne. ap (λ xs. slice_get xs k) h.cores ∙ get_set_other old.cores.items c k x ne;
}

pub run_core : (net : Net) (c : ℕ) (here : NetCore) (x y : CoreEnd) (channels : List Channel) (old new : Run)
    → slice_get net.cores.items c ≡ Some here → slice_get old.cores.items c ≡ Some y → IsRun net old → IsMade here x → length channels ≡ length old.channels.items
    → HasTurned c x channels old new → IsRun net new
run_core net c here x y channels old new there at whole made len h = record {
  cores = ap length h.cores ∙ (length_set old.cores.items c x ∙ whole.cores);
  sources = ap length h.sources ∙ whole.sources;
  collectors = ap length h.collectors ∙ whole.collectors;
  channels = ap length h.queues ∙ (len ∙ whole.channels);
  made = λ k core z at' got. ⊎_elim
      (λ same.
      let z_is : z ≡ x = core_at c x y z channels old new at h (ap (slice_get new.cores.items) (sym same) ∙ got) in
      let core_is : core ≡ here = some_same core here (sym at' ∙ (ap (slice_get net.cores.items) same ∙ there)) in
      subst (λ (a : NetCore). IsMade a z) (sym core_is) (subst (λ (b : CoreEnd). IsMade here b) (sym z_is) made))
      (λ ne. whole.made k core z at' (sym (get_set_other old.cores.items c k x ne) ∙ (ap (λ xs. slice_get xs k) (sym h.cores) ∙ got)))
      (cases_eq k c);
}

-- ---- sources and collectors

pub run_source : (net : Net) (s n v q : ℕ) (old new : Run) → IsRun net old → HasPushed s n v q old new → IsRun net new
run_source net s n v q old new whole h = record {
  cores = ap length h.cores ∙ whole.cores;
  sources = ap length h.sources ∙ (length_set old.sources.items s (n + 1) ∙ whole.sources);
  collectors = ap length h.collectors ∙ whole.collectors;
  channels = h.count ∙ whole.channels;
  made = λ k core z at got. whole.made k core z at (ap (λ xs. slice_get xs k) (sym h.cores) ∙ got);
}

pub run_collector : (net : Net) (k q : ℕ) (had now : Vec ℕ Global) (v : ℕ) (old new : Run) → IsRun net old → HasCollected k q had now v old new → IsRun net new
run_collector net k q had now v old new whole h = record {
  cores = ap length h.cores ∙ whole.cores;
  sources = ap length h.sources ∙ whole.sources;
  collectors = ap length h.collectors ∙ (length_set old.collectors.items k now ∙ whole.collectors);
  channels = h.count ∙ whole.channels;
  made = λ j core z at got. whole.made j core z at (ap (λ xs. slice_get xs j) (sym h.cores) ∙ got);
}

-- one value pushed to one queue
pub moved_push : (q v : ℕ) (x y : Channel) (old : List Channel) → slice_get old q ≡ Some y → x.history.items ≡ y.history.items ++ v ∷ [] → x.consumed ≡ y.consumed
    → AreMovedBy [] (λ p. if q == p then v ∷ [] else []) old (slice_set old q x)
moved_push q v x y old at hist cons p z got = ⊎_elim
    (λ same.
    let z_is : z ≡ x = some_same z x (sym got ∙ (ap (slice_get (slice_set old q x)) same ∙ get_set_same old q x (slice_get_within old q y at))) in
    let b : (q == p) ≡ true = eq-eqb q p (sym same) in (
      y,
      ap (slice_get old) same ∙ at,
      ap (λ (c : Channel). c.history.items) z_is ∙ (hist ∙ ap (λ (b : Bool). y.history.items ++ (if b then v ∷ [] else [])) (sym b)),
      ap (λ (c : Channel). c.consumed) z_is ∙ (cons ∙ omega arith),
    ))
    (λ ne.
    let b : (q == p) ≡ false = ne_eqb q p (λ e. ne (sym e)) in (
      z,
      sym (get_set_other old q p x ne) ∙ got,
      sym (append-nil z.history.items) ∙ ap (λ (b : Bool). z.history.items ++ (if b then v ∷ [] else [])) (sym b),
      omega arith,
    ))
    (cases_eq p q)

-- one item consumed of one queue
pub moved_take : (q v : ℕ) (x y : Channel) (old : List Channel) → slice_get old q ≡ Some y → slice_get y.history.items y.consumed ≡ Some v
    → x.history.items ≡ y.history.items → x.consumed ≡ min (y.consumed + 1) (length y.history.items) → AreMovedBy (q ∷ []) (λ p. []) old (slice_set old q x)
moved_take q v x y old at item hist cons p z got = ⊎_elim
    (λ same.
    let z_is : z ≡ x = some_same z x (sym got ∙ (ap (slice_get (slice_set old q x)) same ∙ get_set_same old q x (slice_get_within old q y at))) in
    let one : times p (q ∷ []) ≡ 1 = let b = eq-eqb p q same in rw b refl in
    let more = slice_get_within y.history.items y.consumed v item in
    let number : x.consumed ≡ y.consumed + times p (q ∷ []) = omega arith in (
      y,
      ap (slice_get old) same ∙ at,
      ap (λ (c : Channel). c.history.items) z_is ∙ (hist ∙ sym (append-nil y.history.items)),
      ap (λ (c : Channel). c.consumed) z_is ∙ number,
    ))
    (λ ne.
    let none : times p (q ∷ []) ≡ 0 = let b = ne_eqb p q ne in rw b refl in
    (z, sym (get_set_other old q p x ne) ∙ got, sym (append-nil z.history.items), omega arith))
    (cases_eq p q)
