-- The queues after a worker's move.
use Rattle.std.proofs.Common.{◌≡◌, ℕ, zero, suc, ◌+◌, ◌<◌, ◌≤◌, Bool, true, false, cond, List, [], ◌∷◌, ◌++◌, length, Option, Some, refl, sym, ap, ◌∙◌, subst, ⊎_elim, arith}
use Rattle.std.specs.Prelude.{slice_get, if◌then◌else◌}
use Rattle.std.specs.List.{filter, range_with_len}
use Rattle.std.proofs.lemmas.Bool.{cases_eq, eq-eqb, ne_eqb}
use Rattle.std.proofs.lemmas.List.{append-nil}
use Rattle.std.proofs.lemmas.Option.{slice_get_within}
use Rattle.kahn_law.specs.Worker.{times}
use Rattle.net_parts.specs.declared.parts.Net.{Net}
use Rattle.net_ref.specs.declared.channel.Channel.{Channel}
use Rattle.net_ref.specs.Workers.{Nodes, writer, reader, values_to}
use Rattle.net_ref.specs.Shown.{ShowsChannels, turn_of, turned}
use Rattle.net_ref.proofs.LawTurns.{kept_nodes}

-- each queue got these values, and lost the items of these pops
abbrev pub AreMovedBy : List ℕ → (ℕ → List ℕ) → List Channel → List Channel → Type 0
AreMovedBy ps puts old new =
    (q : ℕ) (x : Channel) → slice_get new q ≡ Some x
    → (y : Channel) × (slice_get old q ≡ Some y) × (x.history.items ≡ y.history.items ++ puts q) × (x.consumed ≡ y.consumed + times q ps)

pub channels_after : (bounded : Bool) (net : Net) (nodes : Nodes) (w : ℕ) (ps : List ℕ) (puts : ℕ → List ℕ) (old new : List Channel)
    → ShowsChannels net nodes old → length new ≡ length old → AreMovedBy ps puts old new
    → ((q : ℕ) → (turn_of bounded net nodes w).now.pushed q ≡ (nodes w).now.pushed q ++ puts q)
    → ((q : ℕ) → (turn_of bounded net nodes w).now.consumed q ≡ (nodes w).now.consumed q + times q ps)
    → ((q : ℕ) → q < length net.queues.items → (writer net q ≡ w → ⊥) → puts q ≡ [])
    → ((q : ℕ) → q < length net.queues.items → (reader net q ≡ w → ⊥) → times q ps ≡ 0)
    → ShowsChannels net (turned bounded net nodes w) new
channels_after bounded net nodes w ps puts old new shows len moved pushed consumed no_puts no_pops = record {
  count = len ∙ shows.count;
  histories = λ q x at.
      let m = moved q x at in
      let before = m.2 ∙ ap (λ (xs : List ℕ). xs ++ puts q) (shows.histories q m.0 m.1) in
      let there : q < length net.queues.items = let a = slice_get_within old q m.0 m.1 in let b = shows.count in omega arith in
      ⊎_elim
      (λ same.
      let b = eq-eqb (writer net q) w same in
      before ∙ (ap (λ (v : ℕ). (nodes v).now.pushed q ++ puts q) same ∙ (sym (pushed q) ∙ ap (λ (b : Bool). (if b then turn_of bounded net nodes w else nodes (writer net q)).now.pushed q) (sym b))))
      (λ ne.
      let b = ne_eqb (writer net q) w ne in
      before ∙ (ap (λ (vs : List ℕ). (nodes (writer net q)).now.pushed q ++ vs) (no_puts q there ne) ∙ (append-nil ((nodes (writer net q)).now.pushed q)
      ∙ ap (λ (b : Bool). (if b then turn_of bounded net nodes w else nodes (writer net q)).now.pushed q) (sym b))))
      (cases_eq (writer net q) w);
  consumed = λ q x at.
      let m = moved q x at in
      let before = m.3 ∙ ap (λ (n : ℕ). n + times q ps) (shows.consumed q m.0 m.1) in
      let there : q < length net.queues.items = let a = slice_get_within old q m.0 m.1 in let b = shows.count in omega arith in
      ⊎_elim
      (λ same.
      let b = eq-eqb (reader net q) w same in
      before ∙ (ap (λ (v : ℕ). (nodes v).now.consumed q + times q ps) same ∙ (sym (consumed q) ∙ ap (λ (b : Bool). (if b then turn_of bounded net nodes w else nodes (reader net q)).now.consumed q) (sym b))))
      (λ ne.
      let b = ne_eqb (reader net q) w ne in
      let none = no_pops q there ne in
      let less : (nodes (reader net q)).now.consumed q + times q ps ≡ (nodes (reader net q)).now.consumed q = omega arith in
      before ∙ (less ∙ ap (λ (b : Bool). (if b then turn_of bounded net nodes w else nodes (reader net q)).now.consumed q) (sym b)))
      (cases_eq (reader net q) w);
}

pub channels_kept : (bounded : Bool) (net : Net) (nodes : Nodes) (w : ℕ) (channels : List Channel) → ShowsChannels net nodes channels → turn_of bounded net nodes w ≡ nodes w
    → ShowsChannels net (turned bounded net nodes w) channels
channels_kept bounded net nodes w channels shows e =
    subst (λ (f : Nodes). ShowsChannels net f channels) (sym (kept_nodes nodes w (turn_of bounded net nodes w) e)) shows

-- nothing goes to a queue that none of the ports is
pub values_nothing : (f : ℕ → ℕ) (values : List (Option ℕ)) (test : ℕ → Bool) (q n i : ℕ) → ((j : ℕ) → i ≤ j → j < i + n → f j ≡ q → ⊥)
    → values_to f values (filter test (range_with_len i n)) q ≡ []
values_nothing f values test q zero i never = refl
values_nothing f values test q (suc n) i never = one (test i) refl (values_nothing f values test q n (i + 1) (λ j le lt. never j (omega arith) (omega arith)))
  where
    one : (b : Bool) → test i ≡ b → values_to f values (filter test (range_with_len (i + 1) n)) q ≡ []
        → values_to f values (cond (test i) (i ∷ filter test (range_with_len (i + 1) n)) (filter test (range_with_len (i + 1) n))) q ≡ []
    one true is h = let b = ne_eqb (f i) q (never i (omega arith) (omega arith)) in rw (is, b) h
    one false is h = rw is h
