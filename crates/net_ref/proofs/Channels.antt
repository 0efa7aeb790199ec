-- Queues of a run: what a bundle consumes and pushes, port after port.
use Rattle.std.proofs.Common.{◌≡◌, ℕ, ◌+◌, ◌≤◌, Bool, true, false, List, [], ◌∷◌, ◌++◌, length, map, Option, Some, None, refl, sym, ap, ◌∙◌, subst, ⊎_elim, arith, append_assoc}
use Rattle.std.specs.Prelude.{slice_get, slice_set, slice_index_or, min, ◌==◌, ◌&&◌, if◌then◌else◌}
use Rattle.std.specs.List.{flat_map, list_all}
use Rattle.std.specs.Option.{option_to_list}
use Rattle.std.proofs.lemmas.Bool.{cases_eq, eq-eqb, ne_eqb}
use Rattle.std.proofs.lemmas.List.{append-nil, map-append}
use Rattle.std.proofs.lemmas.List.Folds.{list_all-append}
use Rattle.std.proofs.lemmas.Grind.{flat_map-append}
use Rattle.std.proofs.lemmas.Option.{slice_get_within}
use Rattle.kahn_law.specs.Worker.{times}
use Rattle.kahn_law.proofs.MachineLemmas.{times-append}
use Rattle.net_parts.specs.declared.parts.NetQueue.{NetQueue}
use Rattle.net_ref.specs.declared.channel.Channel.{Channel}
use Rattle.net_ref.specs.Processor.{chosen}
use Rattle.net_ref.specs.Workers.{values_to}
use Rattle.xt_exec.specs.Queues.{mask}
use Rattle.net_ref.specs.Shown.{queues_of, room_at, IsTable, AreConsumed, AreExtended}
use Rattle.net_ref.proofs.Lists.{some_same, get_set_same, get_set_other, chosen_more}

-- ---- consumed

-- nothing consumed yet
pub consumed_none : (old : List Channel) → ((q : ℕ) (x : Channel) → slice_get old q ≡ Some x → x.consumed ≤ length x.history.items) → AreConsumed [] old old
consumed_none old within q x at = (x, at, refl, let w = within q x at in omega arith)

consumed_number : (x y z t s len now : ℕ) → x ≡ min (y + 1) len → y ≡ min (z + t) now → s ≡ t + 1 → len ≡ now → x ≡ min (z + s) now
consumed_number x y z t s len now a b c d = omega arith

-- one more queue
pub consumed_more : (ps : List ℕ) (old mid : List Channel) (p : ℕ) (x y : Channel) → AreConsumed ps old mid → slice_get mid p ≡ Some y
    → x.history.items ≡ y.history.items → x.consumed ≡ min (y.consumed + 1) (length y.history.items) → AreConsumed (ps ++ p ∷ []) old (slice_set mid p x)
consumed_more ps old mid p x y h at hist cons q z get =
    ⊎_elim
    (λ same.
    let is : z ≡ x = some_same z x (sym get ∙ (ap (slice_get (slice_set mid p x)) same ∙ get_set_same mid p x (slice_get_within mid p y at))) in
    let w = h q y (ap (slice_get mid) same ∙ at) in
    let one : times q (ps ++ p ∷ []) ≡ times q ps + 1 = times-append q ps (p ∷ []) ∙ ap (λ (b : Bool). times q ps + ((if b then 1 else 0) + 0)) (eq-eqb q p same) in (
      w.0,
      w.1,
      ap (λ (c : Channel). c.history.items) is ∙ (hist ∙ w.2),
      ap (λ (c : Channel). c.consumed) is
          ∙ consumed_number x.consumed y.consumed w.0.consumed (times q ps) (times q (ps ++ p ∷ [])) (length y.history.items) (length w.0.history.items) cons w.3 one (ap length w.2),
    ))
    (λ ne.
    let w = h q z (sym (get_set_other mid p q x ne) ∙ get) in
    let none : times q (ps ++ p ∷ []) ≡ times q ps = times-append q ps (p ∷ []) ∙ (ap (λ (b : Bool). times q ps + ((if b then 1 else 0) + 0)) (ne_eqb q p ne) ∙ omega arith) in
    (w.0, w.1, w.2, w.3 ∙ ap (λ (n : ℕ). min (w.0.consumed + n) (length w.0.history.items)) (sym none)))
    (cases_eq q p)

pub queues_more : (f : ℕ → ℕ) (test : ℕ → Bool) (n : ℕ) → test n ≡ true → queues_of f test (n + 1) ≡ queues_of f test n ++ f n ∷ []
queues_more f test n is =
    ap (map f) (chosen_more test n ∙ ap (λ (b : Bool). chosen test n ++ (if b then n ∷ [] else [])) is) ∙ map-append f (chosen test n) (n ∷ [])

pub queues_same : (f : ℕ → ℕ) (test : ℕ → Bool) (n : ℕ) → test n ≡ false → queues_of f test (n + 1) ≡ queues_of f test n
queues_same f test n is =
    ap (map f) (chosen_more test n ∙ (ap (λ (b : Bool). chosen test n ++ (if b then n ∷ [] else [])) is ∙ append-nil (chosen test n)))

-- ---- pushed

pub extended_none : (f : ℕ → ℕ) (values : List (Option ℕ)) (old : List Channel) → AreExtended (values_to f values []) old old
extended_none f values old q x at = (x, at, sym (append-nil x.history.items), refl)

pub extended_as : (added other : ℕ → List ℕ) (old new : List Channel) → ((q : ℕ) → added q ≡ other q) → AreExtended added old new → AreExtended other old new
extended_as added other old new e h q x at =
    let w = h q x at in (w.0, w.1, w.2 ∙ ap (λ (vs : List ℕ). w.0.history.items ++ vs) (e q), w.3)

-- one more value
pub extended_more : (added : ℕ → List ℕ) (old mid : List Channel) (p v : ℕ) (x y : Channel) → AreExtended added old mid → slice_get mid p ≡ Some y
    → x.history.items ≡ y.history.items ++ v ∷ [] → x.consumed ≡ y.consumed → AreExtended (λ q. added q ++ (if p == q then v ∷ [] else [])) old (slice_set mid p x)
extended_more added old mid p v x y h at hist cons q z get =
    ⊎_elim
    (λ same.
    let is : z ≡ x = some_same z x (sym get ∙ (ap (slice_get (slice_set mid p x)) same ∙ get_set_same mid p x (slice_get_within mid p y at))) in
    let w = h q y (ap (slice_get mid) same ∙ at) in
    let b : (p == q) ≡ true = eq-eqb p q (sym same) in (
      w.0,
      w.1,
      ap (λ (c : Channel). c.history.items) is
          ∙ (hist ∙ (ap (λ (vs : List ℕ). vs ++ v ∷ []) w.2
          ∙ (append_assoc w.0.history.items (added q) (v ∷ []) ∙ ap (λ (b : Bool). w.0.history.items ++ (added q ++ (if b then v ∷ [] else []))) (sym b)))),
      ap (λ (c : Channel). c.consumed) is ∙ (cons ∙ w.3),
    ))
    (λ ne.
    let w = h q z (sym (get_set_other mid p q x ne) ∙ get) in
    let b : (p == q) ≡ false = ne_eqb p q (λ e. ne (sym e)) in (
      w.0,
      w.1,
      w.2 ∙ ap (λ (vs : List ℕ). w.0.history.items ++ vs) (sym (append-nil (added q)) ∙ ap (λ (b : Bool). added q ++ (if b then v ∷ [] else [])) (sym b)),
      w.3,
    ))
    (cases_eq q p)

-- one value, or none, pushed to one queue
pub extended_one : (q v : ℕ) (x y : Channel) (old : List Channel) → slice_get old q ≡ Some y → x.history.items ≡ y.history.items ++ v ∷ [] → x.consumed ≡ y.consumed
    → AreExtended (λ p. if q == p then v ∷ [] else []) old (slice_set old q x)
extended_one q v x y old at hist cons = extended_more (λ p. []) old old q v x y (λ p z got. (z, got, sym (append-nil z.history.items), refl)) at hist cons

pub extended_nothing : (q : ℕ) (old : List Channel) → AreExtended (λ p. if q == p then [] else []) old old
extended_nothing q old p x at = (x, at, sym (ap (λ (vs : List ℕ). x.history.items ++ vs) (nothing (q == p) []) ∙ append-nil x.history.items), refl)
  where
    nothing : (b : Bool) (xs : List ℕ) → (if b then xs else xs) ≡ xs
    nothing true xs = refl
    nothing false xs = refl

pub values_more : (f : ℕ → ℕ) (values : List (Option ℕ)) (test : ℕ → Bool) (o : ℕ) (value : Option ℕ) (q : ℕ) → test o ≡ true → slice_index_or values o None ≡ value
    → values_to f values (chosen test (o + 1)) q ≡ values_to f values (chosen test o) q ++ (if f o == q then option_to_list value else [])
values_more f values test o value q is e =
    let F : ℕ → List ℕ = λ k. if f k == q then option_to_list (slice_index_or values k None) else [] in
    ap (flat_map F) (chosen_more test o ∙ ap (λ (b : Bool). chosen test o ++ (if b then o ∷ [] else [])) is)
    ∙ (flat_map-append F (chosen test o) (o ∷ [])
    ∙ ap (λ (vs : List ℕ). flat_map F (chosen test o) ++ vs) (append-nil (F o) ∙ ap (λ (w : Option ℕ). if f o == q then option_to_list w else []) e))

pub values_same : (f : ℕ → ℕ) (values : List (Option ℕ)) (test : ℕ → Bool) (o q : ℕ) → test o ≡ false
    → values_to f values (chosen test (o + 1)) q ≡ values_to f values (chosen test o) q
values_same f values test o q is =
    let F : ℕ → List ℕ = λ k. if f k == q then option_to_list (slice_index_or values k None) else [] in
    ap (flat_map F) (chosen_more test o ∙ (ap (λ (b : Bool). chosen test o ++ (if b then o ∷ [] else [])) is ∙ append-nil (chosen test o)))

-- a port with no value
pub values_none : (f : ℕ → ℕ) (values : List (Option ℕ)) (test : ℕ → Bool) (o q : ℕ) → test o ≡ true → slice_index_or values o None ≡ None
    → values_to f values (chosen test (o + 1)) q ≡ values_to f values (chosen test o) q
values_none f values test o q is e =
    values_more f values test o None q is e ∙ (ap (λ (vs : List ℕ). values_to f values (chosen test o) q ++ vs) (nothing (f o == q) []) ∙ append-nil (values_to f values (chosen test o) q))
  where
    nothing : (b : Bool) (xs : List ℕ) → (if b then xs else xs) ≡ xs
    nothing true xs = refl
    nothing false xs = refl

-- ---- room

pub room_more : (channels : List Channel) (queues : List NetQueue) (f : ℕ → ℕ) (test : ℕ → Bool) (n : ℕ) → test n ≡ true
    → list_all (room_at channels queues) (queues_of f test (n + 1)) ≡ (list_all (room_at channels queues) (queues_of f test n) && room_at channels queues (f n))
room_more channels queues f test n is =
    ap (list_all (room_at channels queues)) (queues_more f test n is)
    ∙ (list_all-append (room_at channels queues) (queues_of f test n) (f n ∷ []) ∙ ap (λ (b : Bool). list_all (room_at channels queues) (queues_of f test n) && b) (one (room_at channels queues (f n))))
  where
    one : (b : Bool) → (b && true) ≡ b
    one true = refl
    one false = refl

-- ---- steps of the loops

pub consumed_joined : (ps qs : List ℕ) (old mid new : List Channel) → AreConsumed ps old mid → AreConsumed qs mid new → AreConsumed (ps ++ qs) old new
consumed_joined ps qs old mid new a b q x at =
    let v = b q x at in
    let w = a q v.0 v.1 in
    let n = times-append q ps qs in
    let len : length v.0.history.items ≡ length w.0.history.items = ap length w.2 in
    let y = v.3 in
    let z = w.3 in
    (w.0, w.1, v.2 ∙ w.2, numbers x.consumed v.0.consumed w.0.consumed (times q ps) (times q qs) (times q (ps ++ qs)) (length v.0.history.items) (length w.0.history.items) y z n len)
  where
    numbers : (x v w s t u l m : ℕ) → x ≡ min (v + t) l → v ≡ min (w + s) m → u ≡ s + t → l ≡ m → x ≡ min (w + u) m
    numbers x v w s t u l m a b c d = omega arith

pub consume_step : (pops : ℕ) (ins : List ℕ) (i q : ℕ) (b : Bool) (old mid new : List Channel) → slice_get ins i ≡ Some q → ((test : ℕ → Bool) → pops ≡ mask test → b ≡ test i)
    → ((test : ℕ → Bool) (f : ℕ → ℕ) → pops ≡ mask test → IsTable f ins → AreConsumed (queues_of f test i) old mid)
    → AreConsumed (if b then q ∷ [] else []) mid new
    → (test : ℕ → Bool) (f : ℕ → ℕ) → pops ≡ mask test → IsTable f ins → AreConsumed (queues_of f test (i + 1)) old new
consume_step pops ins i q b old mid new at bit before one test f e table =
    let here : b ≡ test i = bit test e in
    let queue : q ≡ f i = table i q at in
    let more : queues_of f test (i + 1) ≡ queues_of f test i ++ (if b then q ∷ [] else []) =
    ap (map f) (chosen_more test i) ∙ (map-append f (chosen test i) (if test i then i ∷ [] else [])
    ∙ ap (λ (xs : List ℕ). queues_of f test i ++ xs) (same (test i) i (f i) q queue ∙ ap (λ (t : Bool). if t then q ∷ [] else []) (sym here))) in
    subst (λ (ps : List ℕ). AreConsumed ps old new) (sym more) (consumed_joined (queues_of f test i) (if b then q ∷ [] else []) old mid new (before test f e table) one)
  where
    same : (t : Bool) (i k q : ℕ) → q ≡ f i → map f (if t then i ∷ [] else []) ≡ (if t then q ∷ [] else [])
    same true i k q e = ap (λ (n : ℕ). n ∷ []) (sym e)
    same false i k q e = refl

pub extended_joined : (a b : ℕ → List ℕ) (old mid new : List Channel) → AreExtended a old mid → AreExtended b mid new → AreExtended (λ q. a q ++ b q) old new
extended_joined a b old mid new h k q x at =
    let v = k q x at in
    let w = h q v.0 v.1 in
    (w.0, w.1, v.2 ∙ (ap (λ (xs : List ℕ). xs ++ b q) w.2 ∙ append_assoc w.0.history.items (a q) (b q)), v.3 ∙ w.3)

pub push_step : (pushes : ℕ) (outs : List ℕ) (values : List (Option ℕ)) (o q : ℕ) (b : Bool) (value : Option ℕ) (old mid new : List Channel) → slice_get outs o ≡ Some q
    → ((test : ℕ → Bool) → pushes ≡ mask test → b ≡ test o) → value ≡ (if b then slice_index_or values o None else None)
    → ((test : ℕ → Bool) (f : ℕ → ℕ) → pushes ≡ mask test → IsTable f outs → AreExtended (values_to f values (chosen test o)) old mid)
    → AreExtended (λ p. if q == p then option_to_list value else []) mid new
    → (test : ℕ → Bool) (f : ℕ → ℕ) → pushes ≡ mask test → IsTable f outs → AreExtended (values_to f values (chosen test (o + 1))) old new
push_step pushes outs values o q b value old mid new at bit is before one test f e table =
    let queue : q ≡ f o = table o q at in
    extended_as (λ p. values_to f values (chosen test o) p ++ (if q == p then option_to_list value else [])) (values_to f values (chosen test (o + 1))) old new
    (λ p. by_case p (test o) refl (bit test e))
    (extended_joined (values_to f values (chosen test o)) (λ p. if q == p then option_to_list value else []) old mid new (before test f e table) one)
  where
    nothing : (c : Bool) (xs : List ℕ) → (if c then xs else xs) ≡ xs
    nothing true xs = refl
    nothing false xs = refl

    by_case : (p : ℕ) (t : Bool) → test o ≡ t → b ≡ test o
        → values_to f values (chosen test o) p ++ (if q == p then option_to_list value else []) ≡ values_to f values (chosen test (o + 1)) p
    by_case p true is' here =
        let there : slice_index_or values o None ≡ value = sym (is ∙ ap (λ (c : Bool). if c then slice_index_or values o None else None) (here ∙ is')) in
        ap (λ (k : ℕ). values_to f values (chosen test o) p ++ (if k == p then option_to_list value else [])) (table o q at) ∙ sym (values_more f values test o value p is' there)
    by_case p false is' here =
        let none : value ≡ None = is ∙ ap (λ (c : Bool). if c then slice_index_or values o None else None) (here ∙ is') in
        ap (λ (v : Option ℕ). values_to f values (chosen test o) p ++ (if q == p then option_to_list v else [])) none
        ∙ (ap (λ (xs : List ℕ). values_to f values (chosen test o) p ++ xs) (nothing (q == p) [])
        ∙ (append-nil (values_to f values (chosen test o) p) ∙ sym (values_same f values test o p is')))

pub room_step : (pushes : ℕ) (outs : List ℕ) (channels : List Channel) (queues : List NetQueue) (o q : ℕ) (b room here : Bool) → slice_get outs o ≡ Some q
    → ((test : ℕ → Bool) → pushes ≡ mask test → b ≡ test o) → here ≡ (if b then room_at channels queues q else true)
    → ((test : ℕ → Bool) (f : ℕ → ℕ) → pushes ≡ mask test → IsTable f outs → room ≡ list_all (room_at channels queues) (queues_of f test o))
    → (test : ℕ → Bool) (f : ℕ → ℕ) → pushes ≡ mask test → IsTable f outs → (room && here) ≡ list_all (room_at channels queues) (queues_of f test (o + 1))
room_step pushes outs channels queues o q b room here at bit is before test f e table = by_case (test o) refl (bit test e)
  where
    right : (a : Bool) → (a && true) ≡ a
    right true = refl
    right false = refl

    by_case : (t : Bool) → test o ≡ t → b ≡ test o → (room && here) ≡ list_all (room_at channels queues) (queues_of f test (o + 1))
    by_case true is' same =
        let there : here ≡ room_at channels queues (f o) =
        is ∙ (ap (λ (c : Bool). if c then room_at channels queues q else true) (same ∙ is') ∙ ap (room_at channels queues) (table o q at)) in
        ap (λ (c : Bool). c && here) (before test f e table) ∙ (ap (λ (c : Bool). list_all (room_at channels queues) (queues_of f test o) && c) there ∙ sym (room_more channels queues f test o is'))
    by_case false is' same =
        let there : here ≡ true = is ∙ ap (λ (c : Bool). if c then room_at channels queues q else true) (same ∙ is') in
        ap (λ (c : Bool). room && c) there ∙ (right room ∙ (before test f e table ∙ ap (list_all (room_at channels queues)) (sym (queues_same f test o is'))))
