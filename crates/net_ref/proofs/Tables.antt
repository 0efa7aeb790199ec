-- Tables of queue numbers, and the heads that they lead to.
use Rattle.std.proofs.Common.{◌≡◌, ℕ, zero, suc, ◌<◌, ◌≤◌, Bool, true, false, List, [], ◌∷◌, length, map, get_or, All, Option, Some, None, refl, sym, ap, ◌∙◌, subst, arith}
use mathlib.Core.Path.{fun_ext}
use Rattle.std.specs.Prelude.{slice_get, slice_index_or, nat_lt, if◌then◌else◌}
use Rattle.std.specs.List.{range_with_len}
use Rattle.std.specs.Option.{option_and_then}
use Rattle.std.proofs.lemmas.Bool.{ltb-true, ltb-false}
use Rattle.std.proofs.lemmas.List.FromFn.{length-map-range_with_len, get_or-map-range_with_len}
use Rattle.std.proofs.lemmas.Option.{slice_get-get_or, slice_get_past, slice_get_within}
use Rattle.kahn_law.specs.Network as law
use Rattle.kahn_law.proofs.Lists.{item_at}
use Rattle.net_parts.specs.declared.parts.Net.{Net}
use Rattle.net_parts.specs.declared.parts.NetCore.{NetCore}
use Rattle.net_ref.specs.declared.channel.Channel.{Channel}
use Rattle.net_ref.specs.declared.ports.CorePorts.{CorePorts}
use Rattle.net_parts.specs.declared.ends.CoreEnd.{CoreEnd}
use Rattle.net_ref.specs.Processor.{chosen, heads_of, popped_of}
use Rattle.net_ref.specs.Workers.{Nodes, network, input_queue, reader, writer}
use Rattle.net_ref.specs.Shown.{IsTable, IsAtTurn, head_of, head_in, shown_head, shown_heads}
use Rattle.net_ref.proofs.Lists.{some_same}
use Rattle.net_ref.proofs.Popped.{Popped}
use Rattle.net_ref.proofs.Wiring.{input_below, input_reader}

pub table_at : (f : ℕ → ℕ) (n i : ℕ) → i < n → slice_get (map f (range_with_len 0 n)) i ≡ Some (f i)
table_at f n i lt =
    let whole = length-map-range_with_len f 0 n in
    let here : i < length (map f (range_with_len 0 n)) = omega arith in
    slice_get-get_or (map f (range_with_len 0 n)) i (f i) here ∙ ap Some (get_or-map-range_with_len f 0 n i i (f i) lt (omega arith))

pub table_past : (f : ℕ → ℕ) (n i : ℕ) → n ≤ i → slice_get (map f (range_with_len 0 n)) i ≡ None
table_past f n i le = let whole = length-map-range_with_len f 0 n in slice_get_past (map f (range_with_len 0 n)) i (omega arith)

pub table_is : (f : ℕ → ℕ) (n : ℕ) (xs : List ℕ) → xs ≡ map f (range_with_len 0 n) → IsTable f xs
table_is f n xs e i q at =
    let whole = length-map-range_with_len f 0 n in
    let lt : i < length xs = slice_get_within xs i q at in
    let same : length xs ≡ length (map f (range_with_len 0 n)) = ap length e in
    some_same q (f i) (sym at ∙ (ap (λ (ys : List ℕ). slice_get ys i) e ∙ table_at f n i (omega arith)))

pub table_length : (f : ℕ → ℕ) (n : ℕ) (xs : List ℕ) → xs ≡ map f (range_with_len 0 n) → length xs ≡ n
table_length f n xs e = ap length e ∙ length-map-range_with_len f 0 n

pub table_below : (f : ℕ → ℕ) (n m : ℕ) (xs : List ℕ) → xs ≡ map f (range_with_len 0 n) → ((i : ℕ) → i < n → f i < m) → All (λ q. q < m) xs
table_below f n m xs e below k d lt =
    let len = table_length f n xs e in
    let here : k < n = omega arith in
    let is : get_or xs k d ≡ f k = ap (λ (ys : List ℕ). get_or ys k d) e ∙ get_or-map-range_with_len f 0 n k k d here (omega arith) in
    subst (λ (q : ℕ). q < m) (sym is) (below k here)

-- ---- heads

pub head_in_table : (net : Net) (c : ℕ) (nodes : Nodes) (here : NetCore) (ports : CorePorts) (x : CoreEnd) (channels : List Channel) → IsAtTurn net c nodes here ports x channels
    → (i : ℕ) → i < length here.kit.desc.ins
    → option_and_then (head_in channels) (slice_get ports.ins.items i)
    ≡ slice_get (law.inputs (network net) nodes c (input_queue net c i)) ((nodes c).now.consumed (input_queue net c i))
head_in_table net c nodes here ports x channels t i lt =
    let q = input_queue net c i in
    let below : q < length net.queues.items = input_below net c i here t.sound t.there lt in
    let count = t.queues.count in
    let below' : q < length channels = omega arith in
    let y = item_at channels q below' in
    let at : slice_get ports.ins.items i ≡ Some q = ap (λ (xs : List ℕ). slice_get xs i) t.table.ins ∙ table_at (input_queue net c) (length here.kit.desc.ins) i lt in
    let head : head_of y.0 ≡ slice_get ((nodes (writer net q)).now.pushed q) ((nodes (reader net q)).now.consumed q) =
    ap (λ (xs : List ℕ). slice_get xs y.0.consumed) (t.queues.histories q y.0 y.1) ∙ ap (slice_get ((nodes (writer net q)).now.pushed q)) (t.queues.consumed q y.0 y.1) in
    ap (option_and_then (head_in channels)) at
    ∙ (ap (option_and_then head_of) y.1
    ∙ (head ∙ ap (λ (w : ℕ). slice_get ((nodes (writer net q)).now.pushed q) ((nodes w).now.consumed q)) (input_reader net c i below)))

pub head_past : (net : Net) (c : ℕ) (nodes : Nodes) (here : NetCore) (ports : CorePorts) (x : CoreEnd) (channels : List Channel) → IsAtTurn net c nodes here ports x channels
    → (i : ℕ) → length here.kit.desc.ins ≤ i → option_and_then (head_in channels) (slice_get ports.ins.items i) ≡ None
head_past net c nodes here ports x channels t i le =
    ap (option_and_then (head_in channels)) (ap (λ (xs : List ℕ). slice_get xs i) t.table.ins ∙ table_past (input_queue net c) (length here.kit.desc.ins) i le)

eight : (F G : ℕ → Option ℕ) → ((i : ℕ) → F i ≡ G i) → F 0 ∷ F 1 ∷ F 2 ∷ F 3 ∷ F 4 ∷ F 5 ∷ F 6 ∷ F 7 ∷ [] ≡ G 0 ∷ G 1 ∷ G 2 ∷ G 3 ∷ G 4 ∷ G 5 ∷ G 6 ∷ G 7 ∷ []
eight F G h = ap (λ (K : ℕ → Option ℕ). K 0 ∷ K 1 ∷ K 2 ∷ K 3 ∷ K 4 ∷ K 5 ∷ K 6 ∷ K 7 ∷ []) (fun_ext h)

pub at_eight : (F : ℕ → Option ℕ) (q : ℕ) → q < 8 → slice_index_or (F 0 ∷ F 1 ∷ F 2 ∷ F 3 ∷ F 4 ∷ F 5 ∷ F 6 ∷ F 7 ∷ []) q None ≡ F q
at_eight F zero lt = refl
at_eight F (suc zero) lt = refl
at_eight F (suc (suc zero)) lt = refl
at_eight F (suc (suc (suc zero))) lt = refl
at_eight F (suc (suc (suc (suc zero)))) lt = refl
at_eight F (suc (suc (suc (suc (suc zero))))) lt = refl
at_eight F (suc (suc (suc (suc (suc (suc zero)))))) lt = refl
at_eight F (suc (suc (suc (suc (suc (suc (suc zero))))))) lt = refl
at_eight F (suc (suc (suc (suc (suc (suc (suc (suc q)))))))) lt = absurd (omega arith)

pub heads_are : (net : Net) (c : ℕ) (nodes : Nodes) (here : NetCore) (ports : CorePorts) (x : CoreEnd) (channels : List Channel) → IsAtTurn net c nodes here ports x channels
    → (test : ℕ → Bool)
    → (p : Popped (law.inputs (network net) nodes c) (nodes c).now.consumed (input_queue net c) test (chosen test (length here.kit.desc.ins)) 0 (length here.kit.desc.ins))
    → shown_heads channels ports.ins.items test ≡ heads_of (chosen test (length here.kit.desc.ins)) p.vs
heads_are net c nodes here ports x channels t test p =
    eight (shown_head channels ports.ins.items test) (popped_of (chosen test (length here.kit.desc.ins)) p.vs) (λ i. one i (nat_lt i (length here.kit.desc.ins)) refl)
  where
    nothing : (b : Bool) (o : Option ℕ) → (if b then o else o) ≡ o
    nothing true o = refl
    nothing false o = refl

    one : (i : ℕ) (b : Bool) → nat_lt i (length here.kit.desc.ins) ≡ b → shown_head channels ports.ins.items test i ≡ popped_of (chosen test (length here.kit.desc.ins)) p.vs i
    one i true e =
        let lt = ltb-true i (length here.kit.desc.ins) e in
        ap (λ (o : Option ℕ). if test i then o else None) (head_in_table net c nodes here ports x channels t i lt) ∙ sym (p.here i (omega arith) (omega arith))
    one i false e =
        let le = ltb-false i (length here.kit.desc.ins) e in
        ap (λ (o : Option ℕ). if test i then o else None) (head_past net c nodes here ports x channels t i le) ∙ (nothing (test i) None ∙ sym (p.behind i (omega arith)))
