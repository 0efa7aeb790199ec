-- No two slots of a format claim one state or queue.
use Rattle.std.proofs.Common.{◌≡◌, ◌⊎◌, inl, inr, ⊎_elim, ℕ, ◌+◌, List, [], ◌∷◌, ◌++◌, Bool, true, false, not, ◌||◌, ◌&&◌, eqb, map, Option, Some, None, option_map, refl, ap, sym, subst, ◌∙◌, length}
use Rattle.std.specs.List.{flat_map, list_any, list_all, slice_get}
use borrow.Author.Tests.{eqb-true}
use Rattle.tie_expr.specs.declared.node.Node.{Node}
use Rattle.tie_mean.specs.Names.{is_named, is_written}
use Rattle.tie_grammar.specs.declared.symbol.Leaf.{Leaf}
use Rattle.tie_grammar.specs.declared.tree.Link.{Link}
use Rattle.tie_grammar.specs.declared.tree.Operation.{Operation}
use Rattle.tie_grammar.specs.declared.tree.Decl.{Decl}
use Rattle.tie_grammar.specs.declared.tree.Decl.TheVariants as d
use Rattle.tie_grammar.specs.declared.tree.Tree.{Tree}
use Rattle.tie_describe.specs.tie_rules.Least.{when}
use Rattle.tie_describe.specs.tie_rules.Names.{has, declares_state, declares_queue}
use Rattle.tie_describe.specs.tie_rules.Schedules.{opcodes, opcode_links, counted, is_counted, opcode_counts, slot_counts, link_shared, opcode_shared, slot_shared}
use Rattle.tie_desc.specs.Slots.{links_of}
use Rattle.tie_desc.specs.Invariant.{written_state, popped_queue, pushed_queue, claims, apart, slots_apart}
use Rattle.tie_desc.specs.declared.declarations.StateDecl.{StateDecl}
use Rattle.tie_desc.specs.declared.declarations.QueueDecl.{QueueDecl}
use Rattle.tie_desc.specs.declared.declarations.Kind.{Kind}
use Rattle.tie_desc.specs.declared.declarations.Operand.{Operand}
use Rattle.tie_desc.specs.declared.formats.SlotDecl.{SlotDecl}
use Rattle.tie_describe.specs.Declarations.{state_of, input_of, output_of}
use Rattle.tie_describe.specs.Operations.{states, inputs, outputs, link_kind, link}
use Rattle.tie_describe.specs.Formats.{code_of, slot}
use Rattle.tie_describe.specs.Described.{ops, described}
use Rattle.tie_description_law.proofs.Elements.{In, from_map, from_flat_map, to_any, any_none, none_in, all_true, in_right, when_none, Behind, behind_after}
use Rattle.tie_description_law.proofs.Names.{bytes_true, bytes_same}
use Rattle.tie_description_law.proofs.Places.{Found}
use Rattle.tie_description_law.proofs.OperandKinds.{LinkOf, state_named, queue_named}
use Rattle.tie_description_law.proofs.GoodOperations.{Operands, operands_of}
use Rattle.tie_description_law.proofs.Codes.{code_links}
use Rattle.tie_description_law.proofs.SlotCodes.{Codes, code_at}
use Rattle.tie_description_law.proofs.Kept.{Kept}

-- a link of an operation that a slot lists claims a number
pub record Claimed (t : Tree) (claim : Operand → List ℕ) (leaf : Leaf) (a : ℕ) : Type 0 where
  pub opcode : Leaf
  pub listed : In opcode (opcodes t leaf)
  pub by : Operation
  pub among : In (d.Operation by) t.declarations
  pub links_are : opcode_links t opcode ≡ by.links
  pub via : Link
  pub linked : In via by.links
  pub claims : In a (claim (link t by via))

claimed : (t : Tree) (results : List (List Node)) (claim : Operand → List ℕ) (leaf : Leaf) (a : ℕ) → Kept t → Codes t leaf → In a (claims (described t results) claim (slot t (ops t results) leaf)) → Claimed t claim leaf a
claimed t results claim leaf a k c i =
    let at = from_flat_map (λ y. flat_map claim (links_of (described t results) y)) (map (code_of (ops t results)) (opcodes t leaf)) a i in
    let op = from_map (code_of (ops t results)) (opcodes t leaf) at.0 at.1 in
    let p = from_flat_map claim (links_of (described t results) at.0) a at.2 in
    let known = code_links t results op.0 (code_of (ops t results) op.0) p.0 k (code_at t results leaf k c op.0 op.1) (subst (λ y. In p.0 (links_of (described t results) y)) op.2 p.1) in
    let x = from_map (link t known.0) known.0.links p.0 known.3 in
    record { opcode = op.0; listed = op.1; by = known.0; among = known.1; links_are = known.2; via = x.0; linked = x.1; claims = subst (λ q. In a (claim q)) x.2 p.2 }

-- such claims count, and name what they claim
abbrev pub Tells : Tree → (Operand → List ℕ) → Bool → (ℕ → Option (List ℕ)) → Type 0
Tells t claim kind name =
    (o : Operation) (x : Link) (a : ℕ) → In (d.Operation o) t.declarations → In x o.links → In a (claim (link t o x)) → (counted kind t x ≡ true) × (name a ≡ Some x.name.bytes)

and_true : (a b : Bool) → a ≡ true → b ≡ true → (a && b) ≡ true
and_true true b e f = f
and_true false b e f = absurd cc

same_some : (a b : List ℕ) → Some a ≡ Some b → a ≡ b
same_some a b e = cc

-- two slots that claim the same break the rule
clash : (t : Tree) (claim : Operand → List ℕ) (kind : Bool) (name : ℕ → Option (List ℕ)) → Tells t claim kind name → (format : Leaf) (front : List Leaf) (s u : Leaf) (a : ℕ)
    → slot_shared kind t format front u ≡ [] → In s front → Claimed t claim s a → Claimed t claim u a → ⊥
clash t claim kind name tells format front s u a e i one two =
    let first = tells one.by one.via a one.among one.linked one.claims in
    let second = tells two.by two.via a two.among two.linked two.claims in
    let n = two.via.name.bytes in
    let same : one.via.name.bytes ≡ n = same_some one.via.name.bytes n (sym first.1 ∙ second.1) in
    let no_opcode = none_in (opcode_shared kind t front) (opcodes t u) two.opcode (when_none (list_any (opcode_shared kind t front) (opcodes t u)) format.place e) two.listed in
    let no_link = none_in (link_shared kind t front) two.by.links two.via (sym (ap (list_any (link_shared kind t front)) two.links_are) ∙ no_opcode) two.linked in
    let here = to_any (is_counted kind t n) one.by.links one.via one.linked (and_true (is_named n one.via.name) (counted kind t one.via) (bytes_same one.via.name.bytes n same) first.0) in
    let counts = to_any (opcode_counts kind t n) (opcodes t s) one.opcode one.listed (ap (list_any (is_counted kind t n)) one.links_are ∙ here) in
    let yes = and_true (counted kind t two.via) (list_any (slot_counts kind t n) front) second.0 (to_any (slot_counts kind t n) front s i counts) in
    let f : true ≡ false = sym yes ∙ no_link in cc

apart_from : (t : Tree) (results : List (List Node)) (claim : Operand → List ℕ) (kind : Bool) (name : ℕ → Option (List ℕ)) → Kept t → Tells t claim kind name → (format : Leaf) (before xs : List Leaf)
    → Behind (λ b u. slot_shared kind t format b u ≡ []) before xs → ((u : Leaf) → In u xs → Codes t u) → slots_apart (described t results) claim (map (slot t (ops t results)) xs) ≡ true
apart_from t results claim kind name k tells format before [] h c = refl
apart_from t results claim kind name k tells format before (s ∷ ss) h c =
    let mine = claims (described t results) claim (slot t (ops t results) s) in
    let each = all_true (λ u. apart mine (claims (described t results) claim u)) (map (slot t (ops t results)) ss) (λ u i.
    let at = from_map (slot t (ops t results)) ss u i in
    let after = behind_after (λ b v. slot_shared kind t format b v ≡ []) (before ++ s ∷ []) ss at.0 s h.1 at.1 (in_right s before (s ∷ []) (inl refl)) in
    let theirs = claims (described t results) claim (slot t (ops t results) at.0) in
    ap (λ v. apart mine (claims (described t results) claim v)) at.2
    ∙ all_true (λ a. not (list_any (λ y. eqb a y) theirs)) mine (λ a j. ap not (any_none (λ y. eqb a y) theirs (λ y l e.
    clash t claim kind name tells format after.0 s at.0 a after.1 after.2 (claimed t results claim s a k (c s (inl refl)) j)
    (claimed t results claim at.0 a k (c at.0 (inr at.1)) (subst (λ z. In z theirs) (sym (eqb-true _ _ e)) l)))))) in
    ap (λ b. b && slots_apart (described t results) claim (map (slot t (ops t results)) ss)) each ∙ apart_from t results claim kind name k tells format (before ++ s ∷ []) ss h.1 (λ u i. c u (inr i))

-- ---- states

state_there : (n : List ℕ) (x : Decl) (s : StateDecl) → In s (state_of x) → state_named n s ≡ true → declares_state n x ≡ true
state_there n (d.State x) s (inl e) h = sym (ap (state_named n) e) ∙ h
state_there n (d.State x) s (inr i) h = absurd i
state_there n _ s i h = absurd i

abbrev with_kind : List ℕ → Kind → Bool → Bool → Bool → Bool → Operand
with_kind name c reads writes use_m def_m = record { name = name; kind = c; reads = reads; writes = writes; use_m = use_m; def_m = def_m }

state_claim : (t : Tree) (n : List ℕ) (c : Kind) → LinkOf t n c → (name : List ℕ) (reads writes use_m def_m : Bool) (a : ℕ) → In a (written_state (with_kind name c reads writes use_m def_m))
    → (writes ≡ true) × Found (state_named n) (states t) a
state_claim t n _ (LinkOf.state i f) name reads true use_m def_m a (inl e) = (refl, subst (λ j. Found (state_named n) (states t) j) (sym e) f)
state_claim t n _ (LinkOf.state i f) name reads true use_m def_m a (inr h) = absurd h
state_claim t n _ (LinkOf.state i f) name reads false use_m def_m a h = absurd h
state_claim t n _ (LinkOf.input i f) name reads true use_m def_m a h = absurd h
state_claim t n _ (LinkOf.input i f) name reads false use_m def_m a h = absurd h
state_claim t n _ (LinkOf.output i f) name reads true use_m def_m a h = absurd h
state_claim t n _ (LinkOf.output i f) name reads false use_m def_m a h = absurd h

abbrev state_name : Tree → ℕ → Option (List ℕ)
state_name t a = option_map (λ (s : StateDecl). s.name) (slice_get (states t) a)

states_tell : (t : Tree) → Kept t → Tells t written_state true (state_name t)
states_tell t k = λ o x a i j h.
    let p = link t o x in
    let known = (operands_of t o k i).links x j in
    let it = state_claim t x.name.bytes (link_kind (states t) (inputs t) (outputs t) x.name.bytes) known p.name p.reads p.writes p.use_m p.def_m a h in
    let at = from_flat_map state_of t.declarations it.1.it it.1.among in (
      and_true (is_written x.direction) (has (declares_state x.name.bytes) t) it.0 (to_any (declares_state x.name.bytes) t.declarations at.0 at.1 (state_there x.name.bytes at.0 it.1.it at.2 it.1.passes)),
      ap (option_map (λ (s : StateDecl). s.name)) it.1.at ∙ ap Some (bytes_true it.1.it.name x.name.bytes it.1.passes),
    )

-- ---- queues

input_there : (n : List ℕ) (x : Decl) (q : QueueDecl) → In q (input_of x) → queue_named n q ≡ true → declares_queue n x ≡ true
input_there n (d.QueueIn x) q (inl e) h = sym (ap (queue_named n) e) ∙ h
input_there n (d.QueueIn x) q (inr i) h = absurd i
input_there n _ q i h = absurd i

output_there : (n : List ℕ) (x : Decl) (q : QueueDecl) → In q (output_of x) → queue_named n q ≡ true → declares_queue n x ≡ true
output_there n (d.QueueOut x) q (inl e) h = sym (ap (queue_named n) e) ∙ h
output_there n (d.QueueOut x) q (inr i) h = absurd i
output_there n _ q i h = absurd i

input_claim : (t : Tree) (n : List ℕ) (c : Kind) → LinkOf t n c → (name : List ℕ) (reads writes use_m def_m : Bool) (a : ℕ) → In a (popped_queue (with_kind name c reads writes use_m def_m)) → Found (queue_named n) (inputs t) a
input_claim t n _ (LinkOf.state i f) name reads writes use_m def_m a h = absurd h
input_claim t n _ (LinkOf.input i f) name reads writes use_m def_m a (inl e) = subst (λ j. Found (queue_named n) (inputs t) j) (sym e) f
input_claim t n _ (LinkOf.input i f) name reads writes use_m def_m a (inr h) = absurd h
input_claim t n _ (LinkOf.output i f) name reads writes use_m def_m a h = absurd h

output_claim : (t : Tree) (n : List ℕ) (c : Kind) → LinkOf t n c → (name : List ℕ) (reads writes use_m def_m : Bool) (a : ℕ) → In a (pushed_queue (with_kind name c reads writes use_m def_m)) → Found (queue_named n) (outputs t) a
output_claim t n _ (LinkOf.state i f) name reads writes use_m def_m a h = absurd h
output_claim t n _ (LinkOf.input i f) name reads writes use_m def_m a h = absurd h
output_claim t n _ (LinkOf.output i f) name reads writes use_m def_m a (inl e) = subst (λ j. Found (queue_named n) (outputs t) j) (sym e) f
output_claim t n _ (LinkOf.output i f) name reads writes use_m def_m a (inr h) = absurd h

abbrev queue_name : List QueueDecl → ℕ → Option (List ℕ)
queue_name qs a = option_map (λ (q : QueueDecl). q.name) (slice_get qs a)

inputs_tell : (t : Tree) → Kept t → Tells t popped_queue false (queue_name (inputs t))
inputs_tell t k = λ o x a i j h.
    let p = link t o x in
    let known = (operands_of t o k i).links x j in
    let it = input_claim t x.name.bytes (link_kind (states t) (inputs t) (outputs t) x.name.bytes) known p.name p.reads p.writes p.use_m p.def_m a h in
    let at = from_flat_map input_of t.declarations it.it it.among in (
      to_any (declares_queue x.name.bytes) t.declarations at.0 at.1 (input_there x.name.bytes at.0 it.it at.2 it.passes),
      ap (option_map (λ (q : QueueDecl). q.name)) it.at ∙ ap Some (bytes_true it.it.name x.name.bytes it.passes),
    )

outputs_tell : (t : Tree) → Kept t → Tells t pushed_queue false (queue_name (outputs t))
outputs_tell t k = λ o x a i j h.
    let p = link t o x in
    let known = (operands_of t o k i).links x j in
    let it = output_claim t x.name.bytes (link_kind (states t) (inputs t) (outputs t) x.name.bytes) known p.name p.reads p.writes p.use_m p.def_m a h in
    let at = from_flat_map output_of t.declarations it.it it.among in (
      to_any (declares_queue x.name.bytes) t.declarations at.0 at.1 (output_there x.name.bytes at.0 it.it at.2 it.passes),
      ap (option_map (λ (q : QueueDecl). q.name)) it.at ∙ ap Some (bytes_true it.it.name x.name.bytes it.passes),
    )

pub states_apart : (t : Tree) (results : List (List Node)) → Kept t → (format : Leaf) (xs : List Leaf) → Behind (λ b u. slot_shared true t format b u ≡ []) [] xs → ((u : Leaf) → In u xs → Codes t u)
    → slots_apart (described t results) written_state (map (slot t (ops t results)) xs) ≡ true
states_apart t results k format xs h c = apart_from t results written_state true (state_name t) k (states_tell t k) format [] xs h c

pub inputs_apart : (t : Tree) (results : List (List Node)) → Kept t → (format : Leaf) (xs : List Leaf) → Behind (λ b u. slot_shared false t format b u ≡ []) [] xs → ((u : Leaf) → In u xs → Codes t u)
    → slots_apart (described t results) popped_queue (map (slot t (ops t results)) xs) ≡ true
inputs_apart t results k format xs h c = apart_from t results popped_queue false (queue_name (inputs t)) k (inputs_tell t k) format [] xs h c

pub outputs_apart : (t : Tree) (results : List (List Node)) → Kept t → (format : Leaf) (xs : List Leaf) → Behind (λ b u. slot_shared false t format b u ≡ []) [] xs → ((u : Leaf) → In u xs → Codes t u)
    → slots_apart (described t results) pushed_queue (map (slot t (ops t results)) xs) ≡ true
outputs_apart t results k format xs h c = apart_from t results pushed_queue false (queue_name (outputs t)) k (outputs_tell t k) format [] xs h c
