-- What a queue of a wiring has.
use Rattle.std.proofs.Common.{◌≡◌, ℕ, ◌<◌, ◌≤◌, Bool, true, false, cond, not, nat_lt, List, [], ◌∷◌, ◌++◌, length, Option, Some, None, Result, Ok, All, count_by, slice_get, refl, subst, arith, codes}
use Rattle.std.specs.Prelude.{position}
use Rattle.std.specs.Option.{option_map, option_and_then, ok_or}
use Rattle.std.specs.List.{position_or_len, list_any}
use Rattle.std.specs.Str.{bytes_eq}
use Rattle.std.proofs.lemmas.Bool.Decides.{nat_tests}
use Rattle.std.proofs.lemmas.List.Elements.{All-nil, All-push}
use Rattle.tie_desc.specs.declared.declarations.QueueDecl.{QueueDecl}
use Rattle.net_toml.specs.net_parts.declared.parts.Net.{Net}
use Rattle.net_toml.specs.net_parts.declared.parts.NetCore.{NetCore}
use Rattle.net_toml.specs.net_parts.declared.parts.NetQueue.{NetQueue}
use Rattle.net_toml.specs.net_parts.declared.parts.NetCollector.{NetCollector}
use Rattle.net_toml.specs.net_parts.declared.parts.FromEnd.{FromEnd}
use Rattle.net_toml.specs.net_parts.declared.parts.FromEnd.TheVariants as from
use Rattle.net_toml.specs.net_parts.declared.parts.ToEnd.{ToEnd}
use Rattle.net_toml.specs.net_parts.declared.parts.ToEnd.TheVariants as to
use Rattle.net_toml.specs.net_parts.Ends.{is_input, is_output, is_source, is_collector, ins_of, outs_of, HasFrom, HasTo}
use Rattle.net_toml.specs.net_parts.Network.{IsQueue, IsBetween}
use Rattle.net_toml.specs.declared.plan.NetPlan.{NetPlan}
use Rattle.net_toml.specs.declared.plan.PlanSource.{PlanSource}
use Rattle.net_toml.specs.declared.plan.PlanQueue.{PlanQueue}
use Rattle.net_toml.specs.Broken.{Broken, check}
use Rattle.net_toml.specs.declared.refusal.NetRule.TheVariants as rule
use Rattle.net_toml.specs.Limits.{Between}
use Rattle.net_toml.specs.Names.{place_of}
use Rattle.net_desc.specs.Ends.{cut, core_number, source_number, collector_number, output_number, input_number, from_parts, to_parts, from_end, to_end, same_from, same_to, joins, same_width}
use Rattle.net_desc.specs.Wiring.{queue_of}
use Rattle.net_desc.proofs.Counting.{count_by-push}
use Rattle.net_desc.proofs.Steps.{bind_ok, check_ok, not_true, ok_or_ok}

-- ---- numbers of names

chosen : (b : Bool) (n i : ℕ) → cond b (Some n) None ≡ Some i → (b ≡ true) × (n ≡ i)
chosen true n i e = (refl, cc)
chosen false n i e = absurd cc

-- a place lies in its list
pub position-within : {A : Type 0} (p : A → Bool) (xs : List A) (i : ℕ) → position p xs ≡ Some i → i < length xs
position-within p xs i e =
    let (below, same) = chosen (nat_lt (position_or_len p xs) (length xs)) (position_or_len p xs) i e in
    grind (arith, nat_tests)

output-within : (core : Option NetCore) (name : List ℕ) (o : ℕ) → output_number core name ≡ Some o → o < outs_of core
output-within None name o e = absurd cc
output-within (Some core) name o e = position-within (λ (q : QueueDecl). bytes_eq q.name name) core.kit.desc.outs o e

input-within : (core : Option NetCore) (name : List ℕ) (i : ℕ) → input_number core name ≡ Some i → i < ins_of core
input-within None name i e = absurd cc
input-within (Some core) name i e = position-within (λ (q : QueueDecl). bytes_eq q.name name) core.kit.desc.ins i e

-- ---- an end that is named is there

module _ (net : Net) where
  output_there : (c : ℕ) (name : List ℕ) (o : Option ℕ) (end : FromEnd) → output_number (slice_get net.cores.items c) name ≡ o
      → option_map (λ out. from.Core c out) o ≡ Some end → HasFrom net end
  output_there c name (Some o) end is e =
      let same : from.Core c o ≡ end = cc in subst (HasFrom net) same (output-within (slice_get net.cores.items c) name o is)
  output_there c name None end is e = absurd cc

  core_output_there : (c : Option ℕ) (queue : List ℕ) (end : FromEnd)
      → option_and_then (λ c. option_map (λ out. from.Core c out) (output_number (slice_get net.cores.items c) queue)) c ≡ Some end → HasFrom net end
  core_output_there (Some c) queue end e = output_there c queue (output_number (slice_get net.cores.items c) queue) end refl e
  core_output_there None queue end e = absurd cc

  source_there : (s : Option ℕ) (end : FromEnd) → ((k : ℕ) → s ≡ Some k → k < length net.sources.items) → option_map (λ s. from.Source s) s ≡ Some end → HasFrom net end
  source_there (Some s) end within e = let same : from.Source s ≡ end = cc in subst (HasFrom net) same (within s refl)
  source_there None end within e = absurd cc

  from_there : (plan : NetPlan) → length plan.sources ≡ length net.sources.items → (text : List ℕ) (parts : Option (List ℕ × List ℕ)) (end : FromEnd)
      → from_parts net.cores.items plan text parts ≡ Some end → HasFrom net end
  from_there plan same text (Some parts) end e = core_output_there (core_number net.cores.items parts.0) parts.1 end e
  from_there plan same text None end e =
      source_there (source_number plan.sources text) end
      (λ k is. let below : k < length plan.sources = position-within (λ (x : PlanSource). bytes_eq x.name text) plan.sources k is in omega arith) e

  input_there : (c : ℕ) (name : List ℕ) (i : Option ℕ) (end : ToEnd) → input_number (slice_get net.cores.items c) name ≡ i
      → option_map (λ input. to.Core c input) i ≡ Some end → HasTo net end
  input_there c name (Some i) end is e =
      let same : to.Core c i ≡ end = cc in subst (HasTo net) same (input-within (slice_get net.cores.items c) name i is)
  input_there c name None end is e = absurd cc

  core_input_there : (c : Option ℕ) (queue : List ℕ) (end : ToEnd)
      → option_and_then (λ c. option_map (λ input. to.Core c input) (input_number (slice_get net.cores.items c) queue)) c ≡ Some end → HasTo net end
  core_input_there (Some c) queue end e = input_there c queue (input_number (slice_get net.cores.items c) queue) end refl e
  core_input_there None queue end e = absurd cc

  collector_there : (s : Option ℕ) (end : ToEnd) → ((k : ℕ) → s ≡ Some k → k < length net.collectors.items) → option_map (λ c. to.Collector c) s ≡ Some end → HasTo net end
  collector_there (Some s) end within e = let same : to.Collector s ≡ end = cc in subst (HasTo net) same (within s refl)
  collector_there None end within e = absurd cc

  to_there : (plan : NetPlan) → length plan.collectors ≡ length net.collectors.items → (text : List ℕ) (parts : Option (List ℕ × List ℕ)) (end : ToEnd)
      → to_parts net.cores.items plan text parts ≡ Some end → HasTo net end
  to_there plan same text (Some parts) end e = core_input_there (core_number net.cores.items parts.0) parts.1 end e
  to_there plan same text None end e =
      collector_there (collector_number plan.collectors text) end
      (λ k is. let below : k < length plan.collectors = position-within (λ (x : NetCollector). bytes_eq x.name text) plan.collectors k is in omega arith) e

  -- ---- two ends that a queue may have

  joined_between : (a : FromEnd) (b : ToEnd) → joins a b ≡ true → same_width net.cores.items a b ≡ true → IsBetween net a b
  joined_between (from.Core c o) (to.Core d i) join wide = (λ e. grind (arith, nat_tests), grind (arith, nat_tests))
  joined_between (from.Core c o) (to.Collector k) join wide = tt
  joined_between (from.Source s) (to.Core d i) join wide = tt
  joined_between (from.Source s) (to.Collector k) join wide = absurd cc

-- ---- whose end it is says which it is

agree_output : (c o : ℕ) (a b : FromEnd) → is_output c o a ≡ true → is_output c o b ≡ true → same_from a b ≡ true
agree_output c o (from.Core d p) (from.Core e q) x y = grind (arith, nat_tests)
agree_output c o (from.Core d p) (from.Source s) x y = absurd cc
agree_output c o (from.Source s) b x y = absurd cc

agree_source : (s : ℕ) (a b : FromEnd) → is_source s a ≡ true → is_source s b ≡ true → same_from a b ≡ true
agree_source s (from.Source t) (from.Source u) x y = grind (arith, nat_tests)
agree_source s (from.Source t) (from.Core d p) x y = absurd cc
agree_source s (from.Core d p) b x y = absurd cc

agree_input : (c i : ℕ) (a b : ToEnd) → is_input c i a ≡ true → is_input c i b ≡ true → same_to a b ≡ true
agree_input c i (to.Core d j) (to.Core e k) x y = grind (arith, nat_tests)
agree_input c i (to.Core d j) (to.Collector k) x y = absurd cc
agree_input c i (to.Collector k) b x y = absurd cc

agree_collector : (k : ℕ) (a b : ToEnd) → is_collector k a ≡ true → is_collector k b ≡ true → same_to a b ≡ true
agree_collector k (to.Collector l) (to.Collector m) x y = grind (arith, nat_tests)
agree_collector k (to.Collector l) (to.Core d i) x y = absurd cc
agree_collector k (to.Core d i) b x y = absurd cc

-- ---- the queues so far

-- what the queues so far have: all that a network's queues have, but that each worker's end is taken
pub record Placed (net : Net) (qs : List NetQueue) : Type 0 where
  pub queues : All IsQueue qs
  pub froms : All (λ q. HasFrom net q.from) qs
  pub tos : All (λ q. HasTo net q.to) qs
  pub between : All (λ q. IsBetween net q.from q.to) qs
  pub outputs : (c o : ℕ) → count_by (λ q. is_output c o q.from) qs ≤ 1
  pub inputs : (c i : ℕ) → count_by (λ q. is_input c i q.to) qs ≤ 1
  pub sources : (s : ℕ) → count_by (λ q. is_source s q.from) qs ≤ 1
  pub collectors : (k : ℕ) → count_by (λ q. is_collector k q.to) qs ≤ 1

pub placed_none : (net : Net) → Placed net []
placed_none net = record {
  queues = All-nil IsQueue;
  froms = All-nil (λ (q : NetQueue). HasFrom net q.from);
  tos = All-nil (λ (q : NetQueue). HasTo net q.to);
  between = All-nil (λ (q : NetQueue). IsBetween net q.from q.to);
  outputs = λ c o. omega arith;
  inputs = λ c i. omega arith;
  sources = λ s. omega arith;
  collectors = λ k. omega arith;
}

-- a queue of the network: its ends are there, join, and are no earlier queue's
pub record IsNext (net : Net) (before : List NetQueue) (y : NetQueue) : Type 0 where
  pub queue : IsQueue y
  pub from : HasFrom net y.from
  pub to : HasTo net y.to
  pub between : IsBetween net y.from y.to
  pub new_from : list_any (λ (b : NetQueue). same_from y.from b.from) before ≡ false
  pub new_to : list_any (λ (b : NetQueue). same_to y.to b.to) before ≡ false

pub placed_next : (net : Net) (before : List NetQueue) (y : NetQueue) → IsNext net before y → Placed net before → Placed net (before ++ y ∷ [])
placed_next net before y n p = record {
  queues = All-push IsQueue before y p.queues n.queue;
  froms = All-push (λ (q : NetQueue). HasFrom net q.from) before y p.froms n.from;
  tos = All-push (λ (q : NetQueue). HasTo net q.to) before y p.tos n.to;
  between = All-push (λ (q : NetQueue). IsBetween net q.from q.to) before y p.between n.between;
  outputs = λ c o. count_by-push (λ (q : NetQueue). is_output c o q.from) (λ (a : NetQueue) (b : NetQueue). same_from a.from b.from) (λ a b. agree_output c o a.from b.from) before y n.new_from (p.outputs c o);
  inputs = λ c i. count_by-push (λ (q : NetQueue). is_input c i q.to) (λ (a : NetQueue) (b : NetQueue). same_to a.to b.to) (λ a b. agree_input c i a.to b.to) before y n.new_to (p.inputs c i);
  sources = λ s. count_by-push (λ (q : NetQueue). is_source s q.from) (λ (a : NetQueue) (b : NetQueue). same_from a.from b.from) (λ a b. agree_source s a.from b.from) before y n.new_from (p.sources s);
  collectors = λ k. count_by-push (λ (q : NetQueue). is_collector k q.to) (λ (a : NetQueue) (b : NetQueue). same_to a.to b.to) (λ a b. agree_collector k a.to b.to) before y n.new_to (p.collectors k);
}

abbrev made_of : PlanQueue → FromEnd → ToEnd → NetQueue
made_of q a b = record { name = q.name; capacity = q.capacity; from = a; to = b }

abbrev queue_with : PlanQueue → FromEnd → ToEnd → Result NetQueue Broken
queue_with q a b = Ok (made_of q a b)

next_of : (net : Net) (before : List NetQueue) (q : PlanQueue) (y : NetQueue) → Between 1 4096 q.capacity → (a : FromEnd) (b : ToEnd)
    → HasFrom net a → HasTo net b → IsBetween net a b → list_any (λ (x : NetQueue). same_from a x.from) before ≡ false
    → list_any (λ (x : NetQueue). same_to b x.to) before ≡ false → queue_with q a b ≡ Ok y → IsNext net before y
next_of net before q y capacity a b has_from has_to joined new_from new_to is =
    let same : made_of q a b ≡ y = cc in
    subst (IsNext net before) same (record {
      queue = record { some = capacity.0; most = capacity.1 };
      from = has_from;
      to = has_to;
      between = joined;
      new_from = new_from;
      new_to = new_to;
    })

-- the walk's step gives such a queue
pub queue_of-next : (net : Net) (plan : NetPlan) → length plan.sources ≡ length net.sources.items → length plan.collectors ≡ length net.collectors.items
    → (before : List NetQueue) (q : PlanQueue) (y : NetQueue) → Between 1 4096 q.capacity → queue_of net.cores.items plan before q ≡ Ok y → IsNext net before y
unfolding queue_of
queue_of-next net plan sources collectors before q y capacity e =
    let place = place_of (codes "queue") (length before) in
    let (a, a_is, e1) = bind_ok (ok_or (from_end net.cores.items plan q.from) (rule.End, place ++ codes ".from")) _ y e in
    let (u1, new_from, e2) = bind_ok (check rule.Twice (place ++ codes ".from") (not (list_any (λ (b : NetQueue). same_from a b.from) before))) _ y e1 in
    let (b, b_is, e3) = bind_ok (ok_or (to_end net.cores.items plan q.to) (rule.End, place ++ codes ".to")) _ y e2 in
    let (u2, join, e4) = bind_ok (check rule.End (place ++ codes ".to") (joins a b)) _ y e3 in
    let (u3, new_to, e5) = bind_ok (check rule.Twice (place ++ codes ".to") (not (list_any (λ (c : NetQueue). same_to b c.to) before))) _ y e4 in
    let (u4, wide, e6) = bind_ok (check rule.Width place (same_width net.cores.items a b)) _ y e5 in
    let has_from = from_there net plan sources q.from (cut q.from) a (ok_or_ok (from_end net.cores.items plan q.from) (rule.End, place ++ codes ".from") a a_is) in
    let has_to = to_there net plan collectors q.to (cut q.to) b (ok_or_ok (to_end net.cores.items plan q.to) (rule.End, place ++ codes ".to") b b_is) in
    let may_join = check_ok rule.End (place ++ codes ".to") (joins a b) u2 join in
    let one_width = check_ok rule.Width place (same_width net.cores.items a b) u4 wide in
    let first_from = not_true (list_any (λ (x : NetQueue). same_from a x.from) before) (check_ok rule.Twice (place ++ codes ".from") (not (list_any (λ (x : NetQueue). same_from a x.from) before)) u1 new_from) in
    let first_to = not_true (list_any (λ (x : NetQueue). same_to b x.to) before) (check_ok rule.Twice (place ++ codes ".to") (not (list_any (λ (x : NetQueue). same_to b x.to) before)) u3 new_to) in
    next_of net before q y capacity a b has_from has_to (joined_between net a b may_join one_width) first_from first_to e6
