-- The wiring of a plan, and the widths of its queues, depend of the processors on their names and their queues alone.
use Rattle.std.proofs.Common.{◌≡◌, ℕ, zero, suc, ◌+◌, Bool, cond, not, List, [], ◌∷◌, ◌++◌, length, Option, Some, None, Result, Ok, refl, ap, ◌∙◌}
use Rattle.std.proofs.Math.Path.{fun_ext}
use Rattle.std.specs.Prelude.{◌==◌, nat_lt, codes, slice_get}
use Rattle.std.specs.List.{position, position_or_len, list_any, find}
use Rattle.std.specs.Option.{option_map, option_and_then, ok_or}
use Rattle.std.specs.Str.{bytes_eq}
use Rattle.tie_desc.specs.Operands.{queue_width}
use Rattle.tie_desc.specs.declared.declarations.QueueDecl.{QueueDecl}
use Rattle.net_load.specs.net_parts.declared.parts.Net.{Net}
use Rattle.net_load.specs.net_parts.declared.parts.NetCore.{NetCore}
use Rattle.net_load.specs.net_parts.declared.parts.NetQueue.{NetQueue}
use Rattle.net_load.specs.net_parts.declared.parts.FromEnd.{FromEnd}
use Rattle.net_load.specs.net_parts.declared.parts.FromEnd.TheVariants as from
use Rattle.net_load.specs.net_parts.declared.parts.ToEnd.{ToEnd}
use Rattle.net_load.specs.net_parts.declared.parts.ToEnd.TheVariants as to
use Rattle.net_load.specs.net_parts.Ends.{is_source, input_bits, output_bits}
use Rattle.net_load.specs.net_toml.declared.refusal.NetRule.TheVariants.{End, Twice, Width, Item}
use Rattle.net_load.specs.net_toml.declared.plan.NetPlan.{NetPlan}
use Rattle.net_load.specs.net_toml.declared.plan.PlanQueue.{PlanQueue}
use Rattle.net_load.specs.net_toml.Broken.{Broken, ◌>>=◌, check}
use Rattle.net_load.specs.net_toml.Names.{place_of}
use Rattle.net_load.specs.net_toml.Walk.{each}
use Rattle.net_load.specs.net_desc.Ends.{core_number, output_number, input_number, core_output, core_input, from_parts, to_parts, from_end, to_end, cut, same_from, same_to, joins, same_width}
use Rattle.net_load.specs.net_desc.Items as item
use Rattle.net_load.specs.net_desc.Wiring.{queue_of, each_number, input_wired, output_wired, core_wired, source_wired, collector_wired, all_wired, wiring}
use Rattle.net_load.specs.Texts.{hex_in, items_key, items_in}

-- two processors of one name that declare the same queues
pub record IsAlike (c d : NetCore) : Type 0 where
  pub name : c.name ≡ d.name
  pub ins : c.kit.desc.ins ≡ d.kit.desc.ins
  pub outs : c.kit.desc.outs ≡ d.kit.desc.outs

abbrev pub AreAlike : List NetCore → List NetCore → Type 0
AreAlike [] [] = Unit {0}
AreAlike [] (d ∷ ds) = ⊥
AreAlike (c ∷ cs) [] = ⊥
AreAlike (c ∷ cs) (d ∷ ds) = IsAlike c d × AreAlike cs ds

abbrev MayBeAlike : Option NetCore → Option NetCore → Type 0
MayBeAlike None None = Unit {0}
MayBeAlike None (Some d) = ⊥
MayBeAlike (Some c) None = ⊥
MayBeAlike (Some c) (Some d) = IsAlike c d

get_same : (cs ds : List NetCore) → AreAlike cs ds → (i : ℕ) → MayBeAlike (slice_get cs i) (slice_get ds i)
get_same [] [] h i = tt
get_same [] (d ∷ ds) h i = absurd h
get_same (c ∷ cs) [] h i = absurd h
get_same (c ∷ cs) (d ∷ ds) h zero = h.0
get_same (c ∷ cs) (d ∷ ds) h (suc i) = get_same cs ds h.1 i

-- ---- names

length_same : (cs ds : List NetCore) → AreAlike cs ds → length cs ≡ length ds
length_same [] [] h = refl
length_same [] (d ∷ ds) h = absurd h
length_same (c ∷ cs) [] h = absurd h
length_same (c ∷ cs) (d ∷ ds) h = ap suc (length_same cs ds h.1)

abbrev named : List ℕ → NetCore → Bool
named name = λ (c : NetCore). bytes_eq c.name name

prefix_same : (cs ds : List NetCore) → AreAlike cs ds → (name : List ℕ) → position_or_len (named name) cs ≡ position_or_len (named name) ds
prefix_same [] [] h name = refl
prefix_same [] (d ∷ ds) h name = absurd h
prefix_same (c ∷ cs) [] h name = absurd h
prefix_same (c ∷ cs) (d ∷ ds) h name =
    ap (λ (own : List ℕ). cond (not (bytes_eq own name)) (1 + position_or_len (named name) cs) 0) h.0.name
    ∙ ap (λ n. cond (not (bytes_eq d.name name)) (1 + n) 0) (prefix_same cs ds h.1 name)

number_same : (cs ds : List NetCore) → AreAlike cs ds → (name : List ℕ) → core_number cs name ≡ core_number ds name
number_same cs ds h name =
    ap (λ n. cond (nat_lt n (length cs)) (Some n) None) (prefix_same cs ds h name)
    ∙ ap (λ k. cond (nat_lt (position_or_len (named name) ds) k) (Some (position_or_len (named name) ds)) None) (length_same cs ds h)

output_same : (c d : Option NetCore) → MayBeAlike c d → (name : List ℕ) → output_number c name ≡ output_number d name
output_same None None h name = refl
output_same None (Some d) h name = absurd h
output_same (Some c) None h name = absurd h
output_same (Some c) (Some d) h name = ap (λ (qs : List QueueDecl). position (λ (q : QueueDecl). bytes_eq q.name name) qs) h.outs

input_same : (c d : Option NetCore) → MayBeAlike c d → (name : List ℕ) → input_number c name ≡ input_number d name
input_same None None h name = refl
input_same None (Some d) h name = absurd h
input_same (Some c) None h name = absurd h
input_same (Some c) (Some d) h name = ap (λ (qs : List QueueDecl). position (λ (q : QueueDecl). bytes_eq q.name name) qs) h.ins

-- ---- ends

outputs_in : List NetCore → List ℕ → ℕ → Option FromEnd
outputs_in cs queue = λ c. option_map (λ out. from.Core c out) (output_number (slice_get cs c) queue)

outputs_same : (cs ds : List NetCore) → AreAlike cs ds → (queue : List ℕ) → outputs_in cs queue ≡ outputs_in ds queue
unfolding outputs_in
outputs_same cs ds h queue = fun_ext (λ c. ap (λ (o : Option ℕ). option_map (λ out. from.Core c out) o) (output_same (slice_get cs c) (slice_get ds c) (get_same cs ds h c) queue))

core_output_same : (cs ds : List NetCore) → AreAlike cs ds → (name queue : List ℕ) → core_output cs name queue ≡ core_output ds name queue
unfolding outputs_in
core_output_same cs ds h name queue =
    ap (λ (f : ℕ → Option FromEnd). option_and_then f (core_number cs name)) (outputs_same cs ds h queue)
    ∙ ap (λ (n : Option ℕ). option_and_then (outputs_in ds queue) n) (number_same cs ds h name)

inputs_in : List NetCore → List ℕ → ℕ → Option ToEnd
inputs_in cs queue = λ c. option_map (λ input. to.Core c input) (input_number (slice_get cs c) queue)

inputs_same : (cs ds : List NetCore) → AreAlike cs ds → (queue : List ℕ) → inputs_in cs queue ≡ inputs_in ds queue
unfolding inputs_in
inputs_same cs ds h queue = fun_ext (λ c. ap (λ (o : Option ℕ). option_map (λ input. to.Core c input) o) (input_same (slice_get cs c) (slice_get ds c) (get_same cs ds h c) queue))

core_input_same : (cs ds : List NetCore) → AreAlike cs ds → (name queue : List ℕ) → core_input cs name queue ≡ core_input ds name queue
unfolding inputs_in
core_input_same cs ds h name queue =
    ap (λ (f : ℕ → Option ToEnd). option_and_then f (core_number cs name)) (inputs_same cs ds h queue)
    ∙ ap (λ (n : Option ℕ). option_and_then (inputs_in ds queue) n) (number_same cs ds h name)

from_parts_same : (cs ds : List NetCore) → AreAlike cs ds → (plan : NetPlan) (text : List ℕ) (parts : Option (List ℕ × List ℕ)) → from_parts cs plan text parts ≡ from_parts ds plan text parts
from_parts_same cs ds h plan text None = refl
from_parts_same cs ds h plan text (Some parts) = core_output_same cs ds h parts.0 parts.1

to_parts_same : (cs ds : List NetCore) → AreAlike cs ds → (plan : NetPlan) (text : List ℕ) (parts : Option (List ℕ × List ℕ)) → to_parts cs plan text parts ≡ to_parts ds plan text parts
to_parts_same cs ds h plan text None = refl
to_parts_same cs ds h plan text (Some parts) = core_input_same cs ds h parts.0 parts.1

from_same : (cs ds : List NetCore) → AreAlike cs ds → (plan : NetPlan) (text : List ℕ) → from_end cs plan text ≡ from_end ds plan text
from_same cs ds h plan text = from_parts_same cs ds h plan text (cut text)

to_same : (cs ds : List NetCore) → AreAlike cs ds → (plan : NetPlan) (text : List ℕ) → to_end cs plan text ≡ to_end ds plan text
to_same cs ds h plan text = to_parts_same cs ds h plan text (cut text)

-- ---- widths

input_bits_same : (c d : Option NetCore) → MayBeAlike c d → (i : ℕ) → input_bits c i ≡ input_bits d i
input_bits_same None None h i = refl
input_bits_same None (Some d) h i = absurd h
input_bits_same (Some c) None h i = absurd h
input_bits_same (Some c) (Some d) h i = ap (λ (qs : List QueueDecl). queue_width (slice_get qs i)) h.ins

output_bits_same : (c d : Option NetCore) → MayBeAlike c d → (o : ℕ) → output_bits c o ≡ output_bits d o
output_bits_same None None h o = refl
output_bits_same None (Some d) h o = absurd h
output_bits_same (Some c) None h o = absurd h
output_bits_same (Some c) (Some d) h o = ap (λ (qs : List QueueDecl). queue_width (slice_get qs o)) h.outs

width_same : (cs ds : List NetCore) → AreAlike cs ds → (f : FromEnd) (t : ToEnd) → same_width cs f t ≡ same_width ds f t
width_same cs ds h (from.Core c o) (to.Core d i) =
    ap (λ bits. bits == input_bits (slice_get cs d) i) (output_bits_same (slice_get cs c) (slice_get ds c) (get_same cs ds h c) o)
    ∙ ap (λ bits. output_bits (slice_get ds c) o == bits) (input_bits_same (slice_get cs d) (slice_get ds d) (get_same cs ds h d) i)
width_same cs ds h (from.Core c o) (to.Collector k) = refl
width_same cs ds h (from.Source s) (to.Core d i) = refl
width_same cs ds h (from.Source s) (to.Collector k) = refl

widths_same : (cs ds : List NetCore) → AreAlike cs ds → same_width cs ≡ same_width ds
widths_same cs ds h = fun_ext (λ f. fun_ext (λ t. width_same cs ds h f t))

-- ---- the queues in order

queue_by : Option FromEnd → Option ToEnd → (FromEnd → ToEnd → Bool) → List NetQueue → PlanQueue → Result NetQueue Broken
queue_by from_there to_there is_wide before q = do
  let place = place_of (codes "queue") (length before)
  from ← ok_or from_there (End, place ++ codes ".from")
  new ← check Twice (place ++ codes ".from") (not (list_any (λ (b : NetQueue). same_from from b.from) before))
  to ← ok_or to_there (End, place ++ codes ".to")
  joined ← check End (place ++ codes ".to") (joins from to)
  new ← check Twice (place ++ codes ".to") (not (list_any (λ (b : NetQueue). same_to to b.to) before))
  wide ← check Width place (is_wide from to)
  Ok (record { name = q.name; capacity = q.capacity; from = from; to = to })

queue_same : (cs ds : List NetCore) → AreAlike cs ds → (plan : NetPlan) (before : List NetQueue) (q : PlanQueue) → queue_of cs plan before q ≡ queue_of ds plan before q
unfolding queue_of queue_by
queue_same cs ds h plan before q =
    ap (λ (o : Option FromEnd). queue_by o (to_end cs plan q.to) (same_width cs) before q) (from_same cs ds h plan q.from)
    ∙ ap (λ (o : Option ToEnd). queue_by (from_end ds plan q.from) o (same_width cs) before q) (to_same cs ds h plan q.to)
    ∙ ap (λ (f : FromEnd → ToEnd → Bool). queue_by (from_end ds plan q.from) (to_end ds plan q.to) f before q) (widths_same cs ds h)

queues_same : (cs ds : List NetCore) → AreAlike cs ds → (plan : NetPlan) → queue_of cs plan ≡ queue_of ds plan
queues_same cs ds h plan = fun_ext (λ before. fun_ext (λ q. queue_same cs ds h plan before q))

-- ---- each end of a worker has a queue

core_wired_by : List NetQueue → ℕ → List QueueDecl → List QueueDecl → Result (Unit {0}) Broken
core_wired_by queues c ins outs = do
  wired ← each_number (input_wired queues c) 0 ins
  each_number (output_wired queues c) 0 outs

core_wired_same : (queues : List NetQueue) (i : ℕ) (c d : NetCore) → IsAlike c d → core_wired queues i c ≡ core_wired queues i d
unfolding core_wired_by
core_wired_same queues i c d h =
    ap (λ (qs : List QueueDecl). core_wired_by queues i qs c.kit.desc.outs) h.ins
    ∙ ap (λ (qs : List QueueDecl). core_wired_by queues i d.kit.desc.ins qs) h.outs

cores_wired_same : (queues : List NetQueue) (i : ℕ) (cs ds : List NetCore) → AreAlike cs ds → each_number (core_wired queues) i cs ≡ each_number (core_wired queues) i ds
cores_wired_same queues i [] [] h = refl
cores_wired_same queues i [] (d ∷ ds) h = absurd h
cores_wired_same queues i (c ∷ cs) [] h = absurd h
cores_wired_same queues i (c ∷ cs) (d ∷ ds) h =
    ap (λ (r : Result (Unit {0}) Broken). r >>= (λ this. each_number (core_wired queues) (i + 1) cs)) (core_wired_same queues i c d h.0)
    ∙ ap (λ (r : Result (Unit {0}) Broken). core_wired queues i d >>= (λ this. r)) (cores_wired_same queues (i + 1) cs ds h.1)

wired_by : Result (Unit {0}) Broken → NetPlan → List NetQueue → Result (Unit {0}) Broken
wired_by ports plan queues = do
  cores ← ports
  sources ← each_number (source_wired queues) 0 plan.sources
  each_number (collector_wired queues) 0 plan.collectors

wired_same : (cs ds : List NetCore) → AreAlike cs ds → (plan : NetPlan) → all_wired cs plan ≡ all_wired ds plan
unfolding all_wired wired_by
wired_same cs ds h plan = fun_ext (λ queues. ap (λ (r : Result (Unit {0}) Broken). wired_by r plan queues) (cores_wired_same queues 0 cs ds h))

-- ---- the whole

wiring_by : (List NetQueue → PlanQueue → Result NetQueue Broken) → (List NetQueue → Result (Unit {0}) Broken) → List PlanQueue → Result (List NetQueue) Broken
wiring_by queue is_wired qs = do
  queues ← each queue [] qs
  wired ← is_wired queues
  Ok queues

pub wiring_same : (cs ds : List NetCore) → AreAlike cs ds → (plan : NetPlan) → wiring cs plan ≡ wiring ds plan
unfolding wiring wiring_by
wiring_same cs ds h plan =
    ap (λ (f : List NetQueue → PlanQueue → Result NetQueue Broken). wiring_by f (all_wired cs plan) plan.queues) (queues_same cs ds h plan)
    ∙ ap (λ (f : List NetQueue → Result (Unit {0}) Broken). wiring_by (queue_of ds plan) f plan.queues) (wired_same cs ds h plan)

-- ---- the items of a source

to_bits_same : (a b : Net) → AreAlike a.cores.items b.cores.items → (t : ToEnd) → item.to_bits a t ≡ item.to_bits b t
to_bits_same a b h (to.Core c i) = input_bits_same (slice_get a.cores.items c) (slice_get b.cores.items c) (get_same a.cores.items b.cores.items h c) i
to_bits_same a b h (to.Collector k) = refl

queue_bits_same : (a b : Net) → AreAlike a.cores.items b.cores.items → (q : Option NetQueue) → item.queue_bits a q ≡ item.queue_bits b q
queue_bits_same a b h None = refl
queue_bits_same a b h (Some q) = to_bits_same a b h q.to

item_bits_same : (a b : Net) → AreAlike a.cores.items b.cores.items → a.queues.items ≡ b.queues.items → (i : ℕ) → item.item_bits a i ≡ item.item_bits b i
item_bits_same a b h same i =
    queue_bits_same a b h (item.source_queue a i)
    ∙ ap (λ (qs : List NetQueue). item.queue_bits b (find (λ (q : NetQueue). is_source i q.from) qs)) same

items_by : ℕ → ℕ → List ℕ → Result (List ℕ) Broken
items_by bits i text = do
  bytes ← hex_in (items_key i) text
  ok_or (item.items_in bits bytes) (Item, place_of (codes "source") i ++ codes ".items")

pub items_same : (a b : Net) → AreAlike a.cores.items b.cores.items → a.queues.items ≡ b.queues.items → (i : ℕ) (text : List ℕ) → items_in a i text ≡ items_in b i text
unfolding items_in items_by
items_same a b h same i text = ap (λ bits. items_by bits i text) (item_bits_same a b h same i)
