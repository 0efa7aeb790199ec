-- A network whose source was given items.
use Rattle.std.proofs.Common.{◌≡◌, ℕ, zero, suc, ◌^◌, ◌<◌, ◌≤◌, Bool, true, false, cond, ◌==◌, List, [], ◌∷◌, length, map, set, Vec, Global, Option, Some, None, All, count_by, slice_get, slice_index_or, ◌%◌, ◌&&◌, refl, subst, sym, ◌∙◌, ap, arith, length-set}
use Rattle.std.specs.List.{list_all}
use Rattle.std.proofs.lemmas.Bool.{and_parts}
use Rattle.std.proofs.lemmas.Bool.Decides.{nat_tests}
use Rattle.std.proofs.lemmas.List.Elements.{All-nil, All-cons, All-same, All-set}
use Rattle.net_toml.specs.net_parts.declared.parts.Net.{Net}
use Rattle.net_toml.specs.net_parts.declared.parts.NetSource.{NetSource}
use Rattle.net_toml.specs.net_parts.declared.parts.NetQueue.{NetQueue}
use Rattle.net_toml.specs.net_parts.declared.parts.FromEnd.{FromEnd}
use Rattle.net_toml.specs.net_parts.declared.parts.FromEnd.TheVariants as from
use Rattle.net_toml.specs.net_parts.declared.parts.ToEnd.{ToEnd}
use Rattle.net_toml.specs.net_parts.declared.parts.ToEnd.TheVariants as to
use Rattle.net_toml.specs.net_parts.Ends.{is_source, input_bits, HasFrom}
use Rattle.net_toml.specs.net_parts.Network.{IsNet, ItemsFit, items_of}
use Rattle.net_desc.specs.Items.{source_queue, to_bits, queue_bits, item_bits, items_in, SameBut, bytes_of_width, numbers_in, fits_bits, is_width}
use Rattle.net_desc.proofs.Counting.{find-only, count_by-not_found}

-- ---- a list with one element set

pub get_set-same : {A : Type 0} (xs : List A) (s : ℕ) (x : A) → s < length xs → slice_get (set xs s x) s ≡ Some x
get_set-same [] s x h = absurd (omega (arith, h))
get_set-same (y ∷ ys) zero x h = refl
get_set-same (y ∷ ys) (suc s) x h = get_set-same ys s x (omega (arith, h))

pub get_set-other : {A : Type 0} (xs : List A) (s k : ℕ) (x : A) → (k ≡ s → ⊥) → slice_get (set xs s x) k ≡ slice_get xs k
get_set-other [] s k x h = refl
get_set-other (y ∷ ys) zero zero x h = absurd (h refl)
get_set-other (y ∷ ys) zero (suc k) x h = refl
get_set-other (y ∷ ys) (suc s) zero x h = refl
get_set-other (y ∷ ys) (suc s) (suc k) x h = get_set-other ys s k x (λ e. h (ap suc e))

pub names_set : (xs : List NetSource) (s : ℕ) (x old : NetSource) → slice_get xs s ≡ Some old → x.name ≡ old.name → map (λ (y : NetSource). y.name) (set xs s x) ≡ map (λ (y : NetSource). y.name) xs
names_set [] s x old stands e = refl
names_set (y ∷ ys) zero x old stands e = let same : y ≡ old = cc in let name : x.name ≡ y.name = e ∙ ap (λ (z : NetSource). z.name) (sym same) in ap (λ n. n ∷ map (λ (z : NetSource). z.name) ys) name
names_set (y ∷ ys) (suc s) x old stands e = ap (λ ns. y.name ∷ ns) (names_set ys s x old stands e)

-- ---- items that were read fit

all_fit : (bits : ℕ) (vs : List ℕ) → list_all (fits_bits bits) vs ≡ true → All (λ v. v < 2 ^ bits) vs
all_fit bits [] h = All-nil (λ (v : ℕ). v < 2 ^ bits)
all_fit bits (v ∷ vs) h =
    let (first, rest) = and_parts (fits_bits bits v) (list_all (fits_bits bits) vs) h in
    All-cons (λ (v : ℕ). v < 2 ^ bits) v vs (grind (arith, nat_tests)) (all_fit bits vs rest)

read_fit : (b : Bool) (vs items : List ℕ) (bits : ℕ) → (b ≡ true → list_all (fits_bits bits) vs ≡ true) → cond b (Some vs) None ≡ Some items → All (λ v. v < 2 ^ bits) items
read_fit true vs items bits h e = let same : items ≡ vs = cc in All-same (λ (v : ℕ). v < 2 ^ bits) items vs same (all_fit bits vs (h refl))
read_fit false vs items bits h e = absurd cc

pub items_in-fit : (bits : ℕ) (bytes items : List ℕ) → items_in bits bytes ≡ Some items → All (λ v. v < 2 ^ bits) items
items_in-fit bits bytes items e =
    let whole = length bytes % bytes_of_width bits == 0 in
    let fit = list_all (fits_bits bits) (numbers_in (bytes_of_width bits) bytes) in
    read_fit (is_width bits && (whole && fit)) (numbers_in (bytes_of_width bits) bytes) items bits
    (λ h. (and_parts whole fit (and_parts (is_width bits) (whole && fit) h).1).1) e

-- ---- the queue of the source

bits_found : (net : Net) (s : ℕ) (q : Option NetQueue) → source_queue net s ≡ q → count_by (λ (x : NetQueue). is_source s x.from) net.queues.items ≡ 1
    → All (λ (x : NetQueue). is_source s x.from ≡ true → to_bits net x.to ≡ item_bits net s) net.queues.items
bits_found net s (Some q) is one = find-only (λ (x : NetQueue). is_source s x.from) (λ (x : NetQueue). to_bits net x.to ≡ item_bits net s) q (sym (ap (queue_bits net) is)) net.queues.items one is
bits_found net s None is one = absurd (none_found (count_by-not_found (λ (x : NetQueue). is_source s x.from) net.queues.items is) one)
  where
    none_found : count_by (λ (x : NetQueue). is_source s x.from) net.queues.items ≡ 0 → count_by (λ (x : NetQueue). is_source s x.from) net.queues.items ≡ 1 → ⊥
    none_found none one = omega arith

-- ---- the whole

abbrev HasFew : NetSource → Type 0
HasFew s = length s.items.items ≤ 1048576

module _ (old : Net) (sources : Vec NetSource Global) (s : ℕ) (x : NetSource) (set_there : sources.items ≡ set old.sources.items s x) (below : s < length old.sources.items) where
  abbrev given : Net
  given = record old { sources = sources }

  count : length sources.items ≡ length old.sources.items
  count = ap length set_there ∙ length-set old.sources.items s x

  pub set_has : items_of (slice_get sources.items s) ≡ x.items.items
  set_has = ap (λ (l : List NetSource). items_of (slice_get l s)) set_there ∙ ap items_of (get_set-same old.sources.items s x below)

  kept_at : (k : ℕ) → (k ≡ s → ⊥) → items_of (slice_get sources.items k) ≡ items_of (slice_get old.sources.items k)
  kept_at k other = ap (λ (l : List NetSource). items_of (slice_get l k)) set_there ∙ ap items_of (get_set-other old.sources.items s k x other)

  fits_given : All (λ v. v < 2 ^ item_bits old s) x.items.items → (a : FromEnd) (b : ToEnd) → (is_source s a ≡ true → to_bits old b ≡ item_bits old s) → ItemsFit old a b → ItemsFit given a b
  fits_given fit (from.Core c o) b bits was = tt
  fits_given fit (from.Source t) (to.Collector k) bits was = tt
  fits_given fit (from.Source t) (to.Core c i) bits was = by_source (t == s) refl
    where
      by_source : (b : Bool) → (t == s) ≡ b → All (λ v. v < 2 ^ input_bits (slice_get old.cores.items c) i) (items_of (slice_get sources.items t))
      by_source true e =
          let same : t ≡ s = grind (arith, nat_tests) in
          let here : items_of (slice_get sources.items t) ≡ x.items.items = ap (λ (k : ℕ). items_of (slice_get sources.items k)) same ∙ set_has in
          All-same (λ (v : ℕ). v < 2 ^ input_bits (slice_get old.cores.items c) i) (items_of (slice_get sources.items t)) x.items.items here
          (subst (λ (n : ℕ). All (λ (v : ℕ). v < 2 ^ n) x.items.items) (sym (bits e)) fit)
      by_source false e =
          let other : t ≡ s → ⊥ = λ same. grind (arith, nat_tests) in
          let here : items_of (slice_get sources.items t) ≡ items_of (slice_get old.sources.items t) = kept_at t other in
          All-same (λ (v : ℕ). v < 2 ^ input_bits (slice_get old.cores.items c) i) (items_of (slice_get sources.items t)) (items_of (slice_get old.sources.items t)) here was

  from_given : (a : FromEnd) → HasFrom old a → HasFrom given a
  from_given (from.Core c o) h = h
  from_given (from.Source t) h = let same = count in omega arith

  pub set_kept : IsNet old → All (λ v. v < 2 ^ item_bits old s) x.items.items → length x.items.items ≤ 1048576 → IsNet given
  set_kept n fit few =
      let bits = bits_found old s (source_queue old s) refl (n.wired.sources s below) in
      record {
        kill = n.kill;
        counts = record { some_core = n.counts.some_core; cores = n.counts.cores; workers = let same = count in let few = n.counts.workers in omega arith; queues = n.counts.queues };
        cores = n.cores;
        collectors = n.collectors;
        queues = n.queues;
        few_items = All-same HasFew sources.items (set old.sources.items s x) set_there (All-set HasFew old.sources.items s x few n.few_items);
        froms = λ k d h. from_given (slice_index_or old.queues.items k d).from (n.froms k d h);
        tos = n.tos;
        between = n.between;
        wired = record { outputs = n.wired.outputs; inputs = n.wired.inputs; sources = λ t h. let same = count in n.wired.sources t (omega arith); collectors = n.wired.collectors };
        items_fit = λ k d h. fits_given fit (slice_index_or old.queues.items k d).from (slice_index_or old.queues.items k d).to (bits k d h) (n.items_fit k d h);
      }

  -- nothing else changes
  pub set_same : (y : NetSource) → slice_get old.sources.items s ≡ Some y → x.name ≡ y.name → SameBut s old given
  set_same y stands e = record {
    kill = refl;
    cores = refl;
    collectors = refl;
    queues = refl;
    names = ap (map (λ (z : NetSource). z.name)) set_there ∙ names_set old.sources.items s x y stands e;
    others = kept_at;
  }
