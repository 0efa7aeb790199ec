-- Sources without items.
use Rattle.std.proofs.Common.{◌≡◌, ℕ, zero, suc, ◌<◌, ◌≤◌, ◌^◌, List, [], ◌∷◌, length, map, All, slice_get, slice_index_or, refl, ap, arith}
use Rattle.std.proofs.lemmas.List.Elements.{All-nil, All-cons, All-head, All-tail, All-same}
use Rattle.net_toml.specs.net_parts.declared.parts.Net.{Net}
use Rattle.net_toml.specs.net_parts.declared.parts.NetSource.{NetSource}
use Rattle.net_toml.specs.net_parts.declared.parts.FromEnd.{FromEnd}
use Rattle.net_toml.specs.net_parts.declared.parts.FromEnd.TheVariants as from
use Rattle.net_toml.specs.net_parts.declared.parts.ToEnd.{ToEnd}
use Rattle.net_toml.specs.net_parts.declared.parts.ToEnd.TheVariants as to
use Rattle.net_toml.specs.net_parts.Ends.{input_bits}
use Rattle.net_toml.specs.net_parts.Network.{ItemsFit, items_of}
use Rattle.net_desc.specs.Workers.{source_parts}

abbrev pub HasNone : NetSource → Type 0
HasNone s = s.items.items ≡ []

module _ {A : Type 0} (name : A → List ℕ) where
  -- there are as many
  pub sources_count : (xs : List NetSource) (ys : List A) → map source_parts xs ≡ map (λ y. (name y, [])) ys → length xs ≡ length ys
  sources_count [] [] e = refl
  sources_count [] (y ∷ ys) e = absurd cc
  sources_count (x ∷ xs) [] e = absurd cc
  sources_count (x ∷ xs) (y ∷ ys) e =
      let rest : map source_parts xs ≡ map (λ y. (name y, [])) ys = cc in
      let n : length xs ≡ length ys = sources_count xs ys rest in
      omega (arith, n)

  pub no_items : (xs : List NetSource) (ys : List A) → map source_parts xs ≡ map (λ y. (name y, [])) ys → All HasNone xs
  no_items [] ys e = All-nil HasNone
  no_items (x ∷ xs) [] e = absurd cc
  no_items (x ∷ xs) (y ∷ ys) e =
      let first : source_parts x ≡ (name y, []) = cc in
      let rest : map source_parts xs ≡ map (λ y. (name y, [])) ys = cc in
      All-cons HasNone x xs (ap (λ (p : List ℕ × List ℕ). p.1) first) (no_items xs ys rest)

items_none : (xs : List NetSource) (s : ℕ) → All HasNone xs → items_of (slice_get xs s) ≡ []
items_none [] s h = refl
items_none (x ∷ xs) zero h = All-head HasNone x xs h
items_none (x ∷ xs) (suc s) h = items_none xs s (All-tail HasNone x xs h)

abbrev fits : Net → ℕ → ℕ → ℕ → Type 0
fits net c i v = v < 2 ^ input_bits (slice_get net.cores.items c) i

pub fits_none : (net : Net) → All HasNone net.sources.items → (a : FromEnd) (b : ToEnd) → ItemsFit net a b
fits_none net h (from.Source s) (to.Core c i) =
    All-same (fits net c i) (items_of (slice_get net.sources.items s)) [] (items_none net.sources.items s h) (All-nil (fits net c i))
fits_none net h (from.Source s) (to.Collector k) = tt
fits_none net h (from.Core c o) b = tt

none_few : (items : List ℕ) → items ≡ [] → length items ≤ 1048576
none_few items e = let nothing : length items ≡ 0 = ap length e in omega arith

pub few_none : (xs : List NetSource) → All HasNone xs → All (λ (x : NetSource). length x.items.items ≤ 1048576) xs
few_none xs h = λ k d below. none_few (slice_index_or xs k d).items.items (h k d below)
