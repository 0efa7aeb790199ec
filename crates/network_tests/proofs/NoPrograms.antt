-- Kits without programs.
use Rattle.std.proofs.Common.{◌≡◌, ℕ, ◌≤◌, List, [], ◌∷◌, length, Option, Some, None, All, slice_get, sym, ◌∙◌, ap, arith}
use Rattle.std.specs.List.{zip}
use Rattle.std.proofs.lemmas.List.Elements.{All-nil, All-cons, All-head, All-tail}
use Rattle.tie_desc.specs.Fetching.{IsImage}
use Rattle.tie_desc.specs.declared.bundle.Fetched.{Fetched}
use Rattle.net_load.specs.net_toml.declared.plan.PlanCore.{PlanCore}
use Rattle.net_load.specs.net_desc.Workers.{Loaded, IsKitOf, AreKitsOf}

abbrev pub IsEmpty : Loaded → Type 0
IsEmpty k = (k.1.items ≡ []) × (k.0.image.at ≡ [])

abbrev IsPair : PlanCore × Loaded → Type 0
IsPair x = IsKitOf x.0 x.1

short : (m : ℕ) (bytes : List ℕ) → bytes ≡ [] → length bytes ≤ m
short m bytes e = let none : length bytes ≡ 0 = ap length e in omega arith

pub no_image : (k : Loaded) → IsEmpty k → IsImage k.0.desc k.1.items k.0.image.at
no_image k e = record {
  long = ap length e.1 ∙ sym (ap length e.0);
  each = λ i o stands. let none : None ≡ Some o = ap (λ (l : List (Option Fetched)). slice_get l i) (sym e.1) ∙ stands in absurd cc;
}

no_program : (p : PlanCore) (k : Loaded) → IsEmpty k → IsKitOf p k
no_program p k e = record { short_text = short 65536 k.1.items e.0; text_fits = short p.memory k.1.items e.0; image = no_image k e }

each_kit : (ps : List PlanCore) (ks : List Loaded) → All IsEmpty ks → All IsPair (zip ps ks)
each_kit [] ks h = All-nil IsPair
each_kit (p ∷ ps) [] h = All-nil IsPair
each_kit (p ∷ ps) (k ∷ ks) h = All-cons IsPair (p, k) (zip ps ks) (no_program p k (All-head IsEmpty k ks h)) (each_kit ps ks (All-tail IsEmpty k ks h))

-- a kit without a program for each processor
pub kits_without_programs : (ps : List PlanCore) (ks : List Loaded) → length ks ≡ length ps → All IsEmpty ks → AreKitsOf ps ks
kits_without_programs ps ks n h = record { count = n; each = each_kit ps ks h }
