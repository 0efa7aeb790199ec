-- Processors with their kits, one after the other.
use Rattle.std.proofs.Common.{◌≡◌, ℕ, ◌<◌, List, [], ◌∷◌, ◌++◌, length, get_or, Some, refl, sym, ◌∙◌, ap}
use Rattle.std.proofs.lemmas.Option.{slice_get-get_or}
use Rattle.std.specs.Prelude.{slice_get}
use Rattle.net_toml.specs.declared.plan.PlanCore.{PlanCore}
use Rattle.net_desc.specs.Workers.{Loaded, core_with, cores_with}

pub cores_with-none : (ps : List PlanCore) → cores_with ps [] ≡ []
cores_with-none [] = refl
cores_with-none (p ∷ ps) = refl

cores_with-next : (ps : List PlanCore) (ks : List Loaded) (k : Loaded) (p : PlanCore) → slice_get ps (length ks) ≡ Some p
    → cores_with ps (ks ++ k ∷ []) ≡ cores_with ps ks ++ core_with p k ∷ []
cores_with-next [] ks k p stands = absurd cc
cores_with-next (q ∷ ps) [] k p stands =
    let same : q ≡ p = cc in
    ap (λ xs. core_with q k ∷ xs) (cores_with-none ps) ∙ ap (λ x. core_with x k ∷ []) same
cores_with-next (q ∷ ps) (j ∷ ks) k p stands = ap (λ xs. core_with q j ∷ xs) (cores_with-next ps ks k p stands)

-- one more kit
pub cores_with-push : (ps : List PlanCore) (ks : List Loaded) (k : Loaded) (d : PlanCore) (n : ℕ) → n ≡ length ks → n < length ps
    → cores_with ps (ks ++ k ∷ []) ≡ cores_with ps ks ++ core_with (get_or ps n d) k ∷ []
cores_with-push ps ks k d n same below =
    cores_with-next ps ks k (get_or ps n d) (ap (slice_get ps) (sym same) ∙ slice_get-get_or ps n d below)
