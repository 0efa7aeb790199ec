-- No bundle is empty or longer than what it begins.
use Rattle.std.proofs.Common.{ℕ, ◌<◌, ◌≤◌, Bool, true, false, cond, List, length, Option, Some, None, ap, arith, length-append}
use Rattle.std.specs.Prelude.{slice_get, ◌==◌}
use Rattle.tie_desc.specs.Description.{Description}
use Rattle.tie_desc.specs.declared.formats.FormatDecl.{FormatDecl}
use Rattle.tie_desc.specs.declared.bundle.Part.{Part}
use Rattle.tie_desc.specs.declared.bundle.Bundle.{Bundle}
use Rattle.tie_desc.specs.declared.bundle.Bundle.TheVariants as bundle
use Rattle.tie_desc.specs.declared.bundle.Fetched.{Fetched}
use Rattle.tie_desc.specs.Spelling.{spell, wide_bytes, HasSpelling, HasWide}
use Rattle.tie_desc.specs.Fetching.{IsFetched}

wide_some : (d : Description) (o : Option FormatDecl) (ps : List Part) → HasWide d o ps → 0 < length (wide_bytes d o ps)
wide_some d None ps h = absurd h
wide_some d (Some f) ps h = either (λ z. 0 < length z) (f.width == 64) _ _ (omega arith) (omega arith)
  where
    either : (P : List ℕ → Type 0) (b : Bool) (x y : List ℕ) → P x → P y → P (cond b x y)
    either P true x y p q = p
    either P false x y p q = q

spell_some : (d : Description) (b : Bundle) → HasSpelling d b → 0 < length (spell d b)
spell_some d (bundle.Core i) h = omega arith
spell_some d (bundle.One p) h = omega arith
spell_some d (bundle.Wide f ps) h = wide_some d (slice_get d.formats f) ps.items h.1

pub size_some : (d : Description) (bytes : List ℕ) (f : Fetched) → IsFetched d bytes f → (0 < f.length) × (f.length ≤ length bytes)
size_some d bytes f is =
    let some = spell_some d f.bundle is.has in
    (omega (arith, some, is.length_is), omega (arith, is.length_is, ap length is.begins.1, length-append (spell d f.bundle) is.begins.0))
