use Rattle.std.proofs.Common.{length, ◌≡◌, ℕ, drop, Option, Some}
use Rattle.std.specs.Prelude.{slice_get}
use Rattle.tie_desc.specs.Fetching.{Shows}
use Rattle.tie_desc.specs.declared.bundle.Fetched.{Fetched}
use Rattle.tie_flix.proofs.images.image.Given as goal

abbrev pub invariant-loop-place : goal.invariant-loop-place
invariant-loop-place l = record {
  long : length l.at ≡ l.place;
  each : (k : ℕ) (o : Option Fetched) → slice_get l.at k ≡ Some o → Shows l.desc (drop k l.text) o;
}
