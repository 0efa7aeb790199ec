use Rattle.std.proofs.Common.{◌≡◌, ℕ, List, Option, Some, None, sym, ap, ◌∙◌, arith, IfSome}
use Rattle.tie_desc.specs.Description.{Description}
use Rattle.tie_desc.specs.Invariant.{IsDescription}
use Rattle.tie_desc.specs.Fetching.{IsFetched}
use Rattle.tie_desc.specs.declared.bundle.Fetched.{Fetched}
use Rattle.tie_flix.specs.Reading.{fetch}
use Rattle.tie_flix.proofs.Fetched.{fetched, AreBytes}
use Rattle.tie_flix.proofs.Refetched.{again}
use Rattle.tie_flix.proofs.decode.decode_bundle.Goals as goal

by : (d : Description) (bytes : List ℕ) (o : Option Fetched) → IsDescription d → AreBytes bytes → o ≡ fetch d bytes → IfSome o (IsFetched d bytes)
by d bytes None is small e = tt
by d bytes (Some f) is small e = fetched d bytes f is small (sym e)

pub returns-clause-found : goal.returns-clause-found
returns-clause-found c = by c.args.desc.now c.args.bytes.now c.fetch.result c.facts.ensures (λ i. omega (arith, c.type_inv.bytes i)) c.fetch.ensures

pub returns-clause-only : goal.returns-clause-only
returns-clause-only c = λ b rest has is. c.fetch.ensures ∙ ap (fetch c.args.desc.now) is ∙ again c.args.desc.now b rest c.facts.ensures has
