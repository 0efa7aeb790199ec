-- No bytes have two listings.
use Rattle.std.proofs.Common.{◌≡◌, ℕ, ◌+◌, List, [], ◌∷◌, ◌++◌, length, drop, refl, sym, ap, subst, ◌∙◌, arith}
use Rattle.tie_desc.specs.Description.{Description}
use Rattle.tie_desc.specs.Invariant.{IsDescription}
use Rattle.tie_desc.specs.Spelling.{spell}
use Rattle.tie_desc.specs.declared.bundle.Bundle.{Bundle}
use Rattle.tie_desc.specs.declared.bundle.Fetched.{Fetched}
use Rattle.tie_desc.specs.Fetching.{IsFetched, BeginsNone}
use Rattle.tie_flix.proofs.Refetched.{one_bundle}
use Rattle.xt_dis.specs.Listing.{Lists, end, whole, single, line, bundle_text, byte_text}
use Rattle.xt_dis.proofs.Sizes.{size_some}

abbrev fetched : Bundle → ℕ → Fetched
fetched b n = record { bundle = b; length = n }

module _ (d : Description) (is_d : IsDescription d) where
  -- bytes begin with one bundle
  same_fetched : (bytes : List ℕ) (f g : Fetched) → IsFetched d bytes f → IsFetched d bytes g → f ≡ g
  same_fetched bytes f g p q =
      let e = one_bundle d f.bundle g.bundle p.begins.0 q.begins.0 is_d p.has q.has (sym p.begins.1 ∙ q.begins.1) in
      let n : f.length ≡ g.length = p.length_is ∙ ap (λ b. length (spell d b)) e ∙ sym q.length_is in
      ap (λ b. fetched b f.length) e ∙ ap (λ k. fetched g.bundle k) n

  -- what stands behind the line of a bundle
  record AfterWhole (at : ℕ) (bytes text : List ℕ) (f : Fetched) : Type 0 where
    others : List ℕ
    is : text ≡ line (bundle_text d at f.bundle) ++ others
    lists : Lists d (at + f.length) (drop f.length bytes) others

  record AfterSingle (at b : ℕ) (bytes text : List ℕ) : Type 0 where
    others : List ℕ
    is : text ≡ line (byte_text b) ++ others
    lists : Lists d (at + 1) bytes others

  behind_none : (at : ℕ) (bytes text : List ℕ) → bytes ≡ [] → Lists d at bytes text → text ≡ []
  behind_none at bytes text e (end _) = refl
  behind_none at bytes text e (whole _ _ f others is l) = let s = size_some d bytes f is in absurd (omega (arith, s.0, s.1, ap length e))
  behind_none at bytes text e (single _ b rest others none l) = absurd cc

  behind_whole : (at : ℕ) (bytes text : List ℕ) (f : Fetched) → IsFetched d bytes f → Lists d at bytes text → AfterWhole at bytes text f
  behind_whole at bytes text f is (end _) = let s = size_some d [] f is in absurd (omega (arith, s.0, s.1))
  behind_whole at bytes text f is (whole _ _ g others ig l) =
      let e = same_fetched bytes g f ig is in
      subst (λ x. AfterWhole at bytes (line (bundle_text d at g.bundle) ++ others) x) e (record { others = others; is = refl; lists = l })
  behind_whole at bytes text f is (single _ b rest others none l) = absurd (none f.bundle is.has is.begins)

  behind_single : (at b : ℕ) (rest bytes text : List ℕ) → bytes ≡ b ∷ rest → BeginsNone d (b ∷ rest) → Lists d at bytes text → AfterSingle at b rest text
  behind_single at b rest bytes text e none (end _) = absurd cc
  behind_single at b rest bytes text e none (whole _ _ f others is l) = absurd (none f.bundle is.has (is.begins.0, sym e ∙ is.begins.1))
  behind_single at b rest bytes text e none (single _ c more others none' l) =
      let front : c ≡ b = cc in
      let back : more ≡ rest = cc in
      record { others = others; is = ap (λ x. line (byte_text x) ++ others) front; lists = subst (λ z. Lists d (at + 1) z others) back l }

  pub same_listing : (at : ℕ) (bytes a b : List ℕ) → Lists d at bytes a → Lists d at bytes b → a ≡ b
  same_listing at bytes a b (end _) m = sym (behind_none at [] b refl m)
  same_listing at bytes a b (whole _ _ f others is l) m =
      let r = behind_whole at bytes b f is m in
      ap (λ z. line (bundle_text d at f.bundle) ++ z) (same_listing (at + f.length) (drop f.length bytes) others r.others l r.lists) ∙ sym r.is
  same_listing at bytes a b (single _ x rest others none l) m =
      let r = behind_single at x rest (x ∷ rest) b refl none m in
      ap (λ z. line (byte_text x) ++ z) (same_listing (at + 1) rest others r.others l r.lists) ∙ sym r.is
