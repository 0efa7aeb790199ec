-- One more line of a listing.
use Rattle.std.proofs.Common.{◌≡◌, ℕ, ◌+◌, ◌<◌, List, ◌∷◌, ◌++◌, length, drop, get_or, sym, ap, subst, ◌∙◌, append_assoc}
use Rattle.std.proofs.lemmas.List.{drop-drop, drop_more}
use Rattle.tie_desc.specs.Description.{Description}
use Rattle.tie_desc.specs.declared.bundle.Fetched.{Fetched}
use Rattle.tie_desc.specs.Fetching.{IsFetched, BeginsNone}
use Rattle.xt_dis.specs.Listing.{Lists, whole, single, line, bundle_text, byte_text}

module _ (d : Description) (bytes : List ℕ) (at : ℕ) (text : List ℕ) (kept : (others : List ℕ) → Lists d at (drop at bytes) others → Lists d 0 bytes (text ++ others)) where
  pub after_whole : (f : Fetched) → IsFetched d (drop at bytes) f → (others : List ℕ) → Lists d (at + f.length) (drop (at + f.length) bytes) others
      → Lists d 0 bytes ((text ++ line (bundle_text d at f.bundle)) ++ others)
  after_whole f is others l =
      let rest : Lists d (at + f.length) (drop f.length (drop at bytes)) others = subst (λ z. Lists d (at + f.length) z others) (sym (drop-drop f.length at bytes)) l in
      subst (Lists d 0 bytes) (sym (append_assoc text (line (bundle_text d at f.bundle)) others))
      (kept (line (bundle_text d at f.bundle) ++ others) (whole at (drop at bytes) f others is rest))

  pub after_single : (b : ℕ) → at < length bytes → b ≡ get_or bytes at 0 → BeginsNone d (drop at bytes) → (others : List ℕ) → Lists d (at + 1) (drop (at + 1) bytes) others
      → Lists d 0 bytes ((text ++ line (byte_text b)) ++ others)
  after_single b lt is none others l =
      let cut : drop at bytes ≡ b ∷ drop (at + 1) bytes = drop_more bytes at 0 lt ∙ ap (λ z. z ∷ drop (at + 1) bytes) (sym is) in
      let none' : BeginsNone d (b ∷ drop (at + 1) bytes) = subst (λ z. BeginsNone d z) cut none in
      subst (Lists d 0 bytes) (sym (append_assoc text (line (byte_text b)) others))
      (kept (line (byte_text b) ++ others) (subst (λ z. Lists d at z (line (byte_text b) ++ others)) (sym cut) (single at b (drop (at + 1) bytes) others none' l)))
