-- The first slot that doesn't pass a test.
use Rattle.std.proofs.Common.{◌≡◌, ℕ, suc, zero, ◌+◌, ◌<◌, ◌⊎◌, ⊎_elim, true, false, List, [], ◌∷◌, length, get_or, Some, refl, sym, ap, ◌∙◌, arith}
use Rattle.std.specs.Prelude.{slice_get, ◌&&◌}
use Rattle.tie_desc.specs.Description.{Description}
use Rattle.tie_desc.specs.Spelling.{part_fits, is_listed, slots_fit}
use Rattle.tie_desc.specs.declared.formats.SlotDecl.{SlotDecl}
use Rattle.tie_desc.specs.declared.bundle.Part.{Part}
use Rattle.tie_flix.specs.Faults.{Test, PassBefore, AllPass, FirstFails, fits_in}
use Rattle.tie_flix.specs.Reading.{fits}
use Rattle.tie_flix.proofs.Decided.{eq_to}

get_is : {A : Type 0} (xs : List A) (i : ℕ) (d : A) → i < length xs → slice_get xs i ≡ Some (get_or xs i d)
get_is [] i d h = absurd (omega (arith, h))
get_is (x ∷ xs) zero d h = refl
get_is (x ∷ xs) (suc i) d h = get_is xs i d (omega (arith, h))

module _ (test : Test) (ss : List SlotDecl) (ps : List Part) (i : ℕ) (s : SlotDecl) (e : Part) (is : s ≡ get_or ss i s) (a : i < length ss) (b : i < length ps) where
  pub first_fails : test s (get_or ps i e) ≡ false → PassBefore test ss ps i → FirstFails test ss ps i
  first_fails h before = record {
    slot = s;
    part = get_or ps i e;
    slot_is = get_is ss i s a ∙ ap Some (sym is);
    part_is = get_is ps i e b;
    fails = h;
    before = before;
  }

  pub one_more : test s (get_or ps i e) ≡ true → PassBefore test ss ps i → PassBefore test ss ps (i + 1)
  one_more h before k t p lt t_is p_is = ⊎_elim (λ less. before k t p less t_is p_is) (λ same. here same) (last k i lt)
    where
      last : (k n : ℕ) → k < n + 1 → (k < n) ⊎ (k ≡ n)
      last k n h = grind arith

      same_of : {A : Type 0} (x y : A) → Some x ≡ Some y → x ≡ y
      same_of x y h = cc

      here : k ≡ i → test t p ≡ true
      here same =
          let one : s ≡ t = same_of s t (ap Some is ∙ sym (get_is ss i s a) ∙ ap (slice_get ss) (sym same) ∙ t_is) in
          let two : get_or ps i e ≡ p = same_of (get_or ps i e) p (sym (get_is ps i e b) ∙ ap (slice_get ps) (sym same) ∙ p_is) in
          sym (ap (λ x. test x (get_or ps i e)) one ∙ ap (test t) two) ∙ h

-- where all slots pass both tests
pub all_fit : (d : Description) (ss : List SlotDecl) (ps : List Part) → length ps ≡ length ss → AllPass is_listed ss ps → AllPass (fits_in d) ss ps → slots_fit d ss ps ≡ true
all_fit d [] [] n a b = refl
all_fit d [] (p ∷ ps) n a b = absurd (omega (arith, n))
all_fit d (s ∷ ss) [] n a b = absurd (omega (arith, n))
all_fit d (s ∷ ss) (p ∷ ps) n a b =
    let one : (is_listed s p && part_fits d p) ≡ true = ap (λ x. x && part_fits d p) (a 0 s p (omega arith) refl refl) ∙ b 0 s p (omega arith) refl refl in
    ap (λ x. x && slots_fit d ss ps) one ∙ all_fit d ss ps (omega (arith, n)) (λ k t q lt. a (suc k) t q (omega (arith, lt))) (λ k t q lt. b (suc k) t q (omega (arith, lt)))

-- three fields that fit
pub whole_fits : (d : Description) (p : Part) → length p.fields ≡ 3 → part_fits d p ≡ fits d p
whole_fits d p three = ap (λ b. b && fits d p) (eq_to (length p.fields) 3 three)
