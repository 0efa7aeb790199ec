-- The numbers of formats.
use Rattle.std.proofs.Common.{◌≡◌, ℕ, zero, suc, ◌+◌, ◌<◌, ◌≤◌, List, [], ◌∷◌, length, Some, slice_get, get_or, arith, refl, sym, subst, ap, ◌∙◌, All, true, not, ◌&&◌, ◌||◌, ◌==◌, ◌⊎◌, inl, inr, cond, eqb}
use Rattle.std.specs.List.{position_or_len}
use Rattle.std.proofs.lemmas.List.Sums.{sum_by-cons}
use Rattle.std.proofs.lemmas.Bool.{eqb-true}
use Rattle.std.proofs.lemmas.Bool.Decides.{nat_tests}
use Rattle.std.proofs.lemmas.Option.{slice_get-get_or}
use Rattle.tie_desc.proofs.Lists.{both_left, both_right, All-tail}
use Rattle.tie_desc.specs.Description.{Description}
use Rattle.tie_desc.specs.Slots.{is_format, format_place}
use Rattle.tie_desc.specs.Invariant.{formats_of_width, numbered, IsFormat, IsDescription}
use Rattle.tie_desc.specs.declared.formats.FormatDecl.{FormatDecl}

-- one format more
pub formats_of_width-cons : (w : ℕ) (f : FormatDecl) (fs : List FormatDecl)
    → formats_of_width w (f ∷ fs) ≡ cond (f.width == w) 1 0 + formats_of_width w fs
formats_of_width-cons w f fs = sum_by-cons (λ g. cond (g.width == w) 1 0) f fs

pub formats_of_width-le : (w : ℕ) (f : FormatDecl) (fs : List FormatDecl) → formats_of_width w fs ≤ formats_of_width w (f ∷ fs)
formats_of_width-le w f fs = omega (arith, formats_of_width-cons w f fs)

pub formats_of_width-own : (f : FormatDecl) (w : ℕ) (fs : List FormatDecl) → f.width ≡ w → formats_of_width w (f ∷ fs) ≡ 1 + formats_of_width w fs
formats_of_width-own f w fs e = formats_of_width-cons w f fs ∙ ap (λ b. cond b 1 0 + formats_of_width w fs) (equal_test f.width w e)
  where
    equal_test : (a b : ℕ) → a ≡ b → eqb a b ≡ true
    equal_test a b h = grind (arith, nat_tests)

some_same : (f g : FormatDecl) → Some f ≡ Some g → f ≡ g
some_same f g e = cc

-- a later format counts all of its width that stand before
pub numbered-le : (before fs : List FormatDecl) (k : ℕ) (g : FormatDecl) → numbered before fs ≡ true → slice_get fs k ≡ Some g
    → formats_of_width g.width before ≤ g.number
numbered-le before [] k g ok here = cc
numbered-le before (f ∷ fs) zero g ok here =
    subst (λ h. formats_of_width h.width before ≤ h.number) (some_same f g here)
    (omega (arith, eqb-true f.number (formats_of_width f.width before) (both_left (f.number == formats_of_width f.width before) (numbered (f ∷ before) fs) ok)))
numbered-le before (f ∷ fs) (suc k) g ok here =
    let later = numbered-le (f ∷ before) fs k g (both_right (f.number == formats_of_width f.width before) (numbered (f ∷ before) fs) ok) here in
    omega (arith, later, formats_of_width-le g.width f before)

-- and one of its width has a smaller number
pub numbered-lt : (before fs : List FormatDecl) (f : FormatDecl) (k : ℕ) (g : FormatDecl) → numbered before (f ∷ fs) ≡ true → slice_get fs k ≡ Some g
    → f.width ≡ g.width → f.number < g.number
numbered-lt before fs f k g ok here same =
    let later = numbered-le (f ∷ before) fs k g (both_right (f.number == formats_of_width f.width before) (numbered (f ∷ before) fs) ok) here in
    let own : f.number ≡ formats_of_width f.width before = eqb-true f.number (formats_of_width f.width before) (both_left (f.number == formats_of_width f.width before) (numbered (f ∷ before) fs) ok) in
    omega (arith, later, own, formats_of_width-own f g.width before same, ap (λ w. formats_of_width w before) same)

-- so a format is the first of its width and number
pub format_place-own : (before fs : List FormatDecl) (k : ℕ) (g : FormatDecl) → numbered before fs ≡ true → slice_get fs k ≡ Some g
    → format_place g.width g.number fs ≡ k
format_place-own before [] k g ok here = cc
format_place-own before (f ∷ fs) zero g ok here =
    subst (λ h. position_or_len (is_format h.width h.number) (f ∷ fs) ≡ 0) (some_same f g here) (at_first f.width f.number _)
  where
    at_first : (w i n : ℕ) → cond (not (eqb w w && eqb i i)) (1 + n) 0 ≡ 0
    at_first w i n = grind (arith, nat_tests)
format_place-own before (f ∷ fs) (suc k) g ok here =
    passed f.width g.width f.number g.number _ k (numbered-lt before fs f k g ok here)
    (format_place-own (f ∷ before) fs k g (both_right (f.number == formats_of_width f.width before) (numbered (f ∷ before) fs) ok) here)
  where
    passed : (v w i j n k : ℕ) → (v ≡ w → i < j) → n ≡ k → cond (not (eqb v w && eqb i j)) (1 + n) 0 ≡ suc k
    passed v w i j n k h e = grind (arith, nat_tests)

-- a number is below the count of formats of its width
pub number-lt : (before fs : List FormatDecl) (k : ℕ) (g : FormatDecl) → numbered before fs ≡ true → slice_get fs k ≡ Some g
    → g.number < formats_of_width g.width before + formats_of_width g.width fs
number-lt before [] k g ok here = cc
number-lt before (f ∷ fs) zero g ok here =
    subst (λ h. h.number < formats_of_width h.width before + formats_of_width h.width (f ∷ fs)) (some_same f g here)
    (omega (arith, eqb-true f.number (formats_of_width f.width before) (both_left (f.number == formats_of_width f.width before) (numbered (f ∷ before) fs) ok), formats_of_width-own f f.width fs refl))
number-lt before (f ∷ fs) (suc k) g ok here =
    let later = number-lt (f ∷ before) fs k g (both_right (f.number == formats_of_width f.width before) (numbered (f ∷ before) fs) ok) here in
    omega (arith, later, formats_of_width-cons g.width f before, formats_of_width-cons g.width f fs)

-- ---- descriptions

width_cases : (w : ℕ) → (w == 32 || w == 64) ≡ true → (w ≡ 32) ⊎ (w ≡ 64)
width_cases w h = grind (arith, nat_tests)

pub number_fits : (d : Description) → IsDescription d → All (λ f. f.number < 16) d.formats
number_fits d ok k e lt = below (get_or d.formats k e) (ok.formats k e lt) (number-lt [] d.formats k (get_or d.formats k e) ok.numbers (slice_get-get_or d.formats k e lt))
  where
    below : (f : FormatDecl) → IsFormat d f → f.number < formats_of_width f.width [] + formats_of_width f.width d.formats → f.number < 16
    below f fine h =
        elim (width_cases f.width fine.width) [
          | inl short ↦ omega (arith, h, ok.counts.short_formats, ap (λ w. formats_of_width w d.formats) short)
          | inr long ↦ omega (arith, h, ok.counts.long_formats, ap (λ w. formats_of_width w d.formats) long)
        ]

-- each format has one of two widths
pub two_widths : (d : Description) (fs : List FormatDecl) → All (IsFormat d) fs → length fs ≡ formats_of_width 32 fs + formats_of_width 64 fs
two_widths d [] all = refl
two_widths d (f ∷ fs) all =
    omega (arith, two_widths d fs (All-tail (IsFormat d) f fs all), formats_of_width-cons 32 f fs, formats_of_width-cons 64 f fs, one_of f.width (width_cases f.width (all 0 f (omega arith)).width))
  where
    one_of : (w : ℕ) → (w ≡ 32) ⊎ (w ≡ 64) → cond (eqb w 32) 1 0 + cond (eqb w 64) 1 0 ≡ 1
    one_of w h = grind (arith, nat_tests)

pub few_formats : (d : Description) → IsDescription d → length d.formats ≤ 32
few_formats d ok = omega (arith, two_widths d d.formats ok.formats, ok.counts.short_formats, ok.counts.long_formats)

pub format_is_first : (d : Description) (i : ℕ) (f : FormatDecl) → IsDescription d → slice_get d.formats i ≡ Some f → format_place f.width f.number d.formats ≡ i
format_is_first d i f ok here = format_place-own [] d.formats i f ok.numbers here

pub format_numbers_differ : (d : Description) (i j : ℕ) (f g : FormatDecl) → IsDescription d → slice_get d.formats i ≡ Some f → slice_get d.formats j ≡ Some g
    → f.width ≡ g.width → f.number ≡ g.number → i ≡ j
format_numbers_differ d i j f g ok at_i at_j same_width same_number =
    sym (format_is_first d i f ok at_i) ∙ ap (λ w. format_place w f.number d.formats) same_width
    ∙ ap (λ n. format_place g.width n d.formats) same_number ∙ format_is_first d j g ok at_j
