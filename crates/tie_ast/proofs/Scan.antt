-- The scan for the first symbol that is beyond the limit.
use Rattle.std.proofs.Common.{◌≡◌, ◌≢◌, true, false, ℕ, ◌+◌, ◌-◌, ◌≤◌, ◌<◌, inl, inr, List, length, Option, Some, None, slice_get, sym, ap, subst, ◌∙◌, arith}
use Rattle.std.proofs.lemmas.Bool.{cases_lt}
use Rattle.tie_grammar.specs.declared.symbol.Mark.TheVariants as m
use Rattle.tie_grammar.specs.declared.symbol.Symbol.{Symbol}
use Rattle.tie_grammar.specs.declared.symbol.Symbol.TheVariants as s
use Rattle.tie_grammar.specs.Grammar.{IsBeyond}
use Rattle.tie_grammar.specs.Reading.{is_mark, same}
use Rattle.tie_grammar.proofs.Readers.{marked}

-- a semicolon stands behind one place and before another
pub record IsClosed (ts : List Symbol) (start at : ℕ) : Type 0 where
  pub end : ℕ
  pub behind : start < end
  pub before : end < at
  pub is : slice_get ts end ≡ Some (s.Mark m.Semicolon)

-- the first equals sign that no semicolon has closed
pub record IsOpened (ts : List Symbol) (at start : ℕ) : Type 0 where
  pub below : start < at
  pub near : at ≤ start + 1025
  pub is : slice_get ts start ≡ Some (s.Mark m.Equals)
  pub goes : (k : ℕ) → start < k → k < at → slice_get ts k ≢ Some (s.Mark m.Semicolon)
  pub earlier : (j : ℕ) → j < start → slice_get ts j ≡ Some (s.Mark m.Equals) → IsClosed ts j at

-- what is known before the symbol at a place
abbrev pub Scanned : List Symbol → ℕ → Option ℕ → Type 0
Scanned ts at None = (j : ℕ) → j < at → slice_get ts j ≡ Some (s.Mark m.Equals) → IsClosed ts j at
Scanned ts at (Some start) = IsOpened ts at start

pub scanned_none : (ts : List Symbol) → Scanned ts 0 None
scanned_none ts j lt h = absurd (omega arith)

closed_later : (ts : List Symbol) (j at : ℕ) → IsClosed ts j at → IsClosed ts j (at + 1)
closed_later ts j at c = record { end = c.end; behind = c.behind; before = omega (arith, c.before); is = c.is }

-- ---- the next symbol

pub next_semicolon : (ts : List Symbol) (at : ℕ) (o : Option ℕ) → slice_get ts at ≡ Some (s.Mark m.Semicolon) → Scanned ts at o → Scanned ts (at + 1) None
next_semicolon ts at o is h j lt equals = elim (cases_lt j at) [
  | inl below ↦ record { end = at; behind = below; before = omega arith; is = is }
  | inr past ↦ let same : j ≡ at = omega arith in absurd (clash (sym equals ∙ ap (slice_get ts) same ∙ is))
]
  where
    clash : Some (s.Mark m.Equals) ≡ Some (s.Mark m.Semicolon) → ⊥
    clash e = cc

pub next_equals : (ts : List Symbol) (at : ℕ) → slice_get ts at ≡ Some (s.Mark m.Equals) → Scanned ts at None → Scanned ts (at + 1) (Some at)
next_equals ts at is h = record {
  below = omega arith;
  near = omega arith;
  is = is;
  goes = λ k a b. absurd (omega arith);
  earlier = λ j lt equals. closed_later ts j at (h j lt equals);
}

pub next_outside : (ts : List Symbol) (at : ℕ) → slice_get ts at ≢ Some (s.Mark m.Equals) → Scanned ts at None → Scanned ts (at + 1) None
next_outside ts at not h j lt equals = elim (cases_lt j at) [
  | inl below ↦ closed_later ts j at (h j below equals)
  | inr past ↦ let same : j ≡ at = omega arith in absurd (not (ap (slice_get ts) (sym same) ∙ equals))
]

pub next_inside : (ts : List Symbol) (at start : ℕ) → slice_get ts at ≢ Some (s.Mark m.Semicolon) → at - start ≤ 1024 → IsOpened ts at start → IsOpened ts (at + 1) start
next_inside ts at start not near h = record {
  below = omega (arith, h.below);
  near = omega arith;
  is = h.is;
  goes = λ k a b. elim (cases_lt k at) [ inl below ↦ h.goes k a below | inr past ↦ (λ e. let same : k ≡ at = omega arith in not (ap (slice_get ts) (sym same) ∙ e)) ];
  earlier = λ j lt equals. closed_later ts j at (h.earlier j lt equals);
}

-- ---- what is beyond

pub beyond : (ts : List Symbol) (at start : ℕ) → at < length ts → slice_get ts at ≢ Some (s.Mark m.Semicolon) → 1024 < at - start → IsOpened ts at start → IsBeyond ts at
beyond ts at start lt not far h = record {
  start = start;
  count = omega (arith, h.near);
  within = lt;
  opened = h.is;
  goes = λ k a b. elim (cases_lt k at) [ inl below ↦ h.goes k a below | inr past ↦ (λ e. let same : k ≡ at = omega arith in not (ap (slice_get ts) (sym same) ∙ e)) ];
}

-- a closed start has nothing beyond at the place
closed_no : (ts : List Symbol) (at : ℕ) (b : IsBeyond ts at) → IsClosed ts b.start at → ⊥
closed_no ts at b c = b.goes c.end c.behind (omega (arith, c.before)) c.is

pub not_outside : (ts : List Symbol) (at : ℕ) → Scanned ts at None → IsBeyond ts at → ⊥
not_outside ts at h b = closed_no ts at b (h b.start (omega (arith, b.count)) b.opened)

pub not_inside : (ts : List Symbol) (at start : ℕ) → at - start ≤ 1024 → IsOpened ts at start → IsBeyond ts at → ⊥
not_inside ts at start near h b = closed_no ts at b (h.earlier b.start (omega (arith, b.count, h.below)) b.opened)

pub not_semicolon : (ts : List Symbol) (at : ℕ) → slice_get ts at ≡ Some (s.Mark m.Semicolon) → IsBeyond ts at → ⊥
not_semicolon ts at is b = b.goes at (omega (arith, b.count)) (omega arith) is

pub before_next : (ts : List Symbol) (at : ℕ) → ((k : ℕ) → k < at → IsBeyond ts k → ⊥) → (IsBeyond ts at → ⊥) → (k : ℕ) → k < at + 1 → IsBeyond ts k → ⊥
before_next ts at before here k lt b = elim (cases_lt k at) [ inl below ↦ before k below b | inr past ↦ (let same : k ≡ at = omega arith in here (subst (IsBeyond ts) same b)) ]

-- ---- by the tests that the code makes

semicolon : (ts : List Symbol) (at : ℕ) (x : Symbol) → slice_get ts at ≡ Some x → is_mark m.Semicolon x ≡ true → slice_get ts at ≡ Some (s.Mark m.Semicolon)
semicolon ts at x is t = is ∙ ap Some (marked m.Semicolon x t)

equals : (ts : List Symbol) (at : ℕ) (x : Symbol) → slice_get ts at ≡ Some x → is_mark m.Equals x ≡ true → slice_get ts at ≡ Some (s.Mark m.Equals)
equals ts at x is t = is ∙ ap Some (marked m.Equals x t)

no_semicolon : (ts : List Symbol) (at : ℕ) (x : Symbol) → slice_get ts at ≡ Some x → is_mark m.Semicolon x ≡ false → slice_get ts at ≢ Some (s.Mark m.Semicolon)
unfolding same
no_semicolon ts at x is t e = let same_x : x ≡ s.Mark m.Semicolon = cc in let test : is_mark m.Semicolon (s.Mark m.Semicolon) ≡ false = subst (λ z. is_mark m.Semicolon z ≡ false) same_x t in clash test
  where
    clash : true ≡ false → ⊥
    clash h = cc

no_equals : (ts : List Symbol) (at : ℕ) (x : Symbol) → slice_get ts at ≡ Some x → is_mark m.Equals x ≡ false → slice_get ts at ≢ Some (s.Mark m.Equals)
unfolding same
no_equals ts at x is t e = let same_x : x ≡ s.Mark m.Equals = cc in let test : is_mark m.Equals (s.Mark m.Equals) ≡ false = subst (λ z. is_mark m.Equals z ≡ false) same_x t in clash test
  where
    clash : true ≡ false → ⊥
    clash h = cc

-- the scan so far, and that nothing before was beyond
pub record IsScanned (ts : List Symbol) (at : ℕ) (opened : Option ℕ) : Type 0 where
  pub scanned : Scanned ts at opened
  pub before : (k : ℕ) → k < at → IsBeyond ts k → ⊥

pub at_start : (ts : List Symbol) → IsScanned ts 0 None
at_start ts = record { scanned = scanned_none ts; before = λ k lt b. absurd (omega arith) }

pub at_semicolon : (ts : List Symbol) (at : ℕ) (o : Option ℕ) (x : Symbol) → slice_get ts at ≡ Some x → is_mark m.Semicolon x ≡ true → IsScanned ts at o → IsScanned ts (at + 1) None
at_semicolon ts at o x is t h = record { scanned = next_semicolon ts at o (semicolon ts at x is t) h.scanned; before = before_next ts at h.before (not_semicolon ts at (semicolon ts at x is t)) }

pub at_inside : (ts : List Symbol) (at start : ℕ) (x : Symbol) → slice_get ts at ≡ Some x → is_mark m.Semicolon x ≡ false → at - start ≤ 1024 → IsScanned ts at (Some start) → IsScanned ts (at + 1) (Some start)
at_inside ts at start x is t near h = record { scanned = next_inside ts at start (no_semicolon ts at x is t) near h.scanned; before = before_next ts at h.before (not_inside ts at start near h.scanned) }

pub at_equals : (ts : List Symbol) (at : ℕ) (x : Symbol) → slice_get ts at ≡ Some x → is_mark m.Equals x ≡ true → IsScanned ts at None → IsScanned ts (at + 1) (Some at)
at_equals ts at x is t h = record { scanned = next_equals ts at (equals ts at x is t) h.scanned; before = before_next ts at h.before (not_outside ts at h.scanned) }

pub at_outside : (ts : List Symbol) (at : ℕ) (x : Symbol) → slice_get ts at ≡ Some x → is_mark m.Equals x ≡ false → IsScanned ts at None → IsScanned ts (at + 1) None
at_outside ts at x is t h = record { scanned = next_outside ts at (no_equals ts at x is t) h.scanned; before = before_next ts at h.before (not_outside ts at h.scanned) }

pub at_beyond : (ts : List Symbol) (at start : ℕ) (x : Symbol) → slice_get ts at ≡ Some x → at < length ts → is_mark m.Semicolon x ≡ false → 1024 < at - start → IsScanned ts at (Some start) → IsBeyond ts at
at_beyond ts at start x is lt t far h = beyond ts at start lt (no_semicolon ts at x is t) far h.scanned

pub start_below : (ts : List Symbol) (at start : ℕ) → IsScanned ts at (Some start) → start < at
start_below ts at start h = h.scanned.below
