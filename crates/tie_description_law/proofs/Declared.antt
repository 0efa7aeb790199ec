-- States, files, ranges and queues of a text that keeps the rules.
use Rattle.std.proofs.Common.{◌≡◌, ◌⊎◌, inl, inr, ℕ, zero, suc, ◌+◌, ◌-◌, ◌*◌, ◌/◌, ◌%◌, ◌^◌, ◌<◌, ◌≤◌, min, List, [], ◌∷◌, ◌++◌, Bool, true, false, not, ◌&&◌, eqb, ltb, leb, cond, Option, Some, None, ℤ, pos, ◌-ℤ◌, ◌+ℤ◌, refl, ap, sym, subst, ◌∙◌, arith}
use Rattle.std.specs.Prelude.{FitsSigned}
use Rattle.std.specs.Int.{w32}
use Rattle.std.specs.List.{flat_map, All}
use Rattle.std.proofs.lemmas.Bool.Decides.{nat_tests}
use Rattle.std.proofs.lemmas.Int.{ints}
use Rattle.std.proofs.lemmas.Nat.{pow_pos}
use borrow.Author.Tests.{ltb-true, leb-true, eqb-true}
use Rattle.tie_mean.specs.Literals.{literal_value, capped, is_width, literal_fits}
use Rattle.tie_mean.specs.Sizes.{bounded}
use Rattle.tie_grammar.specs.declared.symbol.Leaf.{Leaf}
use Rattle.tie_grammar.specs.declared.tree.Literal.{Literal}
use Rattle.tie_grammar.specs.declared.tree.Int.{Int}
use Rattle.tie_grammar.specs.declared.tree.Decl.{Decl}
use Rattle.tie_grammar.specs.declared.tree.Decl.TheVariants as d
use Rattle.tie_grammar.specs.declared.tree.Tree.{Tree}
use Rattle.tie_describe.specs.tie_rules.Least.{when}
use Rattle.tie_describe.specs.tie_rules.Declarations.{bad_width, width_range_at, bad_depth, depth_range_at, literal_range_at, fits_itself, bad_value, bad_reset, literal_place, above, above_lowest, good_steps, good_range, imm_range_at}
use Rattle.tie_desc.specs.Invariant.{IsWidth, IsState, IsFile, IsRange, IsQueue}
use Rattle.tie_desc.specs.declared.declarations.StateDecl.{StateDecl}
use Rattle.tie_desc.specs.declared.declarations.FileDecl.{FileDecl}
use Rattle.tie_desc.specs.declared.declarations.RangeDecl.{RangeDecl}
use Rattle.tie_desc.specs.declared.declarations.QueueDecl.{QueueDecl}
use Rattle.tie_describe.specs.Declarations.{byte, byte_of, reset_of, state_of, file_of, range_of, input_of, output_of, above_least, height}
use Rattle.tie_describe.specs.Operations.{states, files, ranges, inputs, outputs}
use Rattle.tie_description_law.proofs.Elements.{In, all_from, from_flat_map, none_both, when_none, none_at, and_both, not_false}
use Rattle.tie_description_law.proofs.Kept.{Kept}

pub byte_small : (n : ℕ) → n ≤ 255 → byte n ≡ n
byte_small n h = omega (arith, h)

width_true : (w : ℕ) → is_width w ≡ true → (0 < w) × (w ≤ 128)
width_true w e = let both = and_both (ltb 0 w) (leb w 128) e in (ltb-true _ _ both.0, leb-true _ _ both.1)

pub good_width : (leaf : Leaf) → bad_width leaf ≡ [] → IsWidth (byte_of leaf) × (byte_of leaf ≡ bounded leaf) × (is_width (bounded leaf) ≡ true)
good_width leaf e =
    let is : is_width (bounded leaf) ≡ true = not_false (is_width (bounded leaf)) (when_none (not (is_width (bounded leaf))) leaf.place e) in
    let w = width_true (bounded leaf) is in
    let same : byte_of leaf ≡ bounded leaf = byte_small (bounded leaf) (omega (arith, w.1)) in
    (record { some = omega (arith, w.0, same); most = omega (arith, w.1, same) }, same, is)

pub good_reset : (leaf : Leaf) (x : Option Literal) → is_width (bounded leaf) ≡ true → bad_reset (bounded leaf) x ≡ [] → reset_of x < 2 ^ bounded leaf
good_reset leaf None w e = pow_pos (bounded leaf)
good_reset leaf (Some x) w e =
    let fits : (fits_itself x && literal_fits (bounded leaf) x) ≡ true =
    not_false (fits_itself x && literal_fits (bounded leaf) x) (
    ap (λ b. b && not (fits_itself x && literal_fits (bounded leaf) x)) (sym w)
    ∙ when_none (is_width (bounded leaf) && not (fits_itself x && literal_fits (bounded leaf) x)) (literal_place x) e
    ) in
    let below : literal_value x < 2 ^ bounded leaf = ltb-true _ _ (and_both (fits_itself x) (literal_fits (bounded leaf) x) fits).1 in
    omega (arith, below)

state_at : (decl : Decl) (s : StateDecl) → width_range_at decl ≡ [] → literal_range_at decl ≡ [] → In s (state_of decl) → IsState s
state_at (d.State x) s w l (inl e) =
    let width = good_width x.width w in
    let reset = good_reset x.width x.reset width.2 (none_both (bad_reset (bounded x.width) x.reset) _ l).0 in
    subst IsState (sym e) (record { width = width.0; reset = subst (λ n. reset_of x.reset < 2 ^ n) (sym width.1) reset })
state_at (d.State x) s w l (inr h) = absurd h
state_at _ s w l h = absurd h

pub all_states : (t : Tree) → Kept t → All IsState (states t)
all_states t k = all_from IsState (states t) (λ s i.
    let at = from_flat_map state_of t.declarations s i in
    state_at at.0 s (none_at width_range_at t.declarations k.width_range at.0 at.1) (none_at literal_range_at t.declarations k.literal_range at.0 at.1) at.2)

file_at : (decl : Decl) (f : FileDecl) → width_range_at decl ≡ [] → depth_range_at decl ≡ [] → In f (file_of decl) → IsFile f
file_at (d.Regfile x) f w l (inl e) =
    let width = good_width x.width w in
    let n = bounded x.depth in
    let both = and_both (ltb 0 n) (leb n 16) (not_false (ltb 0 n && leb n 16) (when_none (not (ltb 0 n && leb n 16)) x.depth.place l)) in
    let some : 0 < n = ltb-true _ _ both.0 in
    let most : n ≤ 16 = leb-true _ _ both.1 in
    subst IsFile (sym e) (record { width = width.0; some = omega (arith, some); most = omega (arith, most) })
file_at (d.Regfile x) f w l (inr h) = absurd h
file_at _ f w l h = absurd h

pub all_files : (t : Tree) → Kept t → All IsFile (files t)
all_files t k = all_from IsFile (files t) (λ f i.
    let at = from_flat_map file_of t.declarations f i in
    file_at at.0 f (none_at width_range_at t.declarations k.width_range at.0 at.1) (none_at depth_range_at t.declarations k.depth_range at.0 at.1) at.2)

input_at : (decl : Decl) (q : QueueDecl) → width_range_at decl ≡ [] → In q (input_of decl) → IsQueue q
input_at (d.QueueIn x) q w (inl e) = subst IsQueue (sym e) (good_width x.width w).0
input_at (d.QueueIn x) q w (inr h) = absurd h
input_at _ q w h = absurd h

output_at : (decl : Decl) (q : QueueDecl) → width_range_at decl ≡ [] → In q (output_of decl) → IsQueue q
output_at (d.QueueOut x) q w (inl e) = subst IsQueue (sym e) (good_width x.width w).0
output_at (d.QueueOut x) q w (inr h) = absurd h
output_at _ q w h = absurd h

pub all_inputs : (t : Tree) → Kept t → All IsQueue (inputs t)
all_inputs t k = all_from IsQueue (inputs t) (λ q i.
    let at = from_flat_map input_of t.declarations q i in
    input_at at.0 q (none_at width_range_at t.declarations k.width_range at.0 at.1) at.2)

pub all_outputs : (t : Tree) → Kept t → All IsQueue (outputs t)
all_outputs t k = all_from IsQueue (outputs t) (λ q i.
    let at = from_flat_map output_of t.declarations q i in
    output_at at.0 q (none_at width_range_at t.declarations k.width_range at.0 at.1) at.2)

-- ---- ranges

height_is : (m : Option ℕ) (n a : ℕ) → above m n ≡ Some a → (above_least m n ≡ a) × (a < 4294967296)
height_is None n a e = by_test (ltb n 2147483648) refl
  where
    by_test : (b : Bool) → ltb n 2147483648 ≡ b → (above_least None n ≡ a) × (a < 4294967296)
    by_test true is =
        let same : Some (2147483648 + n) ≡ Some a = ap (λ b. cond b (Some (2147483648 + n)) None) (sym is) ∙ e in
        let small : n < 2147483648 = ltb-true _ _ is in
        let an : 2147483648 + n ≡ a = cc in (omega (arith, small, an), omega (arith, small, an))
    by_test false is = let none : None ≡ Some a = ap (λ b. cond b (Some (2147483648 + n)) None) (sym is) ∙ e in absurd cc
height_is (Some m) n a e = by_test (leb n 2147483648) refl
  where
    by_test : (b : Bool) → leb n 2147483648 ≡ b → (above_least (Some m) n ≡ a) × (a < 4294967296)
    by_test true is =
        let same : Some (2147483648 - n) ≡ Some a = ap (λ b. cond b (Some (2147483648 - n)) None) (sym is) ∙ e in
        let an : 2147483648 - n ≡ a = cc in (omega (arith, an), omega (arith, an))
    by_test false is = let none : None ≡ Some a = ap (λ b. cond b (Some (2147483648 - n)) None) (sym is) ∙ e in absurd cc

pub record Steps (low high step : ℕ) : Type 0 where
  pub order : low ≤ high
  pub some : 0 < step
  pub small : step < 4294967296
  pub whole : (high - low) % step ≡ 0
  pub few : (high - low) / step < 16

steps_true : (low high step : ℕ) → good_steps low high step ≡ true → Steps low high step
steps_true low high step e =
    let a = and_both ((leb low high && ltb 0 step) && (ltb step 4294967296 && eqb ((high - low) % step) 0)) (ltb ((high - low) / step) 16) e in
    let b = and_both (leb low high && ltb 0 step) (ltb step 4294967296 && eqb ((high - low) % step) 0) a.0 in
    let c = and_both (leb low high) (ltb 0 step) b.0 in
    let f = and_both (ltb step 4294967296) (eqb ((high - low) % step) 0) b.1 in
    record { order = leb-true _ _ c.0; some = ltb-true _ _ c.1; small = ltb-true _ _ f.0; whole = eqb-true _ _ f.1; few = ltb-true _ _ a.1 }

-- both ends are 32-bit integers
ends : (m n : Option ℕ) (low high step : ℕ) (a b : ℕ) → above m low ≡ Some a → above n high ≡ Some b → good_range (above m low) (above n high) step ≡ true
    → Steps (above_least m low) (above_least n high) step × (above_least m low < 4294967296) × (above_least n high < 4294967296)
ends m n low high step a b ea eb e =
    let am = height_is m low a ea in
    let bn = height_is n high b eb in
    let good : good_steps a b step ≡ true = sym (ap (λ x. good_range x (Some b) step) ea ∙ refl) ∙ sym (ap (λ y. good_range (above m low) y step) eb) ∙ e in
    (subst (λ x. Steps x (above_least n high) step) (sym am.0) (subst (λ y. Steps a y step) (sym bn.0) (steps_true a b step good)), omega (arith, am.0, am.1), omega (arith, bn.0, bn.1))

both_ends : (m n : Option ℕ) (low high step : ℕ) → good_range (above m low) (above n high) step ≡ true
    → Steps (above_least m low) (above_least n high) step × (above_least m low < 4294967296) × (above_least n high < 4294967296)
both_ends m n low high step e = by_ends (above m low) (above n high) refl refl e
  where
    by_ends : (x y : Option ℕ) → above m low ≡ x → above n high ≡ y → good_range x y step ≡ true
        → Steps (above_least m low) (above_least n high) step × (above_least m low < 4294967296) × (above_least n high < 4294967296)
    by_ends None y ex ey g = absurd cc
    by_ends (Some a) None ex ey g = absurd cc
    by_ends (Some a) (Some b) ex ey g = ends m n low high step a b ex ey (ap (λ x. good_range x (above n high) step) ex ∙ ap (λ y. good_range (Some a) y step) ey ∙ g)

last_step : (d step : ℕ) → 0 < step → d % step ≡ 0 → step * (d / step) ≡ d
last_step d step h e = omega (arith, h, e)

fits_first : (l : ℕ) → l < 4294967296 → FitsSigned w32 (pos l -ℤ pos 2147483648)
fits_first l h = omega (arith, ints, h)

fits_last : (l h n : ℕ) → l ≤ h → h < 4294967296 → n ≡ h - l → FitsSigned w32 ((pos l -ℤ pos 2147483648) +ℤ pos n)
fits_last l h n o b e = omega (arith, ints, o, b, e)

last_number : (step q : ℕ) → q < 16 → step * (byte (q + 1) - 1) ≡ step * q
last_number step q h = let e : byte (q + 1) - 1 ≡ q = omega (arith, h) in ap (λ n. step * n) e

pub range_good : (low high step : ℕ) → Steps low high step → low < 4294967296 → high < 4294967296 → (name : List ℕ)
    → IsRange (record { name = name; low = pos low -ℤ pos 2147483648; step = min step 4294967295; count = byte ((high - low) / min step 4294967295 + 1) })
range_good low high step s l h name =
    let m : min step 4294967295 ≡ step = omega (arith, s.small) in
    let q : (high - low) / step < 16 = s.few in
    let whole : step * ((high - low) / step) ≡ high - low = last_step (high - low) step s.some s.whole in
    rw m (record {
      some = omega (arith, q);
      most = omega (arith, q);
      step = s.some;
      first = fits_first low l;
      last = fits_last low high (step * (byte ((high - low) / step + 1) - 1)) s.order h (last_number step ((high - low) / step) q ∙ whole);
    })

range_at : (decl : Decl) (r : RangeDecl) → imm_range_at decl ≡ [] → In r (range_of decl) → IsRange r
range_at (d.ImmediateRange x) r w (inl e) =
    let good = not_false (good_range (above_lowest x.low) (above_lowest x.high) (bounded x.step)) (when_none (not (good_range (above_lowest x.low) (above_lowest x.high) (bounded x.step))) x.name.place w) in
    let at = both_ends x.low.minus x.high.minus (bounded x.low.number) (bounded x.high.number) (bounded x.step) good in
    subst IsRange (sym e) (range_good (height x.low) (height x.high) (bounded x.step) at.0 at.1 at.2 x.name.bytes)
range_at (d.ImmediateRange x) r w (inr h) = absurd h
range_at _ r w h = absurd h

pub all_ranges : (t : Tree) → Kept t → All IsRange (ranges t)
all_ranges t k = all_from IsRange (ranges t) (λ r i.
    let at = from_flat_map range_of t.declarations r i in
    range_at at.0 r (none_at imm_range_at t.declarations k.imm_range at.0 at.1) at.2)
