-- Formats of a text that keeps the rules.
use Rattle.std.proofs.Common.{◌≡◌, ◌⊎◌, inl, inr, ⊎_elim, ℕ, ◌+◌, ◌<◌, ◌≤◌, List, [], ◌∷◌, ◌++◌, Bool, true, false, not, ◌||◌, ◌&&◌, eqb, ltb, leb, map, refl, ap, sym, subst, ◌∙◌, arith, length}
use Rattle.std.specs.List.{flat_map, All, sum_by}
use borrow.Author.Tests.{ltb-false, leb-false}
use Rattle.tie_expr.specs.declared.node.Node.{Node}
use Rattle.tie_mean.specs.Sizes.{bounded}
use Rattle.tie_grammar.specs.Spelling.{IsDecl, IsText}
use Rattle.tie_grammar.specs.declared.symbol.Leaf.{Leaf}
use Rattle.tie_grammar.specs.declared.tree.Format.{Format}
use Rattle.tie_grammar.specs.declared.tree.Decl.{Decl}
use Rattle.tie_grammar.specs.declared.tree.Decl.TheVariants as d
use Rattle.tie_grammar.specs.declared.tree.Tree.{Tree}
use Rattle.tie_describe.specs.tie_rules.Least.{when}
use Rattle.tie_describe.specs.tie_rules.Declarations.{slot_count_at}
use Rattle.tie_describe.specs.tie_rules.Schedules as rule
use Rattle.tie_describe.specs.tie_rules.Schedules.{total, format_too_wide_at, shared_at, slot_shared}
use Rattle.tie_desc.specs.Slots.{slot_bits}
use Rattle.tie_desc.specs.Invariant.{IsSlot, IsFormat}
use Rattle.tie_desc.specs.declared.declarations.OpDecl.{OpDecl}
use Rattle.tie_desc.specs.declared.formats.SlotDecl.{SlotDecl}
use Rattle.tie_desc.specs.declared.formats.FormatDecl.{FormatDecl}
use Rattle.tie_describe.specs.Declarations.{byte, byte_of}
use Rattle.tie_describe.specs.Formats.{slot, format, formats_behind, format_of, formats}
use Rattle.tie_describe.specs.Described.{ops, described}
use Rattle.tie_description_law.proofs.Elements.{In, all_from, map_length, from_map, from_flat_map, when_none, none_at, in_rec, behind_none}
use Rattle.tie_description_law.proofs.Counts.{format_widths}
use Rattle.tie_description_law.proofs.SlotCodes.{filled, Codes, slot_lists, slot_codes, good_slot, slot_bits_are, bits_are}
use Rattle.tie_description_law.proofs.Claims.{states_apart, inputs_apart, outputs_apart}
use Rattle.tie_description_law.proofs.Kept.{Kept}

from_formats : (t : Tree) (os : List OpDecl) (b : List FormatDecl) (xs : List Format) (f : FormatDecl) → In f (formats_behind t os b xs) → (x : Format) × (c : List FormatDecl) × In x xs × (f ≡ format t os c x)
from_formats t os b [] f h = absurd h
from_formats t os b (x ∷ xs) f (inl e) = (x, b, inl refl, e)
from_formats t os b (x ∷ xs) f (inr h) = let y = from_formats t os (b ++ format t os b x ∷ []) xs f h in (y.0, y.1, inr y.2, y.3)

format_in : (x : Format) (y : Decl) → In x (format_of y) → d.Format x ≡ y
format_in x (d.Format y) (inl e) = ap d.Format e
format_in x (d.Format y) (inr h) = absurd h
format_in x _ h = absurd h

is_width : (w : ℕ) → (w ≡ 32) ⊎ (w ≡ 64) → (eqb w 32 || eqb w 64) ≡ true
is_width w (inl e) = ap (λ v. eqb v 32 || eqb v 64) e
is_width w (inr e) = ap (λ v. eqb v 32 || eqb v 64) e

-- a width of 32 or 64 is as it stands in the text
as_written : (n : ℕ) → (byte n ≡ 32) ⊎ (byte n ≡ 64) → (byte n ≡ n) × (n ≤ 64)
as_written n (inl e) = (omega (arith, e), omega (arith, e))
as_written n (inr e) = (omega (arith, e), omega (arith, e))

room_for : (n bits : ℕ) → n ≤ 64 → (leb n 64 && ltb n (bits + 8)) ≡ false → bits + 8 ≤ n
room_for n bits l e = by_tests (leb n 64) (ltb n (bits + 8)) refl refl e
  where
    by_tests : (a b : Bool) → leb n 64 ≡ a → ltb n (bits + 8) ≡ b → (a && b) ≡ false → bits + 8 ≤ n
    by_tests true true h i f = absurd cc
    by_tests true false h i f = ltb-false _ _ i
    by_tests false b h i f = absurd (let m : 64 < n = leb-false _ _ h in omega (arith, m, l))

good_format : (t : Tree) (results : List (List Node)) (before : List FormatDecl) (x : Format) → Kept t → IsText t → In (d.Format x) t.declarations → (byte_of x.width ≡ 32) ⊎ (byte_of x.width ≡ 64)
    → IsFormat (described t results) (format t (ops t results) before x)
good_format t results before x k text i w =
    let lists = λ (leaf : Leaf) (j : In leaf x.slots). slot_lists t x k i leaf j in
    let codes = λ (leaf : Leaf) (j : In leaf x.slots). slot_codes t k text leaf (lists leaf j) in
    let many = map_length (slot t (ops t results)) x.slots in
    let few : length x.slots ≤ 4 = ltb-false _ _ (when_none (ltb 4 (length x.slots)) x.name.place (none_at slot_count_at t.declarations k.slot_count (d.Format x) i)) in
    let wide = when_none (leb (bounded x.width) 64 && ltb (bounded x.width) (total (map (rule.slot_bits t) x.slots) + 8)) x.width.place (none_at (format_too_wide_at t) t.declarations k.format_too_wide (d.Format x) i) in
    let same = as_written (bounded x.width) w in
    let room : total (map (rule.slot_bits t) x.slots) + 8 ≤ bounded x.width = room_for (bounded x.width) (total (map (rule.slot_bits t) x.slots)) same.1 wide in
    let bits = bits_are t results x.slots (λ leaf j. slot_bits_are t results leaf k (codes leaf j)) in
    let some : 0 < length x.slots = filled x.slots (in_rec IsDecl t.declarations (d.Format x) text i) in
    let shared_states = behind_none (slot_shared true t x.name) [] x.slots (none_at (shared_at true t) t.declarations k.state_twice (d.Format x) i) in
    let shared_queues = behind_none (slot_shared false t x.name) [] x.slots (none_at (shared_at false t) t.declarations k.queue_twice (d.Format x) i) in
    record {
      width = is_width (byte_of x.width) w;
      some = omega (arith, some, many);
      few = omega (arith, few, many);
      slots = all_from (IsSlot (described t results)) (map (slot t (ops t results)) x.slots) (λ s j.
          let at = from_map (slot t (ops t results)) x.slots s j in subst (IsSlot (described t results)) (sym at.2) (good_slot t results at.0 k (codes at.0 at.1)));
      room = omega (arith, room, bits, same.0);
      states_apart = states_apart t results k x.name x.slots shared_states codes;
      ins_apart = inputs_apart t results k x.name x.slots shared_queues codes;
      outs_apart = outputs_apart t results k x.name x.slots shared_queues codes;
    }

pub all_formats : (t : Tree) (results : List (List Node)) → Kept t → IsText t → All (IsFormat (described t results)) (formats t (ops t results))
all_formats t results k text = all_from (IsFormat (described t results)) (formats t (ops t results)) (λ f i.
    let at = from_formats t (ops t results) [] (flat_map format_of t.declarations) f i in
    let x = at.0 in
    let from = from_flat_map format_of t.declarations x at.2 in
    let among = subst (λ y. In y t.declarations) (sym (format_in x from.0 from.2)) from.1 in
    subst (IsFormat (described t results)) (sym at.3) (good_format t results at.1 x k text among (format_widths t k x at.2)))
