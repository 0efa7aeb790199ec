-- Slots of a text that keeps the rules.
use Rattle.std.proofs.Common.{◌≡◌, ◌≢◌, ◌⊎◌, inl, inr, ⊎_elim, ℕ, zero, suc, ◌+◌, ◌*◌, ◌<◌, ◌≤◌, max, List, [], ◌∷◌, ◌++◌, Bool, true, false, not, ◌||◌, ◌&&◌, cond, eqb, ltb, leb, map, Option, Some, None, refl, ap, sym, subst, ◌∙◌, arith, length, length-append}
use Rattle.std.specs.List.{flat_map, list_any, find, All, AllByRecursion, sum_by}
use Rattle.std.proofs.lemmas.List.Recursion.{is_sum_by}
use borrow.Author.Tests.{eqb-true, eqb-false, ltb-true, ltb-false, leb-true, leb-false}
use Rattle.tie_expr.specs.declared.node.Node.{Node}
use Rattle.tie_mean.specs.Sizes.{bounded}
use Rattle.tie_mean.specs.Names.{is_named}
use Rattle.tie_grammar.specs.Spelling.{IsFilled, IsDecl, IsText}
use Rattle.tie_grammar.specs.declared.symbol.Leaf.{Leaf}
use Rattle.tie_grammar.specs.declared.tree.Format.{Format}
use Rattle.tie_grammar.specs.declared.tree.SlotOpcodes.{SlotOpcodes}
use Rattle.tie_grammar.specs.declared.tree.Decl.{Decl}
use Rattle.tie_grammar.specs.declared.tree.Decl.TheVariants as d
use Rattle.tie_grammar.specs.declared.tree.Tree.{Tree}
use Rattle.tie_describe.specs.tie_rules.Least.{when, behind_from, behind}
use Rattle.tie_describe.specs.tie_rules.Names.{has, listed}
use Rattle.tie_describe.specs.tie_rules.Declarations.{has_slot, gives_opcodes, slot_at, slot_list_at, is_code, opcode_at, slot_opcode_at, slot_count_at}
use Rattle.tie_describe.specs.tie_rules.Schedules as rule
use Rattle.tie_describe.specs.tie_rules.Schedules.{opcodes_of, opcodes, opcode_arguments, greatest, total, format_too_wide_at}
use Rattle.tie_desc.specs.Names.{all_differ}
use Rattle.tie_desc.specs.Slots.{args_of, longest, code_bits, slot_bits, same_code}
use Rattle.tie_desc.specs.Invariant.{IsCode, IsSlot}
use Rattle.tie_desc.specs.declared.declarations.OpDecl.{OpDecl}
use Rattle.tie_desc.specs.declared.formats.Code.{Code}
use Rattle.tie_desc.specs.declared.formats.SlotDecl.{SlotDecl}
use Rattle.tie_describe.specs.Formats.{code_of, slot}
use Rattle.tie_describe.specs.Described.{ops, described}
use Rattle.tie_description_law.proofs.Elements.{In, all_from, map_length, from_map, any_in, none_in, to_any, any_none, or_none, and_both, not_false, found, find_any, in_right, when_none, none_at, in_rec, Behind, behind_none, behind_at, behind_after}
use Rattle.tie_description_law.proofs.Names.{bytes_true, bytes_same, bytes_other}
use Rattle.tie_description_law.proofs.Codes.{CodeOf, code_is, good_code, code_count, codes_apart}
use Rattle.tie_description_law.proofs.Kept.{Kept}

-- ---- what a slot lists

pub filled : {A : Type 0} (xs : List A) → IsFilled xs → 0 < length xs
filled [] h = absurd h
filled (x ∷ xs) h = omega arith

pub record Lists (t : Tree) (leaf : Leaf) : Type 0 where
  pub by : SlotOpcodes
  pub among : In (d.SlotOpcodes by) t.declarations
  pub are : opcodes t leaf ≡ by.opcodes

lists_by : (n : List ℕ) (x : Decl) → gives_opcodes n x ≡ true → (y : SlotOpcodes) × (x ≡ d.SlotOpcodes y)
lists_by n (d.SlotOpcodes y) e = (y, refl)
lists_by n _ e = absurd cc

pub lists_of : (t : Tree) (leaf : Leaf) → has (gives_opcodes leaf.bytes) t ≡ true → Lists t leaf
lists_of t leaf e =
    let at = find_any (gives_opcodes leaf.bytes) t.declarations e in
    let it = found (gives_opcodes leaf.bytes) t.declarations at.0 at.1 in
    let y = lists_by leaf.bytes at.0 it.1 in
    record { by = y.0; among = subst (λ v. In v t.declarations) y.1 it.0; are = ap opcodes_of at.1 ∙ ap (λ v. opcodes_of (Some v)) y.1 }

-- each slot of a format lists something
pub slot_lists : (t : Tree) (x : Format) → Kept t → In (d.Format x) t.declarations → (leaf : Leaf) → In leaf x.slots → Lists t leaf
slot_lists t x k i leaf j =
    let b = behind_at (λ b y. slot_list_at t b y ≡ []) [] t.declarations (d.Format x) (behind_none (slot_list_at t) [] t.declarations k.slot_list) i in
    let front = behind_at (λ others l. slot_at t b.0 others l ≡ []) [] x.slots leaf (behind_none (slot_at t b.0) [] x.slots b.1) j in
    let both = or_none (list_any (has_slot leaf.bytes) b.0 || listed leaf.bytes front.0) (not (has (gives_opcodes leaf.bytes) t)) (when_none ((list_any (has_slot leaf.bytes) b.0 || listed leaf.bytes front.0) || not (has (gives_opcodes leaf.bytes) t)) leaf.place front.1) in
    lists_of t leaf (not_false (has (gives_opcodes leaf.bytes) t) both.1)

-- ---- at most 16 codes, each once

pub record Listed (t : Tree) (before : List Leaf) (leaf : Leaf) : Type 0 where
  pub code : is_code t leaf ≡ true
  pub first : listed leaf.bytes before ≡ false
  pub room : length before ≢ 16

listed_here : (t : Tree) (before : List Leaf) (leaf : Leaf) → opcode_at t before leaf ≡ [] → length before ≤ 16 → Listed t before leaf
listed_here t before leaf e l =
    let fits : leb (length before) 16 ≡ true = by_test (leb (length before) 16) refl in
    let rest : ((not (is_code t leaf) || listed leaf.bytes before) || eqb (length before) 16) ≡ false =
    ap (λ b. b && ((not (is_code t leaf) || listed leaf.bytes before) || eqb (length before) 16)) (sym fits)
    ∙ when_none (leb (length before) 16 && ((not (is_code t leaf) || listed leaf.bytes before) || eqb (length before) 16)) leaf.place e in
    let one = or_none (not (is_code t leaf) || listed leaf.bytes before) (eqb (length before) 16) rest in
    let two = or_none (not (is_code t leaf)) (listed leaf.bytes before) one.0 in
    record { code = not_false (is_code t leaf) two.0; first = two.1; room = eqb-false _ _ one.1 }
  where
    by_test : (b : Bool) → leb (length before) 16 ≡ b → b ≡ true
    by_test true h = refl
    by_test false h = absurd (let m : 16 < length before = leb-false _ _ h in omega (arith, m, l))

all_listed : (t : Tree) (before xs : List Leaf) → Behind (λ b x. opcode_at t b x ≡ []) before xs → length before ≤ 16 → Behind (Listed t) before xs × (length before + length xs ≤ 16)
all_listed t before [] h l = (tt, omega (arith, l))
all_listed t before (x ∷ xs) h l =
    let here = listed_here t before x h.0 l in
    let longer : length (before ++ x ∷ []) ≡ length before + 1 = length-append before (x ∷ []) in
    let rest = all_listed t (before ++ x ∷ []) xs h.1 (omega (arith, longer, l, here.room)) in
    ((here, rest.0), omega (arith, rest.1, longer))

pub record Codes (t : Tree) (leaf : Leaf) : Type 0 where
  pub listed : Behind (Listed t) [] (opcodes t leaf)
  pub few : length (opcodes t leaf) ≤ 16
  pub some : 0 < length (opcodes t leaf)

pub slot_codes : (t : Tree) → Kept t → IsText t → (leaf : Leaf) → Lists t leaf → Codes t leaf
slot_codes t k text leaf l =
    let behind' = behind_none (opcode_at t) [] l.by.opcodes (none_at (slot_opcode_at t) t.declarations k.slot_opcode (d.SlotOpcodes l.by) l.among) in
    let all = all_listed t [] l.by.opcodes behind' (omega arith) in
    record {
      listed = subst (λ xs. Behind (Listed t) [] xs) (sym l.are) all.0;
      few = subst (λ (xs : List Leaf). length xs ≤ 16) (sym l.are) (omega (arith, all.1));
      some = subst (λ (xs : List Leaf). 0 < length xs) (sym l.are) (filled l.by.opcodes (in_rec IsDecl t.declarations (d.SlotOpcodes l.by) text l.among));
    }

-- each listed name is a code
pub code_at : (t : Tree) (results : List (List Node)) (leaf : Leaf) → Kept t → Codes t leaf → (x : Leaf) → In x (opcodes t leaf) → CodeOf t results x (code_of (ops t results) x)
code_at t results leaf k c x i = let at = behind_at (Listed t) [] (opcodes t leaf) x c.listed i in code_is t results x k at.1.code

once_from : (t : Tree) (results : List (List Node)) (before xs : List Leaf) → Kept t → Behind (Listed t) before xs → ((x : Leaf) → In x xs → CodeOf t results x (code_of (ops t results) x))
    → all_differ same_code (map (code_of (ops t results)) xs) ≡ true
once_from t results before [] k h c = refl
once_from t results before (x ∷ xs) k h c =
    let none : list_any (same_code (code_of (ops t results) x)) (map (code_of (ops t results)) xs) ≡ false =
    any_none (same_code (code_of (ops t results) x)) (map (code_of (ops t results)) xs) (λ y i e.
    let at = from_map (code_of (ops t results)) xs y i in
    let after = behind_after (Listed t) (before ++ x ∷ []) xs at.0 x h.1 at.1 (in_right x before (x ∷ []) (inl refl)) in
    let no = none_in (is_named at.0.bytes) after.0 x after.1.first after.2 in
    let apart = codes_apart t results x at.0 (code_of (ops t results) x) (code_of (ops t results) at.0) (c x (inl refl)) (c at.0 (inr at.1)) no in
    absurd (let f : true ≡ false = sym e ∙ ap (same_code (code_of (ops t results) x)) at.2 ∙ apart in cc)) in
    ap (λ b. not b && all_differ same_code (map (code_of (ops t results)) xs)) none ∙ once_from t results (before ++ x ∷ []) xs k h.1 (λ y i. c y (inr i))

pub good_slot : (t : Tree) (results : List (List Node)) (leaf : Leaf) → Kept t → Codes t leaf → IsSlot (described t results) (slot t (ops t results) leaf)
good_slot t results leaf k c = record {
  some = omega (arith, c.some, map_length (code_of (ops t results)) (opcodes t leaf));
  few = omega (arith, c.few, map_length (code_of (ops t results)) (opcodes t leaf));
  codes = all_from (IsCode (described t results)) (map (code_of (ops t results)) (opcodes t leaf)) (λ y i.
      let at = from_map (code_of (ops t results)) (opcodes t leaf) y i in
      subst (IsCode (described t results)) (sym at.2) (good_code t results at.0 (code_of (ops t results) at.0) (code_at t results leaf k c at.0 at.1)));
  once = once_from t results [] (opcodes t leaf) k c.listed (code_at t results leaf k c);
}

-- ---- bits

longest_is : (t : Tree) (results : List (List Node)) (xs : List Leaf) → ((x : Leaf) → In x xs → length (args_of (described t results) (code_of (ops t results) x)) ≡ opcode_arguments t x)
    → longest (described t results) (map (code_of (ops t results)) xs) ≡ greatest (map (opcode_arguments t) xs)
unfolding longest
longest_is t results [] h = refl
longest_is t results (x ∷ xs) h =
    ap (λ n. max n (longest (described t results) (map (code_of (ops t results)) xs))) (h x (inl refl)) ∙ ap (max (opcode_arguments t x)) (longest_is t results xs (λ y i. h y (inr i)))

same_bits : (n : ℕ) → code_bits n ≡ rule.code_bits n
unfolding code_bits
same_bits n = refl

pub slot_bits_are : (t : Tree) (results : List (List Node)) (leaf : Leaf) → Kept t → Codes t leaf → slot_bits (described t results) (slot t (ops t results) leaf) ≡ rule.slot_bits t leaf
slot_bits_are t results leaf k c =
    let long = longest_is t results (opcodes t leaf) (λ x i. code_count t results x (code_of (ops t results) x) k (code_at t results leaf k c x i)) in
    let many = same_bits (length (map (code_of (ops t results)) (opcodes t leaf))) ∙ ap rule.code_bits (map_length (code_of (ops t results)) (opcodes t leaf)) in
    ap (λ n. n + 4 * longest (described t results) (map (code_of (ops t results)) (opcodes t leaf))) many ∙ ap (λ n. rule.code_bits (length (opcodes t leaf)) + 4 * n) long

sum_is : (t : Tree) (results : List (List Node)) (xs : List Leaf) → ((x : Leaf) → In x xs → slot_bits (described t results) (slot t (ops t results) x) ≡ rule.slot_bits t x)
    → total (map (slot_bits (described t results)) (map (slot t (ops t results)) xs)) ≡ total (map (rule.slot_bits t) xs)
sum_is t results [] h = refl
sum_is t results (x ∷ xs) h =
    ap (λ n. n + total (map (slot_bits (described t results)) (map (slot t (ops t results)) xs))) (h x (inl refl)) ∙ ap (λ n. rule.slot_bits t x + n) (sum_is t results xs (λ y i. h y (inr i)))

abbrev summed : (SlotDecl → ℕ) → List SlotDecl → ℕ
summed f xs = total (map f xs)

pub bits_are : (t : Tree) (results : List (List Node)) (xs : List Leaf) → ((x : Leaf) → In x xs → slot_bits (described t results) (slot t (ops t results) x) ≡ rule.slot_bits t x)
    → sum_by (slot_bits (described t results)) (map (slot t (ops t results)) xs) ≡ total (map (rule.slot_bits t) xs)
bits_are t results xs h =
    sym (is_sum_by (summed (slot_bits (described t results))) (slot_bits (described t results)) refl (λ _ _. refl) (map (slot t (ops t results)) xs)) ∙ sum_is t results xs h
