-- The names of a description differ.
use Rattle.std.proofs.Common.{◌≡◌, ◌⊎◌, inl, inr, ℕ, ◌+◌, ◌≤◌, List, [], ◌∷◌, ◌++◌, Bool, true, false, not, ◌&&◌, ◌||◌, cond, map, Option, Some, None, refl, ap, sym, subst, ◌∙◌, arith, IsTrue}
use Rattle.std.specs.Prelude.{codes}
use Rattle.std.specs.Str.{bytes_eq}
use Rattle.std.specs.Char.{is_ascii_alphabetic}
use Rattle.std.specs.List.{flat_map, list_any, list_all}
use Rattle.std.proofs.lemmas.List.Concat.{flat_map-append}
use Rattle.tie_expr.specs.declared.node.Node.{Node}
use Rattle.tie_mean.specs.Names.{is_named}
use Rattle.tie_grammar.specs.declared.symbol.Leaf.{Leaf}
use Rattle.tie_grammar.specs.declared.tree.Format.{Format}
use Rattle.tie_grammar.specs.declared.tree.Operation.{Operation}
use Rattle.tie_grammar.specs.declared.tree.Decl.{Decl}
use Rattle.tie_grammar.specs.declared.tree.Decl.TheVariants as d
use Rattle.tie_grammar.specs.declared.tree.Tree.{Tree}
use Rattle.tie_describe.specs.tie_rules.Least.{when, behind_from}
use Rattle.tie_describe.specs.tie_rules.Names.{declared_name, declares, is_operation, listed, has}
use Rattle.tie_describe.specs.tie_rules.Declarations.{is_reserved, doubled_name, doubled_at, short_of, has_short, is_other_byte, bad_short, short_name_of, short_name_at, has_slot, gives_opcodes, slot_at, slot_list_at}
use Rattle.tie_desc.specs.Names.{all_differ}
use Rattle.tie_desc.specs.Mnemonics.{is_core_mnemonic}
use Rattle.tie_desc.specs.Description.{Description, declared_names}
use Rattle.tie_desc.specs.Invariant.{is_core_file, is_short, slot_names, NamesDiffer}
use Rattle.tie_desc.specs.declared.declarations.OpDecl.{OpDecl}
use Rattle.tie_desc.specs.declared.declarations.FileDecl.{FileDecl}
use Rattle.tie_desc.specs.declared.formats.FormatDecl.{FormatDecl}
use Rattle.tie_desc.specs.declared.formats.SlotDecl.{SlotDecl}
use Rattle.tie_describe.specs.Declarations.{file_of}
use Rattle.tie_describe.specs.Operations.{files, operation, operation_of, operations, with_results}
use Rattle.tie_describe.specs.Formats.{slot, format, formats_behind, format_of, formats}
use Rattle.tie_describe.specs.Described.{ops, described}
use Rattle.tie_description_law.proofs.Elements.{In, from_flat_map, from_map, to_map, any_none, any_in, none_in, to_any, all_true, or_none, not_true, none_both, when_none, none_at, Behind, behind_none, behind_at}
use Rattle.tie_description_law.proofs.Counts.{number, number_append}
use Rattle.tie_description_law.proofs.Names.{bytes_true, bytes_same, bytes_other, times, differ, once_from, of_name, named, text_once, among_text, in_text, map_all}
use Rattle.tie_description_law.proofs.Kept.{Kept}

-- ---- `AR` and the mnemonics

other_file : (n : List ℕ) (x : Decl) (front : List Decl) → doubled_at front x ≡ [] → In n (named x) → is_core_file n ≡ false
other_file n x front e i = by_name (declared_name x) e i
  where
    by_name : (o : Option Leaf) → doubled_name front x o ≡ [] → In n (of_name o) → is_core_file n ≡ false
    by_name None e h = absurd h
    by_name (Some leaf) e (inl s) =
        let free = (or_none (list_any (declares leaf.bytes) front) (is_reserved x leaf) (when_none (list_any (declares leaf.bytes) front || is_reserved x leaf) leaf.place e)).1 in
        let no = (or_none (is_named (codes "AR") leaf) (is_operation x && is_core_mnemonic leaf.bytes) free).0 in
        ap is_core_file s ∙ bytes_other leaf.bytes (codes "AR") no
    by_name (Some leaf) e (inr h) = absurd h

no_core_file : (t : Tree) (results : List (List Node)) → Kept t → (n : List ℕ) → In n (declared_names (described t results)) → not (is_core_file n) ≡ true
no_core_file t results k n i =
    let at = from_flat_map named t.declarations n (in_text t results n i) in
    let b = behind_at (λ b x. doubled_at b x ≡ []) [] t.declarations at.0 (behind_none doubled_at [] t.declarations k.doubled) at.1 in
    ap not (other_file n at.0 b.0 b.1 at.2)

-- an operation of the text is there
pub from_ops : (t : Tree) (os : List Operation) (rs : List (List Node)) (p : OpDecl) → In p (with_results t os rs) → (o : Operation) × (r : List Node) × In o os × (p ≡ operation t o r)
from_ops t [] rs p h = absurd h
from_ops t (o ∷ os) [] p (inl e) = (o, [], inl refl, e)
from_ops t (o ∷ os) [] p (inr h) = let x = from_ops t os [] p h in (x.0, x.1, inr x.2, x.3)
from_ops t (o ∷ os) (r ∷ rs) p (inl e) = (o, r, inl refl, e)
from_ops t (o ∷ os) (r ∷ rs) p (inr h) = let x = from_ops t os rs p h in (x.0, x.1, inr x.2, x.3)

decl_of : (x : Decl) (o : Operation) → In o (operation_of x) → d.Operation o ≡ x
decl_of (d.Operation y) o (inl e) = ap d.Operation e
decl_of (d.Operation y) o (inr h) = absurd h
decl_of _ o h = absurd h

-- its declaration is
pub in_decls : (t : Tree) (o : Operation) → In o (operations t) → In (d.Operation o) t.declarations
in_decls t o i = let at = from_flat_map operation_of t.declarations o i in subst (λ x. In x t.declarations) (sym (decl_of at.0 o at.2)) at.1

no_mnemonic : (t : Tree) (results : List (List Node)) → Kept t → (p : OpDecl) → In p (ops t results) → not (is_core_mnemonic p.name) ≡ true
no_mnemonic t results k p i =
    let at = from_ops t (operations t) results p i in
    let o = at.0 in
    let b = behind_at (λ b x. doubled_at b x ≡ []) [] t.declarations (d.Operation o) (behind_none doubled_at [] t.declarations k.doubled) (in_decls t o at.2) in
    let free = (or_none (list_any (declares o.name.bytes) b.0) (is_reserved (d.Operation o) o.name) (when_none (list_any (declares o.name.bytes) b.0 || is_reserved (d.Operation o) o.name) o.name.place b.1)).1 in
    let no : is_core_mnemonic o.name.bytes ≡ false = (or_none (is_named (codes "AR") o.name) (is_core_mnemonic o.name.bytes) free).1 in
    ap (λ (q : OpDecl). not (is_core_mnemonic q.name)) at.3 ∙ ap not no

-- ---- short names

letters : (bytes : List ℕ) → list_any is_other_byte bytes ≡ false → list_all is_ascii_alphabetic bytes ≡ true
letters bytes e = all_true is_ascii_alphabetic bytes (λ b i. not_false' (is_ascii_alphabetic b) (none_in is_other_byte bytes b e i))
  where
    not_false' : (c : Bool) → not c ≡ false → c ≡ true
    not_false' true h = refl
    not_false' false h = absurd cc

abbrev shorts : Decl → List (List ℕ)
shorts x = map (λ f. f.short) (file_of x)

good_short : (f : FileDecl) (x : Decl) (front : List Decl) → short_name_at front x ≡ [] → In f (file_of x) → is_short f.short ≡ true
good_short f (d.Regfile x) front e (inl i) =
    let fine = or_none (list_any is_other_byte x.short.bytes || is_named (codes "a") x.short) (list_any (has_short x.short.bytes) front) (when_none (bad_short front x.short) x.short.place e) in
    let two = or_none (list_any is_other_byte x.short.bytes) (is_named (codes "a") x.short) fine.0 in
    ap (λ (g : FileDecl). is_short g.short) i ∙ ap (λ b. b && not (bytes_eq (codes "a") x.short.bytes)) (letters x.short.bytes two.0) ∙ ap not (bytes_other x.short.bytes (codes "a") two.1)
good_short f (d.Regfile x) front e (inr h) = absurd h
good_short f _ front e h = absurd h

in_short : (n : List ℕ) (y : Decl) → In n (shorts y) → has_short n y ≡ true
in_short n (d.Regfile y) (inl e) = bytes_same y.short.bytes n (sym e)
in_short n (d.Regfile y) (inr h) = absurd h
in_short n _ h = absurd h

apart_shorts : (b : List Decl) (x : Decl) (n : List ℕ) → short_name_at b x ≡ [] → In n (shorts x) → (y : Decl) → In y b → In n (shorts y) → ⊥
apart_shorts b (d.Regfile x) n e (inl s) y j k =
    let fine = or_none (list_any is_other_byte x.short.bytes || is_named (codes "a") x.short) (list_any (has_short x.short.bytes) b) (when_none (bad_short b x.short) x.short.place e) in
    let no = none_in (has_short x.short.bytes) b y fine.1 j in
    let yes = in_short x.short.bytes y (subst (λ m. In m (shorts y)) s k) in
    absurd (let f : true ≡ false = sym yes ∙ no in cc)
apart_shorts b (d.Regfile x) n e (inr h) y j k = h
apart_shorts b _ n e h y j k = h

pub one_time : (n k : List ℕ) → times n (k ∷ []) ≤ 1
one_time n k = by_test (bytes_eq n k)
  where
    by_test : (c : Bool) → cond c (1 + 0) 0 ≤ 1
    by_test true = omega arith
    by_test false = omega arith

own_shorts : (b : List Decl) (x : Decl) (n : List ℕ) → short_name_at b x ≡ [] → times n (shorts x) ≤ 1
own_shorts b (d.Regfile x) n e = one_time n x.short.bytes
own_shorts b _ n e = omega arith

shorts_differ : (t : Tree) → Kept t → all_differ bytes_eq (map (λ (f : FileDecl). f.short) (files t)) ≡ true
shorts_differ t k = differ (map (λ (f : FileDecl). f.short) (files t)) (λ n.
    let h = once_from shorts (λ b x. short_name_at b x ≡ []) apart_shorts own_shorts n [] t.declarations (behind_none short_name_at [] t.declarations k.short_name) (omega arith) in
    omega (arith, h, ap (times n) (map_all (λ f. f.short) file_of t.declarations)))

shorts_good : (t : Tree) → Kept t → (f : FileDecl) → In f (files t) → is_short f.short ≡ true
shorts_good t k f i =
    let at = from_flat_map file_of t.declarations f i in
    let b = behind_at (λ b x. short_name_at b x ≡ []) [] t.declarations at.0 (behind_none short_name_at [] t.declarations k.short_name) at.1 in
    good_short f at.0 b.0 b.1 at.2

-- ---- slots

abbrev leaf_name : Leaf → List (List ℕ)
leaf_name x = x.bytes ∷ []

abbrev slot_keys : Decl → List (List ℕ)
slot_keys (d.Format x) = flat_map leaf_name x.slots
slot_keys _ = []

leaf_in : (n : List ℕ) (x : Leaf) → In n (leaf_name x) → is_named n x ≡ true
leaf_in n x (inl e) = bytes_same x.bytes n (sym e)
leaf_in n x (inr h) = absurd h

in_leaves : (n : List ℕ) (xs : List Leaf) → In n (flat_map leaf_name xs) → listed n xs ≡ true
in_leaves n xs i = let at = from_flat_map leaf_name xs n i in to_any (is_named n) xs at.0 at.1 (leaf_in n at.0 at.2)

in_slots : (n : List ℕ) (y : Decl) → In n (slot_keys y) → has_slot n y ≡ true
in_slots n (d.Format y) i = in_leaves n y.slots i
in_slots n _ h = absurd h

-- what a slot's place says
free_slot : (t : Tree) (b : List Decl) (others : List Leaf) (x : Leaf) → slot_at t b others x ≡ [] → (list_any (has_slot x.bytes) b ≡ false) × (listed x.bytes others ≡ false)
free_slot t b others x e =
    let both = or_none (list_any (has_slot x.bytes) b || listed x.bytes others) (not (has (gives_opcodes x.bytes) t)) (when_none ((list_any (has_slot x.bytes) b || listed x.bytes others) || not (has (gives_opcodes x.bytes) t)) x.place e) in
    or_none (list_any (has_slot x.bytes) b) (listed x.bytes others) both.0

apart_slots : (t : Tree) (b : List Decl) (x : Decl) (n : List ℕ) → slot_list_at t b x ≡ [] → In n (slot_keys x) → (y : Decl) → In y b → In n (slot_keys y) → ⊥
apart_slots t b (d.Format x) n e i y j k =
    let at = from_flat_map leaf_name x.slots n i in
    let front = behind_at (λ others leaf. slot_at t b others leaf ≡ []) [] x.slots at.0 (behind_none (slot_at t b) [] x.slots e) at.1 in
    let no = none_in (has_slot at.0.bytes) b y (free_slot t b front.0 at.0 front.1).0 j in
    let same = bytes_true at.0.bytes n (leaf_in n at.0 at.2) in
    let yes = in_slots at.0.bytes y (subst (λ m. In m (slot_keys y)) (sym same) k) in
    absurd (let f : true ≡ false = sym yes ∙ no in cc)
apart_slots t b _ n e h y j k = h

apart_leaves : (t : Tree) (b : List Decl) (others : List Leaf) (x : Leaf) (n : List ℕ) → slot_at t b others x ≡ [] → In n (leaf_name x) → (y : Leaf) → In y others → In n (leaf_name y) → ⊥
apart_leaves t b others x n e i y j k =
    let same = bytes_true x.bytes n (leaf_in n x i) in
    let no = none_in (is_named x.bytes) others y (free_slot t b others x e).1 j in
    let yes = leaf_in x.bytes y (subst (λ m. In m (leaf_name y)) (sym same) k) in
    absurd (let f : true ≡ false = sym yes ∙ no in cc)

own_slots : (t : Tree) (b : List Decl) (x : Decl) (n : List ℕ) → slot_list_at t b x ≡ [] → times n (slot_keys x) ≤ 1
own_slots t b (d.Format x) n e =
    let h = once_from leaf_name (λ others leaf. slot_at t b others leaf ≡ []) (apart_leaves t b) (λ others leaf m f. one_time m leaf.bytes) n [] x.slots (behind_none (slot_at t b) [] x.slots e) (omega arith) in omega (arith, h)
own_slots t b _ n e = omega arith

made_slots : (t : Tree) (os : List OpDecl) (b : List FormatDecl) (xs : List Format) → flat_map (λ (f : FormatDecl). map (λ (s : SlotDecl). s.name) f.slots) (formats_behind t os b xs) ≡ flat_map (λ (x : Format). flat_map leaf_name x.slots) xs
made_slots t os b [] = refl
made_slots t os b (x ∷ xs) =
    ap (λ z. z ++ flat_map (λ (f : FormatDecl). map (λ (s : SlotDecl). s.name) f.slots) (formats_behind t os (b ++ format t os b x ∷ []) xs)) (slots_made x.slots)
    ∙ ap (λ z. flat_map leaf_name x.slots ++ z) (made_slots t os (b ++ format t os b x ∷ []) xs)
  where
    slots_made : (ls : List Leaf) → map (λ (s : SlotDecl). s.name) (map (slot t os) ls) ≡ flat_map leaf_name ls
    slots_made [] = refl
    slots_made (l ∷ ls) = ap (λ z. l.bytes ∷ z) (slots_made ls)

flat_twice : {A B C : Type 0} (g : B → List C) (f : A → List B) (h : A → List C) (xs : List A) → ((x : A) → flat_map g (f x) ≡ h x) → flat_map g (flat_map f xs) ≡ flat_map h xs
flat_twice g f h [] e = refl
flat_twice g f h (x ∷ xs) e = flat_map-append g (f x) (flat_map f xs) ∙ ap (λ z. z ++ flat_map g (flat_map f xs)) (e x) ∙ ap (λ z. h x ++ z) (flat_twice g f h xs e)

keys_of : (x : Decl) → flat_map (λ (y : Format). flat_map leaf_name y.slots) (format_of x) ≡ slot_keys x
keys_of (d.Format x) = append_none (flat_map leaf_name x.slots)
  where
    append_none : (ys : List (List ℕ)) → ys ++ [] ≡ ys
    append_none [] = refl
    append_none (y ∷ ys) = ap (λ z. y ∷ z) (append_none ys)
keys_of _ = refl

slots_differ : (t : Tree) (results : List (List Node)) → Kept t → all_differ bytes_eq (slot_names (described t results)) ≡ true
slots_differ t results k = differ (slot_names (described t results)) (λ n.
    let h = once_from slot_keys (λ b x. slot_list_at t b x ≡ []) (apart_slots t) (own_slots t) n [] t.declarations (behind_none (slot_list_at t) [] t.declarations k.slot_list) (omega arith) in
    let same = made_slots t (ops t results) [] (flat_map format_of t.declarations) ∙ flat_twice (λ (x : Format). flat_map leaf_name x.slots) format_of slot_keys t.declarations keys_of in
    omega (arith, h, ap (times n) same))

-- ---- all

pub names_differ : (t : Tree) (results : List (List Node)) → Kept t → NamesDiffer (described t results)
names_differ t results k = record {
  declared = differ (declared_names (described t results)) (λ n. omega (arith, among_text t results n, text_once t k n));
  core_file = all_true (λ n. not (is_core_file n)) (declared_names (described t results)) (no_core_file t results k);
  mnemonics = all_true (λ o. not (is_core_mnemonic o.name)) (ops t results) (no_mnemonic t results k);
  shorts = all_true (λ f. is_short f.short) (files t) (shorts_good t k);
  shorts_differ = shorts_differ t k;
  slots = slots_differ t results k;
}
