-- No two names of a description are one.
use Rattle.std.proofs.Common.{◌≡◌, ◌⊎◌, inl, inr, ⊎_elim, ℕ, zero, suc, ◌+◌, ◌<◌, ◌≤◌, List, [], ◌∷◌, ◌++◌, Bool, true, false, not, ◌&&◌, ◌||◌, cond, map, Option, Some, None, refl, ap, sym, subst, ◌∙◌, arith, IsTrue}
use Rattle.std.specs.Prelude.{codes}
use Rattle.std.specs.Str.{bytes_eq}
use Rattle.std.specs.Char.{is_ascii_alphabetic}
use Rattle.std.specs.List.{flat_map, list_any, list_all}
use Rattle.std.proofs.lemmas.List.Concat.{flat_map-append}
use Rattle.std.proofs.lemmas.List.{map-append}
use Rattle.std.proofs.lemmas.Slice.Eq.{bytes_eq-Decides}
use Rattle.tie_expr.specs.declared.node.Node.{Node}
use Rattle.tie_mean.specs.Names.{is_named}
use Rattle.tie_grammar.specs.declared.symbol.Leaf.{Leaf}
use Rattle.tie_grammar.specs.declared.tree.Format.{Format}
use Rattle.tie_grammar.specs.declared.tree.Operation.{Operation}
use Rattle.tie_grammar.specs.declared.tree.Decl.{Decl}
use Rattle.tie_grammar.specs.declared.tree.Decl.TheVariants as d
use Rattle.tie_grammar.specs.declared.tree.Tree.{Tree}
use Rattle.tie_describe.specs.tie_rules.Least.{when, behind_from}
use Rattle.tie_describe.specs.tie_rules.Names.{declared_name, names, declares, is_operation, listed, has}
use Rattle.tie_describe.specs.tie_rules.Declarations.{is_reserved, doubled_name, doubled_at, short_of, has_short, is_other_byte, bad_short, short_name_of, short_name_at, has_slot, gives_opcodes, slot_at, slot_list_at}
use Rattle.tie_desc.specs.Names.{all_differ}
use Rattle.tie_desc.specs.Mnemonics.{is_core_mnemonic}
use Rattle.tie_desc.specs.Description.{Description, declared_names}
use Rattle.tie_desc.specs.Invariant.{is_core_file, is_short, slot_names, NamesDiffer}
use Rattle.tie_desc.specs.declared.declarations.OpDecl.{OpDecl}
use Rattle.tie_desc.specs.declared.declarations.FileDecl.{FileDecl}
use Rattle.tie_desc.specs.declared.formats.FormatDecl.{FormatDecl}
use Rattle.tie_desc.specs.declared.formats.SlotDecl.{SlotDecl}
use Rattle.tie_describe.specs.Declarations.{state_of, file_of, range_of, input_of, output_of}
use Rattle.tie_describe.specs.Operations.{states, files, ranges, inputs, outputs, operation, operation_of, operations, with_results}
use Rattle.tie_describe.specs.Formats.{slot, format, formats_behind, format_of, formats}
use Rattle.tie_describe.specs.Described.{ops, described}
use Rattle.tie_description_law.proofs.Elements.{In, in_append, in_left, in_right, from_flat_map, to_flat_map, from_map, to_map, any_none, none_in, to_any, all_true, or_none, not_true, none_both, when_none, none_at, Behind, behind_none, behind_at}
use Rattle.tie_description_law.proofs.Counts.{number, number_append}
use Rattle.tie_description_law.proofs.Kept.{Kept}

-- ---- bytes

pub bytes_true : (a b : List ℕ) → bytes_eq a b ≡ true → a ≡ b
bytes_true a b = (bytes_eq-Decides a b).0

pub bytes_same : (a b : List ℕ) → a ≡ b → bytes_eq a b ≡ true
bytes_same a b = (bytes_eq-Decides a b).1

pub bytes_other : (a b : List ℕ) → bytes_eq a b ≡ false → bytes_eq b a ≡ false
bytes_other a b e = by_test (bytes_eq b a) refl
  where
    by_test : (c : Bool) → bytes_eq b a ≡ c → c ≡ false
    by_test true h = sym (bytes_same a b (sym (bytes_true b a h))) ∙ e
    by_test false h = refl

-- ---- how often a name stands there

abbrev pub times : List ℕ → List (List ℕ) → ℕ
times n ks = number (bytes_eq n) ks

pub number_some : {A : Type 0} (p : A → Bool) (xs : List A) → (number p xs ≡ 0) ⊎ ((x : A) × In x xs × (p x ≡ true))
number_some p [] = inl refl
number_some p (x ∷ xs) = by_test (p x) refl (number_some p xs)
  where
    by_test : (b : Bool) → p x ≡ b → (number p xs ≡ 0) ⊎ ((y : _) × In y xs × (p y ≡ true)) → (cond b (1 + number p xs) (number p xs) ≡ 0) ⊎ ((y : _) × In y (x ∷ xs) × (p y ≡ true))
    by_test true is again = inr (x, inl refl, is)
    by_test false is (inl e) = inl e
    by_test false is (inr h) = inr (h.0, inr h.1, h.2)

pub times_none : (n : List ℕ) (ks : List (List ℕ)) → (In n ks → ⊥) → times n ks ≡ 0
times_none n ks h = ⊎_elim (λ e. e) (λ s. absurd (h (subst (λ k. In k ks) (sym (bytes_true n s.0 s.2)) s.1))) (number_some (bytes_eq n) ks)

pub in_times : (n : List ℕ) (ks : List (List ℕ)) → In n ks → 1 ≤ times n ks
in_times n [] h = absurd h
in_times n (k ∷ ks) (inl e) = rw (bytes_same n k e) (omega arith)
in_times n (k ∷ ks) (inr h) = by_test (bytes_eq n k) (in_times n ks h)
  where
    by_test : (b : Bool) → 1 ≤ times n ks → 1 ≤ cond b (1 + times n ks) (times n ks)
    by_test true l = omega (arith, l)
    by_test false l = l

pub times_in : (n : List ℕ) (ks : List (List ℕ)) → 1 ≤ times n ks → In n ks
times_in n ks l = ⊎_elim (λ e. absurd (omega (arith, e, l))) (λ s. subst (λ k. In k ks) (sym (bytes_true n s.0 s.2)) s.1) (number_some (bytes_eq n) ks)

pub differ : (ks : List (List ℕ)) → ((n : List ℕ) → times n ks ≤ 1) → all_differ bytes_eq ks ≡ true
differ [] h = refl
differ (k ∷ ks) h =
    let here : times k ks ≡ 0 = let l : 1 + times k ks ≤ 1 = subst (λ b. cond b (1 + times k ks) (times k ks) ≤ 1) (bytes_same k k refl) (h k) in omega (arith, l) in
    let none : list_any (bytes_eq k) ks ≡ false = any_none (bytes_eq k) ks (λ x i e. let l = in_times k ks (subst (λ y. In y ks) (sym (bytes_true k x e)) i) in absurd (omega (arith, here, l))) in
    ap (λ b. not b && all_differ bytes_eq ks) none ∙ differ ks (λ n. by_test n (bytes_eq n k) (h n))
  where
    by_test : (n : List ℕ) (b : Bool) → cond b (1 + times n ks) (times n ks) ≤ 1 → times n ks ≤ 1
    by_test n true l = omega (arith, l)
    by_test n false l = l

-- each thing has no name twice, and none that an earlier one has
pub once_from : {A : Type 0} (keys : A → List (List ℕ)) (P : List A → A → Type 0)
    → ((b : List A) (x : A) (n : List ℕ) → P b x → In n (keys x) → (y : A) → In y b → In n (keys y) → ⊥)
    → ((b : List A) (x : A) (n : List ℕ) → P b x → times n (keys x) ≤ 1)
    → (n : List ℕ) (before xs : List A) → Behind P before xs → times n (flat_map keys before) ≤ 1 → times n (flat_map keys before) + times n (flat_map keys xs) ≤ 1
once_from keys P apart own n before [] h l = omega (arith, l)
once_from keys P apart own n before (x ∷ xs) h l =
    let own' = own before x n h.0 in
    let front : times n (flat_map keys (before ++ x ∷ [])) ≡ times n (flat_map keys before) + (times n (keys x) + 0) =
    ap (times n) (flat_map-append keys before (x ∷ [])) ∙ number_append (bytes_eq n) (flat_map keys before) (keys x ++ []) ∙ ap (λ m. times n (flat_map keys before) + m) (number_append (bytes_eq n) (keys x) []) in
    let both : times n (flat_map keys before) + times n (keys x) ≤ 1 =
    ⊎_elim (λ e. omega (arith, e, l))
    (λ s. let i = subst (λ k. In k (keys x)) (sym (bytes_true n s.0 s.2)) s.1 in
    let none = times_none n (flat_map keys before) (λ j. let y = from_flat_map keys before n j in apart before x n h.0 i y.0 y.1 y.2) in omega (arith, none, own'))
    (number_some (bytes_eq n) (keys x)) in
    let rest = once_from keys P apart own n (before ++ x ∷ []) xs h.1 (omega (arith, front, both)) in
    omega (arith, rest, front, number_append (bytes_eq n) (keys x) (flat_map keys xs))

-- ---- declared names

abbrev pub of_name : Option Leaf → List (List ℕ)
of_name None = []
of_name (Some leaf) = leaf.bytes ∷ []

abbrev pub named : Decl → List (List ℕ)
named decl = of_name (declared_name decl)

in_name : (n : List ℕ) (o : Option Leaf) → In n (of_name o) → names n o ≡ true
in_name n None h = absurd h
in_name n (Some leaf) (inl e) = bytes_same leaf.bytes n (sym e)
in_name n (Some leaf) (inr h) = absurd h

apart_names : (b : List Decl) (x : Decl) (n : List ℕ) → doubled_at b x ≡ [] → In n (named x) → (y : Decl) → In y b → In n (named y) → ⊥
apart_names b x n e i y j k = by_name (declared_name x) e i
  where
    by_name : (o : Option Leaf) → doubled_name b x o ≡ [] → In n (of_name o) → ⊥
    by_name None e i = i
    by_name (Some leaf) e (inl s) =
        let none = (or_none (list_any (declares leaf.bytes) b) (is_reserved x leaf) (when_none (list_any (declares leaf.bytes) b || is_reserved x leaf) leaf.place e)).0 in
        let no = none_in (declares leaf.bytes) b y none j in
        let yes = in_name leaf.bytes (declared_name y) (subst (λ m. In m (named y)) s k) in
        absurd (let f : true ≡ false = sym yes ∙ no in cc)
    by_name (Some leaf) e (inr s) = s

own_names : (b : List Decl) (x : Decl) (n : List ℕ) → doubled_at b x ≡ [] → times n (named x) ≤ 1
own_names b x n e = by_name (declared_name x)
  where
    by_name : (o : Option Leaf) → times n (of_name o) ≤ 1
    by_name None = omega arith
    by_name (Some leaf) = by_test (bytes_eq n leaf.bytes)
      where
        by_test : (c : Bool) → cond c (1 + 0) 0 ≤ 1
        by_test true = omega arith
        by_test false = omega arith

pub text_once : (t : Tree) → Kept t → (n : List ℕ) → times n (flat_map named t.declarations) ≤ 1
text_once t k n =
    let h = once_from named (λ b x. doubled_at b x ≡ []) apart_names own_names n [] t.declarations (behind_none doubled_at [] t.declarations k.doubled) (omega arith) in omega (arith, h)

-- ---- the names of a description are among them

pub map_all : {A B C : Type 0} (g : B → C) (f : A → List B) (xs : List A) → map g (flat_map f xs) ≡ flat_map (λ x. map g (f x)) xs
map_all g f [] = refl
map_all g f (x ∷ xs) = map-append g (f x) (flat_map f xs) ∙ ap (λ z. map g (f x) ++ z) (map_all g f xs)

abbrev state_names : Decl → List (List ℕ)
state_names x = map (λ s. s.name) (state_of x)

abbrev file_names : Decl → List (List ℕ)
file_names x = map (λ s. s.name) (file_of x)

abbrev range_names : Decl → List (List ℕ)
range_names x = map (λ s. s.name) (range_of x)

abbrev input_names : Decl → List (List ℕ)
input_names x = map (λ s. s.name) (input_of x)

abbrev output_names : Decl → List (List ℕ)
output_names x = map (λ s. s.name) (output_of x)

abbrev operation_names : Decl → List (List ℕ)
operation_names x = map (λ o. o.name.bytes) (operation_of x)

abbrev format_names : Decl → List (List ℕ)
format_names x = map (λ f. f.name.bytes) (format_of x)

pub op_names : (t : Tree) (os : List Operation) (rs : List (List Node)) → map (λ (o : OpDecl). o.name) (with_results t os rs) ≡ map (λ (o : Operation). o.name.bytes) os
op_names t [] rs = refl
op_names t (o ∷ os) [] = ap (λ z. o.name.bytes ∷ z) (op_names t os [])
op_names t (o ∷ os) (r ∷ rs) = ap (λ z. o.name.bytes ∷ z) (op_names t os rs)

made_names : (t : Tree) (os : List OpDecl) (b : List FormatDecl) (xs : List Format) → map (λ (f : FormatDecl). f.name) (formats_behind t os b xs) ≡ map (λ (f : Format). f.name.bytes) xs
made_names t os b [] = refl
made_names t os b (x ∷ xs) = ap (λ z. x.name.bytes ∷ z) (made_names t os (b ++ format t os b x ∷ []) xs)

-- one declaration has one name
one_kind : (n : List ℕ) (x : Decl)
    → (((((times n (state_names x) + times n (file_names x)) + times n (range_names x)) + times n (operation_names x)) + times n (format_names x)) + times n (input_names x)) + times n (output_names x) ≤ times n (named x)
one_kind n (d.State x) = omega arith
one_kind n (d.Regfile x) = omega arith
one_kind n (d.QueueIn x) = omega arith
one_kind n (d.QueueOut x) = omega arith
one_kind n (d.Table x) = omega arith
one_kind n (d.ImmediateRange x) = omega arith
one_kind n (d.Function x) = omega arith
one_kind n (d.Operation x) = omega arith
one_kind n (d.Schedule x) = omega arith
one_kind n (d.Format x) = omega arith
one_kind n (d.SlotOpcodes x) = omega arith

all_kinds : (n : List ℕ) (xs : List Decl)
    → (((((times n (flat_map state_names xs) + times n (flat_map file_names xs)) + times n (flat_map range_names xs)) + times n (flat_map operation_names xs)) + times n (flat_map format_names xs)) + times n (flat_map input_names xs)) + times n (flat_map output_names xs) ≤ times n (flat_map named xs)
all_kinds n [] = omega arith
all_kinds n (x ∷ xs) =
    let p = bytes_eq n in
    omega (
      arith,
      one_kind n x,
      all_kinds n xs,
      number_append p (state_names x) (flat_map state_names xs),
      number_append p (file_names x) (flat_map file_names xs),
      number_append p (range_names x) (flat_map range_names xs),
      number_append p (operation_names x) (flat_map operation_names xs),
      number_append p (format_names x) (flat_map format_names xs),
      number_append p (input_names x) (flat_map input_names xs),
      number_append p (output_names x) (flat_map output_names xs),
      number_append p (named x) (flat_map named xs),
    )

seven : (n : List ℕ) (a b c e f g h : List (List ℕ)) → times n ((((((a ++ b) ++ c) ++ e) ++ f) ++ g) ++ h) ≡ (((((times n a + times n b) + times n c) + times n e) + times n f) + times n g) + times n h
seven n a b c e f g h =
    let p = bytes_eq n in
    omega (arith, number_append p a b, number_append p (a ++ b) c, number_append p ((a ++ b) ++ c) e, number_append p (((a ++ b) ++ c) ++ e) f, number_append p ((((a ++ b) ++ c) ++ e) ++ f) g, number_append p (((((a ++ b) ++ c) ++ e) ++ f) ++ g) h)

pub among_text : (t : Tree) (results : List (List Node)) (n : List ℕ) → times n (declared_names (described t results)) ≤ times n (flat_map named t.declarations)
among_text t results n =
    let ds = t.declarations in
    let e1 = ap (times n) (map_all (λ s. s.name) state_of ds) in
    let e2 = ap (times n) (map_all (λ s. s.name) file_of ds) in
    let e3 = ap (times n) (map_all (λ s. s.name) range_of ds) in
    let e4 = ap (times n) (op_names t (operations t) results ∙ map_all (λ o. o.name.bytes) operation_of ds) in
    let e5 = ap (times n) (made_names t (ops t results) [] (flat_map format_of ds) ∙ map_all (λ f. f.name.bytes) format_of ds) in
    let e6 = ap (times n) (map_all (λ s. s.name) input_of ds) in
    let e7 = ap (times n) (map_all (λ s. s.name) output_of ds) in
    let dd = described t results in
    let whole = seven n (map (λ x. x.name) dd.states) (map (λ x. x.name) dd.files) (map (λ x. x.name) dd.ranges) (map (λ x. x.name) dd.ops) (map (λ x. x.name) dd.formats) (map (λ x. x.name) dd.ins) (map (λ x. x.name) dd.outs) in
    omega (arith, whole, e1, e2, e3, e4, e5, e6, e7, all_kinds n ds)

pub in_text : (t : Tree) (results : List (List Node)) (n : List ℕ) → In n (declared_names (described t results)) → In n (flat_map named t.declarations)
in_text t results n i = times_in n (flat_map named t.declarations) (let l = in_times n (declared_names (described t results)) i in omega (arith, l, among_text t results n))
