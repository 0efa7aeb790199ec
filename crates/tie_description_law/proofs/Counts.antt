-- How many declarations of a sort a text has that keeps the rules.
use Rattle.std.proofs.Common.{◌≡◌, ◌≢◌, ◌⊎◌, inl, inr, ℕ, zero, suc, ◌+◌, ◌<◌, ◌≤◌, List, [], ◌∷◌, ◌++◌, Bool, true, false, ◌&&◌, ◌||◌, not, eqb, cond, Option, Some, None, refl, ap, sym, subst, ◌∙◌, arith, length, length-append, lit<}
use Rattle.std.specs.List.{flat_map, count_by}
use Rattle.std.proofs.lemmas.List.Recursion.{is_count_by}
use borrow.Author.Tests.{eqb-true, eqb-false}
use Rattle.tie_mean.specs.Sizes.{bounded}
use Rattle.tie_grammar.specs.declared.symbol.Leaf.{Leaf}
use Rattle.tie_grammar.specs.declared.tree.State.{State}
use Rattle.tie_grammar.specs.declared.tree.Regfile.{Regfile}
use Rattle.tie_grammar.specs.declared.tree.Queue.{Queue}
use Rattle.tie_grammar.specs.declared.tree.ImmediateRange.{ImmediateRange}
use Rattle.tie_grammar.specs.declared.tree.Format.{Format}
use Rattle.tie_grammar.specs.declared.tree.Decl.{Decl}
use Rattle.tie_grammar.specs.declared.tree.Decl.TheVariants as d
use Rattle.tie_grammar.specs.declared.tree.Tree.{Tree}
use Rattle.tie_describe.specs.tie_rules.Least.{when}
use Rattle.tie_describe.specs.tie_rules.Names.{declared_name, is_operation}
use Rattle.tie_describe.specs.tie_rules.Declarations.{at_name, limit_of, is_format_of, same_sort, is_full, too_many_at, too_many_opcodes_at, format_width_at}
use Rattle.tie_desc.specs.Invariant.{formats_of_width, numbered}
use Rattle.tie_desc.specs.declared.declarations.OpDecl.{OpDecl}
use Rattle.tie_desc.specs.declared.formats.FormatDecl.{FormatDecl}
use Rattle.tie_describe.specs.Declarations.{byte, byte_of, state_of, file_of, range_of, input_of, output_of}
use Rattle.tie_describe.specs.Operations.{states, files, ranges, inputs, outputs, operation_of, operations}
use Rattle.tie_describe.specs.Formats.{format, formats_behind, format_of, formats}
use Rattle.tie_description_law.proofs.Elements.{In, from_flat_map, when_none, none_at, not_false, Behind, behind_none}
use Rattle.tie_description_law.proofs.Kept.{Kept}

-- how many pass a test
abbrev pub number : {A : Type 0} → (A → Bool) → List A → ℕ
number p [] = 0
number p (x ∷ xs) = cond (p x) (1 + number p xs) (number p xs)

pub number_is : {A : Type 0} (p : A → Bool) (xs : List A) → number p xs ≡ count_by p xs
number_is p xs = is_count_by (number p) p refl (λ _ _. refl) xs

pub number_append : {A : Type 0} (p : A → Bool) (xs ys : List A) → number p (xs ++ ys) ≡ number p xs + number p ys
number_append p [] ys = omega arith
number_append p (x ∷ xs) ys = by_test (p x) (number_append p xs ys)
  where
    by_test : (b : Bool) → number p (xs ++ ys) ≡ number p xs + number p ys
        → cond b (1 + number p (xs ++ ys)) (number p (xs ++ ys)) ≡ cond b (1 + number p xs) (number p xs) + number p ys
    by_test true again = omega (arith, again)
    by_test false again = again

pub number_same : {A : Type 0} (p q : A → Bool) (xs : List A) → ((x : A) → p x ≡ q x) → number p xs ≡ number q xs
number_same p q [] h = refl
number_same p q (x ∷ xs) h =
    ap (λ b. cond b (1 + number p xs) (number p xs)) (h x) ∙ ap (λ n. cond (q x) (1 + n) n) (number_same p q xs h)

pub behind_map : {A : Type 0} (P Q : List A → A → Type 0) (before xs : List A) → ((b : List A) (x : A) → P b x → Q b x) → Behind P before xs → Behind Q before xs
behind_map P Q before [] f h = tt
behind_map P Q before (x ∷ xs) f h = (f before x h.0, behind_map P Q (before ++ x ∷ []) xs f h.1)

-- no thing that passes has n such before it
pub at_most : {A : Type 0} (p : A → Bool) (n : ℕ) (before xs : List A) → Behind (λ b x. p x ≡ true → number p b ≢ n) before xs → number p before ≤ n
    → number p before + number p xs ≤ n
at_most p n before [] h l = omega (arith, l)
at_most p n before (x ∷ xs) h l = by_test (p x) refl (at_most p n (before ++ x ∷ []) xs h.1)
  where
    by_test : (b : Bool) → p x ≡ b → (number p (before ++ x ∷ []) ≤ n → number p (before ++ x ∷ []) + number p xs ≤ n)
        → number p before + cond b (1 + number p xs) (number p xs) ≤ n
    by_test true is again =
        let one : number p (before ++ x ∷ []) ≡ number p before + 1 = number_append p before (x ∷ []) ∙ ap (λ b. number p before + cond b 1 0) is in
        let ne : number p before ≢ n = h.0 is in
        let small : number p (before ++ x ∷ []) ≤ n = omega (arith, one, ne, l) in
        let again' = again small in omega (arith, again', one)
    by_test false is again =
        let one : number p (before ++ x ∷ []) ≡ number p before + 0 = number_append p before (x ∷ []) ∙ ap (λ b. number p before + cond b 1 0) is in
        let small : number p (before ++ x ∷ []) ≤ n = omega (arith, one, l) in
        let again' = again small in omega (arith, again', one)

pub length_made : {A B : Type 0} (f : A → List B) (p : A → Bool) (xs : List A) → ((x : A) → length (f x) ≡ cond (p x) 1 0) → length (flat_map f xs) ≡ number p xs
length_made f p [] h = refl
length_made f p (x ∷ xs) h = by_test (p x) (h x) (length_made f p xs h)
  where
    by_test : (b : Bool) → length (f x) ≡ cond b 1 0 → length (flat_map f xs) ≡ number p xs → length (f x ++ flat_map f xs) ≡ cond b (1 + number p xs) (number p xs)
    by_test true e again = omega (arith, length-append (f x) (flat_map f xs), e, again)
    by_test false e again = omega (arith, length-append (f x) (flat_map f xs), e, again)

-- ---- the sorts

abbrev is_state : Decl → Bool
is_state (d.State x) = true
is_state _ = false

abbrev is_file : Decl → Bool
is_file (d.Regfile x) = true
is_file _ = false

abbrev is_input : Decl → Bool
is_input (d.QueueIn x) = true
is_input _ = false

abbrev is_output : Decl → Bool
is_output (d.QueueOut x) = true
is_output _ = false

abbrev is_range : Decl → Bool
is_range (d.ImmediateRange x) = true
is_range _ = false

same_state : (x : State) (y : Decl) → same_sort (d.State x) y ≡ is_state y
same_state x (d.State y) = refl
same_state x _ = refl

full_state : (before : List Decl) (x : Decl) → too_many_at before x ≡ [] → is_state x ≡ true → number is_state before ≢ 32
full_state before (d.State x) e is = λ full.
    let not_full = when_none (eqb (count_by (same_sort (d.State x)) before) 32) x.name.place e in
    let same : count_by (same_sort (d.State x)) before ≡ number is_state before =
    sym (number_is (same_sort (d.State x)) before) ∙ number_same (same_sort (d.State x)) is_state before (same_state x) in
    eqb-false _ _ not_full (same ∙ full)
full_state before _ e is = absurd cc

length_state : (x : Decl) → length (state_of x) ≡ cond (is_state x) 1 0
length_state (d.State x) = refl
length_state _ = refl

pub few_states : (t : Tree) → Kept t → length (states t) ≤ 32
few_states t k =
    let most = at_most is_state 32 [] t.declarations (behind_map (λ b x. too_many_at b x ≡ []) (λ b x. is_state x ≡ true → number is_state b ≢ 32) [] t.declarations full_state (behind_none too_many_at [] t.declarations k.too_many)) (omega arith) in
    omega (arith, length_made state_of is_state t.declarations length_state, most)

same_file : (x : Regfile) (y : Decl) → same_sort (d.Regfile x) y ≡ is_file y
same_file x (d.Regfile y) = refl
same_file x _ = refl

full_file : (before : List Decl) (x : Decl) → too_many_at before x ≡ [] → is_file x ≡ true → number is_file before ≢ 8
full_file before (d.Regfile x) e is = λ full.
    let not_full = when_none (eqb (count_by (same_sort (d.Regfile x)) before) 8) x.name.place e in
    let same : count_by (same_sort (d.Regfile x)) before ≡ number is_file before =
    sym (number_is (same_sort (d.Regfile x)) before) ∙ number_same (same_sort (d.Regfile x)) is_file before (same_file x) in
    eqb-false _ _ not_full (same ∙ full)
full_file before _ e is = absurd cc

length_file : (x : Decl) → length (file_of x) ≡ cond (is_file x) 1 0
length_file (d.Regfile x) = refl
length_file _ = refl

pub few_files : (t : Tree) → Kept t → length (files t) ≤ 8
few_files t k =
    let most = at_most is_file 8 [] t.declarations (behind_map (λ b x. too_many_at b x ≡ []) (λ b x. is_file x ≡ true → number is_file b ≢ 8) [] t.declarations full_file (behind_none too_many_at [] t.declarations k.too_many)) (omega arith) in
    omega (arith, length_made file_of is_file t.declarations length_file, most)

same_input : (x : Queue) (y : Decl) → same_sort (d.QueueIn x) y ≡ is_input y
same_input x (d.QueueIn y) = refl
same_input x _ = refl

full_input : (before : List Decl) (x : Decl) → too_many_at before x ≡ [] → is_input x ≡ true → number is_input before ≢ 8
full_input before (d.QueueIn x) e is = λ full.
    let not_full = when_none (eqb (count_by (same_sort (d.QueueIn x)) before) 8) x.name.place e in
    let same : count_by (same_sort (d.QueueIn x)) before ≡ number is_input before =
    sym (number_is (same_sort (d.QueueIn x)) before) ∙ number_same (same_sort (d.QueueIn x)) is_input before (same_input x) in
    eqb-false _ _ not_full (same ∙ full)
full_input before _ e is = absurd cc

length_input : (x : Decl) → length (input_of x) ≡ cond (is_input x) 1 0
length_input (d.QueueIn x) = refl
length_input _ = refl

pub few_inputs : (t : Tree) → Kept t → length (inputs t) ≤ 8
few_inputs t k =
    let most = at_most is_input 8 [] t.declarations (behind_map (λ b x. too_many_at b x ≡ []) (λ b x. is_input x ≡ true → number is_input b ≢ 8) [] t.declarations full_input (behind_none too_many_at [] t.declarations k.too_many)) (omega arith) in
    omega (arith, length_made input_of is_input t.declarations length_input, most)

same_output : (x : Queue) (y : Decl) → same_sort (d.QueueOut x) y ≡ is_output y
same_output x (d.QueueOut y) = refl
same_output x _ = refl

full_output : (before : List Decl) (x : Decl) → too_many_at before x ≡ [] → is_output x ≡ true → number is_output before ≢ 8
full_output before (d.QueueOut x) e is = λ full.
    let not_full = when_none (eqb (count_by (same_sort (d.QueueOut x)) before) 8) x.name.place e in
    let same : count_by (same_sort (d.QueueOut x)) before ≡ number is_output before =
    sym (number_is (same_sort (d.QueueOut x)) before) ∙ number_same (same_sort (d.QueueOut x)) is_output before (same_output x) in
    eqb-false _ _ not_full (same ∙ full)
full_output before _ e is = absurd cc

length_output : (x : Decl) → length (output_of x) ≡ cond (is_output x) 1 0
length_output (d.QueueOut x) = refl
length_output _ = refl

pub few_outputs : (t : Tree) → Kept t → length (outputs t) ≤ 8
few_outputs t k =
    let most = at_most is_output 8 [] t.declarations (behind_map (λ b x. too_many_at b x ≡ []) (λ b x. is_output x ≡ true → number is_output b ≢ 8) [] t.declarations full_output (behind_none too_many_at [] t.declarations k.too_many)) (omega arith) in
    omega (arith, length_made output_of is_output t.declarations length_output, most)

same_range : (x : ImmediateRange) (y : Decl) → same_sort (d.ImmediateRange x) y ≡ is_range y
same_range x (d.ImmediateRange y) = refl
same_range x _ = refl

full_range : (before : List Decl) (x : Decl) → too_many_at before x ≡ [] → is_range x ≡ true → number is_range before ≢ 32
full_range before (d.ImmediateRange x) e is = λ full.
    let not_full = when_none (eqb (count_by (same_sort (d.ImmediateRange x)) before) 32) x.name.place e in
    let same : count_by (same_sort (d.ImmediateRange x)) before ≡ number is_range before =
    sym (number_is (same_sort (d.ImmediateRange x)) before) ∙ number_same (same_sort (d.ImmediateRange x)) is_range before (same_range x) in
    eqb-false _ _ not_full (same ∙ full)
full_range before _ e is = absurd cc

length_range : (x : Decl) → length (range_of x) ≡ cond (is_range x) 1 0
length_range (d.ImmediateRange x) = refl
length_range _ = refl

pub few_ranges : (t : Tree) → Kept t → length (ranges t) ≤ 32
few_ranges t k =
    let most = at_most is_range 32 [] t.declarations (behind_map (λ b x. too_many_at b x ≡ []) (λ b x. is_range x ≡ true → number is_range b ≢ 32) [] t.declarations full_range (behind_none too_many_at [] t.declarations k.too_many)) (omega arith) in
    omega (arith, length_made range_of is_range t.declarations length_range, most)

full_operation : (before : List Decl) (x : Decl) → too_many_opcodes_at before x ≡ [] → is_operation x ≡ true → number is_operation before ≢ 32
full_operation before (d.Operation x) e is = λ full.
    eqb-false _ _ (when_none (eqb (count_by is_operation before) 32) x.name.place e) (sym (number_is is_operation before) ∙ full)
full_operation before _ e is = absurd cc

length_operation : (x : Decl) → length (operation_of x) ≡ cond (is_operation x) 1 0
length_operation (d.Operation x) = refl
length_operation _ = refl

pub few_operations : (t : Tree) → Kept t → length (operations t) ≤ 32
few_operations t k =
    let most = at_most is_operation 32 [] t.declarations (behind_map (λ b x. too_many_opcodes_at b x ≡ []) (λ b x. is_operation x ≡ true → number is_operation b ≢ 32) [] t.declarations full_operation (behind_none too_many_opcodes_at [] t.declarations k.too_many_opcodes)) (omega arith) in
    omega (arith, length_made operation_of is_operation t.declarations length_operation, most)

-- ---- formats

abbrev has_width : ℕ → Decl → Bool
has_width w (d.Format x) = eqb (byte_of x.width) w
has_width w _ = false

same_width : (w : ℕ) → w < 255 → (a n : ℕ) → byte a ≡ w → eqb a n ≡ eqb (byte n) w
same_width w l a n e = by_tests (eqb a n) (eqb (byte n) w) refl refl
  where
    by_tests : (b c : Bool) → eqb a n ≡ b → eqb (byte n) w ≡ c → b ≡ c
    by_tests true true h i = refl
    by_tests true false h i = absurd (eqb-false _ _ i (let an : a ≡ n = eqb-true _ _ h in omega (arith, an, e)))
    by_tests false true h i = absurd (eqb-false _ _ h (let nw : byte n ≡ w = eqb-true _ _ i in omega (arith, nw, e, l)))
    by_tests false false h i = refl

same_format : (w : ℕ) → w < 255 → (x : Format) → byte_of x.width ≡ w → (y : Decl) → same_sort (d.Format x) y ≡ has_width w y
same_format w l x e (d.Format y) = same_width w l (bounded x.width) (bounded y.width) e
same_format w l x e _ = refl

full_format : (w : ℕ) → w < 255 → (before : List Decl) (x : Decl) → too_many_at before x ≡ [] → has_width w x ≡ true → number (has_width w) before ≢ 16
full_format w l before (d.Format x) e is = λ full.
    let not_full = when_none (eqb (count_by (same_sort (d.Format x)) before) 16) x.name.place e in
    let same : count_by (same_sort (d.Format x)) before ≡ number (has_width w) before =
    sym (number_is (same_sort (d.Format x)) before) ∙ number_same (same_sort (d.Format x)) (has_width w) before (same_format w l x (eqb-true _ _ is)) in
    eqb-false _ _ not_full (same ∙ full)
full_format w l before _ e is = absurd cc

abbrev made_width : ℕ → FormatDecl → Bool
made_width w f = eqb f.width w

abbrev format_width : ℕ → Format → Bool
format_width w x = eqb (byte_of x.width) w

formats_width : (t : Tree) (ops : List OpDecl) (w : ℕ) (before : List FormatDecl) (xs : List Format) → number (made_width w) (formats_behind t ops before xs) ≡ number (format_width w) xs
formats_width t ops w before [] = refl
formats_width t ops w before (x ∷ xs) = ap (λ n. cond (eqb (byte_of x.width) w) (1 + n) n) (formats_width t ops w (before ++ format t ops before x ∷ []) xs)

text_width : (w : ℕ) (xs : List Decl) → number (format_width w) (flat_map format_of xs) ≡ number (has_width w) xs
text_width w [] = refl
text_width w (x ∷ xs) = number_append (format_width w) (format_of x) (flat_map format_of xs) ∙ one x (text_width w xs)
  where
    one : (x : Decl) → number (format_width w) (flat_map format_of xs) ≡ number (has_width w) xs
        → number (format_width w) (format_of x) + number (format_width w) (flat_map format_of xs) ≡ cond (has_width w x) (1 + number (has_width w) xs) (number (has_width w) xs)
    one (d.Format x) again = by_test (eqb (byte_of x.width) w)
      where
        by_test : (b : Bool) → cond b 1 0 + number (format_width w) (flat_map format_of xs) ≡ cond b (1 + number (has_width w) xs) (number (has_width w) xs)
        by_test true = omega (arith, again)
        by_test false = omega (arith, again)
    one _ again = omega (arith, again)

few_of_width : (t : Tree) (ops : List OpDecl) (w : ℕ) → w < 255 → Kept t → number (made_width w) (formats t ops) ≤ 16
few_of_width t ops w l k =
    let most = at_most (has_width w) 16 [] t.declarations (behind_map (λ b x. too_many_at b x ≡ []) (λ b x. has_width w x ≡ true → number (has_width w) b ≢ 16) [] t.declarations (full_format w l) (behind_none too_many_at [] t.declarations k.too_many)) (omega arith) in
    omega (arith, formats_width t ops w [] (flat_map format_of t.declarations), text_width w t.declarations, most)

pub few_formats : (t : Tree) (ops : List OpDecl) (w : ℕ) → w < 255 → Kept t → formats_of_width w (formats t ops) ≤ 16
few_formats t ops w l k = subst (λ n. n ≤ 16) (number_is (made_width w) (formats t ops)) (few_of_width t ops w l k)

-- ---- the numbers of formats

sure_width : (x : Decl) (f : Format) → format_width_at x ≡ [] → In f (format_of x) → (byte_of f.width ≡ 32) ⊎ (byte_of f.width ≡ 64)
sure_width (d.Format x) f e (inl i) =
    subst (λ (y : Format). (byte_of y.width ≡ 32) ⊎ (byte_of y.width ≡ 64)) (sym i) (
    by_tests (eqb (bounded x.width) 32) (eqb (bounded x.width) 64) refl refl (not_false (eqb (bounded x.width) 32 || eqb (bounded x.width) 64) (when_none (not (eqb (bounded x.width) 32 || eqb (bounded x.width) 64)) x.width.place e))
    )
  where
    by_tests : (a b : Bool) → eqb (bounded x.width) 32 ≡ a → eqb (bounded x.width) 64 ≡ b → (a || b) ≡ true → (byte_of x.width ≡ 32) ⊎ (byte_of x.width ≡ 64)
    by_tests true b h i g = inl (let n : bounded x.width ≡ 32 = eqb-true _ _ h in ap byte n)
    by_tests false true h i g = inr (let n : bounded x.width ≡ 64 = eqb-true _ _ i in ap byte n)
    by_tests false false h i g = absurd cc
sure_width (d.Format x) f e (inr h) = absurd h
sure_width _ f e h = absurd h

pub format_widths : (t : Tree) → Kept t → (f : Format) → In f (flat_map format_of t.declarations) → (byte_of f.width ≡ 32) ⊎ (byte_of f.width ≡ 64)
format_widths t k f i =
    let at = from_flat_map format_of t.declarations f i in
    sure_width at.0 f (none_at format_width_at t.declarations k.format_width at.0 at.1) at.2

few_before : (b : List FormatDecl) (w a c n : ℕ) → (w ≡ 32) ⊎ (w ≡ 64) → number (made_width 32) b + a ≤ 16 → number (made_width 64) b + c ≤ 16 → number (made_width w) b ≤ 255
few_before b w a c n (inl e) h g = subst (λ v. number (made_width v) b ≤ 255) (sym e) (omega (arith, h))
few_before b w a c n (inr e) h g = subst (λ v. number (made_width v) b ≤ 255) (sym e) (omega (arith, g))

number_push : (w : ℕ) (b : List FormatDecl) (f : FormatDecl) (rest : List FormatDecl) → number (made_width w) b + number (made_width w) (f ∷ rest) ≤ 16 → number (made_width w) (b ++ f ∷ []) + number (made_width w) rest ≤ 16
number_push w b f rest h = by_test (made_width w f) (number_append (made_width w) b (f ∷ [])) h
  where
    by_test : (c : Bool) → number (made_width w) (b ++ f ∷ []) ≡ number (made_width w) b + cond c 1 0 → number (made_width w) b + cond c (1 + number (made_width w) rest) (number (made_width w) rest) ≤ 16
        → number (made_width w) (b ++ f ∷ []) + number (made_width w) rest ≤ 16
    by_test true e h = omega (arith, e, h)
    by_test false e h = omega (arith, e, h)

same_front : (w : ℕ) (f : FormatDecl) (front b : List FormatDecl) → number (made_width w) front ≡ number (made_width w) b → number (made_width w) (f ∷ front) ≡ number (made_width w) (b ++ f ∷ [])
same_front w f front b e = by_test (made_width w f) (number_append (made_width w) b (f ∷ []))
  where
    by_test : (c : Bool) → number (made_width w) (b ++ f ∷ []) ≡ number (made_width w) b + cond c 1 0 → cond c (1 + number (made_width w) front) (number (made_width w) front) ≡ number (made_width w) (b ++ f ∷ [])
    by_test true h = omega (arith, h, e)
    by_test false h = omega (arith, h, e)

eqb_same : (a b : ℕ) → a ≡ b → eqb a b ≡ true
eqb_same a b e = subst (λ c. eqb a c ≡ true) e (grind arith)

numbered_from : (t : Tree) (ops : List OpDecl) (front b : List FormatDecl) (xs : List Format) → ((w : ℕ) → number (made_width w) front ≡ number (made_width w) b)
    → ((x : Format) → In x xs → (byte_of x.width ≡ 32) ⊎ (byte_of x.width ≡ 64))
    → number (made_width 32) b + number (made_width 32) (formats_behind t ops b xs) ≤ 16 → number (made_width 64) b + number (made_width 64) (formats_behind t ops b xs) ≤ 16
    → numbered front (formats_behind t ops b xs) ≡ true
numbered_from t ops front b [] same sure h g = refl
numbered_from t ops front b (x ∷ xs) same sure h g =
    let f = format t ops b x in
    let w = byte_of x.width in
    let few : number (made_width w) b ≤ 255 = few_before b w (number (made_width 32) (formats_behind t ops b (x ∷ xs))) (number (made_width 64) (formats_behind t ops b (x ∷ xs))) 0 (sure x (inl refl)) h g in
    let counted : formats_of_width w b ≡ number (made_width w) b = sym (number_is (made_width w) b) in
    let kept : byte (formats_of_width w b) ≡ formats_of_width w b = omega (arith, few, counted) in
    let is : f.number ≡ formats_of_width w front = kept ∙ counted ∙ sym (same w) ∙ number_is (made_width w) front in
    let rest = numbered_from t ops (f ∷ front) (b ++ f ∷ []) xs (λ v. same_front v f front b (same v)) (λ y i. sure y (inr i))
    (number_push 32 b f (formats_behind t ops (b ++ f ∷ []) xs) h) (number_push 64 b f (formats_behind t ops (b ++ f ∷ []) xs) g) in
    ap (λ c. c && numbered (f ∷ front) (formats_behind t ops (b ++ f ∷ []) xs)) (eqb_same f.number (formats_of_width w front) is) ∙ rest

pub formats_numbered : (t : Tree) (ops : List OpDecl) → Kept t → numbered [] (formats t ops) ≡ true
formats_numbered t ops k =
    numbered_from t ops [] [] (flat_map format_of t.declarations) (λ w. refl) (format_widths t k) (omega (arith, few_of_width t ops 32 (lit< tt) k)) (omega (arith, few_of_width t ops 64 (lit< tt) k))
