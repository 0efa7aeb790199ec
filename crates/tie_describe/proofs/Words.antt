-- Names that are words, of parts of a declaration.
use Rattle.std.proofs.Common.{◌≡◌, ℕ, zero, suc, ◌+◌, ◌<◌, IsTrue, List, [], ◌∷◌, ◌++◌, refl, ap, sym, subst, ◌∙◌, arith, map, length, get_or, length-append}
use Rattle.std.specs.List.{All}
use Rattle.tie_desc.specs.Names.{is_word}
use Rattle.tie_grammar.specs.declared.symbol.Leaf.{Leaf}
use Rattle.tie_grammar.specs.declared.tree.Argument.{Argument}
use Rattle.tie_grammar.specs.declared.tree.Link.{Link}
use Rattle.tie_grammar.specs.declared.tree.Operation.{Operation}
use Rattle.tie_grammar.specs.declared.tree.Decl.{Decl}
use Rattle.tie_grammar.specs.declared.tree.Decl.TheVariants as d
use Rattle.tie_describe.specs.Scope.{HasWords}

abbrev pub IsWord : Leaf → Type 0
IsWord leaf = IsTrue (is_word leaf.bytes)

pub all_tail : {A : Type 0} (P : A → Type 0) (x : A) (xs : List A) → All P (x ∷ xs) → All P xs
all_tail P x xs h = λ k d l. h (suc k) d (omega (arith, l))

pub all_left : {A : Type 0} (P : A → Type 0) (xs ys : List A) → All P (xs ++ ys) → (k : ℕ) (d : A) → k < length xs → P (get_or xs k d)
all_left P [] ys h k d l = absurd (omega (arith, l))
all_left P (x ∷ xs) ys h zero d l = h 0 d (omega arith)
all_left P (x ∷ xs) ys h (suc k) d l = all_left P xs ys (all_tail P x (xs ++ ys) h) k d (omega (arith, l))

pub all_right : {A : Type 0} (P : A → Type 0) (xs ys : List A) → All P (xs ++ ys) → All P ys
all_right P [] ys h = h
all_right P (x ∷ xs) ys h = all_right P xs ys (all_tail P x (xs ++ ys) h)

pub all_of_map : {A B : Type 0} (P : B → Type 0) (f : A → B) (xs : List A) → All P (map f xs) → (k : ℕ) (d : A) → k < length xs → P (f (get_or xs k d))
all_of_map P f [] h k d l = absurd (omega (arith, l))
all_of_map P f (x ∷ xs) h zero d l = h 0 (f d) (omega arith)
all_of_map P f (x ∷ xs) h (suc k) d l = all_of_map P f xs (all_tail P (f x) (map f xs) h) k d (omega (arith, l))

pub slot_words : (x : Leaf) (slots found : List Leaf) → found ≡ slots → All IsWord (x ∷ slots) → All IsWord found
slot_words x slots found e h = subst (λ (xs : List Leaf). All IsWord xs) (sym e) (all_tail IsWord x slots h)

pub argument_words : (o : Operation) (xs : List Argument) → xs ≡ o.arguments → HasWords (d.Operation o) → All (λ (x : Argument). IsTrue (is_word x.name.bytes)) xs
argument_words o xs e h =
    let names = map (λ (a : Argument). a.name) o.arguments in
    let links = map (λ (a : Link). a.name) o.links in
    let these = all_left IsWord names links (all_tail IsWord o.name (names ++ links) h) in
    subst (λ (ys : List Argument). All (λ (x : Argument). IsTrue (is_word x.name.bytes)) ys) (sym e) (all_of_map IsWord (λ (a : Argument). a.name) o.arguments these)

pub link_words : (o : Operation) (xs : List Link) → xs ≡ o.links → HasWords (d.Operation o) → All (λ (x : Link). IsTrue (is_word x.name.bytes)) xs
link_words o xs e h =
    let names = map (λ (a : Argument). a.name) o.arguments in
    let links = map (λ (a : Link). a.name) o.links in
    let these = all_right IsWord names links (all_tail IsWord o.name (names ++ links) h) in
    subst (λ (ys : List Link). All (λ (x : Link). IsTrue (is_word x.name.bytes)) ys) (sym e) (all_of_map IsWord (λ (a : Link). a.name) o.links these)

pub words_at : (decls : List Decl) (i : ℕ) (x y : Decl) → All HasWords decls → i < length decls → x ≡ get_or decls i x → x ≡ y → HasWords y
words_at decls i x y h l e is = subst HasWords (sym e ∙ is) (h i x l)

pub words_of : (x y : Decl) → HasWords x → x ≡ y → HasWords y
words_of x y h e = subst HasWords e h
