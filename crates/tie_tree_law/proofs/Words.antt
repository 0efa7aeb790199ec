-- The names of a tree that was read are words.
use Rattle.std.proofs.Common.{◌≡◌, ℕ, suc, ◌+◌, ◌-◌, ◌≤◌, Bool, true, false, cond, List, [], ◌∷◌, ◌++◌, length, drop, map, refl, sym, subst, arith, ◌∙◌, Option, Some, None, is_some, All, IsTrue, length-take, length-drop, le-leb, take_all, ◌&&◌, ◌||◌, ◌==◌, nat_le, slice_index}
use Rattle.std.specs.List.{AllByRecursion, prefix_len, list_all, flat_map}
use Rattle.std.specs.Char.{is_ascii_alphabetic}
use Rattle.std.proofs.lemmas.List.Elements.{All-from_recursion}
use Rattle.tie_lexer.specs.Bytes as b
use Rattle.tie_lexer.specs.declared.TokenKind.{TokenKind}
use Rattle.tie_lexer.specs.declared.TokenKind.TheVariants as kind
use Rattle.tie_lexer.specs.declared.Token.{Token}
use Rattle.tie_lexer.specs.Pieces.{IsToken, is_mark}
use Rattle.tie_lexer.specs.Tokens.{IsAlone, IsInText, bytes_of}
use Rattle.tie_lexer.proofs.Standing.{in_text, alone}
use Rattle.tie_ast.specs.Symbols.{Row, symbols, symbol_of, symbol_by, leaf_of, reserved, reserved_or_name, lookup, or_else, is, declaration_words, item_words, kept_words, brackets, separators, bit_signs, number_signs}
use Rattle.tie_desc.specs.Names.{is_word, is_word_byte}
use Rattle.tie_grammar.specs.declared.symbol.Leaf.{Leaf}
use Rattle.tie_grammar.specs.declared.symbol.Symbol.{Symbol}
use Rattle.tie_grammar.specs.declared.symbol.Symbol.TheVariants as s
use Rattle.tie_grammar.specs.declared.tree.Argument.{Argument}
use Rattle.tie_grammar.specs.declared.tree.Link.{Link}
use Rattle.tie_grammar.specs.declared.tree.Operation.{Operation}
use Rattle.tie_grammar.specs.declared.tree.Decl.{Decl}
use Rattle.tie_grammar.specs.declared.tree.Decl.TheVariants as d
use Rattle.tie_grammar.specs.declared.tree.Tree.{Tree}
use Rattle.tie_grammar.specs.Spelling as spelling
use Rattle.tie_tree_law.specs.Shape.{IsRead, NamesAreWords, kept_names}
use Rattle.tie_tree_law.proofs.Marks.{mark_is_kept}

-- a name is a word
abbrev pub IsFine : Symbol → Type 0
IsFine (s.Name leaf) = IsTrue (is_word leaf.bytes)
IsFine _ = Unit {0}

abbrev AreFine : List Symbol → Type 0
AreFine = AllByRecursion IsFine

-- ---- words of the grammar

abbrev IsFineOption : Option Symbol → Type 0
IsFineOption None = Unit {0}
IsFineOption (Some x) = IsFine x

lookup_by : (place : ℕ) (test : Bool) (row : Row) (rest : Option Symbol) → IsFine (row.1 place) → IsFineOption rest → IsFineOption (cond test (Some (row.1 place)) rest)
lookup_by place true row rest here h = here
lookup_by place false row rest here h = h

lookup_fine : (bytes : List ℕ) (place : ℕ) (rows : List Row) → AllByRecursion (λ row. IsFine (row.1 place)) rows → IsFineOption (lookup bytes place rows)
lookup_fine bytes place [] all = tt
lookup_fine bytes place (row ∷ rows) all = lookup_by place (is bytes row.0) row (lookup bytes place rows) all.0 (lookup_fine bytes place rows all.1)

or_fine : (x y : Option Symbol) → IsFineOption x → IsFineOption y → IsFineOption (or_else x y)
or_fine None y hx hy = hy
or_fine (Some x) y hx hy = hx

reserved_fine : (bytes : List ℕ) (place : ℕ) → IsFineOption (reserved bytes place)
reserved_fine bytes place =
    or_fine (lookup bytes place declaration_words) _ (lookup_fine bytes place declaration_words (tt, (tt, (tt, (tt, (tt, (tt, (tt, (tt, (tt, (tt, tt)))))))))))
    (or_fine (lookup bytes place item_words) _ (lookup_fine bytes place item_words (tt, (tt, (tt, (tt, tt)))))
    (or_fine (lookup bytes place kept_words) _ (lookup_fine bytes place kept_words (tt, (tt, (tt, (tt, (tt, (tt, (tt, (tt, tt)))))))))
    (or_fine (lookup bytes place brackets) _ (lookup_fine bytes place brackets (tt, (tt, (tt, (tt, (tt, (tt, tt)))))))
    (or_fine (lookup bytes place separators) _ (lookup_fine bytes place separators (tt, (tt, (tt, (tt, (tt, tt))))))
    (or_fine (lookup bytes place bit_signs) _ (lookup_fine bytes place bit_signs (tt, (tt, (tt, (tt, (tt, (tt, (tt, tt))))))))
    (lookup_fine bytes place number_signs (tt, (tt, (tt, (tt, (tt, (tt, (tt, (tt, (tt, (tt, (tt, tt)))))))))))))))))

-- ---- tokens

-- a byte of a word
same_byte : (x : ℕ) → b.is_word_byte x ≡ true → is_word_byte x ≡ true
same_byte x h = rearranged (b.is_between 65 90 x) (b.is_between 97 122 x) (b.is_between 48 57 x) (x == 95) h
  where
    rearranged : (upper lower digit other : Bool) → (((upper || lower) || digit) || other) ≡ true → (((digit || upper) || lower) || other) ≡ true
    rearranged true true true other h = refl
    rearranged true true false other h = refl
    rearranged true false true other h = refl
    rearranged true false false other h = refl
    rearranged false true true other h = refl
    rearranged false true false other h = refl
    rearranged false false true other h = refl
    rearranged false false false other h = h

all_by : (x r : ℕ) (t : Bool) (xs : List ℕ) → b.is_word_byte x ≡ t → cond t (1 + prefix_len b.is_word_byte xs) 0 ≡ suc (length xs) → (prefix_len b.is_word_byte xs ≡ length xs → list_all is_word_byte xs ≡ true) → (is_word_byte x && list_all is_word_byte xs) ≡ true
all_by x r true xs here long go =
    let rest : prefix_len b.is_word_byte xs ≡ length xs = omega (arith, long) in
    rw (same_byte x here, go rest) refl
all_by x r false xs here long go = absurd (omega (arith, long))

all_bytes : (xs : List ℕ) → prefix_len b.is_word_byte xs ≡ length xs → list_all is_word_byte xs ≡ true
all_bytes [] h = refl
all_bytes (x ∷ xs) h = all_by x 0 (b.is_word_byte x) xs refl h (all_bytes xs)

within : (n : ℕ) → n ≤ 32 → nat_le n 32 ≡ true
within n h = le-leb n 32 h

word_is_word : (bytes : List ℕ) (n : ℕ) → length bytes ≡ n → IsToken bytes kind.Word n → IsTrue (is_word bytes)
word_is_word bytes n long h =
    let letter : is_ascii_alphabetic (slice_index bytes 0) ≡ true = h.0.0 in
    let all = all_bytes bytes (sym h.0.1 ∙ sym long) in
    let short = within (length bytes) (omega (arith, long, h.1)) in
    rw (letter, all, short) refl

by_reserved : (leaf : Leaf) (o : Option Symbol) → IsFineOption o → IsTrue (is_word leaf.bytes) → IsFine (reserved_or_name leaf o)
by_reserved leaf None fine word = word
by_reserved leaf (Some x) fine word = fine

by_kept : (leaf : Leaf) (o : Option Symbol) → IsFineOption o → is_some o ≡ true → IsFine (reserved_or_name leaf o)
by_kept leaf None fine kept = cc
by_kept leaf (Some x) fine kept = fine

symbol_fine : (leaf : Leaf) (k : TokenKind) → IsToken leaf.bytes k (length leaf.bytes) → IsFine (symbol_by leaf k)
symbol_fine leaf kind.Number h = tt
symbol_fine leaf kind.Sized h = tt
symbol_fine leaf kind.Word h = by_reserved leaf (reserved leaf.bytes leaf.place) (reserved_fine leaf.bytes leaf.place) (word_is_word leaf.bytes (length leaf.bytes) refl h)
symbol_fine leaf kind.Mark h =
    let mark : is_mark leaf.bytes ≡ true = subst (λ xs. is_mark xs ≡ true) (take_all (length leaf.bytes) leaf.bytes (omega arith)) h.0.mark in
    by_kept leaf (reserved leaf.bytes leaf.place) (reserved_fine leaf.bytes leaf.place) (mark_is_kept leaf.place leaf.bytes mark)

token_fine : (text : List ℕ) (t : Token) → IsInText text t → IsAlone text t → IsFine (symbol_of text t)
token_fine text t inside h =
    let behind = length-drop t.start text in
    let front = length-take (t.end - t.start) (drop t.start text) in
    let long : length (bytes_of text t) ≡ t.end - t.start = omega (arith, inside.0, inside.1, behind, front) in
    symbol_fine (leaf_of text t) t.kind (subst (λ (n : ℕ). IsToken (bytes_of text t) t.kind n) (sym long) h)

tokens_fine : (text : List ℕ) (ts : List Token) → AllByRecursion (IsInText text) ts → AllByRecursion (IsAlone text) ts → AreFine (symbols text ts)
tokens_fine text [] inside h = tt
tokens_fine text (t ∷ ts) inside h = (token_fine text t inside.0 h.0, tokens_fine text ts inside.1 h.1)

-- ---- trees

left : (xs ys : List Symbol) → AreFine (xs ++ ys) → AreFine xs
left [] ys h = tt
left (x ∷ xs) ys h = (h.0, left xs ys h.1)

right : (xs ys : List Symbol) → AreFine (xs ++ ys) → AreFine ys
right [] ys h = h
right (x ∷ xs) ys h = right xs ys h.1

abbrev Words : List Leaf → Type 0
Words = AllByRecursion (λ n. IsTrue (is_word n.bytes))

more_words : (xs : List Leaf) → AreFine (flat_map (spelling.behind_comma spelling.name) xs) → Words xs
more_words [] h = tt
more_words (x ∷ xs) h = (h.1.0, more_words xs h.1.1)

name_words : (xs : List Leaf) → AreFine (spelling.commas spelling.name xs) → Words xs
name_words [] h = tt
name_words (x ∷ xs) h = (h.0, more_words xs h.1)

more_arguments : (xs : List Argument) → AreFine (flat_map (spelling.behind_comma spelling.argument) xs) → Words (map (λ a. a.name) xs)
more_arguments [] h = tt
more_arguments (x ∷ xs) h = (h.1.1.1.0, more_arguments xs h.1.1.1.1)

argument_words : (xs : List Argument) → AreFine (spelling.commas spelling.argument xs) → Words (map (λ a. a.name) xs)
argument_words [] h = tt
argument_words (x ∷ xs) h = (h.1.1.0, more_arguments xs h.1.1.1)

more_links : (xs : List Link) → AreFine (flat_map (spelling.behind_comma spelling.link) xs) → Words (map (λ l. l.name) xs)
more_links [] h = tt
more_links (x ∷ xs) h = (h.1.1.0, more_links xs h.1.1.1)

link_words : (xs : List Link) → AreFine (spelling.commas spelling.link xs) → Words (map (λ l. l.name) xs)
link_words [] h = tt
link_words (x ∷ xs) h = (h.1.0, more_links xs h.1.1)

joined : (xs ys : List Leaf) → Words xs → Words ys → Words (xs ++ ys)
joined [] ys hx hy = hy
joined (x ∷ xs) ys hx hy = (hx.0, joined xs ys hx.1 hy)

operation_words : (o : Operation) → AreFine (spelling.operation o) → Words (kept_names (d.Operation o))
operation_words o h =
    let arguments = left (spelling.commas spelling.argument o.arguments) _ h.1.1.1 in
    let behind = right (spelling.commas spelling.argument o.arguments) _ h.1.1.1 in
    let links = left (spelling.commas spelling.link o.links) _ behind.1.1 in
    (h.1.0, joined (map (λ a. a.name) o.arguments) (map (λ l. l.name) o.links) (argument_words o.arguments arguments) (link_words o.links links))

decl_words : (x : Decl) → AreFine (spelling.decl x) → Words (kept_names x)
decl_words (d.State x) h = (h.1.0, tt)
decl_words (d.Regfile x) h = (h.1.0, (h.1.1.1.1.0, tt))
decl_words (d.QueueIn x) h = (h.1.0, tt)
decl_words (d.QueueOut x) h = (h.1.0, tt)
decl_words (d.Table x) h = (h.1.0, tt)
decl_words (d.ImmediateRange x) h = (h.1.0, tt)
decl_words (d.Function f) h = ((right (spelling.maybe_range f.range) _ h.1).0, tt)
decl_words (d.Operation o) h = operation_words o h
decl_words (d.Schedule x) h = (h.1.0, tt)
decl_words (d.Format x) h = (h.1.0, name_words x.slots (left (spelling.commas spelling.name x.slots) _ h.1.1.1.1))
decl_words (d.SlotOpcodes x) h = (h.1.0, name_words x.opcodes (left (spelling.commas spelling.name x.opcodes) _ h.1.1.1))

decls_words : (xs : List Decl) → AreFine (flat_map spelling.decl xs) → AllByRecursion (λ decl. All (λ n. IsTrue (is_word n.bytes)) (kept_names decl)) xs
decls_words [] h = tt
decls_words (x ∷ xs) h =
    (All-from_recursion (λ n. IsTrue (is_word n.bytes)) (kept_names x) (decl_words x (left (spelling.decl x) _ h)), decls_words xs (right (spelling.decl x) _ h))

pub words : (t : Tree) → IsRead t → NamesAreWords t
words t read =
    let tokens = tokens_fine read.0 read.1 (in_text read.0 read.1 read.2) (alone read.0 read.1 read.2) in
    let fine = subst AreFine (sym read.3.tree_is.spelled) tokens in
    All-from_recursion (λ decl. All (λ n. IsTrue (is_word n.bytes)) (kept_names decl)) t.declarations (decls_words t.declarations fine)

pub text : (t : Tree) → IsRead t → spelling.IsText t
text t read = read.3.tree_is.fits
