-- Descriptions of one text have the same image of a source.
use Rattle.std.proofs.Common.{◌≡◌, ℕ, zero, suc, ◌+◌, Bool, cond, not, List, [], ◌∷◌, ◌++◌, length, map, Option, Some, None, refl, sym, ap, subst, ◌∙◌}
use Rattle.std.proofs.Math.Path.{fun_ext}
use Rattle.std.specs.Prelude.{nat_lt, slice_get}
use Rattle.std.specs.List.{position, position_or_len, prefix_len, flat_map}
use Rattle.std.specs.Str.{bytes_eq}
use Rattle.tie_expr.specs.declared.node.Node.{Node}
use Rattle.tie_front.specs.tie_rules.Schedules.{opcodes}
use Rattle.tie_desc.specs.Invariant.{formats_of_width}
use Rattle.tie_lexer.proofs.Law.{one_list}
use Rattle.tie_grammar.specs.declared.symbol.Leaf.{Leaf}
use Rattle.tie_grammar.specs.declared.tree.Tree.{Tree}
use Rattle.tie_grammar.specs.declared.tree.Operation.{Operation}
use Rattle.tie_grammar.specs.declared.tree.Format.{Format}
use Rattle.tie_ast.specs.Parsing.{IsTreeOf}
use Rattle.tie_ast.proofs.ParseLaw.{one_tree}
use Rattle.tie_desc.specs.Description.{Description}
use Rattle.tie_desc.specs.Slots.{op_args}
use Rattle.tie_desc.specs.declared.declarations.OpDecl.{OpDecl}
use Rattle.tie_desc.specs.declared.formats.Code.{Code}
use Rattle.tie_desc.specs.declared.formats.SlotDecl.{SlotDecl}
use Rattle.tie_desc.specs.declared.formats.FormatDecl.{FormatDecl}
use Rattle.tie_front.specs.tie_describe.Declarations.{byte, byte_of}
use Rattle.tie_front.specs.tie_describe.Operations.{operations, operation, with_results}
use Rattle.tie_front.specs.tie_describe.Formats.{op_or_core, code_of, slot, format, formats_behind, format_of, formats}
use Rattle.tie_front.specs.tie_describe.Described.{ops, described}
use Rattle.tie_front.specs.tie_check.Checked.{Accepted}
use Rattle.tie_front.specs.Front.{IsDescriptionOf}
use Rattle.xt_asm.specs.Assembly.{assembly}
use Rattle.asm_law.proofs.SameImage.{AreAlike, swap, assembly_same}

-- ---- operations with other results

length_same : (t : Tree) (os : List Operation) (r : List (List Node)) → length (with_results t os r) ≡ length (with_results t os [])
length_same t [] r = refl
length_same t (o ∷ os) [] = refl
length_same t (o ∷ os) (x ∷ r) = ap suc (length_same t os r)

prefix_same : (t : Tree) (os : List Operation) (r : List (List Node)) (name : List ℕ)
    → position_or_len (λ (op : OpDecl). bytes_eq op.name name) (with_results t os r) ≡ position_or_len (λ (op : OpDecl). bytes_eq op.name name) (with_results t os [])
prefix_same t [] r name = refl
prefix_same t (o ∷ os) [] name = refl
prefix_same t (o ∷ os) (x ∷ r) name = ap (λ n. cond (not (bytes_eq o.name.bytes name)) (1 + n) 0) (prefix_same t os r name)

position_same : (t : Tree) (os : List Operation) (r : List (List Node)) (name : List ℕ)
    → position (λ (op : OpDecl). bytes_eq op.name name) (with_results t os r) ≡ position (λ (op : OpDecl). bytes_eq op.name name) (with_results t os [])
position_same t os r name =
    ap (λ n. cond (nat_lt n (length (with_results t os r))) (Some n) None) (prefix_same t os r name)
    ∙ ap (λ k. cond (nat_lt (position_or_len (λ (op : OpDecl). bytes_eq op.name name) (with_results t os [])) k) (Some (position_or_len (λ (op : OpDecl). bytes_eq op.name name) (with_results t os []))) None) (length_same t os r)

arguments_same : (t : Tree) (os : List Operation) (r : List (List Node)) (i : ℕ) → op_args (slice_get (with_results t os r) i) ≡ op_args (slice_get (with_results t os []) i)
arguments_same t [] r i = refl
arguments_same t (o ∷ os) [] i = refl
arguments_same t (o ∷ os) (x ∷ r) zero = refl
arguments_same t (o ∷ os) (x ∷ r) (suc i) = arguments_same t os r i

alike : (t : Tree) (r : List (List Node)) → AreAlike (described t []) (ops t r)
alike t r = record { named = position_same t (operations t) r; args = arguments_same t (operations t) r }

-- ---- formats

code_same : (t : Tree) (r : List (List Node)) → code_of (ops t r) ≡ code_of (ops t [])
code_same t r = fun_ext (λ (leaf : Leaf). ap (λ (p : Option ℕ). op_or_core p leaf.bytes) (position_same t (operations t) r leaf.bytes))

slot_same : (t : Tree) (r : List (List Node)) → slot t (ops t r) ≡ slot t (ops t [])
slot_same t r = ap (λ (f : Leaf → Code). λ (leaf : Leaf). record { name = leaf.bytes; codes = map f (opcodes t leaf) }) (code_same t r)

format_same : (t : Tree) (r : List (List Node)) → format t (ops t r) ≡ format t (ops t [])
format_same t r =
    ap
    (λ (f : Leaf → SlotDecl). λ (before : List FormatDecl) (x : Format). record {
      name = x.name.bytes;
      width = byte_of x.width;
      number = byte (formats_of_width (byte_of x.width) before);
      slots = map f x.slots;
    })
    (slot_same t r)

behind_same : (t : Tree) (r : List (List Node)) (before : List FormatDecl) (xs : List Format) → formats_behind t (ops t r) before xs ≡ formats_behind t (ops t []) before xs
behind_same t r before [] = refl
behind_same t r before (x ∷ xs) =
    ap (λ (f : List FormatDecl → Format → FormatDecl). f before x ∷ formats_behind t (ops t r) (before ++ f before x ∷ []) xs) (format_same t r)
    ∙ ap (λ (fs : List FormatDecl). format t (ops t []) before x ∷ fs) (behind_same t r (before ++ format t (ops t []) before x ∷ []) xs)

formats_same : (t : Tree) (r : List (List Node)) → formats t (ops t r) ≡ formats t (ops t [])
formats_same t r = behind_same t r [] (flat_map format_of t.declarations)

-- ---- the image

with_formats : Tree → List (List Node) → List FormatDecl → Description
with_formats t r fs = record (described t r) { formats = fs }

outlined : (t : Tree) (r : List (List Node)) → described t r ≡ swap (described t []) (ops t r)
unfolding with_formats
outlined t r = ap (with_formats t r) (formats_same t r)

image_of_tree : (t : Tree) (r : List (List Node)) (source : List ℕ) → assembly (described t r) source ≡ assembly (described t []) source
image_of_tree t r source = ap (λ (d : Description). assembly d source) (outlined t r) ∙ assembly_same (described t []) (ops t r) (alike t r) source

trees : (text : List ℕ) (d e : Description) (p : IsDescriptionOf text d) (q : IsDescriptionOf text e) → p.tree ≡ q.tree
trees text d e p q = one_tree text q.tokens p.tree q.tree (subst (λ z. IsTreeOf text z p.tree) (one_list text p.tokens q.tokens p.lexed q.lexed) p.parsed) q.parsed

accepted_image : (t : Tree) (d : Description) (source : List ℕ) → Accepted t d → assembly d source ≡ assembly (described t []) source
accepted_image t d source a = ap (λ (z : Description). assembly z source) a.describes.declared ∙ image_of_tree t a.describes.results source

pub one_image : (text : List ℕ) (d e : Description) → IsDescriptionOf text d → IsDescriptionOf text e → (source : List ℕ) → assembly d source ≡ assembly e source
one_image text d e p q source =
    accepted_image p.tree d source p.accepted
    ∙ ap (λ (t : Tree). assembly (described t []) source) (trees text d e p q)
    ∙ sym (accepted_image q.tree e source q.accepted)
