-- Names are ASCII, and their filling doesn't hide them.
use Rattle.std.proofs.Common.{◌≡◌, ℕ, zero, suc, ◌+◌, ◌-◌, ◌<◌, Bool, true, false, List, length, take, arith, refl, subst, ap, ◌∙◌, zero-add}
use Rattle.std.specs.Prelude.{slice_get, ◌≢◌, Some, map, ◌++◌, [], ◌∷◌}
use Rattle.std.specs.Option.{option_map}
use Rattle.std.specs.List.{list_all, position}
use Rattle.std.specs.Str.{IsAscii, bytes_eq}
use Rattle.std.proofs.lemmas.Slice.Eq.{bytes_eq-Decides}
use Rattle.std.proofs.lemmas.Option.{slice_get-map}
use Rattle.std.proofs.Math.Seq.{take-append_seam}
use Rattle.std.proofs.Math.ListN.{replicate}
use Rattle.std.proofs.lemmas.Bool.Decides.{nat_tests}
use Rattle.tie_desc.proofs.Lists.{both_left, both_right, all_differ-left, all_differ-right, all_differ-apart, position-same}
use Rattle.tie_desc.specs.Names.{is_word, is_word_byte, padded, all_differ}
use Rattle.tie_desc.specs.Description.{Description}
use Rattle.tie_desc.specs.Invariant.{IsDescription}
use Rattle.tie_desc.specs.declared.declarations.FileDecl.{FileDecl}
use Rattle.tie_desc.specs.declared.declarations.QueueDecl.{QueueDecl}
use Rattle.tie_desc.specs.declared.declarations.OpDecl.{OpDecl}
use Rattle.tie_desc.specs.declared.formats.FormatDecl.{FormatDecl}

-- the list is what stands in front
pub take-padded : (bytes : List ℕ) → take (length bytes) (padded bytes) ≡ bytes
take-padded bytes = take-append_seam bytes (replicate (32 - length bytes) 0)

pub word_byte_below : (b : ℕ) → is_word_byte b ≡ true → b < 128
word_byte_below b h = grind (arith, nat_tests)

-- each byte is ASCII; behind the end there is none
pub word_is_ascii : (bytes : List ℕ) → is_word bytes ≡ true → IsAscii bytes
word_is_ascii bytes h = all_ascii bytes (all_word bytes h)
  where
    all_word : (xs : List ℕ) → is_word xs ≡ true → list_all is_word_byte xs ≡ true
    all_word xs e = grind (arith, nat_tests)

    all_ascii : (xs : List ℕ) → list_all is_word_byte xs ≡ true → IsAscii xs
    all_ascii [] e i = omega arith
    all_ascii (x ∷ xs) e zero = word_byte_below x (both_left (is_word_byte x) (list_all is_word_byte xs) e)
    all_ascii (x ∷ xs) e (suc i) = all_ascii xs (both_right (is_word_byte x) (list_all is_word_byte xs) e) i

-- ---- declared names

pub bytes_eq-own : (bytes : List ℕ) → bytes_eq bytes bytes ≡ true
bytes_eq-own bytes = (bytes_eq-Decides bytes bytes).1 refl

abbrev names_before_ops : Description → List (List ℕ)
names_before_ops d = map (λ x. x.name) d.states ++ map (λ x. x.name) d.files ++ map (λ x. x.name) d.ranges

abbrev names_to_ops : Description → List (List ℕ)
names_to_ops d = names_before_ops d ++ map (λ x. x.name) d.ops

abbrev names_to_formats : Description → List (List ℕ)
names_to_formats d = names_to_ops d ++ map (λ x. x.name) d.formats

abbrev names_to_ins : Description → List (List ℕ)
names_to_ins d = names_to_formats d ++ map (λ x. x.name) d.ins

ins_differ : (d : Description) → IsDescription d → all_differ bytes_eq (names_to_ins d) ≡ true
ins_differ d ok = all_differ-left bytes_eq (names_to_ins d) (map (λ x. x.name) d.outs) ok.names.declared

formats_differ : (d : Description) → IsDescription d → all_differ bytes_eq (names_to_formats d) ≡ true
formats_differ d ok = all_differ-left bytes_eq (names_to_formats d) (map (λ x. x.name) d.ins) (ins_differ d ok)

ops_differ : (d : Description) → IsDescription d → all_differ bytes_eq (names_to_ops d) ≡ true
ops_differ d ok = all_differ-left bytes_eq (names_to_ops d) (map (λ x. x.name) d.formats) (formats_differ d ok)

-- an element is the one of its name
pub op_named-own : (d : Description) (i : ℕ) (o : OpDecl) → IsDescription d → slice_get d.ops i ≡ Some o → position (λ p. bytes_eq p.name o.name) d.ops ≡ Some i
op_named-own d i o ok here =
    position-same bytes_eq bytes_eq-own (λ p. p.name) d.ops i o
    (all_differ-right bytes_eq (names_before_ops d) (map (λ x. x.name) d.ops) (ops_differ d ok)) here

pub format_named-own : (d : Description) (i : ℕ) (f : FormatDecl) → IsDescription d → slice_get d.formats i ≡ Some f → position (λ g. bytes_eq g.name f.name) d.formats ≡ Some i
format_named-own d i f ok here =
    position-same bytes_eq bytes_eq-own (λ g. g.name) d.formats i f
    (all_differ-right bytes_eq (names_to_ops d) (map (λ x. x.name) d.formats) (formats_differ d ok)) here

pub input_named-own : (d : Description) (i : ℕ) (q : QueueDecl) → IsDescription d → slice_get d.ins i ≡ Some q → position (λ r. bytes_eq r.name q.name) d.ins ≡ Some i
input_named-own d i q ok here =
    position-same bytes_eq bytes_eq-own (λ r. r.name) d.ins i q
    (all_differ-right bytes_eq (names_to_formats d) (map (λ x. x.name) d.ins) (ins_differ d ok)) here

pub output_named-own : (d : Description) (i : ℕ) (q : QueueDecl) → IsDescription d → slice_get d.outs i ≡ Some q → position (λ r. bytes_eq r.name q.name) d.outs ≡ Some i
output_named-own d i q ok here =
    position-same bytes_eq bytes_eq-own (λ r. r.name) d.outs i q
    (all_differ-right bytes_eq (names_to_ins d) (map (λ x. x.name) d.outs) ok.names.declared) here

pub file_short_named-own : (d : Description) (i : ℕ) (f : FileDecl) → IsDescription d → slice_get d.files i ≡ Some f → position (λ g. bytes_eq g.short f.short) d.files ≡ Some i
file_short_named-own d i f ok here = position-same bytes_eq bytes_eq-own (λ g. g.short) d.files i f ok.names.shorts_differ here

-- no operation has the name of a format
pub op_and_format_differ : (d : Description) (i j : ℕ) (o : OpDecl) (f : FormatDecl) → IsDescription d → slice_get d.ops i ≡ Some o → slice_get d.formats j ≡ Some f → o.name ≢ f.name
op_and_format_differ d i j o f ok at_i at_j same =
    clash (bytes_eq o.name f.name)
    (all_differ-apart bytes_eq (names_to_ops d) (map (λ x. x.name) d.formats) (length (names_before_ops d) + i) j o.name f.name
    (formats_differ d ok) (at_second (names_before_ops d) (λ x. x.name) d.ops i o at_i) (at_image (λ x. x.name) d.formats j f at_j))
    ((bytes_eq-Decides o.name f.name).1 same)
  where
    clash : (b : Bool) → b ≡ false → b ≡ true → ⊥
    clash b h k = cc

    at_image : {A B : Type 0} (f : A → B) (xs : List A) (k : ℕ) (x : A) → slice_get xs k ≡ Some x → slice_get (map f xs) k ≡ Some (f x)
    at_image f xs k x here = slice_get-map f xs k ∙ ap (option_map f) here

    at_second : {A B : Type 0} (front : List B) (f : A → B) (xs : List A) (k : ℕ) (x : A) → slice_get xs k ≡ Some x → slice_get (front ++ map f xs) (length front + k) ≡ Some (f x)
    at_second [] f xs k x here = rw zero-add (at_image f xs k x here)
    at_second (y ∷ ys) f xs k x here =
        subst (λ n. slice_get ((y ∷ ys) ++ map f xs) n ≡ Some (f x)) (let e : suc (length ys + k) ≡ length (y ∷ ys) + k = omega arith in e) (at_second ys f xs k x here)
