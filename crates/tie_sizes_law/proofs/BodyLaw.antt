-- What a body sets, in a text that breaks no rule.
use Rattle.std.proofs.Common.{◌≡◌, ℕ, List, ◌++◌, true, ◌&&◌, ◌||◌, Some, refl, slice_get, bytes_eq}
use Rattle.std.specs.List.{flat_map, AllByRecursion}
use Rattle.std.specs.Cmp.Lexicographic.{bytes_decides}
use Rattle.std.proofs.lemmas.Bool.{and_from, or_left, or_right}
use Rattle.tie_mean.specs.Literals.{is_width}
use Rattle.tie_mean.specs.Values.{meaning}
use Rattle.tie_grammar.specs.declared.symbol.Leaf.{Leaf}
use Rattle.tie_grammar.specs.declared.tree.Expr.{Expr}
use Rattle.tie_grammar.specs.declared.tree.Item.{Item}
use Rattle.tie_grammar.specs.declared.tree.Item.TheVariants as i
use Rattle.tie_grammar.specs.declared.tree.Decl.{Decl}
use Rattle.tie_grammar.specs.declared.tree.Tree.{Tree}
use Rattle.tie_grammar.specs.Spelling.{Groups, IsItem}
use Rattle.tie_results.specs.Sound.{SoundBody, is_sound_item}
use Rattle.tie_rules.specs.Least.{NoPlace}
use Rattle.tie_rules.specs.Parts.{parts, at_parts}
use Rattle.tie_rules.specs.Names.{sees, names, own_name, has_argument, has_link, has_parameter, has_wire, declares_wire, names_seen, seen_widths, body}
use Rattle.tie_rules.specs.Declarations.{literal_here, in_item, in_body, bad_values_at}
use Rattle.tie_rules.specs.Bodies.{unseen, unknown_here, unknown_target, unknown_kind, unknown_link, unknown_in_schedule, arg_count_here, select_here, arg_size_here, size_here}
use Rattle.tie_rules.specs.Names as name
use Rattle.tie_sizes_law.proofs.Places.{left, right, holds}
use Rattle.tie_sizes_law.proofs.At.{of_each, to_each, places_at, any_at, all_from}
use Rattle.tie_sizes_law.proofs.Widths.{AreWide}
use Rattle.tie_sizes_law.proofs.Forms.{Seeing, IsClean}
use Rattle.tie_sizes_law.proofs.Parts.{AreClean, is_sized}
use Rattle.tie_sizes_law.proofs.Unbroken.{UnbrokenAt}

pub same_name : (n : List ℕ) → bytes_eq n n ≡ true
same_name n = (bytes_decides n n).1 refl

-- no rule is broken at the items of a body
pub record IsCleanBody (t : Tree) (decl : Decl) : Type 0 where
  pub literals : NoPlace (in_body literal_here decl)
  pub targets : NoPlace (flat_map (unknown_target decl) (body decl))
  pub known : NoPlace (in_body (unknown_here t decl) decl)
  pub counts : NoPlace (in_body (arg_count_here t) decl)
  pub selects : NoPlace (in_body (select_here (seen_widths t decl)) decl)
  pub arguments : NoPlace (in_body (arg_size_here (seen_widths t decl)) decl)
  pub sizes : NoPlace (in_body (size_here (seen_widths t decl)) decl)

-- the rules that are judged of a body's names
abbrev pub unknown_operands : Tree → Decl → List ℕ
unknown_operands t decl = flat_map (unknown_kind t) (name.arguments decl) ++ flat_map (unknown_link t) (name.links decl)

pub clean_body : (t : Tree) (before : List Decl) (decl : Decl) → UnbrokenAt t before decl → IsCleanBody t decl
clean_body t before decl u =
    let items : List ℕ = flat_map (unknown_target decl) (body decl) ++ in_body (unknown_here t decl) decl in
    let known = left items (unknown_in_schedule t decl) (right (unknown_operands t decl) (items ++ unknown_in_schedule t decl) u.known) in
    record {
      literals = right (bad_values_at decl) (in_body literal_here decl) u.literals;
      targets = left (flat_map (unknown_target decl) (body decl)) (in_body (unknown_here t decl) decl) known;
      known = right (flat_map (unknown_target decl) (body decl)) (in_body (unknown_here t decl) decl) known;
      counts = u.counts;
      selects = u.selects;
      arguments = u.arguments;
      sizes = u.sizes;
    }

-- no rule is broken at the parts of what an item sets
record AreCleanParts (t : Tree) (decl : Decl) (x : Expr) : Type 0 where
  literals : NoPlace (at_parts literal_here x)
  known : NoPlace (at_parts (unknown_here t decl) x)
  counts : NoPlace (at_parts (arg_count_here t) x)
  selects : NoPlace (at_parts (select_here (seen_widths t decl)) x)
  arguments : NoPlace (at_parts (arg_size_here (seen_widths t decl)) x)
  sizes : NoPlace (at_parts (size_here (seen_widths t decl)) x)

clean_parts : (t : Tree) (decl : Decl) (x : Expr) → AreCleanParts t decl x → AreClean t decl (seen_widths t decl) (parts x)
clean_parts t decl x c = to_each (IsClean t decl (seen_widths t decl)) (parts x) (λ k y e. record {
  literals = places_at literal_here (parts x) k y c.literals e;
  known = places_at (unknown_here t decl) (parts x) k y c.known e;
  counts = places_at (arg_count_here t) (parts x) k y c.counts e;
  selects = places_at (select_here (seen_widths t decl)) (parts x) k y c.selects e;
  arguments = places_at (arg_size_here (seen_widths t decl)) (parts x) k y c.arguments e;
  sizes = places_at (size_here (seen_widths t decl)) (parts x) k y c.sizes e;
})

target_seen : (decl : Decl) (n : Leaf) → NoPlace (unseen decl n) → sees n.bytes decl ≡ true
unfolding unseen
target_seen decl n h = holds (sees n.bytes decl) n.place h

wire_seen : (decl : Decl) (n : List ℕ) → has_wire n decl ≡ true → sees n decl ≡ true
wire_seen decl n h =
    or_left ((has_argument n decl || has_link n decl) || (has_parameter n decl || has_wire n decl)) (names n (own_name decl))
    (or_right (has_argument n decl || has_link n decl) (has_parameter n decl || has_wire n decl) (or_right (has_parameter n decl) (has_wire n decl) h))

module _ (t : Tree) (decl : Decl) (s : Seeing t decl (seen_widths t decl)) (c : IsCleanBody t decl) where
  set_sound : (n : Leaf) (x : Expr) → sees n.bytes decl ≡ true → Groups x → AreCleanParts t decl x
      → (is_width ((seen_widths t decl).name n.bytes) && (meaning (seen_widths t decl) x).sized) ≡ true
  set_sound n x seen g p =
      and_from (is_width ((seen_widths t decl).name n.bytes)) (meaning (seen_widths t decl) x).sized (s.names n.bytes seen)
      (is_sized t decl (seen_widths t decl) s x g (clean_parts t decl x p)).sized

  item_sound : (k : ℕ) (item : Item) → slice_get (body decl) k ≡ Some item → IsItem item → is_sound_item (seen_widths t decl) item ≡ true
  item_sound k (i.Wire r n) e g = refl
  item_sound k (i.WireSet r n x) e g = set_sound n x (wire_seen decl n.bytes (any_at (declares_wire n.bytes) (body decl) k (i.WireSet r n x) e (same_name n.bytes))) g.1 (record {
    literals = places_at (in_item literal_here) (body decl) k (i.WireSet r n x) c.literals e;
    known = places_at (in_item (unknown_here t decl)) (body decl) k (i.WireSet r n x) c.known e;
    counts = places_at (in_item (arg_count_here t)) (body decl) k (i.WireSet r n x) c.counts e;
    selects = places_at (in_item (select_here (seen_widths t decl))) (body decl) k (i.WireSet r n x) c.selects e;
    arguments = places_at (in_item (arg_size_here (seen_widths t decl))) (body decl) k (i.WireSet r n x) c.arguments e;
    sizes = places_at (in_item (size_here (seen_widths t decl))) (body decl) k (i.WireSet r n x) c.sizes e;
  })
  item_sound k (i.Assign n x) e g = set_sound n x (target_seen decl n (places_at (unknown_target decl) (body decl) k (i.Assign n x) c.targets e)) g (record {
    literals = places_at (in_item literal_here) (body decl) k (i.Assign n x) c.literals e;
    known = places_at (in_item (unknown_here t decl)) (body decl) k (i.Assign n x) c.known e;
    counts = places_at (in_item (arg_count_here t)) (body decl) k (i.Assign n x) c.counts e;
    selects = places_at (in_item (select_here (seen_widths t decl))) (body decl) k (i.Assign n x) c.selects e;
    arguments = places_at (in_item (arg_size_here (seen_widths t decl))) (body decl) k (i.Assign n x) c.arguments e;
    sizes = places_at (in_item (size_here (seen_widths t decl))) (body decl) k (i.Assign n x) c.sizes e;
  })

  pub body_sound : AreWide (names_seen t decl) → AllByRecursion IsItem (body decl) → SoundBody t (names_seen t decl) (body decl)
  body_sound wide g = record {
    widths = all_from (λ x. is_width x.width) (names_seen t decl) wide;
    sets = all_from (is_sound_item (seen_widths t decl)) (body decl)
        (to_each (λ x. is_sound_item (seen_widths t decl) x ≡ true) (body decl) (λ k x e. item_sound k x e (of_each IsItem (body decl) k x g e)));
  }
