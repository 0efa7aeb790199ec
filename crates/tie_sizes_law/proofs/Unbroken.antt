-- The rules that the sizes of a text rest on.
use Rattle.std.proofs.Common.{◌≡◌, ℕ, Some, List, slice_get, take}
use Rattle.tie_grammar.specs.declared.tree.Decl.{Decl}
use Rattle.tie_grammar.specs.declared.tree.Tree.{Tree}
use Rattle.tie_rules.specs.Least.{NoPlace}
use Rattle.tie_rules.specs.Declarations as declared
use Rattle.tie_rules.specs.Bodies as bodies
use Rattle.tie_sizes_law.proofs.At.{places_at, behind_at}

-- none of them is broken in a text
pub record Unbroken (t : Tree) : Type 0 where
  pub names : NoPlace (declared.doubled t)
  pub many : NoPlace (declared.too_many_args t)
  pub widths : NoPlace (declared.width_range t)
  pub depths : NoPlace (declared.depth_range t)
  pub literals : NoPlace (declared.literal_range t)
  pub entries : NoPlace (declared.table_count t)
  pub locals : NoPlace (bodies.local_doubled t)
  pub known : NoPlace (bodies.unknown_name t)
  pub counts : NoPlace (bodies.arg_count t)
  pub assigned : NoPlace (bodies.not_assigned t)
  pub selects : NoPlace (bodies.select_range t)
  pub arguments : NoPlace (bodies.arg_size t)
  pub sizes : NoPlace (bodies.size_range t)
  pub large : NoPlace (bodies.too_large t)

-- nor at one of its declarations, behind some others
pub record UnbrokenAt (t : Tree) (before : List Decl) (x : Decl) : Type 0 where
  pub names : NoPlace (declared.doubled_at before x)
  pub many : NoPlace (declared.too_many_args_at x)
  pub widths : NoPlace (declared.width_range_at x)
  pub literals : NoPlace (declared.literal_range_at x)
  pub locals : NoPlace (bodies.local_doubled_at t x)
  pub known : NoPlace (bodies.unknown_name_at t x)
  pub counts : NoPlace (bodies.arg_count_at t x)
  pub assigned : NoPlace (bodies.not_assigned_at x)
  pub selects : NoPlace (bodies.select_range_at t x)
  pub arguments : NoPlace (bodies.arg_size_at t x)
  pub sizes : NoPlace (bodies.size_range_at t x)
  pub large : NoPlace (bodies.too_large_at t x)

pub unbroken_at : (t : Tree) → Unbroken t → (k : ℕ) (x : Decl) → slice_get t.declarations k ≡ Some x → UnbrokenAt t (take k t.declarations) x
unbroken_at t u k x e = record {
  names = behind_at declared.doubled_at t.declarations k x u.names e;
  many = places_at declared.too_many_args_at t.declarations k x u.many e;
  widths = places_at declared.width_range_at t.declarations k x u.widths e;
  literals = places_at declared.literal_range_at t.declarations k x u.literals e;
  locals = places_at (bodies.local_doubled_at t) t.declarations k x u.locals e;
  known = places_at (bodies.unknown_name_at t) t.declarations k x u.known e;
  counts = places_at (bodies.arg_count_at t) t.declarations k x u.counts e;
  assigned = places_at bodies.not_assigned_at t.declarations k x u.assigned e;
  selects = places_at (bodies.select_range_at t) t.declarations k x u.selects e;
  arguments = places_at (bodies.arg_size_at t) t.declarations k x u.arguments e;
  sizes = places_at (bodies.size_range_at t) t.declarations k x u.sizes e;
  large = places_at (bodies.too_large_at t) t.declarations k x u.large e;
}
