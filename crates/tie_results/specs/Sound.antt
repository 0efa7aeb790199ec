-- Texts whose functions and operations have closed expressions: all that a text which breaks no rule gives.
use Rattle.std.specs.Prelude.{◌≡◌, ℕ, ◌+◌, ◌≤◌, Bool, true, ◌&&◌, nat_le, IsTrue, List, [], length, map, Option, Some, None}
use Rattle.std.specs.List.{list_all, list_any}
use Rattle.tie_mean.specs.Literals.{is_width, literal_fits}
use Rattle.tie_mean.specs.Scope.{Widths}
use Rattle.tie_mean.specs.Sizes.{bounded}
use Rattle.tie_mean.specs.Values.{meaning}
use Rattle.tie_mean.specs.Names.{is_named, Declared, Setting, setting, sets, tables, widths_of, width_in, function_at, function_names, parameter_names, operation_names, written}
use Rattle.tie_mean.specs.Counts.{operation_count}
use Rattle.tie_grammar.specs.declared.tree.Item.{Item}
use Rattle.tie_grammar.specs.declared.tree.Table.{Table}
use Rattle.tie_grammar.specs.declared.tree.Function.{Function}
use Rattle.tie_grammar.specs.declared.tree.Operation.{Operation}
use Rattle.tie_grammar.specs.declared.tree.Tree.{Tree}

-- an expression of right sizes is set to a name of 1 to 128 bits
abbrev pub is_sound_setting : Widths → Option Setting → Bool
is_sound_setting w None = true
is_sound_setting w (Some s) = is_width (w.name s.name.bytes) && (meaning w s.value).sized

abbrev pub is_sound_item : Widths → Item → Bool
is_sound_item w item = is_sound_setting w (setting item)

-- some item sets this name
abbrev pub is_set : List Item → List ℕ → Bool
is_set items name = list_any (λ item. sets name (setting item)) items

-- a body that sees these names
pub record SoundBody (t : Tree) (names : List Declared) (items : List Item) : Type 0 where
  -- each name has a width of 1 to 128 bits
  pub widths : IsTrue (list_all (λ x. is_width x.width) names)
  -- what it sets is sound
  pub sets : IsTrue (list_all (is_sound_item (widths_of t names)) items)

-- at most 256 entries, which fit the table's width
abbrev pub is_sound_table : Table → Bool
is_sound_table x = nat_le (length x.entries) 256 && list_all (literal_fits (bounded x.width)) x.entries

pub record SoundFunction (t : Tree) (f : Function) : Type 0 where
  pub body : SoundBody t (function_names f) f.items
  pub few : length f.parameters ≤ 8
  -- its body sets its name
  pub assigned : IsTrue (is_set f.items f.name.bytes)
  -- in its body its name has the width that its calls have
  pub width : width_in (function_names f) f.name.bytes ≡ (widths_of t []).function f.name.bytes
  -- in its body its parameters have the widths that the arguments of its calls have
  pub parameters : map (width_in (function_names f)) (parameter_names f) ≡ (widths_of t []).parameters f.name.bytes

pub record SoundText (t : Tree) : Type 0 where
  pub tables : IsTrue (list_all is_sound_table (tables t))
  -- each declaration that is a function
  pub functions : (k : ℕ) (f : Function) → function_at t.declarations k ≡ Some f → SoundFunction t f
  -- no two functions have one name
  pub differ : (j k : ℕ) (f g : Function) → function_at t.declarations j ≡ Some f → function_at t.declarations k ≡ Some g
      → is_named f.name.bytes g.name ≡ true → j ≡ k

pub record SoundOperation (t : Tree) (o : Operation) : Type 0 where
  pub body : SoundBody t (operation_names t o) o.items
  pub few : length o.arguments + length o.links ≤ 11
  -- its body sets each operand that it writes
  pub assigned : IsTrue (list_all (is_set o.items) (written o))
  -- its results together have at most 4096 nodes
  pub small : operation_count t o ≤ 4096
