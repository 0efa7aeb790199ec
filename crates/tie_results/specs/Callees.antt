-- The functions of a text, as they are kept, and where a body stands.
use Rattle.std.specs.Borrow.{Bor}
use Rattle.std.specs.Prelude.{◌≡◌, ℕ, ◌≤◌, if◌then◌else◌, IsTrue, List, [], ◌∷◌, length, map, Option, Some, None, unwrap_or}
use Rattle.std.specs.List.{list_all}
use Rattle.tie_mean.specs.Kept.{kept}
use Rattle.tie_mean.specs.Names.{is_named}
use Rattle.tie_mean.specs.Setters.{setter, leaf_names}
use Rattle.std.specs.BTreeMap.{BTreeMap}
use Rattle.tie_grammar.specs.declared.symbol.Leaf.{Leaf}
use Rattle.tie_grammar.specs.declared.tree.Item.{Item}
use Rattle.tie_grammar.specs.declared.tree.Tree.{Tree}
use Rattle.tie_results.specs.Sound.{is_sound_table, is_sound_item}
use Rattle.tie_results.specs.Texts.{functions_in, tables_in, IsTextOf}
use Rattle.tie_results.specs.Bodies.{Calls, Body, calls_of, widths_of, IsUnknown, IsKept, AreMade}
use Rattle.tie_results.specs.declared.text.Text.{Text}
use Rattle.tie_results.specs.declared.frame.Callee.{Callee}
use Rattle.tie_results.specs.declared.frame.Frame.{Frame}
use Rattle.tie_results.specs.declared.frame.Place.{Place}

-- the last of a name
abbrev pub callee_in : List Callee → List ℕ → Option Callee → Option Callee
callee_in [] name found = found
callee_in (f ∷ fs) name found = callee_in fs name (if is_named name f.name.now then Some f else found)

abbrev pub IsCalleeOf : Calls → List ℕ → Option Callee → Type 0
IsCalleeOf c name None = IsUnknown c name
IsCalleeOf c name (Some f) = IsKept c name f.body

-- what is kept of functions is right
abbrev pub AreCallees : Calls → List Callee → Type 0
AreCallees c callees = (name : List ℕ) → IsCalleeOf c name (callee_in callees name None)

-- the body of these items, with these widths of names and these inputs, behind the first k declarations
abbrev pub body_at : Tree → ℕ → Text → BTreeMap (Bor (List ℕ)) ℕ → List (Bor Leaf) → List Item → Body
body_at t k x widths inputs items = record {
  name = λ q. unwrap_or (kept widths q) 0;
  calls = calls_of t (functions_in x) (tables_in x) k;
  tables = tables_in x;
  inputs = leaf_names inputs;
  items = items;
}

abbrev pub body_of : Frame → Body
body_of f = body_at f.tree.now f.declarations f.text.now f.widths.now f.inputs.now f.items.now

-- a body that can be made into expressions
pub record IsReady (f : Frame) : Type 0 where
  pub few : length f.inputs.now ≤ 11
  pub tables : IsTrue (list_all is_sound_table (tables_in f.text.now))
  pub callees : AreCallees (body_of f).calls f.callees.now
  pub sets : IsTrue (list_all (is_sound_item (widths_of (body_of f))) f.items.now)

-- all that is kept behind the items of which expressions were made is right
pub record IsRight (p : Place) : Type 0 where
  pub ready : IsReady p.frame.now
  pub setters : (q : List ℕ) → kept p.setters.now q ≡ setter p.frame.now.items.now (length p.made.now) q
  pub made : AreMade (body_of p.frame.now) p.made.now
