-- A description as plain data: the declarations in their order.
use Rattle.std.specs.Prelude.{ℕ, List, ◌++◌, map}
use Rattle.tie_desc.specs.declared.declarations.StateDecl.{StateDecl}
use Rattle.tie_desc.specs.declared.declarations.FileDecl.{FileDecl}
use Rattle.tie_desc.specs.declared.declarations.RangeDecl.{RangeDecl}
use Rattle.tie_desc.specs.declared.declarations.QueueDecl.{QueueDecl}
use Rattle.tie_desc.specs.declared.declarations.OpDecl.{OpDecl}
use Rattle.tie_desc.specs.declared.formats.FormatDecl.{FormatDecl}

pub record Description : Type 0 where
  pub states : List StateDecl
  pub files : List FileDecl
  pub ranges : List RangeDecl
  pub ops : List OpDecl
  pub formats : List FormatDecl
  pub ins : List QueueDecl
  pub outs : List QueueDecl

-- the names that share one name space; slots and short names aren't in it
abbrev pub declared_names : Description → List (List ℕ)
declared_names d =
    map (λ x. x.name) d.states ++ map (λ x. x.name) d.files ++ map (λ x. x.name) d.ranges ++ map (λ x. x.name) d.ops
    ++ map (λ x. x.name) d.formats ++ map (λ x. x.name) d.ins ++ map (λ x. x.name) d.outs
