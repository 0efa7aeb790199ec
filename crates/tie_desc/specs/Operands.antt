-- What the operands of an operation stand for.
use Rattle.std.specs.Prelude.{ℕ, ◌*◌, List, ◌++◌, map, filter, Option, Some, None, slice_get, ℤ, pos, ◌+ℤ◌}
use Rattle.tie_expr.specs.Word.{Word}
use Rattle.tie_expr.specs.Tree.{meaning}
use Rattle.tie_desc.specs.Description.{Description}
use Rattle.tie_desc.specs.declared.declarations.StateDecl.{StateDecl}
use Rattle.tie_desc.specs.declared.declarations.FileDecl.{FileDecl}
use Rattle.tie_desc.specs.declared.declarations.RangeDecl.{RangeDecl}
use Rattle.tie_desc.specs.declared.declarations.QueueDecl.{QueueDecl}
use Rattle.tie_desc.specs.declared.declarations.Kind.{Kind}
use Rattle.tie_desc.specs.declared.declarations.Kind.TheVariants as kind
use Rattle.tie_desc.specs.declared.declarations.Operand.{Operand}
use Rattle.tie_desc.specs.declared.declarations.OpDecl.{OpDecl}

-- the operands of an operation: its arguments, then its links
abbrev pub operands : OpDecl → List Operand
operands o = o.args ++ o.links

-- the read ones; an expression's inputs are numbered in this order
abbrev pub read_operands : OpDecl → List Operand
read_operands o = filter (λ p. p.reads) (operands o)

-- the written ones; the results stand in this order
abbrev pub written_operands : OpDecl → List Operand
written_operands o = filter (λ p. p.writes) (operands o)

abbrev pub state_width : Option StateDecl → ℕ
state_width None = 0
state_width (Some s) = s.width

abbrev pub file_width : Option FileDecl → ℕ
file_width None = 0
file_width (Some f) = f.width

abbrev pub queue_width : Option QueueDecl → ℕ
queue_width None = 0
queue_width (Some q) = q.width

-- the count of bits of an operand: 32 for a register of the core and an immediate, else as declared
abbrev pub kind_width : Description → Kind → ℕ
kind_width d kind.Ar = 32
kind_width d (kind.File f) = file_width (slice_get d.files f)
kind_width d (kind.Range r) = 32
kind_width d (kind.State s) = state_width (slice_get d.states s)
kind_width d (kind.InQueue q) = queue_width (slice_get d.ins q)
kind_width d (kind.OutQueue q) = queue_width (slice_get d.outs q)

abbrev pub widths : Description → List Operand → List ℕ
widths d ps = map (λ p. kind_width d p.kind) ps

abbrev pub file_depth : Option FileDecl → ℕ
file_depth None = 0
file_depth (Some f) = f.depth

abbrev pub range_count : Option RangeDecl → ℕ
range_count None = 0
range_count (Some r) = r.count

-- how many numbers the field of an argument may have: one for each register, or each value of a range
abbrev pub limit : Description → Kind → ℕ
limit d kind.Ar = 16
limit d (kind.File f) = file_depth (slice_get d.files f)
limit d (kind.Range r) = range_count (slice_get d.ranges r)
limit d _ = 0

-- the value of a range whose number is n
abbrev pub range_value : Option RangeDecl → ℕ → ℤ
range_value None n = pos 0
range_value (Some r) n = r.low +ℤ pos (r.step * n)

-- what an operation writes where its read operands have these values
abbrev pub values_of : OpDecl → List Word → List ℕ
values_of o reads = map (λ e. (meaning e).at reads) o.results
