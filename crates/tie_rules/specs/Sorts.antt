-- The sorts of declarations and of directions that code asks for.
use Rattle.std.specs.Prelude.{ℕ, Bool, List}
use Rattle.tie_mean.specs.Names.{is_read, is_written}
use Rattle.tie_grammar.specs.declared.symbol.Direction.{Direction}
use Rattle.tie_grammar.specs.declared.tree.Decl.{Decl}
use Rattle.tie_rules.specs.Names.{declares_operation, declares_function, declares_table, declares_range, declares_state, declares_queue_in, declares_queue_out, declares_queue, declares_link, declares_kind, is_in, is_out}
use Rattle.tie_rules.specs.Declarations.{gives_opcodes}
use Rattle.tie_rules.specs.declared.names.Sort.{Sort}
use Rattle.tie_rules.specs.declared.names.Sort.TheVariants as sort
use Rattle.tie_rules.specs.declared.names.Way.{Way}
use Rattle.tie_rules.specs.declared.names.Way.TheVariants as way

-- a declaration of this sort has the name
abbrev pub declares_as : Sort → List ℕ → Decl → Bool
declares_as sort.Operation = declares_operation
declares_as sort.Function = declares_function
declares_as sort.Table = declares_table
declares_as sort.Range = declares_range
declares_as sort.State = declares_state
declares_as sort.QueueIn = declares_queue_in
declares_as sort.QueueOut = declares_queue_out
declares_as sort.Queue = declares_queue
declares_as sort.Link = declares_link
declares_as sort.Kind = declares_kind
declares_as sort.SlotOpcodes = gives_opcodes

abbrev pub goes : Way → Direction → Bool
goes way.In = is_in
goes way.Out = is_out
goes way.Read = is_read
goes way.Written = is_written
