use Rattle.std.proofs.Common.{◌≡◌, ◌++◌, [], drop}
use Rattle.std.specs.List.{flat_map}
use Rattle.tie_describe.specs.Formats.{formats_behind, format_of}
use Rattle.tie_describe.proofs.formats.formats_among.Given as goal

abbrev pub invariant-loop-decl : goal.invariant-loop-decl
invariant-loop-decl l =
    l.formats.items ++ formats_behind l.tree l.ops l.formats.items (flat_map format_of (drop l.decl-index l.decls))
    ≡ formats_behind l.tree l.ops [] (flat_map format_of l.decls)
