use Rattle.std.proofs.Common.{◌≡◌, drop, map}
use Rattle.std.specs.List.{flat_map}
use Rattle.tie_mean.specs.Names.{link_declared}
use Rattle.tie_results.specs.Texts.{first_width, limited_declared}
use Rattle.tie_results.proofs.widths.declared_link.Given as goal

abbrev pub invariant-loop-declaration : goal.invariant-loop-declaration
invariant-loop-declaration l =
    first_width (flat_map (λ d. map limited_declared (link_declared d)) (drop l.declaration-index l.declarations)) l.name.bytes
    ≡ first_width (flat_map (λ d. map limited_declared (link_declared d)) l.declarations) l.name.bytes
