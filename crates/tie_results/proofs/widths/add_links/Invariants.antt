use Rattle.std.proofs.Common.{◌≡◌, ◌++◌, take, map}
use Rattle.tie_mean.specs.Names.{link_width}
use Rattle.tie_results.specs.Texts.{shown, limited_declared}
use Rattle.tie_results.proofs.widths.add_links.Given as goal

abbrev pub invariant-loop-link : goal.invariant-loop-link
invariant-loop-link l = map shown l.found.items ≡ map shown l.fn.found.items ++ map limited_declared (map (link_width l.tree) (take l.link-index l.links))
