use Rattle.std.proofs.Common.{◌≡◌, map, subst, sym, ◌∙◌}
use Rattle.tie_desc.specs.Invariant.{IsDescription}
use Rattle.tie_description_law.specs.tie_describe.Operations.{operations}
use Rattle.tie_check.proofs.Fit.{fit}
use Rattle.tie_check.proofs.described.Goals as goal

pub functions_of-requires : goal.functions_of-requires
functions_of-requires c = c.sound_text.ensures c.args.tree.now (c.read_trees.ensures.text c.args.tree.now c.requires.read) c.requires.holds

pub all_results-requires-clause-operations : goal.all_results-requires-clause-operations
all_results-requires-clause-operations c = λ k o here.
    c.sound_operation.ensures c.args.tree.now o (c.read_trees.ensures.text c.args.tree.now c.requires.read) c.requires.holds (k, here)

pub new-requires : goal.new-requires
new-requires c =
    let results = map (λ r. r.items) c.in_ok-results.results.items in
    let fits = fit c.args.tree.now (operations c.args.tree.now) results c.in_ok-results.ensures in
    subst IsDescription (sym c.in_ok-parts.ensures) (c.facts.ensures c.args.tree.now results c.requires.holds (c.read_trees.ensures.text c.args.tree.now c.requires.read) fits)

pub returns : goal.returns
returns c = record {
  holds = c.requires.holds;
  describes = record {
    results = map (λ r. r.items) c.in_ok-results.results.items;
    means = c.in_ok-results.ensures;
    declared = c.new.ensures ∙ c.in_ok-parts.ensures;
  };
}
