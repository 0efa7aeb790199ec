use Rattle.std.proofs.Common.{◌≡◌, ℕ, List, ◌+◌, Bool, ◌||◌, Option, ap, ◌∙◌, take, drop}
use Rattle.std.specs.List.{list_any}
use mathlib.Core.Path.{fun_ext}
use Rattle.tie_grammar.specs.declared.symbol.Leaf.{Leaf}
use Rattle.tie_mean.specs.Kept.{met}
use Rattle.tie_rules.specs.Names.{names}
use Rattle.tie_rules.specs.Least.{earlier, least, behind_from}
use Rattle.tie_rules.specs.NameSets.{has_name, at_met}
use Rattle.tie_rules.proofs.Places.{behind_next}
use Rattle.tie_rules.proofs.NameSets.{any_next}
use Rattle.tie_rules.proofs.again.least_met.Goals as goal

pub loop-x-preserved : goal.loop-x-preserved
loop-x-preserved g c =
    let name = g.R.JudgeMet.name c.args.rule.now in
    let places = g.R.JudgeMet.places c.args.rule.now in
    let xs = c.args.xs.now in
    let i = c.loop-x.x-index in
    let x = c.x-item.result in
    let rest = least (behind_from (at_met name places) (take (i + 1) xs) (drop (i + 1) xs)) in
    let before : met c.loop-x.before ≡ (λ (q : List ℕ). list_any (has_name name q) (take i xs)) = fun_ext c.loop-x.invariant.names in
    let here = c.earlier-found.ensures ∙ ap (earlier c.loop-x.found) (c.judge.ensures ∙ ap (λ (f : List ℕ → Bool). least (places f x)) before) in
    record {
      names = λ q. c.in_ok-meet_any.ensures.met q ∙ ap (λ (o : Option Leaf). names q o || met c.loop-x.before q) c.name_of.ensures
          ∙ ap (λ (b : Bool). names q (name x) || b) (c.loop-x.invariant.names q) ∙ any_next (has_name name q) xs i x c.loop-x-test.true c.x-item.is;
      so_far = ap (λ (o : Option ℕ). earlier o rest) here ∙ behind_next (at_met name places) c.loop-x.found xs i x _ c.loop-x-test.true c.x-item.is c.loop-x.invariant.so_far;
    }
