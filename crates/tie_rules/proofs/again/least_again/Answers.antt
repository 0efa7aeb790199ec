use Rattle.std.proofs.Common.{ℕ, ◌+◌, Bool, ◌||◌, Option, ap, ◌∙◌, take, drop}
use Rattle.tie_grammar.specs.declared.symbol.Leaf.{Leaf}
use Rattle.tie_rules.specs.Names.{names}
use Rattle.tie_rules.specs.Least.{earlier, least, behind_from}
use Rattle.tie_rules.specs.NameSets.{has_name, again_of, at_again}
use Rattle.tie_mean.specs.Kept.{met}
use Rattle.tie_rules.proofs.Places.{behind_next}
use Rattle.tie_rules.proofs.NameSets.{any_next, held_again}
use Rattle.tie_rules.proofs.again.least_again.Goals as goal

pub loop-x-preserved : goal.loop-x-preserved
loop-x-preserved g c =
    let name = g.R.JudgeAgain.name c.args.rule.now in
    let places = g.R.JudgeAgain.places c.args.rule.now in
    let xs = c.args.xs.now in
    let i = c.loop-x.x-index in
    let x = c.x-item.result in
    let rest = least (behind_from (at_again name places) (take (i + 1) xs) (drop (i + 1) xs)) in
    let again = c.in_ok-again.ensures.again ∙ held_again name c.loop-x.before (take i xs) c.loop-x.invariant.names _ ∙ ap (again_of name (take i xs)) c.name_of.ensures in
    let here = c.earlier-found.ensures ∙ ap (earlier c.loop-x.found) (c.judge.ensures ∙ ap (λ (b : Bool). least (places b x)) again) in
    record {
      names = λ q. c.in_ok-again.ensures.met q ∙ ap (λ (o : Option Leaf). names q o || met c.loop-x.before q) c.name_of.ensures ∙ ap (λ (b : Bool). names q (name x) || b) (c.loop-x.invariant.names q)
          ∙ any_next (has_name name q) xs i x c.loop-x-test.true c.x-item.is;
      so_far = ap (λ (o : Option ℕ). earlier o rest) here ∙ behind_next (at_again name places) c.loop-x.found xs i x _ c.loop-x-test.true c.x-item.is c.loop-x.invariant.so_far;
    }
