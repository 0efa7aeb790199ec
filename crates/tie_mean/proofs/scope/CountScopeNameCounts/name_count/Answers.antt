use Rattle.std.proofs.Common.{◌∙◌, sym, arith}
use Rattle.tie_mean.proofs.CountNames.{input_count, unset_count, set_name_count}
use Rattle.tie_mean.proofs.scope.CountScopeNameCounts.name_count.Goals as goal

pub returns-then-has : goal.returns-then-has
returns-then-has c =
    let s = c.args.self.now in
    c.lone_name.ensures ∙ input_count s s.behind c.args.name.now.bytes (sym c.has.ensures ∙ c.if-has.true)

pub returns-in-None : goal.returns-in-None
returns-in-None c =
    let s = c.args.self.now in
    let name = c.args.name.now.bytes in
    c.lone_name-in-None.ensures
    ∙ unset_count s s.behind name (sym c.has.ensures ∙ c.if-has.false) (sym (c.requires.counts name) ∙ sym c.kept.ensures ∙ c.in-None.is)

pub returns-in-Some : goal.returns-in-Some
returns-in-Some c =
    let s = c.args.self.now in
    let name = c.args.name.now.bytes in
    let free = sym c.has.ensures ∙ c.if-has.false in
    let found = sym (c.requires.counts name) ∙ sym c.kept.ensures ∙ c.in-Some.is in
    let whole = set_name_count s s.behind name c.in-Some.count free found in
    let sum = c.bounded_count.ensures in
    omega (arith, whole, sum, c.saturating_add.ensures, c.nodes.ensures)
