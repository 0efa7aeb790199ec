use Rattle.std.proofs.Common.{sym, ◌∙◌}
use Rattle.tie_report.proofs.Needed.{empty_is, full_is, waits_full, waits_not}
use Rattle.tie_report.proofs.waiting.waits.Goals as goal

pub returns-in-None-Some : goal.returns-in-None-Some
returns-in-None-Some c =
    let a = c.args in
    let needs = c.needs-needs in
    waits_full _ _ c.in-None-Some.q
    (sym c.in-None-Some.is-0 ∙ empty_is a.net.now a.end.now a.c a.here.now a.e.now.arch needs.result c.in_count.result c.first_empty-empty.result needs.ensures c.in_count.ensures.value c.first_empty-empty.ensures)
    (sym c.in-None-Some.is-1 ∙ full_is a.net.now a.end.now a.c a.here.now a.e.now.arch needs.result c.out_count.result c.first_full-full.result needs.ensures c.out_count.ensures.value c.first_full-full.ensures)

pub returns-in-None-None : goal.returns-in-None-None
returns-in-None-None c =
    let a = c.args in
    let needs = c.needs-needs in
    waits_not _ _
    (sym c.in-None-None.is-0 ∙ empty_is a.net.now a.end.now a.c a.here.now a.e.now.arch needs.result c.in_count.result c.first_empty-empty.result needs.ensures c.in_count.ensures.value c.first_empty-empty.ensures)
    (sym c.in-None-None.is-1 ∙ full_is a.net.now a.end.now a.c a.here.now a.e.now.arch needs.result c.out_count.result c.first_full-full.result needs.ensures c.out_count.ensures.value c.first_full-full.ensures)
