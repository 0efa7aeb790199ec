use Rattle.std.proofs.Common.{ℕ, Option, [], length, get_or, sym, subst, ◌<◌}
use Rattle.std.specs.Prelude.{slice_set, if◌then◌else◌, ◌==◌, OnOk}
use Rattle.std.specs.Option.{option_to_list}
use Rattle.std.proofs.lemmas.Option.{slice_get-get_or}
use Rattle.std.proofs.lemmas.Result.{on_ok_weaker}
use Rattle.net_ref.specs.Shown.{AreExtended}
use Rattle.net_ref.proofs.Channels.{extended_nothing, extended_one}
use Rattle.net_ref.proofs.moves.push_if.Goals as goal

pub returns-in-None : goal.returns-in-None
returns-in-None c =
    let xs = c.args.channels.now in
    subst (λ (v : Option ℕ). AreExtended (λ p. if c.args.q == p then option_to_list v else []) xs xs) (sym c.in-None.is) (extended_nothing c.args.q xs)

pub returns-in-Some : goal.returns-in-Some
returns-in-Some c =
    let xs = c.args.channels.now in
    let q = c.args.q in
    let lt : q < length xs = c.requires in
    let d = c.index-channels-q.result in
    subst (λ (v : Option ℕ). OnOk c.push.result (AreExtended (λ p. if q == p then option_to_list v else []) xs (slice_set xs q c.push.new.self))) (sym c.in-Some.is)
    (on_ok_weaker c.push.result
    (λ h. extended_one q c.in-Some.value c.push.new.self (get_or xs q d) xs (slice_get-get_or xs q d lt) h c.push.ensures.consumed)
    c.push.ensures.history)
