use Rattle.std.proofs.Common.{codes, map, string_bytes, sym, subst, arith}
use Rattle.tie_words.proofs.WordLemmas.{check_form, is_check, names_read, ReadsNames, AreBehind}
use Rattle.tie_words.proofs.NameSteps.{one_bytes}
use Rattle.tie_words.proofs.command.check_of.Goals as goal

pub returns-in-Some : goal.returns-in-Some
returns-in-Some c =
    subst (ReadsNames (codes "check") 1 1 (map string_bytes c.args.names.now)) (sym c.in-Some.ensures.found) (names_read (codes "check") 1 1 check_form (map string_bytes c.args.names.now))

pub returns-in-None : goal.returns-in-None
returns-in-None c =
    let behind : AreBehind 1 1 (map string_bytes c.args.names.now) =
    subst (ReadsNames (codes "check") 1 1 (map string_bytes c.args.names.now)) (sym c.in-None.ensures.found) (names_read (codes "check") 1 1 check_form (map string_bytes c.args.names.now)) in
    let names = one_bytes c.args.names.now c.index-names-0.result (omega (arith, behind.enough, behind.few)) c.index-names-0.is in
    rw c.as_str.ensures.value (is_check _ _ behind names)
