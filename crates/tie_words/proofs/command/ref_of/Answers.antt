use Rattle.std.proofs.Common.{codes, map, string_bytes, sym, subst, arith}
use Rattle.tie_words.proofs.WordLemmas.{ref_form, is_ref, names_read, ReadsNames, AreBehind}
use Rattle.tie_words.proofs.NameSteps.{one_bytes}
use Rattle.tie_words.proofs.command.ref_of.Goals as goal

pub returns-in-Some : goal.returns-in-Some
returns-in-Some c =
    subst (ReadsNames (codes "ref") 1 1 (map string_bytes c.args.names.now)) (sym c.in-Some.ensures.found) (names_read (codes "ref") 1 1 ref_form (map string_bytes c.args.names.now))

pub returns-in-None : goal.returns-in-None
returns-in-None c =
    let behind : AreBehind 1 1 (map string_bytes c.args.names.now) =
    subst (ReadsNames (codes "ref") 1 1 (map string_bytes c.args.names.now)) (sym c.in-None.ensures.found) (names_read (codes "ref") 1 1 ref_form (map string_bytes c.args.names.now)) in
    let names = one_bytes c.args.names.now c.index-names-0.result (omega (arith, behind.enough, behind.few)) c.index-names-0.is in
    rw c.as_str.ensures.value (is_ref _ _ behind names)
