use Rattle.std.proofs.Common.{codes, map, string_bytes, sym, subst, arith}
use Rattle.tie_words.proofs.WordLemmas.{asm_form, is_asm, names_read, ReadsNames, AreBehind}
use Rattle.tie_words.proofs.NameSteps.{two_bytes}
use Rattle.tie_words.proofs.command.asm_of.Goals as goal

pub returns-in-Some : goal.returns-in-Some
returns-in-Some c =
    subst (ReadsNames (codes "asm") 2 2 (map string_bytes c.args.names.now)) (sym c.in-Some.ensures.found) (names_read (codes "asm") 2 2 asm_form (map string_bytes c.args.names.now))

pub returns-in-None : goal.returns-in-None
returns-in-None c =
    let behind : AreBehind 2 2 (map string_bytes c.args.names.now) =
    subst (ReadsNames (codes "asm") 2 2 (map string_bytes c.args.names.now)) (sym c.in-None.ensures.found) (names_read (codes "asm") 2 2 asm_form (map string_bytes c.args.names.now)) in
    let names = two_bytes c.args.names.now c.index-names-0.result c.index-names-1.result (omega (arith, behind.enough, behind.few)) c.index-names-0.is c.index-names-1.is in
    rw (c.as_str.ensures.value, c.as_str-in-None.ensures.value) (is_asm _ _ _ behind names)
