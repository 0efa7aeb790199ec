use Rattle.std.proofs.Common.{◌≡◌, codes, map, string_bytes, sym, subst, ◌∙◌, arith, length, List, ℕ, None}
use Rattle.tie_words.specs.Reading.{wrong_from}
use Rattle.tie_words.proofs.WordLemmas.{exec_form, is_exec, is_exec_tie, names_read, ReadsNames, AreBehind}
use Rattle.tie_words.proofs.NameSteps.{one_bytes, two_bytes, same_count}
use Rattle.tie_words.proofs.command.exec_of.Goals as goal

pub returns-in-Some : goal.returns-in-Some
returns-in-Some c =
    subst (ReadsNames (codes "exec") 1 2 (map string_bytes c.args.names.now)) (sym c.in-Some.ensures.found) (names_read (codes "exec") 1 2 exec_form (map string_bytes c.args.names.now))

-- the names are one or two
behind : (names : List (List ℕ)) → None ≡ wrong_from 1 2 0 names → AreBehind 1 2 names
behind names e = subst (ReadsNames (codes "exec") 1 2 names) (sym e) (names_read (codes "exec") 1 2 exec_form names)

pub returns-then-names-eq1 : goal.returns-then-names-eq1
returns-then-names-eq1 c =
    let count : length (map string_bytes c.args.names.now) ≡ 1 = same_count c.args.names.now ∙ c.if-names-eq1.true in
    let names = one_bytes c.args.names.now c.index-names-0.result count c.index-names-0.is in
    rw c.as_str-hex.ensures.value (is_exec _ _ (behind _ c.in_default.ensures.found) names)

pub returns-else-names-eq1 : goal.returns-else-names-eq1
returns-else-names-eq1 c =
    let b = behind _ c.in_default.ensures.found in
    let count : length (map string_bytes c.args.names.now) ≡ 2 = omega (arith, same_count c.args.names.now, c.if-names-eq1.false, b.enough, b.few) in
    let names = two_bytes c.args.names.now c.index-names-0.result c.index-names-1.result count c.index-names-0.is c.index-names-1.is in
    rw (c.as_str-hex.ensures.value, c.as_str.ensures.value) (is_exec_tie _ _ _ b names)
