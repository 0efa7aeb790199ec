-- The definitions on worked rows.
use Rattle.std.proofs.Common.{codes, [], ◌∷◌, refl}
use Rattle.tie_words.specs.Words.{Check, Asm, Dis, Exec, ExecTie, Ref, Strict, Accepts, WrongAt}
use Rattle.tie_words.proofs.WordLemmas.{check_form, asm_form, dis_form, exec_form, ref_form, strict_form, names_read, none_wrong, is_check, is_asm, is_dis, is_exec, is_exec_tie, is_ref, is_strict}

check_text : Accepts (codes "check" ∷ codes "t" ∷ []) (Check (codes "t"))
check_text = is_check (codes "t" ∷ []) (codes "t") (names_read (codes "check") 1 1 check_form (codes "t" ∷ [])) refl

exec_image : Accepts (codes "exec" ∷ codes "p" ∷ []) (Exec (codes "p"))
exec_image = is_exec (codes "p" ∷ []) (codes "p") (names_read (codes "exec") 1 2 exec_form (codes "p" ∷ [])) refl

exec_both : Accepts (codes "exec" ∷ codes "p" ∷ codes "t" ∷ []) (ExecTie (codes "p") (codes "t"))
exec_both = is_exec_tie (codes "p" ∷ codes "t" ∷ []) (codes "p") (codes "t") (names_read (codes "exec") 1 2 exec_form (codes "p" ∷ codes "t" ∷ [])) refl

none : WrongAt [] 0
none = none_wrong

missing : WrongAt (codes "exec" ∷ []) 1
missing = names_read (codes "exec") 1 2 exec_form []

empty : WrongAt (codes "exec" ∷ [] ∷ codes "t" ∷ []) 1
empty = names_read (codes "exec") 1 2 exec_form ([] ∷ codes "t" ∷ [])

more : WrongAt (codes "exec" ∷ codes "p" ∷ codes "t" ∷ codes "q" ∷ []) 3
more = names_read (codes "exec") 1 2 exec_form (codes "p" ∷ codes "t" ∷ codes "q" ∷ [])

assembled : Accepts (codes "asm" ∷ codes "t" ∷ codes "s" ∷ []) (Asm (codes "t") (codes "s"))
assembled = is_asm (codes "t" ∷ codes "s" ∷ []) (codes "t") (codes "s") (names_read (codes "asm") 2 2 asm_form (codes "t" ∷ codes "s" ∷ [])) refl

listed : Accepts (codes "dis" ∷ codes "t" ∷ codes "p" ∷ []) (Dis (codes "t") (codes "p"))
listed = is_dis (codes "t" ∷ codes "p" ∷ []) (codes "t") (codes "p") (names_read (codes "dis") 2 2 dis_form (codes "t" ∷ codes "p" ∷ [])) refl

no_source : WrongAt (codes "asm" ∷ codes "t" ∷ []) 2
no_source = names_read (codes "asm") 2 2 asm_form (codes "t" ∷ [])

unbounded : Accepts (codes "ref" ∷ codes "n" ∷ []) (Ref (codes "n"))
unbounded = is_ref (codes "n" ∷ []) (codes "n") (names_read (codes "ref") 1 1 ref_form (codes "n" ∷ [])) refl

bounded : Accepts (codes "strict" ∷ codes "n" ∷ []) (Strict (codes "n"))
bounded = is_strict (codes "n" ∷ []) (codes "n") (names_read (codes "strict") 1 1 strict_form (codes "n" ∷ [])) refl

no_network : WrongAt (codes "strict" ∷ []) 1
no_network = names_read (codes "strict") 1 1 strict_form []
