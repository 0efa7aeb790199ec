use Rattle.std.proofs.Common.{◌≡◌, ℕ, List, Result, Err, subst, refl}
use Rattle.tie_lexer.specs.declared.Token.{Token}
use Rattle.tie_lexer.specs.Tokens.{AreTokens}
use Rattle.tie_grammar.specs.declared.tree.Tree.{Tree}
use Rattle.tie_ast.specs.Parsing.{IsTreeOf}
use Rattle.tie_check.specs.tie_rules.RuleBook as book
use Rattle.tie_check.specs.tie_rules.Least.{IsFirst}
use Rattle.tie_front.specs.declared.refusal.TieRule.{TieRule}
use Rattle.tie_front.specs.declared.refusal.TieRule.TheVariants.{Rule}
use Rattle.tie_front.specs.declared.refusal.TieRefusal.{TieRefusal}
use Rattle.tie_front.specs.declared.refusal.TieRefusal.TheVariants.{Fault}
use Rattle.tie_front.specs.Front.{IsRefused}
use Rattle.tie_front.proofs.description_of.Goals as goal

-- a broken rule refuses the text
refuses : {V : Type 0} (text : List ℕ) (tokens : List Token) (tree : Tree) (n p : ℕ) → AreTokens text tokens → IsTreeOf text tokens tree → IsFirst 1 (book.rules tree) n p
    → (x : Result V TieRefusal) (rule : TieRule) (place : ℕ) → x ≡ Err (Fault (Rule n) p) → x ≡ Err (Fault rule place) → IsRefused text rule place
refuses text tokens tree n p lexed parsed first x rule place d e =
    let same_rule : Rule n ≡ rule = cc in
    let same_place : p ≡ place = cc in
    let here : IsRefused text (Rule n) p = record { tokens = tokens; lexed = lexed; tree = tree; parsed = parsed; first = first } in
    subst (λ r. IsRefused text r place) same_rule (subst (λ q. IsRefused text (Rule n) q) same_place here)

pub returns-in-Err-Rule-clause-refused : goal.returns-in-Err-Rule-clause-refused
returns-in-Err-Rule-clause-refused c = λ rule place e.
    let first = c.check.ensures.refused c.in-Err-Rule.rule c.in-Err-Rule.place (rw c.in-Err-Rule.field-0-is at c.in-Err-Rule.is) in
    refuses c.args.text.now c.args.tokens.now c.in-Ok.tree c.in-Err-Rule.rule c.in-Err-Rule.place c.requires.tokens c.in-Ok.ensures.tree first _ rule place refl e
