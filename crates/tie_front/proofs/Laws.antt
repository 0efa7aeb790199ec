-- A text has one refusal, and none where it has a description.
use Rattle.std.proofs.Common.{◌≡◌, ℕ, List, refl, sym, ap, subst, ◌∙◌}
use Rattle.tie_lexer.specs.declared.Token.{Token}
use Rattle.tie_lexer.specs.Tokens.{AreTokens}
use Rattle.tie_lexer.proofs.Law.{fault_one, fault_or_tokens, one_list}
use Rattle.tie_grammar.specs.declared.tree.Tree.{Tree}
use Rattle.tie_ast.specs.Parsing.{IsTreeOf, IsFaultOf}
use Rattle.tie_ast.proofs.ParseLaw.{one_tree, one_fault, not_both}
use Rattle.tie_check.specs.tie_rules.RuleBook.{rules}
use Rattle.tie_check.specs.tie_rules.Least.{IsFirst}
use Rattle.tie_check.proofs.tie_rules_proofs.First.{is_one, none_first}
use Rattle.tie_desc.specs.Description.{Description}
use Rattle.tie_check.specs.Checked.{Accepted}
use Rattle.tie_front.specs.declared.refusal.TieRule.{TieRule}
use Rattle.tie_front.specs.declared.refusal.TieRule.TheVariants.{Lex, Parse, Rule}
use Rattle.tie_front.specs.Front.{IsDescriptionOf, IsRefused}

-- the tree of a text is one
trees : (text : List ℕ) (ts us : List Token) (t u : Tree) → AreTokens text ts → AreTokens text us → IsTreeOf text ts t → IsTreeOf text us u → t ≡ u
trees text ts us t u a b p q = one_tree text us t u (subst (λ z. IsTreeOf text z t) (one_list text ts us a b) p) q

-- a text with a tree isn't misparsed
tree_or_fault : (text : List ℕ) (ts us : List Token) (t : Tree) (place : ℕ) → AreTokens text ts → AreTokens text us → IsTreeOf text ts t → IsFaultOf text us place → ⊥
tree_or_fault text ts us t place a b p f = not_both text us t place (subst (λ z. IsTreeOf text z t) (one_list text ts us a b) p) f

-- what two refusals of one text are
pub record AreOne (r s : TieRule) (p q : ℕ) : Type 0 where
  pub rule : r ≡ s
  pub place : p ≡ q

pub one_refusal : (text : List ℕ) (r s : TieRule) (p q : ℕ) → IsRefused text r p → IsRefused text s q → AreOne r s p q
one_refusal text (Lex r) (Lex s) p q a b = let e = fault_one text r s p q a b in record { rule = ap Lex e.0; place = e.1 }
one_refusal text (Lex r) Parse p q a b = absurd (fault_or_tokens text b.tokens r p b.lexed a)
one_refusal text (Lex r) (Rule s) p q a b = absurd (fault_or_tokens text b.tokens r p b.lexed a)
one_refusal text Parse (Lex s) p q a b = absurd (fault_or_tokens text a.tokens s q a.lexed b)
one_refusal text Parse Parse p q a b = record {
  rule = refl;
  place = one_fault text b.tokens p q (subst (λ z. IsFaultOf text z p) (one_list text a.tokens b.tokens a.lexed b.lexed) a.fault) b.fault;
}
one_refusal text Parse (Rule s) p q a b = absurd (tree_or_fault text b.tokens a.tokens b.tree p b.lexed a.lexed b.parsed a.fault)
one_refusal text (Rule r) (Lex s) p q a b = absurd (fault_or_tokens text a.tokens s q a.lexed b)
one_refusal text (Rule r) Parse p q a b = absurd (tree_or_fault text a.tokens b.tokens a.tree q a.lexed b.lexed a.parsed b.fault)
one_refusal text (Rule r) (Rule s) p q a b =
    let same : a.tree ≡ b.tree = trees text a.tokens b.tokens a.tree b.tree a.lexed b.lexed a.parsed b.parsed in
    let e = is_one 1 (rules b.tree) r p s q (subst (λ t. IsFirst 1 (rules t) r p) same a.first) b.first in
    record { rule = ap Rule e.0; place = e.1 }

-- a text that has a description isn't refused
pub not_refused : (text : List ℕ) (d : Description) (r : TieRule) (p : ℕ) → IsDescriptionOf text d → IsRefused text r p → ⊥
not_refused text d (Lex r) p a b = fault_or_tokens text a.tokens r p a.lexed b
not_refused text d Parse p a b = tree_or_fault text a.tokens b.tokens a.tree p a.lexed b.lexed a.parsed b.fault
not_refused text d (Rule r) p a b =
    let same : b.tree ≡ a.tree = trees text b.tokens a.tokens b.tree a.tree b.lexed a.lexed b.parsed a.parsed in
    none_first 1 (rules a.tree) r p a.accepted.holds (subst (λ t. IsFirst 1 (rules t) r p) same b.first)
