-- Descriptions of one text have the same queues.
use Rattle.std.proofs.Common.{◌≡◌, ℕ, List, sym, ap, subst, ◌∙◌}
use Rattle.tie_lexer.proofs.Law.{one_list}
use Rattle.tie_ast.specs.Parsing.{IsTreeOf}
use Rattle.tie_ast.proofs.ParseLaw.{one_tree}
use Rattle.tie_desc.specs.Description.{Description}
use Rattle.net_load.specs.tie_check.Checked.{Accepted}
use Rattle.net_load.specs.tie_front.Front.{IsDescriptionOf}

trees : (text : List ℕ) (d e : Description) (p : IsDescriptionOf text d) (q : IsDescriptionOf text e) → p.tree ≡ q.tree
trees text d e p q = one_tree text q.tokens p.tree q.tree (subst (λ z. IsTreeOf text z p.tree) (one_list text p.tokens q.tokens p.lexed q.lexed) p.parsed) q.parsed

-- they are those that the tree of the text declares
pub same_queues : (text : List ℕ) (d e : Description) → IsDescriptionOf text d → IsDescriptionOf text e → (d.ins ≡ e.ins) × (d.outs ≡ e.outs)
same_queues text d e p q =
    let here : Accepted q.tree d = subst (λ t. Accepted t d) (trees text d e p q) p.accepted in (
      ap (λ (x : Description). x.ins) here.describes.declared ∙ sym (ap (λ (x : Description). x.ins) q.accepted.describes.declared),
      ap (λ (x : Description). x.outs) here.describes.declared ∙ sym (ap (λ (x : Description). x.outs) q.accepted.describes.declared),
    )
