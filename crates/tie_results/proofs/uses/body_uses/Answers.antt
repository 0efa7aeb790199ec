use Rattle.std.proofs.Common.{◌≡◌, ℕ, ◌+◌, [], ◌∷◌, ◌++◌, List, map, get_or, sym, subst, ap, ◌∙◌}
use Rattle.std.proofs.lemmas.List.{map-append}
use Rattle.tie_mean.specs.Names.{is_among, table_declared}
use Rattle.tie_mean.specs.Setters.{leaf_names}
use Rattle.tie_results.specs.Texts.{tables_in}
use Rattle.tie_results.proofs.Used.{AreUsesTo, uses_more}
use Rattle.tie_results.proofs.uses.body_uses.Goals as goal

pub loop-k-preserved : goal.loop-k-preserved
loop-k-preserved c =
    let pushed : map (λ ks. ks.items) c.push.new.self.items ≡ map (λ ks. ks.items) c.loop-k.items.items ++ c.in_ok-item_uses.field-0.items ∷ [] =
    ap (map (λ ks. ks.items)) c.in_ok-push.ensures.items ∙ map-append (λ ks. ks.items) c.loop-k.items.items (c.in_ok-item_uses.field-0 ∷ []) in
    subst (λ (rows : List (List ℕ)). AreUsesTo (is_among (map table_declared (tables_in c.args.frame.now.text.now))) (leaf_names c.args.frame.now.inputs.now) c.args.frame.now.items.now rows c.keep_setter.new.setters (c.loop-k.k + 1))
    (sym pushed)
    (uses_more (is_among (map table_declared (tables_in c.args.frame.now.text.now))) (leaf_names c.args.frame.now.inputs.now) c.args.frame.now.items.now (map (λ ks. ks.items) c.loop-k.items.items) c.loop-k.setters
    c.keep_setter.new.setters c.loop-k.k (get_or c.args.frame.now.items.now c.loop-k.k c.index-frame-k.result) c.in_ok-item_uses.field-0.items c.loop-k.invariant c.loop-k-test.true
    (ap (get_or c.args.frame.now.items.now c.loop-k.k) c.index-frame-k.is) c.in_ok-item_uses.ensures c.in_ok-keep_setter.ensures)
