use Rattle.std.proofs.Common.{◌≡◌, ℕ, ◌+◌, Bool, true, false, [], ◌∷◌, ◌++◌, List, Option, None, length, map, get_or, sym, subst, ap, ◌∙◌}
use Rattle.tie_expr.specs.declared.node.Node.{Node}
use Rattle.tie_mean.specs.Names.{setting, setting_at}
use Rattle.tie_mean.proofs.Setting.{setting_read}
use Rattle.tie_grammar.specs.declared.tree.Item.{Item}
use Rattle.tie_mean.specs.Setters.{setter}
use Rattle.tie_results.specs.Reads.{is_marked}
use Rattle.tie_results.specs.Bodies.{AreMade, bounds_of}
use Rattle.tie_results.specs.Callees.{body_of}
use Rattle.tie_results.specs.Plans.{IsFew, IsOneOf}
use Rattle.tie_results.proofs.Framed.{frame_counted}
use Rattle.tie_results.proofs.Making.{IsMaking, IsMadeHere, few_here, making_more}
use Rattle.tie_results.proofs.body.make_needed.Goals as goal
use Rattle.tie_results.proofs.body.make_needed.Goals.{then-marks-k+in_ok-one, else-marks-k}

pub make-requires-clause-right : goal.make-requires-clause-right
make-requires-clause-right c = record {
  ready = c.requires.ready;
  setters = λ q. c.loop-k.invariant.last q ∙ ap (λ n. setter c.args.frame.now.items.now n q) (sym (ap (λ (made : List (Option Node)). length made) c.deref.ensures.value ∙ c.loop-k.invariant.many));
  made = subst (AreMade (body_of c.args.frame.now)) (sym c.deref.ensures.value) c.loop-k.invariant.right;
}

pub make-requires-clause-few : goal.make-requires-clause-few
make-requires-clause-few c =
    let item : Item = get_or c.args.frame.now.items.now c.loop-k.k c.index-frame-k.result in
    let marked : is_marked c.args.marks.now (length c.loop-k.made.items) ≡ true = ap (is_marked c.args.marks.now) c.loop-k.invariant.many ∙ c.if-marks-k.true in
    let read : setting_at c.args.frame.now.items.now (length c.loop-k.made.items) ≡ setting item =
    ap (setting_at c.args.frame.now.items.now) c.loop-k.invariant.many
    ∙ setting_read c.args.frame.now.items.now c.loop-k.k item c.loop-k-test.true (ap (get_or c.args.frame.now.items.now c.loop-k.k) c.index-frame-k.is) in
    subst (λ (made : List (Option Node)). IsFew (bounds_of (body_of c.args.frame.now) made (length made)) (setting item)) (sym c.deref.ensures.value)
    (few_here (body_of c.args.frame.now) c.args.marks.now c.loop-k.made.items (frame_counted c.args.frame.now) c.requires.plan c.loop-k.invariant.present marked (setting item) read)

pub loop-k-preserved : goal.loop-k-preserved
loop-k-preserved c =
    let item : Item = get_or c.args.frame.now.items.now c.loop-k.k c.index-frame-k.result in
    let here : IsMadeHere (body_of c.args.frame.now) c.args.marks.now c.loop-k.made.items item c.if-marks-k.one =
    elim c.if-marks-k.branch [
      | then-marks-k+in_ok-one w ↦ record {
        unmarked = λ f. let no : true ≡ false = sym (ap (is_marked c.args.marks.now) c.loop-k.invariant.many ∙ w.if-marks-k.true) ∙ f in absurd cc;
        marked = λ t.
            subst (λ (o : Option Node). IsOneOf (body_of c.args.frame.now) (length c.loop-k.made.items) (bounds_of (body_of c.args.frame.now) c.loop-k.made.items (length c.loop-k.made.items)) (setting item) o) (sym w.one-is)
            (subst (λ (made : List (Option Node)). IsOneOf (body_of c.args.frame.now) (length made) (bounds_of (body_of c.args.frame.now) made (length made)) (setting item) w.in_ok-one.one) c.deref.ensures.value w.in_ok-one.ensures);
      }
      | else-marks-k w ↦ record {
        unmarked = λ f. w.one-is;
        marked = λ t. let no : true ≡ false = sym t ∙ ap (is_marked c.args.marks.now) c.loop-k.invariant.many ∙ w.if-marks-k.false in absurd cc;
      }
    ] in
    subst (λ (made : List (Option Node)). IsMaking (body_of c.args.frame.now) c.args.marks.now made c.keep_setter.new.setters (c.loop-k.k + 1)) (sym c.in_ok-push.ensures.items)
    (making_more (body_of c.args.frame.now) c.args.marks.now c.loop-k.made.items c.loop-k.setters c.keep_setter.new.setters c.loop-k.k item c.if-marks-k.one (frame_counted c.args.frame.now) c.requires.plan c.loop-k.invariant
    c.loop-k-test.true (ap (get_or c.args.frame.now.items.now c.loop-k.k) c.index-frame-k.is) here c.in_ok-keep_setter.ensures)
