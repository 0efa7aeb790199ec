use Rattle.std.proofs.Common.{◌≡◌, ◌++◌, [], drop, refl, sym, subst, arith, append-nil, length-drop}
use Rattle.std.proofs.lemmas.List.{drop_all}
use Rattle.xt_dis.specs.Listing.{Lists, end}
use Rattle.xt_dis.proofs.Sizes.{size_some}
use Rattle.xt_dis.proofs.Steps.{after_whole, after_single}
use Rattle.xt_dis.proofs.listing.disassemble.Goals as goal

pub loop-at-preserved-in-Some : goal.loop-at-preserved-in-Some
loop-at-preserved-in-Some c =
    let d = c.args.desc.now in
    let bytes = c.args.bytes.now in
    let at = c.loop-at.at in
    let s = size_some d (drop at bytes) c.in-Some.fetched c.in-Some.ensures in
    record {
      within = omega (arith, s.1, length-drop at bytes);
      kept = λ others l. subst (λ z. Lists d 0 bytes (z ++ others)) (sym c.in_ok-push_line-in-Some.ensures)
          (after_whole d bytes at c.loop-at.text.items c.loop-at.invariant.kept c.in-Some.fetched c.in-Some.ensures others l);
    }

pub loop-at-preserved : goal.loop-at-preserved
loop-at-preserved c =
    let d = c.args.desc.now in
    let bytes = c.args.bytes.now in
    let at = c.loop-at.at in
    record {
      within = omega arith;
      kept = λ others l. subst (λ z. Lists d 0 bytes (z ++ others)) (sym c.in_ok-push_byte-in-None.ensures)
          (after_single d bytes at c.loop-at.text.items c.loop-at.invariant.kept _ c.loop-at-test.true refl c.in-None.ensures others l);
    }

pub returns : goal.returns
returns c =
    let d = c.args.desc.now in
    let bytes = c.args.bytes.now in
    let at = c.loop-at.at in
    let rest : drop at bytes ≡ [] = drop_all at bytes c.loop-at-test.false in
    subst (Lists d 0 bytes) (append-nil c.loop-at.text.items)
    (c.loop-at.invariant.kept [] (subst (λ z. Lists d at z []) (sym rest) (end at)))
