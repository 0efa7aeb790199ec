use Rattle.std.proofs.Common.{◌≡◌, ◌<◌, ◌++◌, [], ◌∷◌, length, get_or, sym, ap, ◌∙◌, arith, rules}
use Rattle.std.proofs.lemmas.Grind.{common_steps}
use Rattle.std.proofs.lemmas.Iterator.Consumers.{YieldsList-turn}
use Rattle.std.proofs.lemmas.Iterator.Adapters.{YieldsList-from_vec}
use Rattle.net_desc.specs.Workers.{core_with, cores_with}
use Rattle.net_desc.proofs.Cores.{cores_with-none, cores_with-push}
use Rattle.net_desc.proofs.workers.cores_of.Goals as goal

pub loop-kit-init : goal.loop-kit-init
loop-kit-init c = record {
  made = c.new-made.ensures.items ∙ sym (cores_with-none c.args.cores.now);
  count = ap length c.new-made.ensures.items;
}

pub loop-kit-preserved : goal.loop-kit-preserved
loop-kit-preserved c =
    let ps = c.args.cores.now in
    let ks = c.loop-kit.yielded in
    let n = c.len.result in
    let p = c.index-cores-len.result in
    let same : n ≡ length ks = grind (arith, common_steps) in
    let turn = YieldsList-turn (YieldsList-from_vec {s = c.into_iter-kit-iterator.result} c.args.kits.items (search rules) (search rules))
    ks c.loop-kit.kit-iterator c.loop-kit.yielded_by c.next.result c.next.new.self (c.in-Some.kit, c.in-Some.text) c.in-Some.is c.next.ensures.steps in
    let more : length ks < length c.args.kits.items = turn.0 in
    let below : n < length ps = omega (arith, more, same, c.requires) in
    let core : c.core_with-core.result ≡ core_with (get_or ps n p) (c.in-Some.kit, c.in-Some.text) =
    c.core_with-core.ensures ∙ ap (λ q. core_with q (c.in-Some.kit, c.in-Some.text)) c.index-cores-len.is in
    record {
      made = c.in_ok-push.ensures.items ∙ ap (λ xs. xs ++ c.core_with-core.result ∷ []) c.loop-kit.invariant.made
          ∙ ap (λ x. cores_with ps ks ++ x ∷ []) core ∙ sym (cores_with-push ps ks (c.in-Some.kit, c.in-Some.text) p n same below);
      count = grind (arith, common_steps);
    }
