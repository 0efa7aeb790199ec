use Rattle.std.proofs.Common.{◌≡◌, [], ◌∷◌, ◌++◌, map, refl, ap, subst, ◌∙◌}
use Rattle.tie_desc.specs.Invariant.{IsDescription}
use Rattle.tie_desc.specs.declared.bundle.Kit.{Kit}
use Rattle.net_desc.specs.Alone.{alone_source, alone_collector, alone_inputs, alone_outputs}
use Rattle.net_desc.proofs.OneCore.{alone-kept}
use Rattle.net_desc.proofs.single.alone.Goals as goal

pub returns-clause-network : goal.returns-clause-network
returns-clause-network c =
    let desc = c.args.kit.desc in
    let ins = ap (λ (k : Kit). k.desc.ins) c.kit.view_is in
    let outs = ap (λ (k : Kit). k.desc.outs) c.kit.view_is in
    let inputs : c.push_inputs.new.queues.items ≡ alone_inputs 0 desc.ins =
    c.in_ok-push_inputs.ensures ∙ ap (λ xs. xs ++ alone_inputs 0 c.as_slice-3.result.now) c.new-queues.ensures.items
    ∙ ap (alone_inputs 0) (c.as_slice-3.ensures ∙ ins) in
    let queues : c.push_outputs.new.queues.items ≡ alone_inputs 0 desc.ins ++ alone_outputs 0 desc.outs =
    c.in_ok-push_outputs.ensures ∙ ap (λ xs. xs ++ alone_outputs 0 c.as_slice-4.result.now) inputs
    ∙ ap (λ qs. alone_inputs 0 desc.ins ++ alone_outputs 0 qs) (c.as_slice-4.ensures ∙ outs) in
    alone-kept (c.args.kit, c.args.text) _
    (record {
      kill = refl;
      cores = c.in_ok-cores.ensures.items ∙ ap (λ x. x ∷ []) c.core.ensures;
      sources = c.in_ok-sources.ensures ∙ ap (map alone_source) (c.as_slice.ensures ∙ ins);
      collectors = c.in_ok-collectors.ensures ∙ ap (map alone_collector) (c.as_slice-2.ensures ∙ outs);
      queues = queues;
    })
    (subst (λ (k : Kit). IsDescription k.desc) c.kit.view_is c.facts.ensures) c.requires.image c.requires.short
