use Rattle.std.proofs.Common.{◌≡◌, List, length, refl, sym, ap, subst, ◌∙◌}
use Rattle.std.proofs.lemmas.List.{with_items_is}
use Rattle.std.proofs.lemmas.Result.{IfOk-weaker, on_ok_weaker}
use Rattle.net_ref.specs.declared.channel.Channel.{Channel}
use Rattle.net_ref.specs.Shown.{ShowsChannels}
use Rattle.net_ref.proofs.Ready.{ready, ins_below, outs_below, few_ins, few_outs}
use Rattle.net_ref.proofs.Updates.{core_turned, run_core}
use Rattle.net_ref.proofs.turns.turn_core.Goals as goal

pub core_turn-requires-clause-made : goal.core_turn-requires-clause-made
core_turn-requires-clause-made c =
    let r = ready c.args.net.now c.args.ports.now c.args.run.now c.args.c c.index-core.result.now c.index.result.now c.index_mut.result.now c.requires.ports c.requires.whole c.requires.worker
    c.index-core.ensures c.index.ensures c.index_mut.ensures.value in
    c.requires.whole.made c.args.c c.index-core.result.now c.index_mut.result.now r.there r.at

pub core_turn-requires-clause-ins : goal.core_turn-requires-clause-ins
core_turn-requires-clause-ins c =
    let r = ready c.args.net.now c.args.ports.now c.args.run.now c.args.c c.index-core.result.now c.index.result.now c.index_mut.result.now c.requires.ports c.requires.whole c.requires.worker
    c.index-core.ensures c.index.ensures c.index_mut.ensures.value in
    ins_below c.args.net.now c.args.c c.index-core.result.now c.index.result.now c.as_mut_slice.result.now c.requires.net r.there r.table
    (ap length c.as_mut_slice.ensures.value ∙ c.requires.whole.channels)

pub core_turn-requires-clause-outs : goal.core_turn-requires-clause-outs
core_turn-requires-clause-outs c =
    let r = ready c.args.net.now c.args.ports.now c.args.run.now c.args.c c.index-core.result.now c.index.result.now c.index_mut.result.now c.requires.ports c.requires.whole c.requires.worker
    c.index-core.ensures c.index.ensures c.index_mut.ensures.value in
    outs_below c.args.net.now c.args.c c.index-core.result.now c.index.result.now c.as_mut_slice.result.now c.requires.net r.there r.table
    (ap length c.as_mut_slice.ensures.value ∙ c.requires.whole.channels)

pub core_turn-requires-clause-few_ins : goal.core_turn-requires-clause-few_ins
core_turn-requires-clause-few_ins c =
    let r = ready c.args.net.now c.args.ports.now c.args.run.now c.args.c c.index-core.result.now c.index.result.now c.index_mut.result.now c.requires.ports c.requires.whole c.requires.worker
    c.index-core.ensures c.index.ensures c.index_mut.ensures.value in
    few_ins c.args.net.now c.args.c c.index-core.result.now c.index.result.now c.facts.ensures r.table

pub core_turn-requires-clause-few_outs : goal.core_turn-requires-clause-few_outs
core_turn-requires-clause-few_outs c =
    let r = ready c.args.net.now c.args.ports.now c.args.run.now c.args.c c.index-core.result.now c.index.result.now c.index_mut.result.now c.requires.ports c.requires.whole c.requires.worker
    c.index-core.ensures c.index.ensures c.index_mut.ensures.value in
    few_outs c.args.net.now c.args.c c.index-core.result.now c.index.result.now c.facts.ensures r.table

pub returns-clause-whole : goal.returns-clause-whole
returns-clause-whole c =
    let run = c.args.run.now in
    let r = ready c.args.net.now c.args.ports.now run c.args.c c.index-core.result.now c.index.result.now c.index_mut.result.now c.requires.ports c.requires.whole c.requires.worker
    c.index-core.ensures c.index.ensures c.index_mut.ensures.value in
    let new = c.core_turn.new.channels in
    let len : length new ≡ length run.channels.items = c.core_turn.auto.channels ∙ ap length c.as_mut_slice.ensures.value in
    on_ok_weaker c.core_turn.result
    (λ made. run_core c.args.net.now c.args.c c.index-core.result.now c.core_turn.new.at c.index_mut.result.now new run _ r.there r.at c.requires.whole made len (record {
      cores = refl;
      sources = refl;
      collectors = refl;
      queues = with_items_is run.channels new (len ∙ sym run.channels.ok.0);
    }))
    c.core_turn.ensures.made

pub returns-clause-turn : goal.returns-clause-turn
returns-clause-turn c =
    let net = c.args.net.now in
    let run = c.args.run.now in
    let r = ready net c.args.ports.now run c.args.c c.index-core.result.now c.index.result.now c.index_mut.result.now c.requires.ports c.requires.whole c.requires.worker
    c.index-core.ensures c.index.ensures c.index_mut.ensures.value in
    let here = c.index-core.result.now in
    let x = c.index_mut.result.now in
    let new = c.core_turn.new.channels in
    let len : length new ≡ length run.channels.items = c.core_turn.auto.channels ∙ ap length c.as_mut_slice.ensures.value in
    IfOk-weaker c.core_turn.result _ _
    (λ moved h nodes shows. core_turned c.args.bounded net nodes c.args.c here moved c.core_turn.new.at x new run _ r.there r.at shows
    (h c.args.c nodes (record {
      sound = c.requires.net;
      there = r.there;
      table = r.table;
      core = shows.cores c.args.c here x r.there r.at;
      queues = subst (λ (xs : List Channel). ShowsChannels net nodes xs) (sym c.as_mut_slice.ensures.value) shows.channels;
    }))
    (record {
      cores = refl;
      sources = refl;
      collectors = refl;
      queues = with_items_is run.channels new (len ∙ sym run.channels.ok.0);
    }))
    c.core_turn.ensures.turn
