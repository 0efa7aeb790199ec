use Rattle.net_ref.proofs.FirstRun.{first_parts, first_shows, first_whole}
use Rattle.net_ref.proofs.running.first_run.Goals as goal

pub returns-clause-whole : goal.returns-clause-whole
returns-clause-whole c =
    let cores = c.in_ok-first_cores in
    let sources = c.in_ok-no_pushes in
    let collectors = c.in_ok-no_values in
    let channels = c.in_ok-no_items in
    first_whole c.args.net.now _
    (first_parts c.args.net.now c.as_slice.result.now c.len.result c.len-2.result c.len-3.result cores.field-0 sources.field-0 collectors.field-0 channels.field-0
    c.as_slice.ensures.value c.len.ensures c.len-2.ensures c.len-3.ensures cores.ensures.len cores.ensures.each sources.ensures collectors.ensures.len collectors.ensures.each
    channels.ensures.len channels.ensures.each)

pub returns-clause-shows : goal.returns-clause-shows
returns-clause-shows c bounded =
    let cores = c.in_ok-first_cores in
    let sources = c.in_ok-no_pushes in
    let collectors = c.in_ok-no_values in
    let channels = c.in_ok-no_items in
    first_shows c.args.net.now _ bounded
    (first_parts c.args.net.now c.as_slice.result.now c.len.result c.len-2.result c.len-3.result cores.field-0 sources.field-0 collectors.field-0 channels.field-0
    c.as_slice.ensures.value c.len.ensures c.len-2.ensures c.len-3.ensures cores.ensures.len cores.ensures.each sources.ensures collectors.ensures.len collectors.ensures.each
    channels.ensures.len channels.ensures.each)
