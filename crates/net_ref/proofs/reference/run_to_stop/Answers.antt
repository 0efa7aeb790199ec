use Rattle.net_ref.proofs.reference.run_to_stop.Goals as goal

pub go_to_stop-requires-clause-first : goal.go_to_stop-requires-clause-first
go_to_stop-requires-clause-first c = c.in_ok-run.ensures.shows c.args.bounded
