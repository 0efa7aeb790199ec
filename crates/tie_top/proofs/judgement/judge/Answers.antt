use Rattle.std.proofs.Common.{map, string_bytes}
use Rattle.tie_top.proofs.CommandSteps.{accepted, refused}
use Rattle.tie_top.proofs.judgement.judge.Goals as goal

pub returns-in-Ok : goal.returns-in-Ok
returns-in-Ok g c = accepted _ (map string_bytes c.args.words.now) _ _ c.in-Ok.ensures c.obey.ensures

pub returns-in-Err : goal.returns-in-Err
returns-in-Err g c = refused _ (map string_bytes c.args.words.now) _ c.in-Err.ensures
