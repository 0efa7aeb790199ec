use Rattle.kahn_law.proofs.Strict.{reaches_causal_set}
use Rattle.kahn_law.proofs.Room.{strict_keeps_room}
use Rattle.kahn_law.proofs.references_are_causal.Goals as goal

pub returns : goal.returns
returns g c = record {
  reached = λ net gate n wired. reaches_causal_set net gate wired n;
  strict = λ net n wired. strict_keeps_room net wired n;
}
