use Rattle.stop_law.proofs.Cores.{IsAtStop, core_still}
use Rattle.stop_law.proofs.Others.{collector_finished, source_finished}
use Rattle.stop_law.proofs.stops_are_finished.Goals as goal

pub returns : goal.returns
returns c bounded net end sound stop =
    let at : IsAtStop bounded net stop.rounds end = record { sound = sound; stops = stop.stops; ends = stop.ends } in
    record {
      cores = λ n here e there shown. core_still bounded net stop.rounds end n here e at there shown;
      sources = λ s here there. source_finished bounded net stop.rounds end s here at there;
      collectors = λ k here vs there shown. collector_finished bounded net stop.rounds end k here vs at there shown;
    }
