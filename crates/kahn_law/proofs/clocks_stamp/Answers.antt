use Rattle.kahn_law.proofs.Clocks.{clocked_run_local}
use Rattle.kahn_law.proofs.Moves.{run_begins, run_goes_on}
use Rattle.kahn_law.proofs.Bound.{clock_facts}
use Rattle.kahn_law.proofs.clocks_stamp.Goals as goal

pub returns : goal.returns
returns g c = record {
  begins = λ r first kept h. run_begins r first kept h;
  goes_on = λ r first before after clock xs run next. run_goes_on r first before after clock xs run next;
  rising = λ r first kept clock regular run. clocked_run_local r first regular kept clock run;
  bounded = λ net kept clock wired set. clock_facts net wired kept clock set;
}
