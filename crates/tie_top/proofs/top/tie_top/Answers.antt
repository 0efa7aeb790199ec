use Rattle.std.proofs.Common.{refl}
use Rattle.tie_top.specs.Answers.{Call, called, IsRight}
use Rattle.tie_top.specs.declared.status.Status.TheVariants as statuses
use Rattle.tie_top.proofs.Comes.{usage_only, read_fault_only, too_long_only, tie_refused_only, asm_refused_only, net_refused_only, text_refused_only, report_only, write_fault_only}
use Rattle.tie_top.proofs.Wherever.{usage_where, too_long_where, tie_refused_where, asm_refused_where, net_refused_where, text_refused_where, report_where, complete}
use Rattle.tie_top.proofs.top.tie_top.Goals as goal

pub returns : goal.returns
returns g c =
    let k : Call = called g.S.Shelf.holds g.S.Shelf.faults g.O.Sink.written g.O.Sink.faults c.args.words.now c.args.shelf.now c.judge-verdict.new.shelf c.args.out.now c.deliver.new.out c.args.err.now c.deliver.new.err c.deliver.result in
    let right : IsRight k = (c.judge-verdict.result, c.judge-verdict.ensures, c.deliver.ensures) in
    record {
      right = right;
      usage = (usage_only k right, usage_where k right);
      read_fault = read_fault_only k right;
      too_long = (too_long_only k right, too_long_where k right);
      tie_refused = (tie_refused_only k right, tie_refused_where k right);
      asm_refused = (asm_refused_only k right, asm_refused_where k right);
      net_refused = (net_refused_only k right, net_refused_where k right);
      text_refused = (text_refused_only k right, text_refused_where k right);
      done = (report_only k statuses.Done right refl, report_where k statuses.Done right);
      trapped = (report_only k statuses.Trapped right refl, report_where k statuses.Trapped right);
      unfinished = (report_only k statuses.Unfinished right refl, report_where k statuses.Unfinished right);
      blocked = (report_only k statuses.Blocked right refl, report_where k statuses.Blocked right);
      write_fault = write_fault_only k right;
      complete = complete k right;
    }
