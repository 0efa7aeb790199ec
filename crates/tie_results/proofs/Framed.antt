-- What is counted where a body stands.
use Rattle.std.proofs.Common.{sym, map}
use Rattle.tie_mean.specs.Names.{is_among, table_declared}
use Rattle.tie_mean.proofs.Tables.{tables_stay}
use Rattle.tie_results.specs.Callees.{body_of}
use Rattle.tie_results.specs.Texts.{tables_in}
use Rattle.tie_results.specs.declared.frame.Frame.{Frame}
use Rattle.tie_results.proofs.Making.{IsCounted}
use Rattle.tie_results.proofs.Times.{times_once}

pub frame_counted : (f : Frame) → IsCounted (body_of f)
frame_counted f = record {
  same = λ name. sym (tables_stay (is_among (map table_declared (tables_in f.text.now))) f.tree.now.declarations f.declarations name);
  once = times_once (is_among (map table_declared (tables_in f.text.now))) f.tree.now.declarations f.declarations;
}
