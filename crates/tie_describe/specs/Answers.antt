-- What is made, as a description.
use Rattle.tie_desc.specs.Description.{Description}
use Rattle.tie_describe.specs.declared.Parts.{Parts}

abbrev pub description_of : Parts → Description
description_of p = record {
  states = p.states.items;
  files = p.files.items;
  ranges = p.ranges.items;
  ops = p.ops.items;
  formats = p.formats.items;
  ins = p.ins.items;
  outs = p.outs.items;
}
