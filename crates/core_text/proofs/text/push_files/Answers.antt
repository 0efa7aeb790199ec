use Rattle.std.proofs.Common.{◌≡◌, ◌∙◌, ap}
use Rattle.tie_desc.specs.Description.{Description}
use Rattle.core_text.proofs.Lines.{file_depth}
use Rattle.core_text.proofs.text.push_files.Goals as goal

pub push_file-requires-clause-depth : goal.push_file-requires-clause-depth
push_file-requires-clause-depth c =
    let same : c.as_slice-file-items.result.now ≡ c.args.desc.now.files = c.as_slice-file-items.ensures ∙ ap (λ (d : Description). d.files) c.desc.view_is in
    file_depth c.args.desc.now c.args.arch.now c.loop-number.number c.file-item.result c.requires (rw same at c.loop-number-test.true) (rw same at c.file-item.is)
