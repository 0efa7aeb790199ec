-- Names are words, as those of every value that is a description.
use Rattle.std.specs.Prelude.{IsTrue}
use Rattle.std.specs.List.{list_all}
use Rattle.tie_desc.specs.Names.{is_word}
use Rattle.tie_desc.specs.Description.{Description}

-- the names of operations and formats, and the short names of files
pub record HasWords (d : Description) : Type 0 where
  pub ops : IsTrue (list_all (λ o. is_word o.name) d.ops)
  pub formats : IsTrue (list_all (λ f. is_word f.name) d.formats)
  pub shorts : IsTrue (list_all (λ f. is_word f.short) d.files)
