-- The names so far, in the order of the file.
use Rattle.std.specs.Prelude.{ℕ, List, map, string_bytes, String}
use Rattle.std.specs.declared.alloc.Global.{Global}
use Rattle.std.specs.declared.hash.FoldHasher.{FoldHasher}
use Rattle.std.specs.declared.hash.BuildHasherDefault.{BuildHasherDefault}
use Rattle.indexmap.specs.IndexSet.{IndexSet}

-- their bytes
abbrev pub names_in : IndexSet (String Global) (BuildHasherDefault FoldHasher) → List (List ℕ)
names_in set = map string_bytes set.keys
