-- The parts of a wide bundle fit.
use Rattle.std.proofs.Common.{Bool, true, false, List, [], ◌∷◌, Option, Some, None, refl, IsTrue}
use Rattle.std.specs.Prelude.{◌&&◌}
use Rattle.std.specs.List.{list_all}
use Rattle.tie_desc.specs.Description.{Description}
use Rattle.tie_desc.specs.declared.formats.SlotDecl.{SlotDecl}
use Rattle.tie_desc.specs.declared.formats.FormatDecl.{FormatDecl}
use Rattle.tie_desc.specs.declared.bundle.Part.{Part}
use Rattle.tie_desc.specs.Spelling.{part_fits, is_listed, slots_fit, HasWide}

both : (a b : Bool) → IsTrue (a && b) → IsTrue a × IsTrue b
both true true h = (refl, h)
both true false h = absurd cc
both false b h = absurd cc

join : (a b : Bool) → IsTrue a → IsTrue b → IsTrue (a && b)
join true b g h = h
join false b g h = absurd cc

slots_parts : (d : Description) (ss : List SlotDecl) (ps : List Part) → IsTrue (slots_fit d ss ps) → IsTrue (list_all (part_fits d) ps)
slots_parts d [] [] h = refl
slots_parts d [] (p ∷ ps) h = absurd cc
slots_parts d (s ∷ ss) [] h = absurd cc
slots_parts d (s ∷ ss) (p ∷ ps) h =
    let g = both (is_listed s p && part_fits d p) (slots_fit d ss ps) h in
    join (part_fits d p) (list_all (part_fits d) ps) (both (is_listed s p) (part_fits d p) g.0).1 (slots_parts d ss ps g.1)

pub parts_fit : (d : Description) (o : Option FormatDecl) (ps : List Part) → HasWide d o ps → IsTrue (list_all (part_fits d) ps)
parts_fit d None ps h = absurd h
parts_fit d (Some f) ps h = slots_parts d f.slots ps h.0
