-- The registers, states and queues that a bundle's parts read and write.
use Rattle.std.specs.Prelude.{ℕ, Bool, true, false, ◌&&◌, ◌==◌, List, [], ◌∷◌, ◌++◌, if◌then◌else◌}
use Rattle.tie_desc.specs.Description.{Description}
use Rattle.tie_desc.specs.Slots.{access, args_of, links_of}
use Rattle.tie_desc.specs.declared.declarations.Kind.{Kind}
use Rattle.tie_desc.specs.declared.declarations.Kind.TheVariants as kind
use Rattle.tie_desc.specs.declared.declarations.Access.{Access}
use Rattle.tie_desc.specs.declared.declarations.Operand.{Operand}
use Rattle.tie_desc.specs.declared.bundle.Part.{Part}
use Rattle.tie_desc.specs.declared.bundle.Spot.{Spot}
use Rattle.tie_desc.specs.declared.bundle.Spot.TheVariants as spot

-- what an operand with a number in its field stands for; an immediate is no place
abbrev pub spot_of : Kind → ℕ → List Spot
spot_of kind.Ar n = spot.Ar n ∷ []
spot_of (kind.File f) n = spot.File f n ∷ []
spot_of (kind.Range r) n = []
spot_of (kind.State s) n = spot.State s ∷ []
spot_of (kind.InQueue q) n = spot.In q ∷ []
spot_of (kind.OutQueue q) n = spot.Out q ∷ []

-- those of the arguments that pass a test
abbrev pub arg_spots : (Access → Bool) → List Access → List ℕ → List Spot
arg_spots test (a ∷ as') (n ∷ ns) = (if test a then spot_of a.kind n else []) ++ arg_spots test as' ns
arg_spots test _ _ = []

-- those of the links
abbrev pub link_spots : (Access → Bool) → List Operand → List Spot
link_spots test [] = []
link_spots test (p ∷ ps) = (if test (access p) then spot_of p.kind 0 else []) ++ link_spots test ps

-- the registers that a part writes
abbrev pub written_registers : Description → Part → List Spot
written_registers d p = arg_spots (λ a. a.writes) (args_of d p.code) p.fields

-- all that a part writes, and all that it reads
abbrev pub written_spots : Description → Part → List Spot
written_spots d p = written_registers d p ++ link_spots (λ a. a.writes) (links_of d p.code)

abbrev pub read_spots : Description → Part → List Spot
read_spots d p = arg_spots (λ a. a.reads) (args_of d p.code) p.fields ++ link_spots (λ a. a.reads) (links_of d p.code)

abbrev pub same_spot : Spot → Spot → Bool
same_spot (spot.Ar a) (spot.Ar b) = a == b
same_spot spot.Sar spot.Sar = true
same_spot (spot.State a) (spot.State b) = a == b
same_spot (spot.File f a) (spot.File g b) = f == g && a == b
same_spot (spot.In a) (spot.In b) = a == b
same_spot (spot.Out a) (spot.Out b) = a == b
same_spot _ _ = false
