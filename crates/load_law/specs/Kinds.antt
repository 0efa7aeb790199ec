-- The kinds of refusals that networks have.
use Rattle.net_load.specs.tie_files.declared.refusal.Refusal.{Refusal}
use Rattle.net_load.specs.tie_files.declared.refusal.Refusal.TheVariants.{Usage, ReadFault, TooLong, TieRefused, AsmRefused, HexRefused, NetRefused, NoMemory}

-- a file can't be read or is too long, a TIE text is refused, or a rule of networks is broken
abbrev pub IsNetKind : Refusal → Type 0
IsNetKind (Usage word) = ⊥
IsNetKind (ReadFault name) = Unit {0}
IsNetKind (TooLong name) = Unit {0}
IsNetKind (TieRefused name rule place) = Unit {0}
IsNetKind (AsmRefused name rule line column) = ⊥
IsNetKind (HexRefused name rule place) = ⊥
IsNetKind (NetRefused name rule key) = Unit {0}
IsNetKind NoMemory = ⊥
