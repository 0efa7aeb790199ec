-- The queues of a bundle, in the order of their declaration.
use Rattle.std.specs.Prelude.{◌≡◌, ℕ, ◌+◌, ◌%◌, ◌^◌, ◌<◌, Bool, false, ◌==◌, List, [], ◌∷◌, length, Option, Some, None, IsTrue, slice_get, slice_index_or, unwrap_or, if◌then◌else◌}
use Rattle.std.specs.List.{list_any}
use Rattle.tie_desc.specs.Description.{Description}
use Rattle.tie_desc.specs.Operands.{queue_width}
use Rattle.tie_desc.specs.Slots.{links_of}
use Rattle.tie_desc.specs.Spots.{same_spot}
use Rattle.tie_desc.specs.declared.declarations.Kind.{Kind}
use Rattle.tie_desc.specs.declared.declarations.Kind.TheVariants as kind
use Rattle.tie_desc.specs.declared.bundle.Part.{Part}
use Rattle.tie_desc.specs.declared.bundle.Bundle.{Bundle}
use Rattle.tie_desc.specs.declared.bundle.Bundle.TheVariants as bundle
use Rattle.tie_desc.specs.declared.bundle.Spot.{Spot}
use Rattle.tie_desc.specs.declared.bundle.Spot.TheVariants as spot

-- the operations of a bundle; a core instruction has none
abbrev pub parts : Bundle → List Part
parts (bundle.Core i) = []
parts (bundle.One p) = p ∷ []
parts (bundle.Wide f ps) = ps.items

abbrev pub is_input : ℕ → Kind → Bool
is_input q (kind.InQueue x) = x == q
is_input q _ = false

abbrev pub is_output : ℕ → Kind → Bool
is_output q (kind.OutQueue x) = x == q
is_output q _ = false

-- an operation of the bundle has a link of this kind
abbrev pub has_link : Description → (Kind → Bool) → Bundle → Bool
has_link d test b = list_any (λ p. list_any (λ l. test l.kind) (links_of d p.code)) (parts b)

-- whether it pops an input queue, and pushes an output queue
abbrev pub pops : Description → Bundle → ℕ → Bool
pops d b q = has_link d (is_input q) b

abbrev pub pushes : Description → Bundle → ℕ → Bool
pushes d b q = has_link d (is_output q) b

-- ---- items

-- the head of an input queue
abbrev pub head_of : List (Option ℕ) → ℕ → Option ℕ
head_of heads q = slice_index_or heads q None

-- the item that is popped, modulo 2 to the width of the queue
abbrev pub item_of : Description → List (Option ℕ) → ℕ → ℕ
item_of d heads q = unwrap_or (head_of heads q) 0 % 2 ^ queue_width (slice_get d.ins q)

-- a queue that the bundle pops has no head
abbrev pub Lacks : Description → Bundle → List (Option ℕ) → ℕ → Type 0
Lacks d b heads q = (q < length d.ins) × IsTrue (pops d b q) × (head_of heads q ≡ None)

abbrev pub HasItems : Description → Bundle → List (Option ℕ) → Type 0
HasItems d b heads = (q : ℕ) → Lacks d b heads q → ⊥

-- it is the first such queue
abbrev pub IsFirstLacking : Description → Bundle → List (Option ℕ) → ℕ → Type 0
IsFirstLacking d b heads q = Lacks d b heads q × ((r : ℕ) → r < q → Lacks d b heads r → ⊥)

-- the value that is written to an output queue, and those of all
abbrev pub sent : List (Spot × ℕ) → ℕ → Option ℕ
sent [] q = None
sent (x ∷ xs) q = if same_spot x.0 (spot.Out q) then Some x.1 else sent xs q

abbrev pub all_sent : List (Spot × ℕ) → List (Option ℕ)
all_sent xs = sent xs 0 ∷ sent xs 1 ∷ sent xs 2 ∷ sent xs 3 ∷ sent xs 4 ∷ sent xs 5 ∷ sent xs 6 ∷ sent xs 7 ∷ []

-- no queue has a head
abbrev pub no_heads : List (Option ℕ)
no_heads = None ∷ None ∷ None ∷ None ∷ None ∷ None ∷ None ∷ None ∷ []

-- ---- queues as the bits of a number, the first lowest

abbrev pub bit_if : Bool → ℕ → ℕ
bit_if test weight = if test then weight else 0

abbrev pub mask : (ℕ → Bool) → ℕ
mask test =
    bit_if (test 0) 1 + bit_if (test 1) 2 + bit_if (test 2) 4 + bit_if (test 3) 8 + bit_if (test 4) 16 + bit_if (test 5) 32
    + bit_if (test 6) 64 + bit_if (test 7) 128
