-- What the texts of the files say that a network file names.
use Rattle.std.specs.Prelude.{◌≡◌, ℕ, nat_le, ◌&&◌, List, ◌++◌, length, codes, Result, Ok, Err}
use Rattle.hex_text.specs.declared.hexadecimal.HexRule.{HexRule}
use Rattle.hex_text.specs.Hexadecimal.{hex_bytes}
use Rattle.net_desc.specs.net_parts.declared.parts.Net.{Net}
use Rattle.net_desc.specs.net_toml.declared.refusal.NetRule.{NetRule}
use Rattle.net_desc.specs.net_toml.declared.refusal.NetRule.TheVariants.{Hex, Image}
use Rattle.net_desc.specs.net_toml.declared.plan.PlanCore.{PlanCore}
use Rattle.net_desc.specs.net_toml.Broken.{Broken, ◌>>=◌, check}
use Rattle.net_desc.specs.net_toml.Names.{place_of}
use Rattle.net_desc.specs.Items.{items_at}
use Rattle.tie_files.specs.declared.refusal.Refusal.{Refusal}
use Rattle.tie_files.specs.declared.refusal.Refusal.TheVariants.{NetRefused}

-- the bytes of a hexadecimal text, whatever its fault
abbrev pub hex_or : List ℕ → Result (List ℕ) (HexRule × ℕ) → Result (List ℕ) Broken
hex_or key (Ok bytes) = Ok bytes
hex_or key (Err fault) = Err (Hex, key)

abbrev pub hex_in : List ℕ → List ℕ → Result (List ℕ) Broken
hex_in key text = hex_or key (hex_bytes 1048576 text)

-- the image of processor i, no longer than its memory and than 65,536 bytes
abbrev pub image_key : ℕ → List ℕ
image_key i = place_of (codes "core") i ++ codes ".image"

unfoldable pub image_in : ℕ → PlanCore → List ℕ → Result (List ℕ) Broken
image_in i core text = do
  bytes ← hex_in (image_key i) text
  fits ← check Image (image_key i) (nat_le (length bytes) core.memory && nat_le (length bytes) 65536)
  Ok bytes

-- the items of source i
abbrev pub items_key : ℕ → List ℕ
items_key i = place_of (codes "source") i ++ codes ".items"

unfoldable pub items_in : Net → ℕ → List ℕ → Result (List ℕ) Broken
items_in net i text = do
  bytes ← hex_in (items_key i) text
  items_at net i bytes

-- a rule of networks is broken, and the network file of this name is refused so
abbrev pub Breaks : {A : Type 0} → List ℕ → Result A Broken → Refusal → Type 0
Breaks name result refusal = (rule : NetRule) × (key : List ℕ) × (result ≡ Err (rule, key)) × (refusal ≡ NetRefused name rule key)
