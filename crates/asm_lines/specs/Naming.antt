-- What words name.
use Rattle.std.specs.Prelude.{ℕ, List, Option, Some, None}
use Rattle.std.specs.List.{position}
use Rattle.std.specs.Option.{option_map}
use Rattle.std.specs.Str.{bytes_eq}
use Rattle.xt_mnemonics.specs.declared.mnemonic.Mnemonic.{Mnemonic}
use Rattle.xt_mnemonics.specs.Names.{mnemonic_named}
use Rattle.tie_desc.specs.Description.{Description}
use Rattle.asm_lines.specs.declared.line.Operator.{Operator}
use Rattle.asm_lines.specs.declared.line.Operator.TheVariants as operator

abbrev pub core_or : Option Mnemonic → Option Operator → Option Operator
core_or (Some m) other = Some (operator.Core m)
core_or None other = other

-- the core mnemonic that a word is in any case, or the operation of that name
unfoldable pub named : Description → List ℕ → Option Operator
named d word = core_or (mnemonic_named word) (option_map operator.Op (position (λ op. bytes_eq op.name word) d.ops))

-- the format of that name
abbrev pub format_named : Description → List ℕ → Option ℕ
format_named d word = position (λ f. bytes_eq f.name word) d.formats
