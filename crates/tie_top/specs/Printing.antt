-- What is written: the line of each refusal, and the statuses.
use Rattle.std.specs.Prelude.{ℕ, List, ◌++◌, codes}
use Rattle.std.specs.Fmt.{decimal}
use Rattle.tie_report.specs.net_parts.declared.outcome.Outcome.{Outcome}
use Rattle.tie_report.specs.net_parts.declared.outcome.Outcome.TheVariants as outcomes
use Rattle.load_law.specs.net_toml.declared.refusal.NetRule.{NetRule}
use Rattle.load_law.specs.net_toml.declared.refusal.NetRule.TheVariants as net
use Rattle.hex_text.specs.declared.hexadecimal.HexRule.{HexRule}
use Rattle.hex_text.specs.declared.hexadecimal.HexRule.TheVariants.{BadHex, OddHex, LongHex}
use Rattle.asm_law.specs.tie_front.RuleNames.{rule_name}
use Rattle.asm_lines.specs.declared.refusal.AsmRule.{AsmRule}
use Rattle.asm_lines.specs.declared.refusal.AsmRule.TheVariants as asm
use Rattle.tie_top.specs.declared.status.Status.{Status}
use Rattle.tie_top.specs.declared.status.Status.TheVariants as statuses
use Rattle.load_law.specs.tie_files.declared.refusal.Refusal.{Refusal}
use Rattle.load_law.specs.tie_files.declared.refusal.Refusal.TheVariants.{Usage, ReadFault, TooLong, TieRefused, AsmRefused, HexRefused, NetRefused, NoMemory}

-- the status of the report of a network whose run ended so
abbrev pub outcome_status : Outcome → Status
outcome_status outcomes.Halted = statuses.Done
outcome_status outcomes.Trapped = statuses.Trapped
outcome_status outcomes.Unfinished = statuses.Unfinished
outcome_status outcomes.Blocked = statuses.Blocked

abbrev pub hex_rule_word : HexRule → List ℕ
hex_rule_word BadHex = codes "BadHex"
hex_rule_word OddHex = codes "OddHex"
hex_rule_word LongHex = codes "LongHex"

abbrev pub asm_rule_word : AsmRule → List ℕ
asm_rule_word asm.BadToken = codes "BadToken"
asm_rule_word asm.Syntax = codes "Syntax"
asm_rule_word asm.UnknownMnemonic = codes "UnknownMnemonic"
asm_rule_word asm.OperandCount = codes "OperandCount"
asm_rule_word asm.DoubledLabel = codes "DoubledLabel"
asm_rule_word asm.OperandKind = codes "OperandKind"
asm_rule_word asm.OperandRange = codes "OperandRange"
asm_rule_word asm.UnknownLabel = codes "UnknownLabel"
asm_rule_word asm.SlotCount = codes "SlotCount"
asm_rule_word asm.SlotOpcode = codes "SlotOpcode"
asm_rule_word asm.SameDest = codes "SameDest"
asm_rule_word asm.TooLong = codes "TooLong"
asm_rule_word asm.Reach = codes "Reach"

abbrev pub net_rule_word : NetRule → List ℕ
net_rule_word net.Toml = codes "Toml"
net_rule_word net.Key = codes "Key"
net_rule_word net.Version = codes "Version"
net_rule_word net.Range = codes "Range"
net_rule_word net.TooMany = codes "TooMany"
net_rule_word net.Name = codes "Name"
net_rule_word net.Hex = codes "Hex"
net_rule_word net.Image = codes "Image"
net_rule_word net.End = codes "End"
net_rule_word net.Twice = codes "Twice"
net_rule_word net.Width = codes "Width"
net_rule_word net.Unwired = codes "Unwired"
net_rule_word net.Item = codes "Item"
net_rule_word net.Core = codes "Core"

-- the line of a refusal
abbrev pub line_of : Refusal → List ℕ
line_of (Usage word) = codes "usage: word " ++ decimal word ++ codes "\n"
line_of (ReadFault name) = codes "read fault: " ++ name ++ codes "\n"
line_of (TooLong name) = codes "too long: " ++ name ++ codes "\n"
line_of (TieRefused name rule place) = codes "tie refused: " ++ name ++ codes ": " ++ rule_name rule ++ codes " at " ++ decimal place ++ codes "\n"
line_of (AsmRefused name rule line column) =
    codes "asm refused: " ++ name ++ codes ": " ++ asm_rule_word rule ++ codes " at " ++ decimal line ++ codes ":" ++ decimal column ++ codes "\n"
line_of (HexRefused name rule place) = codes "hex refused: " ++ name ++ codes ": " ++ hex_rule_word rule ++ codes " at " ++ decimal place ++ codes "\n"
line_of (NetRefused name rule key) = codes "net refused: " ++ name ++ codes ": " ++ net_rule_word rule ++ codes " at " ++ key ++ codes "\n"
line_of NoMemory = codes "no memory\n"

-- the status of a refusal
abbrev pub status_of : Refusal → Status
status_of (Usage word) = statuses.Usage
status_of (ReadFault name) = statuses.ReadFault
status_of (TooLong name) = statuses.TooLong
status_of (TieRefused name rule place) = statuses.TieRefused
status_of (AsmRefused name rule line column) = statuses.AsmRefused
status_of (HexRefused name rule place) = statuses.TextRefused
status_of (NetRefused name rule key) = statuses.NetRefused
status_of NoMemory = statuses.NoMemory

-- the number with which the program ends
abbrev pub status_number : Status → ℕ
status_number statuses.Done = 0
status_number statuses.Usage = 1
status_number statuses.ReadFault = 2
status_number statuses.TooLong = 3
status_number statuses.TieRefused = 4
status_number statuses.AsmRefused = 5
status_number statuses.NetRefused = 6
status_number statuses.TextRefused = 7
status_number statuses.Trapped = 8
status_number statuses.Unfinished = 9
status_number statuses.Blocked = 10
status_number statuses.WriteFault = 11
status_number statuses.NoMemory = 12
