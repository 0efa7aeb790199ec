-- A text that keeps the rules: no rule names a place.
use Rattle.std.proofs.Common.{◌≡◌, ℕ, List, []}
use Rattle.tie_grammar.specs.declared.tree.Tree.{Tree}
use Rattle.tie_describe.specs.tie_rules.Least.{NoneBroken}
use Rattle.tie_describe.specs.tie_rules.RuleBook.{rules}
use Rattle.tie_describe.specs.tie_rules.Declarations.{doubled, short_name, too_many, too_many_opcodes, too_many_args, width_range, depth_range, literal_range, imm_range, format_width, slot_count, slot_list, slot_opcode}
use Rattle.tie_describe.specs.tie_rules.Bodies.{local_doubled, unknown_name, direction}
use Rattle.tie_describe.specs.tie_rules.Schedules.{schedule_order, format_too_wide, state_twice, queue_twice}
use Rattle.tie_description_law.proofs.Elements.{no_places}

pub record Kept (t : Tree) : Type 0 where
  pub doubled : doubled t ≡ []
  pub short_name : short_name t ≡ []
  pub too_many : too_many t ≡ []
  pub too_many_opcodes : too_many_opcodes t ≡ []
  pub too_many_args : too_many_args t ≡ []
  pub width_range : width_range t ≡ []
  pub depth_range : depth_range t ≡ []
  pub literal_range : literal_range t ≡ []
  pub imm_range : imm_range t ≡ []
  pub format_width : format_width t ≡ []
  pub slot_count : slot_count t ≡ []
  pub slot_list : slot_list t ≡ []
  pub slot_opcode : slot_opcode t ≡ []
  pub local_doubled : local_doubled t ≡ []
  pub unknown_name : unknown_name t ≡ []
  pub direction : direction t ≡ []
  pub schedule_order : schedule_order t ≡ []
  pub format_too_wide : format_too_wide t ≡ []
  pub state_twice : state_twice t ≡ []
  pub queue_twice : queue_twice t ≡ []

pub kept : (t : Tree) → NoneBroken (rules t) → Kept t
kept t h =
    let r3 = h.1.1 in
    let r15 = r3.1.1.1.1.1.1.1.1.1.1.1.1 in
    let r26 = r15.1.1.1.1.1.1.1.1.1.1.1 in record {
      doubled = no_places (doubled t) h.0;
      short_name = no_places (short_name t) h.1.0;
      too_many = no_places (too_many t) r3.0;
      too_many_opcodes = no_places (too_many_opcodes t) r3.1.0;
      too_many_args = no_places (too_many_args t) r3.1.1.0;
      width_range = no_places (width_range t) r3.1.1.1.0;
      depth_range = no_places (depth_range t) r3.1.1.1.1.0;
      literal_range = no_places (literal_range t) r3.1.1.1.1.1.0;
      imm_range = no_places (imm_range t) r3.1.1.1.1.1.1.1.0;
      format_width = no_places (format_width t) r3.1.1.1.1.1.1.1.1.0;
      slot_count = no_places (slot_count t) r3.1.1.1.1.1.1.1.1.1.0;
      slot_list = no_places (slot_list t) r3.1.1.1.1.1.1.1.1.1.1.0;
      slot_opcode = no_places (slot_opcode t) r3.1.1.1.1.1.1.1.1.1.1.1.0;
      local_doubled = no_places (local_doubled t) r15.0;
      unknown_name = no_places (unknown_name t) r15.1.0;
      direction = no_places (direction t) r15.1.1.0;
      schedule_order = no_places (schedule_order t) r26.1.0;
      format_too_wide = no_places (format_too_wide t) r26.1.1.0;
      state_twice = no_places (state_twice t) r26.1.1.1.0;
      queue_twice = no_places (queue_twice t) r26.1.1.1.1.0;
    }
