-- The 31 rules of a text, in their order, each by the places at which it is broken. A later rule is judged only where lesser ones hold.
use Rattle.std.specs.Prelude.{ℕ, List, [], ◌∷◌, ◌++◌}
use Rattle.tie_grammar.specs.declared.tree.Tree.{Tree}
use Rattle.tie_rules.specs.Declarations.{doubled, short_name, too_many, too_many_opcodes, too_many_args, width_range, depth_range, literal_range, table_count, imm_range, format_width, slot_count, slot_list, slot_opcode}
use Rattle.tie_rules.specs.Bodies.{local_doubled, unknown_name, direction, recursion, arg_count, used_before, assigned_twice, not_assigned, select_range, arg_size, size_range, too_large}
use Rattle.tie_rules.specs.Schedules.{schedule_twice, schedule_order, format_too_wide, state_twice, queue_twice}

-- 1
abbrev pub name_rules : Tree → List (List ℕ)
name_rules t = doubled t ∷ []

-- 2
abbrev pub short_rules : Tree → List (List ℕ)
short_rules t = short_name t ∷ []

-- 3 to 14
abbrev pub declaration_rules : Tree → List (List ℕ)
declaration_rules t =
    too_many t ∷ too_many_opcodes t ∷ too_many_args t ∷ width_range t ∷ depth_range t ∷ literal_range t ∷ table_count t
    ∷ imm_range t ∷ format_width t ∷ slot_count t ∷ slot_list t ∷ slot_opcode t ∷ []

-- 15 to 25
abbrev pub body_rules : Tree → List (List ℕ)
body_rules t =
    local_doubled t ∷ unknown_name t ∷ direction t ∷ recursion t ∷ arg_count t ∷ used_before t ∷ assigned_twice t ∷ not_assigned t ∷ select_range t
    ∷ arg_size t ∷ size_range t ∷ []

-- 26 to 30
abbrev pub schedule_rules : Tree → List (List ℕ)
schedule_rules t = schedule_twice t ∷ schedule_order t ∷ format_too_wide t ∷ state_twice t ∷ queue_twice t ∷ []

-- 31
abbrev pub size_rules : Tree → List (List ℕ)
size_rules t = too_large t ∷ []

abbrev pub late_rules : Tree → List (List ℕ)
late_rules t = schedule_rules t ++ size_rules t

-- 3 to 31
abbrev pub rules_behind_names : Tree → List (List ℕ)
rules_behind_names t = declaration_rules t ++ (body_rules t ++ late_rules t)

abbrev pub rules : Tree → List (List ℕ)
rules t = name_rules t ++ (short_rules t ++ rules_behind_names t)
