-- What a kept tree means, its size, and whether the widths in it go together.
use Rattle.std.specs.Prelude.{ℕ, ◌+◌, ◌*◌, ◌^◌, Bool, ◌&&◌, ◌==◌, nat_lt, nat_le, List, [], ◌∷◌, ◌++◌, length, map}
use Rattle.std.specs.List.{list_all, sum_by, flat_map}
use Rattle.tie_expr.specs.Word.{Word}
use Rattle.tie_expr.specs.Operators.{two_widths_agree}
use Rattle.tie_expr.specs.Meaning.{Meaning, constant_meaning, input_meaning, one_meaning, two_meaning, choose_meaning, join_meaning, part_meaning, resize_meaning, lookup_meaning, repeat_meaning, arm, select_meaning, mul_meaning}
use Rattle.tie_expr.specs.Size.{node_weight, wide_weight, table_weight, one_weight, two_weight}
use Rattle.tie_expr.specs.declared.node.Node.{Node}
use Rattle.tie_expr.specs.declared.node.Node.TheOpen.{Node-F}
use Rattle.tie_expr.specs.declared.node.Node.TheFolds.{fold-Node}

-- an input: its place in the environment, and the width that it is read in
pub record Input : Type 0 where
  pub index : ℕ
  pub width : ℕ

-- all that is known of a tree
pub record Summary : Type 0 where
  pub meaning : Meaning
  pub inputs : List Input
  pub size : ℕ
  pub typed : Bool

-- a width of 1 to 128 bits
abbrev pub is_width : ℕ → Bool
is_width w = nat_lt 0 w && nat_le w 128

-- a width, and a value that fits it
abbrev pub is_word : Word → Bool
is_word x = is_width x.width && nat_lt x.value (2 ^ x.width)

-- each arm is typed and has this width
abbrev pub arms_typed : ℕ → List Summary → Bool
arms_typed w arms = list_all (λ a. a.typed && a.meaning.width == w) arms

abbrev pub arm_meanings : List Summary → List Meaning
arm_meanings arms = map (λ a. a.meaning) arms

abbrev pub summary_step : Node-F Summary → Summary
summary_step (Node-F.Constant x) = record { meaning = constant_meaning x; inputs = []; size = node_weight; typed = is_word x }
summary_step (Node-F.Input i w) = record { meaning = input_meaning i w; inputs = record { index = i; width = w } ∷ []; size = node_weight; typed = is_width w }
summary_step (Node-F.One op a) = record {
  meaning = one_meaning op a.meaning;
  inputs = a.inputs;
  size = one_weight op + a.size;
  typed = a.typed;
}
summary_step (Node-F.Two op a b) = record {
  meaning = two_meaning op a.meaning b.meaning;
  inputs = a.inputs ++ b.inputs;
  size = two_weight op + a.size + b.size;
  typed = (a.typed && b.typed) && two_widths_agree op a.meaning.width b.meaning.width;
}
summary_step (Node-F.Choose c a b) = record {
  meaning = choose_meaning c.meaning a.meaning b.meaning;
  inputs = c.inputs ++ a.inputs ++ b.inputs;
  size = node_weight + c.size + a.size + b.size;
  typed = (c.typed && a.typed) && (b.typed && a.meaning.width == b.meaning.width);
}
summary_step (Node-F.Join a b) = record {
  meaning = join_meaning a.meaning b.meaning;
  inputs = a.inputs ++ b.inputs;
  size = node_weight + a.size + b.size;
  typed = (a.typed && b.typed) && nat_le (a.meaning.width + b.meaning.width) 128;
}
summary_step (Node-F.Part a high low) = record {
  meaning = part_meaning a.meaning high low;
  inputs = a.inputs;
  size = node_weight + a.size;
  typed = a.typed && (nat_le low high && nat_lt high a.meaning.width);
}
summary_step (Node-F.Resize a w) = record {
  meaning = resize_meaning a.meaning w;
  inputs = a.inputs;
  size = node_weight + a.size;
  typed = a.typed && is_width w;
}
summary_step (Node-F.Lookup a entries w) = record {
  meaning = lookup_meaning a.meaning entries w;
  inputs = a.inputs;
  size = table_weight + a.size;
  typed = (a.typed && is_width w) && (nat_le (length entries) 256 && list_all (λ x. nat_lt x (2 ^ w)) entries);
}
summary_step (Node-F.Repeat a n) = record {
  meaning = repeat_meaning a.meaning n;
  inputs = a.inputs;
  size = wide_weight + a.size;
  typed = a.typed && (nat_lt 0 n && nat_le (a.meaning.width * n) 128);
}
summary_step (Node-F.Select s arms) = record {
  meaning = select_meaning s.meaning (arm_meanings arms);
  inputs = s.inputs ++ flat_map (λ a. a.inputs) arms;
  size = wide_weight + s.size + sum_by (λ a. a.size) arms;
  typed = (s.typed && nat_le s.meaning.width 4) && (length arms == 2 ^ s.meaning.width && arms_typed (arm (arm_meanings arms) 0).width arms);
}
summary_step (Node-F.Mul a b s) = record {
  meaning = mul_meaning a.meaning b.meaning s.meaning;
  inputs = a.inputs ++ b.inputs ++ s.inputs;
  size = wide_weight + a.size + b.size + s.size;
  typed = ((a.typed && b.typed) && (s.typed && s.meaning.width == 1)) && nat_le (a.meaning.width + b.meaning.width) 128;
}

abbrev pub summary : Node → Summary
summary = fold-Node Summary summary_step

abbrev pub meaning : Node → Meaning
meaning x = (summary x).meaning

-- the inputs that it reads, from left to right
abbrev pub inputs : Node → List Input
inputs x = (summary x).inputs

abbrev pub size : Node → ℕ
size x = (summary x).size

abbrev pub typed : Node → Bool
typed x = (summary x).typed
