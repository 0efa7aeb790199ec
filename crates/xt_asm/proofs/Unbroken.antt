-- Statements that break no rule have bytes.
use Rattle.std.proofs.Common.{◌≡◌, ℕ, zero, suc, ◌+◌, ◌<◌, ◌≤◌, Bool, true, false, List, [], ◌∷◌, ◌++◌, length, map, refl, arith, sym, ap, subst, Option, Some, None, ◌∙◌, ℤ}
use Rattle.std.specs.Prelude.{◌==◌, ◌&&◌, slice_get, nat_lt, is_some, if◌then◌else◌}
use Rattle.std.specs.Option.{option_map}
use Rattle.std.specs.List.{flat_map}
use Rattle.std.proofs.lemmas.List.{map-append, length-map, append-nil}
use Rattle.xt_mnemonics.specs.Shapes.{shapes}
use Rattle.tie_desc.specs.Description.{Description}
use Rattle.tie_desc.specs.Names.{all_differ}
use Rattle.tie_desc.specs.Slots.{place_of}
use Rattle.tie_desc.specs.Spelling.{HasWide, IsOp, is_listed, part_fits, slots_fit, writes_differ}
use Rattle.tie_desc.specs.Spots.{same_spot, written_registers}
use Rattle.tie_desc.specs.Invariant.{IsDescription, IsFormat}
use Rattle.tie_desc.proofs.Lists.{All-slice_get}
use Rattle.tie_desc.specs.declared.formats.Code.{Code}
use Rattle.tie_desc.specs.declared.formats.SlotDecl.{SlotDecl}
use Rattle.tie_desc.specs.declared.formats.FormatDecl.{FormatDecl}
use Rattle.asm_lines.specs.Lines.{number_of}
use Rattle.asm_lines.specs.declared.refusal.AsmRule.{AsmRule}
use Rattle.asm_lines.specs.declared.refusal.AsmRule.TheVariants as rule
use Rattle.asm_lines.specs.declared.line.Operand.{Operand}
use Rattle.asm_lines.specs.declared.line.Operand.TheVariants as written
use Rattle.asm_lines.specs.declared.line.Operation.{Operation}
use Rattle.asm_lines.specs.declared.line.Operator.{Operator}
use Rattle.asm_lines.specs.declared.line.Operator.TheVariants as operator
use Rattle.asm_lines.specs.declared.line.Statement.{Statement}
use Rattle.asm_lines.specs.declared.line.Statement.TheVariants as statement
use Rattle.asm_lines.specs.declared.line.Line.{Line}
use Rattle.asm_rules.specs.declared.expected.Expected.TheVariants as expect
use Rattle.asm_rules.specs.declared.written.Written.{Written}
use Rattle.asm_rules.specs.Expected.{expected, of_size}
use Rattle.asm_rules.specs.Operands.{Find, column_of, meant, accepts, is_kind, in_range, reaches}
use Rattle.asm_rules.specs.Slots.{code_in, repeated}
use Rattle.asm_rules.specs.Slots as slots
use Rattle.asm_rules.specs.Rules.{unless, first_in, judged_by, judged_operation, judged_value, judged_in, unknown_operation, unknown, counts, miscounted_operation, miscounted, has_slots, miscounted_slots, lists, unlisted_in, unlisted_by, unlisted, rewritten, breach, fault_at, breach_from, breach_by, line_rules, unreached_in}
use Rattle.xt_asm.specs.Bytes.{code_or_nop, part_of}
use Rattle.xt_asm.specs.Known.{Each, KnownOperator, KnownOperation, KnownStatement, AreKnown}
use Rattle.xt_asm.specs.Spelled.{HasAlone, HasFormat, AcceptsNumber, AcceptsValue, AreValues, HasBytes, HaveBytes}
use Rattle.xt_asm.proofs.Fine.{none_both, unless_none, mapped_none, join, eq_of, are_fine}
use Rattle.xt_asm.proofs.Fitted.{all_fit}
use Rattle.xt_asm.proofs.Differ.{all_differ_from}
use Rattle.xt_asm.proofs.Faultless.{same_count}
use Rattle.xt_asm.proofs.Parts.{FineOperation, FitsSlot, fits_slot, code_of_operator}

-- ---- operations

pub record Fine (d : Description) (find : Find) (at : ℕ) (o : Operation) : Type 0 where
  pub op : Operator
  pub is : FineOperation d find at op o

fine_by : (d : Description) (find : Find) (at : ℕ) (o : Operation) (m : Option Operator) → o.operator ≡ m → unless (is_some m) o.column ≡ None
    → unless (counts d m (length o.operands)) o.column ≡ None → judged_by d (is_kind d) m o.operands ≡ None → judged_by d (in_range d) m o.operands ≡ None
    → judged_by d (reaches find at) m o.operands ≡ None → Fine d find at o
fine_by d find at o None e u n k r t = absurd cc
fine_by d find at o (Some op) e u n k r t = record {
  op = op;
  is = record {
    operator = e;
    count = eq_of (length (expected d op)) (length o.operands) (unless_none (length (expected d op) == length o.operands) o.column n);
    fine = are_fine d find at (expected d op) o.operands k r t;
  };
}

fine_operation : (d : Description) (find : Find) (at : ℕ) (o : Operation) → unknown_operation o ≡ None → miscounted_operation d o ≡ None → judged_operation d (is_kind d) o ≡ None
    → judged_operation d (in_range d) o ≡ None → judged_operation d (reaches find at) o ≡ None → Fine d find at o
fine_operation d find at o u n k r t = fine_by d find at o o.operator refl u n k r t

-- ---- operations alone

one_differs : (d : Description) (o : Operation) → FitsSlot d o → repeated [] (slots.written d o) ≡ None → writes_differ d (part_of d o ∷ []) ≡ true
one_differs d o f h =
    ap (all_differ same_spot) (append-nil (written_registers d (part_of d o))) ∙ sym (ap (all_differ same_spot) f.registers) ∙ all_differ_from (slots.written d o) h

alone_of : (d : Description) (find : Find) (at : ℕ) (op : Operator) (o : Operation) → IsDescription d → KnownOperator d (Some op) → FineOperation d find at op o → repeated [] (slots.written d o) ≡ None
    → HasAlone d find at (Some op) o
alone_of d find at (operator.Core m) o h known f differ = all_fit d find at (shapes m) o.operands (sym (length-map (shapes m) expect.Core) ∙ f.count) f.fine
alone_of d find at (operator.Op i) o h known f differ =
    let fits = fits_slot d find at (operator.Op i) o h f in
    (subst (λ m. IsOp d (code_or_nop m)) (sym (code_of_operator o (operator.Op i) f.operator)) known, fits.part, one_differs d o fits differ)

alone_has : (d : Description) (find : Find) (at : ℕ) (o : Operation) → IsDescription d → KnownOperation d o → Fine d find at o → repeated [] (slots.written d o) ≡ None
    → HasAlone d find at o.operator o
alone_has d find at o h known f differ =
    subst (λ m. HasAlone d find at m o) (sym f.is.operator) (alone_of d find at f.op o h (subst (KnownOperator d) f.is.operator known) f.is differ)

-- ---- formats

operations_fit : (d : Description) (find : Find) (at : ℕ) (os : List Operation) → IsDescription d → first_in unknown_operation os ≡ None → first_in (miscounted_operation d) os ≡ None
    → first_in (judged_operation d (is_kind d)) os ≡ None → first_in (judged_operation d (in_range d)) os ≡ None → first_in (judged_operation d (reaches find at)) os ≡ None → Each (FitsSlot d) os
operations_fit d find at [] h u n k r t = tt
operations_fit d find at (o ∷ os) h u n k r t =
    let a = none_both (unknown_operation o) (first_in unknown_operation os) u in
    let b = none_both (miscounted_operation d o) (first_in (miscounted_operation d) os) n in
    let c = none_both (judged_operation d (is_kind d) o) (first_in (judged_operation d (is_kind d)) os) k in
    let e = none_both (judged_operation d (in_range d) o) (first_in (judged_operation d (in_range d)) os) r in
    let f = none_both (judged_operation d (reaches find at) o) (first_in (judged_operation d (reaches find at)) os) t in
    let fine = fine_operation d find at o a.0 b.0 c.0 e.0 f.0 in
    (fits_slot d find at fine.op o h fine.is, operations_fit d find at os h a.1 b.1 c.1 e.1 f.1)

listed_of : (s : SlotDecl) (m : Option Code) → lists s m ≡ true → nat_lt (place_of (code_or_nop m) s.codes) (length s.codes) ≡ true
listed_of s None h = absurd cc
listed_of s (Some c) h = h

slots_fit_of : (d : Description) (ss : List SlotDecl) (os : List Operation) → length ss ≡ length os → unlisted_in ss os ≡ None → Each (FitsSlot d) os → slots_fit d ss (map (part_of d) os) ≡ true
slots_fit_of d [] [] n h f = refl
slots_fit_of d [] (o ∷ os) n h f = absurd (omega arith)
slots_fit_of d (s ∷ ss) [] n h f = absurd (omega arith)
slots_fit_of d (s ∷ ss) (o ∷ os) n h f =
    let k = none_both (unless (lists s (code_in o)) o.column) (unlisted_in ss os) h in
    let here : is_listed s (part_of d o) ≡ true = listed_of s (code_in o) (unless_none (lists s (code_in o)) o.column k.0) in
    join (is_listed s (part_of d o) && part_fits d (part_of d o)) (slots_fit d ss (map (part_of d) os)) (join (is_listed s (part_of d o)) (part_fits d (part_of d o)) here f.0.part)
    (slots_fit_of d ss os (omega arith) k.1 f.1)

registers_of : (d : Description) (os : List Operation) → Each (FitsSlot d) os → map (λ w. w.spot) (flat_map (slots.written d) os) ≡ flat_map (written_registers d) (map (part_of d) os)
registers_of d [] f = refl
registers_of d (o ∷ os) f =
    map-append (λ (w : Written). w.spot) (slots.written d o) (flat_map (slots.written d) os)
    ∙ ap (λ z. z ++ map (λ w. w.spot) (flat_map (slots.written d) os)) f.0.registers
    ∙ ap (λ z. written_registers d (part_of d o) ++ z) (registers_of d os f.1)

no_end : {A : Type 0} (xs : List A) (i : ℕ) → i < length xs → slice_get xs i ≡ None → ⊥
no_end [] i h e = omega arith
no_end (x ∷ xs) zero h e = cc
no_end (x ∷ xs) (suc i) h e = no_end xs i (omega arith) e

wide_by : (d : Description) (f : ℕ) (m : Option FormatDecl) (column : ℕ) (os : List Operation) → slice_get d.formats f ≡ m → f < length d.formats → unless (has_slots m (length os)) column ≡ None
    → unlisted_by m os ≡ None → Each (FitsSlot d) os → repeated [] (flat_map (slots.written d) os) ≡ None → HasWide d m (map (part_of d) os)
wide_by d f None column os e lt n u fits differ = no_end d.formats f lt e
wide_by d f (Some decl) column os e lt n u fits differ = (
  slots_fit_of d decl.slots os (eq_of (length decl.slots) (length os) (unless_none (length decl.slots == length os) column n)) u fits,
  sym (ap (all_differ same_spot) (registers_of d os fits)) ∙ all_differ_from (flat_map (slots.written d) os) differ,
)

-- ---- values

value_by : (d : Description) (b : Bool) (v : Operand) → is_kind d (if b then expect.Byte else expect.Word) v ≡ true → in_range d (if b then expect.Byte else expect.Word) v ≡ true
    → (z : ℤ) × (number_of v ≡ Some z) × (accepts d (if b then expect.Byte else expect.Word) z ≡ true)
unfolding meant
value_by d true (written.Word column word) k r = absurd cc
value_by d false (written.Word column word) k r = absurd cc
value_by d true (written.Number column z) k r = (z, refl, r)
value_by d false (written.Number column z) k r = (z, refl, r)

value_has : (d : Description) (size : ℕ) (v : Operand) → judged_value (is_kind d) size v ≡ None → judged_value (in_range d) size v ≡ None → AcceptsValue d size v
value_has d size v k r =
    let f = value_by d (size == 1) v (unless_none (is_kind d (of_size size) v) (column_of v) k) (unless_none (in_range d (of_size size) v) (column_of v) r) in
    subst (AcceptsNumber d size) (sym f.1) f.2

values_have : (d : Description) (size : ℕ) (vs : List Operand) → first_in (judged_value (is_kind d) size) vs ≡ None → first_in (judged_value (in_range d) size) vs ≡ None → AreValues d size vs
values_have d size [] k r = tt
values_have d size (v ∷ vs) k r =
    let a = none_both (judged_value (is_kind d) size v) (first_in (judged_value (is_kind d) size) vs) k in
    let b = none_both (judged_value (in_range d) size v) (first_in (judged_value (in_range d) size) vs) r in
    (value_has d size v a.0 b.0, values_have d size vs a.1 b.1)

-- ---- statements

pub record Unbroken (d : Description) (find : Find) (at : ℕ) (s : Statement) : Type 0 where
  pub known : KnownStatement d s
  pub named : unknown s ≡ None
  pub counted : miscounted d s ≡ None
  pub kinds : judged_in d (is_kind d) s ≡ None
  pub ranges : judged_in d (in_range d) s ≡ None
  pub slot_count : miscounted_slots d s ≡ None
  pub listed : unlisted d s ≡ None
  pub differ : rewritten d s ≡ None
  pub reached : judged_in d (reaches find at) s ≡ None

wide_has : (d : Description) (find : Find) (at column : ℕ) (format : Option ℕ) (os : List Operation) → IsDescription d → Unbroken d find at (statement.Wide column format os) → HasFormat d format os
wide_has d find at column None os h u = absurd (no (none_both (unless false column) (first_in unknown_operation os) u.named).0)
  where
    no : Some column ≡ None → ⊥
    no h = cc
wide_has d find at column (Some f) os h u =
    let fits = operations_fit d find at os h u.named u.counted u.kinds u.ranges u.reached in
    (u.known.0, wide_by d f (slice_get d.formats f) column os refl u.known.0 u.slot_count u.listed fits u.differ)

statement_has : (d : Description) (find : Find) (at : ℕ) (s : Statement) → IsDescription d → Unbroken d find at s → HasBytes d find at s
statement_has d find at statement.Nothing h u = tt
statement_has d find at (statement.Alone o) h u = alone_has d find at o h u.known (fine_operation d find at o u.named u.counted u.kinds u.ranges u.reached) u.differ
statement_has d find at (statement.Wide column format os) h u = wide_has d find at column format os h u
statement_has d find at (statement.Values column size vs) h u = values_have d size vs u.kinds u.ranges
statement_has d find at (statement.Align column place number) h u = tt

-- ---- lines

pub record Passes (d : Description) (labels : Find) (i : ℕ) (ls : List Line) : Type 0 where
  pub named : breach_from d labels rule.UnknownMnemonic i ls ≡ None
  pub counted : breach_from d labels rule.OperandCount i ls ≡ None
  pub kinds : breach_from d labels rule.OperandKind i ls ≡ None
  pub ranges : breach_from d labels rule.OperandRange i ls ≡ None
  pub slot_count : breach_from d labels rule.SlotCount i ls ≡ None
  pub listed : breach_from d labels rule.SlotOpcode i ls ≡ None
  pub differ : breach_from d labels rule.SameDest i ls ≡ None

here : (d : Description) (labels : Find) (r : AsmRule) (i : ℕ) (l : Line) (ls : List Line) → breach_from d labels r i (l ∷ ls) ≡ None → breach d labels r i l ≡ None
here d labels r i l ls h =
    mapped_none (fault_at r l) (breach d labels r i l) (none_both (option_map (fault_at r l) (breach d labels r i l)) (breach_from d labels r (i + 1) ls) h).0

later : (d : Description) (labels : Find) (r : AsmRule) (i : ℕ) (l : Line) (ls : List Line) → breach_from d labels r i (l ∷ ls) ≡ None → breach_from d labels r (i + 1) ls ≡ None
later d labels r i l ls h = (none_both (option_map (fault_at r l) (breach d labels r i l)) (breach_from d labels r (i + 1) ls) h).1

lines_have : (d : Description) (labels find : Find) (i : ℕ) (at : List ℕ) (ls : List Line) → IsDescription d → AreKnown d ls → Passes d labels i ls → unreached_in d find at ls ≡ None → HaveBytes d find at ls
lines_have d labels find i [] ls h k p t = tt
lines_have d labels find i (a ∷ at) [] h k p t = tt
lines_have d labels find i (a ∷ at) (l ∷ ls) h k p t =
    let u = none_both (option_map (fault_at rule.Reach l) (judged_in d (reaches find a) l.statement)) (unreached_in d find at ls) t in (
      statement_has d find a l.statement h (record {
        known = k.0;
        named = here d labels rule.UnknownMnemonic i l ls p.named;
        counted = here d labels rule.OperandCount i l ls p.counted;
        kinds = here d labels rule.OperandKind i l ls p.kinds;
        ranges = here d labels rule.OperandRange i l ls p.ranges;
        slot_count = here d labels rule.SlotCount i l ls p.slot_count;
        listed = here d labels rule.SlotOpcode i l ls p.listed;
        differ = here d labels rule.SameDest i l ls p.differ;
        reached = mapped_none (fault_at rule.Reach l) (judged_in d (reaches find a) l.statement) u.0;
      }),
      lines_have d labels find (i + 1) at ls h k.1 (record {
        named = later d labels rule.UnknownMnemonic i l ls p.named;
        counted = later d labels rule.OperandCount i l ls p.counted;
        kinds = later d labels rule.OperandKind i l ls p.kinds;
        ranges = later d labels rule.OperandRange i l ls p.ranges;
        slot_count = later d labels rule.SlotCount i l ls p.slot_count;
        listed = later d labels rule.SlotOpcode i l ls p.listed;
        differ = later d labels rule.SameDest i l ls p.differ;
      }) u.1,
    )

each_passes : (d : Description) (labels : Find) (rs : List AsmRule) (ls : List Line) → breach_by d labels rs ls ≡ None → Each (λ r. breach_from d labels r 0 ls ≡ None) rs
each_passes d labels [] ls h = tt
each_passes d labels (r ∷ rs) ls h =
    let k = none_both (breach_from d labels r 0 ls) (breach_by d labels rs ls) h in
    (k.0, each_passes d labels rs ls k.1)

passes : (d : Description) (labels : Find) (ls : List Line) → breach_by d labels line_rules ls ≡ None → Passes d labels 0 ls
passes d labels ls h =
    let k = each_passes d labels line_rules ls h in
    record {
      named = k.0;
      counted = k.1.0;
      kinds = k.1.1.1.0;
      ranges = k.1.1.1.1.0;
      slot_count = k.1.1.1.1.1.1.0;
      listed = k.1.1.1.1.1.1.1.0;
      differ = k.1.1.1.1.1.1.1.1.0;
    }

-- lines that break no rule have bytes
pub have_bytes : (d : Description) (labels find : Find) (at : List ℕ) (ls : List Line) → IsDescription d → AreKnown d ls → breach_by d labels line_rules ls ≡ None → unreached_in d find at ls ≡ None
    → HaveBytes d find at ls
have_bytes d labels find at ls h k b t = lines_have d labels find 0 at ls h k (passes d labels ls b) t

-- a format has at most four parts
few_by : (d : Description) (f : ℕ) (m : Option FormatDecl) (os : List Operation) → IsDescription d → slice_get d.formats f ≡ m → HasWide d m (map (part_of d) os) → length os ≤ 4
few_by d f None os h e w = absurd w
few_by d f (Some decl) os h e w =
    let few = (All-slice_get (IsFormat d) d.formats f decl h.formats e).few in
    let count = same_count d decl.slots (map (part_of d) os) w.0 in
    omega (arith, few, count, length-map os (part_of d))

pub few_parts : (d : Description) (f : ℕ) (os : List Operation) → IsDescription d → HasFormat d (Some f) os → length os ≤ 4
few_parts d f os h w = few_by d f (slice_get d.formats f) os h refl w.1
