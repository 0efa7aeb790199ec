-- Items are read as they are spelled.
use Rattle.std.proofs.Common.{◌≡◌, ℕ, ◌≤◌, ◌<◌, List, [], ◌∷◌, ◌++◌, length, Option, Some, None, refl, sym, ap, subst, arith}
use Rattle.tie_grammar.specs.declared.symbol.Leaf.{Leaf}
use Rattle.tie_grammar.specs.declared.symbol.Mark.TheVariants as m
use Rattle.tie_grammar.specs.declared.symbol.Stage.TheVariants as stages
use Rattle.tie_grammar.specs.declared.symbol.StageWord.{StageWord}
use Rattle.tie_grammar.specs.declared.symbol.Symbol.{Symbol}
use Rattle.tie_grammar.specs.declared.symbol.Symbol.TheVariants as s
use Rattle.tie_grammar.specs.declared.tree.Range.{Range}
use Rattle.tie_grammar.specs.declared.tree.Item.{Item}
use Rattle.tie_grammar.specs.declared.tree.Item.TheVariants as i
use Rattle.tie_grammar.specs.declared.tree.ScheduleItem.{ScheduleItem}
use Rattle.tie_grammar.specs.declared.tree.ScheduleItem.TheVariants as si
use Rattle.tie_grammar.specs.Spelling as spell
use Rattle.tie_grammar.specs.Spelling.{IsRange, IsItem, IsScheduleItem}
use Rattle.tie_grammar.specs.Reading.{sees_first, pure, name, name_of, number_of, nought_of, stage_of, some_of}
use Rattle.tie_grammar.specs.Exprs.{expr}
use Rattle.tie_grammar.specs.Items.{range, maybe_range, wire_set, wire_of, wire, assign, item_of, item, used, defined, schedule_item_of, schedule_item}
use Rattle.tie_grammar.proofs.Readers.{Reads, Anywhere, Pairs, reads_bind, reads_pure, reads_either, reads_branch, reads_mark, reads_token, reads_one}
use Rattle.tie_grammar.proofs.CommaLists.{Spelled, Filled, some_reads}
use Rattle.tie_grammar.proofs.Tokens.{Whatever, no_leaf, is_name, is_number, is_nought, is_stage}
use Rattle.tie_grammar.proofs.ExprReads.{Inner, Loose, Spells, loose_end}

zero_leaf : Leaf
zero_leaf = record { bytes = 48 ∷ []; place = 0 }

range_reads : (ts : List Symbol) → Reads (λ us x. range us ≡ x) (Spelled spell.maybe_range IsRange) Anywhere ts (range ts)
unfolding range zero_leaf
range_reads ts =
    reads_mark _ Anywhere m.Bracket _ _ ts (λ us _.
    reads_token _ Anywhere number_of s.Number Whatever is_number no_leaf tt _ _ us (λ high us _ _.
    reads_mark _ Anywhere m.Colon _ _ us (λ us _.
    reads_token _ Anywhere nought_of s.Number (λ t. t.bytes ≡ 48 ∷ []) is_nought zero_leaf refl _ _ us (λ low us _ z.
    reads_mark _ Anywhere m.EndBracket _ _ us (λ us _.
    reads_pure _ Anywhere (Some (record { high = high; zero = low })) us (record { is = refl; fits = z }) tt)))))

pub maybe_range_reads : (ts : List Symbol) → Reads (λ us x. maybe_range us ≡ x) (Spelled spell.maybe_range IsRange) Anywhere ts (maybe_range ts)
unfolding maybe_range
maybe_range_reads ts = reads_either (Spelled spell.maybe_range IsRange) Anywhere (sees_first m.Bracket) range (pure None) range (pure None) ts
    (λ _. range_reads ts) (λ _. reads_pure (Spelled spell.maybe_range IsRange) Anywhere None ts (record { is = refl; fits = tt }) tt)

pub name_reads : (ts : List Symbol) → Reads (λ us x. name us ≡ x) (Spelled spell.name Whatever) Anywhere ts (name ts)
name_reads ts = reads_one (Spelled spell.name Whatever) Anywhere name_of ts
    (λ x after t _ h. (record { is = ap (λ z. z ∷ []) (sym (is_name x t h).0); fits = tt }, tt)) no_leaf (s.Name no_leaf ∷ []) (record { is = refl; fits = tt })

pub names_reads : (ts : List Symbol) → Reads (λ us x. some_of name us ≡ x) (Filled spell.name Whatever) Anywhere ts (some_of name ts)
names_reads ts = some_reads spell.name Whatever name name (length ts) (λ us _. name_reads us) ts (omega arith)

module _ (d more : ℕ) (inner : Inner (expr d) (expr more) d) where
  abbrev IsAt : (Item → List Symbol → Type 0)
  IsAt = Spelled spell.item IsItem

  wire_set_reads : (r : Option Range) (t : Leaf) (ts : List Symbol) → length ts ≤ d → IsRange r
      → Reads (λ us x. wire_set more r t us ≡ x) (λ b fr. IsAt b (s.Mark m.Wire ∷ (spell.maybe_range r ++ s.Name t ∷ s.Mark m.Equals ∷ fr))) Anywhere ts (wire_set d r t ts)
  unfolding wire_set
  wire_set_reads r t ts len fits =
      reads_bind (Spells 0) (Loose 0) _ Anywhere (expr more 0) _ _ ts (expr d 0 ts) (inner 0 ts (omega arith) len) (loose_end 0) (λ x front us _ sp _.
      reads_mark _ Anywhere m.Semicolon _ _ us (λ us _.
      reads_pure _ Anywhere (i.WireSet r t x) us
      (record { is = ap (λ z. s.Mark m.Wire ∷ (spell.maybe_range r ++ s.Name t ∷ s.Mark m.Equals ∷ (z ++ s.Mark m.Semicolon ∷ []))) sp.is; fits = (fits, sp.groups) }) tt))

  wire_reads : (ts : List Symbol) → length ts ≤ d → Reads (λ us x. wire more us ≡ x) (λ b fr. IsAt b (s.Mark m.Wire ∷ fr)) Anywhere ts (wire d ts)
  unfolding wire
  wire_reads ts len =
      reads_bind (Spelled spell.maybe_range IsRange) Anywhere _ Anywhere maybe_range _ _ ts (maybe_range ts) (maybe_range_reads ts) tt (λ r front us le sp _.
      reads_token _ Anywhere name_of s.Name Whatever is_name no_leaf tt _ _ us (λ t us le2 _.
      reads_branch _ Anywhere (wire_of d r t) (wire_of more r t) us (pairs r front t us sp (omega arith)) (i.Wire r t) (s.Mark m.Semicolon ∷ [])
      (record { is = ap (λ z. s.Mark m.Wire ∷ (z ++ s.Name t ∷ s.Mark m.Semicolon ∷ [])) sp.is; fits = sp.fits })))
    where
      pairs : (r : Option Range) (front : List Symbol) (t : Leaf) (us : List Symbol) → Spelled spell.maybe_range IsRange r front → length us ≤ d → (x : Symbol) (after : List Symbol) → us ≡ x ∷ after
          → Pairs (λ b fr. IsAt b (s.Mark m.Wire ∷ (front ++ s.Name t ∷ fr))) Anywhere x after (wire_of d r t x) (wire_of more r t x)
      pairs r front t us sp len (s.Mark m.Semicolon) after h = reads_pure (λ b fr. IsAt b (s.Mark m.Wire ∷ (front ++ s.Name t ∷ s.Mark m.Semicolon ∷ fr))) Anywhere (i.Wire r t) after
          (record { is = ap (λ z. s.Mark m.Wire ∷ (z ++ s.Name t ∷ s.Mark m.Semicolon ∷ [])) sp.is; fits = sp.fits }) tt
      pairs r front t us sp len (s.Mark m.Equals) after h = subst (λ z. Reads (λ us x. wire_set more r t us ≡ x) (λ b fr. IsAt b (s.Mark m.Wire ∷ (z ++ s.Name t ∷ s.Mark m.Equals ∷ fr))) Anywhere after (wire_set d r t after)) sp.is
          (wire_set_reads r t after (omega (arith, ap length h)) sp.fits)
      pairs r front t us sp len _ after h = tt

  assign_reads : (ts : List Symbol) → length ts ≤ d → Reads (λ us x. assign more us ≡ x) (λ b fr. IsAt b (s.Mark m.Assign ∷ fr)) Anywhere ts (assign d ts)
  unfolding assign
  assign_reads ts len =
      reads_token _ Anywhere name_of s.Name Whatever is_name no_leaf tt _ _ ts (λ t us le _.
      reads_mark _ Anywhere m.Equals _ _ us (λ us le2.
      reads_bind (Spells 0) (Loose 0) _ Anywhere (expr more 0) _ _ us (expr d 0 us) (inner 0 us (omega arith) (omega arith)) (loose_end 0) (λ x front us _ sp _.
      reads_mark _ Anywhere m.Semicolon _ _ us (λ us _.
      reads_pure _ Anywhere (i.Assign t x) us (record { is = ap (λ z. s.Mark m.Assign ∷ s.Name t ∷ s.Mark m.Equals ∷ (z ++ s.Mark m.Semicolon ∷ [])) sp.is; fits = sp.groups }) tt))))

  pub item_reads : (ts : List Symbol) → length ts ≤ d → Reads (λ us x. item more us ≡ x) IsAt Anywhere ts (item d ts)
  item_reads ts len = reads_branch IsAt Anywhere (item_of d) (item_of more) ts pairs (i.Wire None no_leaf) (spell.item (i.Wire None no_leaf)) (record { is = refl; fits = tt })
    where
      pairs : (x : Symbol) (after : List Symbol) → ts ≡ x ∷ after → Pairs IsAt Anywhere x after (item_of d x) (item_of more x)
      pairs (s.Mark m.Wire) after h = wire_reads after (omega (arith, ap length h))
      pairs (s.Mark m.Assign) after h = assign_reads after (omega (arith, ap length h))
      pairs _ after h = tt

pub item_some : (x : Item) → 0 < length (spell.item x)
item_some (i.Wire r t) = omega arith
item_some (i.WireSet r t x) = omega arith
item_some (i.Assign t x) = omega arith

-- ---- items of schedules

some_stage : StageWord
some_stage = record { stage = stages.Estage; place = 0 }

abbrev IsUse : (ScheduleItem → List Symbol → Type 0)
IsUse = Spelled spell.schedule_item IsScheduleItem

used_reads : (ts : List Symbol) → Reads (λ us x. used us ≡ x) (λ b fr. IsUse b (s.Mark m.Use ∷ fr)) Anywhere ts (used ts)
unfolding used
used_reads ts =
    reads_bind (Filled spell.name Whatever) Anywhere _ Anywhere (some_of name) _ _ ts (some_of name ts) (names_reads ts) tt (λ xs front us _ li _.
    reads_token _ Anywhere stage_of s.Stage Whatever is_stage some_stage tt _ _ us (λ w us _ _.
    reads_mark _ Anywhere m.Semicolon _ _ us (λ us _.
    reads_pure _ Anywhere (si.Use xs w) us (record { is = ap (λ z. s.Mark m.Use ∷ (z ++ s.Stage w ∷ s.Mark m.Semicolon ∷ [])) li.is; fits = li.filled }) tt)))

defined_reads : (ts : List Symbol) → Reads (λ us x. defined us ≡ x) (λ b fr. IsUse b (s.Mark m.Def ∷ fr)) Anywhere ts (defined ts)
unfolding defined
defined_reads ts =
    reads_bind (Filled spell.name Whatever) Anywhere _ Anywhere (some_of name) _ _ ts (some_of name ts) (names_reads ts) tt (λ xs front us _ li _.
    reads_token _ Anywhere stage_of s.Stage Whatever is_stage some_stage tt _ _ us (λ w us _ _.
    reads_mark _ Anywhere m.Semicolon _ _ us (λ us _.
    reads_pure _ Anywhere (si.Def xs w) us (record { is = ap (λ z. s.Mark m.Def ∷ (z ++ s.Stage w ∷ s.Mark m.Semicolon ∷ [])) li.is; fits = li.filled }) tt)))

pub schedule_item_reads : (ts : List Symbol) → Reads (λ us x. schedule_item us ≡ x) IsUse Anywhere ts (schedule_item ts)
schedule_item_reads ts = reads_branch IsUse Anywhere schedule_item_of schedule_item_of ts pairs (si.Use (no_leaf ∷ []) some_stage) (spell.schedule_item (si.Use (no_leaf ∷ []) some_stage)) (record { is = refl; fits = tt })
  where
    pairs : (x : Symbol) (after : List Symbol) → ts ≡ x ∷ after → Pairs IsUse Anywhere x after (schedule_item_of x) (schedule_item_of x)
    pairs (s.Mark m.Use) after h = used_reads after
    pairs (s.Mark m.Def) after h = defined_reads after
    pairs _ after h = tt

pub schedule_item_some : (x : ScheduleItem) → 0 < length (spell.schedule_item x)
schedule_item_some (si.Use xs w) = omega arith
schedule_item_some (si.Def xs w) = omega arith
