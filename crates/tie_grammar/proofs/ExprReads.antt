-- Expressions are read as they are spelled.
use Rattle.std.proofs.Common.{◌≡◌, ℕ, zero, suc, ◌+◌, ◌-◌, ◌≤◌, ◌<◌, max, Bool, true, false, ◌&&◌, List, [], ◌∷◌, ◌++◌, length, Option, Some, None, Ok, Err, refl, sym, ap, subst, ◌∙◌, append_assoc, append-nil, arith, rules, tests, length-append, if◌then◌else◌, nat_le, nat_eq}
use Rattle.tie_grammar.specs.declared.symbol.Leaf.{Leaf}
use Rattle.tie_grammar.specs.declared.symbol.Mark.TheVariants as m
use Rattle.tie_grammar.specs.declared.symbol.Sign.{Sign}
use Rattle.tie_grammar.specs.declared.symbol.Sign.TheVariants as sign
use Rattle.tie_grammar.specs.declared.symbol.TieWord.{TieWord}
use Rattle.tie_grammar.specs.declared.symbol.Symbol.{Symbol}
use Rattle.tie_grammar.specs.declared.symbol.Symbol.TheVariants as s
use Rattle.tie_grammar.specs.declared.tree.Literal.TheVariants as l
use Rattle.tie_grammar.specs.declared.tree.UnaryOp.{UnaryOp}
use Rattle.tie_grammar.specs.declared.tree.UnaryOp.TheVariants as unary
use Rattle.tie_grammar.specs.declared.tree.BinaryOp.{BinaryOp}
use Rattle.tie_grammar.specs.declared.tree.BinaryOp.TheVariants as op
use Rattle.tie_grammar.specs.declared.tree.Operator.{Operator}
use Rattle.tie_grammar.specs.declared.tree.Expr.{Expr}
use Rattle.tie_grammar.specs.declared.tree.Expr.TheVariants as e
use Rattle.tie_grammar.specs.Spelling as spell
use Rattle.tie_grammar.specs.Spelling.{commas, unary_sign, binary_sign, level, tightness, Groups, IsFilled}
use Rattle.tie_grammar.proofs.Shapes.{Form, literal, name, select as a_select, index as an_index, call, tie as a_tie, paren as a_paren, concat, repeat, unary as a_unary, binary, conditional, form, expr-Index, expr-Call, expr-Tie, expr-Paren, expr-Concat, expr-Repeat, expr-Unary, expr-Binary, expr-Conditional, groups-Index, groups-Call, groups-Tie, groups-Paren, groups-Concat, groups-Repeat, groups-Unary, groups-Binary, groups-Conditional}
use Rattle.tie_grammar.specs.Reading.{Read, Parser, and_then, first, sees_first, sees_paren, sees_brace, pure, number_of, paren_of, brace_of, more_of, some_of, any_of}
use Rattle.tie_grammar.specs.Exprs.{bare, select, index, bracket_end, bracketed, called, named, tie, grouped, repeated, joined, brace_end, braced, unary_op, prefixed, prefix_by, primary, primary_of, binary_op, placed, operator_of, operator, more, turn, climb, climbed, arms, asks, chosen, level_from, expr}
use Rattle.tie_grammar.proofs.Readers.{Reads, Anywhere, Pairs, reads_bind, reads_bind_to, reads_pure, reads_then, reads_after, reads_says, reads_again, reads_ends, reads_none, reads_either, reads_branch, reads_mark, reads_token, shorter}
use Rattle.tie_grammar.proofs.CommaLists.{Spelled, Listed, Filled, more_reads, some_reads, any_reads}
use Rattle.tie_grammar.proofs.Tokens.{Whatever, no_leaf, is_number, is_paren, is_brace}

pub record Spells (least : ℕ) (x : Expr) (front : List Symbol) : Type 0 where
  pub is : spell.expr x ≡ front
  pub groups : Groups x
  pub tight : least ≤ tightness x

abbrev one_number : Expr
one_number = e.Literal (l.Number no_leaf)

-- no operator follows that binds so tightly
abbrev pub Loose : ℕ → List Symbol → Type 0
Loose least ts = (o : Operator) → operator ts ≡ Some o → level o.op < least

pub loose_end : (least : ℕ) → Loose least []
loose_end least o e = absurd cc

-- what is known of the reading of parts, up to a length
abbrev pub Inner : (ℕ → Parser Expr) → (ℕ → Parser Expr) → ℕ → Type 0
Inner f g n = (least : ℕ) (ts : List Symbol) → least ≤ 11 → length ts ≤ n → Reads (λ us x. g least us ≡ x) (Spells least) (Loose least) ts (f least ts)

bare_is : (x : Expr) (t : Leaf) → bare x ≡ Some t → x ≡ e.Literal (l.Number t)
bare_is (e.Literal (l.Number t)) n h = let same : t ≡ n = cc in ap (λ z. e.Literal (l.Number z)) same
bare_is _ n h = absurd cc

bare_front : (x : Expr) (front : List Symbol) (t : Leaf) → bare x ≡ Some t → spell.expr x ≡ front → s.Number t ∷ [] ≡ front
bare_front x front t b h = sym (ap spell.expr (bare_is x t b)) ∙ h

-- ---- behind a name

select_reads : (least : ℕ) (n high : Leaf) (ts : List Symbol) → least ≤ 11
    → Reads (λ us x. select n high us ≡ x) (λ x fr. Spells least x (s.Name n ∷ s.Mark m.Bracket ∷ s.Number high ∷ fr)) Anywhere ts (select n high ts)
unfolding select
select_reads least n high ts b =
    reads_mark _ Anywhere m.Colon _ _ ts (λ us _.
    reads_token _ Anywhere number_of s.Number Whatever is_number no_leaf tt _ _ us (λ low us _ _.
    reads_mark _ Anywhere m.EndBracket _ _ us (λ us _.
    reads_pure _ Anywhere (e.Select n high low) us (record { is = refl; groups = tt; tight = b }) tt)))

index_reads : (least : ℕ) (n : Leaf) (x : Expr) (front ts : List Symbol) → least ≤ 11 → spell.expr x ≡ front → Groups x
    → Reads (λ us y. index n x us ≡ y) (λ y fr. Spells least y (s.Name n ∷ s.Mark m.Bracket ∷ (front ++ fr))) Anywhere ts (index n x ts)
unfolding index
index_reads least n x front ts b is gr =
    reads_mark _ Anywhere m.EndBracket _ _ ts (λ us _.
    reads_pure _ Anywhere (e.Index n x) us
    (record { is = expr-Index n x ∙ ap (λ z. s.Name n ∷ s.Mark m.Bracket ∷ (z ++ s.Mark m.EndBracket ∷ [])) is; groups = groups-Index n x gr; tight = b }) tt)

bracket_end_reads : (least : ℕ) (n : Leaf) (x : Expr) (front ts : List Symbol) → least ≤ 11 → spell.expr x ≡ front → Groups x → (o : Option Leaf) → bare x ≡ o
    → Reads (λ us y. bracket_end n x o us ≡ y) (λ y fr. Spells least y (s.Name n ∷ s.Mark m.Bracket ∷ (front ++ fr))) Anywhere ts (bracket_end n x o ts)
bracket_end_reads least n x front ts b is gr None h = index_reads least n x front ts b is gr
bracket_end_reads least n x front ts b is gr (Some high) h = reads_either _ Anywhere (sees_first m.Colon) (select n high) (index n x) (select n high) (index n x) ts
    (λ _. subst (λ z. Reads (λ us y. select n high us ≡ y) (λ y fr. Spells least y (s.Name n ∷ s.Mark m.Bracket ∷ (z ++ fr))) Anywhere ts (select n high ts)) (bare_front x front high h is)
    (select_reads least n high ts b))
    (λ _. index_reads least n x front ts b is gr)

module _ (f g : ℕ → Parser Expr) (n : ℕ) (inner : Inner f g n) where
  bracketed_reads : (least : ℕ) (t : Leaf) (ts : List Symbol) → least ≤ 11 → length ts ≤ n → Reads (λ us x. bracketed g t us ≡ x) (λ x fr. Spells least x (s.Name t ∷ fr)) Anywhere ts (bracketed f t ts)
  unfolding bracketed
  bracketed_reads least t ts b len =
      reads_mark _ Anywhere m.Bracket _ _ ts (λ us le.
      reads_bind (Spells 0) (Loose 0) _ Anywhere (g 0) _ _ us (f 0 us) (inner 0 us (omega arith) (omega arith)) (loose_end 0) (λ x front vs _ sp _.
      bracket_end_reads least t x front vs b sp.is sp.groups (bare x) refl))

  each_part : (us : List Symbol) → length us ≤ n → Reads (λ vs x. g 0 vs ≡ x) (Spelled spell.expr Groups) Anywhere us (f 0 us)
  each_part us len =
      reads_ends (λ vs x. g 0 vs ≡ x) (Spelled spell.expr Groups) (Loose 0) Anywhere us (f 0 us) (λ _ _. tt)
      (reads_says (λ vs x. g 0 vs ≡ x) (Spells 0) (Spelled spell.expr Groups) (Loose 0) us (f 0 us) (λ x fr sp. record { is = sp.is; fits = sp.groups }) (inner 0 us (omega arith) len))

  called_reads : (least : ℕ) (t : Leaf) (ts : List Symbol) → least ≤ 11 → length ts ≤ n → Reads (λ us x. called g t us ≡ x) (λ x fr. Spells least x (s.Name t ∷ fr)) Anywhere ts (called f t ts)
  unfolding called
  called_reads least t ts b len =
      reads_token _ Anywhere paren_of s.Paren Whatever is_paren 0 tt _ _ ts (λ p us le _.
      reads_bind (Listed spell.expr Groups) Anywhere _ Anywhere (any_of m.EndParen (g 0)) _ _ us (any_of m.EndParen (f 0) us) (any_reads spell.expr Groups (f 0) (g 0) n each_part m.EndParen us (omega arith)) tt (λ xs front vs _ li _.
      reads_mark _ Anywhere m.EndParen _ _ vs (λ ws _.
      reads_pure _ Anywhere (e.Call t p xs) ws
      (record { is = expr-Call t p xs ∙ ap (λ z. s.Name t ∷ s.Paren p ∷ (z ++ s.Mark m.EndParen ∷ [])) li.is; groups = groups-Call t p xs li.fits; tight = b }) tt)))

  named_reads : (least : ℕ) (t : Leaf) (ts : List Symbol) → least ≤ 11 → length ts ≤ n → Reads (λ us x. named g t us ≡ x) (λ x fr. Spells least x (s.Name t ∷ fr)) Anywhere ts (named f t ts)
  unfolding named
  named_reads least t ts b len =
      let Says : Expr → List Symbol → Type 0 = λ x fr. Spells least x (s.Name t ∷ fr) in
      reads_either Says Anywhere (sees_first m.Bracket) (bracketed f t) (λ us. if sees_paren (first us) then called f t us else Ok (e.Name t, us)) (bracketed g t) (λ us. if sees_paren (first us) then called g t us else Ok (e.Name t, us)) ts
      (λ _. bracketed_reads least t ts b len)
      (λ _. reads_either Says Anywhere sees_paren (called f t) (pure (e.Name t)) (called g t) (pure (e.Name t)) ts
      (λ _. called_reads least t ts b len)
      (λ _. reads_pure Says Anywhere (e.Name t) ts (record { is = refl; groups = tt; tight = b }) tt))

  -- ---- words and brackets

  tie_reads : (least : ℕ) (w : TieWord) (ts : List Symbol) → least ≤ 11 → length ts ≤ n → Reads (λ us x. tie g w us ≡ x) (λ x fr. Spells least x (s.Tie w ∷ fr)) Anywhere ts (tie f w ts)
  unfolding tie
  tie_reads least w ts b len =
      reads_token _ Anywhere paren_of s.Paren Whatever is_paren 0 tt _ _ ts (λ p us le _.
      reads_bind (Filled spell.expr Groups) Anywhere _ Anywhere (some_of (g 0)) _ _ us (some_of (f 0) us) (some_reads spell.expr Groups (f 0) (g 0) n each_part us (omega arith)) tt (λ xs front vs _ li _.
      reads_mark _ Anywhere m.EndParen _ _ vs (λ ws _.
      reads_pure _ Anywhere (e.Tie w p xs) ws
      (record { is = expr-Tie w p xs ∙ ap (λ z. s.Tie w ∷ s.Paren p ∷ (z ++ s.Mark m.EndParen ∷ [])) li.is; groups = groups-Tie w p xs li.filled li.fits; tight = b }) tt)))

  grouped_reads : (least p : ℕ) (ts : List Symbol) → least ≤ 11 → length ts ≤ n → Reads (λ us x. grouped g p us ≡ x) (λ x fr. Spells least x (s.Paren p ∷ fr)) Anywhere ts (grouped f p ts)
  unfolding grouped
  grouped_reads least p ts b len =
      reads_bind (Spells 0) (Loose 0) (λ x fr. Spells least x (s.Paren p ∷ fr)) Anywhere (g 0) _ _ ts (f 0 ts) (inner 0 ts (omega arith) len) (loose_end 0) (λ x front us _ sp _.
      reads_mark _ Anywhere m.EndParen _ _ us (λ vs _.
      reads_pure _ Anywhere (e.Paren p x) vs
      (record { is = expr-Paren p x ∙ ap (λ z. s.Paren p ∷ (z ++ s.Mark m.EndParen ∷ [])) sp.is; groups = groups-Paren p x sp.groups; tight = b }) tt))

  repeated_reads : (least p : ℕ) (count : Leaf) (ts : List Symbol) → least ≤ 11 → length ts ≤ n
      → Reads (λ us x. repeated g p count us ≡ x) (λ x fr. Spells least x (s.Brace p ∷ s.Number count ∷ fr)) Anywhere ts (repeated f p count ts)
  unfolding repeated
  repeated_reads least p count ts b len =
      reads_token _ Anywhere brace_of s.Brace Whatever is_brace 0 tt _ _ ts (λ q us le _.
      reads_bind (Spells 0) (Loose 0) _ Anywhere (g 0) _ _ us (f 0 us) (inner 0 us (omega arith) (omega arith)) (loose_end 0) (λ x front vs _ sp _.
      reads_mark _ Anywhere m.EndBrace _ _ vs (λ ws _.
      reads_mark _ Anywhere m.EndBrace _ _ ws (λ ys _.
      reads_pure _ Anywhere (e.Repeat p count q x) ys
      (record {
        is = expr-Repeat p count q x ∙ ap (λ z. s.Brace p ∷ s.Number count ∷ s.Brace q ∷ (z ++ s.Mark m.EndBrace ∷ s.Mark m.EndBrace ∷ [])) sp.is;
        groups = groups-Repeat p count q x sp.groups;
        tight = b;
      }) tt))))

  joined_reads : (least p : ℕ) (x : Expr) (front ts : List Symbol) → least ≤ 11 → length ts ≤ n → spell.expr x ≡ front → Groups x
      → Reads (λ us y. joined g p x us ≡ y) (λ y fr. Spells least y (s.Brace p ∷ (front ++ fr))) Anywhere ts (joined f p x ts)
  unfolding joined
  joined_reads least p x front ts b len is gr =
      reads_bind (λ xs fr. Filled spell.expr Groups xs (front ++ fr)) Anywhere _ Anywhere (more_of (g 0) x) _ _ ts (more_of (f 0) x ts)
      (more_reads spell.expr Groups (f 0) (g 0) n each_part x front ts len (record { is = is; fits = gr })) tt (λ xs fr us _ li _.
      reads_mark _ Anywhere m.EndBrace _ _ us (λ vs _.
      reads_pure _ Anywhere (e.Concat p xs) vs
      (record {
        is = expr-Concat p xs ∙ ap (λ z. s.Brace p ∷ (z ++ s.Mark m.EndBrace ∷ [])) li.is ∙ ap (λ z. s.Brace p ∷ z) (append_assoc front fr (s.Mark m.EndBrace ∷ []));
        groups = groups-Concat p xs li.filled li.fits;
        tight = b;
      }) tt))

  brace_end_reads : (least p : ℕ) (x : Expr) (front ts : List Symbol) → least ≤ 11 → length ts ≤ n → spell.expr x ≡ front → Groups x → (o : Option Leaf) → bare x ≡ o
      → Reads (λ us y. brace_end g p x o us ≡ y) (λ y fr. Spells least y (s.Brace p ∷ (front ++ fr))) Anywhere ts (brace_end f p x o ts)
  brace_end_reads least p x front ts b len is gr None h = joined_reads least p x front ts b len is gr
  brace_end_reads least p x front ts b len is gr (Some count) h = reads_either _ Anywhere sees_brace (repeated f p count) (joined f p x) (repeated g p count) (joined g p x) ts
      (λ _. subst (λ z. Reads (λ us y. repeated g p count us ≡ y) (λ y fr. Spells least y (s.Brace p ∷ (z ++ fr))) Anywhere ts (repeated f p count ts)) (bare_front x front count h is)
      (repeated_reads least p count ts b len))
      (λ _. joined_reads least p x front ts b len is gr)

  braced_reads : (least p : ℕ) (ts : List Symbol) → least ≤ 11 → length ts ≤ n → Reads (λ us x. braced g p us ≡ x) (λ x fr. Spells least x (s.Brace p ∷ fr)) Anywhere ts (braced f p ts)
  unfolding braced
  braced_reads least p ts b len =
      reads_bind (Spells 0) (Loose 0) (λ x fr. Spells least x (s.Brace p ∷ fr)) Anywhere (g 0) _ _ ts (f 0 ts) (inner 0 ts (omega arith) len) (loose_end 0) (λ x front us le sp _.
      brace_end_reads least p x front us b (omega arith) sp.is sp.groups (bare x) refl)

  -- ---- operators in front

  prefixed_reads : (least p : ℕ) (o : UnaryOp) (ts : List Symbol) → least ≤ 11 → length ts ≤ n
      → Reads (λ us x. prefixed g p o us ≡ x) (λ x fr. Spells least x (s.Sign (unary_sign o) p ∷ fr)) Anywhere ts (prefixed f p o ts)
  unfolding prefixed
  prefixed_reads least p o ts b len =
      reads_bind (Spells 11) (Loose 11) (λ x fr. Spells least x (s.Sign (unary_sign o) p ∷ fr)) Anywhere (g 11) _ _ ts (f 11 ts) (inner 11 ts (omega arith) len) (loose_end 11) (λ x front us _ sp _.
      reads_pure _ Anywhere (e.Unary o p x) us
      (record { is = expr-Unary o p x ∙ ap (λ z. s.Sign (unary_sign o) p ∷ z) (sp.is ∙ sym (append-nil front)); groups = groups-Unary o p x sp.tight sp.groups; tight = b }) tt)

  primary_reads : (least : ℕ) (ts : List Symbol) → least ≤ 11 → length ts ≤ suc n → Reads (λ us x. primary g us ≡ x) (Spells least) Anywhere ts (primary f ts)
  unfolding primary
  primary_reads least ts b len = reads_branch (Spells least) Anywhere (primary_of f) (primary_of g) ts pairs one_number (s.Number no_leaf ∷ []) (record { is = refl; groups = tt; tight = b })
    where
      by_sign : (k : Sign) (p : ℕ) (after : List Symbol) → length after ≤ n → (o : Option UnaryOp) → ((u : UnaryOp) → o ≡ Some u → unary_sign u ≡ k) → Pairs (Spells least) Anywhere (s.Sign k p) after (prefix_by f p o) (prefix_by g p o)
      by_sign k p after le None h = tt
      by_sign k p after le (Some u) h = subst (λ z. Reads (λ us y. prefixed g p u us ≡ y) (λ x fr. Spells least x (s.Sign z p ∷ fr)) Anywhere after (prefixed f p u after)) (h u refl) (prefixed_reads least p u after b le)

      sign_is : (k : Sign) (u : UnaryOp) → unary_op k ≡ Some u → unary_sign u ≡ k
      sign_is sign.Tilde u h = let same : unary.Not ≡ u = cc in sym (ap unary_sign same)
      sign_is sign.Bang u h = let same : unary.LogicalNot ≡ u = cc in sym (ap unary_sign same)
      sign_is sign.Amp u h = let same : unary.ReduceAnd ≡ u = cc in sym (ap unary_sign same)
      sign_is sign.Bar u h = let same : unary.ReduceOr ≡ u = cc in sym (ap unary_sign same)
      sign_is sign.Caret u h = let same : unary.ReduceXor ≡ u = cc in sym (ap unary_sign same)
      sign_is _ u h = absurd cc

      pairs : (x : Symbol) (after : List Symbol) → ts ≡ x ∷ after → Pairs (Spells least) Anywhere x after (primary_of f x) (primary_of g x)
      pairs (s.Number t) after h = reads_pure (λ x fr. Spells least x (s.Number t ∷ fr)) Anywhere (e.Literal (l.Number t)) after (record { is = refl; groups = tt; tight = b }) tt
      pairs (s.Sized t) after h = reads_pure (λ x fr. Spells least x (s.Sized t ∷ fr)) Anywhere (e.Literal (l.Sized t)) after (record { is = refl; groups = tt; tight = b }) tt
      pairs (s.Name t) after h = named_reads least t after b (omega (arith, ap length h))
      pairs (s.Tie w) after h = tie_reads least w after b (omega (arith, ap length h))
      pairs (s.Paren p) after h = grouped_reads least p after b (omega (arith, ap length h))
      pairs (s.Brace p) after h = braced_reads least p after b (omega (arith, ap length h))
      pairs (s.Sign k p) after h = by_sign k p after (omega (arith, ap length h)) (unary_op k) (λ u is. sign_is k u is)
      pairs (s.Stage w) after h = tt
      pairs (s.Direction d) after h = tt
      pairs (s.Mark k) after h = tt

-- ---- operators between

abbrev symbol_of : Operator → Symbol
symbol_of o = s.Sign (binary_sign o.op) o.place

binary_is : (k : Sign) (o : BinaryOp) → binary_op k ≡ Some o → binary_sign o ≡ k
binary_is sign.BarBar o h = let same : op.LogicalOr ≡ o = cc in sym (ap binary_sign same)
binary_is sign.AmpAmp o h = let same : op.LogicalAnd ≡ o = cc in sym (ap binary_sign same)
binary_is sign.Bar o h = let same : op.Or ≡ o = cc in sym (ap binary_sign same)
binary_is sign.Caret o h = let same : op.Xor ≡ o = cc in sym (ap binary_sign same)
binary_is sign.Amp o h = let same : op.And ≡ o = cc in sym (ap binary_sign same)
binary_is sign.EqualEqual o h = let same : op.Equal ≡ o = cc in sym (ap binary_sign same)
binary_is sign.BangEqual o h = let same : op.NotEqual ≡ o = cc in sym (ap binary_sign same)
binary_is sign.Less o h = let same : op.Less ≡ o = cc in sym (ap binary_sign same)
binary_is sign.LessEqual o h = let same : op.LessEqual ≡ o = cc in sym (ap binary_sign same)
binary_is sign.Greater o h = let same : op.Greater ≡ o = cc in sym (ap binary_sign same)
binary_is sign.GreaterEqual o h = let same : op.GreaterEqual ≡ o = cc in sym (ap binary_sign same)
binary_is sign.LessLess o h = let same : op.ShiftLeft ≡ o = cc in sym (ap binary_sign same)
binary_is sign.GreaterGreater o h = let same : op.ShiftRight ≡ o = cc in sym (ap binary_sign same)
binary_is sign.Plus o h = let same : op.Add ≡ o = cc in sym (ap binary_sign same)
binary_is sign.Minus o h = let same : op.Subtract ≡ o = cc in sym (ap binary_sign same)
binary_is sign.Star o h = let same : op.Multiply ≡ o = cc in sym (ap binary_sign same)
binary_is _ o h = absurd cc

pub operator_is : (x : Symbol) (o : Operator) → operator_of (Some x) ≡ Some o → x ≡ symbol_of o
operator_is (s.Sign k p) o h = by_op (binary_op k) refl h
  where
    by_op : (b : Option BinaryOp) → binary_op k ≡ b → placed p b ≡ Some o → s.Sign k p ≡ symbol_of o
    by_op None is e = absurd cc
    by_op (Some u) is e = let same : record { op = u; place = p } ≡ o = cc in ap (λ z. s.Sign z p) (sym (binary_is k u is)) ∙ ap symbol_of same
operator_is _ o h = absurd cc

pub small_level : (o : BinaryOp) → level o < 11
small_level op.LogicalOr = omega arith
small_level op.LogicalAnd = omega arith
small_level op.Or = omega arith
small_level op.Xor = omega arith
small_level op.And = omega arith
small_level op.Equal = omega arith
small_level op.NotEqual = omega arith
small_level op.Less = omega arith
small_level op.LessEqual = omega arith
small_level op.Greater = omega arith
small_level op.GreaterEqual = omega arith
small_level op.ShiftLeft = omega arith
small_level op.ShiftRight = omega arith
small_level op.Add = omega arith
small_level op.Subtract = omega arith
small_level op.Multiply = omega arith

pub least_level : (o : BinaryOp) → 1 ≤ level o
least_level op.LogicalOr = omega arith
least_level op.LogicalAnd = omega arith
least_level op.Or = omega arith
least_level op.Xor = omega arith
least_level op.And = omega arith
least_level op.Equal = omega arith
least_level op.NotEqual = omega arith
least_level op.Less = omega arith
least_level op.LessEqual = omega arith
least_level op.Greater = omega arith
least_level op.GreaterEqual = omega arith
least_level op.ShiftLeft = omega arith
least_level op.ShiftRight = omega arith
least_level op.Add = omega arith
least_level op.Subtract = omega arith
least_level op.Multiply = omega arith

climb_suc : (g : ℕ → Parser Expr) (least k : ℕ) (left : Expr) (us : List Symbol) → climb g least (suc k) left us ≡ turn g (climb g least k) least left (operator us) us
unfolding climb
climb_suc g least k left us = refl

pub climb_is : (g : ℕ → Parser Expr) (least k : ℕ) (left : Expr) (us : List Symbol) → length us < k → climb g least k left us ≡ turn g (climb g least (k - 1)) least left (operator us) us
climb_is g least k left us lt =
    let h : k ≡ suc (k - 1) = omega arith in
    ap (λ j. climb g least j left us) h ∙ climb_suc g least (k - 1) left us

pub turn_some : (g : ℕ → Parser Expr) (again : Expr → Parser Expr) (least : ℕ) (left : Expr) (o : Operator) (x : Symbol) (us : List Symbol) → operator_of (Some x) ≡ Some o → nat_le least (level o.op) ≡ true
    → turn g again least left (operator_of (Some x)) (x ∷ us) ≡ and_then (g (level o.op + 1) us) (λ right. again (e.Binary o left right))
unfolding turn more
turn_some g again least left o x us is t =
    ap (λ z. turn g again least left z (x ∷ us)) is ∙ ap (λ b. more g again left o b (x ∷ us)) t

pub turn_stop : (g : ℕ → Parser Expr) (again : Expr → Parser Expr) (least : ℕ) (left : Expr) (z : Option Operator) (us : List Symbol) → ((o : Operator) → z ≡ Some o → nat_le least (level o.op) ≡ false)
    → turn g again least left z us ≡ Ok (left, us)
unfolding turn more
turn_stop g again least left None us h = refl
turn_stop g again least left (Some o) us h = ap (λ b. more g again left o b us) (h o refl)

le_of : (a b : ℕ) → nat_le a b ≡ true → a ≤ b
le_of a b h = search (rules, tests)

not_le : (a b : ℕ) → nat_le a b ≡ false → b < a
not_le a b h = search (rules, tests)

loose_no : (a b : ℕ) → b < a → nat_le a b ≡ false
loose_no a b h = search (rules, tests)

binary_groups : (o : Operator) (a b : Expr) → level o.op ≤ tightness a → level o.op + 1 ≤ tightness b → Groups a → Groups b → Groups (e.Binary o a b)
binary_groups o a b t u ga gb = groups-Binary o a b t (omega arith) ga gb

-- where the left operand stands, the operator and what the right one spells
seam : (left right : Expr) (o : Operator) (x : Symbol) (front fr : List Symbol) → operator_of (Some x) ≡ Some o → spell.expr right ≡ front → spell.expr (e.Binary o left right) ++ fr ≡ spell.expr left ++ (x ∷ (front ++ fr))
seam left right o x front fr is sp =
    ap (λ z. z ++ fr) (expr-Binary o left right)
    ∙ append_assoc (spell.expr left) (symbol_of o ∷ spell.expr right) fr
    ∙ ap (λ z. spell.expr left ++ (z ∷ (spell.expr right ++ fr))) (sym (operator_is x o is))
    ∙ ap (λ z. spell.expr left ++ (x ∷ (z ++ fr))) sp

module _ (f g : ℕ → Parser Expr) (n : ℕ) (inner : Inner f g n) (least : ℕ) (b : least ≤ 11) where
  -- what climbing answers, with any count of turns that is large enough
  abbrev Climbs : Expr → List Symbol → Read Expr → Type 0
  Climbs left us x = (k : ℕ) → length us < k → climb g least k left us ≡ x

  abbrev Adds : Expr → Expr → List Symbol → Type 0
  Adds left x fr = Spells least x (spell.expr left ++ fr)

  climb_stops : (k : ℕ) (left : Expr) (ts : List Symbol) → length ts < suc k → Groups left → least ≤ tightness left → Loose least ts
      → Reads (Climbs left) (Adds left) (Loose least) ts (climb f least (suc k) left ts)
  climb_stops k left ts lt gr ti loose =
      let none : (us : List Symbol) → first us ≡ first ts → (o : Operator) → operator us ≡ Some o → nat_le least (level o.op) ≡ false = λ us h o is. loose_no least (level o.op) (loose o (ap operator_of (sym h) ∙ is)) in
      subst (λ r. Reads (Climbs left) (Adds left) (Loose least) ts r) (sym (climb_suc f least k left ts ∙ turn_stop f (climb f least k) least left (operator ts) ts (none ts refl)))
      (record {
        front = [];
        rest = ts;
        parts = refl;
        is = refl;
        again = λ other h j lj. climb_is g least j left other lj ∙ turn_stop g (climb g least (j - 1)) least left (operator other) other (none other h);
        tells = (record { is = sym (append-nil (spell.expr left)); groups = gr; tight = ti }, loose);
      })

  -- what is known of the turns after this one
  abbrev Later : ℕ → Type 0
  Later k = (left : Expr) (ts : List Symbol) → length ts < k → length ts ≤ suc n → Groups left → least ≤ tightness left → ((o : Operator) → operator ts ≡ Some o → level o.op ≤ tightness left)
      → Reads (Climbs left) (Adds left) (Loose least) ts (climb f least k left ts)

  climb_turn : (k : ℕ) (left : Expr) (x : Symbol) (after : List Symbol) (o : Operator) → Later k → length (x ∷ after) < suc k → length (x ∷ after) ≤ suc n → Groups left → least ≤ tightness left
      → operator_of (Some x) ≡ Some o → level o.op ≤ tightness left → nat_le least (level o.op) ≡ true
      → Reads (Climbs left) (Adds left) (Loose least) (x ∷ after) (climb f least (suc k) left (x ∷ after))
  climb_turn k left x after o later lt len gr ti is be test =
      let tight : least ≤ level o.op = le_of least (level o.op) test in
      let small = small_level o.op in
      let Then : List Symbol → Read Expr → Type 0 = λ us y. (j : ℕ) → length us + 1 < j → climb g least j left (x ∷ us) ≡ y in
      let step : (j : ℕ) (us : List Symbol) → length us + 1 < j → climb g least j left (x ∷ us) ≡ and_then (g (level o.op + 1) us) (λ right. climb g least (j - 1) (e.Binary o left right))
      = λ j us lj. climb_is g least j left (x ∷ us) (omega arith) ∙ turn_some g (climb g least (j - 1)) least left o x us is test in
      subst (λ r. Reads (Climbs left) (Adds left) (Loose least) (x ∷ after) r) (sym (climb_suc f least k left (x ∷ after) ∙ turn_some f (climb f least k) least left o x after is test))
      (reads_after (Adds left) (Loose least) (Climbs left) Then x after _ (λ other y t j lj. t j (omega arith))
      (reads_then (Spells (level o.op + 1)) (Loose (level o.op + 1)) (λ b fr. Adds left b (x ∷ fr)) (Loose least)
      (λ right. Climbs (e.Binary o left right)) Then (g (level o.op + 1)) (λ right. climb f least k (e.Binary o left right)) after (f (level o.op + 1) after)
      (inner (level o.op + 1) after (omega arith) (omega arith))
      (λ right front us parts sp loose.
      let le = shorter after front us parts in
      reads_says (Climbs (e.Binary o left right)) (Adds (e.Binary o left right)) (λ b fr. Adds left b (x ∷ (front ++ fr))) (Loose least) us _
      (λ b fr q. record { is = q.is ∙ seam left right o x front fr is sp.is; groups = q.groups; tight = q.tight })
      (later (e.Binary o left right) us (omega arith) (omega arith) (binary_groups o left right be sp.tight gr sp.groups) tight
      (λ o2 e2. omega (arith, loose o2 e2))))
      (λ right front sp. (
        e.Binary o left right,
        [],
        record {
          is = sym (append-nil (spell.expr (e.Binary o left right))) ∙ seam left right o x front [] is sp.is;
          groups = binary_groups o left right be sp.tight gr sp.groups;
          tight = tight;
        },
      ))
      (λ us m _ h j lj. step j us lj ∙ ap (λ y. and_then y (λ right. climb g least (j - 1) (e.Binary o left right))) h)
      (λ us front vs right y _ h parts _ t j lj. let le = shorter us front vs parts in step j us lj ∙ ap (λ y. and_then y (λ right. climb g least (j - 1) (e.Binary o left right))) h ∙ t (j - 1) (omega arith))))

  climb_reads : (k : ℕ) → Later k
  climb_reads zero left ts lt len gr ti be = absurd (omega arith)
  climb_reads (suc k) left [] lt len gr ti be = climb_stops k left [] lt gr ti (loose_end least)
  climb_reads (suc k) left (x ∷ after) lt len gr ti be = by_operator (climb_reads k) (operator_of (Some x)) refl
    where
      by_test : Later k → (o : Operator) (c : Bool) → operator_of (Some x) ≡ Some o → nat_le least (level o.op) ≡ c → Reads (Climbs left) (Adds left) (Loose least) (x ∷ after) (climb f least (suc k) left (x ∷ after))
      by_test later o true is t = climb_turn k left x after o later lt len gr ti is (be o is) t
      by_test later o false is t = climb_stops k left (x ∷ after) lt gr ti (λ o2 e2. let h : o ≡ o2 = cc in subst (λ z. level z.op < least) h (not_le least (level o.op) t))

      by_operator : Later k → (z : Option Operator) → operator_of (Some x) ≡ z → Reads (Climbs left) (Adds left) (Loose least) (x ∷ after) (climb f least (suc k) left (x ∷ after))
      by_operator later None is = climb_stops k left (x ∷ after) lt gr ti (λ o2 e2. absurd cc)
      by_operator later (Some o) is = by_test later o (nat_le least (level o.op)) is refl

  climbed_reads : (left : Expr) (front us : List Symbol) → length us ≤ n → spell.expr left ≡ front → Groups left → 11 ≤ tightness left
      → Reads (λ vs x. climbed g least left vs ≡ x) (λ x fr. Spells least x (front ++ fr)) (Loose least) us (climbed f least left us)
  unfolding climbed
  climbed_reads left front us len is gr ti =
      reads_again (Climbs left) _ _ (Loose least) us _ (λ vs x h. h (length vs + 1) (omega arith))
      (reads_says (Climbs left) (Adds left) _ (Loose least) us _ (λ c fr q. record { is = q.is ∙ ap (λ z. z ++ fr) is; groups = q.groups; tight = q.tight })
      (climb_reads (length us + 1) left us (omega arith) (omega arith) gr (omega arith) (λ o h. omega (arith, small_level o.op))))

-- ---- whole expressions

pub some_symbol : (x : Expr) → 0 < length (spell.expr x)
some_symbol x = by_form x (form x)
  where
    by_form : (x : Expr) → Form x → 0 < length (spell.expr x)
    by_form _ (literal (l.Number t)) = omega arith
    by_form _ (literal (l.Sized t)) = omega arith
    by_form _ (name n) = omega arith
    by_form _ (a_select n h t) = omega arith
    by_form _ (an_index n x) = omega (arith, ap length (expr-Index n x))
    by_form _ (call n p xs) = omega (arith, ap length (expr-Call n p xs))
    by_form _ (a_tie w p xs) = omega (arith, ap length (expr-Tie w p xs))
    by_form _ (a_paren p x) = omega (arith, ap length (expr-Paren p x))
    by_form _ (concat p xs) = omega (arith, ap length (expr-Concat p xs))
    by_form _ (repeat p n q x) = omega (arith, ap length (expr-Repeat p n q x))
    by_form _ (a_unary o p x) = omega (arith, ap length (expr-Unary o p x))
    by_form _ (binary o a b) = omega (arith, ap length (expr-Binary o a b), length-append (spell.expr a) (symbol_of o ∷ spell.expr b))
    by_form _ (conditional c a b) = omega (arith, ap length (expr-Conditional c a b), length-append (spell.expr c) (s.Mark m.Question ∷ (spell.expr a ++ s.Mark m.Colon ∷ spell.expr b)))

asks_none : (least : ℕ) (o : Option Symbol) → 0 < least → asks least o ≡ true → ⊥
asks_none least o h t = let zero : nat_eq least 0 ≡ false = search (rules, tests) in let none : asks least o ≡ false = ap (λ b. b && sees_first m.Question o) zero in cc

module _ (f g : ℕ → Parser Expr) (n : ℕ) (inner : Inner f g n) where
  arms_reads : (x : Expr) (front ts : List Symbol) → length ts ≤ n → Spells 1 x front → Reads (λ us y. arms g x us ≡ y) (λ y fr. Spells 0 y (front ++ fr)) (Loose 0) ts (arms f x ts)
  unfolding arms
  arms_reads x front ts len sp =
      reads_mark _ (Loose 0) m.Question _ _ ts (λ us le.
      reads_bind (Spells 0) (Loose 0) _ (Loose 0) (g 0) _ _ us (f 0 us) (inner 0 us (omega arith) (omega arith)) (loose_end 0) (λ a fa vs le2 sa _.
      reads_mark _ (Loose 0) m.Colon _ _ vs (λ ws le3.
      reads_bind (Spells 0) (Loose 0) _ (Loose 0) (g 0) _ _ ws (f 0 ws) (inner 0 ws (omega arith) (omega arith)) (loose_end 0) (λ b fb ys _ sb loose.
      reads_pure _ (Loose 0) (e.Conditional x a b) ys
      (record { is = whole a b fa fb sa.is sb.is; groups = groups-Conditional x a b sp.tight sp.groups sa.groups sb.groups; tight = omega arith }) loose))))
    where
      whole : (a b : Expr) (fa fb : List Symbol) → spell.expr a ≡ fa → spell.expr b ≡ fb → spell.expr (e.Conditional x a b) ≡ front ++ (s.Mark m.Question ∷ (fa ++ s.Mark m.Colon ∷ (fb ++ [])))
      whole a b fa fb ia ib = expr-Conditional x a b ∙ ap (λ z. z ++ s.Mark m.Question ∷ (spell.expr a ++ s.Mark m.Colon ∷ spell.expr b)) sp.is
          ∙ ap (λ z. front ++ s.Mark m.Question ∷ (z ++ s.Mark m.Colon ∷ spell.expr b)) ia ∙ ap (λ z. front ++ s.Mark m.Question ∷ (fa ++ s.Mark m.Colon ∷ z)) (ib ∙ sym (append-nil fb))

  chosen_reads : (least : ℕ) (x : Expr) (front ts : List Symbol) → least ≤ 11 → length ts ≤ n → Spells (max 1 least) x front → Loose (max 1 least) ts
      → Reads (λ us y. chosen g least x us ≡ y) (λ y fr. Spells least y (front ++ fr)) (Loose least) ts (chosen f least x ts)
  unfolding chosen
  chosen_reads zero x front ts b len sp loose = reads_either (λ y fr. Spells 0 y (front ++ fr)) (Loose 0) (asks 0) (arms f x) (pure x) (arms g x) (pure x) ts
      (λ _. arms_reads x front ts len (record { is = sp.is; groups = sp.groups; tight = omega (arith, sp.tight) }))
      (λ _. reads_pure (λ y fr. Spells 0 y (front ++ fr)) (Loose 0) x ts (record { is = sp.is ∙ sym (append-nil front); groups = sp.groups; tight = omega arith })
      (λ o h. absurd (omega (arith, loose o h, least_level o.op))))
  chosen_reads (suc k) x front ts b len sp loose = reads_either (λ y fr. Spells (suc k) y (front ++ fr)) (Loose (suc k)) (asks (suc k)) (arms f x) (pure x) (arms g x) (pure x) ts
      (λ h. absurd (asks_none (suc k) (first ts) (omega arith) h))
      (λ _. reads_pure (λ y fr. Spells (suc k) y (front ++ fr)) (Loose (suc k)) x ts
      (record { is = sp.is ∙ sym (append-nil front); groups = sp.groups; tight = omega (arith, sp.tight) }) (λ o h. omega (arith, loose o h)))

  level_reads : (least : ℕ) (ts : List Symbol) → least ≤ 11 → length ts ≤ suc n → Reads (λ us x. level_from g least us ≡ x) (Spells least) (Loose least) ts (level_from f least ts)
  unfolding level_from
  level_reads least ts b len =
      reads_bind_to (Spells 11) Anywhere (Spells least) (Loose least) n (primary g) _ _ ts (primary f ts) (λ x front us parts sp. omega (arith, some_symbol x, ap length sp.is, ap length parts, length-append front us))
      (primary_reads f g n inner 11 ts (omega arith) len) tt (λ left front us le sp _.
      reads_bind (λ x fr. Spells (max 1 least) x (front ++ fr)) (Loose (max 1 least)) (λ y fr. Spells least y (front ++ fr)) (Loose least) (climbed g (max 1 least) left) _ _ us (climbed f (max 1 least) left us)
      (climbed_reads f g n inner (max 1 least) (omega arith) left front us le sp.is sp.groups sp.tight) (loose_end (max 1 least)) (λ x more vs le2 q loose.
      reads_says (λ ws y. chosen g least x ws ≡ y) (λ y fr. Spells least y ((front ++ more) ++ fr)) _ (Loose least) vs (chosen f least x vs)
      (λ y fr z. record { is = z.is ∙ append_assoc front more fr; groups = z.groups; tight = z.tight })
      (chosen_reads least x (front ++ more) vs b (omega arith) q loose)))

level_none : (f : ℕ → Parser Expr) (least : ℕ) → level_from f least [] ≡ Err 0
unfolding level_from primary
level_none f least = refl

expr_none : (d least : ℕ) → expr d least [] ≡ Err 0
unfolding expr
expr_none zero least = refl
expr_none (suc d) least = level_none (expr d) least

-- reading to a depth that is large enough looks at no symbol behind the one that it stops at, and a larger depth changes nothing
pub expr_reads : (d more : ℕ) → d ≤ more → Inner (expr d) (expr more) d
unfolding expr
expr_reads zero more h least [] b len = reads_none (Spells least) (Loose least) (expr more least) (expr_none more least) one_number (s.Number no_leaf ∷ []) (record { is = refl; groups = tt; tight = b })
expr_reads zero more h least (x ∷ ts) b len = absurd (omega arith)
expr_reads (suc d) zero h least ts b len = absurd (omega arith)
expr_reads (suc d) (suc more) h least ts b len = level_reads (expr d) (expr more) d (expr_reads d more (omega arith)) least ts b len
