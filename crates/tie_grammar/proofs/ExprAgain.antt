-- What an expression spells is read as that expression.
use Rattle.std.proofs.Common.{◌≡◌, ℕ, zero, suc, ◌+◌, ◌-◌, ◌≤◌, ◌<◌, max, Bool, true, false, ◌&&◌, List, [], ◌∷◌, ◌++◌, length, Option, Some, None, Ok, Err, refl, sym, ap, subst, ◌∙◌, append_assoc, arith, rules, tests, length-append, if◌then◌else◌, nat_le, nat_eq}
use Rattle.std.specs.List.{flat_map, AllByRecursion}
use Rattle.tie_grammar.specs.declared.symbol.Leaf.{Leaf}
use Rattle.tie_grammar.specs.declared.symbol.Mark.{Mark}
use Rattle.tie_grammar.specs.declared.symbol.Mark.TheVariants as m
use Rattle.tie_grammar.specs.declared.symbol.TieWord.{TieWord}
use Rattle.tie_grammar.specs.declared.symbol.Symbol.{Symbol}
use Rattle.tie_grammar.specs.declared.symbol.Symbol.TheVariants as s
use Rattle.tie_grammar.specs.declared.tree.Literal.TheVariants as l
use Rattle.tie_grammar.specs.declared.tree.UnaryOp.{UnaryOp}
use Rattle.tie_grammar.specs.declared.tree.UnaryOp.TheVariants as unary_ops
use Rattle.tie_grammar.specs.declared.tree.BinaryOp.{BinaryOp}
use Rattle.tie_grammar.specs.declared.tree.BinaryOp.TheVariants as op
use Rattle.tie_grammar.specs.declared.tree.Operator.{Operator}
use Rattle.tie_grammar.specs.declared.tree.Expr.{Expr}
use Rattle.tie_grammar.specs.declared.tree.Expr.TheVariants as e
use Rattle.tie_grammar.specs.Spelling as spell
use Rattle.tie_grammar.specs.Spelling.{commas, behind_comma, unary_sign, binary_sign, level, tightness, Groups, IsFilled}
use Rattle.tie_grammar.proofs.Shapes as shape
use Rattle.tie_grammar.proofs.Shapes.{Form, form}
use Rattle.tie_grammar.specs.Reading.{Read, Parser, and_then, first, sees_first, sees, sees_paren, sees_brace, same, pure, expect, any_of}
use Rattle.tie_grammar.specs.Exprs.{bare, select, index, bracket_end, bracketed, called, named, tie, grouped, repeated, joined, brace_end, braced, unary_op, prefixed, primary, operator, operator_of, climb, climbed, arms, asks, chosen, level_from, expr}
use Rattle.tie_grammar.proofs.CommaLists.{more_again, some_again, any_again}
use Rattle.tie_grammar.proofs.ExprReads.{Loose, climb_is, turn_some, turn_stop, small_level, least_level, some_symbol}

-- the symbols behind an expression do not belong to it
pub record Stops (least : ℕ) (rest : List Symbol) : Type 0 where
  pub loose : Loose least rest
  pub apart : sees m.Bracket rest ≡ false
  pub plain : sees_paren (first rest) ≡ false
  pub done : asks least (first rest) ≡ false

and_false : (b : Bool) → (b && false) ≡ false
and_false true = refl
and_false false = refl

asks_no : (least : ℕ) (o : Option Symbol) → 1 ≤ least → asks least o ≡ false
asks_no least o h = let z : nat_eq least 0 ≡ false = search (rules, tests) in ap (λ b. b && sees_first m.Question o) z

pub mark_stops : (least : ℕ) (k : Mark) (rest : List Symbol) → same k m.Bracket ≡ false → same k m.Question ≡ false → Stops least (s.Mark k ∷ rest)
mark_stops least k rest a b = record { loose = λ o h. absurd cc; apart = a; plain = refl; done = ap (λ z. nat_eq least 0 && z) b ∙ and_false (nat_eq least 0) }

brace_stops : (least q : ℕ) (rest : List Symbol) → Stops least (s.Brace q ∷ rest)
brace_stops least q rest = record { loose = λ o h. absurd cc; apart = refl; plain = refl; done = and_false (nat_eq least 0) }

abbrev symbol_of : Operator → Symbol
symbol_of o = s.Sign (binary_sign o.op) o.place

operator_back : (o : Operator) → operator_of (Some (symbol_of o)) ≡ Some o
operator_back o = by_op o.op o.place
  where
    by_op : (b : BinaryOp) (p : ℕ) → operator_of (Some (s.Sign (binary_sign b) p)) ≡ Some (record { op = b; place = p })
    by_op op.LogicalOr p = refl
    by_op op.LogicalAnd p = refl
    by_op op.Or p = refl
    by_op op.Xor p = refl
    by_op op.And p = refl
    by_op op.Equal p = refl
    by_op op.NotEqual p = refl
    by_op op.Less p = refl
    by_op op.LessEqual p = refl
    by_op op.Greater p = refl
    by_op op.GreaterEqual p = refl
    by_op op.ShiftLeft p = refl
    by_op op.ShiftRight p = refl
    by_op op.Add p = refl
    by_op op.Subtract p = refl
    by_op op.Multiply p = refl

operator_stops : (o : Operator) (k : ℕ) (us : List Symbol) → level o.op ≤ k → Stops (k + 1) (symbol_of o ∷ us)
operator_stops o k us h = record {
  loose = λ o2 is. let same_op : o ≡ o2 = cc (operator_back o) in subst (λ z. level z.op < k + 1) same_op (omega arith);
  apart = refl;
  plain = refl;
  done = and_false (nat_eq (k + 1) 0);
}

question_stops : (k : ℕ) (us : List Symbol) → 1 ≤ k → Stops k (s.Mark m.Question ∷ us)
unfolding same
question_stops k us h = record { loose = λ o is. absurd cc; apart = refl; plain = refl; done = asks_no k (Some (s.Mark m.Question)) h }

closer : (least : ℕ) (rest : List Symbol) → Stops least (s.Mark m.EndParen ∷ rest)
unfolding same
closer least rest = mark_stops least m.EndParen rest refl refl

brace_closer : (least : ℕ) (rest : List Symbol) → Stops least (s.Mark m.EndBrace ∷ rest)
unfolding same
brace_closer least rest = mark_stops least m.EndBrace rest refl refl

bracket_closer : (least : ℕ) (rest : List Symbol) → Stops least (s.Mark m.EndBracket ∷ rest)
unfolding same
bracket_closer least rest = mark_stops least m.EndBracket rest refl refl

colon_stops : (least : ℕ) (rest : List Symbol) → Stops least (s.Mark m.Colon ∷ rest)
unfolding same
colon_stops least rest = mark_stops least m.Colon rest refl refl

comma_stops : (rest : List Symbol) → Stops 0 (s.Mark m.Comma ∷ rest)
unfolding same
comma_stops rest = mark_stops 0 m.Comma rest refl refl

-- an expression begins with no mark
no_mark : (k : ℕ) (x : Expr) → Form x → length (spell.expr x) ≤ k → (mark : Mark) (us : List Symbol) → sees mark (spell.expr x ++ us) ≡ false
no_mark zero x f len mark us = absurd (omega (arith, some_symbol x))
no_mark (suc k) _ (shape.literal (l.Number t)) len mark us = refl
no_mark (suc k) _ (shape.literal (l.Sized t)) len mark us = refl
no_mark (suc k) _ (shape.name n) len mark us = refl
no_mark (suc k) _ (shape.select n h t) len mark us = refl
no_mark (suc k) _ (shape.index n x) len mark us = ap (λ z. sees mark (z ++ us)) (shape.expr-Index n x)
no_mark (suc k) _ (shape.call n p xs) len mark us = ap (λ z. sees mark (z ++ us)) (shape.expr-Call n p xs)
no_mark (suc k) _ (shape.tie w p xs) len mark us = ap (λ z. sees mark (z ++ us)) (shape.expr-Tie w p xs)
no_mark (suc k) _ (shape.paren p x) len mark us = ap (λ z. sees mark (z ++ us)) (shape.expr-Paren p x)
no_mark (suc k) _ (shape.concat p xs) len mark us = ap (λ z. sees mark (z ++ us)) (shape.expr-Concat p xs)
no_mark (suc k) _ (shape.repeat p n q x) len mark us = ap (λ z. sees mark (z ++ us)) (shape.expr-Repeat p n q x)
no_mark (suc k) _ (shape.unary o p x) len mark us = ap (λ z. sees mark (z ++ us)) (shape.expr-Unary o p x)
no_mark (suc k) _ (shape.binary o a b) len mark us =
    ap (λ z. sees mark (z ++ us)) (shape.expr-Binary o a b) ∙ ap (sees mark) (append_assoc (spell.expr a) (symbol_of o ∷ spell.expr b) us)
    ∙ no_mark k a (form a) (omega (arith, ap length (shape.expr-Binary o a b), length-append (spell.expr a) (symbol_of o ∷ spell.expr b))) mark ((symbol_of o ∷ spell.expr b) ++ us)
no_mark (suc k) _ (shape.conditional c a b) len mark us =
    let behind : List Symbol = s.Mark m.Question ∷ (spell.expr a ++ s.Mark m.Colon ∷ spell.expr b) in
    ap (λ z. sees mark (z ++ us)) (shape.expr-Conditional c a b) ∙ ap (sees mark) (append_assoc (spell.expr c) behind us)
    ∙ no_mark k c (form c) (omega (arith, ap length (shape.expr-Conditional c a b), length-append (spell.expr c) behind)) mark (behind ++ us)

pub starts : (x : Expr) (mark : Mark) (us : List Symbol) → sees mark (spell.expr x ++ us) ≡ false
starts x mark us = no_mark (length (spell.expr x)) x (form x) (omega arith) mark us

-- what is known of parts
abbrev pub Again : (ℕ → Parser Expr) → ℕ → Type 0
Again f n = (least : ℕ) (x : Expr) (rest : List Symbol) → length (spell.expr x) ≤ n → Groups x → least ≤ tightness x → Stops least rest → f least (spell.expr x ++ rest) ≡ Ok (x, rest)

-- ---- behind a name

select_again : (n high low : Leaf) (rest : List Symbol) → select n high (s.Mark m.Colon ∷ s.Number low ∷ s.Mark m.EndBracket ∷ rest) ≡ Ok (e.Select n high low, rest)
unfolding select same
select_again n high low rest = refl

index_again : (n : Leaf) (x : Expr) (rest : List Symbol) → index n x (s.Mark m.EndBracket ∷ rest) ≡ Ok (e.Index n x, rest)
unfolding index same
index_again n x rest = refl

bracket_again : (n : Leaf) (x : Expr) (rest : List Symbol) (o : Option Leaf) → bracket_end n x o (s.Mark m.EndBracket ∷ rest) ≡ Ok (e.Index n x, rest)
unfolding same
bracket_again n x rest None = index_again n x rest
bracket_again n x rest (Some t) = index_again n x rest

named_bracket : (f : ℕ → Parser Expr) (n : Leaf) (us : List Symbol) → named f n (s.Mark m.Bracket ∷ us) ≡ and_then (f 0 us) (λ x. bracket_end n x (bare x))
unfolding named bracketed same
named_bracket f n us = refl

named_paren : (f : ℕ → Parser Expr) (n : Leaf) (p : ℕ) (us : List Symbol) → named f n (s.Paren p ∷ us) ≡ and_then (any_of m.EndParen (f 0) us) (λ xs vs. and_then (expect m.EndParen vs) (λ _. pure (e.Call n p xs)))
unfolding named called same
named_paren f n p us = refl

named_plain : (f : ℕ → Parser Expr) (n : Leaf) (rest : List Symbol) → sees m.Bracket rest ≡ false → sees_paren (first rest) ≡ false → named f n rest ≡ Ok (e.Name n, rest)
unfolding named
named_plain f n rest a b =
    ap (λ c. if c then bracketed f n rest else (if sees_paren (first rest) then called f n rest else Ok (e.Name n, rest))) a
    ∙ ap (λ c. if c then called f n rest else Ok (e.Name n, rest)) b

-- ---- brackets and words

end_paren : (rest : List Symbol) → expect m.EndParen (s.Mark m.EndParen ∷ rest) ≡ Ok (tt, rest)
unfolding same
end_paren rest = refl

end_brace : (rest : List Symbol) → expect m.EndBrace (s.Mark m.EndBrace ∷ rest) ≡ Ok (tt, rest)
unfolding same
end_brace rest = refl

no_comma_paren : (rest : List Symbol) → sees m.Comma (s.Mark m.EndParen ∷ rest) ≡ false
unfolding same
no_comma_paren rest = refl

no_comma_brace : (rest : List Symbol) → sees m.Comma (s.Mark m.EndBrace ∷ rest) ≡ false
unfolding same
no_comma_brace rest = refl

is_paren_end : (rest : List Symbol) → sees m.EndParen (s.Mark m.EndParen ∷ rest) ≡ true
unfolding same
is_paren_end rest = refl

-- no brace stands behind the first part of a concatenation
no_brace : (xs : List Expr) (rest : List Symbol) → sees_brace (first (flat_map (behind_comma spell.expr) xs ++ s.Mark m.EndBrace ∷ rest)) ≡ false
no_brace [] rest = refl
no_brace (x ∷ xs) rest = refl

concat_stops : (xs : List Expr) (rest : List Symbol) → Stops 0 (flat_map (behind_comma spell.expr) xs ++ s.Mark m.EndBrace ∷ rest)
concat_stops [] rest = brace_closer 0 rest
concat_stops (x ∷ xs) rest = comma_stops _

brace_end_joined : (f : ℕ → Parser Expr) (p : ℕ) (x : Expr) (o : Option Leaf) (ts : List Symbol) → sees_brace (first ts) ≡ false → brace_end f p x o ts ≡ joined f p x ts
brace_end_joined f p x None ts h = refl
brace_end_joined f p x (Some t) ts h = ap (λ c. if c then repeated f p t ts else joined f p x ts) h

unary_back : (o : UnaryOp) → unary_op (unary_sign o) ≡ Some o
unary_back unary_ops.Not = refl
unary_back unary_ops.LogicalNot = refl
unary_back unary_ops.ReduceAnd = refl
unary_back unary_ops.ReduceOr = refl
unary_back unary_ops.ReduceXor = refl

primary_unary : (f : ℕ → Parser Expr) (o : UnaryOp) (p : ℕ) (us : List Symbol) → primary f (s.Sign (unary_sign o) p ∷ us) ≡ prefixed f p o us
unfolding primary
primary_unary f unary_ops.Not p us = refl
primary_unary f unary_ops.LogicalNot p us = refl
primary_unary f unary_ops.ReduceAnd p us = refl
primary_unary f unary_ops.ReduceOr p us = refl
primary_unary f unary_ops.ReduceXor p us = refl

module _ (f : ℕ → Parser Expr) (n : ℕ) (again : Again f n) where
  part_again : (x : Expr) (us : List Symbol) → Groups x → length (spell.expr x) ≤ n → Stops 0 us → f 0 (spell.expr x ++ us) ≡ Ok (x, us)
  part_again x us gr len st = again 0 x us len gr (omega arith) st

  number_again : (t : Leaf) (us : List Symbol) → 1 ≤ n → Stops 0 us → f 0 (s.Number t ∷ us) ≡ Ok (e.Literal (l.Number t), us)
  number_again t us len st = again 0 (e.Literal (l.Number t)) us (omega arith) tt (omega arith) st

  call_again : (t : Leaf) (p : ℕ) (xs : List Expr) (rest : List Symbol) → length (commas spell.expr xs) ≤ n → AllByRecursion Groups xs
      → named f t (s.Paren p ∷ (commas spell.expr xs ++ s.Mark m.EndParen ∷ rest)) ≡ Ok (e.Call t p xs, rest)
  call_again t p xs rest len all =
      named_paren f t p (commas spell.expr xs ++ s.Mark m.EndParen ∷ rest)
      ∙ ap (λ z. and_then z (λ ys vs. and_then (expect m.EndParen vs) (λ _. pure (e.Call t p ys))))
      (any_again spell.expr Groups (Stops 0) (f 0) n part_again comma_stops m.EndParen (λ x us. starts x m.EndParen us) xs (s.Mark m.EndParen ∷ rest) all len (closer 0 rest) (no_comma_paren rest) (is_paren_end rest))
      ∙ ap (λ z. and_then z (λ _. pure (e.Call t p xs))) (end_paren rest)

  tie_again : (w : TieWord) (p : ℕ) (xs : List Expr) (rest : List Symbol) → length (commas spell.expr xs) ≤ n → IsFilled xs → AllByRecursion Groups xs
      → tie f w (s.Paren p ∷ (commas spell.expr xs ++ s.Mark m.EndParen ∷ rest)) ≡ Ok (e.Tie w p xs, rest)
  unfolding tie
  tie_again w p xs rest len filled all =
      ap (λ z. and_then z (λ ys vs. and_then (expect m.EndParen vs) (λ _. pure (e.Tie w p ys))))
      (some_again spell.expr Groups (Stops 0) (f 0) n part_again comma_stops xs (s.Mark m.EndParen ∷ rest) filled all len (closer 0 rest) (no_comma_paren rest))
      ∙ ap (λ z. and_then z (λ _. pure (e.Tie w p xs))) (end_paren rest)

  grouped_again : (p : ℕ) (x : Expr) (rest : List Symbol) → length (spell.expr x) ≤ n → Groups x → grouped f p (spell.expr x ++ s.Mark m.EndParen ∷ rest) ≡ Ok (e.Paren p x, rest)
  unfolding grouped same
  grouped_again p x rest len gr = let h = part_again x (s.Mark m.EndParen ∷ rest) gr len (closer 0 rest) in rw h

  repeated_again : (p : ℕ) (t : Leaf) (q : ℕ) (x : Expr) (rest : List Symbol) → length (spell.expr x) ≤ n → Groups x
      → repeated f p t (s.Brace q ∷ (spell.expr x ++ s.Mark m.EndBrace ∷ s.Mark m.EndBrace ∷ rest)) ≡ Ok (e.Repeat p t q x, rest)
  unfolding repeated same
  repeated_again p t q x rest len gr = let h = part_again x (s.Mark m.EndBrace ∷ s.Mark m.EndBrace ∷ rest) gr len (brace_closer 0 (s.Mark m.EndBrace ∷ rest)) in rw h

  braced_repeat : (p : ℕ) (t : Leaf) (q : ℕ) (x : Expr) (rest : List Symbol) → 1 ≤ n → length (spell.expr x) ≤ n → Groups x
      → braced f p (s.Number t ∷ s.Brace q ∷ (spell.expr x ++ s.Mark m.EndBrace ∷ s.Mark m.EndBrace ∷ rest)) ≡ Ok (e.Repeat p t q x, rest)
  unfolding braced
  braced_repeat p t q x rest one len gr =
      let us : List Symbol = spell.expr x ++ s.Mark m.EndBrace ∷ s.Mark m.EndBrace ∷ rest in
      ap (λ z. and_then z (λ y. brace_end f p y (bare y))) (number_again t (s.Brace q ∷ us) one (brace_stops 0 q us))
      ∙ repeated_again p t q x rest len gr

  joined_again : (p : ℕ) (x : Expr) (xs : List Expr) (rest : List Symbol) → length (flat_map (behind_comma spell.expr) xs) ≤ n → AllByRecursion Groups xs
      → joined f p x (flat_map (behind_comma spell.expr) xs ++ s.Mark m.EndBrace ∷ rest) ≡ Ok (e.Concat p (x ∷ xs), rest)
  unfolding joined
  joined_again p x xs rest len all =
      ap (λ z. and_then z (λ ys vs. and_then (expect m.EndBrace vs) (λ _. pure (e.Concat p ys))))
      (more_again spell.expr Groups (Stops 0) (f 0) n part_again comma_stops x xs (s.Mark m.EndBrace ∷ rest) all len (brace_closer 0 rest) (no_comma_brace rest))
      ∙ ap (λ z. and_then z (λ _. pure (e.Concat p (x ∷ xs)))) (end_brace rest)

  braced_concat : (p : ℕ) (xs : List Expr) (rest : List Symbol) → length (commas spell.expr xs) ≤ n → IsFilled xs → AllByRecursion Groups xs
      → braced f p (commas spell.expr xs ++ s.Mark m.EndBrace ∷ rest) ≡ Ok (e.Concat p xs, rest)
  unfolding braced
  braced_concat p [] rest len filled all = absurd filled
  braced_concat p (x ∷ xs) rest len filled all =
      let sizes = length-append (spell.expr x) (flat_map (behind_comma spell.expr) xs) in
      let us : List Symbol = flat_map (behind_comma spell.expr) xs ++ s.Mark m.EndBrace ∷ rest in
      ap (λ z. and_then (f 0 z) (λ y. brace_end f p y (bare y))) (append_assoc (spell.expr x) (flat_map (behind_comma spell.expr) xs) (s.Mark m.EndBrace ∷ rest))
      ∙ ap (λ z. and_then z (λ y. brace_end f p y (bare y))) (part_again x us all.0 (omega arith) (concat_stops xs rest))
      ∙ brace_end_joined f p x (bare x) us (no_brace xs rest)
      ∙ joined_again p x xs rest (omega arith) all.1

  prefixed_again : (p : ℕ) (o : UnaryOp) (x : Expr) (rest : List Symbol) → length (spell.expr x) ≤ n → Groups x → 11 ≤ tightness x → Stops 11 rest → prefixed f p o (spell.expr x ++ rest) ≡ Ok (e.Unary o p x, rest)
  unfolding prefixed
  prefixed_again p o x rest len gr ti st = let h = again 11 x rest len gr ti st in rw h

  select_whole : (t high low : Leaf) (rest : List Symbol) → 1 ≤ n → named f t (s.Mark m.Bracket ∷ s.Number high ∷ s.Mark m.Colon ∷ s.Number low ∷ s.Mark m.EndBracket ∷ rest) ≡ Ok (e.Select t high low, rest)
  unfolding same
  select_whole t high low rest one =
      let us : List Symbol = s.Mark m.Colon ∷ s.Number low ∷ s.Mark m.EndBracket ∷ rest in
      named_bracket f t (s.Number high ∷ us)
      ∙ ap (λ z. and_then z (λ x. bracket_end t x (bare x))) (number_again high us one (colon_stops 0 (s.Number low ∷ s.Mark m.EndBracket ∷ rest)))
      ∙ select_again t high low rest

  index_whole : (t : Leaf) (x : Expr) (rest : List Symbol) → length (spell.expr x) ≤ n → Groups x → named f t (s.Mark m.Bracket ∷ (spell.expr x ++ s.Mark m.EndBracket ∷ rest)) ≡ Ok (e.Index t x, rest)
  index_whole t x rest len gr =
      named_bracket f t (spell.expr x ++ s.Mark m.EndBracket ∷ rest)
      ∙ ap (λ z. and_then z (λ x. bracket_end t x (bare x))) (part_again x (s.Mark m.EndBracket ∷ rest) gr len (bracket_closer 0 rest))
      ∙ bracket_again t x rest (bare x)

  primary_again : (x : Expr) → Form x → (rest : List Symbol) → length (spell.expr x) ≤ suc n → Groups x → 11 ≤ tightness x → Stops 11 rest → primary f (spell.expr x ++ rest) ≡ Ok (x, rest)
  unfolding primary
  primary_again _ (shape.literal (l.Number t)) rest len gr ti st = refl
  primary_again _ (shape.literal (l.Sized t)) rest len gr ti st = refl
  primary_again _ (shape.name t) rest len gr ti st = named_plain f t rest st.apart st.plain
  primary_again _ (shape.select t h k) rest len gr ti st = select_whole t h k rest (omega arith)
  primary_again _ (shape.index t x) rest len gr ti st =
      let is = shape.expr-Index t x in
      ap (λ z. primary f (z ++ rest)) is ∙ ap (λ z. named f t (s.Mark m.Bracket ∷ z)) (append_assoc (spell.expr x) (s.Mark m.EndBracket ∷ []) rest)
      ∙ index_whole t x rest (omega (arith, ap length is, length-append (spell.expr x) (s.Mark m.EndBracket ∷ []))) (shape.parts-Index t x gr)
  primary_again _ (shape.call t p xs) rest len gr ti st =
      let is = shape.expr-Call t p xs in
      ap (λ z. primary f (z ++ rest)) is ∙ ap (λ z. named f t (s.Paren p ∷ z)) (append_assoc (commas spell.expr xs) (s.Mark m.EndParen ∷ []) rest)
      ∙ call_again t p xs rest (omega (arith, ap length is, length-append (commas spell.expr xs) (s.Mark m.EndParen ∷ []))) (shape.parts-Call t p xs gr)
  primary_again _ (shape.tie w p xs) rest len gr ti st =
      let is = shape.expr-Tie w p xs in
      let parts = shape.parts-Tie w p xs gr in
      ap (λ z. primary f (z ++ rest)) is ∙ ap (λ z. tie f w (s.Paren p ∷ z)) (append_assoc (commas spell.expr xs) (s.Mark m.EndParen ∷ []) rest)
      ∙ tie_again w p xs rest (omega (arith, ap length is, length-append (commas spell.expr xs) (s.Mark m.EndParen ∷ []))) parts.0 parts.1
  primary_again _ (shape.paren p x) rest len gr ti st =
      let is = shape.expr-Paren p x in
      ap (λ z. primary f (z ++ rest)) is ∙ ap (grouped f p) (append_assoc (spell.expr x) (s.Mark m.EndParen ∷ []) rest)
      ∙ grouped_again p x rest (omega (arith, ap length is, length-append (spell.expr x) (s.Mark m.EndParen ∷ []))) (shape.parts-Paren p x gr)
  primary_again _ (shape.concat p xs) rest len gr ti st =
      let is = shape.expr-Concat p xs in
      let parts = shape.parts-Concat p xs gr in
      ap (λ z. primary f (z ++ rest)) is ∙ ap (braced f p) (append_assoc (commas spell.expr xs) (s.Mark m.EndBrace ∷ []) rest)
      ∙ braced_concat p xs rest (omega (arith, ap length is, length-append (commas spell.expr xs) (s.Mark m.EndBrace ∷ []))) parts.0 parts.1
  primary_again _ (shape.repeat p t q x) rest len gr ti st =
      let is = shape.expr-Repeat p t q x in
      let sizes = length-append (spell.expr x) (s.Mark m.EndBrace ∷ s.Mark m.EndBrace ∷ []) in
      ap (λ z. primary f (z ++ rest)) is ∙ ap (λ z. braced f p (s.Number t ∷ s.Brace q ∷ z)) (append_assoc (spell.expr x) (s.Mark m.EndBrace ∷ s.Mark m.EndBrace ∷ []) rest)
      ∙ braced_repeat p t q x rest (omega (arith, ap length is)) (omega (arith, ap length is)) (shape.parts-Repeat p t q x gr)
  primary_again _ (shape.unary o p x) rest len gr ti st =
      let is = shape.expr-Unary o p x in
      let parts = shape.parts-Unary o p x gr in
      ap (λ z. primary f (z ++ rest)) is ∙ primary_unary f o p (spell.expr x ++ rest) ∙ prefixed_again p o x rest (omega (arith, ap length is)) parts.1 parts.0 st
  primary_again _ (shape.binary o a b) rest len gr ti st = absurd (omega (arith, small_level o.op))
  primary_again _ (shape.conditional c a b) rest len gr ti st = absurd (omega arith)

tight_true : (a b : ℕ) → a ≤ b → nat_le a b ≡ true
tight_true a b h = search (rules, tests)

tight_false : (a b : ℕ) → b < a → nat_le a b ≡ false
tight_false a b h = search (rules, tests)

-- a condition is followed by its arms, all else by nothing
then_then : {A B C : Type 0} (r : Read A) (h : A → Parser B) (k : B → Parser C) → and_then r (λ a us. and_then (h a us) k) ≡ and_then (and_then r h) k
then_then (Ok v) h k = refl
then_then (Err n) h k = refl

arms_question : (f : ℕ → Parser Expr) (c : Expr) (us : List Symbol) → arms f c (s.Mark m.Question ∷ us) ≡ and_then (f 0 us) (λ a vs. and_then (expect m.Colon vs) (λ _ ws. and_then (f 0 ws) (λ b. pure (e.Conditional c a b))))
unfolding arms same
arms_question f c us = refl

colon : (rest : List Symbol) → expect m.Colon (s.Mark m.Colon ∷ rest) ≡ Ok (tt, rest)
unfolding same
colon rest = refl

asks_question : (us : List Symbol) → asks 0 (first (s.Mark m.Question ∷ us)) ≡ true
unfolding same
asks_question us = refl

module _ (f : ℕ → Parser Expr) (n : ℕ) (again : Again f n) where
  -- a primary, and operators that bind at least so tightly
  abbrev climbing : ℕ → List Symbol → Read Expr
  climbing least ts = and_then (primary f ts) (climbed f least)

  alone : (least : ℕ) (x : Expr) (rest : List Symbol) (y : Read Expr) → length (spell.expr x) ≤ suc n → Groups x → 11 ≤ tightness x → Stops (tightness x + 1) rest
      → ((k : ℕ) → length rest < k → climb f least k x rest ≡ y) → climbing least (spell.expr x ++ rest) ≡ y
  unfolding climbed
  alone least x rest y len gr ti st goes =
      ap (λ z. and_then z (climbed f least)) (primary_again f n again x (form x) rest len gr ti (record { loose = λ o h. small_level o.op; apart = st.apart; plain = st.plain; done = asks_no 11 (first rest) (omega arith) }))
      ∙ goes (length rest + 1) (omega arith)

  -- reading an expression comes to the turn that has read it
  spine : (k : ℕ) (least : ℕ) (x : Expr) → Form x → (rest : List Symbol) (y : Read Expr) → length (spell.expr x) ≤ k → length (spell.expr x) ≤ suc n → Groups x → 1 ≤ least → least ≤ tightness x → Stops (tightness x + 1) rest
      → ((j : ℕ) → length rest < j → climb f least j x rest ≡ y) → climbing least (spell.expr x ++ rest) ≡ y
  spine zero least x form rest y short len gr one ti st goes = absurd (omega (arith, some_symbol x))
  spine (suc k) least _ (shape.literal t) rest y short len gr one ti st goes = alone least (e.Literal t) rest y len gr (omega arith) st goes
  spine (suc k) least _ (shape.name t) rest y short len gr one ti st goes = alone least (e.Name t) rest y len gr (omega arith) st goes
  spine (suc k) least _ (shape.select t h l) rest y short len gr one ti st goes = alone least (e.Select t h l) rest y len gr (omega arith) st goes
  spine (suc k) least _ (shape.index t x) rest y short len gr one ti st goes = alone least (e.Index t x) rest y len gr (omega arith) st goes
  spine (suc k) least _ (shape.call t p xs) rest y short len gr one ti st goes = alone least (e.Call t p xs) rest y len gr (omega arith) st goes
  spine (suc k) least _ (shape.tie w p xs) rest y short len gr one ti st goes = alone least (e.Tie w p xs) rest y len gr (omega arith) st goes
  spine (suc k) least _ (shape.paren p x) rest y short len gr one ti st goes = alone least (e.Paren p x) rest y len gr (omega arith) st goes
  spine (suc k) least _ (shape.concat p xs) rest y short len gr one ti st goes = alone least (e.Concat p xs) rest y len gr (omega arith) st goes
  spine (suc k) least _ (shape.repeat p t q x) rest y short len gr one ti st goes = alone least (e.Repeat p t q x) rest y len gr (omega arith) st goes
  spine (suc k) least _ (shape.unary o p x) rest y short len gr one ti st goes = alone least (e.Unary o p x) rest y len gr (omega arith) st goes
  spine (suc k) least _ (shape.binary o a b) rest y short len gr one ti st goes =
      let is = shape.expr-Binary o a b in
      let parts = shape.parts-Binary o a b gr in
      let sizes = length-append (spell.expr a) (symbol_of o ∷ spell.expr b) in
      ap (λ z. climbing least (z ++ rest)) is
      ∙ ap (climbing least) (append_assoc (spell.expr a) (symbol_of o ∷ spell.expr b) rest)
      ∙ spine k least a (form a) (symbol_of o ∷ (spell.expr b ++ rest)) y (omega (arith, ap length is)) (omega (arith, ap length is)) parts.2 one (omega (arith, parts.0)) (operator_stops o (tightness a) (spell.expr b ++ rest) parts.0)
      (λ j lj.
      climb_is f least j a (symbol_of o ∷ (spell.expr b ++ rest)) lj
      ∙ turn_some f (climb f least (j - 1)) least a o (symbol_of o) (spell.expr b ++ rest) (operator_back o) (tight_true least (level o.op) ti)
      ∙ ap (λ z. and_then z (λ right. climb f least (j - 1) (e.Binary o a right)))
      (again (level o.op + 1) b rest (omega (arith, ap length is)) parts.3 (omega (arith, parts.1)) (record { loose = st.loose; apart = st.apart; plain = st.plain; done = asks_no (level o.op + 1) (first rest) (omega arith) }))
      ∙ goes (j - 1) (omega (arith, length-append (spell.expr b) rest)))
  spine (suc k) least _ (shape.conditional c a b) rest y short len gr one ti st goes = absurd (omega arith)

  -- an expression whose operators bind so tightly is read before what stops it
  climbs : (least : ℕ) (x : Expr) (rest : List Symbol) → length (spell.expr x) ≤ suc n → Groups x → 1 ≤ least → least ≤ tightness x → Loose least rest → sees m.Bracket rest ≡ false → sees_paren (first rest) ≡ false
      → climbing least (spell.expr x ++ rest) ≡ Ok (x, rest)
  climbs least x rest len gr one ti loose apart plain =
      spine (length (spell.expr x)) least x (form x) rest (Ok (x, rest)) (omega arith) len gr one ti
      (record { loose = λ o h. omega (arith, loose o h); apart = apart; plain = plain; done = asks_no (tightness x + 1) (first rest) (omega arith) })
      (λ j lj. climb_is f least j x rest lj ∙ turn_stop f (climb f least (j - 1)) least x (operator rest) rest (λ o h. tight_false least (level o.op) (loose o h)))

  chosen_plain : (least : ℕ) (x : Expr) (rest : List Symbol) → asks least (first rest) ≡ false → chosen f least x rest ≡ Ok (x, rest)
  unfolding chosen
  chosen_plain least x rest h = ap (λ c. if c then arms f x rest else Ok (x, rest)) h

  chosen_arms : (c a b : Expr) (rest : List Symbol) → length (spell.expr a) ≤ n → length (spell.expr b) ≤ n → Groups a → Groups b → Stops 0 rest
      → chosen f 0 c (s.Mark m.Question ∷ (spell.expr a ++ s.Mark m.Colon ∷ (spell.expr b ++ rest))) ≡ Ok (e.Conditional c a b, rest)
  unfolding chosen
  chosen_arms c a b rest la lb ga gb st =
      let us : List Symbol = spell.expr b ++ rest in
      let ts : List Symbol = spell.expr a ++ s.Mark m.Colon ∷ us in
      ap (λ t. if t then arms f c (s.Mark m.Question ∷ ts) else Ok (c, s.Mark m.Question ∷ ts)) (asks_question ts)
      ∙ arms_question f c ts
      ∙ ap (λ z. and_then z (λ a vs. and_then (expect m.Colon vs) (λ _ ws. and_then (f 0 ws) (λ b. pure (e.Conditional c a b))))) (part_again f n again a (s.Mark m.Colon ∷ us) ga la (colon_stops 0 us))
      ∙ ap (λ z. and_then z (λ _ ws. and_then (f 0 ws) (λ b. pure (e.Conditional c a b)))) (colon us)
      ∙ ap (λ z. and_then z (λ b. pure (e.Conditional c a b))) (part_again f n again b rest gb lb st)

  level_is : (least : ℕ) (ts : List Symbol) → level_from f least ts ≡ and_then (climbing (max 1 least) ts) (chosen f least)
  unfolding level_from
  level_is least ts = then_then (primary f ts) (climbed f (max 1 least)) (chosen f least)

  level_plain : (least : ℕ) (x : Expr) (rest : List Symbol) → length (spell.expr x) ≤ suc n → Groups x → max 1 least ≤ tightness x → Stops least rest → level_from f least (spell.expr x ++ rest) ≡ Ok (x, rest)
  level_plain least x rest len gr ti st =
      level_is least (spell.expr x ++ rest)
      ∙ ap (λ z. and_then z (chosen f least)) (climbs (max 1 least) x rest len gr (omega arith) ti (λ o h. omega (arith, st.loose o h)) st.apart st.plain)
      ∙ chosen_plain least x rest st.done

  level_conditional : (c a b : Expr) (rest : List Symbol) → length (spell.expr (e.Conditional c a b)) ≤ suc n → Groups (e.Conditional c a b) → Stops 0 rest → level_from f 0 (spell.expr (e.Conditional c a b) ++ rest) ≡ Ok (e.Conditional c a b, rest)
  level_conditional c a b rest len gr st =
      let is = shape.expr-Conditional c a b in
      let parts = shape.parts-Conditional c a b gr in
      let inside : List Symbol = spell.expr a ++ s.Mark m.Colon ∷ spell.expr b in
      let us : List Symbol = s.Mark m.Question ∷ (spell.expr a ++ s.Mark m.Colon ∷ (spell.expr b ++ rest)) in
      let sizes = length-append (spell.expr c) (s.Mark m.Question ∷ inside) in
      let inner_sizes = length-append (spell.expr a) (s.Mark m.Colon ∷ spell.expr b) in
      ap (λ z. level_from f 0 (z ++ rest)) is
      ∙ ap (level_from f 0) (append_assoc (spell.expr c) (s.Mark m.Question ∷ inside) rest)
      ∙ ap (λ z. level_from f 0 (spell.expr c ++ s.Mark m.Question ∷ z)) (append_assoc (spell.expr a) (s.Mark m.Colon ∷ spell.expr b) rest)
      ∙ level_is 0 (spell.expr c ++ us)
      ∙ ap (λ z. and_then z (chosen f 0)) (climbs 1 c us (omega (arith, ap length is)) parts.1 (omega arith) parts.0 (question_stops 1 (spell.expr a ++ s.Mark m.Colon ∷ (spell.expr b ++ rest)) (omega arith)).loose
      (question_stops 1 (spell.expr a ++ s.Mark m.Colon ∷ (spell.expr b ++ rest)) (omega arith)).apart refl)
      ∙ chosen_arms c a b rest (omega (arith, ap length is)) (omega (arith, ap length is)) parts.2 parts.3 st

  level_again : (least : ℕ) (x : Expr) → Form x → (rest : List Symbol) → length (spell.expr x) ≤ suc n → Groups x → least ≤ tightness x → Stops least rest → level_from f least (spell.expr x ++ rest) ≡ Ok (x, rest)
  level_again least _ (shape.literal t) rest len gr ti st = level_plain least (e.Literal t) rest len gr (omega arith) st
  level_again least _ (shape.name t) rest len gr ti st = level_plain least (e.Name t) rest len gr (omega arith) st
  level_again least _ (shape.select t h l) rest len gr ti st = level_plain least (e.Select t h l) rest len gr (omega arith) st
  level_again least _ (shape.index t x) rest len gr ti st = level_plain least (e.Index t x) rest len gr (omega arith) st
  level_again least _ (shape.call t p xs) rest len gr ti st = level_plain least (e.Call t p xs) rest len gr (omega arith) st
  level_again least _ (shape.tie w p xs) rest len gr ti st = level_plain least (e.Tie w p xs) rest len gr (omega arith) st
  level_again least _ (shape.paren p x) rest len gr ti st = level_plain least (e.Paren p x) rest len gr (omega arith) st
  level_again least _ (shape.concat p xs) rest len gr ti st = level_plain least (e.Concat p xs) rest len gr (omega arith) st
  level_again least _ (shape.repeat p t q x) rest len gr ti st = level_plain least (e.Repeat p t q x) rest len gr (omega arith) st
  level_again least _ (shape.unary o p x) rest len gr ti st = level_plain least (e.Unary o p x) rest len gr (omega arith) st
  level_again least _ (shape.binary o a b) rest len gr ti st = level_plain least (e.Binary o a b) rest len gr (omega (arith, least_level o.op)) st
  level_again least _ (shape.conditional c a b) rest len gr ti st =
      let none : least ≡ 0 = omega arith in
      subst (λ k. level_from f k (spell.expr (e.Conditional c a b) ++ rest) ≡ Ok (e.Conditional c a b, rest)) (sym none) (level_conditional c a b rest len gr (subst (λ k. Stops k rest) none st))

-- an expression is read again, whatever stands behind it that does not belong to it
pub expr_again : (d : ℕ) → Again (expr d) d
unfolding expr
expr_again zero least x rest len gr ti st = absurd (omega (arith, some_symbol x))
expr_again (suc d) least x rest len gr ti st = level_again (expr d) d (expr_again d) least x (form x) rest len gr ti st
