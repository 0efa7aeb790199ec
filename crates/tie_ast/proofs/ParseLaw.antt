-- The answers of the parser.
use Rattle.std.proofs.Common.{◌≡◌, ℕ, zero, suc, ◌+◌, ◌-◌, ◌<◌, ◌≤◌, ◌⊎◌, inl, inr, Bool, true, false, List, length, take, get_or, slice_get, Option, Some, None, Ok, Err, refl, sym, ap, subst, ◌∙◌, arith}
use Rattle.std.proofs.lemmas.Bool.{cases_lt}
use Rattle.std.proofs.lemmas.Option.{slice_get-get_or}
use Rattle.tie_lexer.specs.declared.Token.{Token}
use Rattle.tie_grammar.specs.declared.symbol.Mark.TheVariants as m
use Rattle.tie_grammar.specs.declared.symbol.Symbol.{Symbol}
use Rattle.tie_grammar.specs.declared.symbol.Symbol.TheVariants as s
use Rattle.tie_grammar.specs.declared.tree.Tree.{Tree}
use Rattle.tie_grammar.specs.Grammar.{IsTree, IsBeyond, IsFault}
use Rattle.tie_grammar.specs.Reading.{Read, is_mark}
use Rattle.tie_grammar.specs.Decls.{text}
use Rattle.tie_grammar.proofs.Faults as law
use Rattle.tie_ast.proofs.Scan.{IsScanned, at_start, at_semicolon, at_inside, at_equals, at_outside, at_beyond}
use Rattle.tie_ast.specs.Symbols.{symbols, place_at}
use Rattle.tie_ast.specs.Parsing.{IsTreeOf, IsFaultOf}

-- what the scan for the limit tells
pub record IsAllowed (ts : List Symbol) (n : ℕ) : Type 0 where
  pub within : n ≤ length ts
  pub before : (k : ℕ) → k < n → IsBeyond ts k → ⊥
  pub there : n < length ts → IsBeyond ts n

-- the symbols of the tokens, and those among them that were read
module _ (bytes : List ℕ) (tokens : List Token) (ts read : List Symbol) (n : ℕ) (is : ts ≡ symbols bytes tokens) (front : read ≡ take n ts) (a : IsAllowed ts n) where
  as_read : (r : Read Tree) → text n read ≡ r → text n (take n ts) ≡ r
  as_read r h = ap (text n) (sym front) ∙ h

  pub tree_is : (tree : Tree) (rest : List Symbol) → n ≡ length ts → text n read ≡ Ok (tree, rest) → IsTreeOf bytes tokens tree
  tree_is tree rest all h = record {
    tree_is = subst (λ z. IsTree z tree) is (law.whole_tree ts n a.within a.before a.there tree rest all (as_read _ h));
    allowed = subst (λ z. (k : ℕ) → IsBeyond z k → ⊥) is (law.whole_allowed ts n a.within a.before a.there all);
  }

  pub cut_is : (tree : Tree) (rest : List Symbol) (place : ℕ) → n < length ts → text n read ≡ Ok (tree, rest) → place ≡ place_at bytes tokens n → IsFaultOf bytes tokens place
  cut_is tree rest place lt h at = record {
    at = n;
    fault = subst (λ z. IsFault z n) is (law.cut_fault ts n a.within a.before a.there tree rest lt (as_read _ h));
    place_is = at;
  }

  pub fault_is : (left place : ℕ) → text n read ≡ Err left → place ≡ place_at bytes tokens (n - left) → IsFaultOf bytes tokens place
  fault_is left place h at = record {
    at = n - left;
    fault = subst (λ z. IsFault z (n - left)) is (law.stuck_fault ts n a.within a.before a.there left (as_read _ h));
    place_is = at;
  }

  pub left_le : (left : ℕ) → text n read ≡ Err left → left ≤ n
  left_le left h = law.stuck_left ts n a.within a.before a.there left (as_read _ h)

pub one_tree : (bytes : List ℕ) (tokens : List Token) (a b : Tree) → IsTreeOf bytes tokens a → IsTreeOf bytes tokens b → a ≡ b
one_tree bytes tokens a b p q = law.one_tree (symbols bytes tokens) a b p.tree_is q.tree_is

pub one_fault : (bytes : List ℕ) (tokens : List Token) (p q : ℕ) → IsFaultOf bytes tokens p → IsFaultOf bytes tokens q → p ≡ q
one_fault bytes tokens p q f g = f.place_is ∙ ap (place_at bytes tokens) (law.one_fault (symbols bytes tokens) f.at g.at f.fault g.fault) ∙ sym g.place_is

pub not_both : (bytes : List ℕ) (tokens : List Token) (tree : Tree) (p : ℕ) → IsTreeOf bytes tokens tree → IsFaultOf bytes tokens p → ⊥
not_both bytes tokens tree p t f = law.not_both (symbols bytes tokens) tree f.at t.tree_is t.allowed f.fault

-- ---- every text has an answer

-- the scan up to a place, or the first symbol that is beyond the limit
abbrev Seen : List Symbol → ℕ → Type 0
Seen ts at = ((o : Option ℕ) × IsScanned ts at o) ⊎ ((n : ℕ) × IsAllowed ts n)

see_more : (ts : List Symbol) (at : ℕ) (x : Symbol) → at < length ts → slice_get ts at ≡ Some x → (o : Option ℕ) → IsScanned ts at o → Seen ts (at + 1)
see_more ts at x lt is o h = by_semicolon (is_mark m.Semicolon x) refl
  where
    by_equals : (b : Bool) → is_mark m.Equals x ≡ b → IsScanned ts at None → Seen ts (at + 1)
    by_equals true t h = inl (Some at, at_equals ts at x is t h)
    by_equals false t h = inl (None, at_outside ts at x is t h)

    inside : (start : ℕ) → is_mark m.Semicolon x ≡ false → IsScanned ts at (Some start) → Seen ts (at + 1)
    inside start t h = elim (cases_lt 1024 (at - start)) [
      | inl far ↦ inr (at, record { within = omega arith; before = h.before; there = λ _. at_beyond ts at start x is lt t far h })
      | inr near ↦ inl (Some start, at_inside ts at start x is t near h)
    ]

    by_opened : (o : Option ℕ) → is_mark m.Semicolon x ≡ false → IsScanned ts at o → Seen ts (at + 1)
    by_opened None t h = by_equals (is_mark m.Equals x) refl h
    by_opened (Some start) t h = inside start t h

    by_semicolon : (b : Bool) → is_mark m.Semicolon x ≡ b → Seen ts (at + 1)
    by_semicolon true t = inl (None, at_semicolon ts at o x is t h)
    by_semicolon false t = by_opened o t h

seen : (ts : List Symbol) (at : ℕ) → at ≤ length ts → Seen ts at
seen ts zero le = inl (None, at_start ts)
seen ts (suc at) le = next (seen ts at (omega arith))
  where
    next : Seen ts at → Seen ts (suc at)
    next (inr a) = inr a
    next (inl h) = let one : at + 1 ≡ suc at = omega arith in
        subst (Seen ts) one (see_more ts at (get_or ts at (s.Mark m.Comma)) (omega arith) (slice_get-get_or ts at (s.Mark m.Comma) (omega arith)) h.0 h.1)

some_allowed : (ts : List Symbol) → (n : ℕ) × IsAllowed ts n
some_allowed ts = whole (seen ts (length ts) (omega arith))
  where
    whole : Seen ts (length ts) → (n : ℕ) × IsAllowed ts n
    whole (inr a) = a
    whole (inl h) = (length ts, record { within = omega arith; before = h.1.before; there = λ lt. absurd (omega arith) })

pub tree_or_fault : (bytes : List ℕ) (tokens : List Token) → ((tree : Tree) × IsTreeOf bytes tokens tree) ⊎ ((p : ℕ) × IsFaultOf bytes tokens p)
tree_or_fault bytes tokens = by_read (text n (take n ts)) refl
  where
    ts : List Symbol
    ts = symbols bytes tokens

    n : ℕ
    n = (some_allowed (symbols bytes tokens)).0

    by_read : (r : Read Tree) → text n (take n ts) ≡ r → ((tree : Tree) × IsTreeOf bytes tokens tree) ⊎ ((p : ℕ) × IsFaultOf bytes tokens p)
    by_read (Err left) e = inr (place_at bytes tokens (n - left), fault_is bytes tokens ts (take n ts) n refl refl (some_allowed ts).1 left (place_at bytes tokens (n - left)) e refl)
    by_read (Ok v) e = elim (cases_lt n (length ts)) [
      | inl lt ↦ inr (place_at bytes tokens n, cut_is bytes tokens ts (take n ts) n refl refl (some_allowed ts).1 v.0 v.1 (place_at bytes tokens n) lt e refl)
      | inr ge ↦ (let a = (some_allowed ts).1 in inl (v.0, tree_is bytes tokens ts (take n ts) n refl refl a v.0 v.1 (omega (arith, a.within)) e))
    ]
