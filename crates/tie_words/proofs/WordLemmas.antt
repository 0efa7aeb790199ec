-- The words read one by one, against the lists that are accepted.
use Rattle.std.proofs.Common.{◌≡◌, ◌≢◌, ◌⊎◌, ℕ, zero, suc, ◌+◌, ◌-◌, ◌<◌, ◌≤◌, Bool, true, false, cond, ◌||◌, codes, List, [], ◌∷◌, ◌++◌, length, take, drop, Option, Some, None, refl, sym, ap, subst, inl, inr, ◌∙◌, arith, length-append, map, String, string_bytes}
use Rattle.std.specs.Prelude.{nat_lt, ◌==◌, ◌&&◌}
use Rattle.std.proofs.lemmas.List.{append_assoc, append-nil}
use Rattle.std.proofs.lemmas.Grind.{common_steps}
use Rattle.std.proofs.Math.Seq.{take-add, take-append-add}
use Rattle.tie_words.specs.Words.{Meant, Check, Asm, Dis, Exec, ExecTie, Ref, Strict, AreNames, spelled, Accepts, Begins, WrongAt}
use Rattle.tie_words.specs.Reading.{wrong_from}

-- ---- what is one

-- the first word of some
abbrev first : List (List ℕ) → List ℕ
first [] = []
first (word ∷ words) = word

-- a test of two words for the same bytes that computes
abbrev alike : List ℕ → List ℕ → Bool
alike [] [] = true
alike (a ∷ as') (b ∷ bs) = a == b && alike as' bs
alike _ _ = false

no_bit : false ≡ true → ⊥
no_bit e = absurd cc

-- equal words have equal bytes
same_bytes : (a b : List ℕ) → a ≡ b → alike a a ≡ true → alike a b ≡ true
same_bytes a b e h = ap (λ z. alike a z) (sym e) ∙ h

-- a list has one command
same_spelled : (c d : Meant) → spelled c ≡ spelled d → c ≡ d
same_spelled (Check a) (Check b) e = let p : a ≡ b = cc in ap Check p
same_spelled (Asm a x) (Asm b y) e = let p : a ≡ b = cc in let q : x ≡ y = cc in ap (λ z. Asm z x) p ∙ ap (λ z. Asm b z) q
same_spelled (Dis a x) (Dis b y) e = let p : a ≡ b = cc in let q : x ≡ y = cc in ap (λ z. Dis z x) p ∙ ap (λ z. Dis b z) q
same_spelled (Exec a) (Exec b) e = let p : a ≡ b = cc in ap Exec p
same_spelled (ExecTie a x) (ExecTie b y) e = let p : a ≡ b = cc in let q : x ≡ y = cc in ap (λ z. ExecTie z x) p ∙ ap (λ z. ExecTie b z) q
same_spelled (Ref a) (Ref b) e = let p : a ≡ b = cc in ap Ref p
same_spelled (Strict a) (Strict b) e = let p : a ≡ b = cc in ap Strict p
same_spelled (Exec a) (ExecTie b y) e = let p : [] ≡ y ∷ [] = cc in absurd cc
same_spelled (ExecTie b y) (Exec a) e = let p : [] ≡ y ∷ [] = cc in absurd cc
same_spelled c d e = absurd (no_bit (same_bytes (first (spelled c)) (first (spelled d)) (ap first e) refl))

pub one_command : (words : List (List ℕ)) (c d : Meant) → Accepts words c → Accepts words d → c ≡ d
one_command words c d p q = same_spelled c d (sym p.spells ∙ q.spells)

-- a front of words that begin an accepted list begins it
begins_front : (n k : ℕ) (words : List (List ℕ)) → Begins (take (n + k) words) → Begins (take n words)
begins_front n k words (rest, command, a) = (
  take k (drop n words) ++ rest,
  command,
  subst (λ list. Accepts list command) (ap (λ z. z ++ rest) (take-add n k words) ∙ append_assoc (take n words) (take k (drop n words)) rest) a,
)

below : (words : List (List ℕ)) (p q : ℕ) → WrongAt words p → WrongAt words q → p < q → ⊥
below words p q a b h =
    let e : p + 1 + (q - (p + 1)) ≡ q = omega arith in
    let within : p < length words = omega (arith, b.within) in
    a.wrong within (begins_front (p + 1) (q - (p + 1)) words (rw e b.begins))

-- the wrong place is one
pub one_place : (words : List (List ℕ)) (p q : ℕ) → WrongAt words p → WrongAt words q → p ≡ q
one_place words p q a b =
    let no_less : ¬ (p < q) = below words p q a b in
    let no_more : ¬ (q < p) = below words q p b a in
    omega arith

-- ---- names

names_append : (a b : List (List ℕ)) → AreNames a → AreNames b → AreNames (a ++ b)
names_append [] b h k = k
names_append (x ∷ xs) b h k = (h.0, names_append xs b h.1 k)

names_behind : (a b : List (List ℕ)) → AreNames (a ++ b) → AreNames b
names_behind [] b h = h
names_behind (x ∷ xs) b h = names_behind xs b h.1

some_names : (n : ℕ) → (names : List (List ℕ)) × AreNames names × (length names ≡ n)
some_names zero = ([], tt, refl)
some_names (suc n) =
    let more = some_names n in
    ((1 ∷ []) ∷ more.0, ((λ e. absurd cc), more.1), grind (arith, more.2))

take_front : (a b : List (List ℕ)) → take (length a) (a ++ b) ≡ a
take_front a b = grind (arith, common_steps)

-- ---- the names behind a command's word

-- the names behind a word are so many
pub record AreBehind (least most : ℕ) (names : List (List ℕ)) : Type 0 where
  pub named : AreNames names
  pub enough : least ≤ length names
  pub few : length names ≤ most

-- this word is accepted with so many names behind it, and not otherwise
pub record IsForm (word : List ℕ) (least most : ℕ) : Type 0 where
  pub order : least ≤ most
  pub makes : (names : List (List ℕ)) → AreBehind least most names → (command : Meant) × Accepts (word ∷ names) command
  pub only : (names : List (List ℕ)) (command : Meant) → Accepts (word ∷ names) command → AreBehind least most names

-- a front of such names begins an accepted list
begins_names : (word : List ℕ) (least most : ℕ) → IsForm word least most → (front : List (List ℕ)) → AreNames front → length front ≤ most → Begins (word ∷ front)
begins_names word least most form front named few =
    let more = some_names (least - length front) in
    let behind : AreBehind least most (front ++ more.0) = record {
      named = names_append front more.0 named more.1;
      enough = omega (arith, length-append front more.0, more.2);
      few = omega (arith, length-append front more.0, more.2, form.order);
    } in
    let made = form.makes (front ++ more.0) behind in
    (more.0, made.0, made.1)

-- no list goes on with a name that is empty or one too many
blocked : (word : List ℕ) (least most : ℕ) → IsForm word least most → (front : List (List ℕ)) (x : List ℕ) (rest : List (List ℕ))
    → (x ≡ []) ⊎ (length front ≡ most) → (command : Meant) → ¬ Accepts (word ∷ (front ++ x ∷ rest)) command
blocked word least most form front x rest (inl e) command a =
    let behind = form.only (front ++ x ∷ rest) command a in
    (names_behind front (x ∷ rest) behind.named).0 e
blocked word least most form front x rest (inr e) command a =
    let behind = form.only (front ++ x ∷ rest) command a in
    let more : length (front ++ x ∷ rest) ≡ length front + length (x ∷ rest) = length-append front (x ∷ rest) in
    let some : length (x ∷ rest) ≡ length rest + 1 = grind arith in
    absurd (omega (arith, behind.few))

wrong_name : (word : List ℕ) (least most : ℕ) → IsForm word least most → (front : List (List ℕ)) (x : List ℕ) (rest : List (List ℕ))
    → AreNames front → length front ≤ most → (x ≡ []) ⊎ (length front ≡ most) → WrongAt (word ∷ (front ++ x ∷ rest)) (1 + length front)
wrong_name word least most form front x rest named few why = record {
  refused = blocked word least most form front x rest why;
  within = grind (arith, common_steps);
  begins = subst Begins (sym up_to) (begins_names word least most form front named few);
  wrong = λ h b. none (subst Begins one_more b);
}
  where
    up_to : take (1 + length front) (word ∷ (front ++ x ∷ rest)) ≡ word ∷ front
    up_to = grind (arith, common_steps)

    one_more : take (1 + length front + 1) (word ∷ (front ++ x ∷ rest)) ≡ word ∷ (front ++ x ∷ [])
    one_more = let e : 1 + length front + 1 ≡ length (word ∷ front) + 1 = grind arith in rw e (take-append-add (word ∷ front) (x ∷ rest) 1)

    none : ¬ Begins (word ∷ (front ++ x ∷ []))
    none (more, command, a) =
        blocked word least most form front x more why command (subst (λ names. Accepts (word ∷ names) command) (append_assoc front (x ∷ []) more) a)

missing_name : (word : List ℕ) (least most : ℕ) → IsForm word least most → (names : List (List ℕ)) → AreNames names → length names < least
    → WrongAt (word ∷ names) (1 + length names)
missing_name word least most form names named few = record {
  refused = λ command a. let behind = form.only names command a in omega (arith, behind.enough);
  within = grind arith;
  begins = subst Begins (sym up_to) (begins_names word least most form names named (omega (arith, form.order)));
  wrong = λ h. absurd (grind arith);
}
  where
    up_to : take (1 + length names) (word ∷ names) ≡ word ∷ names
    up_to = grind (arith, common_steps)

-- names are all right, or one is wrong at its place
abbrev pub ReadsNames : List ℕ → ℕ → ℕ → List (List ℕ) → Option ℕ → Type 0
ReadsNames word least most names None = AreBehind least most names
ReadsNames word least most names (Some number) = WrongAt (word ∷ names) (1 + number)

or_true : (a b : Bool) → (a || b) ≡ true → (a ≡ true) ⊎ (b ≡ true)
or_true true b e = inl refl
or_true false b e = inr e

or_false : (a b : Bool) → (a || b) ≡ false → (a ≡ false) × (b ≡ false)
or_false true b e = absurd cc
or_false false b e = (refl, e)

no_bytes : (name : List ℕ) → (length name == 0) ≡ true → name ≡ []
no_bytes [] e = refl
no_bytes (b ∷ bs) e = absurd (grind arith)

some_bytes : (name : List ℕ) → (length name == 0) ≡ false → name ≢ []
some_bytes [] e = absurd cc
some_bytes (b ∷ bs) e = λ p. absurd cc

names_end : (word : List ℕ) (least most : ℕ) → IsForm word least most → (names : List (List ℕ)) (b : Bool) → nat_lt (length names) least ≡ b
    → AreNames names → length names ≤ most → ReadsNames word least most names (cond b (Some (length names)) None)
names_end word least most form names true e named few = missing_name word least most form names named (grind arith)
names_end word least most form names false e named few = record { named = named; enough = grind arith; few = few }

names_from : (word : List ℕ) (least most : ℕ) → IsForm word least most → (n : ℕ) (front names : List (List ℕ)) → n ≡ length front → AreNames front → n ≤ most
    → ReadsNames word least most (front ++ names) (wrong_from least most n names)
names_from word least most form n front [] e named few = at_end (front ++ []) (append-nil front)
  where
    at_end : (all : List (List ℕ)) → all ≡ front → ReadsNames word least most all (wrong_from least most n [])
    at_end all same =
        subst (λ z. ReadsNames word least most z (wrong_from least most n [])) (sym same)
        (subst (λ k. ReadsNames word least most front (cond (nat_lt k least) (Some k) None)) (sym e) (names_end word least most form front (nat_lt (length front) least) refl named (rw e at few)))
names_from word least most form n front (x ∷ xs) e named few =
    by_test (n == most || length x == 0) refl (λ p q.
    subst (λ z. ReadsNames word least most z (wrong_from least most (n + 1) xs)) (append_assoc front (x ∷ []) xs)
    (names_from word least most form (n + 1) (front ++ x ∷ []) xs (grind (arith, common_steps)) (names_append front (x ∷ []) named (some_bytes x q, tt)) (grind arith)))
  where
    why : (n == most) ≡ true ⊎ (length x == 0) ≡ true → (x ≡ []) ⊎ (length front ≡ most)
    why (inl p) = inr (grind arith)
    why (inr p) = inl (no_bytes x p)

    by_test : (b : Bool) → (n == most || length x == 0) ≡ b
        → ((n == most) ≡ false → (length x == 0) ≡ false → ReadsNames word least most (front ++ x ∷ xs) (wrong_from least most (n + 1) xs))
        → ReadsNames word least most (front ++ x ∷ xs) (cond b (Some n) (wrong_from least most (n + 1) xs))
    by_test true p go_on = subst (λ k. WrongAt (word ∷ (front ++ x ∷ xs)) (1 + k)) (sym e) (wrong_name word least most form front x xs named (rw e at few) (why (or_true _ _ p)))
    by_test false p go_on = let both = or_false _ _ p in go_on both.0 both.1

pub names_read : (word : List ℕ) (least most : ℕ) → IsForm word least most → (names : List (List ℕ)) → ReadsNames word least most names (wrong_from least most 0 names)
names_read word least most form names = names_from word least most form 0 [] names refl tt (omega arith)

-- ---- the forms of the commands

two_names : (names : List (List ℕ)) → length names ≡ 2 → (a b : List ℕ) × (names ≡ a ∷ b ∷ [])
two_names [] e = absurd cc
two_names (a ∷ []) e = absurd (grind arith)
two_names (a ∷ b ∷ []) e = (a, b, refl)
two_names (a ∷ b ∷ c ∷ rest) e = absurd (grind arith)

one_name : (names : List (List ℕ)) → length names ≡ 1 → (a : List ℕ) × (names ≡ a ∷ [])
one_name [] e = absurd cc
one_name (a ∷ []) e = (a, refl)
one_name (a ∷ b ∷ rest) e = absurd (grind arith)

-- a word that is another
other_word : (names : List (List ℕ)) (word : List ℕ) (other : Meant) → word ∷ names ≡ spelled other → alike word word ≡ true → alike word (first (spelled other)) ≡ true
other_word names word other e h = same_bytes word (first (spelled other)) (ap first e) h

pub check_form : IsForm (codes "check") 1 1
check_form = record { order = omega arith; makes = makes; only = only }
  where
    makes : (names : List (List ℕ)) → AreBehind 1 1 names → (command : Meant) × Accepts (codes "check" ∷ names) command
    makes (tie ∷ []) h = (Check tie, record { spells = refl; named = ((λ e. absurd cc), h.named) })
    makes [] h = absurd (grind (arith, h.enough))
    makes (a ∷ b ∷ rest) h = absurd (grind (arith, h.few))

    only : (names : List (List ℕ)) (command : Meant) → Accepts (codes "check" ∷ names) command → AreBehind 1 1 names
    only names (Check tie) a = let h : codes "check" ∷ names ≡ codes "check" ∷ tie ∷ [] = a.spells in let e : names ≡ tie ∷ [] = cc in record { named = a.named.1; enough = rw e (omega arith); few = rw e (omega arith) }
    only names other a = absurd (no_bit (other_word names (codes "check") other a.spells refl))

two_form : (word : List ℕ) (make : List ℕ → List ℕ → Meant) → ((a b : List ℕ) → spelled (make a b) ≡ word ∷ a ∷ b ∷ []) → word ≢ []
    → ((names : List (List ℕ)) (command : Meant) → word ∷ names ≡ spelled command → length names ≡ 2) → IsForm word 2 2
two_form word make is_spelled some only_two = record { order = omega arith; makes = makes; only = only }
  where
    makes : (names : List (List ℕ)) → AreBehind 2 2 names → (command : Meant) × Accepts (word ∷ names) command
    makes (a ∷ b ∷ []) h = (make a b, record { spells = sym (is_spelled a b); named = (some, h.named) })
    makes [] h = absurd (grind (arith, h.enough))
    makes (a ∷ []) h = absurd (grind (arith, h.enough))
    makes (a ∷ b ∷ c ∷ rest) h = absurd (grind (arith, h.few))

    only : (names : List (List ℕ)) (command : Meant) → Accepts (word ∷ names) command → AreBehind 2 2 names
    only names command a = let e = only_two names command a.spells in record { named = a.named.1; enough = omega (arith, e); few = omega (arith, e) }

pub asm_form : IsForm (codes "asm") 2 2
asm_form = two_form (codes "asm") Asm (λ a b. refl) (λ e. absurd cc) two
  where
    two : (names : List (List ℕ)) (command : Meant) → codes "asm" ∷ names ≡ spelled command → length names ≡ 2
    two names (Asm tie source) h = let e : names ≡ tie ∷ source ∷ [] = cc in rw e refl
    two names other h = absurd (no_bit (other_word names (codes "asm") other h refl))

pub dis_form : IsForm (codes "dis") 2 2
dis_form = two_form (codes "dis") Dis (λ a b. refl) (λ e. absurd cc) two
  where
    two : (names : List (List ℕ)) (command : Meant) → codes "dis" ∷ names ≡ spelled command → length names ≡ 2
    two names (Dis tie hex) h = let e : names ≡ tie ∷ hex ∷ [] = cc in rw e refl
    two names other h = absurd (no_bit (other_word names (codes "dis") other h refl))

pub exec_form : IsForm (codes "exec") 1 2
exec_form = record { order = omega arith; makes = makes; only = only }
  where
    makes : (names : List (List ℕ)) → AreBehind 1 2 names → (command : Meant) × Accepts (codes "exec" ∷ names) command
    makes (hex ∷ []) h = (Exec hex, record { spells = refl; named = ((λ e. absurd cc), h.named) })
    makes (hex ∷ tie ∷ []) h = (ExecTie hex tie, record { spells = refl; named = ((λ e. absurd cc), h.named) })
    makes [] h = absurd (grind (arith, h.enough))
    makes (a ∷ b ∷ c ∷ rest) h = absurd (grind (arith, h.few))

    only : (names : List (List ℕ)) (command : Meant) → Accepts (codes "exec" ∷ names) command → AreBehind 1 2 names
    only names (Exec hex) a = let h : codes "exec" ∷ names ≡ codes "exec" ∷ hex ∷ [] = a.spells in let e : names ≡ hex ∷ [] = cc in record { named = a.named.1; enough = rw e (omega arith); few = rw e (omega arith) }
    only names (ExecTie hex tie) a = let h : codes "exec" ∷ names ≡ codes "exec" ∷ hex ∷ tie ∷ [] = a.spells in let e : names ≡ hex ∷ tie ∷ [] = cc in record { named = a.named.1; enough = rw e (omega arith); few = rw e (omega arith) }
    only names other a = absurd (no_bit (other_word names (codes "exec") other a.spells refl))

one_form : (word : List ℕ) (make : List ℕ → Meant) → ((a : List ℕ) → spelled (make a) ≡ word ∷ a ∷ []) → word ≢ []
    → ((names : List (List ℕ)) (command : Meant) → word ∷ names ≡ spelled command → length names ≡ 1) → IsForm word 1 1
one_form word make is_spelled some only_one = record { order = omega arith; makes = makes; only = only }
  where
    makes : (names : List (List ℕ)) → AreBehind 1 1 names → (command : Meant) × Accepts (word ∷ names) command
    makes (a ∷ []) h = (make a, record { spells = sym (is_spelled a); named = (some, h.named) })
    makes [] h = absurd (grind (arith, h.enough))
    makes (a ∷ b ∷ rest) h = absurd (grind (arith, h.few))

    only : (names : List (List ℕ)) (command : Meant) → Accepts (word ∷ names) command → AreBehind 1 1 names
    only names command a = let e = only_one names command a.spells in record { named = a.named.1; enough = omega (arith, e); few = omega (arith, e) }

pub ref_form : IsForm (codes "ref") 1 1
ref_form = one_form (codes "ref") Ref (λ a. refl) (λ e. absurd cc) one
  where
    one : (names : List (List ℕ)) (command : Meant) → codes "ref" ∷ names ≡ spelled command → length names ≡ 1
    one names (Ref net) h = let e : names ≡ net ∷ [] = cc in rw e refl
    one names other h = absurd (no_bit (other_word names (codes "ref") other h refl))

pub strict_form : IsForm (codes "strict") 1 1
strict_form = one_form (codes "strict") Strict (λ a. refl) (λ e. absurd cc) one
  where
    one : (names : List (List ℕ)) (command : Meant) → codes "strict" ∷ names ≡ spelled command → length names ≡ 1
    one names (Strict net) h = let e : names ≡ net ∷ [] = cc in rw e refl
    one names other h = absurd (no_bit (other_word names (codes "strict") other h refl))

-- ---- no command

pub none_wrong : WrongAt [] 0
none_wrong = record {
  refused = λ command a. no_words command a.spells;
  within = omega arith;
  begins = (codes "check" ∷ (1 ∷ []) ∷ [], Check (1 ∷ []), record { spells = refl; named = ((λ e. absurd cc), ((λ e. absurd cc), tt)) });
  wrong = λ h. absurd (omega arith);
}
  where
    no_words : (command : Meant) → [] ≢ spelled command
    no_words (Check tie) = λ e. absurd cc
    no_words other = λ e. absurd cc

-- no list goes on with a word that is no command's
other_wrong : (word : List ℕ) (words : List (List ℕ)) → ((command : Meant) → word ≢ first (spelled command)) → WrongAt (word ∷ words) 0
other_wrong word words ne = record {
  refused = λ command a. ne command (ap first a.spells);
  within = omega arith;
  begins = none_wrong.begins;
  wrong = λ h. no_front;
}
  where
    no_front : ¬ Begins (word ∷ [])
    no_front (rest, command, a) = ne command (ap first a.spells)

pub no_command : (word : List ℕ) (words : List (List ℕ)) → word ≢ codes "check" → word ≢ codes "asm" → word ≢ codes "dis" → word ≢ codes "exec"
    → word ≢ codes "ref" → word ≢ codes "strict" → WrongAt (word ∷ words) 0
no_command word words a b c d e f = other_wrong word words each
  where
    each : (command : Meant) → word ≢ first (spelled command)
    each (Check tie) = a
    each (Asm tie source) = b
    each (Dis tie hex) = c
    each (Exec hex) = d
    each (ExecTie hex tie) = d
    each (Ref net) = e
    each (Strict net) = f

-- ---- the commands of names

pub is_check : (names : List (List ℕ)) (tie : List ℕ) → AreBehind 1 1 names → names ≡ tie ∷ [] → Accepts (codes "check" ∷ names) (Check tie)
is_check names tie h e = record { spells = ap (λ z. codes "check" ∷ z) e; named = ((λ p. absurd cc), h.named) }

pub is_asm : (names : List (List ℕ)) (tie source : List ℕ) → AreBehind 2 2 names → names ≡ tie ∷ source ∷ [] → Accepts (codes "asm" ∷ names) (Asm tie source)
is_asm names tie source h e = record { spells = ap (λ z. codes "asm" ∷ z) e; named = ((λ p. absurd cc), h.named) }

pub is_dis : (names : List (List ℕ)) (tie hex : List ℕ) → AreBehind 2 2 names → names ≡ tie ∷ hex ∷ [] → Accepts (codes "dis" ∷ names) (Dis tie hex)
is_dis names tie hex h e = record { spells = ap (λ z. codes "dis" ∷ z) e; named = ((λ p. absurd cc), h.named) }

pub is_exec : (names : List (List ℕ)) (hex : List ℕ) → AreBehind 1 2 names → names ≡ hex ∷ [] → Accepts (codes "exec" ∷ names) (Exec hex)
is_exec names hex h e = record { spells = ap (λ z. codes "exec" ∷ z) e; named = ((λ p. absurd cc), h.named) }

pub is_exec_tie : (names : List (List ℕ)) (hex tie : List ℕ) → AreBehind 1 2 names → names ≡ hex ∷ tie ∷ [] → Accepts (codes "exec" ∷ names) (ExecTie hex tie)
is_exec_tie names hex tie h e = record { spells = ap (λ z. codes "exec" ∷ z) e; named = ((λ p. absurd cc), h.named) }

pub is_ref : (names : List (List ℕ)) (net : List ℕ) → AreBehind 1 1 names → names ≡ net ∷ [] → Accepts (codes "ref" ∷ names) (Ref net)
is_ref names net h e = record { spells = ap (λ z. codes "ref" ∷ z) e; named = ((λ p. absurd cc), h.named) }

pub is_strict : (names : List (List ℕ)) (net : List ℕ) → AreBehind 1 1 names → names ≡ net ∷ [] → Accepts (codes "strict" ∷ names) (Strict net)
is_strict names net h e = record { spells = ap (λ z. codes "strict" ∷ z) e; named = ((λ p. absurd cc), h.named) }

pub no_words : {Y : Type 0} (words : List (String Y)) → length words ≡ 0 → WrongAt (map string_bytes words) 0
no_words [] e = none_wrong
no_words (word ∷ words) e = absurd (grind arith)

pub no_command_of : {Y : Type 0} (words names : List (String Y)) (word : String Y) (text : List ℕ) → words ≡ word ∷ names → text ≡ string_bytes word
    → text ≢ codes "check" → text ≢ codes "asm" → text ≢ codes "dis" → text ≢ codes "exec" → text ≢ codes "ref" → text ≢ codes "strict"
    → WrongAt (map string_bytes words) 0
no_command_of words names word text e same a b c d f g = rw (e, sym same) (no_command text (map string_bytes names) a b c d f g)
