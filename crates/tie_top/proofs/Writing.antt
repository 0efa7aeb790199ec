-- One piece after another.
use Rattle.std.proofs.Common.{◌≡◌, ℕ, ◌+◌, ◌-◌, ◌≤◌, List, [], ◌++◌, take, drop, Option, Some, None, Err, sym, ap, subst, ◌∙◌, arith}
use Rattle.std.proofs.lemmas.List.{append_assoc, append-nil, take-append-drop}
use Rattle.std.proofs.Math.Seq.{take-add}
use Rattle.tie_io.specs.declared.sink.PutFault.{PutFault}
use Rattle.tie_io.specs.declared.sink.PutFault.TheVariants.{Failed, NoMemory}
use Rattle.tie_io.specs.Writing.{Grew, GrewWithin, IsPut}

-- what grew by one text and then by another grew by both
pub Grew-append : (a b c : Option (List ℕ)) (x y : List ℕ) → Grew a b x → Grew b c y → Grew a c (x ++ y)
Grew-append None b c x y p q = tt
Grew-append (Some w) None c x y p q = absurd cc
Grew-append (Some w) (Some v) c x y p q = let e : v ≡ w ++ x = cc in q ∙ ap Some (ap (λ z. z ++ y) e ∙ append_assoc w x y)

-- a text up to a place is what stands up to an earlier one, and what stands between
pub take-between : (i j : ℕ) (text : List ℕ) → i ≤ j → take j text ≡ take i text ++ take (j - i) (drop i text)
take-between i j text h = let e : j ≡ i + (j - i) = omega arith in ap (λ n. take n text) e ∙ take-add i (j - i) text

-- a piece that wasn't written whole leaves a first part of the text
pub GrewWithin_put : (a b c : Option (List ℕ)) (text : List ℕ) (i j : ℕ) (fault : PutFault) → i ≤ j → Grew a b (take i text) → IsPut b c (take (j - i) (drop i text)) (Err fault) → GrewWithin a c text
GrewWithin_put a b c text i j NoMemory h g p = (take i text, (drop i text, sym (take-append-drop i text)), subst (λ z. Grew a z (take i text)) (sym p) g)
GrewWithin_put a b c text i j Failed h g (front, (rest, e), p) = (
  take i text ++ front,
  (
    rest ++ drop (j - i) (drop i text),
    sym (take-append-drop i text) ∙ ap (λ z. take i text ++ z) (sym (take-append-drop (j - i) (drop i text)) ∙ ap (λ z. z ++ drop (j - i) (drop i text)) e ∙ append_assoc front rest (drop (j - i) (drop i text))) ∙ sym (append_assoc (take i text) front (rest ++ drop (j - i) (drop i text))),
  ),
  Grew-append a b c (take i text) front g p,
)

-- nothing was written
pub Grew-nothing : (a : Option (List ℕ)) → Grew a a []
Grew-nothing None = tt
Grew-nothing (Some w) = ap Some (sym (append-nil w))
