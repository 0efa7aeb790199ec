-- What is known of the parts of a typed tree.
use Rattle.std.proofs.Common.{◌≡◌, ℕ, ◌<◌, ◌≤◌, ◌+◌, ◌^◌, nat_lt, nat_le, Bool, true, ◌&&◌, ◌==◌, IsTrue, List, [], ◌∷◌, ◌++◌, length, map, get_or, refl, subst, sym, ap, ◌∙◌, rules, sum}
use Rattle.std.specs.List.{All, list_all, sum_by, flat_map}
use Rattle.std.proofs.lemmas.Bool.{and_parts, and_from, eqb-true, leb-true, ltb-true, eq-eqb, le-leb, lt-ltb}
use Rattle.std.proofs.lemmas.List.{length-map, get_or-map}
use Rattle.std.proofs.lemmas.List.Sums.{AllPass-from_list_all, list_all-from_AllPass, sum-map}
use Rattle.std.proofs.lemmas.List.Folds.{list_all-map, flat_map-map}
use Rattle.tie_expr.specs.Operators.{two_widths_agree}
use Rattle.tie_expr.specs.Meaning.{Meaning, arm, OneWidth, select_meaning}
use Rattle.tie_expr.specs.Size.{wide_weight}
use Rattle.tie_expr.specs.Tree.{Summary, Input, summary, summary_step, meaning, inputs, size, typed, arms_typed, arm_meanings, is_width}
use Rattle.tie_expr.specs.declared.ops.Op2.{Op2}
use Rattle.tie_expr.specs.declared.node.Node.{Node}
use Rattle.tie_expr.specs.declared.node.Node.TheVariants as node
use Rattle.tie_expr.specs.declared.node.Node.TheOpen.{Node-F}
use Rattle.tie_expr.specs.declared.node.Node.TheFolds.{the_lemmas}

-- ---- one layer of a tree
pub two_is : (op : Op2) (a b : Node) → summary (node.Two op a b) ≡ summary_step (Node-F.Two op (summary a) (summary b))
two_is op a b = search (rules, the_lemmas)

pub choose_is : (c a b : Node) → summary (node.Choose c a b) ≡ summary_step (Node-F.Choose (summary c) (summary a) (summary b))
choose_is c a b = search (rules, the_lemmas)

pub join_is : (a b : Node) → summary (node.Join a b) ≡ summary_step (Node-F.Join (summary a) (summary b))
join_is a b = search (rules, the_lemmas)

pub lookup_is : (a : Node) (entries : List ℕ) (w : ℕ) → summary (node.Lookup a entries w) ≡ summary_step (Node-F.Lookup (summary a) entries w)
lookup_is a entries w = search (rules, the_lemmas)

pub select_is : (s : Node) (arms : List Node) → summary (node.Select s arms) ≡ summary_step (Node-F.Select (summary s) (map summary arms))
select_is s arms = search (rules, the_lemmas)

pub mul_is : (a b s : Node) → summary (node.Mul a b s) ≡ summary_step (Node-F.Mul (summary a) (summary b) (summary s))
mul_is a b s = search (rules, the_lemmas)

-- ---- the parts of a typed tree
layer_typed : (x : Node) (s : Summary) → summary x ≡ s → IsTrue (typed x) → IsTrue s.typed
layer_typed x s is t = subst (λ (r : Summary). IsTrue r.typed) is t

pub record TwoParts (op : Op2) (a b : Node) : Type 0 where
  pub left : IsTrue (typed a)
  pub right : IsTrue (typed b)
  pub agree : IsTrue (two_widths_agree op (meaning a).width (meaning b).width)

pub two_parts : (op : Op2) (a b : Node) → IsTrue (typed (node.Two op a b)) → TwoParts op a b
two_parts op a b h =
    let p = and_parts (typed a && typed b) (two_widths_agree op (meaning a).width (meaning b).width) (layer_typed (node.Two op a b) _ (two_is op a b) h) in
    let q = and_parts (typed a) (typed b) p.0 in
    record { left = q.0; right = q.1; agree = p.1 }

pub record ChooseParts (c a b : Node) : Type 0 where
  pub condition : IsTrue (typed c)
  pub then : IsTrue (typed a)
  pub otherwise : IsTrue (typed b)
  pub same : (meaning a).width ≡ (meaning b).width

pub choose_parts : (c a b : Node) → IsTrue (typed (node.Choose c a b)) → ChooseParts c a b
choose_parts c a b h =
    let p = and_parts (typed c && typed a) (typed b && (meaning a).width == (meaning b).width) (layer_typed (node.Choose c a b) _ (choose_is c a b) h) in
    let q = and_parts (typed c) (typed a) p.0 in
    let r = and_parts (typed b) ((meaning a).width == (meaning b).width) p.1 in
    record { condition = q.0; then = q.1; otherwise = r.0; same = eqb-true (meaning a).width (meaning b).width r.1 }

pub record JoinParts (a b : Node) : Type 0 where
  pub high : IsTrue (typed a)
  pub low : IsTrue (typed b)
  pub room : (meaning a).width + (meaning b).width ≤ 128

pub join_parts : (a b : Node) → IsTrue (typed (node.Join a b)) → JoinParts a b
join_parts a b h =
    let p = and_parts (typed a && typed b) (nat_le ((meaning a).width + (meaning b).width) 128) (layer_typed (node.Join a b) _ (join_is a b) h) in
    let q = and_parts (typed a) (typed b) p.0 in
    record { high = q.0; low = q.1; room = leb-true ((meaning a).width + (meaning b).width) 128 p.1 }

pub record MulParts (a b s : Node) : Type 0 where
  pub left : IsTrue (typed a)
  pub right : IsTrue (typed b)
  pub signed : IsTrue (typed s)
  pub room : (meaning a).width + (meaning b).width ≤ 128

pub mul_parts : (a b s : Node) → IsTrue (typed (node.Mul a b s)) → MulParts a b s
mul_parts a b s h =
    let factors = typed a && typed b in
    let flag = typed s && (meaning s).width == 1 in
    let p = and_parts (factors && flag) (nat_le ((meaning a).width + (meaning b).width) 128) (layer_typed (node.Mul a b s) _ (mul_is a b s) h) in
    let q = and_parts factors flag p.0 in
    let r = and_parts (typed a) (typed b) q.0 in
    record {
      left = r.0;
      right = r.1;
      signed = (and_parts (typed s) ((meaning s).width == 1) q.1).0;
      room = leb-true ((meaning a).width + (meaning b).width) 128 p.1;
    }

entries_fit : (w : ℕ) (entries : List ℕ) → IsTrue (list_all (λ x. nat_lt x (2 ^ w)) entries) → All (λ x. x < 2 ^ w) entries
entries_fit w entries h = λ k d within. ltb-true (get_or entries k d) (2 ^ w) (AllPass-from_list_all (λ x. nat_lt x (2 ^ w)) entries h k d within)

fit_entries : (w : ℕ) (entries : List ℕ) → All (λ x. x < 2 ^ w) entries → IsTrue (list_all (λ x. nat_lt x (2 ^ w)) entries)
fit_entries w entries h = list_all-from_AllPass (λ x. nat_lt x (2 ^ w)) entries (λ k d within. lt-ltb (get_or entries k d) (2 ^ w) (h k d within))

pub lookup_fits : (a : Summary) (entries : List ℕ) (w : ℕ) → IsTrue (summary_step (Node-F.Lookup a entries w)).typed → All (λ x. x < 2 ^ w) entries
lookup_fits a entries w h =
    let p = and_parts (a.typed && is_width w) (nat_le (length entries) 256 && list_all (λ x. nat_lt x (2 ^ w)) entries) h in
    entries_fit w entries (and_parts (nat_le (length entries) 256) (list_all (λ x. nat_lt x (2 ^ w)) entries) p.1).1

-- ---- arms
map_map : (arms : List Node) → arm_meanings (map summary arms) ≡ map meaning arms
map_map [] = refl
map_map (a ∷ arms) = ap (λ more. meaning a ∷ more) (map_map arms)

sizes_map : (arms : List Node) → map (λ a. a.size) (map summary arms) ≡ map size arms
sizes_map [] = refl
sizes_map (a ∷ arms) = ap (λ more. size a ∷ more) (sizes_map arms)

pub arm_sizes : (arms : List Node) → sum_by (λ a. a.size) (map summary arms) ≡ sum_by size arms
arm_sizes arms = sym (sum-map (λ a. a.size) (map summary arms)) ∙ ap sum (sizes_map arms) ∙ sum-map size arms

pub select_means : (s : Node) (arms : List Node) → meaning (node.Select s arms) ≡ select_meaning (meaning s) (map meaning arms)
select_means s arms = ap (λ (r : Summary). r.meaning) (select_is s arms) ∙ ap (select_meaning (meaning s)) (map_map arms)

pub select_sizes : (s : Node) (arms : List Node) → size (node.Select s arms) ≡ wide_weight + size s + sum_by size arms
select_sizes s arms = ap (λ (r : Summary). r.size) (select_is s arms) ∙ ap (λ n. wide_weight + size s + n) (arm_sizes arms)

pub select_inputs : (s : Node) (arms : List Node) → inputs (node.Select s arms) ≡ inputs s ++ flat_map inputs arms
select_inputs s arms = ap (λ (r : Summary). r.inputs) (select_is s arms) ∙ ap (λ (more : List Input). inputs s ++ more) (flat_map-map (λ a. a.inputs) summary arms)

-- the width of an arm
arm_width : (arms : List Node) (n : ℕ) (x : Node) → n < length arms → (arm (map meaning arms) n).width ≡ (meaning (get_or arms n x)).width
arm_width arms n x h = ap (λ (m : Meaning). m.width) (get_or-map meaning arms n x (arm [] 0) h)

pub record SelectParts (s : Node) (arms : List Node) : Type 0 where
  pub count : length arms ≡ 2 ^ (meaning s).width
  pub typed : IsTrue (arms_typed (arm (map meaning arms) 0).width (map summary arms))

pub select_parts : (s : Node) (arms : List Node) → IsTrue (typed (node.Select s arms)) → SelectParts s arms
select_parts s arms h =
    let t = subst (λ (r : Summary). IsTrue r.typed) (select_is s arms) h in
    let many = length (map summary arms) == 2 ^ (meaning s).width in
    let each = arms_typed (arm (arm_meanings (map summary arms)) 0).width (map summary arms) in
    let p = and_parts many each (and_parts (typed s && nat_le (meaning s).width 4) (many && each) t).1 in
    record {
      count = sym (length-map arms summary) ∙ eqb-true (length (map summary arms)) (2 ^ (meaning s).width) p.0;
      typed = subst (λ (ms : List Meaning). IsTrue (arms_typed (arm ms 0).width (map summary arms))) (map_map arms) p.1;
    }

-- the arm of a number
pub record ArmAt (arms : List Node) (n : ℕ) (x : Node) : Type 0 where
  pub typed : IsTrue (typed x)
  pub width : (meaning x).width ≡ (arm (map meaning arms) 0).width
  pub is : arm (map meaning arms) n ≡ meaning x

pub arm_at : (arms : List Node) (n : ℕ) (x : Node) → n < length arms → x ≡ get_or arms n x → IsTrue (arms_typed (arm (map meaning arms) 0).width (map summary arms)) → ArmAt arms n x
arm_at arms n x within is t =
    let w = (arm (map meaning arms) 0).width in
    let test : Node → Bool = λ y. typed y && (meaning y).width == w in
    let all : list_all test arms ≡ true = sym (list_all-map (λ (a : Summary). a.typed && a.meaning.width == w) summary arms) ∙ t in
    let here : test x ≡ true = ap test is ∙ AllPass-from_list_all test arms all n x within in
    let p = and_parts (typed x) ((meaning x).width == w) here in
    record {
      typed = p.0;
      width = eqb-true (meaning x).width w p.1;
      is = get_or-map meaning arms n x (arm [] 0) within ∙ ap meaning (sym is);
    }

-- arms of one width, each typed, go with a number
pub select_typed : (s : Node) (arms : List Node) → IsTrue (typed s) → (meaning s).width ≤ 4 → length arms ≡ 2 ^ (meaning s).width → OneWidth (map meaning arms) → IsTrue (list_all typed arms) → IsTrue (typed (node.Select s arms))
select_typed s arms t few count widths all =
    let w = (arm (map meaning arms) 0).width in
    let test : Node → Bool = λ y. typed y && (meaning y).width == w in
    let same = λ (k : ℕ) (d : Node) (h : k < length arms). sym (arm_width arms k d h) ∙ widths k (arm [] 0) (subst (λ n. k < n) (sym (length-map arms meaning)) h) in
    let each : list_all test arms ≡ true =
    list_all-from_AllPass test arms (λ k d h. and_from (typed (get_or arms k d)) ((meaning (get_or arms k d)).width == w) (AllPass-from_list_all typed arms all k d h) (eq-eqb (meaning (get_or arms k d)).width w (same k d h))) in
    let mapped : IsTrue (arms_typed w (map summary arms)) = list_all-map (λ (a : Summary). a.typed && a.meaning.width == w) summary arms ∙ each in
    let many = length (map summary arms) == 2 ^ (meaning s).width in
    let right : IsTrue many = eq-eqb (length (map summary arms)) (2 ^ (meaning s).width) (length-map arms summary ∙ count) in
    let placed : IsTrue (arms_typed (arm (arm_meanings (map summary arms)) 0).width (map summary arms)) =
    subst (λ (ms : List Meaning). IsTrue (arms_typed (arm ms 0).width (map summary arms))) (sym (map_map arms)) mapped in
    subst (λ (r : Summary). IsTrue r.typed) (sym (select_is s arms))
    (and_from (typed s && nat_le (meaning s).width 4) (many && arms_typed (arm (arm_meanings (map summary arms)) 0).width (map summary arms))
    (and_from (typed s) (nat_le (meaning s).width 4) t (le-leb (meaning s).width 4 few))
    (and_from many (arms_typed (arm (arm_meanings (map summary arms)) 0).width (map summary arms)) right placed))

-- entries that fit go with an index
pub lookup_typed : (a : Node) (entries : List ℕ) (w : ℕ) → IsTrue (typed a) → 0 < w → w ≤ 128 → length entries ≤ 256 → All (λ x. x < 2 ^ w) entries → IsTrue (typed (node.Lookup a entries w))
lookup_typed a entries w t low high few fit =
    let width : IsTrue (is_width w) = and_from (nat_lt 0 w) (nat_le w 128) (lt-ltb 0 w low) (le-leb w 128 high) in
    let all = list_all (λ x. nat_lt x (2 ^ w)) entries in
    subst (λ (r : Summary). IsTrue r.typed) (sym (lookup_is a entries w))
    (and_from (typed a && is_width w) (nat_le (length entries) 256 && all)
    (and_from (typed a) (is_width w) t width)
    (and_from (nat_le (length entries) 256) all (le-leb (length entries) 256 few) (fit_entries w entries fit)))

pub select_width : (s : Node) (arms : List Node) (x : Node) → 0 < length arms → x ≡ get_or arms 0 x → (meaning (node.Select s arms)).width ≡ (meaning x).width
select_width s arms x some is =
    ap (λ (m : Meaning). m.width) (select_means s arms) ∙ arm_width arms 0 x some ∙ ap (λ (y : Node). (meaning y).width) (sym is)
