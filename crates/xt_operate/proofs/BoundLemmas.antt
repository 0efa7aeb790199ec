-- The operands of a part that fits a description: there, of their widths.
use Rattle.std.proofs.Common.{◌≡◌, ℕ, zero, suc, ◌<◌, ◌≤◌, ◌^◌, ◌++◌, Bool, true, false, cond, List, [], ◌∷◌, length, map, take, drop, get_or, ◌-◌, Option, Some, None, slice_get, All, refl, sym, ap, subst, ◌∙◌, arith}
use Rattle.std.specs.Prelude.{IsTrue, filter, nat_lt, ◌==◌, not}
use Rattle.std.proofs.lemmas.Bool.{ltb-true}
use Rattle.std.proofs.lemmas.List.Elements.{All-append, All-cons, All-head, All-tail, All-drop, All-map, All-nil, All-take, All-weaker}
use Rattle.std.proofs.Math.Seq.{take-length}
use Rattle.tie_expr.specs.Tree.{meaning}
use Rattle.tie_expr.specs.declared.node.Node.{Node}
use Rattle.tie_desc.proofs.Lists.{All-slice_get, both_left, both_right}
use Rattle.tie_desc.specs.Description.{Description}
use Rattle.tie_desc.specs.Invariant.{HasPlace, IsArgument, IsDescription, IsLink, IsOperation, IsFile, IsQueue, IsState, IsWidth, is_argument, is_direction}
use Rattle.tie_desc.specs.Operands.{file_width, kind_width, limit, queue_width, state_width, widths, written_operands}
use Rattle.tie_desc.specs.Slots.{access, args_of, core_args, core_read, core_written, links_of, op_args, op_links}
use Rattle.tie_desc.specs.Spelling.{fields_fit, part_fits}
use Rattle.tie_desc.specs.Spots.{spot_of}
use Rattle.tie_desc.specs.declared.bundle.Spot.{Spot}
use Rattle.tie_desc.specs.declared.declarations.Kind.{Kind}
use Rattle.tie_desc.specs.declared.declarations.Kind.TheVariants as kind
use Rattle.tie_desc.specs.declared.declarations.Access.{Access}
use Rattle.tie_desc.specs.declared.declarations.Operand.{Operand}
use Rattle.tie_desc.specs.declared.declarations.OpDecl.{OpDecl}
use Rattle.tie_desc.specs.declared.formats.SlotCore.{SlotCore}
use Rattle.tie_desc.specs.declared.formats.SlotCore.TheVariants as core
use Rattle.tie_desc.specs.declared.formats.Code.{Code}
use Rattle.tie_desc.specs.declared.formats.Code.TheVariants as code
use Rattle.tie_desc.specs.declared.bundle.Part.{Part}
use Rattle.xt_operate.specs.declared.bounds.Bound.{Bound}
use Rattle.xt_operate.specs.Bounds.{Fits, HasNumber, IsBound, arg_bounds, bounds, link_bound, written_bounds}
use Rattle.xt_operate.specs.Operate.{op_results}

-- ---- they are there

-- an argument whose declaration is there
record IsGood (d : Description) (a : Access) : Type 0 where
  kind : IsTrue (is_argument a.kind)
  place : HasPlace d a.kind
  direction : IsTrue (is_direction a.kind a.reads a.writes)

-- a number below the limit is that of something there
numbered : (d : Description) (k : Kind) (n : ℕ) → HasPlace d k → n < limit d k → HasNumber d k n
numbered d kind.Ar n h lt = lt
numbered d (kind.File f) n h lt = (h, lt)
numbered d (kind.Range r) n h lt = (h, lt)
numbered d (kind.State s) n h lt = h
numbered d (kind.InQueue q) n h lt = h
numbered d (kind.OutQueue q) n h lt = h

-- a state and a queue need no number
linked : (d : Description) (k : Kind) → IsTrue (not (is_argument k)) → HasPlace d k → HasNumber d k 0
linked d kind.Ar link h = cc
linked d (kind.File f) link h = cc
linked d (kind.Range r) link h = cc
linked d (kind.State s) link h = h
linked d (kind.InQueue q) link h = h
linked d (kind.OutQueue q) link h = h

have_args : (d : Description) (xs : List Access) (fs : List ℕ) → fields_fit d xs fs ≡ true → All (IsGood d) xs → All (IsBound d) (arg_bounds xs fs)
have_args d [] fs fit good = All-nil (IsBound d)
have_args d (a ∷ xs) [] fit good = All-nil (IsBound d)
have_args d (a ∷ xs) (f ∷ fs) fit good =
    let here = All-head (IsGood d) a xs good in
    let lt : f < limit d a.kind = ltb-true f (limit d a.kind) (both_left _ _ fit) in
    All-cons (IsBound d) (record { access = a; number = f }) (arg_bounds xs fs)
    (record { number = numbered d a.kind f here.place lt; direction = here.direction })
    (have_args d xs fs (both_right (nat_lt f (limit d a.kind)) _ fit) (All-tail (IsGood d) a xs good))

good_read : (d : Description) → IsGood d core_read
good_read d = record { kind = refl; place = tt; direction = refl }

good_written : (d : Description) (late : Bool) → IsGood d (core_written late)
good_written d late = record { kind = refl; place = tt; direction = refl }

three_good : (d : Description) (late : Bool) → All (IsGood d) (core_written late ∷ core_read ∷ core_read ∷ [])
three_good d late =
    All-cons (IsGood d) (core_written late) (core_read ∷ core_read ∷ []) (good_written d late)
    (All-cons (IsGood d) core_read (core_read ∷ []) (good_read d) (All-cons (IsGood d) core_read [] (good_read d) (All-nil (IsGood d))))

core_good : (d : Description) (c : SlotCore) → All (IsGood d) (core_args c)
core_good d core.Nop = All-nil (IsGood d)
core_good d core.Mull = three_good d true
core_good d core.Add = three_good d false
core_good d core.Addx2 = three_good d false
core_good d core.Addx4 = three_good d false
core_good d core.Addx8 = three_good d false
core_good d core.Sub = three_good d false
core_good d core.Subx2 = three_good d false
core_good d core.Subx4 = three_good d false
core_good d core.Subx8 = three_good d false
core_good d core.And = three_good d false
core_good d core.Or = three_good d false
core_good d core.Xor = three_good d false
core_good d core.Min = three_good d false
core_good d core.Max = three_good d false
core_good d core.Minu = three_good d false
core_good d core.Maxu = three_good d false

good_argument : (d : Description) (p : Operand) → IsArgument d p → IsGood d (access p)
good_argument d p h = record { kind = h.kind; place = h.place; direction = h.direction }

op_good : (d : Description) → IsDescription d → (i : ℕ) (o : Option OpDecl) → slice_get d.ops i ≡ o → All (IsGood d) (op_args o)
op_good d is i None here = All-nil (IsGood d)
op_good d is i (Some o) here =
    let op = All-slice_get (IsOperation d) d.ops i o is.ops here in
    All-map (IsGood d) access o.args (All-weaker (IsArgument d) (λ p. IsGood d (access p)) (good_argument d) o.args op.args)

args_good : (d : Description) → IsDescription d → (c : Code) → All (IsGood d) (args_of d c)
args_good d is (code.Core c) = core_good d c
args_good d is (code.Op i) = op_good d is i (slice_get d.ops i) refl

bound_link : (d : Description) (p : Operand) → IsLink d p → IsBound d (link_bound p)
bound_link d p h = record { number = linked d p.kind h.kind h.place; direction = h.direction }

op_links_bound : (d : Description) → IsDescription d → (i : ℕ) (o : Option OpDecl) → slice_get d.ops i ≡ o → All (IsBound d) (map link_bound (op_links o))
op_links_bound d is i None here = All-nil (IsBound d)
op_links_bound d is i (Some o) here =
    let op = All-slice_get (IsOperation d) d.ops i o is.ops here in
    All-map (IsBound d) link_bound o.links (All-weaker (IsLink d) (λ p. IsBound d (link_bound p)) (bound_link d) o.links op.links)

links_bound : (d : Description) → IsDescription d → (c : Code) → All (IsBound d) (map link_bound (links_of d c))
links_bound d is (code.Core c) = All-nil (IsBound d)
links_bound d is (code.Op i) = op_links_bound d is i (slice_get d.ops i) refl

pub have_bounds : (d : Description) (p : Part) → IsDescription d → part_fits d p ≡ true → All (IsBound d) (bounds d p)
have_bounds d p is fit =
    All-append (IsBound d) (arg_bounds (args_of d p.code) p.fields) (map link_bound (links_of d p.code))
    (have_args d (args_of d p.code) p.fields (both_right (length p.fields == 3) _ fit) (args_good d is p.code))
    (links_bound d is p.code)

-- ---- their widths

-- the declaration of a number is there
there : {A : Type 0} (xs : List A) (k : ℕ) → k < length xs → (x : A) × (slice_get xs k ≡ Some x)
there [] k h = absurd (omega arith)
there (x ∷ xs) zero h = (x, refl)
there (x ∷ xs) (suc k) h = there xs k (omega arith)

-- 1 to 128 bits
pub bound_width : (d : Description) → IsDescription d → (k : Kind) (n : ℕ) → HasNumber d k n → IsWidth (kind_width d k)
bound_width d is kind.Ar n h = record { some = omega arith; most = omega arith }
bound_width d is (kind.File f) n h =
    let x = there d.files f h.0 in
    subst (λ o. IsWidth (file_width o)) (sym x.1) (All-slice_get IsFile d.files f x.0 is.files x.1).width
bound_width d is (kind.Range r) n h = record { some = omega arith; most = omega arith }
bound_width d is (kind.State s) n h =
    let x = there d.states s h in
    subst (λ o. IsWidth (state_width o)) (sym x.1) (All-slice_get IsState d.states s x.0 is.states x.1).width
bound_width d is (kind.InQueue q) n h =
    let x = there d.ins q h in
    subst (λ o. IsWidth (queue_width o)) (sym x.1) (All-slice_get IsQueue d.ins q x.0 is.ins x.1)
bound_width d is (kind.OutQueue q) n h =
    let x = there d.outs q h in
    subst (λ o. IsWidth (queue_width o)) (sym x.1) (All-slice_get IsQueue d.outs q x.0 is.outs x.1)

-- the width of an operand, and of one that its field numbers
abbrev operand_width : Description → Operand → ℕ
operand_width d p = kind_width d p.kind

abbrev pub width_of : Description → Bound → ℕ
width_of d b = kind_width d b.access.kind

-- a filtered list in parts
filter-append : {A : Type 0} (p : A → Bool) (xs ys : List A) → filter p (xs ++ ys) ≡ filter p xs ++ filter p ys
filter-append p [] ys = refl
filter-append p (x ∷ xs) ys = by_test (p x) x (filter p (xs ++ ys)) (filter p xs) (filter p ys) (filter-append p xs ys)
  where
    by_test : {A : Type 0} (b : Bool) (x : A) (zs us vs : List A) → zs ≡ us ++ vs → cond b (x ∷ zs) zs ≡ cond b (x ∷ us) us ++ vs
    by_test true x zs us vs e = ap (λ l. x ∷ l) e
    by_test false x zs us vs e = e

-- the written operands keep their widths
args_widths : (d : Description) (ps : List Operand) (fs : List ℕ) → fields_fit d (map access ps) fs ≡ true
    → map (width_of d) (written_bounds (arg_bounds (map access ps) fs)) ≡ map (operand_width d) (filter (λ p. p.writes) ps)
args_widths d [] fs fit = refl
args_widths d (p ∷ ps) [] fit = cc
args_widths d (p ∷ ps) (f ∷ fs) fit =
    by_test p.writes (record { access = access p; number = f }) p (written_bounds (arg_bounds (map access ps) fs)) (filter (λ p. p.writes) ps) refl
    (args_widths d ps fs (both_right (nat_lt f (limit d p.kind)) _ fit))
  where
    by_test : (b : Bool) (x : Bound) (p : Operand) (bs : List Bound) (ps : List Operand) → width_of d x ≡ operand_width d p
        → map (width_of d) bs ≡ map (operand_width d) ps → map (width_of d) (cond b (x ∷ bs) bs) ≡ map (operand_width d) (cond b (p ∷ ps) ps)
    by_test true x p bs ps same e = ap (λ w. w ∷ map (width_of d) bs) same ∙ ap (λ l. operand_width d p ∷ l) e
    by_test false x p bs ps same e = e

links_widths : (d : Description) (ps : List Operand)
    → map (width_of d) (written_bounds (map link_bound ps)) ≡ map (operand_width d) (filter (λ p. p.writes) ps)
links_widths d [] = refl
links_widths d (p ∷ ps) = by_test p.writes p (written_bounds (map link_bound ps)) (filter (λ p. p.writes) ps) (links_widths d ps)
  where
    by_test : (b : Bool) (p : Operand) (bs : List Bound) (ps : List Operand)
        → map (width_of d) bs ≡ map (operand_width d) ps → map (width_of d) (cond b (link_bound p ∷ bs) bs) ≡ map (operand_width d) (cond b (p ∷ ps) ps)
    by_test true p bs ps e = ap (λ l. operand_width d p ∷ l) e
    by_test false p bs ps e = e

map-append : {A B : Type 0} (f : A → B) (xs ys : List A) → map f (xs ++ ys) ≡ map f xs ++ map f ys
map-append f [] ys = refl
map-append f (x ∷ xs) ys = ap (λ l. f x ∷ l) (map-append f xs ys)

pub written_widths : (d : Description) (o : OpDecl) (fs : List ℕ) → fields_fit d (map access o.args) fs ≡ true
    → map (width_of d) (written_bounds (arg_bounds (map access o.args) fs ++ map link_bound o.links)) ≡ widths d (written_operands o)
written_widths d o fs fit =
    ap (map (width_of d)) (filter-append (λ b. b.access.writes) (arg_bounds (map access o.args) fs) (map link_bound o.links))
    ∙ map-append (width_of d) (written_bounds (arg_bounds (map access o.args) fs)) (written_bounds (map link_bound o.links))
    ∙ ap (λ l. l ++ map (width_of d) (written_bounds (map link_bound o.links))) (args_widths d o.args fs fit)
    ∙ ap (λ l. map (operand_width d) (filter (λ p. p.writes) o.args) ++ l) (links_widths d o.links)
    ∙ sym (map-append (operand_width d) (filter (λ p. p.writes) o.args) (filter (λ p. p.writes) o.links))
    ∙ ap (map (operand_width d)) (sym (filter-append (λ p. p.writes) o.args o.links))

-- at most eight links
op_links-le : (d : Description) → IsDescription d → (i : ℕ) (o : Option OpDecl) → slice_get d.ops i ≡ o → length (op_links o) ≤ 8
op_links-le d is i None here = omega arith
op_links-le d is i (Some o) here = (All-slice_get (IsOperation d) d.ops i o is.ops here).few_links

pub links_of-le : (d : Description) → IsDescription d → (c : Code) → length (links_of d c) ≤ 8
links_of-le d is (code.Core c) = omega arith
links_of-le d is (code.Op i) = op_links-le d is i (slice_get d.ops i) refl

-- ---- results

-- the first written operand has the width of the first result, and the others those of the others
pub first_width : (d : Description) (b : Bound) (bs : List Bound) (w : ℕ) (ws : List ℕ) → b.access.writes ≡ true
    → w ∷ ws ≡ map (width_of d) (written_bounds (b ∷ bs)) → (w ≡ width_of d b) × (ws ≡ map (width_of d) (written_bounds bs))
first_width d b bs w ws writes e = by_test b.access.writes writes e
  where
    by_test : (t : Bool) → t ≡ true → w ∷ ws ≡ map (width_of d) (cond t (b ∷ written_bounds bs) (written_bounds bs))
        → (w ≡ width_of d b) × (ws ≡ map (width_of d) (written_bounds bs))
    by_test true h e = (cc, cc)
    by_test false h e = cc

pub other_widths : (d : Description) (b : Bound) (bs : List Bound) (ws : List ℕ) → b.access.writes ≡ false
    → ws ≡ map (width_of d) (written_bounds (b ∷ bs)) → ws ≡ map (width_of d) (written_bounds bs)
other_widths d b bs ws writes e = by_test b.access.writes writes e
  where
    by_test : (t : Bool) → t ≡ false → ws ≡ map (width_of d) (cond t (b ∷ written_bounds bs) (written_bounds bs)) → ws ≡ map (width_of d) (written_bounds bs)
    by_test true h e = cc
    by_test false h e = e

first_same : {a b : Spot} → a ∷ [] ≡ b ∷ [] → a ≡ b
first_same e = cc

-- a value of the width of an operand fits its place
pub place_fits : (d : Description) (k : Kind) (n : ℕ) (place : Spot) (v : ℕ) → HasNumber d k n → spot_of k n ≡ place ∷ [] → v < 2 ^ kind_width d k → Fits d place v
place_fits d kind.Ar n place v h e lt = subst (λ s. Fits d s v) (first_same e) (h, lt)
place_fits d (kind.File f) n place v h e lt = subst (λ s. Fits d s v) (first_same e) (h.0, h.1, lt)
place_fits d (kind.Range r) n place v h e lt = cc
place_fits d (kind.State s) n place v h e lt = subst (λ s. Fits d s v) (first_same e) (h, lt)
place_fits d (kind.InQueue q) n place v h e lt = subst (λ s. Fits d s v) (first_same e) (h, lt)
place_fits d (kind.OutQueue q) n place v h e lt = subst (λ s. Fits d s v) (first_same e) (h, lt)

-- the results of an operation have the widths of its written operands
some_widths : (d : Description) → IsDescription d → (p : Part) (i : ℕ) (o : OpDecl) → p.code ≡ code.Op i → slice_get d.ops i ≡ Some o → part_fits d p ≡ true
    → map (λ e. (meaning e).width) o.results ≡ map (width_of d) (written_bounds (bounds d p))
some_widths d is p i o e here fit =
    let args : args_of d p.code ≡ map access o.args = ap (args_of d) e ∙ ap op_args here in
    let links : links_of d p.code ≡ o.links = ap (links_of d) e ∙ ap op_links here in
    let fits : fields_fit d (map access o.args) p.fields ≡ true = subst (λ xs. fields_fit d xs p.fields ≡ true) args (both_right (length p.fields == 3) _ fit) in
    let op = All-slice_get (IsOperation d) d.ops i o is.ops here in
    op.results ∙ sym (written_widths d o p.fields fits)
    ∙ ap (λ xs. map (width_of d) (written_bounds (arg_bounds xs p.fields ++ map link_bound o.links))) (sym args)
    ∙ ap (λ ls. map (width_of d) (written_bounds (arg_bounds (args_of d p.code) p.fields ++ map link_bound ls))) (sym links)

pub op_widths : (d : Description) → IsDescription d → (p : Part) (i : ℕ) (o : Option OpDecl) → p.code ≡ code.Op i → slice_get d.ops i ≡ o → part_fits d p ≡ true
    → map (λ e. (meaning e).width) (op_results o) ≡ map (width_of d) (written_bounds (bounds d p))
op_widths d is p i None e here fit =
    let args : args_of d p.code ≡ [] = ap (args_of d) e ∙ ap op_args here in
    let links : links_of d p.code ≡ [] = ap (links_of d) e ∙ ap op_links here in
    ap (λ xs. map (width_of d) (written_bounds (arg_bounds xs p.fields ++ []))) (sym args)
    ∙ ap (λ ls. map (width_of d) (written_bounds (arg_bounds (args_of d p.code) p.fields ++ map link_bound ls))) (sym links)
op_widths d is p i (Some o) e here fit = some_widths d is p i o e here fit

-- ---- the rest of a list behind its first element

abbrev pub rest_of : {A : Type 0} → List A → List A
rest_of xs = take (length xs - 1) (drop 1 xs)

rest-cons : {A : Type 0} (x : A) (xs : List A) → rest_of (x ∷ xs) ≡ xs
rest-cons x xs = let e : length (x ∷ xs) - 1 ≡ length xs = omega arith in ap (λ n. take n xs) e ∙ take-length xs

pub rest_good : {A : Type 0} (P : A → Type 0) (xs : List A) → All P xs → All P (rest_of xs)
rest_good P xs all = All-take P (length xs - 1) (drop 1 xs) (All-drop P 1 xs all)

-- where the first operand is written, the first result is its own
no_width : (d : Description) (b : Bound) (bs : List Bound) → b.access.writes ≡ true → [] ≡ map (width_of d) (written_bounds (b ∷ bs)) → ⊥
no_width d b bs writes e = by_test b.access.writes writes e
  where
    by_test : (t : Bool) → t ≡ true → [] ≡ map (width_of d) (cond t (b ∷ written_bounds bs) (written_bounds bs)) → ⊥
    by_test true h e = cc
    by_test false h e = cc

pub rest_widths : (d : Description) (bs : List Bound) (es : List Node) (b : Bound) → (get_or bs 0 b).access.writes ≡ true
    → map (λ e. (meaning e).width) es ≡ map (width_of d) (written_bounds bs)
    → map (λ e. (meaning e).width) (rest_of es) ≡ map (width_of d) (written_bounds (rest_of bs))
rest_widths d [] [] b writes h = refl
rest_widths d [] (e ∷ es) b writes h = cc
rest_widths d (x ∷ bs) [] b writes h = absurd (no_width d x bs writes h)
rest_widths d (x ∷ bs) (e ∷ es) b writes h =
    ap (map (λ e. (meaning e).width)) (rest-cons e es)
    ∙ (first_width d x bs (meaning e).width (map (λ e. (meaning e).width) es) writes h).1
    ∙ sym (ap (λ l. map (width_of d) (written_bounds l)) (rest-cons x bs))

pub skip_widths : (d : Description) (bs : List Bound) (ws : List ℕ) (b : Bound) → (get_or bs 0 b).access.writes ≡ false
    → ws ≡ map (width_of d) (written_bounds bs) → ws ≡ map (width_of d) (written_bounds (rest_of bs))
skip_widths d [] ws b writes h = h
skip_widths d (x ∷ bs) ws b writes h =
    other_widths d x bs ws writes h ∙ sym (ap (λ l. map (width_of d) (written_bounds l)) (rest-cons x bs))
