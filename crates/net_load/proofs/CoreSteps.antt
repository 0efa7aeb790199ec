-- One processor after the other.
use Rattle.std.proofs.Common.{◌≡◌, ◌⊎◌, ℕ, zero, suc, ◌+◌, ◌<◌, ◌≤◌, Bool, true, false, ◌&&◌, nat_le, List, [], ◌∷◌, ◌++◌, length, take, get_or, Some, Result, Ok, Err, refl, subst, sym, ◌∙◌, ap, add-one, arith, inl, inr}
use Rattle.std.proofs.lemmas.Bool.{and_parts}
use Rattle.std.proofs.lemmas.Bool.Decides.{nat_tests}
use Rattle.std.proofs.lemmas.List.Elements.{All-nil, All-cons}
use Rattle.std.specs.Prelude.{slice_get}
use Rattle.std.proofs.lemmas.Option.{slice_get-get_or}
use Rattle.std.proofs.Math.Seq.{take-length}
use Rattle.std.specs.List.{zip}
use Rattle.tie_desc.specs.Description.{Description}
use Rattle.tie_desc.specs.Fetching.{IsImage}
use Rattle.net_desc.specs.net_toml.declared.refusal.NetRule.{NetRule}
use Rattle.net_desc.specs.net_toml.declared.refusal.NetRule.TheVariants as rule
use Rattle.net_desc.specs.net_toml.declared.plan.NetPlan.{NetPlan}
use Rattle.net_desc.specs.net_toml.declared.plan.PlanCore.{PlanCore}
use Rattle.net_desc.specs.net_toml.Broken.{Broken, ◌>>=◌, check}
use Rattle.net_desc.specs.Workers.{Loaded, IsKitOf, AreKitsOf}
use Rattle.tie_files.specs.declared.refusal.Refusal.{Refusal}
use Rattle.tie_files.specs.declared.refusal.Refusal.TheVariants.{NoMemory}
use Rattle.tie_files.specs.Files.{Shelved}
use Rattle.tie_files.proofs.Steps.{Within}
use Rattle.net_load.specs.Texts.{image_in, image_key, hex_in}
use Rattle.net_load.specs.Loaded.{IsDescOf, IsCoreOf, AreCoresOf}
use Rattle.net_load.specs.Steps.{cores_steps, FirstStuck}
use Rattle.net_load.specs.Pieces.{IsDescWrong, IsImageOf, IsImageWrong, IsCoreWrong}
use Rattle.net_load.proofs.Seen.{desc_seen, desc_wrong, image_seen, image_wrong, core_seen, cores_seen, core_wrong}
use Rattle.net_load.proofs.Walk.{core_stuck, core_passed}

-- ---- one processor

-- its TIE file is wrong, or memory ran out
pub desc_err : (small s : Shelved) (name : List ℕ) (i : ℕ) (core : PlanCore) (e : Refusal) → Within small s
    → (e ≡ NoMemory) ⊎ IsDescWrong small core.tie e → (e ≡ NoMemory) ⊎ IsCoreWrong s name i core e
desc_err small s name i core e w (inl p) = inl p
desc_err small s name i core e w (inr h) = inr (inl (desc_wrong small s w core.tie e h))

-- its image file is wrong, or memory ran out
pub image_err : (one two s : Shelved) (name : List ℕ) (i : ℕ) (core : PlanCore) (d : Description) (e : Refusal) → Within one s → Within two s → IsDescOf one core.tie d
    → (e ≡ NoMemory) ⊎ IsImageWrong two name i core e → (e ≡ NoMemory) ⊎ IsCoreWrong s name i core e
image_err one two s name i core d e v w is (inl p) = inl p
image_err one two s name i core d e v w is (inr h) = inr (inr (d, desc_seen one s v.holds core.tie d is, image_wrong two s w name i core e h))

-- its kit
pub core_is : (one two s : Shelved) (i : ℕ) (core : PlanCore) (d : Description) (k : Loaded) → Within one s → Within two s → IsDescOf one core.tie d
    → IsImageOf two i core k.1.items → k.0.desc ≡ d → IsImage d k.1.items k.0.image.at → IsCoreOf s i core k
core_is one two s i core d k v w is image same of =
    let there = image_seen two s w.holds i core k.1.items image in
    record {
      desc = subst (λ (z : Description). IsDescOf s core.tie z) (sym same) (desc_seen one s v.holds core.tie d is);
      text = there.text;
      read = there.read;
      says = there.says;
      image = subst (λ (z : Description). IsImage z k.1.items k.0.image.at) (sym same) of;
    }

-- ---- all of them

-- the next one is wrong
pub cores_stuck : (s : Shelved) (name : List ℕ) (plan : NetPlan) (cores : List PlanCore) (kits : List Loaded) (i n j : ℕ) (core : PlanCore) (e : Refusal)
    → slice_get cores n ≡ Some core → AreCoresOf s i (take n cores) kits → j ≡ i + n → IsCoreWrong s name j core e → FirstStuck s name plan (cores_steps i cores) e
cores_stuck s name plan [] kits i n j core e stands h is wrong = absurd cc
cores_stuck s name plan (c ∷ cs) kits i zero j core e stands h is wrong =
    let same : core ≡ c = cc in
    let place : j ≡ i = omega (arith, is) in
    core_stuck s name plan i c (cores_steps (i + 1) cs) e
    (subst (λ (z : PlanCore). IsCoreWrong s name i z e) same (subst (λ (n : ℕ). IsCoreWrong s name n core e) place wrong))
cores_stuck s name plan (c ∷ cs) [] i (suc n) j core e stands h is wrong = absurd h
cores_stuck s name plan (c ∷ cs) (k ∷ ks) i (suc n) j core e stands h is wrong =
    core_passed s name plan i c k (cores_steps (i + 1) cs) e h.0 (cores_stuck s name plan cs ks (i + 1) n j core e stands h.1 (omega (arith, is)) wrong)

-- the next one is right
pub cores_next : (s : Shelved) (cores : List PlanCore) (kits : List Loaded) (i n j : ℕ) (core : PlanCore) (k : Loaded)
    → slice_get cores n ≡ Some core → AreCoresOf s i (take n cores) kits → j ≡ i + n → IsCoreOf s j core k → AreCoresOf s i (take (suc n) cores) (kits ++ k ∷ [])
cores_next s [] kits i n j core k stands h is new = absurd cc
cores_next s (c ∷ cs) [] i zero j core k stands h is new =
    let same : core ≡ c = cc in
    let place : j ≡ i = omega (arith, is) in
    (subst (λ (z : PlanCore). IsCoreOf s i z k) same (subst (λ (n : ℕ). IsCoreOf s n core k) place new), tt)
cores_next s (c ∷ cs) (x ∷ ks) i zero j core k stands h is new = absurd h
cores_next s (c ∷ cs) [] i (suc n) j core k stands h is new = absurd h
cores_next s (c ∷ cs) (x ∷ ks) i (suc n) j core k stands h is new = (h.0, cores_next s cs ks (i + 1) n j core k stands h.1 (omega (arith, is)) new)

-- what stands at a place of a list
pub stands_at : {A : Type 0} (xs ys : List A) (i : ℕ) (x : A) → xs ≡ ys → i < length xs → x ≡ get_or xs i x → slice_get ys i ≡ Some x
stands_at xs ys i x same below is = subst (λ (zs : List _). slice_get zs i ≡ Some x) same (slice_get-get_or xs i x below ∙ ap Some (sym is))

pub cores_err : (small s before : Shelved) (name : List ℕ) (plan : NetPlan) (kits : List Loaded) (n : ℕ) (core : PlanCore) (e : Refusal)
    → ((n : List ℕ) → before.holds n ≡ s.holds n) → Within small s → slice_get plan.cores n ≡ Some core → AreCoresOf before 0 (take n plan.cores) kits
    → (e ≡ NoMemory) ⊎ IsCoreWrong small name n core e → (e ≡ NoMemory) ⊎ FirstStuck s name plan (cores_steps 0 plan.cores) e
cores_err small s before name plan kits n core e seen w stands h (inl p) = inl p
cores_err small s before name plan kits n core e seen w stands h (inr wrong) =
    inr (cores_stuck s name plan plan.cores kits 0 n n core e stands (cores_seen before s seen 0 (take n plan.cores) kits h) (omega arith) (core_wrong small s w name n core e wrong))

pub cores_more : (small s before : Shelved) (cores : List PlanCore) (kits pushed : List Loaded) (n : ℕ) (core : PlanCore) (k : Loaded) → pushed ≡ kits ++ k ∷ []
    → ((n : List ℕ) → before.holds n ≡ s.holds n) → Within small s → slice_get cores n ≡ Some core → AreCoresOf before 0 (take n cores) kits
    → IsCoreOf small n core k → AreCoresOf s 0 (take (n + 1) cores) pushed
cores_more small s before cores kits pushed n core k is seen w stands h new =
    rw (is, add-one) (cores_next s cores kits 0 n n core k stands (cores_seen before s seen 0 (take n cores) kits h) (omega arith) (core_seen small s w.holds n core k new))

pub all_cores : (s : Shelved) (cores : List PlanCore) (kits : List Loaded) (n : ℕ) → n ≡ length cores → AreCoresOf s 0 (take n cores) kits → AreCoresOf s 0 cores kits
all_cores s cores kits n e h = subst (λ (cs : List PlanCore). AreCoresOf s 0 cs kits) (ap (λ (m : ℕ). take m cores) e ∙ take-length cores) h

-- ---- their kits fit the wiring

bind_ok : {A B : Type 0} (r : Result A Broken) (f : A → Result B Broken) (y : B) → (r >>= f) ≡ Ok y → (x : A) × (r ≡ Ok x) × (f x ≡ Ok y)
bind_ok (Ok x) f y e = (x, refl, e)
bind_ok (Err b) f y e = absurd cc

check_ok : (rule : NetRule) (key : List ℕ) (b : Bool) (u : Unit {0}) → check rule key b ≡ Ok u → b ≡ true
check_ok rule key true u e = refl
check_ok rule key false u e = absurd cc

-- an image is no longer than the memory, and than 65,536 bytes
image_fits : (i : ℕ) (core : PlanCore) (text bytes : List ℕ) → image_in i core text ≡ Ok bytes → (length bytes ≤ core.memory) × (length bytes ≤ 65536)
unfolding image_in
image_fits i core text bytes says =
    let fits : List ℕ → Bool = λ xs. nat_le (length xs) core.memory && nat_le (length xs) 65536 in
    let (xs, read, rest) = bind_ok (hex_in (image_key i) text) (λ ys. check rule.Image (image_key i) (fits ys) >>= (λ u. Ok ys)) bytes says in
    let (u, checked, same) = bind_ok (check rule.Image (image_key i) (fits xs)) (λ u. Ok xs) bytes rest in
    let is : xs ≡ bytes = cc in
    let within : fits bytes ≡ true = subst (λ ys. fits ys ≡ true) is (check_ok rule.Image (image_key i) (fits xs) u checked) in
    let (memory, most) = and_parts (nat_le (length bytes) core.memory) (nat_le (length bytes) 65536) within in
    (grind (arith, nat_tests), grind (arith, nat_tests))

kit_is : (s : Shelved) (i : ℕ) (core : PlanCore) (k : Loaded) → IsCoreOf s i core k → IsKitOf core k
kit_is s i core k h =
    let (memory, most) = image_fits i core h.text k.1.items h.says in
    record { short_text = most; text_fits = memory; image = h.image }

pub kits_are : (s : Shelved) (i : ℕ) (cores : List PlanCore) (kits : List Loaded) → AreCoresOf s i cores kits → AreKitsOf cores kits
kits_are s i [] [] h = record { count = refl; each = All-nil (λ (x : PlanCore × Loaded). IsKitOf x.0 x.1) }
kits_are s i [] (k ∷ ks) h = absurd h
kits_are s i (core ∷ cores) [] h = absurd h
kits_are s i (core ∷ cores) (k ∷ ks) h =
    let rest = kits_are s (i + 1) cores ks h.1 in
    record { count = ap suc rest.count; each = All-cons (λ (x : PlanCore × Loaded). IsKitOf x.0 x.1) (core, k) (zip cores ks) (kit_is s i core k h.0) rest.each }
