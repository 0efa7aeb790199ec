-- What a step keeps: the text, the image of it, and the shape.
use Rattle.std.proofs.Common.{◌≡◌, ℕ, zero, suc, ◌+◌, ◌%◌, ◌<◌, ◌≤◌, Bool, true, false, List, [], ◌∷◌, ◌++◌, length, take, drop, Option, Some, None, refl, sym, ap, subst, ◌∙◌, arith, append_assoc}
use Rattle.std.specs.Prelude.{◌==◌, nat_lt, not, if◌then◌else◌}
use Rattle.std.proofs.lemmas.Bool.{ltb-false}
use Rattle.std.proofs.lemmas.List.{length-take, take-append-le}
use Rattle.xt_core.specs.declared.ending.Trap.{Trap}
use Rattle.xt_core.specs.declared.ending.Trap.TheVariants.{Unaligned, BadAddress, StoreText}
use Rattle.xt_core.specs.declared.action.Access.{Access}
use Rattle.xt_core.specs.declared.action.Access.TheVariants.{Nothing, Load, Store}
use Rattle.tie_desc.specs.Description.{Description}
use Rattle.tie_desc.specs.Fetching.{IsImage}
use Rattle.tie_desc.specs.declared.bundle.Bundle.{Bundle}
use Rattle.tie_desc.specs.declared.bundle.Bundle.TheVariants as bundle
use Rattle.tie_desc.specs.declared.bundle.Fetched.{Fetched}
use Rattle.tie_desc.specs.declared.bundle.Kit.{Kit}
use Rattle.tie_desc.specs.declared.bundle.Spot.{Spot}
use Rattle.tie_desc.specs.declared.bundle.Spot.TheVariants as spot
use Rattle.xt_state.specs.State.{State}
use Rattle.xt_exec.specs.declared.answer.Step.{Step}
use Rattle.xt_exec.specs.declared.answer.Step.TheVariants as steps
use Rattle.xt_exec.specs.Made.{HasShape, IsFor, text_of}
use Rattle.xt_exec.specs.Memory.{access_trap, low_bytes, overwritten, place_trap, with_access}
use Rattle.xt_exec.specs.Places.{put, put_all}
use Rattle.xt_exec.specs.Effect.{Effect, after, effect_on, next_pc, next_state, with_halt}
use Rattle.xt_exec.specs.Queues.{item_of}
use Rattle.xt_exec.specs.Step.{Acts, BundleStep, FetchedStep, bundle_at, bundle_trap, trapped}
use Rattle.xt_exec.proofs.Shapes.{shape_put_all}

-- memory, the text's end and the ending stay
record SameRest (s t : State) : Type 0 where
  memory : t.memory ≡ s.memory
  text_end : t.text_end ≡ s.text_end
  ending : t.ending ≡ s.ending

rest_put : (s : State) (place : Spot) (v : ℕ) → SameRest s (put s place v)
rest_put s (spot.Ar n) v = record { memory = refl; text_end = refl; ending = refl }
rest_put s spot.Sar v = record { memory = refl; text_end = refl; ending = refl }
rest_put s (spot.State i) v = record { memory = refl; text_end = refl; ending = refl }
rest_put s (spot.File f n) v = record { memory = refl; text_end = refl; ending = refl }
rest_put s (spot.In q) v = record { memory = refl; text_end = refl; ending = refl }
rest_put s (spot.Out q) v = record { memory = refl; text_end = refl; ending = refl }

rest_put_all : (s : State) (xs : List (Spot × ℕ)) → SameRest s (put_all s xs)
rest_put_all s [] = record { memory = refl; text_end = refl; ending = refl }
rest_put_all s (x ∷ xs) =
    let one = rest_put s x.0 x.1 in
    let more = rest_put_all (put s x.0 x.1) xs in
    record { memory = more.memory ∙ one.memory; text_end = more.text_end ∙ one.text_end; ending = more.ending ∙ one.ending }

-- a store that doesn't trap lies behind the text
some_none : {trap : Trap} → Some trap ≡ None → ⊥
some_none e = cc

record IsBehind (s : State) (address bytes : ℕ) : Type 0 where
  text : s.text_end ≤ address
  within : address + bytes ≤ length s.memory

behind_text : (s : State) (address bytes : ℕ) → place_trap s address bytes true ≡ None → IsBehind s address bytes
behind_text s address bytes h = first (address % bytes == 0) refl h
  where
    third : (b : Bool) → b ≡ nat_lt address s.text_end → (if b then Some StoreText else None) ≡ None → s.text_end ≤ address
    third true e h = absurd (some_none h)
    third false e h = ltb-false address s.text_end (sym e)

    second : (b : Bool) → b ≡ nat_lt (length s.memory) (address + bytes)
        → (if b then Some BadAddress else (if nat_lt address s.text_end then Some StoreText else None)) ≡ None → IsBehind s address bytes
    second true e h = absurd (some_none h)
    second false e h = record { text = third (nat_lt address s.text_end) refl h; within = ltb-false (length s.memory) (address + bytes) (sym e) }

    first : (b : Bool) → b ≡ (address % bytes == 0)
        → (if not b then Some Unaligned else (if nat_lt (length s.memory) (address + bytes) then Some BadAddress else (if nat_lt address s.text_end then Some StoreText else None))) ≡ None
        → IsBehind s address bytes
    first true e h = second (nat_lt (length s.memory) (address + bytes)) refl h
    first false e h = absurd (some_none h)

take-twice : {A : Type 0} (n k : ℕ) (xs : List A) → n ≤ k → take n (take k xs) ≡ take n xs
take-twice zero k xs h = refl
take-twice (suc n) zero xs h = absurd (omega arith)
take-twice (suc n) (suc k) [] h = refl
take-twice (suc n) (suc k) (x ∷ xs) h = ap (λ l. x ∷ l) (take-twice n k xs (omega arith))

text_overwritten : (memory : List ℕ) (n address : ℕ) (bytes : List ℕ) → n ≤ address → address ≤ length memory → take n (overwritten memory address bytes) ≡ take n memory
text_overwritten memory n address bytes h within =
    let long : n ≤ length (take address memory) = omega (arith, length-take address memory) in
    ap (take n) (append_assoc (take address memory) bytes (drop (address + length bytes) memory))
    ∙ take-append-le n (take address memory) (bytes ++ drop (address + length bytes) memory) long ∙ take-twice n address memory h

same_text : (s t : State) → SameRest s t → text_of t ≡ text_of s
same_text s t rest = ap (λ n. take n t.memory) rest.text_end ∙ ap (take s.text_end) rest.memory

-- an access that doesn't trap keeps text, shape and ending
text_access : (s t : State) (a : Access) → access_trap s a ≡ None → SameRest s t → text_of (with_access s a t) ≡ text_of s
text_access s t Nothing none rest = same_text s t rest
text_access s t (Load address bytes signed to) none rest = same_text s t rest
text_access s t (Store address bytes value) none rest =
    let where_is = behind_text s address bytes none in
    ap (λ n. take n (overwritten t.memory address (low_bytes bytes value))) rest.text_end
    ∙ ap (λ m. take s.text_end (overwritten m address (low_bytes bytes value))) rest.memory
    ∙ text_overwritten s.memory s.text_end address (low_bytes bytes value) where_is.text (let h = where_is.within in omega arith)

shape_access : (d : Description) (s t : State) (a : Access) → HasShape d t → HasShape d (with_access s a t)
shape_access d s t Nothing shape = shape
shape_access d s t (Load address bytes signed to) shape = record { states = shape.states; files = shape.files }
shape_access d s t (Store address bytes value) shape = record { states = shape.states; files = shape.files }

ending_access : (s t : State) (a : Access) → (with_access s a t).ending ≡ t.ending
ending_access s t Nothing = refl
ending_access s t (Load address bytes signed to) = refl
ending_access s t (Store address bytes value) = refl

made_halt : (kit : Kit) (b : Bool) (t : State) → IsFor kit t → IsFor kit (with_halt b t)
made_halt kit true t made = record { shape = record { states = made.shape.states; files = made.shape.files }; image = made.image }
made_halt kit false t made = made

made_after : (kit : Kit) (s : State) (e : Effect) (behind : ℕ) → IsFor kit s → access_trap s e.access ≡ None → IsFor kit (after e behind s)
made_after kit s e behind made none =
    let moved : State = record s { pc = next_pc behind e.target } in
    let shape : HasShape kit.desc moved = record { states = made.shape.states; files = made.shape.files } in
    let r = rest_put_all moved e.at in
    let rest : SameRest s (put_all moved e.at) = record { memory = r.memory; text_end = r.text_end; ending = r.ending } in
    let reached : State = with_access s e.access (put_all moved e.at) in
    made_halt kit e.halts reached (record {
      shape = shape_access kit.desc s (put_all moved e.at) e.access (shape_put_all kit.desc moved e.at shape);
      image = subst (λ text. IsImage kit.desc text kit.image.at) (sym (text_access s (put_all moved e.at) e.access none rest)) made.image;
    })

-- the access of a bundle's effect has the trap of the bundle
no_access_trap : (d : Description) (s : State) (items : ℕ → ℕ) (b : Bundle) → bundle_trap s b ≡ None → access_trap s (effect_on d b s items).access ≡ None
no_access_trap d s items (bundle.Core i) none = none
no_access_trap d s items (bundle.One p) none = refl
no_access_trap d s items (bundle.Wide f ps) none = refl

made_trapped : (kit : Kit) (s : State) (trap : Trap) → IsFor kit s → IsFor kit (trapped s trap)
made_trapped kit s trap made = record { shape = record { states = made.shape.states; files = made.shape.files }; image = made.image }

-- a step keeps what the state is made for
pub made_acts : (kit : Kit) (s : State) (heads : List (Option ℕ)) (b : Bundle) (size : ℕ) (answer : Step) (t : State)
    → IsFor kit s → Acts kit.desc s heads b size answer t → IsFor kit t
made_acts kit s heads b size (steps.Trapped trap) t made (p, e) = subst (IsFor kit) (sym e) (made_trapped kit s trap made)
made_acts kit s heads b size (steps.NeedsItem q) t made (p, f, e) = subst (IsFor kit) (sym e) made
made_acts kit s heads b size (steps.Stepped pushed) t made (p, h, n, q, e) =
    subst (IsFor kit) (sym e)
    (made_after kit s (effect_on kit.desc b s (item_of kit.desc heads)) (s.pc + size) made (no_access_trap kit.desc s (item_of kit.desc heads) b p))
made_acts kit s heads b size steps.Halted t made (p, h, n, e) =
    subst (IsFor kit) (sym e)
    (made_after kit s (effect_on kit.desc b s (item_of kit.desc heads)) (s.pc + size) made (no_access_trap kit.desc s (item_of kit.desc heads) b p))

-- a step that goes on leaves a running processor running
ending_after : (s : State) (e : Effect) (behind : ℕ) → e.halts ≡ false → (after e behind s).ending ≡ s.ending
ending_after s e behind h =
    let moved : State = record s { pc = next_pc behind e.target } in
    ap (λ b. (with_halt b (with_access s e.access (put_all moved e.at))).ending) h
    ∙ ending_access s (put_all moved e.at) e.access ∙ (rest_put_all moved e.at).ending

pub acts_ending : (d : Description) (s : State) (heads : List (Option ℕ)) (b : Bundle) (size : ℕ) (pushed : List (Option ℕ)) (t : State)
    → Acts d s heads b size (steps.Stepped pushed) t → t.ending ≡ s.ending
acts_ending d s heads b size pushed t (p, h, n, q, e) =
    ap (λ x. x.ending) e ∙ ending_after s (effect_on d b s (item_of d heads)) (s.pc + size) n

pub step_ending : (kit : Kit) (s : State) (heads : List (Option ℕ)) (pushed : List (Option ℕ)) (t : State)
    → BundleStep kit s heads (steps.Stepped pushed) t → t.ending ≡ s.ending
step_ending kit s heads pushed t h = by_fetched (bundle_at kit s) h
  where
    by_fetched : (o : Option Fetched) → FetchedStep kit.desc s heads o (steps.Stepped pushed) t → t.ending ≡ s.ending
    by_fetched None (p, e) = cc
    by_fetched (Some f) h = acts_ending kit.desc s heads f.bundle f.length pushed t h
