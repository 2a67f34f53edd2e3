-- The targets of an item: the least buffer of each of its streams.
use Rattle.std.proofs.Common.{◌≡◌, ℕ, ◌&&◌, Bool, true, false, if◌then◌else◌, List, [], ◌∷◌, Option, Some, None, refl, ◌∙◌, ap, inl, inr}
use Rattle.std.specs.Prelude.{filter, is_some}
use Rattle.std.specs.Option.{option_map}
use Rattle.std.proofs.lemmas.Bool.{and_parts, cases_Bool, false≢true}
use Rattle.cam_types.specs.Four.{four_list, four_of}
use Rattle.cam_types.specs.declared.four.Four.{Four}
use Rattle.cam_types.specs.declared.stream.StreamSpec.{StreamSpec}
use Rattle.buffer_pool.specs.declared.parked.Parked.{Parked}
use Rattle.trace_model.specs.declared.entry.Sent.{Sent}
use Rattle.trace_model.specs.Send.{with_target}
use Rattle.state_facts.specs.Homes.{Homes}
use Rattle.buffer_manager.specs.Managed.{Managed, sent_away, sent_if}
use Rattle.buffer_manager.specs.Taking.{IsTakenAt, has_one, least_target_in, least_targets_in, no_four, put_before, target_if}

-- the targets of up to four streams go to the device
pub sent-all : (a b c d : Option Sent) (m : Managed) → sent_if a (sent_if b (sent_if c (sent_if d m))) ≡ sent_away (four_list (put_before a (put_before b (put_before c (put_before d no_four))))) m
sent-all (Some a) (Some b) (Some c) (Some d) m = refl
sent-all (Some a) (Some b) (Some c) None m = refl
sent-all (Some a) (Some b) None (Some d) m = refl
sent-all (Some a) (Some b) None None m = refl
sent-all (Some a) None (Some c) (Some d) m = refl
sent-all (Some a) None (Some c) None m = refl
sent-all (Some a) None None (Some d) m = refl
sent-all (Some a) None None None m = refl
sent-all None (Some b) (Some c) (Some d) m = refl
sent-all None (Some b) (Some c) None m = refl
sent-all None (Some b) None (Some d) m = refl
sent-all None (Some b) None None m = refl
sent-all None None (Some c) (Some d) m = refl
sent-all None None (Some c) None m = refl
sent-all None None None (Some d) m = refl
sent-all None None None None m = refl

-- one, two and three targets leave a place
pub room-one : (a : Option Sent) → (put_before a no_four).d ≡ None
room-one (Some a) = refl
room-one None = refl

pub room-two : (a b : Option Sent) → (put_before a (put_before b no_four)).d ≡ None
room-two (Some a) (Some b) = refl
room-two (Some a) None = refl
room-two None (Some b) = refl
room-two None None = refl

pub room-three : (a b c : Option Sent) → (put_before a (put_before b (put_before c no_four))).d ≡ None
room-three (Some a) (Some b) (Some c) = refl
room-three (Some a) (Some b) None = refl
room-three (Some a) None (Some c) = refl
room-three (Some a) None None = refl
room-three None (Some b) (Some c) = refl
room-three None (Some b) None = refl
room-three None None (Some c) = refl
room-three None None None = refl

-- where there is no target, nothing is parked
pub none-parked : (specs : List StreamSpec) (t : Option Sent) (p : Option Parked) → t ≡ None → IsTakenAt specs t p → p ≡ None
none-parked specs (Some t) p h taken = absurd (cc)
none-parked specs None (Some p) h taken = absurd taken
none-parked specs None None h taken = refl

four-before : (asked : Bool) (t : Option Sent) (rest : Option (List Sent)) (four : Four Sent) → (asked ≡ true → is_some t ≡ true) → option_map four_of rest ≡ Some four → option_map four_of (if asked then with_target t rest else rest) ≡ Some (put_before (if asked then t else None) four)
four-before true (Some t) (Some xs) four there h = (let same : four_of xs ≡ four = cc in ap (λ (f : Four Sent). Some (put_before (Some t) f)) same)
four-before true (Some t) None four there h = absurd (cc)
four-before true None rest four there h = absurd (false≢true (there refl))
four-before false t rest four there h = h

one-more : (homes : Homes) (w : ℕ → Bool) (s : ℕ) (streams : List ℕ) → least_targets_in homes (filter w (s ∷ streams)) ≡ (if w s then with_target (least_target_in homes s) (least_targets_in homes (filter w streams)) else least_targets_in homes (filter w streams))
one-more homes w s streams = elim (cases_Bool (w s)) [
  | inl yes' ↦ rw yes' refl
  | inr no' ↦ rw no' refl
]

there-one : (homes : Homes) (asked : Bool) (s : ℕ) → has_one homes asked s ≡ true → asked ≡ true → is_some (least_target_in homes s) ≡ true
there-one homes true s h is = h
there-one homes false s h is = absurd (false≢true is)

-- each stream that is asked for has a buffer at home: their least are the targets
pub targets-are : (homes : Homes) (w : ℕ → Bool) → (has_one homes (w 0) 0 && (has_one homes (w 1) 1 && (has_one homes (w 2) 2 && has_one homes (w 3) 3))) ≡ true → option_map four_of (least_targets_in homes (filter w (0 ∷ (1 ∷ (2 ∷ (3 ∷ [])))))) ≡ Some (put_before (target_if (w 0) homes 0) (put_before (target_if (w 1) homes 1) (put_before (target_if (w 2) homes 2) (put_before (target_if (w 3) homes 3) no_four))))
targets-are homes w h =
    let p = and_parts (has_one homes (w 0) 0) (has_one homes (w 1) 1 && (has_one homes (w 2) 2 && has_one homes (w 3) 3)) h in
    let q = and_parts (has_one homes (w 1) 1) (has_one homes (w 2) 2 && has_one homes (w 3) 3) p.1 in
    let r = and_parts (has_one homes (w 2) 2) (has_one homes (w 3) 3) q.1 in
    let last = ap (option_map four_of) (one-more homes w 3 []) ∙ four-before (w 3) (least_target_in homes 3) (Some []) no_four (there-one homes (w 3) 3 r.1) refl in
    let third = ap (option_map four_of) (one-more homes w 2 (3 ∷ [])) ∙ four-before (w 2) (least_target_in homes 2) (least_targets_in homes (filter w (3 ∷ []))) (put_before (target_if (w 3) homes 3) no_four) (there-one homes (w 2) 2 r.0) last in
    let second = ap (option_map four_of) (one-more homes w 1 (2 ∷ (3 ∷ []))) ∙ four-before (w 1) (least_target_in homes 1) (least_targets_in homes (filter w (2 ∷ (3 ∷ [])))) (put_before (target_if (w 2) homes 2) (put_before (target_if (w 3) homes 3) no_four)) (there-one homes (w 1) 1 q.0) third in
    ap (option_map four_of) (one-more homes w 0 (1 ∷ (2 ∷ (3 ∷ [])))) ∙ four-before (w 0) (least_target_in homes 0) (least_targets_in homes (filter w (1 ∷ (2 ∷ (3 ∷ []))))) (put_before (target_if (w 1) homes 1) (put_before (target_if (w 2) homes 2) (put_before (target_if (w 3) homes 3) no_four))) (there-one homes (w 0) 0 p.0) second

-- ---- whether there are buffers for all

some-with : (t : Option Sent) (rest : Option (List Sent)) → is_some (with_target t rest) ≡ (is_some t && is_some rest)
some-with (Some t) (Some ts) = refl
some-with (Some t) None = refl
some-with None (Some ts) = refl
some-with None None = refl

some-more : (homes : Homes) (w : ℕ → Bool) (s : ℕ) (streams : List ℕ) → is_some (least_targets_in homes (filter w (s ∷ streams))) ≡ (has_one homes (w s) s && is_some (least_targets_in homes (filter w streams)))
some-more homes w s streams = elim (cases_Bool (w s)) [
  | inl yes' ↦ rw yes' (some-with (least_target_in homes s) (least_targets_in homes (filter w streams)))
  | inr no' ↦ rw no' refl
]

and-true : (b : Bool) → (b && true) ≡ b
and-true true = refl
and-true false = refl

-- each stream that is asked for has a buffer at home exactly where the item has its targets
pub targets-some : (homes : Homes) (w : ℕ → Bool) → (has_one homes (w 0) 0 && (has_one homes (w 1) 1 && (has_one homes (w 2) 2 && has_one homes (w 3) 3))) ≡ is_some (least_targets_in homes (filter w (0 ∷ (1 ∷ (2 ∷ (3 ∷ []))))))
targets-some homes w =
    let last = some-more homes w 3 [] ∙ and-true (has_one homes (w 3) 3) in
    let third = some-more homes w 2 (3 ∷ []) in
    let second = some-more homes w 1 (2 ∷ (3 ∷ [])) in
    let first = some-more homes w 0 (1 ∷ (2 ∷ (3 ∷ []))) in
    rw (first, second, third, last) refl
