-- Each frame that has ended in both cameras has one pair.
use Rattle.std.proofs.Common.{◌≡◌, ℕ, ◌==◌, ◌+◌, ◌≤◌, Bool, true, false, ◌&&◌, ◌||◌, not, List, [], ◌∷◌, ◌++◌, Option, Some, None, refl, sym, ap, ◌∙◌, arith, inl, inr, count_by, nat_lt, if◌then◌else◌}
use Rattle.std.specs.Option.{option_to_list}
use Rattle.std.proofs.lemmas.Bool.{and_from, and_parts, both_ways, cases_Bool, eq-eqb, false≢true, lt-ltb, ne_eqb, not-true}
use Rattle.cam_types.specs.declared.script.Script.{Script}
use Rattle.trace_model.specs.declared.entry.Entry.{Entry}
use Rattle.trace_model.specs.Frames.{is_sent}
use Rattle.trace_model.specs.Legal.{IsLegal}
use Rattle.trace_model.specs.Numbers.{next_number}
use Rattle.trace_model.specs.Open.{is_open}
use Rattle.trace_laws.proofs.Sends.{sent-below}
use Rattle.basic_lemmas.proofs.Counts.{count-cons, count-one, some-counted}
use Rattle.logical_call.specs.declared.pair.Paired.{Paired}
use Rattle.logical_call.specs.declared.pair.Side.{Side}
use Rattle.logical_call.specs.declared.pair.Side.TheVariants.{First, Second}
use Rattle.logical_call.specs.Laws.{EachItemHasAPair, PairsAreOfEndedFrames, PairsFollow}
use Rattle.logical_call.specs.Pairs.{is_dropped, is_ended, pair_end}
use Rattle.logical_call.specs.Sides.{AreLegal, first_part, frame_by, have_ended, is_pair_of, paired_of, pairs, second_part}
use Rattle.logical_call.specs.Taken.{drops, gives_number}
use Rattle.logical_call.proofs.Frames.{all_numbered, count-both, ends_stay, frames_agree, numbers_once}
use Rattle.logical_call.proofs.Ends.{one_ends}
use Rattle.basic_lemmas.proofs.Tests.{and-none, two-ways}

-- ---- the frame that ends is the one that is asked for

abbrev pub now_and_not_before : ℕ → Side → List Side → Bool
now_and_not_before n side sides = have_ended n (side ∷ sides) && not (have_ended n sides)

-- where the other had ended, this one hadn't
not-before : (a b : Bool) → (a && b) ≡ false → b ≡ true → a ≡ false
not-before true b h k = absurd (both_ways b h k)
not-before false b h k = refl

pub frame-by : (one two : Script) (sides : List Side) (side : Side) (n : ℕ) → AreLegal one two (side ∷ sides) → now_and_not_before n side sides ≡ true → frame_by side sides ≡ Some n
frame-by one two sides (First e) n legal h =
    let parts = and_parts (have_ended n (First e ∷ sides)) (not (have_ended n sides)) h in
    let both = and_parts (is_ended n (e ∷ first_part sides)) (is_ended n (second_part sides)) parts.0 in
    let before = not-before (is_ended n (first_part sides)) (is_ended n (second_part sides)) (not-true (have_ended n sides) parts.1) both.1 in
    one_ends one (first_part sides) e n legal.0 before both.0
frame-by one two sides (Second e) n legal h =
    let parts = and_parts (have_ended n (Second e ∷ sides)) (not (have_ended n sides)) h in
    let both = and_parts (is_ended n (first_part sides)) (is_ended n (e ∷ second_part sides)) parts.0 in
    let before = and-none (is_ended n (first_part sides)) (is_ended n (second_part sides)) (not-true (have_ended n sides) parts.1) both.0 in
    one_ends two (second_part sides) e n legal.1 before both.1

pub pairs_follow : (one two : Script) (sides : List Side) → PairsFollow one two sides
pairs_follow one two sides side n legal h = rw (frame-by one two sides side n legal h, h) refl

-- ---- what has ended stays so

pub tail-legal : (one two : Script) (side : Side) (sides : List Side) → AreLegal one two (side ∷ sides) → AreLegal one two sides
tail-legal one two (First e) sides legal = (legal.0.1, legal.1)
tail-legal one two (Second e) sides legal = (legal.0, legal.1.1)

pub both-stay : (one two : Script) (side : Side) (sides : List Side) (n : ℕ) → AreLegal one two (side ∷ sides) → have_ended n sides ≡ true → have_ended n (side ∷ sides) ≡ true
both-stay one two (First e) sides n legal h =
    let both = and_parts (is_ended n (first_part sides)) (is_ended n (second_part sides)) h in
    and_from (is_ended n (e ∷ first_part sides)) (is_ended n (second_part sides)) (ends_stay one (first_part sides) e n legal.0 both.0) both.1
both-stay one two (Second e) sides n legal h =
    let both = and_parts (is_ended n (first_part sides)) (is_ended n (second_part sides)) h in
    and_from (is_ended n (first_part sides)) (is_ended n (e ∷ second_part sides)) both.0 (ends_stay two (second_part sides) e n legal.1 both.1)

-- ---- how many pairs a frame has

-- of an entry, by the frame that it may end
count-paired : (side : Side) (sides : List Side) (n : ℕ) (o : Option ℕ) (b : Bool) → now_and_not_before n side sides ≡ b → (b ≡ true → o ≡ Some n) → count_by (is_pair_of n) (option_to_list (paired_of side sides o) ++ pairs sides) ≡ (if b then 1 else 0) + count_by (is_pair_of n) (pairs sides)
count-paired side sides n None true at h = absurd (let wrong = h refl in cc)
count-paired side sides n None false at h = omega arith
count-paired side sides n (Some m) true at h =
    let same : m ≡ n = (let at' = h refl in cc) in
    let p : Paired = record { frame = record { 0 = n }; end = pair_end n (first_part (side ∷ sides)) (second_part (side ∷ sides)) } in
    rw (same, at) (count-one (is_pair_of n) p (pairs sides) (eq-eqb n n refl))
count-paired side sides n (Some m) false at h =
    elim (cases_Bool (now_and_not_before m side sides)) [
      | inl yes' ↦ (
          let other : (m == n) ≡ false = ne_eqb m n (λ same. both_ways (now_and_not_before n side sides) at (rw same at yes')) in
          let p : Paired = record { frame = record { 0 = m }; end = pair_end m (first_part (side ∷ sides)) (second_part (side ∷ sides)) } in
          rw yes' (count-cons (is_pair_of n) p (pairs sides) ∙ rw other refl)
          )
      | inr no' ↦ rw no' (omega arith)
    ]

by-change : (old new : Bool) → (old ≡ true → new ≡ true) → (if new && not old then 1 else 0) + (if old then 1 else 0) ≡ (if new then 1 else 0)
by-change true true stays = refl
by-change true false stays = absurd (false≢true (stays refl))
by-change false true stays = refl
by-change false false stays = refl

pub pairs_once : (one two : Script) (sides : List Side) → PairsAreOfEndedFrames one two sides
pairs_once one two [] legal n = refl
pairs_once one two (side ∷ sides) legal n =
    let ih = pairs_once one two sides (tail-legal one two side sides legal) n in
    count-paired side sides n (frame_by side sides) (now_and_not_before n side sides) refl (frame-by one two sides side n legal)
    ∙ rw ih (by-change (have_ended n sides) (have_ended n (side ∷ sides)) (both-stay one two side sides n legal))

-- ---- complete runs

given-below : (k n : ℕ) (b : Bool) → k ≡ (if b then 1 else 0) → 1 ≤ k → b ≡ true
given-below k n true h some = refl
given-below k n false h some = absurd (omega (arith, h, some))

-- no frame ends whose number wasn't given away
pub ended-below : (script : Script) (past : List Entry) (n : ℕ) → IsLegal script past → is_ended n past ≡ true → nat_lt n (next_number past) ≡ true
ended-below script past n legal h =
    elim (cases_Bool (is_sent n past)) [
      | inl sent ↦ lt-ltb n (next_number past) (sent-below script past n legal sent)
      | inr no' ↦ (
          let dropped : is_dropped n past ≡ true = alone (is_dropped n past) (is_sent n past) (not (is_open n past)) no' h in
          let both = count-both n past in
          let one = some-counted (drops n) past dropped in
          given-below (count_by (gives_number n) past) n (nat_lt n (next_number past)) (numbers_once script past legal n) (omega (arith, both, one))
          )
    ]
  where
    alone : (d s o : Bool) → s ≡ false → (d || (s && o)) ≡ true → d ≡ true
    alone true s o no' h = refl
    alone false false o no' h = absurd (false≢true h)
    alone false true o no' h = absurd (false≢true (sym no'))

pub each_has_a_pair : (one two : Script) (sides : List Side) → EachItemHasAPair one two sides
each_has_a_pair one two sides twins ok ok' complete complete' n =
    let agree = frames_agree one two (first_part sides) (second_part sides) twins ok ok' complete complete' in
    let count = all_numbered one (first_part sides) ok complete in
    let test = two-ways (have_ended n sides) (nat_lt n (next_number (first_part sides)))
    (λ h. ended-below one (first_part sides) n complete.legal (and_parts (is_ended n (first_part sides)) (is_ended n (second_part sides)) h).0) (agree.ended n) in
    pairs_once one two sides (complete.legal, complete'.legal) n ∙ (ap (λ (b : Bool). if b then 1 else 0) test ∙ ap (λ k. if nat_lt n k then 1 else 0) count)
