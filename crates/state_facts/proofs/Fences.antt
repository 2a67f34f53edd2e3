-- The fence that a buffer has, or that a frame was sent with for it, was released.
use Rattle.std.proofs.Common.{◌≡◌, ℕ, ◌==◌, ◌+◌, Bool, true, false, ◌&&◌, List, [], ◌∷◌, Option, Some, None, refl, arith, inl, inr, nat_lt, if◌then◌else◌}
use Rattle.std.specs.List.{list_any, list_all}
use Rattle.std.proofs.lemmas.Bool.{and_parts, cases_Bool, eqb-true, false≢true}
use Rattle.std.proofs.lemmas.Bool.Decides.{nat_tests}
use Rattle.cam_types.specs.Four.{four_list}
use Rattle.cam_types.specs.declared.number.FenceNo.{FenceNo}
use Rattle.cam_types.specs.declared.script.Script.{Script}
use Rattle.trace_model.specs.declared.entry.Entry.{Entry}
use Rattle.trace_model.specs.declared.entry.Entry.TheVariants.{Send, Release, Failed}
use Rattle.trace_model.specs.declared.entry.Sent.{Sent}
use Rattle.trace_model.specs.Configuration.{buffers_of}
use Rattle.trace_model.specs.Entry.{is_release, names}
use Rattle.trace_model.specs.Fence.{fence_after, fence_of, is_passed, is_same_fence}
use Rattle.trace_model.specs.Frames.{target_of, targets_of}
use Rattle.trace_model.specs.Legal.{IsLegal}
use Rattle.trace_model.specs.Numbers.{next_fence}
use Rattle.trace_model.specs.Place.{Pool, is_at, place}
use Rattle.trace_model.specs.Send.{takes_from_pool}
use Rattle.trace_model.proofs.LawLemmas.{sends-from-pool}
use Rattle.trace_laws.proofs.Shapes.{failed-is, release-is}
use Rattle.basic_lemmas.proofs.Lists.{all-where, all-found}
use Rattle.basic_lemmas.proofs.Counts.{count-cons}

abbrev pub is_given : List Entry → Option FenceNo → Bool
is_given past None = true
is_given past (Some f) = nat_lt f.0 (next_fence past)

pub record AreGiven (past : List Entry) : Type 0 where
  pub fences : (b : ℕ) → is_given past (fence_of b past) ≡ true
  pub targets : (n : ℕ) → list_all (λ t. is_given past t.fence) (targets_of n past) ≡ true

given_more : (e : Entry) (past : List Entry) (f : Option FenceNo) → is_given past f ≡ true → is_given (e ∷ past) f ≡ true
given_more e past None h = refl
given_more e past (Some f) h = let more = count-cons is_release e past in by f.0 (next_fence past) (next_fence (e ∷ past)) _ h more
  where
    by : (f a b k : ℕ) → nat_lt f a ≡ true → b ≡ k + a → nat_lt f b ≡ true
    by f a b k h more = grind (arith, nat_tests, h, more)

given_left : (past : List Entry) (f : Option FenceNo) (passed : Bool) → is_given past f ≡ true → is_given past (if passed then None else f) ≡ true
given_left past f true h = refl
given_left past f false h = h

given_same : (past : List Entry) (f g : Option FenceNo) → is_same_fence f g ≡ true → is_given past g ≡ true → is_given past f ≡ true
given_same past None g same h = refl
given_same past (Some f) None same h = absurd (false≢true same)
given_same past (Some f) (Some g) same h = rw (eqb-true f.0 g.0 same) h

target_given : (past : List Entry) (n s : ℕ) (t : Sent) → AreGiven past → target_of n s past ≡ Some t → is_given past t.fence ≡ true
target_given past n s t given at = all-found (λ t. is_given past t.fence) (λ t. t.stream.0 == s) (targets_of n past) t (given.targets n) at

after_given : (script : Script) (past : List Entry) (e : Entry) → IsLegal script (e ∷ past) → AreGiven past → is_given (e ∷ past) (fence_after (Some e)) ≡ true
after_given script past (Release b f) legal given = let number = (release-is past b f legal.0).1 in let one = count-cons is_release (Release b f) past in by f.0 (next_fence past) (next_fence (Release b f ∷ past)) number one
  where
    by : (f a b : ℕ) → f ≡ a → b ≡ 1 + a → nat_lt f b ≡ true
    by f a b number one = grind (arith, nat_tests, number, one)
after_given script past (Failed n s b f) legal given =
    let is = failed-is past n s b f legal.0 in
    let t : Sent = is.0 in
    let left = given_left past t.fence (is_passed t.fence past) (target_given past n.0 s.0 t given is.1) in
    given_more (Failed n s b f) past f (rw (is.3) left)
after_given script past _ legal given = refl

fence_step : (script : Script) (past : List Entry) (e : Entry) (b : ℕ) → IsLegal script (e ∷ past) → AreGiven past → is_given (e ∷ past) (fence_of b (e ∷ past)) ≡ true
fence_step script past e b legal given =
    elim (cases_Bool (names b e)) [
      | inl named ↦ rw named (after_given script past e legal given)
      | inr other ↦ rw other (given_more e past (fence_of b past) (given.fences b))
    ]

all_more : (e : Entry) (past : List Entry) (ts : List Sent) → list_all (λ t. is_given past t.fence) ts ≡ true → list_all (λ t. is_given (e ∷ past) t.fence) ts ≡ true
all_more e past ts h = all-where (λ t. is_given past t.fence) (λ t. is_given (e ∷ past) t.fence) ts (λ t k. given_more e past t.fence k) h

taken_given : (past : List Entry) (t : Sent) → AreGiven past → takes_from_pool past t ≡ true → is_given past t.fence ≡ true
taken_given past t given h =
    let first = and_parts (list_any (λ b. b == t.buffer.0) (buffers_of past t.stream.0)) (is_at (place t.buffer.0 past) Pool && is_same_fence t.fence (fence_of t.buffer.0 past)) h in
    let second = and_parts (is_at (place t.buffer.0 past) Pool) (is_same_fence t.fence (fence_of t.buffer.0 past)) first.1 in
    given_same past t.fence (fence_of t.buffer.0 past) second.1 (given.fences t.buffer.0)

target_step : (script : Script) (past : List Entry) (e : Entry) (n : ℕ) → IsLegal script (e ∷ past) → AreGiven past → list_all (λ t. is_given (e ∷ past) t.fence) (targets_of n (e ∷ past)) ≡ true
target_step script past (Send m r i same targets) n legal given =
    elim (cases_Bool (m.0 == n)) [
      | inl here ↦ rw here (all_more (Send m r i same targets) past (four_list targets) (all-where (takes_from_pool past) (λ t. is_given past t.fence) (four_list targets) (λ t h. taken_given past t given h) (sends-from-pool script past m.0 r.0 i same targets legal.0)))
      | inr other ↦ rw other (all_more (Send m r i same targets) past (targets_of n past) (given.targets n))
    ]
target_step script past e n legal given = all_more e past (targets_of n past) (given.targets n)

pub are-given : (script : Script) (past : List Entry) → IsLegal script past → AreGiven past
are-given script [] legal = record { fences = λ b. refl; targets = λ n. refl }
are-given script (e ∷ past) legal = let given = are-given script past legal.1 in record { fences = λ b. fence_step script past e b legal given; targets = λ n. target_step script past e n legal given }

pub target-given : (script : Script) (past : List Entry) (n s : ℕ) (t : Sent) → IsLegal script past → target_of n s past ≡ Some t → is_given past t.fence ≡ true
target-given script past n s t legal at = target_given past n s t (are-given script past legal) at
