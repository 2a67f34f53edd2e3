-- The tests of the rules say what the definitions say.
use Rattle.std.proofs.Common.{◌≡◌, ◌↔◌, ℕ, ◌+◌, ◌==◌, Bool, true, false, ◌&&◌, List, Option, Some, None, IsTrue, if◌then◌else◌, refl, sym, ◌∙◌, ap}
use Rattle.std.proofs.lemmas.Bool.{false≢true}
use Rattle.std.proofs.lemmas.Bool.Decides.{Decides-and, Decides-like, Decides-eqb}
use Rattle.cam_types.specs.declared.number.BufferId.{BufferId}
use Rattle.cam_types.specs.declared.number.FenceNo.{FenceNo}
use Rattle.cam_types.specs.declared.number.FrameNo.{FrameNo}
use Rattle.cam_types.specs.declared.number.RequestId.{RequestId}
use Rattle.cam_types.specs.declared.partial_result.PartialResult.{PartialResult}
use Rattle.cam_types.specs.declared.script.Script.{Script}
use Rattle.cam_types.specs.Metadata.{part_at}
use Rattle.trace_model.specs.declared.entry.Entry.{Entry}
use Rattle.trace_model.specs.declared.entry.Entry.TheVariants.{Dropped, Shutter, Partial, Release}
use Rattle.trace_model.specs.Drop.{drop_of, drop_due}
use Rattle.trace_model.specs.Fence.{early_fence_of, is_there}
use Rattle.trace_model.specs.Frames.{settings_of, shutter_time}
use Rattle.trace_model.specs.Numbers.{next_number, next_fence}
use Rattle.trace_model.specs.Partial.{partial_count, partial_of, partial_due, may_have_partial}
use Rattle.trace_model.specs.Place.{Client, place, is_at}
use Rattle.trace_model.specs.Queue.{queued, first_in}
use Rattle.cam_types.specs.declared.request.WaitingItem.{WaitingItem}
use Rattle.trace_model.specs.Release.{release_due}
use Rattle.trace_model.specs.Shutter.{shutter_at, shutter_due, next_time}
use Rattle.trace_model.specs.Stopping.{is_stopping}
use Rattle.judge_rules.specs.Rules.{is_named, drops, is_at_time, exposes, releases}

pub when_some : (t : Bool) (x : Entry) → IsTrue t ↔ ((if t then Some x else None) ≡ Some x)
when_some true x = (λ _. refl, λ _. refl)
when_some false x = (λ h. absurd (false≢true h), λ e. absurd (cc))

-- an entry that is due is the same as another
pub some_same : (t : Bool) (x y : Entry) → (IsTrue t ↔ (x ≡ y)) → IsTrue t ↔ (Some x ≡ Some y)
some_same t x y h = (λ a. ap Some (h.0 a), λ e. h.1 (cc))

pub none_due : (y : Entry) → IsTrue false ↔ (None ≡ Some y)
none_due y = (λ a. absurd (false≢true a), λ e. absurd (cc))

when_other : (t q : Bool) (x : Option Entry) (y : Entry) → (IsTrue q ↔ (x ≡ Some y)) → IsTrue (t && q) ↔ ((if t then x else None) ≡ Some y)
when_other true q x y h = h
when_other false q x y h = (λ a. absurd (false≢true a), λ e. absurd (cc))

-- ---- drops

drop_same : (a : ℕ) (r : RequestId) (i : ℕ) (n : FrameNo) (q : RequestId) (j : ℕ) → a ≡ n.0 → r.0 ≡ q.0 → i ≡ j → Dropped (record { 0 = a }) r i ≡ Dropped n q j
drop_same a r i n q j x y z =
    let k : Dropped (record { 0 = a }) (record { 0 = r.0 }) i ≡ Dropped (record { 0 = n.0 }) (record { 0 = q.0 }) j = rw (x, y, z) refl in k

frame_number : (a : ℕ) (n : FrameNo) → record { 0 = a } ≡ n → a ≡ n.0
frame_number a n e = ap (λ (z : FrameNo). z.0) e

request_number : (a r : RequestId) → a ≡ r → a.0 ≡ r.0
request_number a r e = ap (λ (z : RequestId). z.0) e

fence_number : (a : ℕ) (f : FenceNo) → record { 0 = a } ≡ f → a ≡ f.0
fence_number a f e = ap (λ (z : FenceNo). z.0) e

drop_named : (past : List Entry) (w : Option WaitingItem) (n : FrameNo) (r : RequestId) (i : ℕ) → IsTrue (is_named past w n.0 r.0 i) ↔ (drop_of past w ≡ Some (Dropped n r i))
drop_named past None n r i = (λ h. absurd (false≢true h), λ e. absurd (cc))
drop_named past (Some w) n r i =
    Decides-like _ (λ h. ap Some (drop_same (next_number past) w.request w.index n r i h.0 h.1.0 h.1.1)) (λ e. (frame_number (next_number past) n (cc), (request_number w.request r (cc), cc))) (Decides-and _ _ (Decides-eqb (next_number past) n.0) (Decides-and _ _ (Decides-eqb w.request.0 r.0) (Decides-eqb w.index i)))

drop_rule : (script : Script) (past : List Entry) (n : FrameNo) (r : RequestId) (i : ℕ) → IsTrue (drops script past n.0 r.0 i) ↔ (drop_due script past ≡ Some (Dropped n r i))
drop_rule script past n r i = when_other (is_stopping past) _ _ _ (drop_named past (first_in (queued script past)) n r i)

-- by the parts of the test
pub drop_by : (script : Script) (past : List Entry) (n : FrameNo) (r : RequestId) (i : ℕ) (stopping named : Bool) → stopping ≡ is_stopping past → named ≡ is_named past (first_in (queued script past)) n.0 r.0 i → IsTrue (stopping && named) ↔ (drop_due script past ≡ Some (Dropped n r i))
drop_by script past n r i stopping named s m = rw (s, m) (drop_rule script past n r i)

-- ---- shutters

shutter_same : (a t : ℕ) (n : FrameNo) (time : ℕ) → a ≡ n.0 → t ≡ time → Shutter (record { 0 = a }) t ≡ Shutter n time
shutter_same a t n time x y =
    let k : Shutter (record { 0 = a }) t ≡ Shutter (record { 0 = n.0 }) time = rw (x, y) refl in k

at_time : (script : Script) (past : List Entry) (m : Option ℕ) (n : FrameNo) (time : ℕ) → IsTrue (is_at_time script past m n.0 time) ↔ (shutter_at script past m ≡ Some (Shutter n time))
at_time script past None n time = (λ h. absurd (false≢true h), λ e. absurd (cc))
at_time script past (Some m) n time =
    Decides-like _ (λ h. ap Some (shutter_same m (next_time script past) n time h.0 h.1)) (λ e. (frame_number m n (cc), cc)) (Decides-and _ _ (Decides-eqb m n.0) (Decides-eqb (next_time script past) time))

pub shutter_rule : (script : Script) (past : List Entry) (n : FrameNo) (time : ℕ) → IsTrue (exposes script past n.0 time) ↔ (shutter_due script past ≡ Some (Shutter n time))
shutter_rule script past n time = at_time script past _ n time

-- ---- releases

release_same : (a : ℕ) (b : BufferId) (f : FenceNo) → a ≡ f.0 → Release b (record { 0 = a }) ≡ Release b f
release_same a b f x =
    let k : Release b (record { 0 = a }) ≡ Release b (record { 0 = f.0 }) = rw x refl in k

pub release_rule : (past : List Entry) (b : BufferId) (f : FenceNo) → IsTrue (releases past b.0 f.0) ↔ (release_due past b.0 ≡ Some (Release b f))
release_rule past b f =
    when_other (is_at (place b.0 past) Client && is_there (early_fence_of b.0 past) past) (next_fence past == f.0) (Some (Release b (record { 0 = next_fence past }))) (Release b f) (Decides-like _ (λ h. ap Some (release_same (next_fence past) b f h)) (λ e. fence_number (next_fence past) f (cc)) (Decides-eqb (next_fence past) f.0))

-- ---- partial results

part_number_at : (t : Bool) (m : FrameNo) (k : ℕ) (part : PartialResult) (n : FrameNo) (j : ℕ) (other : PartialResult) → (if t then Some (Partial m k part) else None) ≡ Some (Partial n j other) → k ≡ j
part_number_at true m k part n j other e = cc
part_number_at false m k part n j other e = absurd (cc)

part_number : (script : Script) (past : List Entry) (n k : ℕ) (time : Option ℕ) (m : FrameNo) (j : ℕ) (part : PartialResult) → partial_of script past n k time ≡ Some (Partial m j part) → k ≡ j
part_number script past n k None m j part e = absurd (cc)
part_number script past n k (Some time) m j part e = part_number_at (may_have_partial script past n k) (record { 0 = n }) k (part_at k (settings_of script past n) time) m j part e

-- a part of the next number is the next
pub next_part : (script : Script) (past : List Entry) (n : FrameNo) (k : ℕ) (part : PartialResult) (due : Bool) → partial_count n.0 past + 1 ≡ k → (IsTrue due ↔ (partial_of script past n.0 k (shutter_time n.0 past) ≡ Some (Partial n k part))) → IsTrue due ↔ (partial_due script past n.0 ≡ Some (Partial n k part))
next_part script past n k part due e h = rw e h

-- a part of another number isn't
pub no_other_part : (script : Script) (past : List Entry) (n : FrameNo) (k : ℕ) (part : PartialResult) → (partial_count n.0 past + 1 == k) ≡ false → IsTrue false ↔ (partial_due script past n.0 ≡ Some (Partial n k part))
no_other_part script past n k part no' =
    (λ a. absurd (false≢true a), λ e. let same = (Decides-eqb (partial_count n.0 past + 1) k).1 (part_number script past n.0 (partial_count n.0 past + 1) (shutter_time n.0 past) n k part e) in absurd (false≢true (sym no' ∙ same)))
