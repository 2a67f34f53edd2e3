-- What it says of the past that an entry is due, kind by kind.
use Rattle.std.proofs.Common.{◌≡◌, ℕ, ◌==◌, ◌<◌, Bool, true, false, ◌&&◌, ◌||◌, not, List, [], ◌∷◌, Option, Some, None, refl, ap, arith, inl, inr, nat_lt, filter, find, if◌then◌else◌}
use Rattle.std.specs.List.{list_any}
use Rattle.std.proofs.lemmas.Bool.{cases_Bool, and_parts}
use Rattle.std.proofs.lemmas.Bool.Decides.{nat_tests}
use Rattle.cam_types.specs.declared.number.BufferId.{BufferId}
use Rattle.cam_types.specs.declared.number.DeviceFenceNo.{DeviceFenceNo}
use Rattle.cam_types.specs.declared.number.FenceNo.{FenceNo}
use Rattle.cam_types.specs.declared.number.FrameNo.{FrameNo}
use Rattle.cam_types.specs.declared.number.StreamIx.{StreamIx}
use Rattle.cam_types.specs.declared.script.Script.{Script}
use Rattle.trace_model.specs.declared.entry.Entry.{Entry}
use Rattle.trace_model.specs.declared.entry.Entry.TheVariants.{Shutter, Filled, Failed, Release, Signal, Early, Late}
use Rattle.trace_model.specs.declared.entry.Sent.{Sent}
use Rattle.trace_model.specs.Errors.{failed_due, failed_of, fence_left}
use Rattle.trace_model.specs.Entry.{is_early_with}
use Rattle.trace_model.specs.Fence.{early_fence_of, is_late, is_passed, is_signalled, is_there}
use Rattle.trace_model.specs.Filled.{early_due, early_of, filled_due, filled_of, late_due, late_of, is_sound, lets_pass, may_deliver}
use Rattle.trace_model.specs.Frames.{each_earlier, frames, has_error_request, has_shutter, target_of}
use Rattle.trace_model.specs.Numbers.{next_early, next_fence}
use Rattle.trace_model.specs.Open.{has_error_buffer}
use Rattle.trace_model.specs.Picture.{digest_of}
use Rattle.trace_model.specs.Place.{Device, Client, is_at, is_at_device_by, place}
use Rattle.trace_model.specs.Release.{release_due, signal_due}
use Rattle.trace_model.specs.Shutter.{may_expose, next_time, shutter_at, shutter_due}
use Rattle.trace_model.proofs.LawLemmas.{at-device}
use Rattle.basic_lemmas.proofs.Tests.{given-where}

-- ---- what is given where a test passes

-- ---- filled buffers

filled_parts : (script : Script) (past : List Entry) (m u : ℕ) (o : Option Sent) (n : FrameNo) (s : StreamIx) (b : BufferId) (f : Option FenceNo) (d : List ℕ) → filled_of script past m u o ≡ Some (Filled n s b f d) → (t : Sent) × (o ≡ Some t) × (may_deliver script past m u t ≡ true) × (t.buffer ≡ b) × (f ≡ None) × (d ≡ digest_of script past m u)
filled_parts script past m u None n s b f d h = absurd (cc)
filled_parts script past m u (Some t) n s b f d h =
    let given = given-where (may_deliver script past m u t) (Filled (record { 0 = m }) (record { 0 = u }) t.buffer None (digest_of script past m u)) (Filled n s b f d) h in
    let same : Filled (record { 0 = m }) (record { 0 = u }) t.buffer None (digest_of script past m u) ≡ Filled n s b f d = given.1 in
    let parts = filled_buffer (record { 0 = m }) n (record { 0 = u }) s t.buffer b None f (digest_of script past m u) d same in
    (t, refl, given.0, parts.0, parts.1, parts.2)
  where
    filled_buffer : (m n : FrameNo) (u s : StreamIx) (c b : BufferId) (e f : Option FenceNo) (x d : List ℕ) → Filled m u c e x ≡ Filled n s b f d → (c ≡ b) × (f ≡ e) × (d ≡ x)
    filled_buffer m n u s c b e f x d h = (cc, cc, cc)

pub filled-is : (script : Script) (past : List Entry) (n : FrameNo) (s : StreamIx) (b : BufferId) (f : Option FenceNo) (d : List ℕ) → filled_due script past n.0 s.0 ≡ Some (Filled n s b f d) → (t : Sent) × (target_of n.0 s.0 past ≡ Some t) × (may_deliver script past n.0 s.0 t ≡ true) × (t.buffer ≡ b) × (f ≡ None) × (d ≡ digest_of script past n.0 s.0)
filled-is script past n s b f d h = filled_parts script past n.0 s.0 (target_of n.0 s.0 past) n s b f d h

-- what it says of a buffer that it may come back filled or early
pub record MayDeliver (script : Script) (past : List Entry) (n s : ℕ) (t : Sent) : Type 0 where
  pub out : is_at_device_by n s t.buffer.0 past ≡ true
  pub shutter : has_shutter n past ≡ true
  pub sound : is_sound script past n s ≡ true
  pub passed : is_passed t.fence past ≡ true
  pub earlier : each_earlier n (lets_pass past s) past ≡ true

pub delivers : (script : Script) (past : List Entry) (n s : ℕ) (t : Sent) → may_deliver script past n s t ≡ true → MayDeliver script past n s t
delivers script past n s t may =
    let both = and_parts (is_at_device_by n s t.buffer.0 past && (has_shutter n past && is_sound script past n s)) (is_passed t.fence past && each_earlier n (lets_pass past s) past) may in
    let out = and_parts (is_at_device_by n s t.buffer.0 past) (has_shutter n past && is_sound script past n s) both.0 in
    let good = and_parts (has_shutter n past) (is_sound script past n s) out.1 in
    let free = and_parts (is_passed t.fence past) (each_earlier n (lets_pass past s) past) both.1 in
    record { out = out.0; shutter = good.0; sound = good.1; passed = free.0; earlier = free.1 }

-- a filled buffer was at the device
pub filled-from-device : (script : Script) (past : List Entry) (n : FrameNo) (s : StreamIx) (b : BufferId) (f : Option FenceNo) (d : List ℕ) → filled_due script past n.0 s.0 ≡ Some (Filled n s b f d) → place b.0 past ≡ Device
filled-from-device script past n s b f d h =
    let is = filled-is script past n s b f d h in
    let t : Sent = is.0 in
    let same : t.buffer ≡ b = is.3 in
    rw (← same) (at-device n.0 s.0 t.buffer.0 past (delivers script past n.0 s.0 t is.2).out)

-- ---- early returns

where_not : {X : Type 0} (b : Bool) (x y : X) → (if b then None else Some x) ≡ Some y → (b ≡ false) × (x ≡ y)
where_not true x y h = absurd (cc)
where_not false x y h = (refl, cc)

early_parts : (script : Script) (past : List Entry) (m u : ℕ) (o : Option Sent) (n : FrameNo) (s : StreamIx) (b : BufferId) (d : DeviceFenceNo) → early_of script past m u o ≡ Some (Early n s b d) → (t : Sent) × (o ≡ Some t) × (may_deliver script past m u t ≡ true) × (t.buffer ≡ b) × (d.0 ≡ next_early past)
early_parts script past m u None n s b d h = absurd (cc)
early_parts script past m u (Some t) n s b d h =
    let given = given-where (script.early && may_deliver script past m u t) (Early (record { 0 = m }) (record { 0 = u }) t.buffer (record { 0 = next_early past })) (Early n s b d) h in
    let parts = early_buffer (record { 0 = m }) n (record { 0 = u }) s t.buffer b (record { 0 = next_early past }) d given.1 in
    (t, refl, (and_parts script.early (may_deliver script past m u t) given.0).1, parts.0, ap (λ (z : DeviceFenceNo). z.0) parts.1)
  where
    early_buffer : (m n : FrameNo) (u s : StreamIx) (c b : BufferId) (e d : DeviceFenceNo) → Early m u c e ≡ Early n s b d → (c ≡ b) × (d ≡ e)
    early_buffer m n u s c b e d h = (cc, cc)

pub early-is : (script : Script) (past : List Entry) (n : FrameNo) (s : StreamIx) (b : BufferId) (d : DeviceFenceNo) → early_due script past n.0 s.0 ≡ Some (Early n s b d) → (t : Sent) × (target_of n.0 s.0 past ≡ Some t) × (may_deliver script past n.0 s.0 t ≡ true) × (t.buffer ≡ b) × (d.0 ≡ next_early past)
early-is script past n s b d h = early_parts script past n.0 s.0 (target_of n.0 s.0 past) n s b d h

-- a buffer that comes back early was at the device by the frame's send
pub early-at-device : (script : Script) (past : List Entry) (n : FrameNo) (s : StreamIx) (b : BufferId) (d : DeviceFenceNo) → early_due script past n.0 s.0 ≡ Some (Early n s b d) → is_at_device_by n.0 s.0 b.0 past ≡ true
early-at-device script past n s b d h =
    let is = early-is script past n s b d h in
    let t : Sent = is.0 in
    let same : t.buffer ≡ b = is.3 in
    rw (← same) (delivers script past n.0 s.0 t is.2).out

pub early-from-device : (script : Script) (past : List Entry) (n : FrameNo) (s : StreamIx) (b : BufferId) (d : DeviceFenceNo) → early_due script past n.0 s.0 ≡ Some (Early n s b d) → place b.0 past ≡ Device
early-from-device script past n s b d h = at-device n.0 s.0 b.0 past (early-at-device script past n s b d h)

late_parts : (script : Script) (past : List Entry) (d : ℕ) (o : Option Entry) (g : DeviceFenceNo) (x : List ℕ) → late_of script past d o ≡ Some (Late g x) → (n : FrameNo) × (s : StreamIx) × (b : BufferId) × (f : DeviceFenceNo) × (o ≡ Some (Early n s b f)) × (is_late d past ≡ false) × (x ≡ digest_of script past n.0 s.0)
late_parts script past d (Some (Early n s b f)) g x h =
    let given = where_not (is_late d past) (Late (record { 0 = d }) (digest_of script past n.0 s.0)) (Late g x) h in
    let same = late_digest (record { 0 = d }) g (digest_of script past n.0 s.0) x given.1 in
    (n, s, b, f, refl, given.0, same)
  where
    late_digest : (d g : DeviceFenceNo) (e x : List ℕ) → Late d e ≡ Late g x → x ≡ e
    late_digest d g e x h = cc
late_parts script past d None g x h = absurd (cc)
late_parts script past d (Some _) g x h = absurd (cc)

-- what is signalled late was given early
pub late-is : (script : Script) (past : List Entry) (d : DeviceFenceNo) (x : List ℕ) → late_due script past d.0 ≡ Some (Late d x) → (n : FrameNo) × (s : StreamIx) × (b : BufferId) × (f : DeviceFenceNo) × (find (is_early_with d.0) past ≡ Some (Early n s b f)) × (is_late d.0 past ≡ false) × (x ≡ digest_of script past n.0 s.0)
late-is script past d x h = late_parts script past d.0 (find (is_early_with d.0) past) d x h

-- ---- failed buffers

failed_parts : (past : List Entry) (m u : ℕ) (o : Option Sent) (n : FrameNo) (s : StreamIx) (b : BufferId) (f : Option FenceNo) → failed_of past m u o ≡ Some (Failed n s b f) → (t : Sent) × (o ≡ Some t) × (t.buffer ≡ b) × (f ≡ fence_left t.fence past)
failed_parts past m u None n s b f h = absurd (cc)
failed_parts past m u (Some t) n s b f h =
    let given = given-where (is_at_device_by m u t.buffer.0 past && (has_error_request m past || has_error_buffer m u past)) (Failed (record { 0 = m }) (record { 0 = u }) t.buffer (fence_left t.fence past)) (Failed n s b f) h in
    let parts = failed_buffer (record { 0 = m }) n (record { 0 = u }) s t.buffer b (fence_left t.fence past) f given.1 in
    (t, refl, parts.0, parts.1)
  where
    failed_buffer : (m n : FrameNo) (u s : StreamIx) (c b : BufferId) (e f : Option FenceNo) → Failed m u c e ≡ Failed n s b f → (c ≡ b) × (f ≡ e)
    failed_buffer m n u s c b e f h = (cc, cc)

pub failed-is : (past : List Entry) (n : FrameNo) (s : StreamIx) (b : BufferId) (f : Option FenceNo) → failed_due past n.0 s.0 ≡ Some (Failed n s b f) → (t : Sent) × (target_of n.0 s.0 past ≡ Some t) × (t.buffer ≡ b) × (f ≡ fence_left t.fence past)
failed-is past n s b f h = failed_parts past n.0 s.0 (target_of n.0 s.0 past) n s b f h

pub failed-from-device : (past : List Entry) (n : FrameNo) (s : StreamIx) (b : BufferId) (f : Option FenceNo) → failed_due past n.0 s.0 ≡ Some (Failed n s b f) → place b.0 past ≡ Device
failed-from-device past n s b f h = from past n.0 s.0 (target_of n.0 s.0 past) n s b f h
  where
    by_buffer : (m n : FrameNo) (u s : StreamIx) (c b : BufferId) (e f : Option FenceNo) → Failed m u c e ≡ Failed n s b f → c ≡ b
    by_buffer m n u s c b e f h = cc

    from : (past : List Entry) (m u : ℕ) (o : Option Sent) (n : FrameNo) (s : StreamIx) (b : BufferId) (f : Option FenceNo) → failed_of past m u o ≡ Some (Failed n s b f) → place b.0 past ≡ Device
    from past m u None n s b f h = absurd (cc)
    from past m u (Some t) n s b f h =
        let given = given-where (is_at_device_by m u t.buffer.0 past && (has_error_request m past || has_error_buffer m u past)) (Failed (record { 0 = m }) (record { 0 = u }) t.buffer (fence_left t.fence past)) (Failed n s b f) h in
        let parts = failed_parts past m u (Some t) n s b f h in
        let at = at-device m u t.buffer.0 past (and_parts (is_at_device_by m u t.buffer.0 past) (has_error_request m past || has_error_buffer m u past) given.0).0 in
        let same : t.buffer ≡ b = by_buffer (record { 0 = m }) n (record { 0 = u }) s t.buffer b (fence_left t.fence past) f given.1 in
        rw (← same) at

-- ---- releases and signals

release_parts : (b c : BufferId) (f g : FenceNo) → Release c g ≡ Release b f → f ≡ g
release_parts b c f g h = cc

pub release-is : (past : List Entry) (b : BufferId) (f : FenceNo) → release_due past b.0 ≡ Some (Release b f) → (is_at (place b.0 past) Client ≡ true) × (f.0 ≡ next_fence past)
release-is past b f h =
    let given = given-where (is_at (place b.0 past) Client && is_there (early_fence_of b.0 past) past) (Release (record { 0 = b.0 }) (record { 0 = next_fence past })) (Release b f) h in
    let fence : f ≡ record { 0 = next_fence past } = release_parts b (record { 0 = b.0 }) f (record { 0 = next_fence past }) given.1 in
    ((and_parts (is_at (place b.0 past) Client) (is_there (early_fence_of b.0 past) past) given.0).0, rw fence refl)

-- what is released is filled
pub release-there : (past : List Entry) (b : BufferId) (f : FenceNo) → release_due past b.0 ≡ Some (Release b f) → is_there (early_fence_of b.0 past) past ≡ true
release-there past b f h =
    let given = given-where (is_at (place b.0 past) Client && is_there (early_fence_of b.0 past) past) (Release (record { 0 = b.0 }) (record { 0 = next_fence past })) (Release b f) h in
    (and_parts (is_at (place b.0 past) Client) (is_there (early_fence_of b.0 past) past) given.0).1

pub signal-is : (past : List Entry) (f : FenceNo) → signal_due past f.0 ≡ Some (Signal f) → f.0 < next_fence past
signal-is past f h =
    let given = given-where (nat_lt f.0 (next_fence past) && not (is_signalled f.0 past)) (Signal (record { 0 = f.0 })) (Signal f) h in
    let less = (and_parts (nat_lt f.0 (next_fence past)) (not (is_signalled f.0 past)) given.0).0 in
    let less' : nat_lt f.0 (next_fence past) ≡ true = less in
    grind (arith, nat_tests, less')

-- ---- shutters

pub found-kept : (p q : ℕ → Bool) (xs : List ℕ) (x : ℕ) → ((y : ℕ) → p y ≡ true → q y ≡ true) → find p xs ≡ Some x → list_any (λ y. y == x) (filter q xs) ≡ true
found-kept p q [] x more h = absurd (cc)
found-kept p q (y ∷ xs) x more h =
    elim (cases_Bool (p y)) [
      | inl here ↦ (
          let h' = rw here at h in
          let same : y ≡ x = cc in
          let eq : (y == x) ≡ true = grind (arith, nat_tests) in
          rw (more y here, eq) refl
          )
      | inr no' ↦ (
          let h' = rw no' at h in
          let ih = found-kept p q xs x more h' in
          elim (cases_Bool (q y)) [ inl kept ↦ rw kept (grind arith) | inr other ↦ rw other ih ]
          )
    ]

shutter_parts : (m n : FrameNo) (t u : ℕ) → Shutter m t ≡ Shutter n u → (m ≡ n) × (u ≡ t)
shutter_parts m n t u h = (cc, cc)

shutter_found : (script : Script) (past : List Entry) (o : Option ℕ) (n : FrameNo) (time : ℕ) → shutter_at script past o ≡ Some (Shutter n time) → (o ≡ Some n.0) × (time ≡ next_time script past)
shutter_found script past None n time h = absurd (cc)
shutter_found script past (Some m) n time h =
    let same : Shutter (record { 0 = m }) (next_time script past) ≡ Shutter n time = cc in
    let parts = shutter_parts (record { 0 = m }) n (next_time script past) time same in
    let number : m ≡ n.0 = ap (λ (z : FrameNo). z.0) parts.0 in
    (ap Some number, parts.1)

pub shutter-is : (script : Script) (past : List Entry) (n : FrameNo) (time : ℕ) → shutter_due script past ≡ Some (Shutter n time) → (find (may_expose script past) (frames past) ≡ Some n.0) × (time ≡ next_time script past)
shutter-is script past n time h = shutter_found script past (find (may_expose script past) (frames past)) n time h
