-- What it says of the past that a buffer comes back, filled or failed: it was at the device by its frame's send.
use Rattle.std.proofs.Common.{◌≡◌, ℕ, true, ◌&&◌, ◌||◌, List, Option, Some, None, refl}
use Rattle.cam_types.specs.declared.number.BufferId.{BufferId}
use Rattle.cam_types.specs.declared.number.DeviceFenceNo.{DeviceFenceNo}
use Rattle.cam_types.specs.declared.number.FenceNo.{FenceNo}
use Rattle.cam_types.specs.declared.number.FrameNo.{FrameNo}
use Rattle.cam_types.specs.declared.number.StreamIx.{StreamIx}
use Rattle.cam_types.specs.declared.script.Script.{Script}
use Rattle.trace_model.specs.declared.entry.Entry.{Entry}
use Rattle.trace_model.specs.declared.entry.Entry.TheVariants.{Filled, Failed, Early}
use Rattle.trace_model.specs.declared.entry.Sent.{Sent}
use Rattle.trace_model.specs.Errors.{failed_due, failed_of, fence_left}
use Rattle.trace_model.specs.Filled.{early_due, filled_due, is_sound, lets_pass, may_deliver}
use Rattle.trace_model.specs.Frames.{each_earlier, has_error_request, has_shutter, target_of}
use Rattle.trace_model.specs.Open.{has_error_buffer}
use Rattle.trace_model.specs.Place.{is_at_device_by}
use Rattle.trace_laws.proofs.Shapes.{delivers, early-is, filled-is}
use Rattle.std.proofs.lemmas.Bool.{and_parts}
use Rattle.basic_lemmas.proofs.Tests.{given-where}

-- a buffer that comes back: the one that the frame was sent with for the stream, and still at the device by that send
pub record ComesBack (past : List Entry) (n s b : ℕ) : Type 0 where
  pub target : Sent
  pub found : target_of n s past ≡ Some target
  pub buffer : target.buffer.0 ≡ b
  pub out : is_at_device_by n s b past ≡ true

-- what more is said of a good one, filled or early
pub record ComesFilled (script : Script) (past : List Entry) (n s : ℕ) : Type 0 where
  pub shutter : has_shutter n past ≡ true
  pub sound : is_sound script past n s ≡ true
  pub earlier : each_earlier n (lets_pass past s) past ≡ true

back_with : (past : List Entry) (n s b : ℕ) (t : Sent) → target_of n s past ≡ Some t → t.buffer.0 ≡ b → is_at_device_by n s t.buffer.0 past ≡ true → ComesBack past n s b
back_with past n s b t found same out = record { target = t; found = found; buffer = same; out = rw same at out }

well_with : (script : Script) (past : List Entry) (n s : ℕ) (t : Sent) → may_deliver script past n s t ≡ true → ComesFilled script past n s
well_with script past n s t may = let well = delivers script past n s t may in record { shutter = well.shutter; sound = well.sound; earlier = well.earlier }

pub filled-back : (script : Script) (past : List Entry) (n : FrameNo) (s : StreamIx) (b : BufferId) (f : Option FenceNo) (d : List ℕ) → filled_due script past n.0 s.0 ≡ Some (Filled n s b f d) → ComesBack past n.0 s.0 b.0
filled-back script past n s b f d h =
    let is = filled-is script past n s b f d h in
    let t : Sent = is.0 in
    let same : t.buffer ≡ b = is.3 in
    back_with past n.0 s.0 b.0 t is.1 (rw same refl) (delivers script past n.0 s.0 t is.2).out

pub filled-well : (script : Script) (past : List Entry) (n : FrameNo) (s : StreamIx) (b : BufferId) (f : Option FenceNo) (d : List ℕ) → filled_due script past n.0 s.0 ≡ Some (Filled n s b f d) → ComesFilled script past n.0 s.0
filled-well script past n s b f d h = let is = filled-is script past n s b f d h in well_with script past n.0 s.0 is.0 is.2

pub early-back : (script : Script) (past : List Entry) (n : FrameNo) (s : StreamIx) (b : BufferId) (d : DeviceFenceNo) → early_due script past n.0 s.0 ≡ Some (Early n s b d) → ComesBack past n.0 s.0 b.0
early-back script past n s b d h =
    let is = early-is script past n s b d h in
    let t : Sent = is.0 in
    let same : t.buffer ≡ b = is.3 in
    back_with past n.0 s.0 b.0 t is.1 (rw same refl) (delivers script past n.0 s.0 t is.2).out

pub early-well : (script : Script) (past : List Entry) (n : FrameNo) (s : StreamIx) (b : BufferId) (d : DeviceFenceNo) → early_due script past n.0 s.0 ≡ Some (Early n s b d) → ComesFilled script past n.0 s.0
early-well script past n s b d h = let is = early-is script past n s b d h in well_with script past n.0 s.0 is.0 is.2

failed_back : (past : List Entry) (m u : ℕ) (o : Option Sent) (n : FrameNo) (s : StreamIx) (b : BufferId) (f : Option FenceNo) → target_of m u past ≡ o → failed_of past m u o ≡ Some (Failed n s b f) → ComesBack past m u b.0
failed_back past m u None n s b f at h = absurd (cc)
failed_back past m u (Some t) n s b f at h =
    let error = has_error_request m past || has_error_buffer m u past in
    let given = given-where (is_at_device_by m u t.buffer.0 past && error) (Failed (record { 0 = m }) (record { 0 = u }) t.buffer (fence_left t.fence past)) (Failed n s b f) h in
    let out = and_parts (is_at_device_by m u t.buffer.0 past) error given.0 in
    let same = failed_buffer (record { 0 = m }) n (record { 0 = u }) s t.buffer b (fence_left t.fence past) f given.1 in
    back_with past m u b.0 t at (rw same refl) out.0
  where
    failed_buffer : (m n : FrameNo) (u s : StreamIx) (c b : BufferId) (e f : Option FenceNo) → Failed m u c e ≡ Failed n s b f → c ≡ b
    failed_buffer m n u s c b e f h = cc

pub failed-back : (past : List Entry) (n : FrameNo) (s : StreamIx) (b : BufferId) (f : Option FenceNo) → failed_due past n.0 s.0 ≡ Some (Failed n s b f) → ComesBack past n.0 s.0 b.0
failed-back past n s b f h = failed_back past n.0 s.0 (target_of n.0 s.0 past) n s b f refl h
