-- A buffer that comes back, and a picture that comes late, is allowed where it meets its conditions.
use Rattle.std.proofs.Common.{◌≡◌, ◌↔◌, ℕ, ◌==◌, Bool, true, false, ◌&&◌, ◌||◌, not, List, Option, Some, None, IsTrue, if◌then◌else◌, refl, sym, ◌∙◌, ap, arith, find, inl, inr}
use Rattle.std.specs.Prelude.{is_some}
use Rattle.std.specs.Bool.{Decides}
use Rattle.std.specs.List.{list_all}
use Rattle.std.specs.Str.{bytes_eq}
use Rattle.std.proofs.lemmas.Bool.{and_parts, cases_eq, false≢true, ne_eqb}
use Rattle.std.proofs.lemmas.Bool.Decides.{Decides-and, Decides-eqb, Decides-like}
use Rattle.std.proofs.lemmas.Slice.Eq.{bytes_eq-Decides}
use Rattle.cam_types.specs.declared.number.BufferId.{BufferId}
use Rattle.cam_types.specs.declared.number.DeviceFenceNo.{DeviceFenceNo}
use Rattle.cam_types.specs.declared.number.FenceNo.{FenceNo}
use Rattle.cam_types.specs.declared.number.FrameNo.{FrameNo}
use Rattle.cam_types.specs.declared.number.StreamIx.{StreamIx}
use Rattle.cam_types.specs.declared.script.Script.{Script}
use Rattle.trace_model.specs.declared.entry.Entry.{Entry}
use Rattle.trace_model.specs.declared.entry.Entry.TheVariants.{Filled, Failed, Early, Late}
use Rattle.trace_model.specs.declared.entry.Sent.{Sent}
use Rattle.trace_model.specs.Entry.{is_early_with}
use Rattle.trace_model.specs.Errors.{failed_due, failed_of, fence_left}
use Rattle.trace_model.specs.Faults.{request_fault, buffer_fault}
use Rattle.trace_model.specs.Fence.{fence_in, is_late, is_passed, is_same_fence}
use Rattle.trace_model.specs.Filled.{early_due, early_of, filled_due, filled_of, late_due, late_of, lets_pass, may_deliver}
use Rattle.trace_model.specs.Frames.{each_earlier, has_error_request, has_shutter, target_of}
use Rattle.trace_model.specs.Numbers.{next_early}
use Rattle.trace_model.specs.Open.{has_error_buffer}
use Rattle.trace_model.specs.Picture.{digest_of}
use Rattle.trace_model.specs.Place.{is_at_device_by}
use Rattle.rule_conditions.specs.Returns.{early_conditions, early_holds, failed_conditions, failed_holds, filled_conditions, filled_holds, has_buffer, is_late_picture, late_conditions, late_holds}
use Rattle.rule_conditions.proofs.Tests.{by_test, no_entry, where_test}
use Rattle.basic_lemmas.proofs.Lists.{any-found}

-- of a frame that was sent with the buffer, that the one with which it was sent is at the device says the same
same_buffer : (c b : ℕ) (out : ℕ → Bool) (rest : Bool) → (((c == b) && out b) && rest) ≡ ((out c && rest) && (c == b))
same_buffer c b out rest =
    elim (cases_eq c b) [
      | inl e ↦ rw (e, (Decides-eqb b b).1 refl) (grind arith)
      | inr ne ↦ rw (ne_eqb c b ne) (grind arith)
    ]

never : (y : Entry) (rest : Bool) → IsTrue (false && rest) ↔ (None ≡ Some y)
never y rest = no_entry y

-- ---- with their pictures

fill_same : (n : FrameNo) (s : StreamIx) (c b : BufferId) (e d : List ℕ) → c.0 ≡ b.0 → d ≡ e → Filled (record { 0 = n.0 }) (record { 0 = s.0 }) c None e ≡ Filled n s b None d
fill_same n s c b e d x y =
    let k : Filled (record { 0 = n.0 }) (record { 0 = s.0 }) (record { 0 = c.0 }) None e ≡ Filled (record { 0 = n.0 }) (record { 0 = s.0 }) (record { 0 = b.0 }) None d = rw (x, y) refl in k

buffer_number : (c b : BufferId) → c ≡ b → c.0 ≡ b.0
buffer_number c b e = ap (λ (z : BufferId). z.0) e

fill_is : (n : FrameNo) (s : StreamIx) (c b : BufferId) (f : Option FenceNo) (e d : List ℕ) → IsTrue ((c.0 == b.0) && (not (is_some f) && bytes_eq d e)) ↔ (Filled (record { 0 = n.0 }) (record { 0 = s.0 }) c None e ≡ Filled n s b f d)
fill_is n s c b (Some g) e d = (λ h. absurd (false≢true (and_parts (c.0 == b.0) false h).1), λ q. absurd (cc))
fill_is n s c b None e d =
    Decides-like _ (λ h. fill_same n s c b e d h.0 h.1) (λ q. (buffer_number c b (cc), sym (cc))) (Decides-and _ _ (Decides-eqb c.0 b.0) (bytes_eq-Decides d e))

fill_bools : (mine sound out shutter error passed whole order picture fence : Bool) → ((out && (shutter && (sound && (error && ((passed && fence) && (order && (picture && true))))))) && mine) ≡ (((out && (shutter && (sound && error))) && (passed && order)) && (mine && (fence && picture)))
fill_bools mine sound out shutter error passed whole order picture fence = grind arith

fill_by : (script : Script) (past : List Entry) (n : FrameNo) (s : StreamIx) (b : BufferId) (f : Option FenceNo) (digest : List ℕ) (o : Option Sent) → IsTrue ((has_buffer o b.0 && is_at_device_by n.0 s.0 b.0 past) && (has_shutter n.0 past && ((not (request_fault script n.0) && not (buffer_fault script n.0 s.0)) && ((not (has_error_request n.0 past) && not (has_error_buffer n.0 s.0 past)) && ((is_passed (fence_in o) past && not (is_some f)) && (each_earlier n.0 (lets_pass past s.0) past && (bytes_eq digest (digest_of script past n.0 s.0) && true))))))) ↔ (filled_of script past n.0 s.0 o ≡ Some (Filled n s b f digest))
fill_by script past n s b f digest None = no_entry (Filled n s b f digest)
fill_by script past n s b f digest (Some t) =
    by_test _ _ (same_buffer t.buffer.0 b.0 (λ c. is_at_device_by n.0 s.0 c past) _ ∙ fill_bools (t.buffer.0 == b.0) (not (request_fault script n.0) && not (buffer_fault script n.0 s.0)) (is_at_device_by n.0 s.0 t.buffer.0 past) (has_shutter n.0 past) (not (has_error_request n.0 past) && not (has_error_buffer n.0 s.0 past)) (is_passed t.fence past) true (each_earlier n.0 (lets_pass past s.0) past) (bytes_eq digest (digest_of script past n.0 s.0)) (not (is_some f))) (where_test (may_deliver script past n.0 s.0 t) _ _ _ (fill_is n s t.buffer b f (digest_of script past n.0 s.0) digest))

pub filled_meets : (script : Script) (past : List Entry) (n : FrameNo) (s : StreamIx) (b : BufferId) (f : Option FenceNo) (digest : List ℕ) → IsTrue (list_all (λ c. filled_holds c script past n.0 s.0 b.0 f digest) filled_conditions) ↔ (filled_due script past n.0 s.0 ≡ Some (Filled n s b f digest))
filled_meets script past n s b f digest = fill_by script past n s b f digest (target_of n.0 s.0 past)

-- ---- early

early_same : (n : FrameNo) (s : StreamIx) (c b : BufferId) (a : ℕ) (d : DeviceFenceNo) → c.0 ≡ b.0 → d.0 ≡ a → Early (record { 0 = n.0 }) (record { 0 = s.0 }) c (record { 0 = a }) ≡ Early n s b d
early_same n s c b a d x y =
    let k : Early (record { 0 = n.0 }) (record { 0 = s.0 }) (record { 0 = c.0 }) (record { 0 = a }) ≡ Early (record { 0 = n.0 }) (record { 0 = s.0 }) (record { 0 = b.0 }) (record { 0 = d.0 }) = rw (x, y) refl in k

fence_number : (a : ℕ) (d : DeviceFenceNo) → record { 0 = a } ≡ d → d.0 ≡ a
fence_number a d e = sym (ap (λ (z : DeviceFenceNo). z.0) e)

early_is : (n : FrameNo) (s : StreamIx) (c b : BufferId) (a : ℕ) (d : DeviceFenceNo) → IsTrue ((c.0 == b.0) && (d.0 == a)) ↔ (Early (record { 0 = n.0 }) (record { 0 = s.0 }) c (record { 0 = a }) ≡ Early n s b d)
early_is n s c b a d =
    Decides-like _ (λ h. early_same n s c b a d h.0 h.1) (λ q. (buffer_number c b (cc), fence_number a d (cc))) (Decides-and _ _ (Decides-eqb c.0 b.0) (Decides-eqb d.0 a))

early_bools : (mine sound out shutter error passed order word fence : Bool) → ((out && (shutter && (sound && (error && (passed && (order && (word && (fence && true)))))))) && mine) ≡ ((word && ((out && (shutter && (sound && error))) && (passed && order))) && (mine && fence))
early_bools mine sound out shutter error passed order word fence = grind arith

early_by : (script : Script) (past : List Entry) (n : FrameNo) (s : StreamIx) (b : BufferId) (d : DeviceFenceNo) (o : Option Sent) → IsTrue ((has_buffer o b.0 && is_at_device_by n.0 s.0 b.0 past) && (has_shutter n.0 past && ((not (request_fault script n.0) && not (buffer_fault script n.0 s.0)) && ((not (has_error_request n.0 past) && not (has_error_buffer n.0 s.0 past)) && (is_passed (fence_in o) past && (each_earlier n.0 (lets_pass past s.0) past && (script.early && ((d.0 == next_early past) && true)))))))) ↔ (early_of script past n.0 s.0 o ≡ Some (Early n s b d))
early_by script past n s b d None = no_entry (Early n s b d)
early_by script past n s b d (Some t) =
    by_test _ _ (same_buffer t.buffer.0 b.0 (λ c. is_at_device_by n.0 s.0 c past) _ ∙ early_bools (t.buffer.0 == b.0) (not (request_fault script n.0) && not (buffer_fault script n.0 s.0)) (is_at_device_by n.0 s.0 t.buffer.0 past) (has_shutter n.0 past) (not (has_error_request n.0 past) && not (has_error_buffer n.0 s.0 past)) (is_passed t.fence past) (each_earlier n.0 (lets_pass past s.0) past) script.early (d.0 == next_early past)) (where_test (script.early && may_deliver script past n.0 s.0 t) _ _ _ (early_is n s t.buffer b (next_early past) d))

pub early_meets : (script : Script) (past : List Entry) (n : FrameNo) (s : StreamIx) (b : BufferId) (d : DeviceFenceNo) → IsTrue (list_all (λ c. early_holds c script past n.0 s.0 b.0 d.0) early_conditions) ↔ (early_due script past n.0 s.0 ≡ Some (Early n s b d))
early_meets script past n s b d = early_by script past n s b d (target_of n.0 s.0 past)

-- ---- late

late_same : (d : DeviceFenceNo) (e f : List ℕ) → f ≡ e → Late (record { 0 = d.0 }) e ≡ Late d f
late_same d e f x =
    let k : Late (record { 0 = d.0 }) e ≡ Late (record { 0 = d.0 }) f = rw x refl in k

late_where : (told : Bool) (d : DeviceFenceNo) (e f : List ℕ) → IsTrue (not told && (bytes_eq f e && true)) ↔ ((if told then None else Some (Late (record { 0 = d.0 }) e)) ≡ Some (Late d f))
late_where true d e f = no_entry (Late d f)
late_where false d e f =
    by_test _ _ (grind arith) (Decides-like (bytes_eq f e) (λ h. ap Some (late_same d e f h)) (λ q. sym (cc)) (bytes_eq-Decides f e))

late_none : (told : Bool) (y : Entry) → IsTrue (not told && (false && true)) ↔ (None ≡ Some y)
late_none true y = no_entry y
late_none false y = no_entry y

late_by : (script : Script) (past : List Entry) (d : DeviceFenceNo) (digest : List ℕ) (o : Option Entry) → IsTrue (is_some o && (not (is_late d.0 past) && (is_late_picture script past digest o && true))) ↔ (late_of script past d.0 o ≡ Some (Late d digest))
late_by script past d digest None = no_entry (Late d digest)
late_by script past d digest (Some (Early n s b f)) = late_where (is_late d.0 past) d (digest_of script past n.0 s.0) digest
late_by script past d digest (Some e) = late_none (is_late d.0 past) (Late d digest)

pub late_meets : (script : Script) (past : List Entry) (d : DeviceFenceNo) (digest : List ℕ) → IsTrue (list_all (λ c. late_holds c script past d.0 digest) late_conditions) ↔ (late_due script past d.0 ≡ Some (Late d digest))
late_meets script past d digest =
    by_test _ _ (ap (λ (t : Bool). t && (not (is_late d.0 past) && (is_late_picture script past digest (find (is_early_with d.0) past) && true))) (any-found (is_early_with d.0) past)) (late_by script past d digest (find (is_early_with d.0) past))

-- ---- in error

Decides-fence : (f g : Option FenceNo) → Decides (is_same_fence f g) (g ≡ f)
Decides-fence None None = (λ _. refl, λ _. refl)
Decides-fence None (Some g) = (λ h. absurd (false≢true h), λ q. absurd (cc))
Decides-fence (Some f) None = (λ h. absurd (false≢true h), λ q. absurd (cc))
Decides-fence (Some f) (Some g) =
    Decides-like (f.0 == g.0) (λ h. let k : Some (record { 0 = g.0 }) ≡ Some (record { 0 = f.0 }) = rw h refl in k) (λ q. let same : g ≡ f = cc in sym (ap (λ (z : FenceNo). z.0) same)) (Decides-eqb f.0 g.0)

failed_same : (n : FrameNo) (s : StreamIx) (c b : BufferId) (e f : Option FenceNo) → c.0 ≡ b.0 → e ≡ f → Failed (record { 0 = n.0 }) (record { 0 = s.0 }) c e ≡ Failed n s b f
failed_same n s c b e f x y =
    let k : Failed (record { 0 = n.0 }) (record { 0 = s.0 }) (record { 0 = c.0 }) e ≡ Failed (record { 0 = n.0 }) (record { 0 = s.0 }) (record { 0 = b.0 }) f = rw (x, y) refl in k

failed_is : (n : FrameNo) (s : StreamIx) (c b : BufferId) (e f : Option FenceNo) → IsTrue ((c.0 == b.0) && is_same_fence f e) ↔ (Failed (record { 0 = n.0 }) (record { 0 = s.0 }) c e ≡ Failed n s b f)
failed_is n s c b e f =
    Decides-like _ (λ h. failed_same n s c b e f h.0 h.1) (λ q. (buffer_number c b (cc), cc)) (Decides-and _ _ (Decides-eqb c.0 b.0) (Decides-fence f e))

failed_bools : (mine out told fence : Bool) → ((out && (told && (fence && true))) && mine) ≡ ((out && told) && (mine && fence))
failed_bools mine out told fence = grind arith

failed_by : (past : List Entry) (n : FrameNo) (s : StreamIx) (b : BufferId) (f : Option FenceNo) (o : Option Sent) → IsTrue ((has_buffer o b.0 && is_at_device_by n.0 s.0 b.0 past) && ((has_error_request n.0 past || has_error_buffer n.0 s.0 past) && (is_same_fence f (fence_left (fence_in o) past) && true))) ↔ (failed_of past n.0 s.0 o ≡ Some (Failed n s b f))
failed_by past n s b f None = no_entry (Failed n s b f)
failed_by past n s b f (Some t) =
    by_test _ _ (same_buffer t.buffer.0 b.0 (λ c. is_at_device_by n.0 s.0 c past) _ ∙ failed_bools (t.buffer.0 == b.0) (is_at_device_by n.0 s.0 t.buffer.0 past) (has_error_request n.0 past || has_error_buffer n.0 s.0 past) (is_same_fence f (fence_left t.fence past))) (where_test (is_at_device_by n.0 s.0 t.buffer.0 past && (has_error_request n.0 past || has_error_buffer n.0 s.0 past)) _ _ _ (failed_is n s t.buffer b (fence_left t.fence past) f))

pub failed_meets : (past : List Entry) (n : FrameNo) (s : StreamIx) (b : BufferId) (f : Option FenceNo) → IsTrue (list_all (λ c. failed_holds c past n.0 s.0 b.0 f) failed_conditions) ↔ (failed_due past n.0 s.0 ≡ Some (Failed n s b f))
failed_meets past n s b f = failed_by past n s b f (target_of n.0 s.0 past)
