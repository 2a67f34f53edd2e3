-- The test of a filled buffer, with its digest, says what the definition says.
use Rattle.std.proofs.Common.{◌≡◌, ◌↔◌, ℕ, ◌==◌, Bool, true, false, ◌&&◌, not, List, Option, Some, None, IsTrue, if◌then◌else◌, refl, ap, find}
use Rattle.std.specs.Prelude.{is_some}
use Rattle.std.proofs.lemmas.Bool.{and_parts, false≢true}
use Rattle.std.proofs.lemmas.Bool.Decides.{Decides-and, Decides-eqb, Decides-like}
use Rattle.cam_types.specs.declared.number.BufferId.{BufferId}
use Rattle.cam_types.specs.declared.number.DeviceFenceNo.{DeviceFenceNo}
use Rattle.cam_types.specs.declared.number.FenceNo.{FenceNo}
use Rattle.cam_types.specs.declared.number.FrameNo.{FrameNo}
use Rattle.cam_types.specs.declared.number.StreamIx.{StreamIx}
use Rattle.cam_types.specs.declared.script.Script.{Script}
use Rattle.trace_model.specs.declared.entry.Entry.{Entry}
use Rattle.trace_model.specs.declared.entry.Entry.TheVariants.{Filled, Early, Late}
use Rattle.trace_model.specs.declared.entry.Sent.{Sent}
use Rattle.trace_model.specs.Filled.{filled_of, filled_due, early_of, early_due, late_of, late_due, may_deliver}
use Rattle.trace_model.specs.Entry.{is_early_with}
use Rattle.trace_model.specs.Fence.{is_late}
use Rattle.trace_model.specs.Frames.{target_of}
use Rattle.trace_model.specs.Numbers.{next_early}
use Rattle.trace_model.specs.Picture.{digest_of}
use Rattle.judge_rules.specs.Fills.{delivers_as, fills, returns_early, early_in, fills_late, is_digest_in}

fill_same : (n : FrameNo) (s : StreamIx) (c b : BufferId) (e d : List ℕ) → c.0 ≡ b.0 → d ≡ e → Filled (record { 0 = n.0 }) (record { 0 = s.0 }) c None e ≡ Filled n s b None d
fill_same n s c b e d x y =
    let k : Filled (record { 0 = n.0 }) (record { 0 = s.0 }) (record { 0 = c.0 }) None e ≡ Filled (record { 0 = n.0 }) (record { 0 = s.0 }) (record { 0 = b.0 }) None d = rw (x, y) refl in k

buffer_number : (c b : BufferId) → c ≡ b → c.0 ≡ b.0
buffer_number c b e = ap (λ (z : BufferId). z.0) e

fill_where : (t : Bool) (n : FrameNo) (s : StreamIx) (c b : BufferId) (f : Option FenceNo) (e d : List ℕ) → (IsTrue (not (is_some f) && (t && (c.0 == b.0))) × (d ≡ e)) ↔ ((if t then Some (Filled (record { 0 = n.0 }) (record { 0 = s.0 }) c None e) else None) ≡ Some (Filled n s b f d))
fill_where false n s c b (Some g) e d = (λ h. absurd (false≢true h.0), λ q. absurd (cc))
fill_where true n s c b (Some g) e d = (λ h. absurd (false≢true h.0), λ q. absurd (cc))
fill_where false n s c b None e d = (λ h. absurd (false≢true h.0), λ q. absurd (cc))
fill_where true n s c b None e d =
    (λ h. ap Some (fill_same n s c b e d ((Decides-eqb c.0 b.0).0 h.0) h.1), λ q. ((Decides-eqb c.0 b.0).1 (buffer_number c b (cc)), cc))

fill_of : (script : Script) (past : List Entry) (n : FrameNo) (s : StreamIx) (b : BufferId) (f : Option FenceNo) (d : List ℕ) (t : Option Sent) → (IsTrue (not (is_some f) && delivers_as script past n.0 s.0 b.0 t) × (d ≡ digest_of script past n.0 s.0)) ↔ (filled_of script past n.0 s.0 t ≡ Some (Filled n s b f d))
fill_of script past n s b (Some g) d None = (λ h. absurd (false≢true h.0), λ q. absurd (cc))
fill_of script past n s b None d None = (λ h. absurd (false≢true h.0), λ q. absurd (cc))
fill_of script past n s b f d (Some t) = fill_where (may_deliver script past n.0 s.0 t) n s t.buffer b f (digest_of script past n.0 s.0) d

pub fill_rule : (script : Script) (past : List Entry) (n : FrameNo) (s : StreamIx) (b : BufferId) (f : Option FenceNo) (d : List ℕ) → (IsTrue (fills script past n.0 s.0 b.0 f) × (d ≡ digest_of script past n.0 s.0)) ↔ (filled_due script past n.0 s.0 ≡ Some (Filled n s b f d))
fill_rule script past n s b f d = fill_of script past n s b f d (target_of n.0 s.0 past)

-- ---- early returns

early_same : (n : FrameNo) (s : StreamIx) (c b : BufferId) (a : ℕ) (d : DeviceFenceNo) → a ≡ d.0 → c.0 ≡ b.0 → Early (record { 0 = n.0 }) (record { 0 = s.0 }) c (record { 0 = a }) ≡ Early n s b d
early_same n s c b a d x y =
    let k : Early (record { 0 = n.0 }) (record { 0 = s.0 }) (record { 0 = c.0 }) (record { 0 = a }) ≡ Early (record { 0 = n.0 }) (record { 0 = s.0 }) (record { 0 = b.0 }) (record { 0 = d.0 }) = rw (x, y) refl in k

device_fence_number : (a : ℕ) (d : DeviceFenceNo) → record { 0 = a } ≡ d → a ≡ d.0
device_fence_number a d e = ap (λ (z : DeviceFenceNo). z.0) e

early_where : (early t : Bool) (n : FrameNo) (s : StreamIx) (c b : BufferId) (a : ℕ) (d : DeviceFenceNo) → IsTrue ((early && (a == d.0)) && (t && (c.0 == b.0))) ↔ ((if early && t then Some (Early (record { 0 = n.0 }) (record { 0 = s.0 }) c (record { 0 = a })) else None) ≡ Some (Early n s b d))
early_where false t n s c b a d = (λ h. absurd (false≢true h), λ q. absurd (cc))
early_where true false n s c b a d = (λ h. absurd (false≢true (and_parts (a == d.0) false h).1), λ q. absurd (cc))
early_where true true n s c b a d =
    Decides-like _ (λ h. ap Some (early_same n s c b a d h.0 h.1)) (λ q. (device_fence_number a d (cc), buffer_number c b (cc))) (Decides-and _ _ (Decides-eqb a d.0) (Decides-eqb c.0 b.0))

early_at : (script : Script) (past : List Entry) (n : FrameNo) (s : StreamIx) (b : BufferId) (d : DeviceFenceNo) (t : Option Sent) → IsTrue ((script.early && (next_early past == d.0)) && delivers_as script past n.0 s.0 b.0 t) ↔ (early_of script past n.0 s.0 t ≡ Some (Early n s b d))
early_at script past n s b d None = (λ h. absurd (false≢true (and_parts (script.early && (next_early past == d.0)) false h).1), λ q. absurd (cc))
early_at script past n s b d (Some t) = early_where script.early (may_deliver script past n.0 s.0 t) n s t.buffer b (next_early past) d

pub early_rule : (script : Script) (past : List Entry) (n : FrameNo) (s : StreamIx) (b : BufferId) (d : DeviceFenceNo) → IsTrue (returns_early script past n.0 s.0 b.0 d.0) ↔ (early_due script past n.0 s.0 ≡ Some (Early n s b d))
early_rule script past n s b d = early_at script past n s b d (target_of n.0 s.0 past)

-- ---- and their signals

late_same : (d : DeviceFenceNo) (e f : List ℕ) → f ≡ e → Late (record { 0 = d.0 }) e ≡ Late d f
late_same d e f x =
    let k : Late (record { 0 = d.0 }) e ≡ Late (record { 0 = d.0 }) f = rw x refl in k

late_where : (t : Bool) (script : Script) (past : List Entry) (d : DeviceFenceNo) (n : FrameNo) (s : StreamIx) (f : List ℕ) → is_digest_in script past (if t then None else Some (n, s)) f ↔ ((if t then None else Some (Late (record { 0 = d.0 }) (digest_of script past n.0 s.0))) ≡ Some (Late d f))
late_where true script past d n s f = (λ h. absurd h, λ q. absurd (cc))
late_where false script past d n s f = (λ h. ap Some (late_same d (digest_of script past n.0 s.0) f h), λ q. cc)

late_none : (t : Bool) (script : Script) (past : List Entry) (d : DeviceFenceNo) (f : List ℕ) → is_digest_in script past (if t then None else None) f ↔ (None ≡ Some (Late d f))
late_none true script past d f = (λ h. absurd h, λ q. absurd (cc))
late_none false script past d f = (λ h. absurd h, λ q. absurd (cc))

late_at : (script : Script) (past : List Entry) (d : DeviceFenceNo) (f : List ℕ) (o : Option Entry) → is_digest_in script past (if is_late d.0 past then None else early_in o) f ↔ (late_of script past d.0 o ≡ Some (Late d f))
late_at script past d f None = late_none (is_late d.0 past) script past d f
late_at script past d f (Some (Early n s b g)) = late_where (is_late d.0 past) script past d n s f
late_at script past d f (Some e) = late_none (is_late d.0 past) script past d f

pub late_rule : (script : Script) (past : List Entry) (d : DeviceFenceNo) (f : List ℕ) → is_digest_in script past (fills_late past d.0) f ↔ (late_due script past d.0 ≡ Some (Late d f))
late_rule script past d f = late_at script past d f (find (is_early_with d.0) past)
