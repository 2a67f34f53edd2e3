-- What a line that is due says.
use Rattle.std.proofs.Common.{◌≡◌, ℕ, Bool, true, false, ◌&&◌, ◌||◌, not, List, Option, Some, None, refl, ap, ◌∙◌}
use Rattle.std.proofs.lemmas.Bool.{and_parts, eqb-true, eq-eqb, not-true}
use Rattle.cam_types.specs.declared.four.Four.{Four}
use Rattle.cam_types.specs.declared.number.BufferId.{BufferId}
use Rattle.cam_types.specs.declared.number.FrameNo.{FrameNo}
use Rattle.cam_types.specs.declared.number.StreamIx.{StreamIx}
use Rattle.reprocess_model.specs.declared.entry.InputId.{InputId}
use Rattle.reprocess_model.specs.declared.entry.ReEntry.{ReEntry}
use Rattle.reprocess_model.specs.declared.entry.ReEntry.TheVariants.{Take, Dropped, Error, Failed, Fill, Input}
use Rattle.reprocess_model.specs.declared.entry.ReOut.{ReOut}
use Rattle.reprocess_model.specs.declared.plan.Plan.{Plan}
use Rattle.reprocess_model.specs.Due.{when, take_with, take_due, take_line, out_for, has_outs, drop_of, drop_due, failed_with, failed_due, fill_with, fill_due, may_fill, input_with, input_due, all_returned, error_due, may_fail, is_faulty, is_next_for, digest_of}
use Rattle.reprocess_model.specs.Past.{is_taken, least_queued, is_stopping, is_stopped, has_error, has_fill, has_input, input_of, output_of, input_holder, output_holder, is_by, least_input}

pub when-some : (t : Bool) (e d : ReEntry) → when t e ≡ Some d → (t ≡ true) × (e ≡ d)
when-some true e d h = (refl, cc)
when-some false e d h = absurd (cc)

pub is_by-some : (n : ℕ) (o : Option ℕ) → is_by n o ≡ true → o ≡ Some n
is_by-some n (Some m) h = ap Some (eqb-true m n h)
is_by-some n None h = absurd (cc)

pub some-is_by : (n : ℕ) (o : Option ℕ) → o ≡ Some n → is_by n o ≡ true
some-is_by n (Some m) h = let same : m ≡ n = cc in eq-eqb m n same
some-is_by n None h = absurd (cc)

-- the buffers that are at home for the outputs
abbrev pub outs_for : Plan → List ReEntry → Four ReOut
outs_for plan past =
    record {
      a = out_for 0 plan.outputs.a past;
      b = out_for 1 plan.outputs.b past;
      c = out_for 2 plan.outputs.c past;
      d = out_for 3 plan.outputs.d past;
    }

pub record IsTaking (plan : Plan) (past : List ReEntry) (n i : ℕ) (outs : Four ReOut) : Type 0 where
  pub queued : least_queued past ≡ Some n
  pub input : least_input past ≡ Some i
  pub going : is_stopping past ≡ false
  pub served : has_outs plan past ≡ true
  pub buffers : outs_for plan past ≡ outs

taking : (plan : Plan) (past : List ReEntry) (q k : Option ℕ) (n : FrameNo) (i : InputId) (outs : Four ReOut) → least_queued past ≡ q → least_input past ≡ k → take_with plan past q k ≡ Some (Take n i outs) → IsTaking plan past n.0 i.0 outs
taking plan past None k n i outs eq ek h = absurd (cc)
taking plan past (Some a) None n i outs eq ek h = absurd (cc)
taking plan past (Some a) (Some b) n i outs eq ek h =
    let w = when-some (not (is_stopping past) && has_outs plan past) (take_line plan past a b) (Take n i outs) h in
    let parts = and_parts (not (is_stopping past)) (has_outs plan past) w.0 in
    let frame : ◌≡◌ {A = FrameNo} (record { 0 = a }) n = cc in
    let input : ◌≡◌ {A = InputId} (record { 0 = b }) i = cc in
    let outs' : outs_for plan past ≡ outs = cc in
    record {
      queued = eq ∙ ap (λ (x : FrameNo). Some x.0) frame;
      input = ek ∙ ap (λ (x : InputId). Some x.0) input;
      going = not-true (is_stopping past) parts.0;
      served = parts.1;
      buffers = outs';
    }

pub taking-of : (plan : Plan) (past : List ReEntry) (n : FrameNo) (i : InputId) (outs : Four ReOut) → take_due plan past ≡ Some (Take n i outs) → IsTaking plan past n.0 i.0 outs
taking-of plan past n i outs h = taking plan past (least_queued past) (least_input past) n i outs refl refl h

dropping : (past : List ReEntry) (q : Option ℕ) (n : FrameNo) → drop_of past q ≡ Some (Dropped n) → (q ≡ Some n.0) × (is_stopping past ≡ true)
dropping past None n h = absurd (cc)
dropping past (Some a) n h =
    let w = when-some (is_stopping past) (Dropped (record { 0 = a })) (Dropped n) h in
    let frame : ◌≡◌ {A = FrameNo} (record { 0 = a }) n = cc in
    (ap (λ (x : FrameNo). Some x.0) frame, w.0)

pub dropping-of : (past : List ReEntry) (n : FrameNo) → drop_due past ≡ Some (Dropped n) → (least_queued past ≡ Some n.0) × (is_stopping past ≡ true)
dropping-of past n h = dropping past (least_queued past) n h

failing : (past : List ReEntry) (n : FrameNo) (s : StreamIx) (c : BufferId) (o : Option ℕ) → failed_with past n.0 s.0 o ≡ Some (Failed n s c) → (o ≡ Some c.0) × (has_error n.0 past ≡ true) × (output_holder c.0 past ≡ Some n.0)
failing past n s c None h = absurd (cc)
failing past n s c (Some b) h =
    let w = when-some (has_error n.0 past && is_by n.0 (output_holder b past)) (Failed n s (record { 0 = b })) (Failed n s c) h in
    let parts = and_parts (has_error n.0 past) (is_by n.0 (output_holder b past)) w.0 in
    let buffer : ◌≡◌ {A = BufferId} (record { 0 = b }) c = cc in
    let same : b ≡ c.0 = ap (λ (x : BufferId). x.0) buffer in
    (ap Some same, parts.0, is_by-some n.0 (output_holder c.0 past) (rw same at parts.1))

pub failing-of : (past : List ReEntry) (n : FrameNo) (s : StreamIx) (c : BufferId) → failed_due past n.0 s.0 ≡ Some (Failed n s c) → (output_of n.0 s.0 past ≡ Some c.0) × (has_error n.0 past ≡ true) × (output_holder c.0 past ≡ Some n.0)
failing-of past n s c h = failing past n s c (output_of n.0 s.0 past) h

pub record IsFilling (plan : Plan) (past : List ReEntry) (n s c : ℕ) : Type 0 where
  pub output : output_of n s past ≡ Some c
  pub held : output_holder c past ≡ Some n
  pub sound : has_error n past ≡ false
  pub faultless : is_faulty plan n ≡ false
  pub next : is_next_for past n s ≡ true

filling : (plan : Plan) (past : List ReEntry) (n : FrameNo) (s : StreamIx) (c : BufferId) (digest : List ℕ) (o : Option ℕ) → output_of n.0 s.0 past ≡ o → fill_with plan past n.0 s.0 o ≡ Some (Fill n s c digest) → IsFilling plan past n.0 s.0 c.0
filling plan past n s c digest None eo h = absurd (cc)
filling plan past n s c digest (Some b) eo h =
    let w = when-some (may_fill plan past n.0 s.0 b) (Fill n s (record { 0 = b }) (digest_of plan n.0 s.0)) (Fill n s c digest) h in
    let p = and_parts (is_by n.0 (output_holder b past)) (not (has_error n.0 past) && (not (is_faulty plan n.0) && is_next_for past n.0 s.0)) w.0 in
    let q = and_parts (not (has_error n.0 past)) (not (is_faulty plan n.0) && is_next_for past n.0 s.0) p.1 in
    let r = and_parts (not (is_faulty plan n.0)) (is_next_for past n.0 s.0) q.1 in
    let buffer : ◌≡◌ {A = BufferId} (record { 0 = b }) c = cc in
    let same : b ≡ c.0 = ap (λ (x : BufferId). x.0) buffer in
    record {
      output = eo ∙ ap Some same;
      held = is_by-some n.0 (output_holder c.0 past) (rw same at p.0);
      sound = not-true (has_error n.0 past) q.0;
      faultless = not-true (is_faulty plan n.0) r.0;
      next = r.1;
    }

pub filling-of : (plan : Plan) (past : List ReEntry) (n : FrameNo) (s : StreamIx) (c : BufferId) (digest : List ℕ) → fill_due plan past n.0 s.0 ≡ Some (Fill n s c digest) → IsFilling plan past n.0 s.0 c.0
filling-of plan past n s c digest h = filling plan past n s c digest (output_of n.0 s.0 past) refl h

inputting : (plan : Plan) (past : List ReEntry) (n : FrameNo) (j : InputId) (o : Option ℕ) → input_with plan past n.0 o ≡ Some (Input n j) → (o ≡ Some j.0) × (input_holder j.0 past ≡ Some n.0) × (all_returned plan past n.0 ≡ true)
inputting plan past n j None h = absurd (cc)
inputting plan past n j (Some i) h =
    let w = when-some (is_by n.0 (input_holder i past) && all_returned plan past n.0) (Input n (record { 0 = i })) (Input n j) h in
    let parts = and_parts (is_by n.0 (input_holder i past)) (all_returned plan past n.0) w.0 in
    let input : ◌≡◌ {A = InputId} (record { 0 = i }) j = cc in
    let same : i ≡ j.0 = ap (λ (x : InputId). x.0) input in
    (ap Some same, is_by-some n.0 (input_holder j.0 past) (rw same at parts.0), parts.1)

pub inputting-of : (plan : Plan) (past : List ReEntry) (n : FrameNo) (j : InputId) → input_due plan past n.0 ≡ Some (Input n j) → (input_of n.0 past ≡ Some j.0) × (input_holder j.0 past ≡ Some n.0) × (all_returned plan past n.0 ≡ true)
inputting-of plan past n j h = inputting plan past n j (input_of n.0 past) h

pub record IsErring (plan : Plan) (past : List ReEntry) (n : ℕ) : Type 0 where
  pub taken : is_taken n past ≡ true
  pub first : has_error n past ≡ false
  pub unfilled : has_fill n past ≡ false
  pub there : has_input n past ≡ false
  pub cause : (is_faulty plan n || is_stopped n past) ≡ true

pub erring-of : (plan : Plan) (past : List ReEntry) (n : FrameNo) → error_due plan past n.0 ≡ Some (Error n) → IsErring plan past n.0
erring-of plan past n h =
    let w = when-some (may_fail plan past n.0) (Error n) (Error n) h in
    let p = and_parts (is_taken n.0 past) (not (has_error n.0 past) && (not (has_fill n.0 past) && (not (has_input n.0 past) && (is_faulty plan n.0 || is_stopped n.0 past)))) w.0 in
    let q = and_parts (not (has_error n.0 past)) (not (has_fill n.0 past) && (not (has_input n.0 past) && (is_faulty plan n.0 || is_stopped n.0 past))) p.1 in
    let r = and_parts (not (has_fill n.0 past)) (not (has_input n.0 past) && (is_faulty plan n.0 || is_stopped n.0 past)) q.1 in
    let t = and_parts (not (has_input n.0 past)) (is_faulty plan n.0 || is_stopped n.0 past) r.1 in
    record {
      taken = p.0;
      first = not-true (has_error n.0 past) q.0;
      unfilled = not-true (has_fill n.0 past) r.0;
      there = not-true (has_input n.0 past) t.0;
      cause = t.1;
    }
