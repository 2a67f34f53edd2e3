-- What a step with pictures finds.
use Rattle.std.proofs.Common.{◌≡◌, ℕ, zero, suc, ◌==◌, ◌<◌, true, false, ◌&&◌, List, [], ◌∷◌, Option, Some, None, inl, inr, refl, arith, is_none, is_some, length, nat_le, slice_get, subst}
use Rattle.std.specs.List.{list_all}
use Rattle.std.proofs.lemmas.Bool.{and_parts, both_ways, cases_Bool, false≢true}
use Rattle.cam_types.specs.Metadata.{range_fault}
use Rattle.cam_types.specs.Picture.{picture}
use Rattle.cam_types.specs.declared.item.Settings.{Settings}
use Rattle.cam_types.specs.declared.number.BufferId.{BufferId}
use Rattle.cam_types.specs.declared.number.FrameNo.{FrameNo}
use Rattle.cam_types.specs.declared.number.StreamIx.{StreamIx}
use Rattle.cam_types.specs.declared.stream.StreamSpec.{StreamSpec}
use Rattle.reprocess_model.specs.declared.entry.ReEntry.{ReEntry}
use Rattle.reprocess_model.specs.declared.entry.ReEntry.TheVariants.{Fill}
use Rattle.reprocess_model.specs.declared.plan.Plan.{Plan}
use Rattle.reprocess_model.specs.declared.plan.ReCommand.{ReCommand}
use Rattle.reprocess_model.specs.declared.plan.ReCommand.TheVariants.{Request, Flush}
use Rattle.reprocess_model.specs.Due.{digest_of, fill_due}
use Rattle.reprocess_model.specs.Past.{has_input, input_holder, input_of, is_returned}
use Rattle.reprocess_model.specs.Places.{at_place}
use Rattle.reprocess_model.specs.Plan.{are_outputs, are_outputs_at, command_fits, is_output, is_plan, is_yuv, requests}
use Rattle.reprocess_model.specs.Reduce.{reduced}
use Rattle.reprocess_model.specs.Run.{IsRun}
use Rattle.reprocess_model.proofs.Facts.{filling-of}
use Rattle.reprocess_model.proofs.Held.{input-holds, output-range, output_of-taken, taken-input}
use Rattle.reprocess_model.proofs.Back.{each-at, input-returned}
use Rattle.reprocess_model.proofs.Bound.{return-fresh, return-low}
use Rattle.reprocess_model.proofs.Stuck.{accepted-parts}
use Rattle.reprocess_core.specs.Inputs.{IsTicket}
use Rattle.reprocess_core.specs.Tickets.{TicketView}
use Rattle.sha2.specs.Sha256.{sha256}

-- the input of a request whose output is filled is at the device, and the output's buffer is one of twelve
pub record IsFillable (plan : Plan) (past : List ReEntry) (n s b : ℕ) : Type 0 where
  pub input : (i : ℕ) → input_of n past ≡ Some i → (i < 3) × (input_holder i past ≡ Some n)
  pub there : is_some (input_of n past) ≡ true
  pub output : is_some (at_place plan.outputs s) ≡ true
  pub within : b < 12

pub fillable : (plan : Plan) (past : List ReEntry) (n : FrameNo) (s : StreamIx) (b : BufferId) (digest : List ℕ) → is_plan plan ≡ true → IsRun plan past → fill_due plan past n.0 s.0 ≡ Some (Fill n s b digest) → IsFillable plan past n.0 s.0 b.0
fillable plan past n s b digest valid run due =
    let filling = filling-of plan past n s b digest due in
    let range = output-range plan n.0 s.0 b.0 past run filling.output in
    let low = return-low plan n.0 s.0 b.0 past valid run filling.output in
    let fresh = return-fresh plan n.0 s.0 b.0 past run filling.output filling.held in
    let taken = output_of-taken n.0 s.0 past b.0 filling.output in
    let input = taken-input plan n.0 past run taken in
    let out : has_input n.0 past ≡ false = elim (cases_Bool (has_input n.0 past)) [
      | inl back ↦ absurd (both_ways (is_returned n.0 s.0 past) fresh (each-at plan.outputs (λ r. is_returned n.0 r past) s.0 (input-returned plan n.0 past run back) range.0))
      | inr out ↦ out
    ] in
    record {
      input = λ i at. (let same : input.0 ≡ i = (let there = input.1 in cc) in (rw same at input.2, input-holds plan i n.0 past run at out));
      there = rw input.1 refl;
      output = range.0;
      within = omega (arith, range.1, range.2, low);
    }

-- an output of a plan is no larger than its input
abbrev Fits : StreamSpec → Option StreamSpec → Type 0
Fits input (Some spec) = is_output input spec ≡ true
Fits input None = Unit {0}

fits-all : (input : StreamSpec) (a b c d : Option StreamSpec) → are_outputs_at input a b c d ≡ true → Fits input a × Fits input b × Fits input c × Fits input d
fits-all input (Some a) None None None h = (h, tt, tt, tt)
fits-all input (Some a) (Some b) None None h = let p = and_parts (is_output input a) (is_output input b) h in (p.0, p.1, tt, tt)
fits-all input (Some a) (Some b) (Some c) None h =
    let p = and_parts (is_output input a) (is_output input b && is_output input c) h in
    let q = and_parts (is_output input b) (is_output input c) p.1 in
    (p.0, q.0, q.1, tt)
fits-all input None b c d h = absurd (false≢true h)
fits-all input (Some a) None None (Some d) h = absurd (false≢true h)
fits-all input (Some a) None (Some c) None h = absurd (false≢true h)
fits-all input (Some a) None (Some c) (Some d) h = absurd (false≢true h)
fits-all input (Some a) (Some b) None (Some d) h = absurd (false≢true h)
fits-all input (Some a) (Some b) (Some c) (Some d) h = absurd (false≢true h)

fits-at : (input : StreamSpec) (o : Option StreamSpec) (spec : StreamSpec) → o ≡ Some spec → Fits input o → is_output input spec ≡ true
fits-at input o spec is fits = subst (λ (x : Option StreamSpec). Fits input x) is fits

pub output-fits : (plan : Plan) (s : ℕ) (spec : StreamSpec) → is_plan plan ≡ true → at_place plan.outputs s ≡ Some spec → is_output plan.input spec ≡ true
output-fits plan s spec valid at =
    let all = fits-all plan.input plan.outputs.a plan.outputs.b plan.outputs.c plan.outputs.d (accepted-parts plan valid).outputs in
    elim (cases_Bool (s == 0)) [
      | inl zero' ↦ fits-at plan.input plan.outputs.a spec (rw zero' at at) all.0
      | inr no0 ↦ elim (cases_Bool (s == 1)) [
        | inl one ↦ fits-at plan.input plan.outputs.b spec (rw (no0, one) at at) all.1
        | inr no1 ↦ elim (cases_Bool (s == 2)) [
          | inl two ↦ fits-at plan.input plan.outputs.c spec (rw (no0, no1, two) at at) all.2
          | inr no2 ↦ elim (cases_Bool (s == 3)) [
            | inl three ↦ fits-at plan.input plan.outputs.d spec (rw (no0, no1, no2, three) at at) all.3
            | inr no3 ↦ absurd (let at' = rw (no0, no1, no2, no3) at at in cc)
          ]
        ]
      ]
    ]

-- what a fill of the ticket of the request makes is the picture that is due
pub digest-is : (plan : Plan) (n s : ℕ) (to : StreamSpec) (ticket : TicketView) → IsTicket plan n ticket → at_place plan.outputs s ≡ Some to → sha256 (reduced ticket.spec to (picture ticket.spec ticket.settings ticket.frame.0)) ≡ digest_of plan n s
digest-is plan n s to ticket is at =
    rw (is.spec, at, is.settings, is.frame) refl

none-is : {X : Type 0} (o : Option X) → is_none o ≡ true → o ≡ None
none-is None h = refl
none-is (Some x) h = absurd (false≢true h)

-- settings of requests are in range
settings-range : (commands : List ReCommand) (n : ℕ) (s : Settings) → list_all command_fits commands ≡ true → slice_get (requests commands) n ≡ Some s → range_fault s ≡ None
settings-range [] n s all at = absurd (cc)
settings-range (Request x ∷ commands) zero s all at =
    let same : x ≡ s = cc in
    let parts = and_parts (is_none (range_fault x)) (list_all command_fits commands) all in
    let here = parts.0 in
    none-is (range_fault s) (rw same at here)
settings-range (Request x ∷ commands) (suc n) s all at = settings-range commands n s (and_parts (is_none (range_fault x)) (list_all command_fits commands) all).1 at
settings-range (Flush ∷ commands) n s all at = settings-range commands n s (and_parts true (list_all command_fits commands) all).1 at

pub plan-settings : (plan : Plan) (n : ℕ) (s : Settings) → is_plan plan ≡ true → slice_get (requests plan.commands) n ≡ Some s → range_fault s ≡ None
plan-settings plan n s h at =
    let yuv = is_yuv plan.input in
    let outs = are_outputs plan.input plan.outputs in
    let faults = nat_le (length plan.faults) 64 in
    let picks = nat_le (length plan.picks) 1024 in
    let commands = nat_le (length plan.commands) 64 in
    settings-range plan.commands n s (and_parts ((((yuv && outs) && faults) && picks) && commands) (list_all command_fits plan.commands) h).1 at
