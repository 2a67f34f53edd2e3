-- What the steps find and leave.
use Rattle.std.proofs.Common.{◌≡◌, ℕ, ◌<◌, true, List, ◌∷◌, Option, Some, None, refl, sym, ap, ◌∙◌, arith, get_or, length}
use Rattle.cam_types.specs.declared.four.Four.{Four}
use Rattle.cam_types.specs.declared.number.FrameNo.{FrameNo}
use Rattle.reprocess_model.specs.declared.entry.InputId.{InputId}
use Rattle.reprocess_model.specs.declared.entry.ReEntry.{ReEntry}
use Rattle.reprocess_model.specs.declared.entry.ReEntry.TheVariants.{Take, Input}
use Rattle.reprocess_model.specs.declared.entry.ReOut.{ReOut}
use Rattle.reprocess_model.specs.declared.plan.Plan.{Plan}
use Rattle.reprocess_model.specs.declared.step.ReStepName.TheVariants.{TakeNext, ReturnInput}
use Rattle.reprocess_model.specs.Due.{due, input_due, step_of, take_due}
use Rattle.reprocess_model.specs.Past.{input_holder}
use Rattle.reprocess_model.specs.Plan.{requests}
use Rattle.reprocess_model.specs.Run.{IsRun}
use Rattle.reprocess_model.proofs.Calls.{requests-within}
use Rattle.reprocess_model.proofs.Facts.{inputting-of, taking-of}
use Rattle.reprocess_model.proofs.Held.{input_of-taken, least_input-home, queued-fresh, taken-input}
use Rattle.reprocess_core.proofs.Room.{step-of-due}
use Rattle.reprocess_core.specs.declared.input.Place.{Place}
use Rattle.reprocess_core.specs.declared.input.Place.TheVariants.{Out}
use Rattle.reprocess_core.specs.Inputs.{ArePlaces, IsHomeWith, IsTicket, is_home, is_out}
use Rattle.reprocess_core.specs.Tickets.{TicketView}
use Rattle.reprocess_core.proofs.Places.{home-place, out-place, ticket-place}

-- ---- which lines steps have

take-line : (line : ReEntry) → step_of line ≡ TakeNext → (n : FrameNo) × (i : InputId) × (outs : Four ReOut) × (line ≡ Take n i outs)
take-line (Take n i outs) h = (n, i, outs, refl)
take-line _ h = absurd (cc)

-- the line of a take is one
pub taken-line : (plan : Plan) (past : List ReEntry) (line : ReEntry) → take_due plan past ≡ Some line → (n : FrameNo) × (i : InputId) × (outs : Four ReOut) × (line ≡ Take n i outs)
taken-line plan past line h = take-line line (step-of-due plan past TakeNext line h)

input-line : (n : FrameNo) (line : ReEntry) → step_of line ≡ ReturnInput n → (i : InputId) × (line ≡ Input n i)
input-line n (Input m i) h = let same : m ≡ n = cc in (i, rw same refl)
input-line n _ h = absurd (cc)

-- the line of an input's return is one, of the same request
pub returned-line : (plan : Plan) (past : List ReEntry) (n : FrameNo) (line : ReEntry) → input_due plan past n.0 ≡ Some line → (i : InputId) × (line ≡ Input n i)
returned-line plan past n line h = input-line n line (step-of-due plan past (ReturnInput n) line h)

-- the due line as a step's code finds it
pub taken-is : (plan : Plan) (past : List ReEntry) (n : FrameNo) (i : InputId) (outs : Four ReOut) (o : Option ReEntry) (line : ReEntry) → o ≡ take_due plan past → o ≡ Some line → line ≡ Take n i outs → take_due plan past ≡ Some (Take n i outs)
taken-is plan past n i outs o line made some is = sym made ∙ (some ∙ ap Some is)

pub returned-is : (plan : Plan) (past : List ReEntry) (n m : FrameNo) (i : InputId) (o : Option ReEntry) (line : ReEntry) → o ≡ input_due plan past n.0 → o ≡ Some line → line ≡ Input m i → input_due plan past n.0 ≡ Some (Input n i)
returned-is plan past n m i o line made some is =
    let h : input_due plan past n.0 ≡ Some line = sym made ∙ some in
    let found = returned-line plan past n line h in
    let at = found.1 in
    let same : found.0 ≡ i = cc in
    h ∙ ap Some (at ∙ ap (λ (k : InputId). Input n k) same)

-- ---- what they find

-- a take finds a request of the plan and an input at home
pub record IsTakable (plan : Plan) (places : List (Option Place)) (n i : ℕ) : Type 0 where
  pub request : n < length (requests plan.commands)
  pub low : i < 3
  pub within : i < length places
  pub home : is_home (get_or places i None) ≡ true
  pub room : IsHomeWith plan.input (get_or places i None)

pub takable : (plan : Plan) (past : List ReEntry) (places : List (Option Place)) (n : FrameNo) (i : InputId) (outs : Four ReOut) → IsRun plan past → ArePlaces plan past places → take_due plan past ≡ Some (Take n i outs) → IsTakable plan places n.0 i.0
takable plan past places n i outs run are due =
    let taking = taking-of plan past n i outs due in
    let fresh = queued-fresh past n.0 taking.queued in
    let few = requests-within plan past run in
    let least = least_input-home past i.0 taking.input in
    let there = home-place plan (input_holder i.0 past) (get_or places i.0 None) least.1 (are.each i.0 least.0) in
    let three = are.three in
    record {
      request = omega (arith, fresh.0, few);
      low = least.0;
      within = omega (arith, least.0, three);
      home = there.0;
      room = there.1;
    }

-- the input of a request is at the device, with a ticket of the request
pub record IsOutside (plan : Plan) (places : List (Option Place)) (n i : ℕ) : Type 0 where
  pub low : i < 3
  pub within : i < length places
  pub out : is_out (get_or places i None) ≡ true
  pub ticket : (t : TicketView) → get_or places i None ≡ Some (Out t) → IsTicket plan n t

pub outside : (plan : Plan) (past : List ReEntry) (places : List (Option Place)) (n i : ℕ) → ArePlaces plan past places → i < 3 → input_holder i past ≡ Some n → IsOutside plan places n i
outside plan past places n i are low held =
    let three = are.three in
    record {
      low = low;
      within = omega (arith, low, three);
      out = out-place plan n (input_holder i past) (get_or places i None) held (are.each i low);
      ticket = λ t at. ticket-place plan n (input_holder i past) (get_or places i None) t held (are.each i low) at;
    }

-- an input that comes back is at the device
pub returnable : (plan : Plan) (past : List ReEntry) (places : List (Option Place)) (n : FrameNo) (i : InputId) → IsRun plan past → ArePlaces plan past places → input_due plan past n.0 ≡ Some (Input n i) → IsOutside plan places n.0 i.0
returnable plan past places n i run are due =
    let inputting = inputting-of plan past n i due in
    let taken = taken-input plan n.0 past run (input_of-taken n.0 past i.0 inputting.0) in
    let is = taken.1 in
    let same : taken.0 ≡ i.0 = (let there = inputting.0 in cc) in
    let low : i.0 < 3 = omega (arith, same, taken.2) in
    outside plan past places n.0 i.0 are low inputting.1

-- ---- what a step that needs no picture leaves
