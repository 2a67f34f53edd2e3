use Rattle.std.proofs.Common.{◌≡◌, Some, sym, ap, ◌∙◌}
use Rattle.cam_types.specs.declared.number.FrameNo.{FrameNo}
use Rattle.device_rows.specs.declared.entry.ErrorEntry.{ErrorEntry}
use Rattle.device_rows.specs.declared.entry.ErrorEntry.TheVariants.{Device}
use Rattle.device_rows.specs.Ready.{next_error}
use Rattle.device_rows.specs.Rows.{with_error, with_row}
use Rattle.service_state.specs.Serving.{IsKept}
use Rattle.service_state.specs.declared.state.ServiceState.TheInside.{Inside}
use Rattle.service_state.proofs.Told.{error_of, error_rows}
use Rattle.service_state.proofs.FrameSteps.{IsErrorOf, device_fails, device_fits, error_change, fails}
use Rattle.service_state.proofs.Made.{held, makes_as, serving_as}
use Rattle.service_state.proofs.state.ServiceState.fail.Goals as goal

-- an error of a frame, and not of the device
record IsFailing (i : Inside) (n : FrameNo) (error : ErrorEntry) : Type 0 where
  at : next_error i.script.faults i.device.rows n.0 ≡ Some error
  of : IsErrorOf n error
  rows : with_error error i.device.rows ≡ with_row n.0 (error_change error) i.device.rows

failing : (i : Inside) → IsKept i.script i.client i.captures i.buffers i.fences i.signals i.device → (n : FrameNo) (error : ErrorEntry) → Some error ≡ next_error i.device.faults i.device.rows n.0 → (error ≡ Device → ⊥) → IsFailing i n error
failing i kept n error next other =
    let at : next_error i.script.faults i.device.rows n.0 ≡ Some error = rw (sym kept.faults) (sym next) in
    let of = error_of i.script.faults i.device.rows n error at other in
    record { at = at; of = of; rows = error_rows n error i.device.rows of }

pub note-requires : goal.note-requires
note-requires c =
    let s = held c.self.inside in
    let serving = serving_as s c.args.self.now c.self.view_is c.requires in
    rw (c.entry_of-entry.ensures, c.in-Device.is) (device_fits s serving c.args.frame (rw (sym c.self.invariant.faults) (sym c.in_ok-error.ensures.error ∙ ap Some c.in-Device.is)))

pub note_entry-requires : goal.note_entry-requires
note_entry-requires c =
    let s = held c.self.inside in
    let serving = serving_as s c.args.self.now c.self.view_is c.requires in
    let it = failing c.self.inside c.self.invariant c.args.frame c.in_ok-error.error c.in_ok-error.ensures.error c.in_default.not-Device in
    rw (c.of-ending.ensures, c.in_ok-error.ensures.rows, c.entry_of-entry.ensures, it.rows) (fails s serving c.args.frame c.in_ok-error.error it.at it.of).fits

pub returns-in-Device : goal.returns-in-Device
returns-in-Device c =
    let s = held c.self.inside in
    makes_as s c.args.self.now _ _ c.self.view_is c.requires (λ serving.
    rw (c.note.ensures, c.in_ok-error.ensures.rows, c.entry_of-entry.ensures, c.in-Device.is) (device_fails s serving c.args.frame (rw (sym c.self.invariant.faults) (sym c.in_ok-error.ensures.error ∙ ap Some c.in-Device.is))))

pub returns-in_default : goal.returns-in_default
returns-in_default c =
    let s = held c.self.inside in
    let it = failing c.self.inside c.self.invariant c.args.frame c.in_ok-error.error c.in_ok-error.ensures.error c.in_default.not-Device in
    makes_as s c.args.self.now _ _ c.self.view_is c.requires (λ serving.
    rw (c.note_entry.ensures.client, c.note_entry.ensures.device, c.of-ending.ensures, c.in_ok-error.ensures.rows, c.entry_of-entry.ensures, it.rows) (fails s serving c.args.frame c.in_ok-error.error it.at it.of).made)
