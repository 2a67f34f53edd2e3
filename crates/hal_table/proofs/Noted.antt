-- The state after an event that is heard.
use Rattle.std.proofs.Common.{◌≡◌, ℕ, Bool, true, false, List, [], refl, sym}
use Rattle.std.proofs.lemmas.Bool.{false≢true}
use Rattle.hal_model.specs.declared.event.HalEvent.{HalEvent}
use Rattle.hal_model.specs.declared.event.HalEvent.TheVariants.{RequestBegin}
use Rattle.hal_model.specs.declared.event.HalTarget.{HalTarget}
use Rattle.hal_model.specs.Words.{begins_request}
use Rattle.hal_rows.specs.declared.row.Row.{Row}
use Rattle.hal_rows.specs.declared.order.Order.{Order}
use Rattle.hal_rows.specs.Row.{note_rows}
use Rattle.hal_rows.specs.declared.device.Device.{Device}
use Rattle.hal_rows.specs.Device.{device_of, note_device}
use Rattle.hal_rows.specs.Noting.{first_state, hal_state_after, rows_after}
use Rattle.hal_rows.specs.State.{HalState, brings, raised, settled}
use Rattle.hal_row.specs.declared.order.Tops.{Tops}
use Rattle.hal_row.specs.Settled.{IsTopped}
use Rattle.hal_row.specs.Raised.{top_in}
use std.Path.{fun_ext}

same-top : (k : ℕ) (e : HalEvent) (d : Device) (each : List Row) (old new : Tops) → IsTopped (settled k d.flush.out e each) old new → (λ order. raised (brings order) (settled k d.flush.out e each) (top_in old order)) ≡ top_in new
same-top k e d each old new topped = fun_ext (λ order. sym (topped order))

pub state_heard : (k : ℕ) (e : HalEvent) (d d' : Device) (each each' : List Row) (old new : Tops) → d' ≡ note_device e d → each' ≡ rows_after k e (record { device = d; rows = each; top = top_in old }) → IsTopped (settled k d.flush.out e each) old new → record { device = d'; rows = each'; top = top_in new } ≡ hal_state_after k e (record { device = d; rows = each; top = top_in old })
state_heard k e d d' each each' old new device rows topped = rw (device, rows, ← same-top k e d each old new topped) refl

pub begins-none : (e : HalEvent) → ((n : ℕ) (same : Bool) (ts : List HalTarget) (a b : Bool) → e ≡ RequestBegin n same ts a b → ⊥) → begins_request e ≡ false
begins-none (RequestBegin n same ts a b) h = absurd (h n same ts a b refl)
begins-none _ h = refl

pub rows_other : (k : ℕ) (e : HalEvent) (s : HalState) → begins_request e ≡ false → rows_after k e s ≡ note_rows k s.device.flush.out e s.rows
rows_other k (RequestBegin n same ts a b) s other = absurd (false≢true (sym other))
rows_other k _ s other = refl

-- before anything is known
pub first_read : (k : ℕ) (d : Device) (each : List Row) (tops : Tops) → d ≡ device_of [] → each ≡ [] → ((order : Order) → top_in tops order ≡ 0) → record { device = d; rows = each; top = top_in tops } ≡ first_state k
first_read k d each tops device rows none = rw (device, rows, fun_ext none) refl
