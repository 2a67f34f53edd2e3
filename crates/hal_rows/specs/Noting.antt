-- How an event is hal_state_after in the state.
use Rattle.std.specs.Prelude.{ℕ, Bool, ◌||◌, List, [], ◌∷◌, if◌then◌else◌}
use Rattle.hal_model.specs.declared.event.HalEvent.{HalEvent}
use Rattle.hal_model.specs.declared.event.HalEvent.TheVariants.{OpenOk, RequestBegin}
use Rattle.hal_model.specs.Words.{is_open_ok}
use Rattle.hal_rows.specs.Device.{note_device}
use Rattle.hal_rows.specs.Judged.{ends_again_at, excused_at, names_idle_at}
use Rattle.hal_rows.specs.declared.row.Row.{Row}
use Rattle.hal_rows.specs.Row.{fresh_row, note_rows, rows_but}
use Rattle.hal_rows.specs.State.{HalState, brings, hal_state, raised, settled}

-- a request that begins has a fresh row, in place of the one of its number
abbrev pub rows_after : ℕ → HalEvent → HalState → List Row
rows_after k (RequestBegin n same targets no_handle bad_settings) s =
    fresh_row k n s.device.begun targets same s.device.initialized s.device.dead
    (excused_at (RequestBegin n same targets no_handle bad_settings) s)
    ∷ rows_but n s.rows
rows_after k e s = note_rows k s.device.flush.out e s.rows

abbrev pub hal_state_after : ℕ → HalEvent → HalState → HalState
hal_state_after k e s = record {
  device = note_device e s.device;
  rows = rows_after k e s;
  top = λ order. raised (brings order) (settled k s.device.flush.out e s.rows) (s.top order);
}

-- an event that stands for nothing
abbrev pub is_stray_at : HalEvent → HalState → Bool
is_stray_at e s = names_idle_at e s || ends_again_at e s

-- before the first event; after an open that was ok, with which the past begins anew
abbrev pub first_state : ℕ → HalState
first_state k = hal_state k []

abbrev pub opened_state : ℕ → HalState
opened_state k = hal_state k (OpenOk ∷ [])

abbrev pub next_state : ℕ → HalEvent → HalState → HalState
next_state k e s = if is_open_ok e then opened_state k else (if is_stray_at e s then s else hal_state_after k e s)
