-- The state of a judge in one pass: the device, the rows of the live requests, and who was begun last of those that
-- brought something back.
use Rattle.std.specs.Prelude.{ℕ, Bool, ◌&&◌, ◌||◌, List, [], ◌∷◌, Option, Some, None, nat_lt, suc, if◌then◌else◌, ◌==◌}
use Rattle.std.specs.List.{list_any}
use Rattle.std.specs.Option.{option_map}
use Rattle.hal_model.specs.declared.event.HalEvent.{HalEvent}
use Rattle.hal_model.specs.declared.event.HalEvent.TheVariants.{RequestBegin, RequestOk, Results}
use Rattle.hal_model.specs.Words.{is_flushing}
use Rattle.hal_rows.specs.declared.device.Device.{Device}
use Rattle.hal_rows.specs.declared.order.Order.{Order}
use Rattle.hal_rows.specs.declared.order.Order.TheVariants.{Sound, Filled, Orderly, Other}
use Rattle.hal_rows.specs.Device.{above, device_of}
use Rattle.hal_rows.specs.declared.row.Row.{Row}
use Rattle.hal_rows.specs.Row.{is_row_in_call, note_row, row_for, rows}

-- ---- order: a later request that brought something back is live and in call, or its rank is below the top; of a
-- request that is in call nothing counts here, since it may still be refused

-- the row whose request, by this event, was accepted, or brought something back as an accepted one, or is begun anew
abbrev pub if_accepted : Option Row → Option Row
if_accepted (Some r) = if r.accepted then Some r else None
if_accepted None = None

abbrev pub settled : ℕ → Bool → HalEvent → List Row → Option Row
settled k flushing (RequestBegin n same targets no_handle bad_settings) each = row_for n each
settled k flushing (RequestOk n) each = option_map (note_row k flushing (RequestOk n)) (row_for n each)
settled k flushing (Results n j pack buffers input) each =
    if_accepted (option_map (note_row k flushing (Results n j pack buffers input)) (row_for n each))
settled k flushing _ each = None

-- one above the rank of the row, where it passes the test
abbrev pub raised : (Row → Bool) → Option Row → ℕ → ℕ
raised test (Some r) top = if test r then above r.rank top else top
raised test None top = top

-- one above the rank of the last-begun of those requests that pass the test
abbrev pub top : (Row → Bool) → ℕ → List HalEvent → ℕ
top test k [] = 0
top test k (e ∷ past) = raised test (settled k (is_flushing past) e (rows k past)) (top test k past)

-- what is asked of later requests: the last part of its metadata stands in order; of a stream a buffer is back ok, is
-- back as one that the strict order counts, is back as such a one that isn't ok
abbrev pub has_sound : Row → Bool
has_sound r = r.sound

abbrev pub has_filled : ℕ → Row → Bool
has_filled s r = list_any (λ t. (t.target.stream == s) && t.filled) r.targets

abbrev pub has_orderly : ℕ → Row → Bool
has_orderly s r = list_any (λ t. (t.target.stream == s) && t.orderly) r.targets

abbrev pub has_other : ℕ → Row → Bool
has_other s r = list_any (λ t. (t.target.stream == s) && t.other) r.targets

-- the row brought back what the order asks for
abbrev pub brings : Order → Row → Bool
brings Sound = has_sound
brings (Filled s) = has_filled s
brings (Orderly s) = has_orderly s
brings (Other s) = has_other s

-- ---- the state

pub record HalState : Type 0 where
  pub device : Device
  pub rows : List Row
  pub top : Order → ℕ

abbrev pub hal_state : ℕ → List HalEvent → HalState
hal_state k past = record { device = device_of past; rows = rows k past; top = λ order. top (brings order) k past }

-- a later request than the row's passes the test
abbrev pub is_later_in_call : (Row → Bool) → Row → Row → Bool
is_later_in_call test r q = is_row_in_call q && (nat_lt r.rank q.rank && test q)

abbrev pub is_later_by : (Row → Bool) → Row → ℕ → List Row → Bool
is_later_by test r top each = nat_lt (suc r.rank) top || list_any (is_later_in_call test r) each

abbrev pub later_at : Order → Row → HalState → Bool
later_at order r s = is_later_by (brings order) r (s.top order) s.rows
