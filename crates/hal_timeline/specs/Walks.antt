-- The calls that are out (our own choice of what is shown).
use Rattle.std.specs.Prelude.{ℕ, Bool, ◌||◌, List, [], ◌∷◌, Option, Some, None, length, is_some}
use Rattle.hal_model.specs.declared.event.HalEvent.{HalEvent}
use Rattle.hal_model.specs.declared.event.HalEvent.TheVariants.{OpenBegin, OpenOk, OpenError, InitBegin, InitOk, InitError, TemplateBegin, TemplateOk, TemplateNull, ConfigureBegin, ConfigureOk, ConfigureError, RequestBegin, RequestOk, RequestError, FlushBegin, FlushOk, FlushError, CloseBegin, CloseEnd}
use Rattle.timeline_model.specs.declared.look.HalCall.{HalCall}
use Rattle.timeline_model.specs.declared.look.HalCall.TheVariants.{Open, Init, Template, Configure, Flush, Close}
use Rattle.hal_timeline.specs.declared.calls.Asked.{Asked}
use Rattle.hal_timeline.specs.declared.calls.Calls.{Calls}
use Rattle.hal_timeline.specs.declared.walk.Walk.{Walk}
use Rattle.hal_timeline.specs.Rows.{Seating, rows, seating_of}

-- the call that an event begins, and that which it ends
abbrev pub begun_by : HalEvent → Option HalCall
begun_by OpenBegin = Some Open
begun_by InitBegin = Some Init
begun_by (TemplateBegin _) = Some Template
begun_by (ConfigureBegin _ _) = Some Configure
begun_by FlushBegin = Some Flush
begun_by CloseBegin = Some Close
begun_by _ = None

abbrev pub ended_by : HalEvent → Option HalCall
ended_by OpenOk = Some Open
ended_by (OpenError _) = Some Open
ended_by InitOk = Some Init
ended_by (InitError _) = Some Init
ended_by (TemplateOk _) = Some Template
ended_by (TemplateNull _) = Some Template
ended_by (ConfigureOk _) = Some Configure
ended_by (ConfigureError _) = Some Configure
ended_by FlushOk = Some Flush
ended_by (FlushError _) = Some Flush
ended_by CloseEnd = Some Close
ended_by _ = None

-- where the call of the kind began that is out
abbrev pub begun_at : HalCall → Calls → Option ℕ
begun_at Open c = c.opening
begun_at Init c = c.initializing
begun_at Template c = c.templating
begun_at Configure c = c.configuring
begun_at Flush c = c.flushing
begun_at Close c = c.closing

abbrev pub with_place : HalCall → Option ℕ → Calls → Calls
with_place Open place c = record c { opening = place }
with_place Init place c = record c { initializing = place }
with_place Template place c = record c { templating = place }
with_place Configure place c = record c { configuring = place }
with_place Flush place c = record c { flushing = place }
with_place Close place c = record c { closing = place }

abbrev pub with_call : Option HalCall → Option ℕ → Calls → Calls
with_call (Some call) place c = with_place call place c
with_call None place c = c

abbrev pub calls_after : HalEvent → ℕ → Calls → Calls
calls_after e place c = with_call (ended_by e) None (with_call (begun_by e) (Some place) c)

abbrev pub no_calls : Calls
no_calls = record {
  opening = None;
  initializing = None;
  templating = None;
  configuring = None;
  flushing = None;
  closing = None;
}

-- the begins of calls that have no end yet, of each kind the last
abbrev pub calls : List HalEvent → Calls
calls [] = no_calls
calls (e ∷ past) = calls_after e (length past) (calls past)

abbrev pub asked_after : HalEvent → ℕ → Option Asked → Option Asked
asked_after (RequestBegin n _ _ _ _) place asked = Some (record { frame = n; place = place })
asked_after (RequestOk _) place asked = None
asked_after (RequestError _ _) place asked = None
asked_after _ place asked = asked

-- the last begin of a request, where no request ended since
abbrev pub asked : List HalEvent → Option Asked
asked [] = None
asked (e ∷ past) = asked_after e (length past) (asked past)

-- all that stands after a log
pub record Standing : Type 0 where
  pub rows : Seating
  pub calls : Calls
  pub asked : Option Asked

abbrev pub standing : List HalEvent → Standing
standing log = record { rows = rows log; calls = calls log; asked = asked log }

-- as the code has it
abbrev pub standing_of : Walk → Standing
standing_of w = record { rows = seating_of w.rows; calls = w.calls; asked = w.asked }

-- a flush or a close is under way
abbrev pub is_stopping : Calls → Bool
is_stopping c = is_some c.flushing || is_some c.closing
