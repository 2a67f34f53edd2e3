use Rattle.trace_laws.specs.Settled.{gives, settles}
use Rattle.trace_laws.specs.Times.{partials_after, note_time}
use Rattle.std.specs.Prelude.{◌≡◌, ℕ, Bool, false, ◌&&◌, ◌||◌, not, List, [], ◌∷◌, ◌++◌, Option, None, filter, map, nat_le}
use Rattle.std.specs.List.{list_all}
use Rattle.cam_types.specs.Four.{four_list}
use Rattle.cam_types.specs.declared.four.Four.{Four}
use Rattle.cam_types.specs.declared.item.Settings.{Settings}
use Rattle.cam_types.specs.declared.number.FrameNo.{FrameNo}
use Rattle.cam_types.specs.declared.script.Script.{Script}
use Rattle.trace_model.specs.declared.entry.Entry.{Entry}
use Rattle.trace_model.specs.declared.entry.Entry.TheVariants.{Send}
use Rattle.trace_model.specs.declared.entry.Sent.{Sent}
use Rattle.trace_model.specs.Calls.{item_at}
use Rattle.trace_model.specs.Entry.{is_error_buffer, is_error_request, is_error_result, is_stop, returns_target}
use Rattle.trace_model.specs.Frames.{has_error_request, is_repeating_frame, settings_in, settings_of, shutter_time, targets_of}
use Rattle.trace_model.specs.Legal.{IsLegal}
use Rattle.trace_model.specs.Open.{early_fences, has_error_buffer, has_error_result, is_returned, is_settled}
use Rattle.trace_model.specs.Partial.{partial_count}
use Rattle.trace_model.specs.Stopping.{is_stopped}
use Rattle.state_facts.specs.Clients.{repeats}

-- What is kept of an open frame: how it was sent, and how far it is.

-- a buffer that a frame was sent with: whether its error is announced, whether it came back, the device fences with
-- which it came back early (one at most), and whether the device is done with it
pub record Target : Type 0 where
  pub sent : Sent
  pub announced : Bool
  pub returned : Bool
  pub given : List ℕ
  pub settled : Bool

-- an open frame: its number, its settings and whether its request repeats, its buffers, the time of its shutter and how
-- many parts it has, whether its request and its result failed, and whether it was sent when the device stopped
pub record Row : Type 0 where
  pub number : ℕ
  pub settings : Settings
  pub repeats : Bool
  pub targets : List Target
  pub shutter : Option ℕ
  pub parts : ℕ
  pub request_error : Bool
  pub result_error : Bool
  pub stopped : Bool

-- ---- by the definitions

abbrev pub target_at : ℕ → List Entry → Sent → Target
target_at n past t = record {
  sent = t;
  announced = has_error_buffer n t.stream.0 past;
  returned = is_returned n t.stream.0 past;
  given = early_fences n t.stream.0 past;
  settled = is_settled n t.stream.0 past;
}

abbrev pub row_of : Script → List Entry → ℕ → Row
row_of script past n = record {
  number = n;
  settings = settings_of script past n;
  repeats = is_repeating_frame script past n;
  targets = map (target_at n past) (targets_of n past);
  shutter = shutter_time n past;
  parts = partial_count n past;
  request_error = has_error_request n past;
  result_error = has_error_result n past;
  stopped = is_stopped n past;
}

abbrev pub is_ended : Row → Bool
is_ended r = nat_le 3 r.parts || (r.result_error || r.request_error)

abbrev pub is_back : Row → Bool
is_back r = list_all (λ t. t.settled) r.targets

abbrev pub is_open_row : Row → Bool
is_open_row r = not (is_ended r && is_back r)

-- the numbers of the frames that were sent, the oldest first
abbrev pub in_order : List Entry → List ℕ
in_order [] = []
in_order (Send n _ _ _ _ ∷ past) = in_order past ++ n.0 ∷ []
in_order (_ ∷ past) = in_order past

-- the rows of the open frames, the oldest first
abbrev pub open_rows : Script → List Entry → List Row
open_rows script past = filter is_open_row (map (row_of script past) (in_order past))

-- ---- entry by entry

abbrev pub target_after : ℕ → Entry → Target → Target
target_after n e t = record {
  sent = t.sent;
  announced = is_error_buffer n t.sent.stream.0 e || t.announced;
  returned = returns_target n t.sent.stream.0 e || t.returned;
  given = gives n t.sent.stream.0 e t.given;
  settled = settles n t.sent.stream.0 e t.given || t.settled;
}

-- what an entry does to a row, field by field
abbrev pub row_after : Entry → Row → Row
row_after e r = record {
  number = r.number;
  settings = r.settings;
  repeats = r.repeats;
  targets = map (target_after r.number e) r.targets;
  shutter = note_time e r.number r.shutter;
  parts = partials_after e r.number r.parts;
  request_error = is_error_request r.number e || r.request_error;
  result_error = is_error_result r.number e || r.result_error;
  stopped = is_stop e || r.stopped;
}

abbrev pub fresh_target : Sent → Target
fresh_target t = record { sent = t; announced = false; returned = false; given = []; settled = false }

-- the row of a frame that is sent now
abbrev pub sent_row : FrameNo → Settings → Bool → Four Sent → Row
sent_row n settings repeats targets = record {
  number = n.0;
  settings = settings;
  repeats = repeats;
  targets = map fresh_target (four_list targets);
  shutter = None;
  parts = 0;
  request_error = false;
  result_error = false;
  stopped = false;
}

-- the row that an entry begins; the item's settings and whether it repeats are what the queue says
abbrev pub new_rows : Settings → Bool → Entry → List Row
new_rows settings repeats (Send n r i same targets) = sent_row n settings repeats targets ∷ []
new_rows settings repeats _ = []

-- the rows after an entry
abbrev pub rows_after : Settings → Bool → Entry → List Row → List Row
rows_after settings repeats e rows = filter is_open_row (map (row_after e) rows) ++ new_rows settings repeats e

-- the settings of the item that an entry sends, as the past says of the request and place that it names
abbrev pub sent_settings : Script → List Entry → Entry → Settings
sent_settings script past (Send _ r i _ _) = settings_in (item_at script past r.0 i)
sent_settings script past _ = settings_in None

-- the law: the rows follow the entries
abbrev pub RowsFollow : Script → List Entry → Entry → Type 0
RowsFollow script past e =
    IsLegal script (e ∷ past) →
    open_rows script (e ∷ past) ≡
    rows_after (sent_settings script past e) (repeats script past e) e (open_rows script past)
