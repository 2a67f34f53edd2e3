use Rattle.std.specs.Prelude.{ℕ, ◌==◌, ◌&&◌, ◌||◌, Bool, true, false, not, List, [], ◌∷◌, Option, map, option_map, option_to_list}
use Rattle.std.specs.List.{list_all}
use Rattle.cam_types.specs.Four.{four_list}
use Rattle.cam_types.specs.declared.four.Four.{Four}
use Rattle.cam_types.specs.declared.number.DeviceFenceNo.{DeviceFenceNo}
use Rattle.trace_model.specs.declared.entry.Entry.{Entry}
use Rattle.trace_model.specs.declared.entry.Entry.TheVariants.{Early}
use Rattle.state_facts.specs.Row.{Row, Target}
use Rattle.judge_rows.specs.declared.row.OpenRow.{OpenRow}
use Rattle.judge_rows.specs.declared.target.OpenTarget.{OpenTarget}

-- What the table says of the open frames, as the rows that the state of a trace has (our own choice of tables).

abbrev pub given_of : Option DeviceFenceNo → List ℕ
given_of given = option_to_list (option_map (λ f. f.0) given)

abbrev pub as_target : OpenTarget → Target
as_target s = record {
  sent = s.sent;
  announced = s.announced;
  returned = s.returned;
  given = given_of s.given;
  settled = s.settled;
}

abbrev pub as_targets : Four OpenTarget → List Target
as_targets targets = map as_target (four_list targets)

abbrev pub row_of : OpenRow → Row
row_of r = record {
  number = r.frame.0;
  settings = r.settings;
  repeats = r.repeats;
  targets = as_targets r.targets;
  shutter = r.shutter;
  parts = r.parts;
  request_error = r.request_error;
  result_error = r.result_error;
  stopped = r.stopped;
}

abbrev pub rows_of : List OpenRow → List Row
rows_of rows = map row_of rows

-- ---- what the table asks of an entry (a buffer comes back early once at most)

abbrev pub is_none_given : List ℕ → Bool
is_none_given [] = true
is_none_given (_ ∷ _) = false

-- the entry doesn't give a device fence to a buffer of frame n that has one
abbrev pub is_free : Entry → ℕ → Target → Bool
is_free (Early m t _ _) n s = not ((m.0 == n) && (t.0 == s.sent.stream.0)) || is_none_given s.given
is_free _ n s = true

-- nor to a buffer of any row
abbrev pub are_free : Entry → List Row → Bool
are_free e rows = list_all (λ r. list_all (is_free e r.number) r.targets) rows
