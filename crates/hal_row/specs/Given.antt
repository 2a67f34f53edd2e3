-- What a result does to its own row's targets and parts, and an error of a buffer to its notices.
use Rattle.std.specs.Prelude.{ℕ, ◌==◌, Bool, true, false, ◌&&◌, ◌||◌, List, [], Option, Some, None, if◌then◌else◌}
use Rattle.std.specs.List.{list_any}
use Rattle.hal_model.specs.declared.event.HalEvent.{HalEvent}
use Rattle.hal_model.specs.declared.event.HalEvent.TheVariants.{ErrorBuffer, Results}
use Rattle.hal_model.specs.declared.event.Pack.{Pack}
use Rattle.hal_model.specs.declared.event.Pack.TheVariants.{Entries}
use Rattle.hal_model.specs.declared.event.Returned.{Returned}
use Rattle.hal_model.specs.Callbacks.{is_not_filled}
use Rattle.hal_model.specs.Words.{is_any, is_failed_buffer, is_filled, is_good, is_number}
use Rattle.hal_rows.specs.declared.row.PartRow.{PartRow}
use Rattle.hal_rows.specs.declared.row.TargetRow.{TargetRow}
use Rattle.hal_rows.specs.Row.{is_orderly_in}

-- the buffers that the event gives back for frame n
abbrev pub buffers_of : ℕ → HalEvent → List Returned
buffers_of n (Results m _ _ buffers _) = if m == n then buffers else []
buffers_of n _ = []

abbrev pub is_entries : Pack → Bool
is_entries Entries = true
is_entries _ = false

-- the number of the part that it brings of frame n's metadata
abbrev pub part_in : ℕ → HalEvent → Option ℕ
part_in n (Results m j pack _ _) = if (m == n) && is_entries pack then Some j else None
part_in n _ = None

-- the stream that it names as one of whose buffer of frame n is in error
abbrev pub notice_in : ℕ → HalEvent → Option ℕ
notice_in n (ErrorBuffer m s) = if m == n then s else None
notice_in n _ = None

-- a buffer with the number is among those that pass the test
abbrev pub is_given : (Returned → Bool) → ℕ → List Returned → Bool
is_given test b buffers = list_any (λ r. test r && is_number b r.buffer) buffers

abbrev pub with_buffers : List Returned → Bool → TargetRow → TargetRow
with_buffers buffers flushing t = record {
  target = t.target;
  back = is_given is_any t.target.buffer buffers || t.back;
  filled = is_given is_filled t.target.buffer buffers || t.filled;
  good = is_given is_good t.target.buffer buffers || t.good;
  broken = is_given is_failed_buffer t.target.buffer buffers || t.broken;
  orderly = is_given (λ r. is_any r && is_orderly_in flushing r) t.target.buffer buffers || t.orderly;
  other = is_given (λ r. is_not_filled r && is_orderly_in flushing r) t.target.buffer buffers || t.other;
}

abbrev pub with_part : ℕ → PartRow → PartRow
with_part j p = record { number = p.number; seen = (j == p.number) || p.seen }
