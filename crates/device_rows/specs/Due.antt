use Rattle.std.specs.Prelude.{Bool, true, false, ◌&&◌, ◌||◌, ◌==◌, not, Option, Some, None, is_some, if◌then◌else◌}
use Rattle.cam_types.specs.declared.four.Four.{Four}
use Rattle.cam_types.specs.declared.row.RowFaults.{RowFaults}
use Rattle.cam_types.specs.declared.row.RowView.{RowView}
use Rattle.cam_types.specs.declared.row.TargetView.{TargetView}
use Rattle.cam_types.specs.Rows.{awaits_metadata, is_returned}
use Rattle.cam_types.specs.declared.row.RowVerdict.{RowVerdict}
use Rattle.cam_types.specs.declared.row.RowVerdict.TheVariants.{Request, Parts, Nothing}

-- The errors that are due for an open frame (camera3.h, S6 and flush, points 2 and 3). A capture that failed whole has
-- ERROR_REQUEST and no other error. Of a capture of which something came, ERROR_RESULT names the metadata that won't
-- come and ERROR_BUFFER each buffer that won't be filled. A fault of the frame is the cause, or a stop: a flush, a
-- disconnect or a device failure that began after the frame was sent. That a stop takes all that hasn't come yet is our
-- own choice: the header lets a device finish what it can.

-- the client still waits for word of the buffer: it isn't back, and its error isn't announced
abbrev pub is_awaited : TargetView → Bool
is_awaited target = not target.announced && not (is_returned target.state)

abbrev pub is_awaited_at : Option TargetView → Bool
is_awaited_at None = false
is_awaited_at (Some target) = is_awaited target

-- there is no target, or the client still waits for its buffer
abbrev pub is_untouched : Option TargetView → Bool
is_untouched None = true
is_untouched (Some target) = is_awaited target

-- nothing of the frame came: no metadata, no buffer, no error
abbrev pub is_bare : RowView → Bool
is_bare row =
    ((row.parts == 0) && (not row.request_error && not row.result_error))
    && (is_untouched row.targets.a
    && (is_untouched row.targets.b && (is_untouched row.targets.c && is_untouched row.targets.d)))

-- the capture fails whole: nothing of it came, and a stop takes it, or a fault of the request once it is exposed
abbrev pub fails_whole : RowView → RowFaults → Bool
fails_whole row faults = is_bare row && (row.stopped || (faults.request && is_some row.shutter))

-- what is missing of it is named one by one: it was exposed, and it isn't one that fails whole
abbrev pub fails_in_part : RowView → RowFaults → Bool
fails_in_part row faults = (is_some row.shutter && not row.request_error) && (not faults.request || row.stopped)

-- a stop takes what is left of a frame of which something came
abbrev pub is_cut_short : RowView → Bool
is_cut_short row = row.stopped && not (is_bare row)

-- metadata is missing, and won't come
abbrev pub misses_metadata : RowView → RowFaults → Bool
misses_metadata row faults = awaits_metadata row && (faults.result || is_cut_short row)

-- the buffer of a target is missing, and won't be filled; where no fault is given for the target it has none
abbrev pub misses_buffer : Bool → Option Bool → TargetView → Bool
misses_buffer cut (Some fault) target = is_awaited target && (fault || cut)
misses_buffer cut None target = is_awaited target && cut

-- the same for the target at one place, if there is one
abbrev pub misses_at : Bool → Option Bool → Option TargetView → Option Bool
misses_at cut fault None = None
misses_at cut fault (Some target) = Some (misses_buffer cut fault target)

-- the same for each target, in the order of the row's
abbrev pub missing_buffers : RowView → RowFaults → Four Bool
missing_buffers row faults = record {
  a = misses_at (is_cut_short row) faults.buffers.a row.targets.a;
  b = misses_at (is_cut_short row) faults.buffers.b row.targets.b;
  c = misses_at (is_cut_short row) faults.buffers.c row.targets.c;
  d = misses_at (is_cut_short row) faults.buffers.d row.targets.d;
}

abbrev pub is_true_at : Option Bool → Bool
is_true_at None = false
is_true_at (Some b) = b

-- one of the four is true
abbrev pub is_some_true : Four Bool → Bool
is_some_true four = is_true_at four.a || (is_true_at four.b || (is_true_at four.c || is_true_at four.d))

-- the errors that are due
abbrev pub verdict_of : RowView → RowFaults → RowVerdict
verdict_of row faults =
    if fails_whole row faults then Request else
    (if fails_in_part row faults && (misses_metadata row faults || is_some_true (missing_buffers row faults))
    then Parts (misses_metadata row faults) (missing_buffers row faults) else Nothing)

-- a fault of the frame is given: of the request, of its metadata or of a buffer
abbrev pub has_fault : RowFaults → Bool
has_fault faults = faults.request || (faults.result || is_some_true faults.buffers)

-- all is said of the frame: it failed whole, or its metadata ended and the client waits for word of no buffer
abbrev pub is_all_said : RowView → Bool
is_all_said row =
    row.request_error
    || (not (awaits_metadata row)
    && not (is_awaited_at row.targets.a
    || (is_awaited_at row.targets.b || (is_awaited_at row.targets.c || is_awaited_at row.targets.d))))
