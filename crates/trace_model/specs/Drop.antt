use Rattle.std.specs.Prelude.{List, Option, Some, None, if◌then◌else◌}
use Rattle.cam_types.specs.declared.script.Script.{Script}
use Rattle.trace_model.specs.declared.entry.Entry.{Entry}
use Rattle.trace_model.specs.declared.entry.Entry.TheVariants.{Dropped}
use Rattle.trace_model.specs.Numbers.{next_number}
use Rattle.trace_model.specs.Queue.{queued, first_in}
use Rattle.cam_types.specs.declared.request.WaitingItem.{WaitingItem}
use Rattle.trace_model.specs.Stopping.{is_stopping}

abbrev pub drop_of : List Entry → Option WaitingItem → Option Entry
drop_of past (Some w) = Some (Dropped (record { 0 = next_number past }) w.request w.index)
drop_of past None = None

-- the drop that is due: while the service is stopping, the first of the queue, under the next number (our own choice)
abbrev pub drop_due : Script → List Entry → Option Entry
drop_due script past = if is_stopping past then drop_of past (first_in (queued script past)) else None
