use Rattle.std.specs.Prelude.{List}
use Rattle.trace_model.specs.declared.entry.Entry.{Entry}
use Rattle.trace_model.specs.Calls.{is_closed}
use Rattle.trace_model.specs.Configuration.{is_configured}
use Rattle.trace_model.specs.Stopping.{has_failed}
use Rattle.hal_call.specs.declared.standing.Standing.{Standing}

-- What the hal log asks of the past of an entry: it says whether a command flushes the device.

abbrev pub standing_of : List Entry → Standing
standing_of past = record { closed = is_closed past; failed = has_failed past; configured = is_configured past }
