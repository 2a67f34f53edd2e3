-- The number of a status, with which the program ends (our own choice, docs/FORMATS.md).
use Rattle.std.specs.Prelude.{ℕ}
use Rattle.call_parts.specs.declared.status.Status.{Status}
use Rattle.call_parts.specs.declared.status.Status.TheVariants.{Done, Refused, Usage, SourceFailed, SinkFailed, NoMemory}

abbrev pub status_number : Status → ℕ
status_number Done = 0
status_number Refused = 1
status_number Usage = 2
status_number SourceFailed = 3
status_number SinkFailed = 4
status_number NoMemory = 5
