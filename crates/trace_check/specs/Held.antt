use Rattle.std.specs.Prelude.{◌==◌, not, List, Option, Some, None, length, if◌then◌else◌}
use Rattle.cam_types.specs.declared.script.Script.{Script}
use Rattle.trace_model.specs.declared.entry.Entry.{Entry}
use Rattle.trace_model.specs.Client.{is_empty}
use Rattle.state_facts.specs.Homes.{all_home, all_signalled}
use Rattle.state_facts.specs.FrameReadings.{is_none_left}
use Rattle.state_facts.specs.States.{State, state}
use Rattle.judge_rows.specs.Judged.{Judged}
use Rattle.trace_model.specs.declared.verdict.MissingPart.{MissingPart}
use Rattle.trace_model.specs.declared.verdict.MissingPart.TheVariants.{Calls, Open, Queued, Pool, Signal as SignalPart}

-- What the judge in one pass holds of the entries that it has passed (our own choice).

-- the state that they leave, with room for a request of each command
abbrev pub held : Script → List Entry → Judged
held script past = record { state = state script past; room = length script.commands }

-- the first of the five parts of complete that the state lacks
abbrev pub missing_in : Script → State → Option MissingPart
missing_in script s =
    if not (s.client.calls == length script.commands) then Some Calls
    else (if not (is_none_left s.rows) then Some Open
    else (if not (is_empty s.queue.waiting) then Some Queued
    else (if not (all_home s.buffers) then Some Pool
    else (if not (all_signalled s.buffers) then Some SignalPart
    else None))))
