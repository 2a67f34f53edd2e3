-- A played run from three facts: its trace, that it is legal, and that nothing is left to do.
use Rattle.std.proofs.Common.{◌≡◌, ◌+◌, ◌*◌, true, ◌&&◌, List, [], length, reverse}
use Rattle.std.proofs.lemmas.Bool.{and_parts}
use Rattle.cam_types.specs.declared.script.Script.{Script}
use Rattle.trace_model.specs.declared.entry.Entry.{Entry}
use Rattle.trace_model.specs.Complete.{is_all_called, is_all_signalled, is_queue_empty}
use Rattle.trace_model.specs.Legal.{IsLegal}
use Rattle.trace_model.specs.Open.{is_quiet}
use Rattle.trace_model.specs.Place.{all_in_pool}
use Rattle.run_model.specs.History.{trace_of}
use Rattle.worked_runs.specs.Runs.{Plays, is_finished, play}

pub plays : {script : Script} {trace : List Entry} → trace_of (play script (4 * length trace + 8) []) ≡ reverse trace → IsLegal script (reverse trace) → is_finished script (reverse trace) ≡ true → Plays script trace
plays {script} {trace} run legal finished =
    let past = reverse trace in
    let all = and_parts (is_all_called script past) (is_quiet past && (is_queue_empty script past && (all_in_pool past && is_all_signalled past))) finished in
    let open_frames = and_parts (is_quiet past) (is_queue_empty script past && (all_in_pool past && is_all_signalled past)) all.1 in
    let queue = and_parts (is_queue_empty script past) (all_in_pool past && is_all_signalled past) open_frames.1 in
    let pool = and_parts (all_in_pool past) (is_all_signalled past) queue.1 in
    record {
      run = run;
      complete = record {
        legal = legal;
        calls = all.0;
        open_frames = open_frames.0;
        queue = queue.0;
        pool = pool.0;
        signals = pool.1;
      };
    }
