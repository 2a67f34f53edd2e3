-- A run is complete exactly where the parts say that it is over.
use Rattle.std.proofs.Common.{◌≡◌, ◌↔◌, ◌==◌, true, ◌&&◌, List, sym, ◌∙◌, length, IsTrue}
use Rattle.std.proofs.lemmas.Bool.{and_from, and_parts}
use Rattle.cam_types.specs.declared.script.Script.{Script}
use Rattle.trace_model.specs.Client.{is_empty}
use Rattle.trace_model.specs.Complete.{IsComplete}
use Rattle.run_model.specs.declared.step.Move.{Move}
use Rattle.run_model.specs.History.{trace_of}
use Rattle.run_model.specs.Run.{IsRun}
use Rattle.run_model.proofs.Legal.{runs_legally}
use Rattle.state_facts.specs.Homes.{all_home, all_signalled}
use Rattle.state_facts.proofs.BufferReadings.{all_signalled_is, pool_is}
use Rattle.run_rows.specs.Kept.{is_no_row}
use Rattle.run_rows.proofs.Counted.{quiet_is}
use Rattle.service_parts.specs.After.{is_over}
use Rattle.service_parts.specs.Parts.{parts}

over-from : (script : Script) (h : List Move) → IsRun script h → IsComplete script (trace_of h) → is_over script (parts script h) ≡ true
over-from script h run complete =
    let past = trace_of h in
    let p = parts script h in
    let legal = runs_legally script h run in
    let quiet : is_no_row p.rows ≡ true = sym (quiet_is script h) ∙ complete.open_frames in
    let home : all_home p.buffers ≡ true = sym (pool_is script past legal) ∙ complete.pool in
    let signalled : all_signalled p.buffers ≡ true = sym (all_signalled_is script past legal) ∙ complete.signals in
    and_from (p.client.calls == length script.commands) _ complete.calls
    (and_from (is_no_row p.rows && is_empty p.queue.waiting) (all_home p.buffers && all_signalled p.buffers)
    (and_from (is_no_row p.rows) (is_empty p.queue.waiting) quiet complete.queue) (and_from (all_home p.buffers) (all_signalled p.buffers) home signalled))

complete-from : (script : Script) (h : List Move) → IsRun script h → is_over script (parts script h) ≡ true → IsComplete script (trace_of h)
complete-from script h run over =
    let past = trace_of h in
    let p = parts script h in
    let legal = runs_legally script h run in
    let idle = is_no_row p.rows && is_empty p.queue.waiting in
    let back = all_home p.buffers && all_signalled p.buffers in
    let a = and_parts (p.client.calls == length script.commands) (idle && back) over in
    let b = and_parts idle back a.1 in
    let c = and_parts (is_no_row p.rows) (is_empty p.queue.waiting) b.0 in
    let d = and_parts (all_home p.buffers) (all_signalled p.buffers) b.1 in
    record {
      legal = legal;
      calls = a.0;
      open_frames = quiet_is script h ∙ c.0;
      queue = c.1;
      pool = pool_is script past legal ∙ d.0;
      signals = all_signalled_is script past legal ∙ d.1;
    }

pub complete_read : (script : Script) (h : List Move) → IsRun script h → (IsComplete script (trace_of h) ↔ IsTrue (is_over script (parts script h)))
complete_read script h run = (over-from script h run, complete-from script h run)
