use Rattle.std.proofs.Common.{arith}
use Rattle.arbiter_call.proofs.LogTexts.{summed}
use Rattle.arbiter_call.proofs.sessions.tell_session.Goals as goal
use Rattle.call_parts.specs.Status.{status_number}

pub returns-then-eq : goal.returns-then-eq
returns-then-eq g =
    rw (← g.in_ok-prepared.ensures) (summed g.in_ok-prepared.prepared (status_number g.play_prepared-status.result) g.args.text.now.text.items g.play_prepared-status.new.sink.text.items g.args.text.now.faults g.play_prepared-status.new.sink.faults (g.a_complete_run_keeps_the_laws.ensures g.in_ok-prepared.prepared) (grind arith) g.play_prepared-status.ensures)
