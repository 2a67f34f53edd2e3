use Rattle.std.proofs.Common.{arith}
use Rattle.call_parts.proofs.Sinks.{told}
use Rattle.play_calls.specs.Says.{SaysOfSeed}
use Rattle.play_calls.proofs.Telling.{whole_run}
use Rattle.call_parts.specs.Status.{status_number}
use Rattle.call_parts.specs.declared.output.Output.TheVariants.{Summary}
use Rattle.play_calls.proofs.player.gen_call.Goals as goal

pub returns-in-Ok-clause-whole : goal.returns-in-Ok-clause-whole
returns-in-Ok-clause-whole g c done =
    rw (← c.in-Ok.ensures) (whole_run Summary c.in-Ok.script (status_number c.play_script.result) (g.K.Sink.state c.args.sink.now) (g.K.Sink.state c.play_script.new.sink) (c.a_complete_run_keeps_the_laws.ensures c.in-Ok.script) done c.play_script.ensures)

pub returns-in-Ok-clause-sink : goal.returns-in-Ok-clause-sink
returns-in-Ok-clause-sink g c =
    told (SaysOfSeed c.args.seed c.args.count) (status_number c.play_script.result) (g.K.Sink.state c.args.sink.now) (g.K.Sink.state c.play_script.new.sink) (λ wanted text h. omega (arith, h.0)) (rw c.in-Ok.ensures at c.play_script.ensures)
