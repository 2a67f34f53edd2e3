use Rattle.std.proofs.Common.{◌≡◌, ◌≤◌, filter, take, vec_len}
use Rattle.std.specs.Prelude.{vec_capacity}
use Rattle.reprocess_model.specs.Run.{is_ready}
use Rattle.reprocess_core.proofs.candidates.collect_ready.Given as goal

abbrev pub invariant-loop-step : goal.invariant-loop-step
invariant-loop-step l = record {
  items : l.ready.items ≡ filter (is_ready l.course.plan l.course.past) (take l.step-index l.all);
  few : vec_len l.ready ≤ l.step-index;
  room : vec_capacity l.ready ≡ vec_capacity l.initial.ready;
}
