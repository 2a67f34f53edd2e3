use Rattle.std.proofs.Common.{◌≡◌, ◌+◌, ◌≤◌, count_by, take}
use Rattle.reprocess_model.specs.Plan.{is_flush, is_request}
use Rattle.reprocess_core.proofs.course.line_bound.Given as goal

abbrev pub invariant-loop-command : goal.invariant-loop-command
invariant-loop-command l = record {
  requests : l.requests ≡ count_by is_request (take l.command-index l.commands);
  flushes : l.flushes ≡ count_by is_flush (take l.command-index l.commands);
  few : l.requests + l.flushes ≤ l.command-index;
}
