use Rattle.std.proofs.Common.{◌≡◌, ◌≤◌, count_by, take}
use Rattle.reprocess_model.specs.Plan.{is_request}
use Rattle.reprocess_core.proofs.device.request_count.Given as goal

abbrev pub invariant-loop-command : goal.invariant-loop-command
invariant-loop-command l = record {
  value : l.count ≡ count_by is_request (take l.command-index l.commands);
  few : l.count ≤ l.command-index;
}
