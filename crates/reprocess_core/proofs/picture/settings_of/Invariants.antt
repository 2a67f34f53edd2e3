use Rattle.std.proofs.Common.{◌≡◌, ◌<◌, drop, length, slice_get}
use Rattle.reprocess_model.specs.Plan.{requests}
use Rattle.reprocess_core.proofs.picture.settings_of.Given as goal

abbrev pub invariant-loop-command : goal.invariant-loop-command
invariant-loop-command l = record {
  same : slice_get (requests (drop l.command-index l.commands)) l.left ≡ slice_get (requests l.commands) l.fn.frame.0;
  within : l.left < length (requests (drop l.command-index l.commands));
}
