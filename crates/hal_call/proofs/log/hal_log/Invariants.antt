-- The log so far, and what stands.
use Rattle.std.proofs.Common.{◌≡◌, reverse, take}
use Rattle.hal_model.specs.Hal.{whole_log}
use Rattle.hal_call.specs.Standing.{standing_of}
use Rattle.hal_call.proofs.log.hal_log.Given as goal

abbrev pub invariant-loop-entry : goal.invariant-loop-entry
invariant-loop-entry l = record {
  written : l.log ≡ reverse (whole_log l.script (reverse (take l.entry-index l.entries)));
  stands : l.standing ≡ standing_of (reverse (take l.entry-index l.entries));
}
