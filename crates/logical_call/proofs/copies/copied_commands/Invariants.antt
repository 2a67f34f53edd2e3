-- The commands so far are copied.
use Rattle.std.proofs.Common.{◌≡◌, take}
use Rattle.logical_call.proofs.copies.copied_commands.Given as goal

abbrev pub invariant-loop-command : goal.invariant-loop-command
invariant-loop-command l = record {
  copied : l.copy ≡ take l.command-index l.commands;
}
