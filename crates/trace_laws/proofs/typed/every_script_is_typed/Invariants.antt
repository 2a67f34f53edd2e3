use Rattle.std.proofs.Common.{◌≡◌, true, take}
use Rattle.std.specs.List.{list_all}
use Rattle.trace_laws.specs.Typed.{command_typed}
use Rattle.trace_laws.proofs.typed.every_script_is_typed.Given as goal

abbrev pub invariant-loop-command : goal.invariant-loop-command
invariant-loop-command l = list_all command_typed (take l.command-index l.commands) ≡ true
