use Rattle.std.proofs.Common.{◌≡◌, ◌+◌, ◌≤◌, ◌∷◌, map, take, length}
use Rattle.cam_types.specs.declared.script.Command.TheVariants.{Configure}
use Rattle.call_parts.specs.OwnScripts.{small_stream}
use Rattle.auto_call.specs.Output.{once}
use Rattle.auto_call.proofs.script.script_of.Given as goal

abbrev pub invariant-loop-shot : goal.invariant-loop-shot
invariant-loop-shot l = record {
  commands : l.commands ≡ Configure small_stream ∷ map once (take l.shot-index l.shots);
  count : length l.commands ≤ 1 + l.shot-index;
}
