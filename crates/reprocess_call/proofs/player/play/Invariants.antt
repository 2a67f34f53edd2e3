use Rattle.std.proofs.Common.{◌≡◌, ◌+◌, ◌-◌, true, length}
use Rattle.std.specs.Prelude.{if◌then◌else◌}
use Rattle.reprocess_model.specs.Laws.{line_bound}
use Rattle.reprocess_model.specs.Run.{IsPlayed, is_complete}
use Rattle.reprocess_call.proofs.player.play.Given as goal

abbrev pub invariant-loop-is_done : goal.invariant-loop-is_done
invariant-loop-is_done l = record {
  plan : l.device.plan ≡ l.initial.device.plan;
  played : IsPlayed l.device.plan l.device.past;
  done : l.is_done ≡ true → is_complete l.device.plan l.device.past ≡ true;
}

-- the lines that may come, and the end
abbrev pub decreases-loop-is_done : goal.decreases-loop-is_done
decreases-loop-is_done l = (line_bound l.device.plan - length l.device.past) + (if l.is_done then 0 else 1)
