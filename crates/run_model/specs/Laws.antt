use Rattle.std.specs.Prelude.{◌+◌, ◌*◌, ◌<◌, ◌≤◌, List, ◌∷◌, length}
use Rattle.cam_types.specs.declared.script.Script.{Script}
use Rattle.trace_model.specs.declared.entry.Entry.{Entry}
use Rattle.trace_model.specs.Legal.{IsLegal}
use Rattle.trace_laws.specs.Bounds.{frame_bound}
use Rattle.run_model.specs.declared.step.Move.{Move}
use Rattle.run_model.specs.Bounds.{move_bound}
use Rattle.run_model.specs.History.{trace_of}
use Rattle.run_model.specs.Run.{IsRun}

-- How long a run can be, whatever the order of its steps.

-- the trace of a run is legal
abbrev pub RunsLegally : Script → List Move → Type 0
RunsLegally script h = IsRun script h → IsLegal script (trace_of h)

-- a legal trace has at most 21 entries for each frame, two for each command, and two more
abbrev pub BoundsEntries : Script → List Entry → Type 0
BoundsEntries script past =
    IsLegal script past → length past ≤ 21 * frame_bound script + (2 * length script.commands + 2)

-- a run has at most 30 moves for each frame, two for each command, and two more
abbrev pub BoundsMovesByFrames : Script → List Move → Type 0
BoundsMovesByFrames script h = IsRun script h → length h ≤ 30 * frame_bound script + (2 * length script.commands + 2)

-- so it has at most so many as the script's bound
abbrev pub BoundsMoves : Script → List Move → Type 0
BoundsMoves script h = IsRun script h → length h ≤ move_bound script

-- so a service that took room for so many has room for each move of a run
abbrev pub LeavesRoom : Script → Move → List Move → Type 0
LeavesRoom script m h = IsRun script (m ∷ h) → length h < move_bound script
