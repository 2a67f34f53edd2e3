-- A camera as a turnstile keeps it: its script, its moves and its jobs that are out.
use Rattle.std.specs.Prelude.{List, reverse}
use Rattle.cam_types.specs.declared.job.JobView.{JobView}
use Rattle.cam_types.specs.declared.script.Script.{Script}
use Rattle.run_model.specs.declared.step.Move.{Move}
use Rattle.shared_camera.specs.declared.camera.Camera.{Camera}
use Rattle.shared_camera.specs.JobsOut.{jobs_out}

-- no turn changes the script
abbrev pub script_of : Camera → Script
script_of camera = camera.service.script

-- the moves, the oldest first
abbrev pub moves_of : Camera → List Move
moves_of camera = reverse camera.service.history

abbrev pub jobs_of : Camera → List JobView
jobs_of camera = jobs_out camera.service.script camera.service.history
