-- How a step is named among candidates: by the line that it adds to the trace, without what only its move decides. The
-- steps that add none are named `sensor`, `take` and `done`. (docs/FORMATS.md, Picks and candidates)
use Rattle.std.specs.Prelude.{ℕ, List, ◌∷◌, ◌++◌, codes, decimal}
use Rattle.cam_types.specs.declared.number.FrameNo.{FrameNo}
use Rattle.cam_types.specs.declared.number.StreamIx.{StreamIx}
use Rattle.run_model.specs.declared.step.StepName.{StepName}
use Rattle.run_model.specs.declared.step.StepName.TheVariants.{Send, Release, Signal, Client, DropQueued, Fail, ReturnFailed, Shutter, SensorDone, Partial, TakeFill, FillDone, Deliver, Early, Finish}

-- behind a front, a frame and a stream, with a space (32) between them
abbrev pub target_text : List ℕ → FrameNo → StreamIx → List ℕ
target_text front n s = (front ++ decimal n.0) ++ 32 ∷ decimal s.0

abbrev pub step_text : StepName → List ℕ
step_text Send = codes "send"
step_text (Release b) = codes "release b" ++ decimal b.0
step_text (Signal f) = codes "signal f" ++ decimal f.0
step_text Client = codes "client"
step_text DropQueued = codes "drop"
step_text (Fail n) = codes "error " ++ decimal n.0
step_text (ReturnFailed n s) = target_text (codes "buffer ") n s ++ codes " error"
step_text Shutter = codes "shutter"
step_text (SensorDone n) = codes "sensor " ++ decimal n.0
step_text (Partial n) = codes "partial " ++ decimal n.0
step_text (TakeFill n s) = target_text (codes "take ") n s
step_text (FillDone n s) = target_text (codes "done ") n s
step_text (Deliver n s) = target_text (codes "buffer ") n s ++ codes " ok"
step_text (Early n s) = target_text (codes "early ") n s
step_text (Finish n s) = target_text (codes "filled ") n s
