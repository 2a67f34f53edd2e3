-- What stands of a plan after some of its lines.
use Rattle.std.specs.Prelude.{ℕ, Bool, ◌&&◌, ◌||◌, List, Option, Some, None, is_none}
use Rattle.cam_types.specs.declared.four.Four.{Four}
use Rattle.cam_types.specs.declared.number.FrameNo.{FrameNo}
use Rattle.cam_types.specs.declared.stream.StreamSpec.{StreamSpec}
use Rattle.reprocess_model.specs.Plan.{are_outputs, is_yuv}
use Rattle.reprocess_model.specs.declared.plan.ReCommand.{ReCommand}

pub record Begun : Type 0 where
  pub input : Option StreamSpec
  pub outputs : Four StreamSpec
  pub faults : List FrameNo
  pub picks : List ℕ
  pub commands : List ReCommand

abbrev pub begun : Option StreamSpec → Four StreamSpec → List FrameNo → List ℕ → List ReCommand → Begun
begun input outputs faults picks commands =
    record { input = input; outputs = outputs; faults = faults; picks = picks; commands = commands }

-- no output stands yet, or one to three, no larger than the input
abbrev pub no_outputs : Four StreamSpec → Bool
no_outputs outputs = is_none outputs.a && (is_none outputs.b && (is_none outputs.c && is_none outputs.d))

abbrev pub outputs_fit : Option StreamSpec → Four StreamSpec → Bool
outputs_fit (Some input) outputs = is_yuv input && (no_outputs outputs || are_outputs input outputs)
outputs_fit None outputs = no_outputs outputs
